-- The parts of lines are what their groups report.
use Rattle.std.proofs.Common.{◌≡◌, ℕ, ◌+◌, List, [], ◌∷◌, ◌++◌, length, Bool, true, false, cond, Option, refl, ap, ap₂, ◌∙◌, append_assoc, append-nil, arith}
use Rattle.gabc_headers.specs.Lines.{is_bare, has_mark, before_mark, mark_end, has_colon, before_colon, after_colon, lines_len}
use Rattle.gabc_headers.specs.Parts.{left_out, unended, name_of, bad_name_parts, ended_parts}
use Rattle.gabc_headers.specs.witness.Parts.{outside, within, parts}
use Rattle.gabc_headers.specs.Groups.{Group, skipped, colonless, valued, unfinished, EndAtMark, HaveNoMark, BeginsHeader, EndsValue, AreGroups, value_below, mark_below, parts_of_group, parts_of_groups}

-- the lines of a value that ends
value_parts : (j : ℕ) (name : Option (List ℕ)) (v : List ℕ) (k n : ℕ) (b rest : List (List ℕ)) → EndAtMark b
    → parts (within j name v) k n (b ++ rest) ≡ ended_parts j name (v ++ value_below b) (mark_below n b) ++ parts outside (k + length b) (n + lines_len b) rest
value_parts j name v k n [] rest h = absurd h
value_parts j name v k n (l ∷ []) rest h = grind arith
value_parts j name v k n (l ∷ m ∷ b) rest h =
    let here : parts (within j name v) k n (l ∷ (m ∷ b ++ rest)) ≡ parts (within j name (v ++ 10 ∷ l)) (k + 1) (n + (length l + 1)) (m ∷ b ++ rest)
    = ap (λ (x : Bool). cond x (ended_parts j name (v ++ 10 ∷ before_mark 2 l) (n + mark_end 2 l)) [] ++ parts (cond x outside (within j name (v ++ 10 ∷ l))) (k + 1) (n + (length l + 1)) (m ∷ b ++ rest)) h.0 in
    here ∙ (value_parts j name (v ++ 10 ∷ l) (k + 1) (n + (length l + 1)) (m ∷ b) rest h.1
    ∙ (ap (λ (x : List ℕ). ended_parts j name x (mark_below (n + (length l + 1)) (m ∷ b)) ++ parts outside ((k + 1) + length (m ∷ b)) ((n + (length l + 1)) + lines_len (m ∷ b)) rest) (append_assoc v (10 ∷ l) (value_below (m ∷ b)))
    ∙ ap₂ (λ (x y : ℕ). ended_parts j name (v ++ (10 ∷ l ++ value_below (m ∷ b))) (mark_below (n + (length l + 1)) (m ∷ b)) ++ parts outside x y rest) (omega arith) (omega arith)))

-- the lines of a value that does not end
open_parts : (j : ℕ) (name : Option (List ℕ)) (v : List ℕ) (k n : ℕ) (b : List (List ℕ)) → HaveNoMark b → parts (within j name v) k n b ≡ unended j ∷ []
open_parts j name v k n [] h = refl
open_parts j name v k n (l ∷ b) h = grind (arith, open_parts j name (v ++ 10 ∷ l) (k + 1) (n + (length l + 1)) b h.1)

-- a header's first line, by whether it has a mark
header_parts : (l : List ℕ) (k n : ℕ) (ls : List (List ℕ)) → BeginsHeader l → (t : Bool) → has_mark 1 (after_colon l) ≡ t
    → parts outside k n (l ∷ ls) ≡ (bad_name_parts k (name_of l) (n + length (before_colon l))
    ++ cond t (ended_parts k (name_of l) (before_mark 1 (after_colon l)) (n + (length (before_colon l) + (1 + mark_end 1 (after_colon l))))) [])
    ++ parts (cond t outside (within k (name_of l) (after_colon l))) (k + 1) (n + (length l + 1)) ls
header_parts l k n ls g t e = rw (g.seen, g.colon, e) refl

valued_parts : (l : List ℕ) (b : List (List ℕ)) (k n : ℕ) (rest : List (List ℕ)) → BeginsHeader l → EndsValue l b
    → parts outside k n (l ∷ (b ++ rest)) ≡ parts_of_group k n (valued l b) ++ parts outside (k + length (l ∷ b)) (n + lines_len (l ∷ b)) rest
valued_parts l b k n rest g e = grind (arith, header_parts, append-nil, value_parts, append_assoc)

unfinished_parts : (l : List ℕ) (b : List (List ℕ)) (k n : ℕ) → BeginsHeader l → has_mark 1 (after_colon l) ≡ false → HaveNoMark b
    → parts outside k n (l ∷ b) ≡ parts_of_group k n (unfinished l b)
unfinished_parts l b k n g e h = grind (arith, header_parts, append-nil, open_parts)

pub skipped_parts : (l : List ℕ) (k n : ℕ) (rest : List (List ℕ)) → is_bare l ≡ true → parts outside k n (l ∷ rest) ≡ parts outside (k + 1) (n + (length l + 1)) rest
skipped_parts l k n rest e = rw e refl

pub colonless_parts : (l : List ℕ) (k n : ℕ) (rest : List (List ℕ)) → is_bare l ≡ false → has_colon l ≡ false
    → parts outside k n (l ∷ rest) ≡ left_out k (n + length l) ∷ parts outside (k + 1) (n + (length l + 1)) rest
colonless_parts l k n rest e c = rw (e, c) refl

one_line : (n : ℕ) (l : List ℕ) → n + (length l + 1) ≡ n + lines_len (l ∷ [])
one_line n l = omega arith

pub groups_tell : (gs : List Group) (k n : ℕ) (ls : List (List ℕ)) → AreGroups ls gs → parts outside k n ls ≡ parts_of_groups k n gs
groups_tell [] k n ls h = ap (parts outside k n) h
groups_tell (unfinished l b ∷ gs) k n ls h = grind (arith, unfinished_parts, append-nil)
groups_tell (skipped l ∷ gs) k n ls h = grind (arith, groups_tell gs (k + 1) (n + (length l + 1)) h.1.0 h.1.2, skipped_parts, one_line)
groups_tell (colonless l ∷ gs) k n ls h = grind (arith, groups_tell gs (k + 1) (n + (length l + 1)) h.1.0 h.1.2, colonless_parts, one_line)
groups_tell (valued l b ∷ gs) k n ls h = grind (arith, groups_tell gs (k + length (l ∷ b)) (n + lines_len (l ∷ b)) h.1.0 h.1.2, valued_parts)
