-- The canonical header lines of a plain text's book are plain.
use Rattle.std.proofs.Common.{◌≡◌, ℕ, ◌+◌, List, [], ◌∷◌, ◌++◌, Bool, true, ◌&&◌, ◌||◌, not, cond, ◌==◌, length, refl, Option, Some, None, Ok, codes, arith}
use Rattle.std.proofs.lemmas.Bool.{and_parts, and_from}
use Rattle.std.specs.List.{list_all}
use Rattle.gabc_places.specs.declared.limits.Limits.{Limits}
use Rattle.gabc_headers.specs.declared.heads.Heads.{Heads}
use Rattle.gabc_headers.specs.Lines.{on_first, lines, is_blank, is_bare, is_mark, has_mark, before_mark, mark_end, has_colon, before_colon, after_colon, trim_start, unless_last, trim_end, trim_name, is_blank_or_lf, ends_no_value, trim_value, is_score_line, head_of}
use Rattle.gabc_headers.specs.Parts.{HeaderPart, left_out, header, unended, is_good_name, name_of, ended_parts, bad_name_parts}
use Rattle.gabc_headers.specs.witness.Parts.{LineContext, outside, within, parts_of_line, context_below, parts_left_open, parts, head_parts}
use Rattle.gabc_headers.specs.Book.{is_kept, repeats, unless, entries, last_value, value_of, standing_entries, book_of}
use Rattle.gabc_headers.specs.Canonical.{wants_lines, printed_value, header_line, header_lines, canonical_heads}
use Rattle.gabc_headers.specs.Heads.{heads_of}
use Rattle.gabc_write.proofs.plain.PlainCharacters.{either, plain_option, is_plain, plain, append}
use Rattle.std.specs.Prelude.{bytes_eq}
use Rattle.gabc_headers.proofs.printing.PrintedBookIsReadAgain.{own_book}

-- ---- lines

abbrev plain_lines : List (List ℕ) → Bool
plain_lines ls = list_all plain ls

on_first_plain : (c : ℕ) (ls : List (List ℕ)) → is_plain c ≡ true → plain_lines ls ≡ true → plain_lines (on_first c ls) ≡ true
on_first_plain c ls h k = grind (arith, and_parts)

lines_plain : (t : List ℕ) → plain t ≡ true → plain_lines (lines t) ≡ true
lines_plain [] h = refl
lines_plain (c ∷ t) h =
    let g = and_parts (is_plain c) (plain t) h in
    let later = lines_plain t g.1 in
    either plain_lines (c == 10) ([] ∷ lines t) (on_first c (lines t)) later (on_first_plain c (lines t) g.0 later)

head_plain : (ls : List (List ℕ)) → plain_lines ls ≡ true → plain_lines (head_of ls) ≡ true
head_plain [] h = refl
head_plain (l ∷ ls) h =
    let g = and_parts (plain l) (plain_lines ls) h in
    either plain_lines (is_score_line l) [] (l ∷ head_of ls) refl (and_from (plain l) (plain_lines (head_of ls)) g.0 (head_plain ls g.1))

-- ---- parts of a line

before_colon_plain : (l : List ℕ) → plain l ≡ true → plain (before_colon l) ≡ true
before_colon_plain [] h = refl
before_colon_plain (c ∷ l) h =
    let g = and_parts (is_plain c) (plain l) h in
    either plain (c == 58) [] (c ∷ before_colon l) refl (and_from (is_plain c) (plain (before_colon l)) g.0 (before_colon_plain l g.1))

after_colon_plain : (l : List ℕ) → plain l ≡ true → plain (after_colon l) ≡ true
after_colon_plain [] h = refl
after_colon_plain (c ∷ l) h =
    let g = and_parts (is_plain c) (plain l) h in
    either plain (c == 58) l (after_colon l) g.1 (after_colon_plain l g.1)

before_mark_plain : (n : ℕ) (l : List ℕ) → plain l ≡ true → plain (before_mark n l) ≡ true
before_mark_plain n [] h = refl
before_mark_plain n (c ∷ l) h =
    let g = and_parts (is_plain c) (plain l) h in
    either plain (is_mark n (c ∷ l)) [] (c ∷ before_mark n l) refl (and_from (is_plain c) (plain (before_mark n l)) g.0 (before_mark_plain n l g.1))

trim_start_plain : (out : ℕ → Bool) (l : List ℕ) → plain l ≡ true → plain (trim_start out l) ≡ true
trim_start_plain out [] h = refl
trim_start_plain out (c ∷ l) h = either plain (out c) (trim_start out l) (c ∷ l) (trim_start_plain out l (and_parts (is_plain c) (plain l) h).1) h

unless_last_plain : (b : Bool) (c : ℕ) (l : List ℕ) → plain (c ∷ l) ≡ true → plain (unless_last b c l) ≡ true
unless_last_plain b c l h = grind (arith, either)

trim_end_plain : (out : ℕ → Bool) (l : List ℕ) → plain l ≡ true → plain (trim_end out l) ≡ true
trim_end_plain out [] h = refl
trim_end_plain out (c ∷ l) h =
    let g = and_parts (is_plain c) (plain l) h in
    unless_last_plain (out c) c (trim_end out l) (and_from (is_plain c) (plain (trim_end out l)) g.0 (trim_end_plain out l g.1))

name_trimmed : (l : List ℕ) → plain l ≡ true → plain (trim_name l) ≡ true
name_trimmed l h = trim_start_plain is_blank (trim_end is_blank l) (trim_end_plain is_blank l h)

value_trimmed : (v : List ℕ) → plain v ≡ true → plain (trim_value v) ≡ true
value_trimmed v h = trim_start_plain is_blank_or_lf (trim_end ends_no_value v) (trim_end_plain ends_no_value v h)

-- ---- header parts

abbrev plain_part : HeaderPart → Bool
plain_part (header k name value p) = plain name && plain value
plain_part _ = true

abbrev plain_parts : List HeaderPart → Bool
plain_parts ps = list_all plain_part ps

abbrev plain_context : LineContext → Bool
plain_context outside = true
plain_context (within j name v) = plain_option name && plain v

name_plain : (l : List ℕ) → plain l ≡ true → plain_option (name_of l) ≡ true
name_plain l h = either plain_option (is_good_name (trim_name (before_colon l))) (Some (trim_name (before_colon l))) None (name_trimmed (before_colon l) (before_colon_plain l h)) refl

ended_plain : (k : ℕ) (name : Option (List ℕ)) (v : List ℕ) (p : ℕ) → plain_option name ≡ true → plain v ≡ true → plain_parts (ended_parts k name v p) ≡ true
ended_plain k name v p h g = grind (arith, value_trimmed)

bad_name_plain : (k : ℕ) (name : Option (List ℕ)) (p : ℕ) → plain_parts (bad_name_parts k name p) ≡ true
bad_name_plain k name p = grind arith

after_feed : (v l : List ℕ) → plain v ≡ true → plain l ≡ true → plain (v ++ 10 ∷ l) ≡ true
after_feed v l h k = append is_plain v (10 ∷ l) h k

line_plain : (w : LineContext) (k n : ℕ) (l : List ℕ) → plain_context w ≡ true → plain l ≡ true → plain_parts (parts_of_line w k n l) ≡ true
line_plain outside k n l h g =
    let ended = ended_parts k (name_of l) (before_mark 1 (after_colon l)) (n + (length (before_colon l) + (1 + mark_end 1 (after_colon l)))) in
    let bad = bad_name_parts k (name_of l) (n + length (before_colon l)) in
    let one : plain_parts (cond (has_mark 1 (after_colon l)) ended []) ≡ true =
    either plain_parts (has_mark 1 (after_colon l)) ended [] (ended_plain k (name_of l) (before_mark 1 (after_colon l)) (n + (length (before_colon l) + (1 + mark_end 1 (after_colon l)))) (name_plain l g) (before_mark_plain 1 (after_colon l) (after_colon_plain l g))) refl in
    let named : plain_parts (bad ++ cond (has_mark 1 (after_colon l)) ended []) ≡ true = append plain_part bad (cond (has_mark 1 (after_colon l)) ended []) (bad_name_plain k (name_of l) (n + length (before_colon l))) one in
    let out = left_out k (n + length l) ∷ [] in
    either plain_parts (is_bare l) [] (cond (has_colon l) (bad ++ cond (has_mark 1 (after_colon l)) ended []) out) refl
    (either plain_parts (has_colon l) (bad ++ cond (has_mark 1 (after_colon l)) ended []) out named refl)
line_plain (within j name v) k n l h g =
    let c = and_parts (plain_option name) (plain v) h in
    let ended = ended_parts j name (v ++ 10 ∷ before_mark 2 l) (n + mark_end 2 l) in
    either plain_parts (has_mark 2 l) ended [] (ended_plain j name (v ++ 10 ∷ before_mark 2 l) (n + mark_end 2 l) c.0 (after_feed v (before_mark 2 l) c.1 (before_mark_plain 2 l g))) refl

below_plain : (w : LineContext) (k : ℕ) (l : List ℕ) → plain_context w ≡ true → plain l ≡ true → plain_context (context_below w k l) ≡ true
below_plain outside k l h g =
    either plain_context (is_bare l || (not (has_colon l) || has_mark 1 (after_colon l))) outside (within k (name_of l) (after_colon l)) refl
    (and_from (plain_option (name_of l)) (plain (after_colon l)) (name_plain l g) (after_colon_plain l g))
below_plain (within j name v) k l h g =
    let c = and_parts (plain_option name) (plain v) h in
    either plain_context (has_mark 2 l) outside (within j name (v ++ 10 ∷ l)) refl (and_from (plain_option name) (plain (v ++ 10 ∷ l)) c.0 (after_feed v l c.1 g))

open_plain : (w : LineContext) → plain_parts (parts_left_open w) ≡ true
open_plain outside = refl
open_plain (within j name v) = refl

parts_plain : (w : LineContext) (k n : ℕ) (ls : List (List ℕ)) → plain_context w ≡ true → plain_lines ls ≡ true → plain_parts (parts w k n ls) ≡ true
parts_plain w k n [] h g = open_plain w
parts_plain w k n (l ∷ ls) h g =
    let c = and_parts (plain l) (plain_lines ls) g in
    append plain_part (parts_of_line w k n l) (parts (context_below w k l) (k + 1) (n + (length l + 1)) ls) (line_plain w k n l h c.0)
    (parts_plain (context_below w k l) (k + 1) (n + (length l + 1)) ls (below_plain w k l h c.0) c.1)

-- ---- the book

abbrev plain_entry : List ℕ × List ℕ → Bool
plain_entry e = plain e.0 && plain e.1

abbrev plain_book : List (List ℕ × List ℕ) → Bool
plain_book es = list_all plain_entry es

unless_plain : (b : Bool) (e : List ℕ × List ℕ) (es : List (List ℕ × List ℕ)) → plain_entry e ≡ true → plain_book es ≡ true → plain_book (unless b e es) ≡ true
unless_plain b e es h k = grind arith

entries_plain : (ps : List HeaderPart) → plain_parts ps ≡ true → plain_book (entries ps) ≡ true
entries_plain [] h = refl
entries_plain (left_out k p ∷ ps) h = entries_plain ps h
entries_plain (unended k ∷ ps) h = entries_plain ps h
entries_plain (header k name value p ∷ ps) h =
    let g = and_parts (plain name && plain value) (plain_parts ps) h in
    unless_plain (not (is_kept name value)) (name, value) (entries ps) g.0 (entries_plain ps g.1)

last_value_plain : (name v : List ℕ) (es : List (List ℕ × List ℕ)) → plain v ≡ true → plain_book es ≡ true → plain (last_value name v es) ≡ true
last_value_plain name v [] h k = h
last_value_plain name v (e ∷ es) h k =
    let g = and_parts (plain_entry e) (plain_book es) k in
    last_value_plain name (cond (bytes_eq name e.0) e.1 v) es (either plain (bytes_eq name e.0) e.1 v (and_parts (plain e.0) (plain e.1) g.0).1 h) g.1

value_plain : (name v : List ℕ) (es : List (List ℕ × List ℕ)) → plain v ≡ true → plain_book es ≡ true → plain (value_of name v es) ≡ true
value_plain name v es h k = either plain (bytes_eq name (codes "annotation")) v (last_value name v es) h (last_value_plain name v es h k)

standing_plain : (seen : List (List ℕ)) (es : List (List ℕ × List ℕ)) → plain_book es ≡ true → plain_book (standing_entries seen es) ≡ true
standing_plain seen [] h = refl
standing_plain seen (e ∷ es) h =
    let g = and_parts (plain_entry e) (plain_book es) h in
    let here = and_parts (plain e.0) (plain e.1) g.0 in
    unless_plain (repeats seen e.0) (e.0, value_of e.0 e.1 es) (standing_entries (e.0 ∷ seen) es)
    (and_from (plain e.0) (plain (value_of e.0 e.1 es)) here.0 (value_plain e.0 e.1 es here.1 g.1)) (standing_plain (e.0 ∷ seen) es g.1)

book_plain : (t : List ℕ) → plain t ≡ true → plain_book (book_of (head_parts t)) ≡ true
book_plain t h = standing_plain [] (entries (head_parts t)) (entries_plain (head_parts t) (parts_plain outside 1 0 (head_of (lines t)) refl (head_plain (lines t) (lines_plain t h))))

-- ---- its lines

printed_plain : (b : Bool) (v : List ℕ) → plain v ≡ true → plain (printed_value b v) ≡ true
printed_plain b v h = grind (arith, append)

header_lines_plain : (es : List (List ℕ × List ℕ)) → plain_book es ≡ true → plain (header_lines es) ≡ true
header_lines_plain [] h = refl
header_lines_plain (e ∷ es) h =
    let g = and_parts (plain_entry e) (plain_book es) h in
    let here = and_parts (plain e.0) (plain e.1) g.0 in
    append is_plain (header_line e) (header_lines es)
    (append is_plain (e.0 ++ codes ":") (printed_value (wants_lines (lines e.1)) e.1) (append is_plain e.0 (codes ":") here.0 refl) (printed_plain (wants_lines (lines e.1)) e.1 here.1))
    (header_lines_plain es g.1)

-- the canonical header lines of a text, and `%%`
pub heads_plain : (limits : Limits) (t : List ℕ) (heads : Heads) → heads_of limits t ≡ Ok heads → plain t ≡ true → plain (canonical_heads heads.book) ≡ true
heads_plain limits t heads ok h = grind (arith, append, header_lines_plain, own_book, book_plain)
