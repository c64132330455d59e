-- The text before the line `%%`, one character after the other.
use Rattle.std.proofs.Common.{◌≡◌, ℕ, ◌+◌, suc, List, [], ◌∷◌, ◌++◌, length, Bool, true, false, cond, ◌&&◌, ◌||◌, ◌==◌, refl, sym, ap, ◌∙◌, arith, append_assoc}
use Rattle.std.proofs.lemmas.Bool.Decides.{nat_tests}
use Rattle.std.proofs.lemmas.Bool.{or_parts}
use Rattle.gabc_headers.specs.Lines.{lines, on_first, is_percent, is_score_line, head_of, has_score, lines_len}
use Rattle.gabc_headers.specs.Parts.{HeaderPart}
use Rattle.gabc_headers.specs.witness.Parts.{LineContext, outside, within, parts, parts_of_line, context_below, head_parts}
use Rattle.gabc_headers.specs.Heads.{head_len}
use Rattle.gabc_headers.proofs.machines.PartsAfterState.{first_line, later_lines, lines_split}

-- what stands before the line `%%`; the text begins a line, or goes on with one
abbrev pub head_text : Bool → List ℕ → List ℕ
head_text starts [] = []
head_text starts (c ∷ r) = cond (starts && is_score_line (c ∷ r)) [] (c ∷ head_text (c == 10) r)

-- whether there is such a line
abbrev pub is_scored : Bool → List ℕ → Bool
is_scored starts [] = false
is_scored starts (c ∷ r) = (starts && is_score_line (c ∷ r)) || is_scored (c == 10) r

-- ---- a line's start says whether it is the line `%%`

-- an LF is no `%`
not_percent : (c : ℕ) → (c == 10) ≡ true → (c == 37) ≡ false
not_percent c e = grind (arith, nat_tests)

-- a text begins with `%` as its first line does
percent_first : (r : List ℕ) → is_percent (first_line r) ≡ is_percent r
percent_first r = grind (arith, not_percent)

-- a text begins with `%%` as its first line does
pub score_first : (r : List ℕ) → is_score_line (first_line r) ≡ is_score_line r
score_first r = grind (arith, not_percent, percent_first)

-- ---- the lines' score line is the text's

-- the lines of r have the line `%%`, and those below its first line, as the scan says
pub record Scored (r : List ℕ) : Type 0 where
  pub lines : has_score (lines r) ≡ is_scored true r
  pub later : has_score (later_lines r) ≡ is_scored false r

-- with a character more in front
scored_more : (c : ℕ) (r : List ℕ) → Scored r → Scored (c ∷ r)
scored_more c r h = grind (arith, lines_split, score_first)

-- each text
scored : (r : List ℕ) → Scored r
scored [] = record { lines = refl; later = refl }
scored (c ∷ r) = scored_more c r (scored r)

-- a line of the text is `%%` as the scan of its characters finds it
pub score_lines : (t : List ℕ) → has_score (lines t) ≡ is_scored true t
score_lines t = (scored t).lines

-- ---- the length of the headers' own text

-- a text without the line `%%` is all headers
all_text : (s : Bool) (r : List ℕ) → is_scored s r ≡ false → head_text s r ≡ r
all_text s [] h = refl
all_text s (c ∷ r) h = let o = or_parts (s && is_score_line (c ∷ r)) (is_scored (c == 10) r) h in rw o.0 (ap (λ (x : List ℕ). c ∷ x) (all_text (c == 10) r o.1))

-- the lines before the line `%%` are as long as the text before it
record Long (r : List ℕ) : Type 0 where
  pub lines : is_scored true r ≡ true → lines_len (head_of (lines r)) ≡ length (head_text true r)
  pub later : is_scored false r ≡ true → length (first_line r) + (1 + lines_len (head_of (later_lines r))) ≡ length (head_text false r)

-- with a character more in front
long_more : (c : ℕ) (r : List ℕ) → Long r → Long (c ∷ r)
long_more c r l = record {
  lines = λ h. ap (λ (x : List (List ℕ)). lines_len (head_of x)) (lines_split (c ∷ r))
      ∙ (ap (λ (b : Bool). lines_len (cond b [] (first_line (c ∷ r) ∷ head_of (later_lines (c ∷ r))))) (score_first (c ∷ r)) ∙ at (is_score_line (c ∷ r)) h);
  later = λ h. by (c == 10) h;
}
  where
    by : (b : Bool) → is_scored b r ≡ true → length (cond b [] (c ∷ first_line r)) + (1 + lines_len (head_of (cond b (lines r) (later_lines r)))) ≡ suc (length (head_text b r))
    by true h = let e = l.lines h in omega arith
    by false h = let e = l.later h in omega arith

    at : (b : Bool) → (b || is_scored (c == 10) r) ≡ true → lines_len (cond b [] (first_line (c ∷ r) ∷ head_of (later_lines (c ∷ r)))) ≡ length (cond b [] (c ∷ head_text (c == 10) r))
    at true h = refl
    at false h = by (c == 10) h

-- each text
long : (r : List ℕ) → Long r
long [] = record { lines = λ h. absurd (cc); later = λ h. absurd (cc) }
long (c ∷ r) = long_more c r (long r)

-- the length of the text before the line `%%`
pub head_length : (t : List ℕ) → head_len t ≡ length (head_text true t)
head_length t = ap (λ (b : Bool). cond b (lines_len (head_of (lines t))) (length t)) (score_lines t) ∙ by (is_scored true t) refl
  where
    by : (b : Bool) → is_scored true t ≡ b → cond b (lines_len (head_of (lines t))) (length t) ≡ length (head_text true t)
    by true h = (long t).lines h
    by false h = ap length (sym (all_text true t h))

-- ---- its lines

-- the lines of the text before the line `%%` are those before it, and an empty one
record Lined (r : List ℕ) : Type 0 where
  pub whole : is_scored true r ≡ true → lines (head_text true r) ≡ head_of (lines r) ++ [] ∷ []
  pub later : is_scored false r ≡ true → lines (head_text false r) ≡ first_line r ∷ (head_of (later_lines r) ++ [] ∷ [])

-- with a character more in front
lined_more : (c : ℕ) (r : List ℕ) → Lined r → Lined (c ∷ r)
lined_more c r l = record {
  whole = λ h. at (is_score_line (c ∷ r)) h
      ∙ ap (λ (x : List (List ℕ)). x ++ [] ∷ []) (sym (ap head_of (lines_split (c ∷ r)) ∙ ap (λ (b : Bool). cond b [] (first_line (c ∷ r) ∷ head_of (later_lines (c ∷ r)))) (score_first (c ∷ r))));
  later = λ h. by (c == 10) h;
}
  where
    by : (b : Bool) → is_scored b r ≡ true → cond b ([] ∷ lines (head_text b r)) (on_first c (lines (head_text b r))) ≡ cond b [] (c ∷ first_line r) ∷ (head_of (cond b (lines r) (later_lines r)) ++ [] ∷ [])
    by true h = ap (λ (x : List (List ℕ)). [] ∷ x) (l.whole h)
    by false h = ap (on_first c) (l.later h)

    at : (b : Bool) → (b || is_scored (c == 10) r) ≡ true → lines (cond b [] (c ∷ head_text (c == 10) r)) ≡ cond b [] (first_line (c ∷ r) ∷ head_of (later_lines (c ∷ r))) ++ [] ∷ []
    at true h = refl
    at false h = by (c == 10) h

-- each text
lined : (r : List ℕ) → Lined r
lined [] = record { whole = λ h. absurd (cc); later = λ h. absurd (cc) }
lined (c ∷ r) = lined_more c r (lined r)

-- without a line `%%` all lines are the headers
all_lines : (ls : List (List ℕ)) → has_score ls ≡ false → head_of ls ≡ ls
all_lines [] h = refl
all_lines (l ∷ ls) h = let o = or_parts (is_score_line l) (has_score ls) h in rw o.0 (ap (λ (x : List (List ℕ)). l ∷ x) (all_lines ls o.1))

-- an empty line more reports nothing
parts_more : (w : LineContext) (k n : ℕ) (ls : List (List ℕ)) → parts w k n (ls ++ [] ∷ []) ≡ parts w k n ls
parts_more outside k n [] = refl
parts_more (within j name v) k n [] = refl
parts_more w k n (l ∷ ls) = ap (λ (x : List HeaderPart). parts_of_line w k n l ++ x) (parts_more (context_below w k l) (k + 1) (n + (length l + 1)) ls)

-- the parts of the text are those of the lines of what stands before the line `%%`
pub parts_head : (t : List ℕ) → parts outside 1 0 (lines (head_text true t)) ≡ head_parts t
parts_head t = by (is_scored true t) refl
  where
    by : (b : Bool) → is_scored true t ≡ b → parts outside 1 0 (lines (head_text true t)) ≡ parts outside 1 0 (head_of (lines t))
    by true h = ap (parts outside 1 0) ((lined t).whole h) ∙ parts_more outside 1 0 (head_of (lines t))
    by false h = ap (λ (x : List ℕ). parts outside 1 0 (lines x)) (all_text true t h) ∙ ap (parts outside 1 0) (sym (all_lines (lines t) (score_lines t ∙ h)))

-- ---- a scan of the text

-- the text is what is done and the rest, which begins a line or goes on with one; its end is ahead
pub record Scan (t done rest : List ℕ) (starts : Bool) : Type 0 where
  pub text : t ≡ done ++ rest
  pub head : head_text true t ≡ done ++ head_text starts rest
  pub score : has_score (lines t) ≡ is_scored starts rest

-- before the first character
pub begin_scan : (t : List ℕ) → Scan t [] t true
begin_scan t = record { text = refl; head = refl; score = score_lines t }

-- the next character stands before the line `%%`
pub head_next : (starts : Bool) (c : ℕ) (r : List ℕ) → (starts && is_score_line (c ∷ r)) ≡ false → head_text starts (c ∷ r) ≡ c ∷ head_text (c == 10) r
head_next starts c r h = ap (λ (b : Bool). cond b [] (c ∷ head_text (c == 10) r)) h

-- over one character more
pub scan_more : (t done r : List ℕ) (c : ℕ) (starts : Bool) → (starts && is_score_line (c ∷ r)) ≡ false → Scan t done (c ∷ r) starts → Scan t (done ++ c ∷ []) r (c == 10)
scan_more t done r c starts h s = grind (arith, append_assoc, head_next)

-- the headers' own text is a prefix of the text
pub head_prefix : (s : Bool) (r : List ℕ) → (back : List ℕ) × (r ≡ head_text s r ++ back)
head_prefix s [] = ([], refl)
head_prefix s (c ∷ r) = by (s && is_score_line (c ∷ r)) (head_prefix (c == 10) r)
  where
    by : (b : Bool) → (back : List ℕ) × (r ≡ head_text (c == 10) r ++ back) → (back : List ℕ) × (c ∷ r ≡ cond b [] (c ∷ head_text (c == 10) r) ++ back)
    by true h = (c ∷ r, refl)
    by false h = (h.0, ap (λ (x : List ℕ). c ∷ x) h.1)
