-- Of a text no more characters are kept than it has, and fewer if a comment is open after it.
use Rattle.std.proofs.Common.{◌≡◌, ◌==◌, ◌&&◌, not, ℕ, ◌+◌, ◌≤◌, Bool, true, false, cond, List, [], ◌∷◌, ◌++◌, length, length-append, Some, None, refl, sym, ap, subst, arith}
use Rattle.gabc_places.specs.Fate.{Fate, Keep, Comment, Ends, LeaveOut}
use Rattle.gabc_places.specs.declared.place.Char.{Char}
use Rattle.gabc_notes.specs.FirstSound.{first_sound}
use Rattle.gabc_notes.specs.KeptNotes as notes
use Rattle.gabc_nabc.specs.KeptNabc as nabc
use Rattle.gabc_notes.specs.Table.{gabc}
use Rattle.gabc_patterns.specs.Reads.{items_by, whole_front}
use Rattle.gabc_body.specs.ReadAlone.{read_of}
use Rattle.gabc_body.specs.Reading.{BodyRead, InText, InNotes, Part, Reading, fate_by, found_at, kept_as, past, past_snippet, whole_of, with_end, with_fate, with_found, with_snippet_ended, with_sound}
use Rattle.gabc_body.proofs.by_kept.SnippetsAreGathered.{whole_is_front}

-- how many characters are kept, and one for a comment
abbrev pub one_if : Bool → ℕ
one_if true = 1
one_if false = 0

abbrev pub count : Reading → ℕ
count r = length (r.before ++ r.kept) + one_if r.comment

pub one_more : (before kept : List ℕ) (d : ℕ) → length (before ++ (kept ++ d ∷ [])) ≡ length (before ++ kept) + 1
one_more before kept d =
    let a = length-append before (kept ++ d ∷ []) in
    let b = length-append kept (d ∷ []) in
    let e = length-append before kept in
    omega (arith, a, b, e)

some_more : (before kept : List ℕ) (c : ℕ) (more : List ℕ) → length more ≤ length kept → length ((before ++ (more ++ c ∷ [])) ++ []) ≤ length (before ++ kept) + 1
some_more before kept c more h =
    let a = length-append (before ++ (more ++ c ∷ [])) [] in
    let b = length-append before (more ++ c ∷ []) in
    let d = length-append more (c ∷ []) in
    let e = length-append before kept in
    omega (arith, a, b, d, e, h)

either_few : (o : Bool) (u v : BodyRead) (n : ℕ) → count u.reading ≤ n → count v.reading ≤ n → count (cond o u v).reading ≤ n
either_few true u v n h k = h
either_few false u v n h k = k

module _ (lines macros : ℕ) (b : BodyRead) (x : Char) where
  abbrev r : Reading
  r = b.reading

  -- one more at most
  abbrev Few : BodyRead → Type 0
  Few next = count next.reading ≤ count r + 1

  front_short : (line : ℕ) → length (whole_of line r.kept) ≤ length r.kept
  front_short line = let f = whole_is_front line r.kept in let e = ap (λ (t : List ℕ). length t) f.1 in omega (arith, e, length-append (whole_of line r.kept) f.0)

  ended : (line : ℕ) → (with_snippet_ended line x.place b).reading ≡ r
  ended line = by (line == 0)
    where
      by : (z : Bool)
          → (cond z (with_sound (first_sound (items_by gabc (whole_front gabc r.kept))) x.place (with_found (found_at (notes.found_at_end r.kept) x.place) b)) (with_found (found_at (nabc.found_at_end r.kept) x.place) b)).reading ≡ r
      by true = refl
      by false = refl

  -- after a snippet
  past_mark : (line : ℕ) (b1 : BodyRead) → b1.reading ≡ r → Few (past_snippet lines line x.c b1)
  past_mark line b1 e =
      either_few (x.c == 124) _ _ (count r + 1)
      (subst (λ (q : Reading). length ((q.before ++ (whole_of line q.kept ++ x.c ∷ [])) ++ []) + 0 ≤ count r + 1) (sym e)
      (let m = some_more r.before r.kept x.c (whole_of line r.kept) (front_short line) in omega (arith, m)))
      (omega arith)

  at_end : (p : Part) → Few (with_end lines p b x)
  at_end InText = let a = length-append (r.kept ++ 40 ∷ []) [] in let c = length-append r.kept (40 ∷ []) in let e = length-append r.before r.kept in omega (arith, a, c, e)
  at_end (InNotes line) = past_mark line (with_snippet_ended line x.place b) (ended line)

  by_fate : (f : Fate) → Few (with_fate lines macros b x f)
  by_fate Keep = let m = one_more r.before r.kept (kept_as r.part r.kept x.c) in omega (arith, m)
  by_fate Comment = omega arith
  by_fate (LeaveOut None) = omega arith
  by_fate (LeaveOut (Some code)) = omega arith
  by_fate Ends = at_end r.part

  pub past_few : Few (past lines macros b x)
  past_few = by (r.comment && not (x.c == 10))
    where
      by : (o : Bool) → Few (cond o b (with_fate lines macros b x (fate_by lines r.part r.kept x.c)))
      by true = omega arith
      by false = by_fate (fate_by lines r.part r.kept x.c)

pub read_few : (lines macros : ℕ) (xs : List Char) (b : BodyRead) → count (read_of lines macros b xs).reading ≤ count b.reading + length xs
read_few lines macros [] b = omega arith
read_few lines macros (x ∷ xs) b = let now = past_few lines macros b x in let later = read_few lines macros xs (past lines macros b x) in omega (arith, now, later)
