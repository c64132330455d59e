-- A text that is one syllable keeps no more bytes than it has, on the way and in all.
use Rattle.std.proofs.Common.{◌≡◌, ◌==◌, ◌&&◌, not, ℕ, ◌+◌, ◌≤◌, Bool, true, false, cond, List, [], ◌∷◌, ◌++◌, length, reverse, take, drop, Some, None, refl, sym, ap, subst, arith, append-nil, ◌∙◌}
use Rattle.std.specs.List.{All}
use Rattle.std.proofs.lemmas.List.{take-append-drop, take-map}
use Rattle.std.proofs.lemmas.List.Elements.{All-nil, All-push, All-head, All-weaker}
use Rattle.gabc_places.specs.Fate.{Fate, Keep, Comment, Ends, LeaveOut}
use Rattle.gabc_places.specs.Place.{placed_characters_from}
use Rattle.gabc_places.specs.declared.place.Char.{Char}
use Rattle.gabc_places.specs.declared.place.Place.{Place}
use Rattle.gabc_patterns.specs.Reads.{items_by, whole_front}
use Rattle.gabc_text.specs.Events.{codes_of}
use Rattle.gabc_text.specs.KeptText.{belongs}
use Rattle.gabc_text.specs.Token.{is_blank, tokens}
use Rattle.gabc_text.proofs.KeptCharacters.{codes_placed}
use Rattle.gabc_notes.specs.FirstSound.{first_sound}
use Rattle.gabc_notes.specs.KeptNotes as notes
use Rattle.gabc_notes.specs.Table.{gabc}
use Rattle.gabc_nabc.specs.KeptNabc as nabc
use Rattle.gabc_body.specs.ReadAlone.{IsReadAsSyllable, begun_after, read_first, read_of}
use Rattle.gabc_body.specs.Reading.{BodyRead, InText, InNotes, Part, Reading, fate_by, found_at, kept_as, past, past_snippet, whole_of, with_end, with_fate, with_found, with_snippet_ended, with_sound}
use Rattle.gabc_body.specs.ScoreEvents.{first_place}
use Rattle.gabc_body.specs.Syllable.{UnplacedSyllable}
use Rattle.gabc_body.specs.declared.before.Spans.{Spans}
use Rattle.gabc_body.proofs.by_kept.ReadingAgreesWithEvents.{size_of_ascii, size_push}
use Rattle.gabc_body.proofs.by_kept.SnippetsAreGathered.{whole_is_front}
use Rattle.gabc_body.proofs.texts_of_body.SeamsOfCharacters.{size, size_append}

-- ---- what is kept

-- of the syllable that is read, in bytes
abbrev kept_now : Reading → ℕ
kept_now r = size (r.before ++ r.kept)

-- The kept text of a syllable has at most `n` bytes.
abbrev IsShort : ℕ → UnplacedSyllable → Type 0
IsShort n m = length m.kept ≤ n

-- The kept text of the current syllable, and of each one before it, has at most `n` bytes.
record Keeps (n : ℕ) (b : BodyRead) : Type 0 where
  now : kept_now b.reading ≤ n
  made : All (IsShort n) b.made

either_few : {n : ℕ} (o : Bool) (u v : BodyRead) → Keeps n u → Keeps n v → Keeps n (cond o u v)
either_few true u v h k = h
either_few false u v h k = k

-- the front of what is kept, with a mark
mark_keeps : (before kept front rest : List ℕ) (c : ℕ) → kept ≡ front ++ rest → size (before ++ (front ++ c ∷ [])) ≤ size (before ++ kept) + size (c ∷ [])
mark_keeps before kept front rest c e =
    let a = size_append before (front ++ c ∷ []) in
    let b = size_append front (c ∷ []) in
    let d = size_append before kept in
    let f = ap size e ∙ size_append front rest in
    omega (arith, a, b, d, f)

kept_as_short : (p : Part) (kept : List ℕ) (c : ℕ) → size (kept_as p kept c ∷ []) ≤ size (c ∷ [])
kept_as_short InText kept c = by (belongs (reverse (tokens kept)) c) (is_blank c)
  where
    by : (a b : Bool) → size (cond a c (cond b 32 c) ∷ []) ≤ size (c ∷ [])
    by true b = omega arith
    by false true = size_of_ascii 32 c (omega arith)
    by false false = omega arith
kept_as_short (InNotes line) kept c = omega arith

-- ---- a character

-- what is found at the end of a snippet keeps nothing
end_keeps : (n line : ℕ) (here : Place) (b : BodyRead) → Keeps n b → Keeps n (with_snippet_ended line here b)
end_keeps n line here b is = by (line == 0)
  where
    kept : List ℕ
    kept = b.reading.kept

    by : (z : Bool) → Keeps n (cond z (with_sound (first_sound (items_by gabc (whole_front gabc kept))) here (with_found (found_at (notes.found_at_end kept) here) b)) (with_found (found_at (nabc.found_at_end kept) here) b))
    by true = record { now = is.now; made = is.made }
    by false = record { now = is.now; made = is.made }

module _ (lines macros n : ℕ) (x : Char) where
  -- the character's own bytes more at most
  abbrev Few : BodyRead → Type 0
  Few next = Keeps (n + size (x.c ∷ [])) next

  made_few : (b : BodyRead) → Keeps n b → All (IsShort (n + size (x.c ∷ []))) b.made
  made_few b is = All-weaker (IsShort n) (IsShort (n + size (x.c ∷ []))) (λ m k. omega (arith, k)) b.made is.made

  -- so it is where no more is kept
  as_few : (b next : BodyRead) → Keeps n b → kept_now next.reading ≤ n + size (x.c ∷ []) → next.made ≡ b.made → Few next
  as_few b next is now e = record { now = now; made = subst (All (IsShort (n + size (x.c ∷ [])))) (sym e) (made_few b is) }

  past_mark : (line : ℕ) (b : BodyRead) → Keeps n b → Few (past_snippet lines line x.c b)
  past_mark line b is = either_few (x.c == 124) _ _
      (as_few b _ is (omega (arith, whole, few)) refl)
      (record { now = omega arith; made = All-push (IsShort (n + size (x.c ∷ []))) b.made _ (made_few b is) few })
    where
      r : Reading
      r = b.reading

      before : List ℕ
      before = r.before ++ (whole_of line r.kept ++ x.c ∷ [])

      few : size before ≤ n + size (x.c ∷ [])
      few = let f = whole_is_front line r.kept in let m = mark_keeps r.before r.kept (whole_of line r.kept) f.0 x.c f.1 in omega (arith, m, is.now)

      whole : size (before ++ []) ≡ size before
      whole = ap size (append-nil before)

  at_end : (p : Part) (b : BodyRead) → Keeps n b → Few (with_end lines p b x)
  at_end InText b is = as_few b _ is (omega (arith, ap size (append-nil (b.reading.kept ++ 40 ∷ [])), size_push [] b.reading.kept 40 x.c (size_of_ascii 40 x.c (omega arith)), size_append b.reading.before b.reading.kept, is.now)) refl
  at_end (InNotes line) b is = past_mark line _ (end_keeps n line x.place b is)

  by_fate : (f : Fate) (b : BodyRead) → Keeps n b → Few (with_fate lines macros b x f)
  by_fate Keep b is = as_few b _ is (let k = size_push b.reading.before b.reading.kept (kept_as b.reading.part b.reading.kept x.c) x.c (kept_as_short b.reading.part b.reading.kept x.c) in omega (arith, k, is.now)) refl
  by_fate Comment b is = as_few b _ is (omega (arith, is.now)) refl
  by_fate (LeaveOut None) b is = as_few b _ is (omega (arith, is.now)) refl
  by_fate (LeaveOut (Some code)) b is = as_few b _ is (omega (arith, is.now)) refl
  by_fate Ends b is = at_end b.reading.part b is

  past_few : (b : BodyRead) → Keeps n b → Few (past lines macros b x)
  past_few b is = either_few (b.reading.comment && not (x.c == 10)) _ _ (as_few b b is (omega (arith, is.now)) refl) (by_fate (fate_by lines b.reading.part b.reading.kept x.c) b is)

-- ---- a text

read_keeps : (lines macros n most : ℕ) (b : BodyRead) (xs : List Char) → n + size (codes_of xs) ≤ most → Keeps n b → Keeps most (read_of lines macros b xs)
read_keeps lines macros n most b [] h is = record { now = omega (arith, h, is.now); made = All-weaker (IsShort n) (IsShort most) (λ m k. omega (arith, h, k)) b.made is.made }
read_keeps lines macros n most b (x ∷ xs) h is =
    read_keeps lines macros (n + size (x.c ∷ [])) most (past lines macros b x) xs (let a = size_append (x.c ∷ []) (codes_of xs) in omega (arith, a, h)) (past_few lines macros n x b is)

module _ (lines macros : ℕ) (t : List ℕ) (spans : Spans) where
  first_keeps : (n : ℕ) → Keeps (size t) (read_first lines macros spans t n)
  first_keeps n = read_keeps lines macros 0 (size t) (begun_after [] spans.eu spans.nlba false) (take n xs) few (record { now = omega arith; made = All-nil (IsShort 0) })
    where
      xs : List Char
      xs = placed_characters_from first_place t

      same : codes_of (take n xs) ≡ take n t
      same = sym (take-map (λ (x : Char). x.c) n xs) ∙ ap (take n) (codes_placed first_place t)

      few : 0 + size (codes_of (take n xs)) ≤ size t
      few = let a = ap size (sym (take-append-drop n t)) ∙ size_append (take n t) (drop n t) in omega (arith, a, ap size same)

  -- so it is the same syllable under each limit that is no less than the bytes of its text
  pub one_syllable_alike : (limit other : ℕ) (m : UnplacedSyllable) → size t ≤ other → IsReadAsSyllable lines macros t spans limit m → IsReadAsSyllable lines macros t spans other m × (length m.kept ≤ other)
  one_syllable_alike limit other m enough o = (
    record { none_earlier = o.none_earlier; one = o.one; few = λ n h. omega (arith, (first_keeps n).now, enough); warnings = o.warnings },
    let k = All-head (IsShort (size t)) m [] (subst (All (IsShort (size t))) o.one (first_keeps (length t)).made) in omega (arith, k, enough),
  )
