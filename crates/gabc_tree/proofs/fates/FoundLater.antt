-- The findings that are still to come, where the reading stands.
use Rattle.std.proofs.Common.{◌≡◌, ℕ, ◌+◌, Bool, true, false, true≢false, cond, not, ◌&&◌, ◌||◌, ◌==◌, List, [], ◌∷◌, ◌++◌, Some, None, is_some, nat_lt, reverse, refl, sym, ap, subst, ◌∙◌, append_assoc, append-nil, ◌⊎◌, inl, inr, arith, if◌then◌else◌}
use Rattle.std.proofs.lemmas.Bool.Decides.{nat_tests}
use Rattle.gabc_places.specs.Place.{is_line_feed, next_place, place_past, placed_characters_from}
use Rattle.gabc_places.specs.declared.code.Code.{Code}
use Rattle.gabc_places.specs.declared.code.Code.TheVariants.{W9, W11}
use Rattle.gabc_places.specs.declared.code.Finding.{Finding}
use Rattle.gabc_places.specs.declared.limits.Limits.{Limits}
use Rattle.gabc_places.specs.declared.place.Char.{Char}
use Rattle.gabc_places.specs.declared.place.Place.{Place}
use Rattle.gabc_text.specs.KeptText.{view_of_kept}
use Rattle.gabc_text.specs.Token.{tokens}
use Rattle.gabc_text.specs.View.{codes_at_end}
use Rattle.gabc_body.specs.Body.{has_text, empty_snippet}
use Rattle.gabc_body.specs.Reading.{BodyRead, kept_bytes, past, code_now, found_at, with_found, with_text_ended, with_syllable, with_last, ended}
use Rattle.gabc_body.specs.declared.ending.InputEnding.{InputEnding}
use Rattle.gabc_tree.specs.NotKept.{leaves_out, is_before, is_at, from_here, code_at}
use Rattle.gabc_tree.proofs.fates.Steps.{AreMild, AreHere, AreOthers, codes_others, both_others, text_end_others, mild_here, both_here, codes_here, Step, comments, leaves, keeps, opens, splits, closes, left_found, step}
use Rattle.gabc_tree.proofs.fates.Coming.{is_whole, read_to_end}

-- ---- places

pub before_trans : (p q r : Place) → is_before p q ≡ true → is_before q r ≡ true → is_before p r ≡ true
before_trans p q r h i = by p.line p.column q.line q.column r.line r.column h i
  where
    by : (a b c d e f : ℕ) → (nat_lt a c || ((a == c) && nat_lt b d)) ≡ true → (nat_lt c e || ((c == e) && nat_lt d f)) ≡ true → (nat_lt a e || ((a == e) && nat_lt b f)) ≡ true
    by a b c d e f h i = grind (arith, nat_tests)

pub not_before_itself : (p : Place) → is_before p p ≡ false
not_before_itself p = by p.line p.column
  where
    by : (a b : ℕ) → (nat_lt a a || ((a == a) && nat_lt b b)) ≡ false
    by a b = grind (arith, nat_tests)

pub at_itself : (p : Place) → is_at p p ≡ true
at_itself p = by p.line p.column
  where
    by : (a b : ℕ) → ((a == a) && (b == b)) ≡ true
    by a b = grind (arith, nat_tests)

pub before_next : (p : Place) (c : ℕ) → is_before p (next_place p c) ≡ true
before_next p c = by (is_line_feed c) p.line p.column
  where
    by : (o : Bool) (a b : ℕ) → let q : Place = if o then record { line = a + 1; column = 1 } else record { line = a; column = b + 1 } in (nat_lt a q.line || ((a == q.line) && nat_lt b q.column)) ≡ true
    by true a b = grind (arith, nat_tests)
    by false a b = grind (arith, nat_tests)

at_before : (p q r : Place) → is_at p q ≡ true → is_before q r ≡ true → is_before p r ≡ true
at_before p q r h i = by p.line p.column q.line q.column r.line r.column h i
  where
    by : (a b c d e f : ℕ) → ((a == c) && (b == d)) ≡ true → (nat_lt c e || ((c == e) && nat_lt d f)) ≡ true → (nat_lt a e || ((a == e) && nat_lt b f)) ≡ true
    by a b c d e f h i = grind (arith, nat_tests)

-- ---- findings from a place on

-- none of these that leaves out a character stands before the place
abbrev pub AreFrom : Place → List Finding → Type 0
AreFrom p [] = Unit {0}
AreFrom p (f ∷ fs) = ((leaves_out f.code ≡ false) ⊎ (is_before f.place p ≡ false)) × AreFrom p fs

here_from : (p : Place) (fs : List Finding) → AreHere p fs → AreFrom p fs
here_from p [] h = tt
here_from p (f ∷ fs) h = (elim h.0 [ inl m ↦ inl m | inr e ↦ inr (ap (λ (q : Place). is_before q p) e ∙ not_before_itself p) ], here_from p fs h.1)

both_from : (p : Place) (fs gs : List Finding) → AreFrom p fs → AreFrom p gs → AreFrom p (fs ++ gs)
both_from p [] gs h i = i
both_from p (f ∷ fs) gs h i = (h.0, both_from p fs gs h.1 i)

not_before : (p q r : Place) → is_before q r ≡ true → is_before p r ≡ false → is_before p q ≡ false
not_before p q r h i = by (is_before p q) refl
  where
    by : (o : Bool) → is_before p q ≡ o → o ≡ false
    by true e = absurd (true≢false (sym (before_trans p q r e h) ∙ i))
    by false e = refl

earlier_from : (p q : Place) (fs : List Finding) → is_before p q ≡ true → AreFrom q fs → AreFrom p fs
earlier_from p q [] h i = tt
earlier_from p q (f ∷ fs) h i = (elim i.0 [ inl m ↦ inl m | inr e ↦ inr (not_before f.place p q h e) ], earlier_from p q fs h i.1)

abbrev passes : Place → Finding → Bool
passes p f = not (leaves_out f.code) || is_before f.place p

passed : (p : Place) (f : Finding) (fs gs : List Finding) → passes p f ≡ true → from_here p fs ≡ gs → from_here p (f ∷ fs) ≡ gs
passed p f fs gs h i = ap (λ (o : Bool). cond o (from_here p fs) (f ∷ fs)) h ∙ i

not_passed : (p : Place) (f : Finding) (fs : List Finding) → passes p f ≡ false → from_here p (f ∷ fs) ≡ f ∷ fs
not_passed p f fs h = ap (λ (o : Bool). cond o (from_here p fs) (f ∷ fs)) h

mild_passes : (p : Place) (f : Finding) → leaves_out f.code ≡ false → passes p f ≡ true
mild_passes p f h = ap (λ (o : Bool). not o || is_before f.place p) h

before_passes : (p : Place) (f : Finding) → is_before f.place p ≡ true → passes p f ≡ true
before_passes p f h = ap (λ (o : Bool). not (leaves_out f.code) || o) h ∙ by (not (leaves_out f.code))
  where
    by : (o : Bool) → (o || true) ≡ true
    by true = refl
    by false = refl

-- what was found here is passed
pub past_here : (p q : Place) (fs gs : List Finding) → is_before p q ≡ true → AreHere p fs → from_here q (fs ++ gs) ≡ from_here q gs
past_here p q [] gs h i = refl
past_here p q (f ∷ fs) gs h i = passed q f (fs ++ gs) (from_here q gs) (elim i.0 [ inl m ↦ mild_passes q f m | inr e ↦ before_passes q f (ap (λ (r : Place). is_before r q) e ∙ h) ]) (past_here p q fs gs h i.1)

pub from_later : (p q : Place) (fs : List Finding) → is_before p q ≡ true → from_here q (from_here p fs) ≡ from_here q fs
from_later p q [] h = refl
from_later p q (f ∷ fs) h = by (leaves_out f.code) refl (is_before f.place p) refl (from_later p q fs h)
  where
    by : (o : Bool) → leaves_out f.code ≡ o → (b : Bool) → is_before f.place p ≡ b → from_here q (from_here p fs) ≡ from_here q fs → from_here q (cond (not o || b) (from_here p fs) (f ∷ fs)) ≡ from_here q (f ∷ fs)
    by false e b g later = later ∙ sym (passed q f fs (from_here q fs) (mild_passes q f e) refl)
    by true e true g later = later ∙ sym (passed q f fs (from_here q fs) (before_passes q f (before_trans f.place p q g h)) refl)
    by true e false g later = refl

-- nothing that is found later leaves out the character here
pub none_here : (p q : Place) (fs : List Finding) → is_before p q ≡ true → AreFrom q fs → code_at p (from_here p fs) ≡ None
none_here p q [] h i = refl
none_here p q (f ∷ fs) h i = elim i.0 [
  | inl m ↦ ap (code_at p) (passed p f fs (from_here p fs) (mild_passes p f m) refl) ∙ none_here p q fs h i.1
  | inr e ↦ by (leaves_out f.code) refl e (none_here p q fs h i.1)
]
  where
    far : (b : Bool) → is_at f.place p ≡ b → is_before f.place q ≡ false → cond b (Some f.code) None ≡ None
    far true g e = absurd (true≢false (sym (at_before f.place p q g h) ∙ e))
    far false g e = refl

    by : (o : Bool) → leaves_out f.code ≡ o → is_before f.place q ≡ false → code_at p (from_here p fs) ≡ None → code_at p (from_here p (f ∷ fs)) ≡ None
    by false m e later = ap (code_at p) (passed p f fs (from_here p fs) (mild_passes p f m) refl) ∙ later
    by true m e later = ap (code_at p) (not_passed p f fs (ap (λ (o : Bool). not o || is_before f.place p) m ∙ not_before f.place p q h e)) ∙ far (is_at f.place p) refl e

pub mild_past : (p : Place) (fs gs : List Finding) → AreMild fs → from_here p (fs ++ gs) ≡ from_here p gs
mild_past p [] gs h = refl
mild_past p (f ∷ fs) gs h = passed p f (fs ++ gs) (from_here p gs) (mild_passes p f h.0) (mild_past p fs gs h.1)

pub one_here : (p : Place) (code : Code) (fs : List Finding) → leaves_out code ≡ true → code_at p (from_here p (record { place = p; code = code } ∷ fs)) ≡ Some code
one_here p code fs h =
    let f : Finding = record { place = p; code = code } in
    ap (code_at p) (not_passed p f fs (ap (λ (o : Bool). not o || is_before p p) h ∙ not_before_itself p)) ∙ ap (λ (o : Bool). cond o (Some code) None) (at_itself p)

-- ---- what is found at the end

pub record EndFinds (here : Place) (b : BodyRead) : Type 0 where
  pub now : List Finding
  pub all_here : AreHere here now
  pub others : AreOthers now
  pub found_is : (ended here b).found ≡ b.found ++ now

last_finds : (here : Place) (b : BodyRead) → (now : List Finding) × AreHere here now × AreOthers now × ((with_last here b).found ≡ b.found ++ now)
last_finds here b = by (has_text (view_of_kept b.reading.kept))
  where
    by : (o : Bool) → (now : List Finding) × AreHere here now × AreOthers now
        × ((cond o (with_found (found_at (W9 ∷ []) here) (with_syllable (kept_bytes b.reading) b.reading.kept (empty_snippet (kept_bytes b.reading) ∷ []) b)) b).found ≡ b.found ++ now)
    by true = (found_at (W9 ∷ []) here, codes_here here (W9 ∷ []), (refl, tt), refl)
    by false = ([], tt, tt, sym (append-nil b.found))

pub end_finds : (here : Place) (b : BodyRead) → EndFinds here b
end_finds here b =
    let b1 : BodyRead = with_text_ended here b in
    let first = found_at (codes_at_end (reverse (tokens b.reading.kept))) here in
    let l = last_finds here b1 in
    let all : BodyRead = with_last here b1 in
    let spans = found_at (cond (all.eu || all.nlba) (W11 ∷ []) []) here in
    record {
      now = first ++ (l.0 ++ spans);
      all_here = both_here here first (l.0 ++ spans) (codes_here here (codes_at_end (reverse (tokens b.reading.kept)))) (both_here here l.0 spans l.1 (codes_here here (cond (all.eu || all.nlba) (W11 ∷ []) [])));
      others = both_others first (l.0 ++ spans) (codes_others here (codes_at_end (reverse (tokens b.reading.kept))) (text_end_others (reverse (tokens b.reading.kept)))) (both_others l.0 spans l.2 (spans_others (all.eu || all.nlba)));
      found_is = ap (λ (fs : List Finding). fs ++ spans) l.3 ∙ (append_assoc (b.found ++ first) l.0 spans ∙ append_assoc b.found first (l.0 ++ spans));
    }
  where
    spans_others : (o : Bool) → AreOthers (found_at (cond o (W11 ∷ []) []) here)
    spans_others true = (refl, tt)
    spans_others false = tt

-- ---- what is found with a character, and later

abbrev pub now_of : {lines : ℕ} {b : BodyRead} {x : Char} {next : BodyRead} → Step lines b x next → List Finding
now_of (comments e s) = []
now_of {x = x} (leaves code n e s) = left_found code x.place
now_of (keeps n e s) = s.now
now_of (opens n e p s) = s.now
now_of (splits line n e p m s) = s.now
now_of (closes line n e p m s) = s.now

found_with : (lines : ℕ) (b : BodyRead) (x : Char) (next : BodyRead) (s : Step lines b x next) → next.found ≡ b.found ++ now_of s
found_with lines b x next (comments e s) = s.found_is
found_with lines b x next (leaves code n e s) = s.found_is
found_with lines b x next (keeps n e s) = s.found_is
found_with lines b x next (opens n e p s) = s.found_is
found_with lines b x next (splits line n e p m s) = s.found_is
found_with lines b x next (closes line n e p m s) = s.found_is

pub now_here : (lines : ℕ) (b : BodyRead) (x : Char) (next : BodyRead) (s : Step lines b x next) → AreHere x.place (now_of s)
now_here lines b x next (comments e s) = tt
now_here lines b x next (leaves None n e s) = tt
now_here lines b x next (leaves (Some code) n e s) = (inr refl, tt)
now_here lines b x next (keeps n e s) = mild_here x.place s.now s.mild
now_here lines b x next (opens n e p s) = s.here
now_here lines b x next (splits line n e p m s) = s.here
now_here lines b x next (closes line n e p m s) = s.here

module _ (limits : Limits) (head lines macros : ℕ) (at_end : Place) (ending : InputEnding) where
  abbrev pub found_later : BodyRead → List Char → List Finding
  found_later b [] = cond (is_whole limits head at_end ending b) (end_finds at_end b).now []
  found_later b (x ∷ xs) = cond (is_some (code_now limits head (past lines macros b x))) [] (now_of (step lines macros b x) ++ found_later (past lines macros b x) xs)

  pub later_is : (xs : List Char) (b : BodyRead) → (read_to_end limits head lines macros at_end ending b xs).found ≡ b.found ++ found_later b xs
  later_is [] b = by (is_whole limits head at_end ending b)
    where
      by : (o : Bool) → (cond o (ended at_end b) b).found ≡ b.found ++ cond o (end_finds at_end b).now []
      by true = (end_finds at_end b).found_is
      by false = sym (append-nil b.found)
  later_is (x ∷ xs) b = by (is_some (code_now limits head (past lines macros b x))) (later_is xs (past lines macros b x))
    where
      by : (o : Bool) → (read_to_end limits head lines macros at_end ending (past lines macros b x) xs).found ≡ (past lines macros b x).found ++ found_later (past lines macros b x) xs
          → (cond o b (read_to_end limits head lines macros at_end ending (past lines macros b x) xs)).found ≡ b.found ++ cond o [] (now_of (step lines macros b x) ++ found_later (past lines macros b x) xs)
      by true h = sym (append-nil b.found)
      by false h =
          let now = now_of (step lines macros b x) in
          let rest = found_later (past lines macros b x) xs in
          h ∙ (ap (λ (fs : List Finding). fs ++ rest) (found_with lines b x (past lines macros b x) (step lines macros b x)) ∙ append_assoc b.found now rest)

  pub later_from : (t : List ℕ) (p : Place) (b : BodyRead) → at_end ≡ place_past p t → AreFrom p (found_later b (placed_characters_from p t))
  later_from [] p b e = by (is_whole limits head at_end ending b)
    where
      by : (o : Bool) → AreFrom p (cond o (end_finds at_end b).now [])
      by true = here_from p (end_finds at_end b).now (subst (λ (q : Place). AreHere q (end_finds at_end b).now) e (end_finds at_end b).all_here)
      by false = tt
  later_from (c ∷ t) p b e =
      let x : Char = record { c = c; place = p } in
      let next = past lines macros b x in
      let xs = placed_characters_from (next_place p c) t in
      by (now_of (step lines macros b x)) (found_later next xs) (is_some (code_now limits head next)) (now_here lines b x next (step lines macros b x)) (later_from t (next_place p c) next e)
    where
      by : (now rest : List Finding) (o : Bool) → AreHere p now → AreFrom (next_place p c) rest → AreFrom p (cond o [] (now ++ rest))
      by now rest true h i = tt
      by now rest false h i = both_from p now rest (here_from p now h) (earlier_from p (next_place p c) rest (before_next p c) i)
