-- What is found to be left out is so where it is found.
use Rattle.std.proofs.Common.{◌≡◌, ℕ, Bool, true, false, true≢false, cond, List, [], ◌∷◌, ◌++◌, Some, None, is_some, refl, sym, ap, ◌∙◌}
use Rattle.gabc_places.specs.Fate.{LeaveOut}
use Rattle.gabc_places.specs.Place.{next_place, place_past, placed_characters_from}
use Rattle.gabc_places.specs.Text.{is_left_out, read_as}
use Rattle.gabc_places.specs.declared.code.Finding.{Finding}
use Rattle.gabc_places.specs.declared.limits.Limits.{Limits}
use Rattle.gabc_places.specs.declared.place.Char.{Char}
use Rattle.gabc_places.specs.declared.place.Place.{Place}
use Rattle.gabc_body.specs.ReadAlone.{read_of}
use Rattle.gabc_body.specs.Reading.{BodyRead, past, code_now}
use Rattle.gabc_body.specs.declared.ending.InputEnding.{InputEnding}
use Rattle.gabc_tree.specs.Fates.{fate_at, reached_after, is_error}
use Rattle.gabc_tree.specs.NotKept.{Reached, is_silent}
use Rattle.gabc_tree.specs.NotKept as beside
use Rattle.gabc_tree.proofs.fates.Coming.{is_whole}
use Rattle.gabc_tree.proofs.fates.FoundLater.{end_finds, now_of, found_later}
use Rattle.gabc_tree.proofs.fates.Input.{shown}
use Rattle.gabc_tree.proofs.fates.Steps.{AreOthers, mild_others, Step, comments, leaves, keeps, opens, splits, closes, step}

-- ---- in a body

-- The finding stands at a character of these that is left out with its code.
pub record IsLeft (lines macros : ℕ) (b : BodyRead) (p : Place) (t : List ℕ) (f : Finding) : Type 0 where
  pub front : List ℕ
  pub c : ℕ
  pub back : List ℕ
  pub split : t ≡ front ++ c ∷ back
  pub place_is : f.place ≡ place_past p front
  pub fate_is : fate_at lines (read_of lines macros b (placed_characters_from p front)) (record { c = c; place = place_past p front }) ≡ LeaveOut (Some f.code)

abbrev pub AreLeft : ℕ → ℕ → BodyRead → Place → List ℕ → List Finding → Type 0
AreLeft lines macros b p t [] = Unit {0}
AreLeft lines macros b p t (f ∷ fs) = (is_error f.code ≡ true → IsLeft lines macros b p t f) × AreLeft lines macros b p t fs

others_left : (lines macros : ℕ) (b : BodyRead) (p : Place) (t : List ℕ) (fs : List Finding) → AreOthers fs → AreLeft lines macros b p t fs
others_left lines macros b p t [] h = tt
others_left lines macros b p t (f ∷ fs) h = (λ e. absurd (true≢false (sym e ∙ h.0)), others_left lines macros b p t fs h.1)

both_left : (lines macros : ℕ) (b : BodyRead) (p : Place) (t : List ℕ) (fs gs : List Finding) → AreLeft lines macros b p t fs → AreLeft lines macros b p t gs → AreLeft lines macros b p t (fs ++ gs)
both_left lines macros b p t [] gs h i = i
both_left lines macros b p t (f ∷ fs) gs h i = (h.0, both_left lines macros b p t fs gs h.1 i)

-- one character earlier
earlier_left : (lines macros : ℕ) (b : BodyRead) (p : Place) (c : ℕ) (t : List ℕ) (fs : List Finding)
    → AreLeft lines macros (past lines macros b (record { c = c; place = p })) (next_place p c) t fs → AreLeft lines macros b p (c ∷ t) fs
earlier_left lines macros b p c t [] h = tt
earlier_left lines macros b p c t (f ∷ fs) h = (λ e. one (h.0 e), earlier_left lines macros b p c t fs h.1)
  where
    one : IsLeft lines macros (past lines macros b (record { c = c; place = p })) (next_place p c) t f → IsLeft lines macros b p (c ∷ t) f
    one l = record { front = c ∷ l.front; c = l.c; back = l.back; split = ap (λ (u : List ℕ). c ∷ u) l.split; place_is = l.place_is; fate_is = l.fate_is }

-- what is found with a character
now_left : (lines macros : ℕ) (b : BodyRead) (p : Place) (c : ℕ) (t : List ℕ) (next : BodyRead) (s : Step lines b (record { c = c; place = p }) next) → AreLeft lines macros b p (c ∷ t) (now_of s)
now_left lines macros b p c t next (comments e s) = tt
now_left lines macros b p c t next (leaves None n e s) = tt
now_left lines macros b p c t next (leaves (Some code) n e s) = (λ h. record { front = []; c = c; back = t; split = refl; place_is = refl; fate_is = e }, tt)
now_left lines macros b p c t next (keeps n e s) = others_left lines macros b p (c ∷ t) s.now (mild_others s.now s.mild)
now_left lines macros b p c t next (opens n e q s) = others_left lines macros b p (c ∷ t) s.now s.others
now_left lines macros b p c t next (splits line n e q m s) = others_left lines macros b p (c ∷ t) s.now s.others
now_left lines macros b p c t next (closes line n e q m s) = others_left lines macros b p (c ∷ t) s.now s.others

module _ (limits : Limits) (head lines macros : ℕ) (at_end : Place) (ending : InputEnding) where
  pub later_left : (t : List ℕ) (p : Place) (b : BodyRead) → AreLeft lines macros b p t (found_later limits head lines macros at_end ending b (placed_characters_from p t))
  later_left [] p b = by (is_whole limits head at_end ending b)
    where
      by : (o : Bool) → AreLeft lines macros b p [] (cond o (end_finds at_end b).now [])
      by true = others_left lines macros b p [] (end_finds at_end b).now (end_finds at_end b).others
      by false = tt
  later_left (c ∷ t) p b =
      let x : Char = record { c = c; place = p } in
      let next = past lines macros b x in
      by (now_of (step lines macros b x)) (found_later limits head lines macros at_end ending next (placed_characters_from (next_place p c) t)) (is_some (code_now limits head next))
      (now_left lines macros b p c t next (step lines macros b x)) (earlier_left lines macros b p c t _ (later_left t (next_place p c) next))
    where
      by : (now rest : List Finding) (o : Bool) → AreLeft lines macros b p (c ∷ t) now → AreLeft lines macros b p (c ∷ t) rest → AreLeft lines macros b p (c ∷ t) (cond o [] (now ++ rest))
      by now rest true h i = tt
      by now rest false h i = both_left lines macros b p (c ∷ t) now rest h i

-- ---- in an input

-- where a character of the text stands in an input
pub record IsShownAt (s : Reached) (cs u : List ℕ) (d : ℕ) : Type 0 where
  pub before : List ℕ
  pub c : ℕ
  pub after : List ℕ
  pub parts : cs ≡ before ++ c ∷ after
  pub before_is : shown s.previous before ≡ u
  pub loud : is_silent (reached_after s before) c ≡ false
  pub read_is : read_as c ≡ d

pub shown_at : (cs : List ℕ) (s : Reached) (u t : List ℕ) (d : ℕ) → shown s.previous cs ≡ u ++ d ∷ t → IsShownAt s cs u d
shown_at [] s [] t d e = absurd (cc)
shown_at [] s (x ∷ u) t d e = absurd (cc)
shown_at (c ∷ cs) s u t d e = by (is_left_out (s.previous, c)) refl e (λ v f. shown_at cs (beside.past s c) v t d f)
  where
    here : (v : List ℕ) → is_left_out (s.previous, c) ≡ false → read_as c ∷ shown c cs ≡ v ++ d ∷ t → ((w : List ℕ) → shown c cs ≡ w ++ d ∷ t → IsShownAt (beside.past s c) cs w d) → IsShownAt s (c ∷ cs) v d
    here [] l f later = record { before = []; c = c; after = cs; parts = refl; before_is = refl; loud = l; read_is = cc f }
    here (x ∷ v) l f later =
        let first : read_as c ≡ x = cc f in
        let rest : shown c cs ≡ v ++ d ∷ t = cc f in
        let r = later v rest in
        record {
          before = c ∷ r.before;
          c = r.c;
          after = r.after;
          parts = ap (λ (w : List ℕ). c ∷ w) {y = r.before ++ r.c ∷ r.after} r.parts;
          before_is = ap (λ (o : Bool). cond o (shown c r.before) (read_as c ∷ shown c r.before)) l ∙ (ap (λ (y : ℕ). y ∷ shown c r.before) first ∙ ap (λ (w : List ℕ). x ∷ w) r.before_is);
          loud = r.loud;
          read_is = r.read_is;
        }

    by : (o : Bool) → is_left_out (s.previous, c) ≡ o → cond o (shown c cs) (read_as c ∷ shown c cs) ≡ u ++ d ∷ t
        → ((w : List ℕ) → shown c cs ≡ w ++ d ∷ t → IsShownAt (beside.past s c) cs w d) → IsShownAt s (c ∷ cs) u d
    by true l f later =
        let r = later u f in
        record {
          before = c ∷ r.before;
          c = r.c;
          after = r.after;
          parts = ap (λ (w : List ℕ). c ∷ w) r.parts;
          before_is = ap (λ (o : Bool). cond o (shown c r.before) (read_as c ∷ shown c r.before)) l ∙ r.before_is;
          loud = r.loud;
          read_is = r.read_is;
        }
    by false l f later = here u l f later
