-- What was gathered stays within the limits as it will be written, past a point.
use Rattle.gabc_score.proofs.score_events.EventsStayWithinBounds.{is_within, last_stays, limit_stays, limit_with}
use Rattle.std.proofs.Common.{◌≡◌, ℕ, zero, suc, ◌-◌, ◌≤◌, ◌<◌, ◌^◌, ◌==◌, ◌||◌, ◌&&◌, not, nat_lt, Bool, false, List, [], ◌∷◌, ◌++◌, take, drop, length, None, sym, ap, subst, ◌∙◌, arith}
use Rattle.std.specs.List.{All}
use Rattle.std.proofs.lemmas.Bool.{cond_both}
use Rattle.std.proofs.lemmas.List.Elements.{All-push}
use Rattle.std.proofs.lemmas.Bool.Decides.{nat_tests}
use Rattle.std.proofs.Math.Bool.{and-false, and-true}
use Rattle.gabc_places.specs.declared.limits.Limits.{Limits}
use Rattle.gabc_text.specs.declared.text_event.TextEnd.TheVariants as text_end
use Rattle.gabc_text.specs.declared.text_event.TextEvent.TheVariants as text
use Rattle.gabc_text.specs.declared.text_event.TextPart.TheVariants as part
use Rattle.gabc_notes.specs.declared.stage.NoteEnd.TheVariants as note_end
use Rattle.gabc_notes.specs.declared.stage.NoteEvent.TheVariants as note
use Rattle.gabc_score.specs.declared.preceding.Preceding.{Preceding}
use Rattle.gabc_body.specs.declared.events.BodyEvent.{BodyEvent}
use Rattle.gabc_body.specs.declared.events.BodyEvent.TheVariants as event
use Rattle.gabc_score.specs.Before.{no_syllable, with_each, with_placed}
use Rattle.gabc_body.specs.Body.{has_text, is_none}
use Rattle.gabc_body.specs.Canonical.{canonical}
use Rattle.gabc_body.specs.Syllable.{UnplacedSyllable}
use Rattle.gabc_score.specs.ReportedWithin.{IsAtOutset}
use Rattle.gabc_body.specs.witness.BodyBuilder.{with_all, code_in}
use Rattle.gabc_body.specs.witness.Gatherer.{Gathered, with_event, with_last, with_made, with_no_notes, with_snippet, with_syllable}
use Rattle.gabc_score.specs.machine.HeldWithin.{AreWritten, HoldsWithin}
use Rattle.gabc_score.specs.machine.ScoreMachine.{IsShort}
use Rattle.gabc_score.specs.machine.ScoreStage.{placed_after, with_held}
use Rattle.gabc_body.specs.witness.SyllableBuilder.{made_from}
use Rattle.gabc_score.proofs.score_events.MemoryIsKept.{limit_last}
use Rattle.gabc_score.proofs.score_events.FewAndShortAreLent.{counted, either, without_start}
use Rattle.gabc_score.proofs.score_events.WhatPrecedes.{each_some, given_some, not_some}
use Rattle.gabc_body.proofs.syllables_of_units.SyllablesAreThoseOfUnits.{none_of}

-- ---- a syllable more

later : (limit : ℕ) (ms : List UnplacedSyllable) (m : UnplacedSyllable) → AreWritten limit false ms → length (canonical m.text.word_start m) ≤ limit → AreWritten limit false (ms ++ m ∷ [])
later limit [] m h k = (k, tt)
later limit (s ∷ ms) m h k = (h.0, later limit ms m h.1 k)

one_more : (limit : ℕ) (first : Bool) (ms : List UnplacedSyllable) (m : UnplacedSyllable) → (starts : Bool) → starts ≡ (first && is_none ms) → AreWritten limit first ms → length (canonical (starts || m.text.word_start) m) ≤ limit
    → AreWritten limit first (ms ++ m ∷ [])
one_more limit first [] m starts f h k = (subst (λ (b : Bool). length (canonical (b || m.text.word_start) m) ≤ limit) (f ∙ and-true first) k, tt)
one_more limit first (s ∷ ms) m starts f h k = (h.0, later limit ms m h.1 (subst (λ (b : Bool). length (canonical (b || m.text.word_start) m) ≤ limit) (f ∙ and-false first) k))

module _ (first : Bool) where
  -- if it is not over the limit, what was made is short, and so it is as it will be written
  abbrev AreWithin : Gathered → Type 0
  AreWithin g = (not g.follows ≡ (first && is_none g.made)) × (g.over ≡ false → AreWritten g.limit first g.made × All (IsShort g.limit) g.made)

  within_made : (g : Gathered) (m : UnplacedSyllable) → g.limit < 2 ^ 32 → AreWithin g → AreWithin (with_made g m)
  within_made g m small h = (sym (and-false first) ∙ ap (λ b. first && b) (sym (none_of g.made m)), made)
    where
      made : (with_made g m).over ≡ false → AreWritten g.limit first (g.made ++ m ∷ []) × All (IsShort g.limit) (g.made ++ m ∷ [])
      made over =
          let e = either g.over _ _ over in
          let starts = not g.follows || m.text.word_start in
          let k = counted g.limit (length (canonical starts m)) (length m.kept) small e.1.0 e.1.1 in
          let s = without_start starts m in
          let short = k.1 in
          (one_more g.limit first g.made m (not g.follows) h.0 (h.1 e.0).0 k.1, All-push (IsShort g.limit) g.made m (h.1 e.0).1 (record { kept = k.0; canonical = omega (arith, s, short) }))

  within_with : (g : Gathered) (t : BodyEvent) → g.limit < 2 ^ 32 → AreWithin g → AreWithin (with_event g t)
  within_with g (event.Text (text.Part part.WordStart)) s h = h
  within_with g (event.Text (text.Ended text_end.Notes)) s h = h
  within_with g (event.Notes line (note.Ended note_end.Close n)) s h = let u = with_snippet g line n 41 in within_made u (made_from u.builder u.eu u.nlba) s h
  within_with g _ s h = h

  within_all : (g : Gathered) (now : List BodyEvent) → g.limit < 2 ^ 32 → AreWithin g → AreWithin (with_all g now)
  within_all g [] s h = h
  within_all g (t ∷ now) s h = within_all (with_event g t) now (let e = limit_with g t in omega (arith, e, s)) (within_with g t s h)

  within_last : (g : Gathered) → g.limit < 2 ^ 32 → AreWithin g → AreWithin (with_last g)
  within_last g s h = let u = with_no_notes g in cond_both (has_text g.builder.view) (with_syllable u) g AreWithin (λ e. within_made u (made_from u.builder u.eu u.nlba) s h) (λ e. h)

is_first : (p : Preceding) (ms : List UnplacedSyllable) (follows : Bool) → follows ≡ nat_lt 0 (with_each p ms).syllables → not follows ≡ ((p.syllables == 0) && is_none ms)
is_first p ms follows f = grind (arith, not_some, and-true, and-false, each_some)

-- what was made without passing a limit is within it, and so it is at the end, with the last text
module _ (limits : Limits) (p : Preceding) (g : Gathered) (now : List BodyEvent) (e : g.limit ≡ limits.syllable) (over : g.over ≡ false) (f : g.follows ≡ nat_lt 0 (with_each p g.made).syllables)
    (written : AreWritten limits.syllable (p.syllables == 0) g.made) (short : All (IsShort limits.syllable) g.made) where
  small : g.limit < 2 ^ 32
  small = let most = limits.in_range.syllable_most in omega (arith, e, most)

  all_within : AreWithin (p.syllables == 0) (with_all g now)
  all_within = within_all (p.syllables == 0) g now small (is_first p g.made g.follows f, λ o. rw e (written, short))

  pub within_now : code_in limits (with_all g now) ≡ None → AreWritten limits.syllable (p.syllables == 0) (with_all g now).made × All (IsShort limits.syllable) (with_all g now).made
  within_now none = rw (← (limit_stays g now ∙ e)) (all_within.1 (is_within limits (with_all g now) none).over)

  pub short_at_end : code_in limits (with_last (with_all g now)) ≡ None → All (IsShort limits.syllable) (with_last (with_all g now)).made
  short_at_end none =
      let stays = limit_stays g now in
      rw (← (limit_last (with_all g now) ∙ stays ∙ e)) ((within_last (p.syllables == 0) (with_all g now) (omega (arith, stays, small)) all_within).1 (is_within limits (with_last (with_all g now)) none).over).1

pub file_now : (limits : Limits) (h : Gathered) → code_in limits h ≡ None → is_none h.made ≡ false → h.total < limits.input
file_now limits h none some = let file = (is_within limits h none).file some in omega (arith, file)

-- ---- all but the last are given

dropped : (limit n : ℕ) (ms : List UnplacedSyllable) → AreWritten limit false ms → AreWritten limit false (drop n ms)
dropped limit zero ms h = h
dropped limit (suc n) [] h = tt
dropped limit (suc n) (m ∷ ms) h = dropped limit n ms h.1

module _ (is_preceded : Bool) where
  abbrev passed : Preceding → List UnplacedSyllable → Preceding
  passed p made = with_placed p (take (length made - 1) (placed_after is_preceded made))

  written_passed : (limit : ℕ) (p : Preceding) (made : List UnplacedSyllable) → AreWritten limit (p.syllables == 0) made → AreWritten limit ((passed p made).syllables == 0) (drop (length made - 1) made)
  written_passed limit p [] h = tt
  written_passed limit p (m ∷ []) h = h
  written_passed limit p (s ∷ m ∷ ms) h =
      let some = given_some is_preceded p s m ms in
      let later_one : ((passed p (s ∷ m ∷ ms)).syllables == 0) ≡ false = grind (arith, nat_tests, some) in
      let count : length (s ∷ m ∷ ms) - 1 ≡ suc (length ms) = omega arith in
      subst (λ (b : Bool). AreWritten limit b (drop (length (s ∷ m ∷ ms) - 1) (s ∷ m ∷ ms))) (sym later_one) (rw count (dropped limit (length ms) (m ∷ ms) h.1))

  outset_passed : (p : Preceding) (made : List UnplacedSyllable) → IsAtOutset p → IsAtOutset (passed p made)
  outset_passed p [] h = h
  outset_passed p (m ∷ []) h = h
  outset_passed p (s ∷ m ∷ ms) h = λ e. absurd (let some = given_some is_preceded p s m ms in omega (arith, some, e))

-- ---- what holds from point to point

pub within_past : (limits : Limits) (before after : Preceding) (is_preceded : Bool) (g h turned : Gathered) (now : List BodyEvent) → g.limit ≡ limits.syllable → g.over ≡ false → g.follows ≡ nat_lt 0 (with_each before g.made).syllables
    → HoldsWithin limits before g → All (IsShort limits.syllable) g.made → h ≡ with_all g now → code_in limits (with_all g now) ≡ None → after ≡ passed is_preceded before h.made → turned ≡ with_held h → HoldsWithin limits after turned
within_past limits before after is_preceded g h turned now e over f within short is none there turns =
    let written : AreWritten limits.syllable (before.syllables == 0) h.made = rw is (within_now limits before g now e over f within.written short none).0 in
    let code : code_in limits h ≡ None = ap (code_in limits) is ∙ none in
    rw (turns, there) (record {
      written = written_passed is_preceded limits.syllable before h.made written;
      file = λ some. file_now limits h code (sym (last_stays h.made) ∙ some);
      outset = outset_passed is_preceded before h.made within.outset;
    })

-- nothing was gathered
pub within_none : (limits : Limits) (before : Preceding) (g : Gathered) → IsAtOutset before → g.made ≡ [] → HoldsWithin limits before g
within_none limits before g outset none = grind arith

-- nothing was after the headers
pub within_begun : (limits : Limits) (head : ℕ) (before : Preceding) (g : Gathered) → before ≡ no_syllable head → g.made ≡ [] → HoldsWithin limits before g
within_begun limits head before g is none = within_none limits before g (λ e. is ∙ ap no_syllable (sym (ap (λ (p : Preceding). p.canonical) is))) none
