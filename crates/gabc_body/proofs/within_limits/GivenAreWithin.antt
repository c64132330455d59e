-- The syllables of a score are within the limits, and so is its canonical file.
use Rattle.std.proofs.Common.{◌≡◌, ℕ, ◌+◌, ◌≤◌, List, [], length, Option, Some, None, Result, Ok, Err, inl, inr, refl, ap, subst, ◌∙◌}
use Rattle.gabc_places.specs.Place.{place_after}
use Rattle.gabc_places.specs.declared.code.Code.{Code}
use Rattle.gabc_places.specs.declared.code.Finding.{Finding}
use Rattle.gabc_places.specs.declared.code.Fault.{Fault}
use Rattle.gabc_places.specs.declared.limits.Limits.{Limits}
use Rattle.gabc_places.specs.declared.place.Char.{Char}
use Rattle.gabc_places.specs.declared.place.Place.{Place}
use Rattle.gabc_headers.specs.declared.heads.Heads.{Heads}
use Rattle.gabc_headers.specs.declared.heads.HeadFault.{HeadFault}
use Rattle.gabc_headers.specs.Book.{nabc_lines_of, macros_of}
use Rattle.gabc_headers.specs.Canonical.{header_lines, canonical_heads}
use Rattle.gabc_headers.specs.Lines.{bytes_len}
use Rattle.gabc_headers.specs.Heads.{heads_of}
use Rattle.gabc_text.specs.Ends.{EndsOnce}
use Rattle.gabc_body.specs.declared.events.BodyEvent.{BodyEvent}
use Rattle.gabc_body.specs.declared.ending.InputEnding.{InputEnding}
use Rattle.gabc_body.specs.declared.ending.InputEnding.TheVariants.{Whole}
use Rattle.gabc_body.specs.Body.{events_onto, code_by, code_at, events_to_stop, cut_of, all_units, fault_of_end, result_by_fault, result_by}
use Rattle.gabc_body.specs.Canonical.{with_positions}
use Rattle.gabc_body.specs.Events.{InComment, texts_by_definition, body_events}
use Rattle.gabc_body.specs.Syllable.{all_syllables, since_close, kept_of}
use Rattle.gabc_body.specs.SyllablesOfUnits.{body_characters}
use Rattle.gabc_body.specs.WithinLimits.{AreWithin}
use Rattle.gabc_body.proofs.score_events.PlainScores.{plain_by, plain_of}
use Rattle.gabc_body.proofs.texts_of_body.SeamsOfCharacters.{size, size_is_sum}
use Rattle.gabc_body.proofs.emitted.StopIsFirst.{stop_is_first}
use Rattle.gabc_body.proofs.emitted.OneListEachCharacter.{events_each}
use Rattle.gabc_body.proofs.stopped_scores.NothingIsKeptAtTheEnd.{none_before}
use Rattle.gabc_body.proofs.within_limits.CodesOfLimits.{by_none, within_by}

module _ (limits : Limits) (head : ℕ) (short : head + 1 ≤ limits.input) where
  -- what was made where no limit is passed
  made_are_within : (before : List BodyEvent) → code_at limits head before ≡ None → AreWithin limits head (with_positions (all_syllables before))
  made_are_within before h =
      within_by limits head (all_syllables before) (kept_of (since_close before)) short (by_none limits head (all_syllables before) (kept_of (since_close before)) h)

  module _ (found : List Finding) (at : Place) (before : List BodyEvent) (none : code_at limits head before ≡ None) where
    end_is_within : (ending : InputEnding) (last : List BodyEvent) (fault : Option Fault) → AreWithin limits head (result_by limits head found at ending before last fault).syllables
    end_is_within ending last (Some fault) = made_are_within before none
    end_is_within Whole last None =
        let all = events_onto last before in
        by (cut_of all) (code_by limits head (all_units all) (kept_of (since_close all))) refl
      where
        by : (o : Option Place) (code : Option Code) → code_by limits head (all_units (events_onto last before)) (kept_of (since_close (events_onto last before))) ≡ code
            → AreWithin limits head (result_by_fault found at before (events_onto last before) (fault_of_end limits head at (events_onto last before) o)).syllables
        by (Some place) code e = made_are_within before none
        by None (Some code) e = rw e (made_are_within before none)
        by None None e =
            let all = events_onto last before in
            rw e (within_by limits head (all_units all) (kept_of (since_close all)) short (by_none limits head (all_units all) (kept_of (since_close all)) e))
    end_is_within _ last None = made_are_within before none

-- before a stop no limit is passed
module _ (ends : (at : Place) (t : List ℕ) → EndsOnce at t) (lines macros : ℕ) (limits : Limits) (head : ℕ) (xs : List Char) where
  abbrev lists : List (List BodyEvent)
  lists = body_events lines macros xs

  none_before_stop : code_at limits head (events_to_stop limits head [] xs lists).before ≡ None
  none_before_stop = elim (stop_is_first limits head [] xs lists (events_each texts_by_definition lines macros InComment xs)) [
    | inl s ↦ ap (code_at limits head) s.before ∙ none_before ends lines macros limits head (length xs) lists s.none
    | inr s ↦ ap (code_at limits head) s.before ∙ none_before ends lines macros limits head (length s.prefix) lists s.none_earlier
  ]

module _ (ends : (at : Place) (t : List ℕ) → EndsOnce at t)
    (heads_short : (limits : Limits) (t : List ℕ) (heads : Heads) → heads_of limits t ≡ Ok heads → (bytes_len (header_lines heads.book) ≤ limits.header) × (bytes_len (canonical_heads heads.book) + 1 ≤ limits.input))
    (limits : Limits) (ending : InputEnding) (t : List ℕ) (book : List (List ℕ × List ℕ)) where
  by_heads : (r : Result Heads HeadFault) → heads_of limits t ≡ r → (plain_by limits ending t r).book ≡ Some book → AreWithin limits (bytes_len (canonical_heads book)) (plain_by limits ending t r).syllables
  by_heads (Err stop) e b = absurd (cc)
  by_heads (Ok heads) e b =
      let same : heads.book ≡ book = cc in
      let lines = nabc_lines_of heads.book in
      let macros = macros_of heads.book in
      let xs = body_characters t in
      let head = bytes_len (canonical_heads heads.book) in
      let r = events_to_stop limits head [] xs (body_events lines macros xs) in
      subst (λ c. AreWithin limits (bytes_len (canonical_heads c)) (plain_by limits ending t (Ok heads)).syllables) same
      (end_is_within limits head (heads_short limits t heads e).1 heads.findings (place_after t) r.before (none_before_stop ends lines macros limits head xs) ending r.last r.fault)

  pub given_are_within : (plain_of limits ending t).book ≡ Some book → AreWithin limits (size (canonical_heads book)) (plain_of limits ending t).syllables
  given_are_within b = subst (λ n. AreWithin limits n (plain_of limits ending t).syllables) (size_is_sum (canonical_heads book)) (by_heads (heads_of limits t) refl b)
