-- Stages that report the same emit the same of whatever follows.
use Rattle.std.proofs.Common.{arith, ◌≡◌, ℕ, List, [], ◌∷◌, ◌++◌, Bool, true, false, refl, sym, ap, ◌∙◌}
use Rattle.gabc_places.specs.declared.place.Char.{Char}
use Rattle.gabc_places.specs.declared.place.Place.{Place}
use Rattle.gabc_places.specs.StageLaw.{silence}
use Rattle.gabc_notes.specs.Events.{in_raw}
use Rattle.gabc_notes.specs.witness.ItemMachine.{events_left}
use Rattle.gabc_notes.specs.witness.StageEvents.{char_facts, role_in, before_in, events_in, event_list, raw_with, events_following, events_after}
use Rattle.gabc_notes.specs.StageReports.{told}
use Rattle.gabc_notes.specs.declared.stage.Before.{Before}
use Rattle.gabc_notes.specs.declared.stage.CharRole.{CharRole}
use Rattle.gabc_notes.specs.declared.stage.CharRole.TheVariants.{Silent, Comment, Ends, Keep, LeaveOut}
use Rattle.gabc_notes.specs.declared.stage.NoteEvent.{NoteEvent}
use Rattle.gabc_notes.specs.declared.stage.NoteStage.{NoteStage}

-- outside raw no place matters
place_aside : (split : Bool) (macros : ℕ) (xs : List Char) (kept raw : List ℕ) (b : Before) (p : Place) → in_raw kept ≡ false
    → events_after split macros kept raw b xs ≡ events_after split macros kept raw (record b { place = p }) xs
place_aside split macros [] kept raw b p e = rw e refl
place_aside split macros (x ∷ xs) kept raw b p e = by (role_in split b.comment (char_facts kept raw x.c) x.c) (place_aside split macros xs kept raw)
  where
    by : (r : CharRole) → ((b : Before) (p : Place) → in_raw kept ≡ false → events_after split macros kept raw b xs ≡ events_after split macros kept raw (record b { place = p }) xs)
        → event_list (events_in r macros b (char_facts kept raw x.c) x)
        ∷ events_following r (silence xs) (events_after split macros (kept ++ x.c ∷ []) (raw_with (char_facts kept raw x.c) raw x.c) (before_in r b (char_facts kept raw x.c) x) xs) (events_after split macros kept raw (before_in r b (char_facts kept raw x.c) x) xs)
        ≡ event_list (events_in r macros (record b { place = p }) (char_facts kept raw x.c) x)
        ∷ events_following r (silence xs) (events_after split macros (kept ++ x.c ∷ []) (raw_with (char_facts kept raw x.c) raw x.c) (before_in r (record b { place = p }) (char_facts kept raw x.c) x) xs) (events_after split macros kept raw (before_in r (record b { place = p }) (char_facts kept raw x.c) x) xs)
    by Silent again = ap (λ (lists : List (List NoteEvent)). [] ∷ lists) (again b p e)
    by Comment again = ap (λ (lists : List (List NoteEvent)). [] ∷ lists) (again (record b { comment = true }) p e)
    by LeaveOut again = ap (λ (lists : List (List NoteEvent)). event_list (events_in LeaveOut macros b (char_facts kept raw x.c) x) ∷ lists) (again (record b { comment = false }) p e)
    by Ends again = refl
    by Keep again = rw e refl

told_emits : (s : NoteStage) (xs : List Char) → events_left s xs ≡ events_left (told s) xs
told_emits s xs = grind (arith, place_aside)

pub told_suffices : (s r : NoteStage) (xs : List Char) → told s ≡ told r → events_left s xs ≡ events_left r xs
told_suffices s r xs e = told_emits s xs ∙ ap (λ (x : NoteStage). events_left x xs) e ∙ sym (told_emits r xs)
