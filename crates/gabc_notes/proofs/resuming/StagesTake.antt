-- A stage takes each character, is cut at its opener, and that may stand anywhere.
use Rattle.std.proofs.Common.{◌≡◌, ℕ, List, [], ◌∷◌, Bool, true, false, Some, None, is_some, unwrap_or, refl, ap, ◌∙◌, arith, if◌then◌else◌}
use Rattle.gabc_places.specs.declared.place.Char.{Char}
use Rattle.gabc_places.specs.declared.place.Place.{Place}
use Rattle.gabc_places.specs.StageLaw.{silence}
use Rattle.gabc_notes.specs.Events.{in_raw}
use Rattle.gabc_notes.specs.SnippetRead.{kept_of}
use Rattle.gabc_notes.specs.witness.ItemMachine.{example, example_prefix}
use Rattle.gabc_notes.specs.witness.Keeps.{IsCutAtOpener, Keeps, OpensThere, Takes, is_end_after}
use Rattle.gabc_notes.specs.witness.StageEvents.{events_after}
use Rattle.gabc_notes.specs.StageReports.{comment_of, opener_of}
use Rattle.gabc_notes.specs.machine.StageAfter.{events_of_push, stage_after_one}
use Rattle.gabc_notes.specs.declared.stage.NoteEnd.TheVariants.{Cut}
use Rattle.gabc_notes.specs.declared.stage.NoteEvent.TheVariants.{Ended}
use Rattle.gabc_notes.specs.declared.stage.NoteStage.{NoteStage}
use Rattle.gabc_notes.proofs.resuming.KeptTextGivesStage.{emits_on}
use Rattle.gabc_notes.proofs.resuming.StagesKeep.{push_keeps}

-- ---- a `%`

module _ (split : Bool) (macros : ℕ) (s : NoteStage) (x : Char) (k : List ℕ) (h : Keeps split macros s k) (is : x.c ≡ 37) where
  goes_on : is_end_after split k (comment_of s) x.c ≡ false
  goes_on = grind arith

  percent_opens : kept_of (events_of_push s x) ≡ [] → comment_of (stage_after_one s x) ≡ true
  percent_opens none = grind arith

pub takes : (s : NoteStage) (x : Char) → s.ended ≡ false → Takes s x
takes s x on = record {
  events = events_of_push s x;
  after = stage_after_one s x;
  emits = λ xs. emits_on s x xs on;
  keeps = push_keeps s x;
  percent = λ split macros k h is none. percent_opens split macros s x k h is none;
}

-- ---- the end, and the place of the opener

pub cut_at_opener : (s : NoteStage) → s.ended ≡ false → IsCutAtOpener s
cut_at_opener s on = record {
  bytes = s.before.kept;
  emits = ap (λ (b : Bool). if b then silence {I = Char} [] else events_after s.split s.macros (example s.state) (example_prefix s.name) s.before []) on ∙ by (in_raw (example s.state));
}
  where
    by : (b : Bool) → (Ended (Cut (if b then s.before.place else record { line = 0; column = 0 })) s.before.kept ∷ []) ∷ []
        ≡ (Ended (Cut (unwrap_or (if b then Some s.before.place else None) (record { line = 0; column = 0 }))) s.before.kept ∷ []) ∷ []
    by b = grind arith

pub opens_there : (split : Bool) (macros : ℕ) (s : NoteStage) (k : List ℕ) (at : Place) → Keeps split macros s k → is_some (opener_of s) ≡ true → OpensThere split macros s k at
opens_there split macros s k at h opened = record {
  stage = record s { before = record s.before { place = at } };
  keeps = record { goes_on = h.goes_on; outside = h.outside; alike = h.alike; whole = h.whole };
  opener = by (in_raw (example s.state)) opened;
  comment = refl;
}
  where
    by : (b : Bool) → is_some (if b then Some s.before.place else None) ≡ true → (if b then Some at else None) ≡ Some at
    by b e = grind arith
