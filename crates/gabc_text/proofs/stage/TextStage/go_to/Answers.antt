use Rattle.std.proofs.Common.{◌≡◌, Bool, true, false, if◌then◌else◌, sym, ap, ◌∙◌}
use Rattle.gabc_places.specs.declared.place.Place.{Place}
use Rattle.gabc_text.specs.StageReports.{opener_of}
use Rattle.gabc_text.specs.machine.StageReports.{is_open}
use Rattle.gabc_text.specs.declared.stage.TextStage.{TextStage}
use Rattle.gabc_text.proofs.resuming.NextPlaceDeterminesKeptPlaces.{is_next}
use Rattle.gabc_text.proofs.resuming.EndedAndFreshStagesHaveNothingOpen.{opener_moved}
use Rattle.gabc_text.proofs.stage.TextStage.go_to.Goals as goal
use Rattle.gabc_text.proofs.stage.TextStage.go_to.Goals.{then-not-is_open, else-not-is_open}

stays : (s : TextStage) (at : Place) (b : Bool) → is_open s.state ≡ b → opener_of (record s { progress = record s.progress { place = if b then s.progress.place else at; next = at } }) ≡ opener_of s
stays s at b e = ap (λ (d : Bool). opener_of (record s { progress = record s.progress { place = if d then s.progress.place else at; next = at } })) (sym e) ∙ opener_moved s at

pub returns-clause-opener : goal.returns-clause-opener
returns-clause-opener c = elim c.if-not-is_open.branch [
  | then-not-is_open w ↦ rw w.self-is (stays c.args.self.now c.args.place false (sym c.is_open.ensures ∙ w.if-not-is_open.true))
  | else-not-is_open w ↦ rw w.self-is (stays c.args.self.now c.args.place true (sym c.is_open.ensures ∙ w.if-not-is_open.false))
]

pub returns-clause-next : goal.returns-clause-next
returns-clause-next c = elim c.if-not-is_open.branch [
  | then-not-is_open w ↦ rw w.self-is (is_next (record c.args.self.now { progress = record c.args.self.now.progress { place = c.args.place; next = c.args.place } }))
  | else-not-is_open w ↦ rw w.self-is (is_next (record c.args.self.now { progress = record c.args.self.now.progress { next = c.args.place } }))
]
