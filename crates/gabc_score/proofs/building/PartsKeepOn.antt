-- The parts of the kept text go on with what a part emits of a character, and what it makes.
use Rattle.std.proofs.Common.{ℕ, List, [], refl}
use Rattle.gabc_places.specs.declared.place.Char.{Char}
use Rattle.gabc_places.specs.declared.place.Place.{Place}
use Rattle.gabc_text.specs.TextStage.{fresh_stage}
use Rattle.gabc_text.proofs.resuming.StagesKeep.{fresh_keeps}
use Rattle.gabc_score.specs.declared.body_stage.BodyPart.{BodyPart}
use Rattle.gabc_score.specs.declared.body_stage.BodyPart.TheVariants as part
use Rattle.gabc_body.specs.declared.events.BodyEvent.{BodyEvent}
use Rattle.gabc_body.specs.Events.{after_mark}
use Rattle.gabc_score.specs.machine.PartKeeps.{PartKeepsOn}
use Rattle.gabc_score.specs.machine.PartMakes.{PartMakes}
use Rattle.gabc_score.specs.machine.PartSteps.{PartSteps}
use Rattle.gabc_score.specs.machine.PartSteps as step
use Rattle.gabc_score.proofs.building.PartsMakeSyllables.{close_makes, next_makes, notes_make_none, reading_begins, text_makes}
use Rattle.gabc_score.proofs.building.PartsOfKeptNotes.{notes_keep_on, notes_end_on, notes_close_on}
use Rattle.gabc_score.proofs.building.PartsOfKeptText.{read_on, text_ends_on, text_keeps_on}

pub keeps_on : {lines macros : ℕ} {x : Char} {before after : BodyPart} {now : List BodyEvent} → PartSteps lines macros x before now after → PartKeepsOn lines macros before after now
keeps_on {lines} {macros} (step.in_front h) = λ spans g fits r. read_on lines macros part.Comment part.Comment spans g g refl r
keeps_on {x = x} (step.leaves_front h s) = λ spans g fits r. keeps_on s spans g fits (reading_begins x.place r)
keeps_on {lines} {macros} {x} (step.text_goes {s} {t} {es} h e) = text_keeps_on lines macros s t x.c es h.keeps e
keeps_on {lines} {macros} {x} (step.text_ends {s} {t} {es} {after} h e b) = text_ends_on lines macros s t x.c es after h.keeps e (λ u later. b.keeps u [] later)
keeps_on {lines} {macros} (step.snippet_goes s n c) = notes_keep_on lines macros s n c
keeps_on {lines} {macros} (step.snippet_next {after = after} s n b) = notes_end_on lines macros s after n b.keeps
keeps_on {lines} {macros} {x} (step.snippet_closes s n c) = notes_close_on lines macros s (part.Text (fresh_stage (after_mark x.place))) c (fresh_keeps (after_mark x.place))

first_makes : (lines macros : ℕ) (at : Place) (now : List BodyEvent) → PartMakes lines macros (part.Text (fresh_stage at)) now → PartMakes lines macros part.Comment now
unfolding PartMakes
first_makes lines macros at now m p g fits r = m p g fits (reading_begins at r)

pub makes : {lines macros : ℕ} {x : Char} {before after : BodyPart} {now : List BodyEvent} → PartSteps lines macros x before now after → PartMakes lines macros before now
makes {lines} {macros} (step.in_front h) = text_makes lines macros part.Comment []
makes {lines} {macros} {x} {now = now} (step.leaves_front h s) = first_makes lines macros x.place now (makes s)
makes {lines} {macros} (step.text_goes {s} {es = es} h e) = text_makes lines macros (part.Text s) es
makes {lines} {macros} (step.text_ends {s} {es = es} h e b) = text_makes lines macros (part.Text s) es
makes {lines} {macros} (step.snippet_goes {line} {opened} {before} {es = es} s n c) = notes_make_none lines macros line opened before es c
makes {lines} {macros} (step.snippet_next s n b) = next_makes lines macros s n
makes {lines} {macros} (step.snippet_closes s n c) = close_makes lines macros s c
