-- In front of the first text no syllable is whole.
use Rattle.std.proofs.Common.{◌≡◌, ℕ, ◌-◌, List, true, false, length, take, refl, sym, ◌∙◌, arith}
use Rattle.std.proofs.lemmas.Bool.{true≢false}
use Rattle.gabc_places.specs.declared.place.Place.{Place}
use Rattle.gabc_score.specs.declared.preceding.Preceding.{Preceding}
use Rattle.gabc_score.specs.declared.body_stage.BodyPart.{BodyPart}
use Rattle.gabc_body.specs.declared.events.BodyEvent.{BodyEvent}
use Rattle.gabc_score.specs.declared.score_machine.ScoreMachine.{ScoreMachine}
use Rattle.gabc_score.specs.declared.score_machine.ScorePart.TheVariants as score_part
use Rattle.gabc_score.specs.Before.{with_placed}
use Rattle.gabc_score.specs.ScoreReports.{IsInFront, is_in_comment, is_in_front, moved_part}
use Rattle.gabc_body.specs.witness.BodyBuilder.{with_all}
use Rattle.gabc_body.specs.witness.Gatherer.{Gathered}
use Rattle.gabc_score.specs.machine.PartFronts.{PartLeavesFront}
use Rattle.gabc_score.specs.machine.ScoreMachine.{shown, IsInBody, NoneIsWhole}
use Rattle.gabc_score.specs.machine.ScoreStage.{placed_after, with_held}
use Rattle.gabc_score.proofs.resuming.BeginsAnywhere.{front_reads}
use Rattle.gabc_places.specs.declared.place.Char.{Char}
use Rattle.gabc_notes.specs.declared.stage.NoteEvent.{NoteEvent}
use Rattle.gabc_score.specs.machine.PartSteps.{PartSteps, SnippetSteps}
use Rattle.gabc_score.specs.machine.PartSteps as step

-- a part in which no comment is open is not in front
pub no_comment_no_front : {A : Type 0} (b : BodyPart) → is_in_comment b ≡ false → is_in_front b ≡ true → A
no_comment_no_front b e front = grind arith

-- the place of the next character does not count
pub front_moved : (at : Place) (b : BodyPart) → is_in_front (moved_part at b) ≡ is_in_front b
front_moved at b = grind arith

-- After a character the comment is still open only if nothing has come.
pub front_past : (before after : BodyPart) (p later : Preceding) (is_preceded : _) (g h turned : Gathered) (now : List BodyEvent) → PartLeavesFront before after now → (is_in_front before ≡ true → NoneIsWhole p g)
    → h ≡ with_all g now → later ≡ with_placed p (take (length h.made - 1) (placed_after is_preceded h.made)) → turned ≡ with_held h → is_in_front after ≡ true → NoneIsWhole later turned
front_past before after p later is_preceded g h turned now leaves was is there turns front = grind arith

-- a machine in front has read nothing
pub stands_there : (m : ScoreMachine) → m.part ≡ score_part.Body → IsInBody m → is_in_front m.body.part ≡ true → IsInFront (shown m)
stands_there m body h front = grind (arith, front_reads)

-- ---- a part takes a character

snippet_front : {x : Char} {line : ℕ} {opened : Place} {before after : BodyPart} {es : List NoteEvent} → SnippetSteps x line opened before es after → is_in_front after ≡ false
snippet_front h = grind arith

pub leaves_front : {lines macros : ℕ} {x : Char} {before after : BodyPart} {now : List BodyEvent} → PartSteps lines macros x before now after → PartLeavesFront before after now
leaves_front (step.in_front h) = λ front. (refl, refl)
leaves_front (step.leaves_front h s) = λ front. absurd (true≢false (sym (leaves_front s front).0))
leaves_front (step.text_goes h e) = λ front. absurd (true≢false (sym front))
leaves_front (step.text_ends {after = after} h e b) = no_comment_no_front after b.tells.1
leaves_front (step.snippet_goes s n c) = λ front. absurd (true≢false (sym front ∙ snippet_front s))
leaves_front (step.snippet_next {after = after} s n b) = no_comment_no_front after b.tells.1
leaves_front (step.snippet_closes s n c) = λ front. absurd (true≢false (sym front))
