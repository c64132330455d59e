-- What was gathered after syllables which another stage has read: nothing.
use Rattle.std.proofs.Common.{◌≡◌, ℕ, ◌||◌, Bool, false, [], None, is_some, refl, arith}
use Rattle.std.proofs.lemmas.List.Elements.{All-nil}
use Rattle.gabc_text.specs.witness.Keeps as text
use Rattle.gabc_body.specs.declared.before.Before.{Before}
use Rattle.gabc_score.specs.declared.body_stage.BodyPart.{BodyPart}
use Rattle.gabc_score.specs.Before.{preceding_of}
use Rattle.gabc_body.specs.witness.Gatherer.{nothing_gathered}
use Rattle.gabc_places.specs.declared.limits.Limits.{Limits}
use Rattle.gabc_body.specs.witness.BodyBuilder.{code_in}
use Rattle.gabc_score.proofs.score_events.EventsStayWithinBounds.{none_passed}
use Rattle.gabc_score.specs.machine.PartKeeps.{in_text, IsReading, PartKeeps}
use Rattle.gabc_score.specs.machine.Preceded.{EndsBefore, IsPreceded}
use Rattle.gabc_score.specs.machine.Resumed.{first_sounded, gathered_resumed}

sounds_then : (b : Bool) → is_some (first_sounded b) ≡ (b || false)
sounds_then b = grind arith

pub preceded_after : (b : Before) (limit : ℕ) → IsPreceded (preceding_of b) (gathered_resumed b (nothing_gathered limit 0))
preceded_after b limit = record { follows = refl; total = refl; sounded = sounds_then b.sounded; snippets = All-nil (EndsBefore 0); from = omega arith }

pub reads_after : (lines macros limit : ℕ) (p : BodyPart) (b : Before) → PartKeeps lines macros p (in_text []) → IsReading lines macros p b.spans (gathered_resumed b (nothing_gathered limit 0))
unfolding text.said_of
reads_after lines macros limit p b keeps = record { parts = in_text []; keeps = keeps; said = record { builder = refl; eu = refl; nlba = refl }; kept = refl; from = refl; uncut = refl }

pub nothing_passes : (limits : Limits) (b : Before) (limit : ℕ) → code_in limits (gathered_resumed b (nothing_gathered limit 0)) ≡ None
nothing_passes limits b limit = none_passed limits (gathered_resumed b (nothing_gathered limit 0)) (record { kept = omega arith; over = refl; file = λ some. absurd (cc some) })
