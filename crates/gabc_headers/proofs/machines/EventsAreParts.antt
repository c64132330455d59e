-- What the part machine's events are parts of, where its spans count characters.
use Rattle.std.proofs.Common.{◌≡◌, ℕ, List, [], ◌∷◌, cond, Option, Some, None, arith, slice_range}
use Rattle.gabc_places.specs.declared.place.Span.{Span}
use Rattle.gabc_headers.specs.declared.part_machine.PartMachine.{PartMachine}
use Rattle.gabc_headers.specs.declared.part_machine.PartState.{PartState}
use Rattle.gabc_headers.specs.declared.part_machine.PartState.TheVariants.{Name, Skip, Value}
use Rattle.gabc_headers.specs.declared.part_machine.Trim.{Trim}
use Rattle.gabc_headers.specs.declared.events.HeaderEvent.{HeaderEvent}
use Rattle.gabc_headers.specs.declared.events.HeaderEvent.TheVariants.{LeftOut, Header}
use Rattle.gabc_headers.specs.Parts.{HeaderPart, left_out, header}
use Rattle.gabc_headers.specs.machine.Characters.{is_mark_run}
use Rattle.gabc_headers.specs.machine.PartMachine.{span_of, event_at_end}

-- the text that a span holds
abbrev pub text_at : List ℕ → Span → List ℕ
text_at text s = slice_range text s.from s.to

-- the part that an event is, its spans read in the text
abbrev pub seen : List ℕ → Option HeaderEvent → List HeaderPart
seen text None = []
seen text (Some (LeftOut k p)) = left_out k p ∷ []
seen text (Some (Header k name value p)) = header k (text_at text name) (text_at text value) p ∷ []

-- what the end of the text makes known
abbrev pub last_in : PartState → PartMachine → ℕ → Option HeaderEvent
last_in Name r at = cond r.trim.leading None (Some (LeftOut r.line at))
last_in Skip r at = None
last_in (Value long run) r at = cond (is_mark_run run) (event_at_end r at) None

-- the span of a trim, which is never the wrong way round, holds the same text
pub span_slice : (text : List ℕ) (t : Trim) → text_at text (span_of t) ≡ slice_range text t.from t.to
span_slice text t = grind arith
