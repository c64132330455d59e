-- The machine's pushes, as the code has them. The contract of `events_of_headers` does not rest on
-- them: they are proved to do what it says.
use Rattle.std.specs.Prelude.{ℕ, ◌+◌, ◌<◌, ◌≤◌, ◌^◌, ◌==◌, true, false, ◌&&◌, cond, nat_lt, Option, None}
use Rattle.std.specs.Char.{len_utf8}
use Rattle.gabc_places.specs.Place.{next_place}
use Rattle.gabc_headers.specs.declared.events.HeaderEvent.{HeaderEvent}
use Rattle.gabc_headers.specs.declared.events.HeaderEnding.{HeaderEnding}
use Rattle.gabc_headers.specs.declared.events.HeaderEnding.TheVariants.{Score, Limit, Text}
use Rattle.gabc_headers.specs.declared.part_machine.PartMachine.{PartMachine}
use Rattle.gabc_headers.specs.declared.header_machine.HeaderMachine.{HeaderMachine}
use Rattle.gabc_headers.specs.declared.header_machine.HeaderStep.{HeaderStep}
use Rattle.gabc_headers.specs.declared.header_machine.HeaderStep.TheVariants.{Read, Ended}
use Rattle.gabc_headers.specs.machine.Characters.{header_char_of}
use Rattle.gabc_headers.specs.machine.PartMachine.{at_line_start, next_part_machine, span_of, is_good_span, open_in}

-- no more characters than bytes, and no more lines and columns than characters and one
pub record IsBounded (r : HeaderMachine) : Type 0 where
  pub limit : r.limit < 2 ^ 32
  pub bytes : r.bytes ≤ r.limit
  pub point : r.point ≤ r.bytes
  pub line : r.parts.line ≤ r.point + 1
  pub place_line : r.place.line ≤ r.point + 1
  pub place_column : r.place.column ≤ r.point + 1

abbrev pub fresh_machine : ℕ → HeaderMachine
fresh_machine limit = record { parts = at_line_start 1 0; limit = limit; point = 0; bytes = 0; place = record { line = 1; column = 1 }; at_line = true; held = false }

abbrev pub part_step : HeaderMachine → ℕ → PartMachine × Option HeaderEvent
part_step r c = next_part_machine r.parts (header_char_of c) r.point (r.bytes + len_utf8 c) (is_good_span (span_of r.parts.trim))

abbrev pub machine_with : HeaderMachine → ℕ → PartMachine → HeaderMachine
machine_with r c parts = record r { parts = parts; point = r.point + 1; bytes = r.bytes + len_utf8 c; place = next_place r.place c; at_line = c == 10 }

abbrev pub take_one : HeaderMachine → ℕ → HeaderMachine × HeaderStep
take_one r c = cond (nat_lt r.limit (r.bytes + len_utf8 c)) (r, Ended (Limit r.place)) (machine_with r c (part_step r c).0, Read (part_step r c).1)

abbrev pub then_take : HeaderMachine → HeaderStep → ℕ → HeaderMachine × HeaderStep
then_take r (Ended end) c = (r, Ended end)
then_take r (Read event) c = take_one r c

-- the step after a pending `%` at the beginning of a line
abbrev pub held_push : HeaderMachine → ℕ → HeaderMachine × HeaderStep
held_push r c = cond (c == 37) (r, Ended (Score r.place (r.bytes + 2) (open_in r.parts.state r.parts.header)))
    (then_take (take_one (record r { held = false }) 37).0 (take_one (record r { held = false }) 37).1 c)

abbrev pub push_one : HeaderMachine → ℕ → HeaderMachine × HeaderStep
push_one r c = cond r.held (held_push r c) (cond (r.at_line && (c == 37)) (record r { held = true }, Read None) (take_one r c))

abbrev pub end_here : HeaderMachine → HeaderEnding
end_here r = Text (cond r.held (next_place r.place 37) r.place) (open_in r.parts.state r.parts.header)
