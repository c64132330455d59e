-- The part machine's steps, as the code has them; `at` is the point of the character, and `next`
-- the byte after it. The contract of `events_of_headers` does not rest on them: they are proved to
-- do what it says.
use Rattle.std.specs.Prelude.{ℕ, ◌+◌, ◌-◌, Bool, true, false, ◌&&◌, cond, nat_lt, nat_le, Option, Some, None}
use Rattle.gabc_places.specs.declared.place.Span.{Span}
use Rattle.gabc_headers.specs.declared.characters.HeaderChar.{HeaderChar}
use Rattle.gabc_headers.specs.declared.characters.HeaderChar.TheVariants.{Semicolon, Percent, Blank, LineEnd, Colon, Other}
use Rattle.gabc_headers.specs.declared.characters.Run.{Run}
use Rattle.gabc_headers.specs.declared.characters.Run.TheVariants.{Text}
use Rattle.gabc_headers.specs.declared.part_machine.Trim.{Trim}
use Rattle.gabc_headers.specs.declared.part_machine.PartState.{PartState}
use Rattle.gabc_headers.specs.declared.part_machine.PartState.TheVariants.{Name, Skip, Value}
use Rattle.gabc_headers.specs.declared.part_machine.PartMachine.{PartMachine}
use Rattle.gabc_headers.specs.declared.events.HeaderEvent.{HeaderEvent}
use Rattle.gabc_headers.specs.declared.events.HeaderEvent.TheVariants.{LeftOut, Header}
use Rattle.gabc_headers.specs.machine.Characters.{next_run, is_mark_run}

abbrev pub trim_at : ℕ → Trim
trim_at at = record { from = at; to = at; leading = true }

abbrev pub next_trim : Trim → ℕ → Bool → Bool → Trim
next_trim t next lead last = record { from = cond (t.leading && lead) next t.from; to = cond last t.to next; leading = t.leading && lead }

abbrev pub span_of : Trim → Span
span_of t = record { from = t.from; to = cond (nat_lt t.to t.from) t.from t.to }

-- a name has 1 to 64 bytes
abbrev pub is_good_span : Span → Bool
is_good_span s = nat_lt s.from s.to && nat_le (s.to - s.from) 64

abbrev pub at_line_start : ℕ → ℕ → PartMachine
at_line_start line at = record { state = Name; line = line; trim = trim_at at; header = line; name = None }

abbrev pub header_of : ℕ → Trim → ℕ → Option Span → Option HeaderEvent
header_of line t at None = None
header_of line t at (Some name) = Some (Header line name (span_of t) at)

abbrev pub event_at_end : PartMachine → ℕ → Option HeaderEvent
event_at_end r at = header_of r.header r.trim at r.name

abbrev pub with_trim : PartMachine → ℕ → Bool → Bool → PartMachine
with_trim r next lead last = record r { trim = next_trim r.trim next lead last }

abbrev pub value_begun_at : PartMachine → ℕ → Bool → PartMachine
value_begun_at r next good = record {
  state = Value false Text;
  line = r.line;
  trim = trim_at next;
  header = r.line;
  name = cond good (Some (span_of r.trim)) None;
}

abbrev pub name_step : PartMachine → HeaderChar → ℕ → ℕ → Bool → PartMachine × Option HeaderEvent
name_step r LineEnd at next good = (at_line_start (r.line + 1) next, cond r.trim.leading None (Some (LeftOut r.line at)))
name_step r Percent at next good = (cond r.trim.leading (record r { state = Skip }) (with_trim r next false false), None)
name_step r Colon at next good = (value_begun_at r next good, cond good None (Some (LeftOut r.line at)))
name_step r Blank at next good = (with_trim r next true true, None)
name_step r Semicolon at next good = (with_trim r next false false, None)
name_step r Other at next good = (with_trim r next false false, None)

abbrev pub skip_step : PartMachine → HeaderChar → ℕ → PartMachine × Option HeaderEvent
skip_step r LineEnd next = (at_line_start (r.line + 1) next, None)
skip_step r kind next = (r, None)

abbrev pub in_value : PartMachine → Bool → Run → ℕ → Bool → Bool → PartMachine
in_value r long run next lead last = record r { state = Value long run; trim = next_trim r.trim next lead last }

abbrev pub next_line : PartMachine → ℕ → PartMachine
next_line r next = record r { state = Value true Text; line = r.line + 1; trim = next_trim r.trim next true true }

abbrev pub value_step : PartMachine → Bool → Run → HeaderChar → ℕ → ℕ → PartMachine × Option HeaderEvent
value_step r long run LineEnd at next = cond (is_mark_run run) (at_line_start (r.line + 1) next, event_at_end r at) (next_line r next, None)
value_step r long run Percent at next = cond (is_mark_run run) (record r { state = Skip }, event_at_end r at) (in_value r long Text next false false, None)
value_step r long run Blank at next = (in_value r long (next_run run long Blank) next true true, None)
value_step r long run Semicolon at next = (in_value r long (next_run run long Semicolon) next false true, None)
value_step r long run kind at next = (in_value r long Text next false false, None)

abbrev pub step_in : PartState → PartMachine → HeaderChar → ℕ → ℕ → Bool → PartMachine × Option HeaderEvent
step_in Name r kind at next good = name_step r kind at next good
step_in Skip r kind at next good = skip_step r kind next
step_in (Value long run) r kind at next good = value_step r long run kind at next

abbrev pub next_part_machine : PartMachine → HeaderChar → ℕ → ℕ → Bool → PartMachine × Option HeaderEvent
next_part_machine r kind at next good = step_in r.state r kind at next good

-- the line of the header whose value would be open if the text ended here
abbrev pub open_in : PartState → ℕ → Option ℕ
open_in Name line = None
open_in Skip line = None
open_in (Value long run) line = cond (is_mark_run run) None (Some line)
