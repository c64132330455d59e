-- The invariant of a stage of headers, by its part.
use Rattle.std.specs.Prelude.{◌≡◌, ℕ, ◌+◌, ◌/◌, ◌≤◌, List, [], ◌∷◌, Option}
use Rattle.std.specs.Str.{chars}
use Rattle.gabc_places.specs.declared.limits.Limits.{Limits}
use Rattle.gabc_headers.specs.declared.events.HeaderEvent.{HeaderEvent}
use Rattle.gabc_headers.specs.declared.header_machine.HeaderMachine.{HeaderMachine}
use Rattle.gabc_headers.specs.declared.header_machine.HeaderStep.TheVariants.{Read}
use Rattle.gabc_headers.specs.declared.header_stage.HeadPart.{HeadPart}
use Rattle.gabc_headers.specs.declared.header_stage.HeadPart.TheVariants.{InHeaders, After, Stopped, Over}
use Rattle.gabc_headers.specs.machine.Collected.{collected_with_all, none}
use Rattle.gabc_headers.specs.machine.EntryMap.{EntryMapState, AreWithin, named_entries}
use Rattle.gabc_headers.specs.machine.Events.{with_event}
use Rattle.gabc_headers.specs.machine.HeaderMachine.{IsBounded, fresh_machine, push_one}

-- From the machine r, with these events before, the text is read without an end: then the machine
-- is `last`, and the events are `all`.
abbrev pub Takes : HeaderMachine → List HeaderEvent → List ℕ → HeaderMachine → List HeaderEvent → Type 0
Takes r es [] last all = (r ≡ last) × (es ≡ all)
Takes r es (c ∷ t) last all =
    (next : HeaderMachine) × ((e : Option HeaderEvent) × (push_one r c ≡ (next, Read e)) × Takes next (with_event es e) t last all)

-- a header that counts has at least three bytes of the text: a name's, the `:` and a `;`
abbrev pub headers_within : Limits → ℕ
headers_within limits = limits.header / 3 + 1

-- In the headers: the machine has read the text, and the headers that it emitted are in the map.
pub record IsReading (limits : Limits) (text : List ℕ) (room : ℕ) (machine : HeaderMachine) (headers : EntryMapState) : Type 0 where
  pub events : List HeaderEvent
  pub taken : Takes (fresh_machine limits.header) [] (chars text) machine events
  pub bounded : IsBounded machine
  pub fits : limits.header + 1 ≤ room
  pub put : named_entries headers.0 ≡ (collected_with_all text events none).headers
  pub limit : headers.1 ≡ headers_within limits

-- The memory stays reserved: for the text, and for the headers that count. And their values lie in
-- the text.
pub record KeepsHeaders (limits : Limits) (text : List ℕ) (space : ℕ) (headers : EntryMapState) : Type 0 where
  pub text_fits : limits.header + 1 ≤ space
  pub headers_fit : headers.1 ≡ headers_within limits
  pub within : AreWithin text headers.0

abbrev pub IsStageIn : HeadPart → Limits → List ℕ → ℕ → HeaderMachine → EntryMapState → Type 0
IsStageIn InHeaders limits text space machine headers = IsReading limits text space machine headers
IsStageIn After limits text space machine headers = KeepsHeaders limits text space headers
IsStageIn Stopped limits text space machine headers = KeepsHeaders limits text space headers
IsStageIn Over limits text space machine headers = KeepsHeaders limits text space headers

-- after the last event
abbrev pub part_over : HeadPart → HeadPart
part_over InHeaders = Stopped
part_over After = Over
part_over Stopped = Stopped
part_over Over = Over
