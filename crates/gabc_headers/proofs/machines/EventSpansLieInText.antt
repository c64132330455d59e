-- The part machine over the headers' own text: its spans lie in what is read, its events are known where they are given,
-- and what it has not emitted yet becomes known later.
use Rattle.std.proofs.Common.{◌≡◌, ℕ, ◌+◌, ◌≤◌, List, [], ◌∷◌, ◌++◌, drop, Bool, true, false, cond, Option, Some, None, refl, sym, ap, ◌∙◌, arith, append_assoc, slice_range, drop-drop, not, le_refl}
use Rattle.gabc_places.specs.declared.place.Span.{Span}
use Rattle.gabc_headers.specs.Parts.{HeaderPart, is_good_name}
use Rattle.gabc_headers.specs.declared.characters.Run.{Run}
use Rattle.gabc_headers.specs.declared.characters.HeaderChar.{HeaderChar}
use Rattle.gabc_headers.specs.declared.characters.HeaderChar.TheVariants.{Percent, LineEnd}
use Rattle.gabc_headers.specs.declared.part_machine.PartState.{PartState}
use Rattle.gabc_headers.specs.declared.part_machine.PartState.TheVariants.{Name, Skip, Value}
use Rattle.gabc_headers.specs.declared.part_machine.PartMachine.{PartMachine}
use Rattle.gabc_headers.specs.declared.part_machine.Trim.{Trim}
use Rattle.gabc_headers.specs.declared.events.HeaderEvent.{HeaderEvent}
use Rattle.gabc_headers.specs.declared.events.HeaderEvent.TheVariants.{LeftOut, Header}
use Rattle.gabc_headers.specs.machine.Characters.{header_char_of, is_mark_run}
use Rattle.gabc_headers.specs.machine.PartMachine.{next_trim, span_of, at_line_start, event_at_end, name_step, skip_step, value_step, next_part_machine, open_in}
use Rattle.gabc_headers.specs.machine.Events.{IsLate, AreLate, open_part}
use Rattle.gabc_headers.proofs.machines.EventsAreParts.{seen, last_in}
use Rattle.gabc_headers.proofs.machines.SpansOfBytes.{span_order}
use Rattle.gabc_headers.proofs.machines.PartsAfterState.{StandsIn}
use Rattle.gabc_headers.proofs.machines.OneStepByCharacter.{one_step, the_end}

-- ---- the spans lie in what is read

-- the span, if there is one, is in order and ends at i or before
abbrev pub SpanIn : ℕ → Option Span → Type 0
SpanIn i None = Unit {0}
SpanIn i (Some s) = (s.from ≤ s.to) × (s.to ≤ i)

-- all spans that the machine keeps end at i or before
pub record Near (i : ℕ) (rd : PartMachine) : Type 0 where
  pub from : rd.trim.from ≤ i
  pub to : rd.trim.to ≤ i
  pub name : SpanIn i rd.name

-- the event is known at i, its spans are in order and lie before
abbrev pub EventAt : ℕ → Option HeaderEvent → Type 0
EventAt i None = Unit {0}
EventAt i (Some (LeftOut k p)) = p ≡ i
EventAt i (Some (Header k name value p)) = (name.from ≤ name.to) × (name.to ≤ i) × (value.from ≤ value.to) × (value.to ≤ i) × (p ≡ i)

-- a step at i leaves the machine near i + 1 and emits what is known at i
abbrev pub NearAt : ℕ → PartMachine × Option HeaderEvent → Type 0
NearAt i s = Near (i + 1) s.0 × EventAt i s.1

-- what ends at i or before ends at i + 1 or before
span_next : (i : ℕ) (o : Option Span) → SpanIn i o → SpanIn (i + 1) o
span_next i o h = grind arith

-- the span of a trim ends no later than both of its ends
span_to : (i : ℕ) (t : Trim) → t.from ≤ i → t.to ≤ i → (span_of t).to ≤ i
span_to i t a b = grind arith

-- a machine at the start of a line is near
pub near_fresh : (line i : ℕ) → Near i (at_line_start line i)
near_fresh line i = record { from = le_refl i; to = le_refl i; name = tt }

module _ (rd : PartMachine) (i : ℕ) (h : Near i rd) where
  -- a trim begins at the next character or before
  from_after : (b : Bool) → cond b (i + 1) rd.trim.from ≤ i + 1
  from_after b = grind arith

  -- a trim ends at the next character or before
  to_after : (last : Bool) → cond last rd.trim.to (i + 1) ≤ i + 1
  to_after last = grind arith

  -- a machine whose trim grows stays near
  near_trim : (st : PartState) (line : ℕ) (a b : Bool) → Near (i + 1) (record rd { state = st; line = line; trim = next_trim rd.trim (i + 1) a b })
  near_trim st line a b = record { from = from_after _; to = to_after b; name = span_next i rd.name h.name }

  -- a machine whose state alone changes stays near
  near_same : (st : PartState) → Near (i + 1) (record rd { state = st })
  near_same st = record { from = (let x = h.from in omega arith); to = (let x = h.to in omega arith); name = span_next i rd.name h.name }

  -- a header that ends at i is known at i
  finish_at : EventAt i (event_at_end rd i)
  finish_at = grind (arith, span_order, span_to)

  -- a line that is left out at i is known at i
  left_at : (b : Bool) → EventAt i (cond b None (Some (LeftOut rd.line i)))
  left_at b = grind arith

  -- a step in a name
  near_name : (k : HeaderChar) (good : Bool) → NearAt i (name_step rd k i (i + 1) good)
  near_name k good = grind (arith, near_fresh, left_at, near_same, near_trim, span_order, span_to)

  -- a step in a value
  near_value : (long : Bool) (run : Run) (k : HeaderChar) → NearAt i (value_step rd long run k i (i + 1))
  near_value long run k = grind (arith, near_fresh, finish_at, near_trim, near_same)

  -- a step in a line that is skipped
  near_skip : (k : HeaderChar) → NearAt i (skip_step rd k (i + 1))
  near_skip k = grind (arith, near_fresh, near_same)

  -- each step
  pub near_step : (k : HeaderChar) (good : Bool) → NearAt i (next_part_machine rd k i (i + 1) good)
  near_step k good = grind (arith, near_name, near_skip, near_value)

  -- what the end emits is known there
  pub near_last : EventAt i (last_in rd.state rd i)
  near_last = grind (arith, left_at, finish_at)

-- ---- what is not emitted yet becomes known later

-- a part that is late for i + 1 is late for i
late_weak : (i : ℕ) (p : HeaderPart) → IsLate (i + 1) p → IsLate i p
late_weak i p h = grind arith

-- so are many
pub lates_weak : (i : ℕ) (ps : List HeaderPart) → AreLate (i + 1) ps → AreLate i ps
lates_weak i [] h = tt
lates_weak i (p ∷ ps) h = (late_weak i p h.0, lates_weak i ps h.1)

-- what is emitted at i is late for i
pub late_seen : (text : List ℕ) (i : ℕ) (e : Option HeaderEvent) (rest : List HeaderPart) → EventAt i e → AreLate i rest → AreLate i (seen text e ++ rest)
late_seen text i e rest a h = grind arith

-- an open value is late for all points
pub open_late : (i : ℕ) (o : Option ℕ) → AreLate i (open_part o)
open_late i o = grind arith

-- what is left to emit from i on
pub record Later (all : List HeaderPart) (i : ℕ) (done : List HeaderPart) : Type 0 where
  pub rest : List HeaderPart
  pub whole : all ≡ done ++ rest
  pub late : AreLate i rest

-- the text after the next character
pub drop_next : (text r : List ℕ) (i c : ℕ) → drop i text ≡ c ∷ r → drop (i + 1) text ≡ r
drop_next text r i c e = sym (drop-drop 1 i text) ∙ ap (drop 1) e

-- the parts that are not emitted before i become known at i or later
pub later : (all : List HeaderPart) (text r : List ℕ) (i : ℕ) (rd : PartMachine) (done : List HeaderPart) → drop i text ≡ r → StandsIn all text rd.state r i rd done → Near i rd → Later all i done
later all text [] i rd done d h n = grind (arith, the_end, append_assoc, late_seen, near_last, open_late)
later all text (c ∷ r) i rd done d h n =
    let good : Bool = is_good_name (slice_range text rd.trim.from rd.trim.to) in
    let s : PartMachine × Option HeaderEvent = next_part_machine rd (header_char_of c) i (i + 1) good in
    let e = drop_next text r i c d in
    let m = near_step rd i n (header_char_of c) good in
    let l = later all text r (i + 1) s.0 (done ++ seen text s.1) e (one_step all text c r i rd done good e (λ x y. refl) h) m.0 in
    record {
      rest = seen text s.1 ++ l.rest;
      whole = l.whole ∙ append_assoc done (seen text s.1) l.rest;
      late = late_seen text i s.1 l.rest m.1 (lates_weak i l.rest l.late);
    }

-- ---- at the start of a line

-- nothing becomes known there at the end or a `%`
abbrev pub quiet_in : PartState → Bool → Bool
quiet_in Name leading = leading
quiet_in Skip leading = false
quiet_in (Value long run) leading = not (is_mark_run run)

abbrev pub is_quiet : PartMachine → Bool
is_quiet rd = quiet_in rd.state rd.trim.leading

-- after an LF the machine is quiet
pub quiet_line : (rd : PartMachine) (i next : ℕ) (good : Bool) → is_quiet (next_part_machine rd LineEnd i next good).0 ≡ true
quiet_line rd i next good = grind arith

module _ (rd : PartMachine) (i : ℕ) where
  -- a `%` there makes nothing known
  pub quiet_event : (next : ℕ) (good : Bool) → is_quiet rd ≡ true → (next_part_machine rd Percent i next good).1 ≡ None
  quiet_event next good h = grind arith

  -- and opens and closes no value
  pub quiet_open : (next : ℕ) (good : Bool) → is_quiet rd ≡ true → open_in rd.state rd.header ≡ open_in (next_part_machine rd Percent i next good).0.state (next_part_machine rd Percent i next good).0.header
  quiet_open next good h = grind arith

  -- and the end emits nothing there
  pub quiet_last : is_quiet rd ≡ true → last_in rd.state rd i ≡ None
  quiet_last h = grind arith
