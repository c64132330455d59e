-- The part machine does with places of another kind, as bytes, what it does with those of characters.
use Rattle.std.proofs.Common.{◌≡◌, ℕ, ◌≤◌, Bool, cond, Option, Some, None, ap, arith}
use Rattle.gabc_places.specs.declared.place.Span.{Span}
use Rattle.gabc_headers.specs.declared.characters.Run.{Run}
use Rattle.gabc_headers.specs.declared.characters.HeaderChar.{HeaderChar}
use Rattle.gabc_headers.specs.declared.part_machine.Trim.{Trim}
use Rattle.gabc_headers.specs.declared.part_machine.PartState.TheVariants.{Value}
use Rattle.gabc_headers.specs.declared.part_machine.PartMachine.{PartMachine}
use Rattle.gabc_headers.specs.declared.events.HeaderEvent.{HeaderEvent}
use Rattle.gabc_headers.specs.declared.events.HeaderEvent.TheVariants.{LeftOut, Header}
use Rattle.gabc_headers.specs.machine.PartMachine.{span_of, event_at_end, with_trim, in_value, next_part_machine, name_step, value_step, next_trim}

module _ (f : ℕ → ℕ) where
  -- a span, a trim, a name, a machine, an event and a step with each place moved by f
  abbrev pub moved_span : Span → Span
  moved_span s = record { from = f s.from; to = f s.to }

  abbrev pub moved_trim : Trim → Trim
  moved_trim t = record { from = f t.from; to = f t.to; leading = t.leading }

  abbrev pub moved_name : Option Span → Option Span
  moved_name None = None
  moved_name (Some s) = Some (moved_span s)

  abbrev pub moved : PartMachine → PartMachine
  moved r = record { state = r.state; line = r.line; trim = moved_trim r.trim; header = r.header; name = moved_name r.name }

  abbrev pub moved_event : Option HeaderEvent → Option HeaderEvent
  moved_event None = None
  moved_event (Some (LeftOut k p)) = Some (LeftOut k p)
  moved_event (Some (Header k name value p)) = Some (Header k (moved_span name) (moved_span value) p)

  abbrev pub moved_both : PartMachine × Option HeaderEvent → PartMachine × Option HeaderEvent
  moved_both s = (moved s.0, moved_event s.1)

module _ (f : ℕ → ℕ) (mono : (a b : ℕ) → a ≤ b → f a ≤ f b) where
  -- a choice, moved
  on_cond : {X Y : Type 0} (g : X → Y) (b : Bool) (x y : X) → cond b (g x) (g y) ≡ g (cond b x y)
  on_cond g b x y = grind arith

  -- a trim that grows, moved
  trim_moved : (t : Trim) (next : ℕ) (a b : Bool) → next_trim (moved_trim f t) (f next) a b ≡ moved_trim f (next_trim t next a b)
  trim_moved t next a b = grind (arith, on_cond)

  -- the span of a trim, moved
  pub span_moved : (t : Trim) → span_of (moved_trim f t) ≡ moved_span f (span_of t)
  span_moved t = grind arith

  -- a header that ends, moved
  finish_moved : (r : PartMachine) (at : ℕ) → event_at_end (moved f r) at ≡ moved_event f (event_at_end r at)
  finish_moved r at = grind (arith, span_moved)

  -- a name that is kept, moved
  name_moved : (good : Bool) (t : Trim) → cond good (Some (span_of (moved_trim f t))) None ≡ moved_name f (cond good (Some (span_of t)) None)
  name_moved good t = grind (arith, span_moved)

  -- a line that is left out has no span to move
  events_moved : (b : Bool) (k at : ℕ) → cond b None (Some (LeftOut k at)) ≡ moved_event f (cond b None (Some (LeftOut k at)))
  events_moved b k at = grind arith

  module _ (r : PartMachine) (at next : ℕ) where
    with : (a b : Bool) → with_trim (moved f r) (f next) a b ≡ moved f (with_trim r next a b)
    with a b = ap (λ (x : Trim). record (moved f r) { trim = x }) (trim_moved r.trim next a b)

    within_value : (long : Bool) (run : Run) (a b : Bool) → in_value (moved f r) long run (f next) a b ≡ moved f (in_value r long run next a b)
    within_value long run a b = ap (λ (x : Trim). record (moved f r) { state = Value long run; trim = x }) (trim_moved r.trim next a b)

    quiet : (s t : PartMachine) → s ≡ moved f t → (s, None) ≡ moved_both f (t, None)
    quiet s t e = ap (λ (x : PartMachine). (x, None)) e

    in_name : (k : HeaderChar) (good : Bool) → name_step (moved f r) k at (f next) good ≡ moved_both f (name_step r k at next good)
    in_name k good = grind (arith, events_moved, with, on_cond, name_moved, quiet)

    in_line : (long : Bool) (run : Run) (k : HeaderChar) → value_step (moved f r) long run k at (f next) ≡ moved_both f (value_step r long run k at next)
    in_line long run k = grind (arith, finish_moved, trim_moved, quiet, within_value)

    -- a step over moved places is the step, moved
    pub step_moved : (k : HeaderChar) (good : Bool) → next_part_machine (moved f r) k at (f next) good ≡ moved_both f (next_part_machine r k at next good)
    step_moved k good = grind (arith, in_name, in_line)
