-- The events emitted so far, and the parts that they are.
use Rattle.std.proofs.Common.{◌≡◌, ℕ, ◌+◌, List, [], ◌∷◌, ◌++◌, Option, refl, arith, append-nil}
use Rattle.gabc_headers.specs.Parts.{HeaderPart, left_out, header, unended}
use Rattle.gabc_headers.specs.Heads.{open_line}
use Rattle.gabc_headers.specs.declared.events.HeaderEvent.{HeaderEvent}
use Rattle.gabc_headers.specs.machine.Events.{IsEventOf, AreEventsOf, IsEarly, AreEarly, open_part, with_event}
use Rattle.gabc_headers.proofs.machines.EventsAreParts.{seen}
use Rattle.gabc_headers.proofs.machines.SpansOfBytes.{bytes_at, holds_at}
use Rattle.gabc_headers.proofs.machines.PartMachineOfBytes.{moved_event}
use Rattle.gabc_headers.proofs.machines.EventSpansLieInText.{EventAt}

-- one event more
emit_push : (t : List ℕ) (es : List HeaderEvent) (ps : List HeaderPart) (e : HeaderEvent) (p : HeaderPart) → AreEventsOf t es ps → IsEventOf t e p → AreEventsOf t (es ++ e ∷ []) (ps ++ p ∷ [])
emit_push t [] [] e p h x = (x, tt)
emit_push t (d ∷ es) (q ∷ ps) e p h x = (h.0, emit_push t es ps e p h.1 x)
emit_push t [] (q ∷ ps) e p h x = absurd h
emit_push t (d ∷ es) [] e p h x = absurd h

-- a step emits what is seen of it
pub emit_step : (t head back : List ℕ) (i : ℕ) (es : List HeaderEvent) (events : List HeaderPart) (e : Option HeaderEvent) → t ≡ head ++ back → EventAt i e → AreEventsOf t es events
    → AreEventsOf t (with_event es (moved_event (bytes_at head) e)) (events ++ seen head e)
emit_step t head back i es events e b a h = grind (arith, append-nil, emit_push, holds_at)

-- a part that is early for i is early for i + 1
early_weak : (i : ℕ) (p : HeaderPart) → IsEarly i p → IsEarly (i + 1) p
early_weak i p h = grind arith

-- so are many
pub earlies_weak : (i : ℕ) (ps : List HeaderPart) → AreEarly i ps → AreEarly (i + 1) ps
earlies_weak i [] h = tt
earlies_weak i (p ∷ ps) h = (early_weak i p h.0, earlies_weak i ps h.1)

-- one part more
early_push : (i : ℕ) (ps : List HeaderPart) (p : HeaderPart) → AreEarly i ps → IsEarly i p → AreEarly i (ps ++ p ∷ [])
early_push i [] p h x = (x, tt)
early_push i (q ∷ ps) p h x = (h.0, early_push i ps p h.1 x)

-- what is emitted at i becomes known before i + 1
pub early_step : (head : List ℕ) (i : ℕ) (events : List HeaderPart) (e : Option HeaderEvent) → EventAt i e → AreEarly i events → AreEarly (i + 1) (events ++ seen head e)
early_step head i events e a h = grind (arith, append-nil, earlies_weak, early_push)

-- no part that is emitted leaves a value open
pub open_emitted : (i : ℕ) (events rest : List HeaderPart) → AreEarly i events → open_line (events ++ rest) ≡ open_line rest
open_emitted i [] rest h = refl
open_emitted i (left_out k p ∷ events) rest h = open_emitted i events rest h.1
open_emitted i (header k n v p ∷ events) rest h = open_emitted i events rest h.1
open_emitted i (unended k ∷ events) rest h = absurd h.0

-- the open value is after what the end emits
pub open_rest : (head : List ℕ) (e : Option HeaderEvent) (o : Option ℕ) → open_line (seen head e ++ open_part o) ≡ o
open_rest head e o = grind arith
