-- A header that counts takes at least three bytes of the text: one of its name, the `:` and a `;`.
use Rattle.std.proofs.Common.{◌≡◌, ℕ, ◌+◌, ◌*◌, ◌/◌, ◌≤◌, List, [], ◌∷◌, ◌++◌, length, Bool, cond, subst, arith, Option, Some, None}
use Rattle.std.specs.Char.{len_utf8}
use Rattle.std.proofs.lemmas.Str.{len_utf8_bounds}
use Rattle.std.proofs.lemmas.Bool.{and_parts}
use Rattle.gabc_places.specs.declared.place.Span.{Span}
use Rattle.gabc_headers.specs.declared.characters.HeaderChar.{HeaderChar}
use Rattle.gabc_headers.specs.declared.characters.HeaderChar.TheVariants.{Semicolon, Blank}
use Rattle.gabc_headers.specs.declared.characters.Run.{Run}
use Rattle.gabc_headers.specs.declared.characters.Run.TheVariants.{Text}
use Rattle.gabc_headers.specs.declared.events.HeaderEvent.{HeaderEvent}
use Rattle.gabc_headers.specs.declared.events.HeaderEvent.TheVariants.{Header}
use Rattle.gabc_headers.specs.declared.part_machine.Trim.{Trim}
use Rattle.gabc_headers.specs.declared.part_machine.PartState.{PartState}
use Rattle.gabc_headers.specs.declared.part_machine.PartState.TheVariants.{Name, Skip, Value}
use Rattle.gabc_headers.specs.declared.part_machine.PartMachine.{PartMachine}
use Rattle.gabc_headers.specs.declared.header_machine.HeaderMachine.{HeaderMachine}
use Rattle.gabc_headers.specs.declared.header_machine.HeaderStep.TheVariants.{Read}
use Rattle.gabc_headers.specs.machine.Characters.{next_run, header_char_of}
use Rattle.gabc_headers.specs.machine.Collected.{Collected, collected_with, collected_with_all, none}
use Rattle.gabc_headers.specs.machine.Events.{with_event}
use Rattle.gabc_headers.specs.machine.HeaderMachine.{fresh_machine, part_step, push_one}
use Rattle.gabc_headers.specs.machine.HeaderStage.{Takes}
use Rattle.gabc_headers.specs.machine.PartMachine.{next_part_machine, name_step, skip_step, value_step, next_trim, span_of, is_good_span}
use Rattle.gabc_headers.proofs.collecting.EventsAddEntries.{length-collected}
use Rattle.gabc_headers.proofs.stages.MachineTakesText.{along, ReadBy, holds, steps, frees, read_by, freed, stepped}

-- the headers among events
abbrev header_count : Option HeaderEvent → ℕ
header_count (Some (Header k n v p)) = 1
header_count _ = 0

abbrev headers_in : List HeaderEvent → ℕ
headers_in [] = 0
headers_in (e ∷ es) = header_count (Some e) + headers_in es

-- In a value of a header that counts, after k headers: its name and the `:` are read, and with a run of `;` one of these.
abbrev IsSpentIn : ℕ → ℕ → Run → Option Span → Type 0
IsSpentIn k bytes run None = 3 * k ≤ bytes
IsSpentIn k bytes Text (Some n) = 3 * k + 2 ≤ bytes
IsSpentIn k bytes _ (Some n) = 3 * k + 3 ≤ bytes

abbrev IsSpentAt : ℕ → ℕ → PartState → PartMachine → Type 0
IsSpentAt k bytes Name r = (3 * k ≤ r.trim.from) × (r.trim.from ≤ bytes) × (r.trim.to ≤ bytes)
IsSpentAt k bytes Skip r = 3 * k ≤ bytes
IsSpentAt k bytes (Value long run) r = IsSpentIn k bytes run r.name

-- n bytes are read, and three of them for each of k headers
abbrev IsSpent : ℕ → ℕ → PartMachine → Type 0
IsSpent k bytes r = IsSpentAt k bytes r.state r

in_any : (k bytes : ℕ) (run : Run) (name : Option Span) → IsSpentIn k bytes run name → 3 * k ≤ bytes
in_any k bytes run name h = grind arith

pub three_each : (k bytes : ℕ) (r : PartMachine) → IsSpent k bytes r → 3 * k ≤ bytes
three_each k bytes r = grind (arith, in_any)

-- what a `Text` run needs is no more than any does
to_text : (k bytes next : ℕ) (run : Run) (name : Option Span) → bytes ≤ next → IsSpentIn k bytes run name → IsSpentIn k next Text name
to_text k bytes next run name l h = grind arith

to_blank : (k bytes next : ℕ) (long : Bool) (run : Run) (name : Option Span) → bytes ≤ next → IsSpentIn k bytes run name → IsSpentIn k next (next_run run long Blank) name
to_blank k bytes next long run name l h = grind (arith, to_text)

to_semicolon : (k bytes next : ℕ) (long : Bool) (run : Run) (name : Option Span) → bytes + 1 ≤ next → IsSpentIn k bytes run name → IsSpentIn k next (next_run run long Semicolon) name
to_semicolon k bytes next long run name l h = grind arith

-- a trim goes on within the bytes
trimmed : (k bytes next : ℕ) (t : Trim) (lead last : Bool) → bytes ≤ next → (3 * k ≤ t.from) × (t.from ≤ bytes) × (t.to ≤ bytes)
    → (3 * k ≤ (next_trim t next lead last).from) × ((next_trim t next lead last).from ≤ next) × ((next_trim t next lead last).to ≤ next)
trimmed k bytes next t lead last l h = grind arith

-- at a `:`
named : (k bytes next : ℕ) (r : PartMachine) → bytes + 1 ≤ next → (3 * k ≤ r.trim.from) × (r.trim.from ≤ bytes) × (r.trim.to ≤ bytes)
    → (b : Bool) → is_good_span (span_of r.trim) ≡ b → IsSpentIn k next Text (cond b (Some (span_of r.trim)) None)
named k bytes next r l h b q = grind (arith, and_parts)

abbrev IsSpentBy : ℕ → ℕ → PartMachine × Option HeaderEvent → Type 0
IsSpentBy k bytes x = IsSpent (k + header_count x.1) bytes x.0

module _ (k bytes next at : ℕ) (r : PartMachine) (l : bytes + 1 ≤ next) where
  weaker : bytes ≤ next
  weaker = omega arith

  in_name : (kind : HeaderChar) → IsSpentAt k bytes Name r → r.state ≡ Name → IsSpentBy k next (name_step r kind at next (is_good_span (span_of r.trim)))
  in_name kind h s = grind (arith, trimmed, weaker, named)

  in_skip : (kind : HeaderChar) → 3 * k ≤ bytes → r.state ≡ Skip → IsSpentBy k next (skip_step r kind next)
  in_skip kind h s = grind arith

  none_more : (run : Run) (name : Option Span) → IsSpentIn k next run name → IsSpentIn (k + 0) next run name
  none_more run name h = subst (λ (n : ℕ). IsSpentIn n next run name) (let e : k ≡ k + 0 = omega arith in e) h

  in_value : (long : Bool) (run : Run) (kind : HeaderChar) → IsSpentIn k bytes run r.name → IsSpentBy k next (value_step r long run kind at next)
  in_value long run kind h = grind (arith, none_more, to_text, weaker, to_blank, to_semicolon)

  -- one character
  spent_more : (kind : HeaderChar) → IsSpent k bytes r → IsSpentBy k next (next_part_machine r kind at next (is_good_span (span_of r.trim)))
  spent_more kind = grind (arith, in_name, in_skip, in_value)

-- ---- all characters of a text

fewer_in : (j k bytes : ℕ) (run : Run) (name : Option Span) → j ≤ k → IsSpentIn k bytes run name → IsSpentIn j bytes run name
fewer_in j k bytes run name l h = grind arith

fewer : (j k bytes : ℕ) (r : PartMachine) → j ≤ k → IsSpent k bytes r → IsSpent j bytes r
fewer j k bytes r l = grind (arith, fewer_in)

-- a step of the machine
spent_step : (k : ℕ) (r : HeaderMachine) (c : ℕ) → IsSpent k r.bytes r.parts → IsSpent (k + header_count (part_step r c).1) (stepped r c).bytes (stepped r c).parts
spent_step k r c h = spent_more k r.bytes (r.bytes + len_utf8 c) r.point r.parts (let b = (len_utf8_bounds c).0 in omega (arith, b)) (header_char_of c) h

headers_more : (es : List HeaderEvent) (e : Option HeaderEvent) → headers_in (with_event es e) ≡ headers_in es + header_count e
headers_more es None = omega arith
headers_more [] (Some e) = omega arith
headers_more (d ∷ es) (Some e) = let h = headers_more es (Some e) in omega (arith, h)

pub record IsPaid (t : List ℕ) (r : HeaderMachine) (es : List HeaderEvent) : Type 0 where
  pub spent : IsSpent (headers_in es) r.bytes r.parts

paid_more : (t : List ℕ) (r next : HeaderMachine) (es : List HeaderEvent) (c : ℕ) (e : Option HeaderEvent) → IsPaid t r es → push_one r c ≡ (next, Read e) → IsPaid (t ++ c ∷ []) next (with_event es e)
paid_more t r next es c e h p = by (read_by r next c e p)
  where
    by : ReadBy r c next e → IsPaid (t ++ c ∷ []) next (with_event es e)
    by (holds k q n f) = rw (n, f) (record { spent = h.spent })
    by (steps k n f) = rw (n, f) (record { spent = rw (headers_more es (part_step r c).1) (spent_step (headers_in es) r c h.spent) })
    by (frees k n f) =
        let m : HeaderMachine = stepped (freed r) 37 in
        let one = fewer (headers_in es) (headers_in es + header_count (part_step (freed r) 37).1) m.bytes m.parts (omega arith) (spent_step (headers_in es) (freed r) 37 h.spent) in
        rw (n, f) (record { spent = rw (headers_more es (part_step m c).1) (spent_step (headers_in es) m c one) })

-- what counts is no more than what is emitted
collected_few : (text : List ℕ) (es : List HeaderEvent) (c : Collected) → length (collected_with_all text es c).headers ≤ length c.headers + headers_in es
collected_few text [] c = omega arith
collected_few text (e ∷ es) c = grind (arith, collected_few text es (collected_with text e c), length-collected)

-- there is room for one header more
pub room_for_one : (limit : ℕ) (t text : List ℕ) (last : HeaderMachine) (all : List HeaderEvent) → Takes (fresh_machine limit) [] t last all → last.bytes ≤ limit
    → length (collected_with_all text all none).headers + 1 ≤ limit / 3 + 1
room_for_one limit t text last all h l =
    let p = along IsPaid (λ t r next es c e k q. paid_more t r next es c e k q) [] t (fresh_machine limit) last [] all (record { spent = (omega arith, omega arith, omega arith) }) h in
    let a = three_each (headers_in all) last.bytes last.parts p.spent in
    let b = collected_few text all none in
    omega (arith, a, b, l)
