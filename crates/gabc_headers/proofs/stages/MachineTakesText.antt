-- What a machine that has read a text keeps, character by character.
use Rattle.std.proofs.Common.{◌≡◌, ℕ, ◌+◌, ◌==◌, ◌&&◌, nat_lt, List, [], ◌∷◌, ◌++◌, Bool, true, false, cond, refl, sym, ap, subst, arith, Option, None, append_assoc, append-nil, zero-add}
use Rattle.std.proofs.lemmas.Bool.Decides.{nat_tests}
use Rattle.std.specs.Char.{len_utf8}
use Rattle.std.proofs.lemmas.Bool.{and_parts}
use Rattle.gabc_headers.specs.declared.events.HeaderEvent.{HeaderEvent}
use Rattle.gabc_headers.specs.declared.events.HeaderEnding.TheVariants.{Score, Limit}
use Rattle.gabc_headers.specs.declared.header_machine.HeaderMachine.{HeaderMachine}
use Rattle.gabc_headers.specs.declared.header_machine.HeaderStep.{HeaderStep}
use Rattle.gabc_headers.specs.declared.header_machine.HeaderStep.TheVariants.{Read, Ended}
use Rattle.gabc_headers.specs.Lines.{bytes_len}
use Rattle.gabc_headers.specs.machine.Events.{with_event}
use Rattle.gabc_headers.specs.machine.PartMachine.{open_in}
use Rattle.gabc_headers.specs.machine.HeaderMachine.{fresh_machine, part_step, machine_with, take_one, then_take, held_push, push_one}
use Rattle.gabc_headers.specs.machine.HeaderStage.{Takes}
use Rattle.gabc_headers.proofs.entries.TextsAsBytes.{bytes_len-append}
use Rattle.gabc_headers.proofs.prefixes.HeadsSoFar.{HasRead, begin_read, read_more}

-- what each push keeps holds of the whole text
pub along : (P : List ℕ → HeaderMachine → List HeaderEvent → Type 0)
    → ((t : List ℕ) (r next : HeaderMachine) (es : List HeaderEvent) (c : ℕ) (e : Option HeaderEvent) → P t r es → push_one r c ≡ (next, Read e) → P (t ++ c ∷ []) next (with_event es e))
    → (before t : List ℕ) (r last : HeaderMachine) (es all : List HeaderEvent) → P before r es → Takes r es t last all → P (before ++ t) last all
along P on before [] r last es all p h = subst (λ (x : List ℕ). P x last all) (sym (append-nil before)) (subst (λ (x : HeaderMachine). P before x all) h.0 (subst (λ (x : List HeaderEvent). P before r x) h.1 p))
along P on before (c ∷ t) r last es all p h =
    subst (λ (x : List ℕ). P x last all) (append_assoc before (c ∷ []) t)
    (along P on (before ++ c ∷ []) t h.0 last (with_event es h.1.0) all (on before r h.0 es c h.1.0 p h.1.1) h.1.2)

-- one character more
pub takes_more : (r last next : HeaderMachine) (es all : List HeaderEvent) (t : List ℕ) (c : ℕ) (e : Option HeaderEvent) → Takes r es t last all → push_one last c ≡ (next, Read e)
    → Takes r es (t ++ c ∷ []) next (with_event all e)
takes_more r last next es all [] c e h p = grind arith
takes_more r last next es all (d ∷ t) c e h p = (h.0, (h.1.0, h.1.1, takes_more h.0 last next (with_event es h.1.0) all t c e h.1.2 p))

-- the machine stands after the text
pub has_read : (limit : ℕ) (t : List ℕ) (last : HeaderMachine) (all : List HeaderEvent) → Takes (fresh_machine limit) [] t last all → HasRead limit t last all
has_read limit t last all h = along (HasRead limit) (λ t r next es c e k p. read_more limit t r next es c e k p) [] t (fresh_machine limit) last [] all (begin_read limit) h

-- ---- what a push is that does not end the headers

abbrev machine_of : HeaderMachine × HeaderStep → HeaderMachine
machine_of x = x.0

abbrev event_of : HeaderMachine × HeaderStep → Option HeaderEvent
event_of (r, Read e) = e
event_of (r, Ended end) = None

abbrev is_read : HeaderMachine × HeaderStep → Bool
is_read (r, Read e) = true
is_read (r, Ended end) = false

abbrev pub freed : HeaderMachine → HeaderMachine
freed r = record r { held = false }

-- one step of the parts
abbrev pub stepped : HeaderMachine → ℕ → HeaderMachine
stepped r c = machine_with r c (part_step r c).0

-- A `%` is held back; or a character is read; or a `%` that was held back, and then a character.
pub data ReadBy (r : HeaderMachine) (c : ℕ) (next : HeaderMachine) (e : Option HeaderEvent) : Type 0 where
  holds : r.held ≡ false → c ≡ 37 → next ≡ record r { held = true } → e ≡ None → ReadBy r c next e
  steps : r.held ≡ false → next ≡ stepped r c → e ≡ (part_step r c).1 → ReadBy r c next e
  frees : r.held ≡ true → next ≡ stepped (stepped (freed r) 37) c → e ≡ (part_step (stepped (freed r) 37) c).1 → ReadBy r c next e

taken : (r next : HeaderMachine) (c : ℕ) (e : Option HeaderEvent) → take_one r c ≡ (next, Read e) → (next ≡ stepped r c) × (e ≡ (part_step r c).1)
taken r next c e p = grind arith

pub read_by : (r next : HeaderMachine) (c : ℕ) (e : Option HeaderEvent) → push_one r c ≡ (next, Read e) → ReadBy r c next e
read_by r next c e p = by r.held refl p
  where
    first : r.held ≡ false → (b : Bool) → (r.at_line && (c == 37)) ≡ b → cond {A = HeaderMachine × HeaderStep} b (record r { held = true }, Read None) (take_one r c) ≡ (next, Read e) → ReadBy r c next e
    first k true q s = holds k (let n : (c == 37) ≡ true = (and_parts r.at_line (c == 37) q).1 in grind (arith, nat_tests)) (sym (ap machine_of s)) (sym (ap event_of s))
    first k false q s = let t = taken r next c e s in steps k t.0 t.1

    then : r.held ≡ true → (b : Bool) → nat_lt r.limit (r.bytes + len_utf8 37) ≡ b
        → then_take (cond {A = HeaderMachine × HeaderStep} b (freed r, Ended (Limit r.place)) (stepped (freed r) 37, Read (part_step (freed r) 37).1)).0
        (cond {A = HeaderMachine × HeaderStep} b (freed r, Ended (Limit r.place)) (stepped (freed r) 37, Read (part_step (freed r) 37).1)).1 c ≡ (next, Read e) → ReadBy r c next e
    then k true q s = absurd (let f : false ≡ true = ap is_read s in cc)
    then k false q s = let t = taken (stepped (freed r) 37) next c e s in frees k t.0 t.1

    second : r.held ≡ true → (b : Bool)
        → cond b (r, Ended (Score r.place (r.bytes + 2) (open_in r.parts.state r.parts.header))) (then_take (take_one (freed r) 37).0 (take_one (freed r) 37).1 c) ≡ (next, Read e) → ReadBy r c next e
    second k true s = absurd (let f : false ≡ true = ap is_read s in cc)
    second k false s = then k (nat_lt r.limit (r.bytes + len_utf8 37)) refl s

    by : (b : Bool) → r.held ≡ b → cond b (held_push r c) (cond (r.at_line && (c == 37)) (record r { held = true }, Read None) (take_one r c)) ≡ (next, Read e) → ReadBy r c next e
    by true k q = second k (c == 37) q
    by false k q = first k (r.at_line && (c == 37)) refl q

-- ---- the bytes of a text

-- the bytes that a machine has seen: of what it has read, and of a `%` that it holds back
abbrev pub seen_bytes : HeaderMachine → ℕ
seen_bytes r = r.bytes + cond r.held 1 0

pub record AreCounted (most : ℕ) (t : List ℕ) (r : HeaderMachine) : Type 0 where
  pub limit : r.limit ≡ most
  pub bytes : bytes_len t ≡ seen_bytes r

one_byte : (t : List ℕ) (c : ℕ) → bytes_len (t ++ c ∷ []) ≡ bytes_len t + len_utf8 c
one_byte t c = let a = bytes_len-append t (c ∷ []) in let b : bytes_len (c ∷ []) ≡ len_utf8 c = zero-add (len_utf8 c) in omega (arith, a, b)

counted_more : (limit : ℕ) (t : List ℕ) (r next : HeaderMachine) (es : List HeaderEvent) (c : ℕ) (e : Option HeaderEvent) → AreCounted limit t r → push_one r c ≡ (next, Read e) → AreCounted limit (t ++ c ∷ []) next
counted_more limit t r next es c e h p = by (read_by r next c e p)
  where
    by : ReadBy r c next e → AreCounted limit (t ++ c ∷ []) next
    by (holds k q n f) = rw n (record {
      limit = h.limit;
      bytes = (let a = one_byte t c in let b = h.bytes in let d : seen_bytes r ≡ r.bytes + 0 = ap (λ (x : Bool). r.bytes + cond x 1 0) k in let g : len_utf8 c ≡ 1 = rw q refl in omega (arith, a, b, d, g));
    })
    by (steps k n f) = rw n (record {
      limit = h.limit;
      bytes = (let a = one_byte t c in let b = h.bytes in let d : seen_bytes r ≡ r.bytes + 0 = ap (λ (x : Bool). r.bytes + cond x 1 0) k
          in let g : seen_bytes (stepped r c) ≡ r.bytes + len_utf8 c + 0 = ap (λ (x : Bool). r.bytes + len_utf8 c + cond x 1 0) k in omega (arith, a, b, d, g));
    })
    by (frees k n f) = rw n (record {
      limit = h.limit;
      bytes = (let a = one_byte t c in let b = h.bytes in let d : seen_bytes r ≡ r.bytes + 1 = ap (λ (x : Bool). r.bytes + cond x 1 0) k in let g : len_utf8 37 ≡ 1 = refl in omega (arith, a, b, d, g));
    })

pub counted : (limit : ℕ) (t : List ℕ) (last : HeaderMachine) (all : List HeaderEvent) → Takes (fresh_machine limit) [] t last all → AreCounted limit t last
counted limit t last all h = along (λ t r es. AreCounted limit t r) (λ t r next es c e k p. counted_more limit t r next es c e k p) [] t (fresh_machine limit) last [] all (record { limit = refl; bytes = refl }) h
