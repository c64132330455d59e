-- The machine, one push after the other.
use Rattle.std.proofs.Common.{◌≡◌, ℕ, ◌+◌, ◌<◌, ◌≤◌, List, [], ◌∷◌, ◌++◌, length, Bool, true, false, cond, ◌&&◌, ◌==◌, nat_lt, Option, None, refl, sym, ap, ◌∙◌, subst, arith}
use Rattle.std.proofs.lemmas.Bool.Decides.{nat_tests}
use Rattle.std.specs.Char.{len_utf8}
use Rattle.std.specs.Str.{chars, IsUtf8}
use Rattle.std.proofs.lemmas.Str.{chars_from_encodes, chars_past_char, chars-nil}
use Rattle.std.proofs.lemmas.List.{nil_from_length}
use Rattle.std.proofs.Math.Bool.{and_comm}
use Rattle.std.proofs.lemmas.Bool.{and_parts, eqb-true}
use lib.Utf8.{encodes, encode}
use Rattle.gabc_places.specs.Place.{next_place}
use Rattle.gabc_headers.specs.declared.part_machine.PartMachine.{PartMachine}
use Rattle.gabc_headers.specs.declared.header_machine.HeaderMachine.{HeaderMachine}
use Rattle.gabc_headers.specs.declared.header_machine.HeaderStep.{HeaderStep}
use Rattle.gabc_headers.specs.declared.header_machine.HeaderStep.TheVariants.{Read, Ended}
use Rattle.gabc_headers.specs.declared.events.HeaderEvent.{HeaderEvent}
use Rattle.gabc_headers.specs.declared.events.HeaderEnding.{HeaderEnding}
use Rattle.gabc_headers.specs.declared.events.HeaderEnding.TheVariants.{Score, Limit, Text}
use Rattle.gabc_headers.specs.Lines.{bytes_len, is_percent, is_score_line}
use Rattle.gabc_headers.specs.machine.PartMachine.{open_in}
use Rattle.gabc_headers.specs.machine.HeaderMachine.{fresh_machine, part_step, machine_with, take_one, then_take, held_push, push_one, end_here}
use Rattle.gabc_headers.specs.machine.Events.{AreHeaderEvents, with_event}
use Rattle.gabc_headers.proofs.machines.EventSpansLieInText.{quiet_event}
use Rattle.gabc_headers.proofs.machines.PartMachineOfBytes.{moved_event}
use Rattle.gabc_headers.proofs.machines.SpansOfBytes.{bytes_at}
use Rattle.gabc_headers.proofs.groups.TextBeforeScore.{head_text}
use Rattle.gabc_headers.proofs.machines.MachineOverText.{MachineReads, begin_reads, reads_more, step_is}
use Rattle.gabc_headers.proofs.stops.MachineEndsAtStop.{limit_here, limit_held, score_here, text_here, text_held}

-- what the part machine has not read: a `%` that is held back, and what comes
abbrev pub pending : Bool → List ℕ → List ℕ
pending true rest = 37 ∷ rest
pending false rest = rest

-- the machine stands before the rest of the text
pub record Following (t : List ℕ) (limit : ℕ) (rest : List ℕ) (r : HeaderMachine) (es : List HeaderEvent) : Type 0 where
  pub done : List ℕ
  pub reads : MachineReads t limit done (pending r.held rest) r es
  pub held : r.held ≡ true → r.at_line ≡ true

-- before the first character
pub begin_following : (t : List ℕ) (limit : ℕ) → Following t limit t (fresh_machine limit) []
begin_following t limit = record { done = []; reads = begin_reads t limit; held = λ e. refl }

-- what a push leaves: the machine before the rest, or what is emitted of the whole text
abbrev pub AfterPush : List ℕ → ℕ → List ℕ → List HeaderEvent → HeaderMachine → HeaderStep → Type 0
AfterPush t limit rest es r (Read e) = Following t limit rest r (with_event es e)
AfterPush t limit rest es r (Ended end) = AreHeaderEvents limit t es end

-- another `held` changes nothing of what the machine has read
reheld : (t : List ℕ) (limit : ℕ) (done rest : List ℕ) (r : HeaderMachine) (es : List HeaderEvent) (b : Bool) → MachineReads t limit done rest r es → MachineReads t limit done rest (record r { held = b }) es
reheld t limit done rest r es b h = grind arith

-- what is no `%` at the start of a line begins no line `%%`
no_score : (s p q : Bool) → (p && s) ≡ false → (s && (p && q)) ≡ false
no_score s p q h = grind arith

module _ (t : List ℕ) (limit : ℕ) (rest : List ℕ) where
  -- a character that is read at once
  takes : (done : List ℕ) (r : HeaderMachine) (es : List HeaderEvent) (c : ℕ) → r.held ≡ false → ((c == 37) && r.at_line) ≡ false → MachineReads t limit done (c ∷ rest) r es
      → AfterPush t limit rest es (take_one r c).0 (take_one r c).1
  takes done r es c k q h = by (nat_lt r.limit (r.bytes + len_utf8 c)) refl
    where
      e : (r.at_line && is_score_line (c ∷ rest)) ≡ false
      e = no_score r.at_line (c == 37) (is_percent rest) q

      by : (b : Bool) → nat_lt r.limit (r.bytes + len_utf8 c) ≡ b
          → AfterPush t limit rest es (cond {A = HeaderMachine × HeaderStep} b (r, Ended (Limit r.place)) (machine_with r c (part_step r c).0, Read (part_step r c).1)).0
          (cond {A = HeaderMachine × HeaderStep} b (r, Ended (Limit r.place)) (machine_with r c (part_step r c).0, Read (part_step r c).1)).1
      by true f = limit_here t limit done r es rest c h e (let x : r.limit < r.bytes + len_utf8 c = grind (arith, nat_tests) in let m = h.most in let n = h.bytes in omega arith) q
      by false f = record {
        done = done ++ c ∷ [];
        reads = subst (λ (b : Bool). MachineReads t limit (done ++ c ∷ []) (pending b rest) (machine_with r c (part_step r c).0) (with_event es (part_step r c).1)) (sym k)
            (reads_more t limit done rest r es c h e (let x : r.bytes + len_utf8 c ≤ r.limit = grind (arith, nat_tests) in let m = h.most in let n = h.bytes in omega arith));
        held = λ x. absurd (cc);
      }

  -- a push with a `%` held back
  held_pushes : (done : List ℕ) (r : HeaderMachine) (es : List HeaderEvent) (c : ℕ) → r.at_line ≡ true → MachineReads t limit done (37 ∷ c ∷ rest) r es
      → AfterPush t limit rest es (held_push r c).0 (held_push r c).1
  held_pushes done r es c a h = by (c == 37) refl
    where
      by : (b : Bool) → (c == 37) ≡ b
          → AfterPush t limit rest es (cond {A = HeaderMachine × HeaderStep} b (r, Ended (Score r.place (r.bytes + 2) (open_in r.parts.state r.parts.header)))
          (then_take (take_one (record r { held = false }) 37).0 (take_one (record r { held = false }) 37).1 c)).0
          (cond {A = HeaderMachine × HeaderStep} b (r, Ended (Score r.place (r.bytes + 2) (open_in r.parts.state r.parts.header)))
          (then_take (take_one (record r { held = false }) 37).0 (take_one (record r { held = false }) 37).1 c)).1
      by true q = score_here t limit done r es rest (subst (λ (x : ℕ). MachineReads t limit done (37 ∷ x ∷ rest) r es) (eqb-true c 37 q) h) a
      by false q = release (nat_lt r.limit (r.bytes + len_utf8 37)) refl
        where
          e : (r.at_line && is_score_line (37 ∷ c ∷ rest)) ≡ false
          e = ap (λ (b : Bool). b && (c == 37)) a ∙ q

          freed : MachineReads t limit done (37 ∷ c ∷ rest) (record r { held = false }) es
          freed = reheld t limit done (37 ∷ c ∷ rest) r es false h

          event : (part_step (record r { held = false }) 37).1 ≡ None
          event = ap (λ (x : PartMachine × Option HeaderEvent). x.1) (step_is t limit done (c ∷ rest) (record r { held = false }) es 37 freed e)
              ∙ ap (moved_event (bytes_at (head_text true t))) (quiet_event freed.rd (length done) (length done + 1) _ (freed.quiet a))

          released : bytes_len done + len_utf8 37 ≤ limit → MachineReads t limit (done ++ 37 ∷ []) (c ∷ rest) (machine_with (record r { held = false }) 37 (part_step (record r { held = false }) 37).0) es
          released l = subst (λ (x : Option HeaderEvent). MachineReads t limit (done ++ 37 ∷ []) (c ∷ rest) (machine_with (record r { held = false }) 37 (part_step (record r { held = false }) 37).0) (with_event es x)) event
              (reads_more t limit done (c ∷ rest) (record r { held = false }) es 37 freed e l)

          release : (b : Bool) → nat_lt r.limit (r.bytes + len_utf8 37) ≡ b
              → AfterPush t limit rest es (then_take (cond {A = HeaderMachine × HeaderStep} b (record r { held = false }, Ended (Limit r.place)) (machine_with (record r { held = false }) 37 (part_step (record r { held = false }) 37).0, Read (part_step (record r { held = false }) 37).1)).0
              (cond {A = HeaderMachine × HeaderStep} b (record r { held = false }, Ended (Limit r.place)) (machine_with (record r { held = false }) 37 (part_step (record r { held = false }) 37).0, Read (part_step (record r { held = false }) 37).1)).1 c).0
              (then_take (cond {A = HeaderMachine × HeaderStep} b (record r { held = false }, Ended (Limit r.place)) (machine_with (record r { held = false }) 37 (part_step (record r { held = false }) 37).0, Read (part_step (record r { held = false }) 37).1)).0
              (cond {A = HeaderMachine × HeaderStep} b (record r { held = false }, Ended (Limit r.place)) (machine_with (record r { held = false }) 37 (part_step (record r { held = false }) 37).0, Read (part_step (record r { held = false }) 37).1)).1 c).1
          release true f = limit_held t limit done r es rest c h a e (let x : r.limit < r.bytes + len_utf8 37 = grind (arith, nat_tests) in let m = h.most in let n = h.bytes in omega arith)
          release false f = takes (done ++ 37 ∷ []) (machine_with (record r { held = false }) 37 (part_step (record r { held = false }) 37).0) es c refl (ap (λ (b : Bool). b && false) q)
              (released (let x : r.bytes + len_utf8 37 ≤ r.limit = grind (arith, nat_tests) in let m = h.most in let n = h.bytes in omega arith))

  -- each push
  pub pushes : (r : HeaderMachine) (es : List HeaderEvent) (c : ℕ) → Following t limit (c ∷ rest) r es → AfterPush t limit rest es (push_one r c).0 (push_one r c).1
  pushes r es c h = by r.held refl h.reads
    where
      first : r.held ≡ false → MachineReads t limit h.done (c ∷ rest) r es → (b : Bool) → (r.at_line && (c == 37)) ≡ b
          → AfterPush t limit rest es (cond {A = HeaderMachine × HeaderStep} b (record r { held = true }, Read None) (take_one r c)).0 (cond {A = HeaderMachine × HeaderStep} b (record r { held = true }, Read None) (take_one r c)).1
      first k x true q = record {
        done = h.done;
        reads = reheld t limit h.done (37 ∷ rest) r es true (subst (λ (y : ℕ). MachineReads t limit h.done (y ∷ rest) r es) (eqb-true c 37 (and_parts r.at_line (c == 37) q).1) x);
        held = λ y. (and_parts r.at_line (c == 37) q).0;
      }
      first k x false q = takes h.done r es c k (and_comm (c == 37) r.at_line ∙ q) x

      by : (b : Bool) → r.held ≡ b → MachineReads t limit h.done (pending b (c ∷ rest)) r es
          → AfterPush t limit rest es (cond b (held_push r c) (cond (r.at_line && (c == 37)) (record r { held = true }, Read None) (take_one r c))).0
          (cond b (held_push r c) (cond (r.at_line && (c == 37)) (record r { held = true }, Read None) (take_one r c))).1
      by true k x = held_pushes h.done r es c (h.held k) x
      by false k x = first k x (r.at_line && (c == 37)) refl

-- the end of the text
pub ends : (t : List ℕ) (limit : ℕ) (r : HeaderMachine) (es : List HeaderEvent) → Following t limit [] r es → AreHeaderEvents limit t es (end_here r)
ends t limit r es h = by r.held refl h.reads
  where
    by : (b : Bool) → r.held ≡ b → MachineReads t limit h.done (pending b []) r es → AreHeaderEvents limit t es (Text (cond b (next_place r.place 37) r.place) (open_in r.parts.state r.parts.header))
    by true k x = text_held t limit h.done r es x (h.held k)
    by false k x = text_here t limit h.done r es x

-- ---- over the bytes of the text

-- before the first byte
pub begin_at : (t : List ℕ) (limit : ℕ) (bs : List ℕ) (r : HeaderMachine) (es : List HeaderEvent) → IsUtf8 bs → encodes t ≡ bs → r ≡ fresh_machine limit → es ≡ [] → Following t limit (chars bs) r es
begin_at t limit bs r es u e f g = subst (λ (x : List ℕ). Following t limit x r es) (chars_from_encodes t bs u e)
    (subst (λ (x : HeaderMachine). Following t limit t x es) (sym f) (subst (λ (x : List HeaderEvent). Following t limit t (fresh_machine limit) x) (sym g) (begin_following t limit)))

-- each character of the bytes
pub pushed : (t : List ℕ) (limit : ℕ) (bs rest : List ℕ) (r new : HeaderMachine) (es : List HeaderEvent) (c : ℕ) (p : HeaderStep) → IsUtf8 bs → bs ≡ encode c ++ rest → (new, p) ≡ push_one r c
    → Following t limit (chars bs) r es → AfterPush t limit (chars rest) es new p
pushed t limit bs rest r new es c p u e f h = subst (λ (x : HeaderMachine × HeaderStep). AfterPush t limit (chars rest) es x.0 x.1) (sym f)
    (pushes t limit (chars rest) r es c (subst (λ (x : List ℕ). Following t limit x r es) (chars_past_char bs rest c u e) h))

-- at the last byte
pub ended : (t : List ℕ) (limit : ℕ) (bs : List ℕ) (r : HeaderMachine) (es : List HeaderEvent) (end : HeaderEnding) → length bs ≡ 0 → end ≡ end_here r → Following t limit (chars bs) r es → AreHeaderEvents limit t es end
ended t limit bs r es end e f h = subst (λ (x : HeaderEnding). AreHeaderEvents limit t es x) (sym f) (ends t limit r es (subst (λ (x : List ℕ). Following t limit x r es) (ap chars (nil_from_length bs e) ∙ chars-nil) h))
