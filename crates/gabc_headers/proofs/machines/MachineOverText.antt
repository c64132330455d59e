-- The machine over a text: what it has emitted and what it stands before.
use Rattle.std.proofs.Common.{◌≡◌, ℕ, ◌+◌, ◌≤◌, List, [], ◌∷◌, ◌++◌, length, take, drop, true, false, ◌&&◌, ◌==◌, Option, refl, sym, ap, ◌∙◌, subst, arith, length-append, slice_range, zero-le}
use Rattle.std.proofs.Math.Seq.{take-append_seam, drop-append_seam}
use Rattle.std.proofs.lemmas.Bool.Decides.{nat_tests}
use Rattle.std.specs.Char.{len_utf8}
use Rattle.gabc_places.proofs.PlacesOfAText.{next_after}
use Rattle.gabc_places.specs.declared.place.Place.{Place}
use Rattle.gabc_places.specs.Place.{place_after, next_place}
use Rattle.gabc_headers.specs.declared.characters.HeaderChar.TheVariants.{LineEnd}
use Rattle.gabc_headers.specs.declared.part_machine.PartMachine.{PartMachine}
use Rattle.gabc_headers.specs.declared.header_machine.HeaderMachine.{HeaderMachine}
use Rattle.gabc_headers.specs.declared.events.HeaderEvent.{HeaderEvent}
use Rattle.gabc_headers.specs.Lines.{bytes_len, is_score_line}
use Rattle.gabc_headers.specs.Parts.{HeaderPart, is_good_name}
use Rattle.gabc_headers.specs.witness.Parts.{head_parts}
use Rattle.gabc_headers.specs.machine.Characters.{header_char_of}
use Rattle.gabc_headers.specs.machine.PartMachine.{at_line_start, next_part_machine, span_of, is_good_span}
use Rattle.gabc_headers.specs.machine.HeaderMachine.{fresh_machine, part_step, machine_with}
use Rattle.gabc_headers.specs.machine.Events.{AreEventsOf, AreEarly, with_event}
use Rattle.gabc_headers.proofs.groups.TextBeforeScore.{head_text, Scan, begin_scan, scan_more, head_next, head_prefix, parts_head}
use Rattle.gabc_headers.proofs.machines.PartsAfterState.{StandsIn, begin_line}
use Rattle.gabc_headers.proofs.machines.OneStepByCharacter.{one_step}
use Rattle.gabc_headers.proofs.machines.EventsAreParts.{seen, span_slice}
use Rattle.gabc_headers.proofs.machines.PartMachineOfBytes.{moved, moved_both, step_moved, span_moved}
use Rattle.gabc_headers.proofs.machines.SpansOfBytes.{bytes_at, bytes_mono, good_span, span_order}
use Rattle.gabc_headers.proofs.machines.EventSpansLieInText.{Near, near_fresh, near_step, drop_next, is_quiet, quiet_line}
use Rattle.gabc_headers.proofs.stops.TextTooLong.{Begins, begins_push}
use Rattle.gabc_headers.proofs.machines.EventsAreEarlyParts.{emit_step, early_step}
use Rattle.gabc_headers.proofs.entries.TextsAsBytes.{bytes_len-append}

-- The machine has read what is done, and stands before the rest. `rd` is its part machine, with spans in characters.
pub record MachineReads (t : List ℕ) (limit : ℕ) (done rest : List ℕ) (r : HeaderMachine) (es : List HeaderEvent) : Type 0 where
  pub scan : Scan t done rest r.at_line
  pub rd : PartMachine
  pub parts : r.parts ≡ moved (bytes_at (head_text true t)) rd
  pub near : Near (length done) rd
  pub emitted : List HeaderPart
  pub stands : StandsIn (head_parts t) (head_text true t) rd.state (head_text r.at_line rest) (length done) rd emitted
  pub are_events_of : AreEventsOf t es emitted
  pub early : AreEarly (length done) emitted
  pub quiet : r.at_line ≡ true → is_quiet rd ≡ true
  pub begins : Begins done r.at_line
  pub most : r.limit ≡ limit
  pub point : r.point ≡ length done
  pub bytes : r.bytes ≡ bytes_len done
  pub fits : bytes_len done ≤ limit
  pub place : r.place ≡ place_after done

-- before the first character
pub begin_reads : (t : List ℕ) (limit : ℕ) → MachineReads t limit [] t (fresh_machine limit) []
begin_reads t limit = record {
  scan = begin_scan t;
  rd = at_line_start 1 0;
  parts = refl;
  near = near_fresh 1 0;
  emitted = [];
  stands = begin_line (head_parts t) (head_text true t) (head_text true t) 0 1 [] refl (sym (parts_head t));
  are_events_of = tt;
  early = tt;
  quiet = λ e. refl;
  begins = λ x. refl;
  most = refl;
  point = refl;
  bytes = refl;
  fits = zero-le;
  place = refl;
}

-- the kind of an LF
pub kind_line : (c : ℕ) → (c == 10) ≡ true → header_char_of c ≡ LineEnd
kind_line c h = let e : c ≡ 10 = grind (arith, nat_tests) in ap header_char_of e

-- one character more
pub length_one : (done : List ℕ) (c : ℕ) → length (done ++ c ∷ []) ≡ length done + 1
length_one done c = let l = length-append done (c ∷ []) in omega arith

module _ (t : List ℕ) (limit : ℕ) (done rest : List ℕ) (r : HeaderMachine) (es : List HeaderEvent) (c : ℕ) (h : MachineReads t limit done (c ∷ rest) r es) (e : (r.at_line && is_score_line (c ∷ rest)) ≡ false) where
  -- the headers' own text goes on so
  pub head_drop : drop (length done) (head_text true t) ≡ c ∷ head_text (c == 10) rest
  head_drop = ap (drop (length done)) (h.scan.head ∙ ap (λ (x : List ℕ). done ++ x) (head_next r.at_line c rest e)) ∙ drop-append_seam done (c ∷ head_text (c == 10) rest)

  -- its bytes
  pub bytes_push : bytes_len (done ++ c ∷ []) ≡ r.bytes + len_utf8 c
  bytes_push = let a = bytes_len-append done (c ∷ []) in let b = h.bytes in omega arith

  -- the byte after it
  bytes_next : r.bytes + len_utf8 c ≡ bytes_at (head_text true t) (length done + 1)
  bytes_next =
      let sc = scan_more t done rest c r.at_line e h.scan in
      sym bytes_push ∙ ap bytes_len (sym (ap (λ (n : ℕ). take n (head_text true t)) (sym (length_one done c)) ∙ (ap (take (length (done ++ c ∷ []))) sc.head ∙ take-append_seam (done ++ c ∷ []) (head_text (c == 10) rest))))

  -- the machine's test of a name is that of the name's characters
  good_is : is_good_span (span_of r.parts.trim) ≡ is_good_name (slice_range (head_text true t) h.rd.trim.from h.rd.trim.to)
  good_is = ap (λ (p : PartMachine). is_good_span (span_of p.trim)) h.parts
      ∙ (ap is_good_span (span_moved (bytes_at (head_text true t)) (bytes_mono (head_text true t)) h.rd.trim)
      ∙ (good_span (head_text true t) (span_of h.rd.trim) (span_order h.rd.trim) ∙ ap is_good_name (span_slice (head_text true t) h.rd.trim)))

  -- the step over characters
  abbrev pub char_step : PartMachine × Option HeaderEvent
  char_step = next_part_machine h.rd (header_char_of c) (length done) (length done + 1) (is_good_span (span_of r.parts.trim))

  -- the machine's step is the step over characters, its spans moved to bytes
  pub step_is : part_step r c ≡ moved_both (bytes_at (head_text true t)) char_step
  step_is = ap (λ (x : PartMachine). next_part_machine x (header_char_of c) r.point (r.bytes + len_utf8 c) (is_good_span (span_of r.parts.trim))) h.parts
      ∙ (ap (λ (x : ℕ). next_part_machine (moved (bytes_at (head_text true t)) h.rd) (header_char_of c) x (r.bytes + len_utf8 c) (is_good_span (span_of r.parts.trim))) h.point
      ∙ (ap (λ (x : ℕ). next_part_machine (moved (bytes_at (head_text true t)) h.rd) (header_char_of c) (length done) x (is_good_span (span_of r.parts.trim))) bytes_next
      ∙ step_moved (bytes_at (head_text true t)) (bytes_mono (head_text true t)) h.rd (length done) (length done + 1) (header_char_of c) (is_good_span (span_of r.parts.trim))))

  -- where the step over characters leaves the part machine
  pub stands_next : StandsIn (head_parts t) (head_text true t) char_step.0.state (head_text (c == 10) rest) (length done + 1) char_step.0 (h.emitted ++ seen (head_text true t) char_step.1)
  stands_next = one_step (head_parts t) (head_text true t) c (head_text (c == 10) rest) (length done) h.rd h.emitted (is_good_span (span_of r.parts.trim))
      (drop_next (head_text true t) (head_text (c == 10) rest) (length done) c head_drop) (λ x y. good_is)
      (subst (λ (x : List ℕ). StandsIn (head_parts t) (head_text true t) h.rd.state x (length done) h.rd h.emitted) (head_next r.at_line c rest e) h.stands)

  -- after an LF it is quiet
  quiet_next : (c == 10) ≡ true → is_quiet char_step.0 ≡ true
  quiet_next q = grind (arith, kind_line, quiet_line)

  -- a character more
  pub reads_more : bytes_len done + len_utf8 c ≤ limit → MachineReads t limit (done ++ c ∷ []) rest (machine_with r c (part_step r c).0) (with_event es (part_step r c).1)
  reads_more l =
      let m = near_step h.rd (length done) h.near (header_char_of c) (is_good_span (span_of r.parts.trim)) in
      let n = length_one done c in
      let b = head_prefix true t in
      record {
        scan = scan_more t done rest c r.at_line e h.scan;
        rd = char_step.0;
        parts = ap (λ (x : PartMachine × Option HeaderEvent). x.0) step_is;
        near = subst (λ (k : ℕ). Near k char_step.0) (sym n) m.0;
        emitted = h.emitted ++ seen (head_text true t) char_step.1;
        stands = subst (λ (k : ℕ). StandsIn (head_parts t) (head_text true t) char_step.0.state (head_text (c == 10) rest) k char_step.0 (h.emitted ++ seen (head_text true t) char_step.1)) (sym n) stands_next;
        are_events_of = subst (λ (x : PartMachine × Option HeaderEvent). AreEventsOf t (with_event es x.1) (h.emitted ++ seen (head_text true t) char_step.1)) (sym step_is)
            (emit_step t (head_text true t) b.0 (length done) es h.emitted char_step.1 b.1 m.1 h.are_events_of);
        early = subst (λ (k : ℕ). AreEarly k (h.emitted ++ seen (head_text true t) char_step.1)) (sym n) (early_step (head_text true t) (length done) h.emitted char_step.1 m.1 h.early);
        quiet = quiet_next;
        begins = begins_push done c;
        most = h.most;
        point = (let x = h.point in omega arith);
        bytes = sym bytes_push;
        fits = (let x = bytes_len-append done (c ∷ []) in omega arith);
        place = ap (λ (p : Place). next_place p c) h.place ∙ next_after done c;
      }
