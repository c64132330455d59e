-- How the headers end: at the line `%%`, where the text is too long, and at its end.
use Rattle.std.proofs.Common.{◌≡◌, ℕ, ◌+◌, ◌<◌, ◌≤◌, List, [], ◌∷◌, ◌++◌, length, take, Bool, true, false, cond, ◌&&◌, ◌==◌, nat_lt, Option, None, refl, sym, ap, ◌∙◌, subst, arith, append_assoc, append-nil, length-append}
use Rattle.std.proofs.Math.Seq.{take-append-add}
use Rattle.std.proofs.lemmas.Bool.Decides.{nat_tests}
use Rattle.std.specs.Char.{len_utf8}
use Rattle.gabc_places.proofs.PlacesOfAText.{next_after}
use Rattle.gabc_places.specs.declared.place.Place.{Place}
use Rattle.gabc_places.specs.declared.code.Code.TheVariants.{F4}
use Rattle.gabc_places.specs.Place.{place_after, next_place}
use Rattle.gabc_headers.specs.declared.characters.HeaderChar.TheVariants.{Percent}
use Rattle.gabc_headers.specs.declared.part_machine.PartMachine.{PartMachine}
use Rattle.gabc_headers.specs.declared.header_machine.HeaderMachine.{HeaderMachine}
use Rattle.gabc_headers.specs.declared.events.HeaderEvent.{HeaderEvent}
use Rattle.gabc_headers.specs.declared.events.HeaderEnding.TheVariants.{Score, Limit, Text}
use Rattle.gabc_headers.specs.Lines.{bytes_len, is_score_line}
use Rattle.gabc_headers.specs.Parts.{HeaderPart}
use Rattle.gabc_headers.specs.Heads.{head_len, stop_at, text_stops, open_line, body_byte}
use Rattle.gabc_headers.specs.witness.Parts.{head_parts}
use Rattle.gabc_headers.specs.machine.PartMachine.{open_in}
use Rattle.gabc_headers.specs.machine.Events.{AreHeaderEvents, open_part}
use Rattle.gabc_headers.proofs.groups.TextBeforeScore.{head_text, is_scored, head_length, head_next}
use Rattle.gabc_headers.proofs.machines.PartsAfterState.{StandsIn}
use Rattle.gabc_headers.proofs.machines.OneStepByCharacter.{the_end}
use Rattle.gabc_headers.proofs.machines.EventsAreParts.{seen, last_in}
use Rattle.gabc_headers.proofs.machines.EventSpansLieInText.{Near, drop_next, near_step, near_last, later, late_seen, open_late, quiet_event, quiet_open, quiet_last}
use Rattle.gabc_headers.proofs.stops.TextTooLong.{take_head, stops_none, stops_here, stops_held}
use Rattle.gabc_headers.proofs.machines.EventsAreEarlyParts.{earlies_weak, open_emitted, open_rest}
use Rattle.gabc_headers.proofs.machines.MachineOverText.{MachineReads, head_drop, char_step, stands_next}
use Rattle.gabc_headers.proofs.entries.TextsAsBytes.{bytes_len-append}

module _ (t : List ℕ) (limit : ℕ) (done : List ℕ) (r : HeaderMachine) (es : List HeaderEvent) where
  -- the machine's open line is that of its part machine over characters
  open_is : (rest : List ℕ) (h : MachineReads t limit done rest r es) → open_in r.parts.state r.parts.header ≡ open_in h.rd.state h.rd.header
  open_is rest h = ap (λ (p : PartMachine). open_in p.state p.header) h.parts

  -- ---- the text is too long

  -- the text is too long at the next character
  pub limit_here : (rest : List ℕ) (c : ℕ) (h : MachineReads t limit done (c ∷ rest) r es) → (r.at_line && is_score_line (c ∷ rest)) ≡ false → limit < bytes_len done + len_utf8 c
      → ((c == 37) && r.at_line) ≡ false → AreHeaderEvents limit t es (Limit r.place)
  limit_here rest c h e l q =
      let d = head_drop t limit done rest r es c h e in
      let n = head_next r.at_line c rest e in
      let a = later (head_parts t) (head_text true t) (c ∷ head_text (c == 10) rest) (length done) h.rd h.emitted d
      (subst (λ (x : List ℕ). StandsIn (head_parts t) (head_text true t) h.rd.state x (length done) h.rd h.emitted) n h.stands) h.near in
      record {
        emitted = h.emitted;
        rest = a.rest;
        stop = length done;
        all = a.whole;
        are_events_of = h.are_events_of;
        early = h.early;
        late = a.late;
        ends = stops_here limit t done rest c r.at_line h.scan.text h.begins (head_text (c == 10) rest) (h.scan.head ∙ ap (λ (x : List ℕ). done ++ x) n) h.fits l q
            ∙ ap (λ (p : Place). stop_at (length done) p F4 ∷ []) (sym h.place);
      }

  -- ---- after a `%` that begins a line, and is no start of the line `%%`

  -- the part machine there
  pub record Past (rest : List ℕ) (events : List HeaderPart) (rd : PartMachine) : Type 0 where
    pub new : PartMachine
    pub stands : StandsIn (head_parts t) (head_text true t) new.state (head_text false rest) (length done + 1) new events
    pub near : Near (length done + 1) new
    pub same : open_in rd.state rd.header ≡ open_in new.state new.header

  -- the part machine after such a `%`: nothing is emitted there, and no value opens or ends
  past : (rest : List ℕ) (h : MachineReads t limit done (37 ∷ rest) r es) → r.at_line ≡ true → (r.at_line && is_score_line (37 ∷ rest)) ≡ false → Past rest h.emitted h.rd
  past rest h a e =
      let s = char_step t limit done rest r es 37 h e in
      let q = quiet_event h.rd (length done) (length done + 1) _ (h.quiet a) in
      record {
        new = s.0;
        stands = subst (λ (x : List HeaderPart). StandsIn (head_parts t) (head_text true t) s.0.state (head_text false rest) (length done + 1) s.0 x)
            (ap (λ (x : Option HeaderEvent). h.emitted ++ seen (head_text true t) x) q ∙ append-nil h.emitted) (stands_next t limit done rest r es 37 h e);
        near = (near_step h.rd (length done) h.near Percent _).0;
        same = quiet_open h.rd (length done) (length done + 1) _ (h.quiet a);
      }

  -- the text is too long at a `%` that is held back, once the next character is there
  pub limit_held : (rest : List ℕ) (c : ℕ) (h : MachineReads t limit done (37 ∷ c ∷ rest) r es) → r.at_line ≡ true → (r.at_line && is_score_line (37 ∷ c ∷ rest)) ≡ false
      → limit < bytes_len done + len_utf8 37 → AreHeaderEvents limit t es (Limit r.place)
  limit_held rest c h a e l =
      let p = past (c ∷ rest) h a e in
      let d = head_drop t limit done (c ∷ rest) r es 37 h e in
      let n = head_next r.at_line 37 (c ∷ rest) e in
      let z = later (head_parts t) (head_text true t) (head_text false (c ∷ rest)) (length done + 1) p.new h.emitted (drop_next (head_text true t) (head_text false (c ∷ rest)) (length done) 37 d) p.stands p.near in
      let u = ap length h.scan.text in
      let v = length-append done (37 ∷ c ∷ rest) in
      let w : nat_lt (length done + 1) (length t) ≡ true = grind (arith, nat_tests) in
      record {
        emitted = h.emitted;
        rest = z.rest;
        stop = length done + 1;
        all = z.whole;
        are_events_of = h.are_events_of;
        early = earlies_weak (length done) h.emitted h.early;
        late = z.late;
        ends = stops_held limit t done (c ∷ rest) 37 r.at_line h.scan.text h.begins (head_text false (c ∷ rest)) (h.scan.head ∙ ap (λ (x : List ℕ). done ++ x) n) h.fits l a
            ∙ (ap (λ (b : Bool). cond b (stop_at (length done + 1) (place_after done) F4 ∷ []) []) w ∙ ap (λ (p : Place). stop_at (length done + 1) p F4 ∷ []) (sym h.place));
      }

  -- ---- the line `%%`

  -- the next two characters begin the line `%%`
  pub score_here : (rest : List ℕ) (h : MachineReads t limit done (37 ∷ 37 ∷ rest) r es) → r.at_line ≡ true → AreHeaderEvents limit t es (Score r.place (r.bytes + 2) (open_in r.parts.state r.parts.header))
  score_here rest h a =
      let line : Option ℕ = open_in r.parts.state r.parts.header in
      let i = open_is (37 ∷ 37 ∷ rest) h in
      let none : head_text r.at_line (37 ∷ 37 ∷ rest) ≡ [] = ap (λ (b : Bool). head_text b (37 ∷ 37 ∷ rest)) a in
      let own : head_text true t ≡ done = h.scan.head ∙ (ap (λ (x : List ℕ). done ++ x) none ∙ append-nil done) in
      let whole : head_parts t ≡ h.emitted ++ open_part line =
      the_end (head_parts t) (head_text true t) (length done) h.rd h.emitted (subst (λ (x : List ℕ). StandsIn (head_parts t) (head_text true t) h.rd.state x (length done) h.rd h.emitted) none h.stands)
      ∙ (ap (λ (x : Option HeaderEvent). (h.emitted ++ seen (head_text true t) x) ++ open_part (open_in h.rd.state h.rd.header)) (quiet_last h.rd (length done) (h.quiet a))
      ∙ (ap (λ (x : List HeaderPart). x ++ open_part (open_in h.rd.state h.rd.header)) (append-nil h.emitted) ∙ ap (λ (x : Option ℕ). h.emitted ++ open_part x) (sym i))) in
      let n : head_len t ≡ length done = head_length t ∙ ap length own in
      record {
        emitted = h.emitted;
        rest = open_part line;
        stop = length done + 1;
        all = whole;
        are_events_of = h.are_events_of;
        early = earlies_weak (length done) h.emitted h.early;
        late = open_late (length done + 1) line;
        ends = (
          h.scan.score ∙ ap (λ (b : Bool). is_scored b (37 ∷ 37 ∷ rest)) a,
          stops_none limit t (let f = h.fits in let o = ap bytes_len own in omega arith),
          ap (λ (x : ℕ). x + 1) (sym n),
          h.place ∙ ap place_after (sym (take_head t ∙ own)),
          body rest h n,
          sym (ap open_line whole ∙ (open_emitted (length done) h.emitted (open_part line) h.early ∙ open_rest (head_text true t) None line)),
          refl,
        );
      }
    where
      body : (rest : List ℕ) (h : MachineReads t limit done (37 ∷ 37 ∷ rest) r es) → head_len t ≡ length done → r.bytes + 2 ≡ body_byte t
      body rest h n =
          let x : take (head_len t + 2) t ≡ done ++ 37 ∷ 37 ∷ [] = ap (λ (k : ℕ). take (k + 2) t) n ∙ (ap (take (length done + 2)) h.scan.text ∙ take-append-add done (37 ∷ 37 ∷ rest) 2) in
          let y = bytes_len-append done (37 ∷ 37 ∷ []) in
          let z = h.bytes in
          let w = ap bytes_len x in
          omega arith

  -- ---- the end of the text

  -- the text ends, and nothing is held back
  pub text_here : (h : MachineReads t limit done [] r es) → AreHeaderEvents limit t es (Text r.place (open_in r.parts.state r.parts.header))
  text_here h = grind (arith, append-nil, the_end, open_is, append_assoc, late_seen, near_last, open_late, stops_none, open_emitted, open_rest)

  -- the text ends after a `%` that is held back
  pub text_held : (h : MachineReads t limit done (37 ∷ []) r es) → r.at_line ≡ true → AreHeaderEvents limit t es (Text (next_place r.place 37) (open_in r.parts.state r.parts.header))
  text_held h a =
      let line : Option ℕ = open_in r.parts.state r.parts.header in
      let e : (r.at_line && is_score_line (37 ∷ [])) ≡ false = ap (λ (b : Bool). b && false) a in
      let p = past [] h a e in
      let event : Option HeaderEvent = last_in p.new.state p.new (length done + 1) in
      let own : head_text true t ≡ done ++ 37 ∷ [] = h.scan.head ∙ ap (λ (x : List ℕ). done ++ x) (head_next r.at_line 37 [] e) in
      let whole : head_parts t ≡ h.emitted ++ (seen (head_text true t) event ++ open_part line) =
      the_end (head_parts t) (head_text true t) (length done + 1) p.new h.emitted p.stands
      ∙ (ap (λ (x : Option ℕ). (h.emitted ++ seen (head_text true t) event) ++ open_part x) (sym (open_is (37 ∷ []) h ∙ p.same)) ∙ append_assoc h.emitted (seen (head_text true t) event) (open_part line)) in
      record {
        emitted = h.emitted;
        rest = seen (head_text true t) event ++ open_part line;
        stop = length done + 1;
        all = whole;
        are_events_of = h.are_events_of;
        early = earlies_weak (length done) h.emitted h.early;
        late = late_seen (head_text true t) (length done + 1) event (open_part line) (near_last p.new (length done + 1) p.near) (open_late (length done + 1) line);
        ends = (
          h.scan.score ∙ ap (λ (b : Bool). is_scored b (37 ∷ [])) a,
          fits h a own (nat_lt limit (bytes_len (done ++ 37 ∷ []))) refl,
          (let u = ap length h.scan.text in let v = length-append done (37 ∷ []) in omega arith),
          ap (λ (x : Place). next_place x 37) h.place ∙ (next_after done 37 ∙ ap place_after (sym h.scan.text)),
          sym (ap open_line whole ∙ (open_emitted (length done) h.emitted (seen (head_text true t) event ++ open_part line) h.early ∙ open_rest (head_text true t) event line)),
        );
      }
    where
      -- the `%` counts only once the next character is there
      fits : (h : MachineReads t limit done (37 ∷ []) r es) → r.at_line ≡ true → head_text true t ≡ done ++ 37 ∷ [] → (b : Bool) → nat_lt limit (bytes_len (done ++ 37 ∷ [])) ≡ b → text_stops limit t ≡ []
      fits h a own true q =
          let l : limit < bytes_len (done ++ 37 ∷ []) = grind (arith, nat_tests) in
          let m = bytes_len-append done (37 ∷ []) in
          let u = ap length h.scan.text in
          let v = length-append done (37 ∷ []) in
          let w : nat_lt (length done + 1) (length t) ≡ false = grind (arith, nat_tests) in
          stops_held limit t done [] 37 r.at_line h.scan.text h.begins [] own h.fits (omega arith) a
          ∙ ap (λ (b : Bool). cond b (stop_at (length done + 1) (place_after done) F4 ∷ []) []) w
      fits h a own false q =
          let l : bytes_len (done ++ 37 ∷ []) ≤ limit = grind (arith, nat_tests) in
          stops_none limit t (let o = ap bytes_len own in omega arith)
