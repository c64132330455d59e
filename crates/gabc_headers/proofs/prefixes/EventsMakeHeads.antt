-- The events of a text's characters, one after the other, are those of its headers.
use Rattle.std.proofs.Common.{◌≡◌, ℕ, ◌+◌, ◌≤◌, ◌<◌, List, [], ◌∷◌, ◌++◌, length, take, drop, map, Bool, true, false, cond, nat_le, refl, sym, ap, ◌∙◌, subst, arith, Option, None, Result, Ok, Err, append_assoc, append-nil, length-append}
use Rattle.std.proofs.lemmas.Bool.Decides.{nat_tests}
use Rattle.std.proofs.lemmas.List.{map-append, take-append-le, take-append-drop}
use Rattle.std.proofs.lemmas.List.Concat.{flat_map-cons}
use Rattle.std.proofs.Math.Seq.{drop-append_seam}
use Rattle.std.proofs.lemmas.Str.{encodes-append}
use lib.Utf8.{encodes, scalars}
use Rattle.gabc_places.specs.declared.place.Place.{Place}
use Rattle.gabc_places.specs.declared.place.Char.{Char}
use Rattle.gabc_places.specs.declared.limits.Limits.{Limits}
use Rattle.gabc_places.specs.declared.code.Code.TheVariants.{F4, F7, W1}
use Rattle.gabc_places.specs.declared.code.Fault.{Fault}
use Rattle.gabc_places.specs.declared.code.Finding.{Finding}
use Rattle.gabc_places.specs.Place.{placed_characters, placed_characters_after}
use Rattle.gabc_places.specs.StageLaw.{concat_of}
use Rattle.gabc_places.proofs.texts.PlacesOfCharacters.{length-placed, placed-append}
use Rattle.gabc_headers.specs.declared.heads.Heads.{Heads}
use Rattle.gabc_headers.specs.declared.heads.HeadFault.{HeadFault}
use Rattle.gabc_headers.specs.declared.head_event.HeadEvent.{HeadEvent}
use Rattle.gabc_headers.specs.declared.head_event.HeadEvent.TheVariants.{Found, Stop, Body, End}
use Rattle.gabc_headers.specs.machine.Collected.{Collected}
use Rattle.gabc_headers.specs.declared.events.HeaderEvent.{HeaderEvent}
use Rattle.gabc_headers.specs.declared.events.HeaderEnding.{HeaderEnding}
use Rattle.gabc_headers.specs.declared.events.HeaderEnding.TheVariants.{Score, Limit, Text}
use Rattle.gabc_headers.specs.declared.header_machine.HeaderMachine.{HeaderMachine}
use Rattle.gabc_headers.specs.declared.header_machine.HeaderStep.{HeaderStep}
use Rattle.gabc_headers.specs.declared.header_machine.HeaderStep.TheVariants.{Read, Ended}
use Rattle.gabc_headers.specs.Heads.{heads_of, findings_of, head_len}
use Rattle.gabc_headers.specs.HeadEvents.{event_of_book, inputs_after, body_characters, events_of_heads}
use Rattle.gabc_headers.specs.witness.HeadEvents.{HeadProgress, reading, after_headers, over, events_by, events_at, progress_by, events_left, new_findings}
use Rattle.gabc_headers.specs.machine.EntryMap.{AreWithin, spelled_named}
use Rattle.gabc_headers.specs.machine.Collected.{heads_at_score}
use Rattle.gabc_headers.specs.machine.HeaderMachine.{push_one, take_one, then_take, fresh_machine}
use Rattle.gabc_headers.specs.machine.Events.{with_event}
use Rattle.gabc_headers.proofs.collecting.HeadsFollowFromEvents.{collected_of, read_within}
use Rattle.gabc_places.proofs.texts.CharactersOfStrings.{scalars_split}
use Rattle.gabc_headers.proofs.groups.BookNeedsScoreLine.{score_after}
use Rattle.gabc_headers.proofs.PrefixHasTheSameHeaders.{len_again, heads_again}
use Rattle.gabc_headers.proofs.entries.TextsGoOn.{spelled_longer}
use Rattle.gabc_headers.proofs.prefixes.HeadsSoFar.{HasRead, begin_read, read_more, read_ended, kept_so_far, heads_at, heads_at_end, AreOpen, open_so_far, found_at, found_more}

-- ---- a push never emits the end of the text

abbrev pub IsNoText : HeaderStep → Type 0
IsNoText (Ended (Text place line)) = ⊥
IsNoText step = Unit {0}

no_text_by : (b : Bool) (r s : HeaderMachine) (place : Place) (e : Option HeaderEvent) → IsNoText (cond {A = HeaderMachine × HeaderStep} b (r, Ended (Limit place)) (s, Read e)).1
no_text_by b r s place e = grind arith

no_text_take : (r : HeaderMachine) (c : ℕ) → IsNoText (take_one r c).1
no_text_take r c = no_text_by _ r _ r.place _

no_text_then : (r : HeaderMachine) (step : HeaderStep) (c : ℕ) → IsNoText step → IsNoText (then_take r step c).1
no_text_then r step c h = grind (arith, no_text_take)

no_text_if : (b : Bool) (x y : HeaderMachine × HeaderStep) → IsNoText x.1 → IsNoText y.1 → IsNoText (cond b x y).1
no_text_if b x y h k = grind arith

pub no_text_push : (r : HeaderMachine) (c : ℕ) → IsNoText (push_one r c).1
no_text_push r c = grind (arith, no_text_if, no_text_then, no_text_take)

-- ---- lists

pub concat-cons : {T : Type 0} (a : List T) (rest : List (List T)) → concat_of (a ∷ rest) ≡ a ++ concat_of rest
concat-cons a rest = flat_map-cons (λ xs. xs) a rest

-- after the last event
pub nothing_left : (limits : Limits) (xs : List (Result Char Fault)) → concat_of (events_left limits over xs) ≡ []
nothing_left limits [] = refl
nothing_left limits (x ∷ xs) = nothing_left limits xs

-- a prefix with more, and then what follows
moved : (a new more : List Finding) (rest : List HeadEvent) → a ++ new ≡ more → map (λ f. Found f) a ++ (map (λ f. Found f) new ++ rest) ≡ map (λ f. Found f) more ++ rest
moved a new more rest e = grind (arith, append_assoc, map-append)

-- the characters after the headers
body_given : (limits : Limits) (book : List (List ℕ × List ℕ)) (cs : List Char) → concat_of (events_left limits (after_headers book) (map (λ c. Ok c) cs)) ≡ map (λ c. Body c) cs ++ End ∷ []
body_given limits book [] = concat-cons (End ∷ []) []
body_given limits book (c ∷ cs) = concat-cons (Body c ∷ []) (events_left limits (after_headers book) (map (λ c. Ok c) cs)) ∙ ap (λ (x : List HeadEvent). Body c ∷ x) (body_given limits book cs)

placed_drop : (t xs : List ℕ) (n : ℕ) → n ≡ length t → drop n (placed_characters (t ++ xs)) ≡ placed_characters_after t xs
placed_drop t xs n e = grind (arith, length-placed, placed-append, drop-append_seam)

-- ---- the headers' end

-- The headers that end here: they are stopped, with what was found, or are whole, with what was found and perhaps more.
pub data EndsWith (found : List Finding) (result : Result Heads HeadFault) : Type 0 where
  stopped : (f : HeadFault) → result ≡ Err f → f.at_end ≡ false → f.findings ≡ found → EndsWith found result
  whole : (heads : Heads) (more : List Finding) → result ≡ Ok heads → heads.findings ≡ found ++ more → EndsWith found result

ends_body : (place : Place) (body : ℕ) (book : List (List ℕ × List ℕ)) (found : List Finding) (x y z : Bool)
    → EndsWith found (cond x (Err (record { fault = record { place = place; code = F4 }; findings = found; at_end = false }))
    (cond y (Err (record { fault = record { place = place; code = F7 }; findings = found; at_end = false }))
    (Ok (record { book = book; body = body; findings = cond z found (found ++ record { place = place; code = W1 } ∷ []) }))))
ends_body place body book found true y z = stopped _ refl refl refl
ends_body place body book found false true z = stopped _ refl refl refl
ends_body place body book found false false true = whole _ [] refl (sym (append-nil found))
ends_body place body book found false false false = whole _ _ refl refl

pub ends_with : (limits : Limits) (t : List ℕ) (c : Collected) (end : HeaderEnding) → IsNoText (Ended end) → EndsWith c.findings (heads_at limits t c end)
ends_with limits t c (Score place body None) h = ends_body place body (spelled_named (encodes t) c.headers) c.findings _ _ _
ends_with limits t c (Text place line) h = absurd h
ends_with limits t c _ h = stopped _ refl refl refl

-- ---- the text with the second `%`

take-all : {T : Type 0} (xs : List T) → take (length xs) xs ≡ xs
take-all [] = refl
take-all (x ∷ xs) = ap (λ (l : List _). x ∷ l) (take-all xs)

module _ (limits : Limits) (held : List ℕ) (c : ℕ) (heads : Heads) (now : heads_of limits (held ++ c ∷ []) ≡ Ok heads) (f : HeadFault) (before : heads_of limits held ≡ Err f) where
  abbrev t : List ℕ
  t = held ++ c ∷ []

  -- the headers would have ended before
  not_before : head_len t + 2 ≤ length held → ⊥
  not_before l =
      let again = heads_again limits t (drop (head_len t + 2) held) heads now in
      let e : take (head_len t + 2) t ++ drop (head_len t + 2) held ≡ held
      = ap (λ (x : List ℕ). x ++ drop (head_len t + 2) held) (take-append-le (head_len t + 2) held (c ∷ []) l) ∙ take-append-drop (head_len t + 2) held in
      let o : heads_of limits held ≡ Ok again.0 = subst (λ (x : List ℕ). heads_of limits x ≡ Ok again.0) e again.1 in
      absurd (let g : Err f ≡ Ok again.0 = sym before ∙ o in cc)

  pub mark_last : head_len t + 2 ≡ length t
  mark_last =
      let l = score_after limits t heads now in
      let n = length-append held (c ∷ []) in
      by (nat_le (head_len t + 2) (length held)) refl l n
    where
      by : (b : Bool) → nat_le (head_len t + 2) (length held) ≡ b → head_len t + 2 ≤ length t → length t ≡ length held + 1 → head_len t + 2 ≡ length t
      by true e l n = absurd (not_before (let m : head_len t + 2 ≤ length held = grind (arith, nat_tests) in m))
      by false e l n = let m : length held < head_len t + 2 = grind (arith, nat_tests) in omega arith

  -- what stands after changes nothing of that
  pub body_is : (xs : List ℕ) → body_characters (t ++ xs) ≡ placed_characters_after t xs
  body_is xs =
      let e : take (head_len t + 2) t ++ xs ≡ t ++ xs = ap (λ (n : ℕ). take n t ++ xs) mark_last ∙ ap (λ (x : List ℕ). x ++ xs) (take-all t) in
      let n : head_len (t ++ xs) ≡ head_len t = subst (λ (x : List ℕ). head_len x ≡ head_len t) e (len_again limits t xs heads now) in
      placed_drop t xs (head_len (t ++ xs) + 2) (ap (λ (k : ℕ). k + 2) n ∙ mark_last)

-- ---- one character, and what follows

-- what a text emits
abbrev events_of_text : Limits → List ℕ → List HeadEvent
events_of_text limits t = events_of_heads t (heads_of limits t)

-- what is emitted from here on makes the whole
abbrev Makes : Limits → List ℕ → List HeaderEvent → List ℕ → Type 0
Makes limits held es xs = map (λ f. Found f) (collected_of held es).findings ++ concat_of (events_left limits (reading held) (inputs_after held xs)) ≡ events_of_text limits (held ++ xs)

open_events : (found : List Finding) (f : HeadFault) → f.at_end ≡ true → events_by found (Err f) ≡ map (λ f. Found f) found
open_events found f e = rw e refl

pub open_progress : (t : List ℕ) (f : HeadFault) → f.at_end ≡ true → progress_by t (Err f) ≡ reading t
open_progress t f e = rw e refl

closed_events : (found : List Finding) (f : HeadFault) → f.at_end ≡ false → events_by found (Err f) ≡ Stop f.fault ∷ []
closed_events found f e = rw e refl

pub closed_progress : (t : List ℕ) (f : HeadFault) → f.at_end ≡ false → progress_by t (Err f) ≡ over
closed_progress t f e = rw e refl

module _ (limits : Limits) (held xs : List ℕ) (c : ℕ) (r new : HeaderMachine) (es : List HeaderEvent) (u : scalars (held ++ c ∷ xs) ≡ true) (h : HasRead limits.header held r es) where
  abbrev longer : List ℕ
  longer = held ++ c ∷ []

  pub whole_is : longer ++ xs ≡ held ++ c ∷ xs
  whole_is = append_assoc held (c ∷ []) xs

  u_longer : scalars longer ≡ true
  u_longer = (scalars_split longer xs (subst (λ (x : List ℕ). scalars x ≡ true) (sym whole_is) u)).0

  u_held : scalars held ≡ true
  u_held = (scalars_split held (c ∷ xs) u).0

  o : AreOpen limits held es
  o = open_so_far limits held r es u_held h

  abbrev rest : HeadProgress → List HeadEvent
  rest progress = concat_of (events_left limits progress (inputs_after longer xs))

  split : concat_of (events_left limits (reading held) (inputs_after held (c ∷ xs))) ≡ events_at limits held c ++ rest (progress_by longer (heads_of limits longer))
  split = concat-cons (events_at limits held c) (events_left limits (progress_by longer (heads_of limits longer)) (inputs_after longer xs))

  -- what is found more
  new_is : (more : List Finding) (now : Result Heads HeadFault) → heads_of limits longer ≡ now → findings_of now ≡ (collected_of held es).findings ++ more → new_findings limits held longer ≡ more
  new_is more now e f =
      ap (λ (x : Result Heads HeadFault). drop (length (findings_of x)) (findings_of (heads_of limits longer))) o.heads
      ∙ (ap (λ (x : List Finding). drop (length x) (findings_of (heads_of limits longer))) o.findings
      ∙ (ap (λ (x : Result Heads HeadFault). drop (length (collected_of held es).findings) (findings_of x)) e
      ∙ (ap (λ (x : List Finding). drop (length (collected_of held es).findings) x) f ∙ drop-append_seam (collected_of held es).findings more)))

  -- what a character emits with which the headers go on
  pub read_emits : (e : Option HeaderEvent) → push_one r c ≡ (new, Read e)
      → (events_at limits held c ≡ map (λ f. Found f) (found_at (encodes longer) e (collected_of held es))) × (progress_by longer (heads_of limits longer) ≡ reading longer)
  read_emits e p =
      let n = read_more limits.header held r new es c e h p in
      let q = open_so_far limits longer new (with_event es e) u_longer n in
      let all = found_more limits.header held r es c e u_longer h in (
        ap (λ (x : Result Heads HeadFault). events_by (new_findings limits held longer) x) q.heads
            ∙ (open_events (new_findings limits held longer) q.fault q.at_end
            ∙ ap (λ (x : List Finding). map (λ f. Found f) x) (new_is (found_at (encodes longer) e (collected_of held es)) (Err q.fault) q.heads (q.findings ∙ all))),
        ap (λ (x : Result Heads HeadFault). progress_by longer x) q.heads ∙ open_progress longer q.fault q.at_end,
      )

  -- the headers go on
  pub goes_on : (e : Option HeaderEvent) → push_one r c ≡ (new, Read e) → Makes limits longer (with_event es e) xs → Makes limits held es (c ∷ xs)
  goes_on e p next =
      let more = found_at (encodes longer) e (collected_of held es) in
      let all : (collected_of longer (with_event es e)).findings ≡ (collected_of held es).findings ++ more = found_more limits.header held r es c e u_longer h in
      let emits = read_emits e p in
      ap (λ (x : List HeadEvent). map (λ f. Found f) (collected_of held es).findings ++ x) (split ∙ (ap (λ (x : List HeadEvent). x ++ rest (progress_by longer (heads_of limits longer))) emits.0 ∙ ap (λ (x : HeadProgress). map (λ f. Found f) more ++ rest x) emits.1))
      ∙ (moved (collected_of held es).findings more (collected_of longer (with_event es e)).findings (rest (reading longer)) (sym all)
      ∙ (next ∙ ap (events_of_text limits) whole_is))

  -- ---- the headers end

  same_collected : collected_of longer es ≡ collected_of held es
  same_collected = kept_so_far limits.header held (c ∷ []) r es u_longer h

  -- they end so, whatever follows
  pub now_is : (end : HeaderEnding) → push_one r c ≡ (new, Ended end) → heads_at limits longer (collected_of held es) end ≡ heads_of limits longer
  now_is end p = ap (λ (x : Collected). heads_at limits longer x end) (sym same_collected)
      ∙ heads_at_end limits longer es end u_longer (read_ended limits.header held r new es c end h p [])

  whole_at : (end : HeaderEnding) → push_one r c ≡ (new, Ended end) → heads_at limits (held ++ c ∷ xs) (collected_of held es) end ≡ heads_of limits (held ++ c ∷ xs)
  whole_at end p = ap (λ (x : Collected). heads_at limits (held ++ c ∷ xs) x end) (sym (kept_so_far limits.header held (c ∷ xs) r es u h))
      ∙ heads_at_end limits (held ++ c ∷ xs) es end u (read_ended limits.header held r new es c end h p xs)

  same_spelled : (end : HeaderEnding) → push_one r c ≡ (new, Ended end)
      → spelled_named (encodes (held ++ c ∷ xs)) (collected_of held es).headers ≡ spelled_named (encodes longer) (collected_of held es).headers
  same_spelled end p =
      ap (λ (x : List ℕ). spelled_named x (collected_of held es).headers) (sym (ap encodes whole_is) ∙ encodes-append longer xs)
      ∙ spelled_longer (λ n. n) (encodes longer) (encodes xs) (collected_of held es).headers
      (subst (λ (x : Collected). AreWithin (encodes longer) x.headers) same_collected (read_within limits longer es end u_longer (read_ended limits.header held r new es c end h p [])))

  pub same_heads : (end : HeaderEnding) → IsNoText (Ended end) → push_one r c ≡ (new, Ended end) → heads_of limits (held ++ c ∷ xs) ≡ heads_of limits longer
  same_heads (Limit place) n p = sym (whole_at (Limit place) p) ∙ now_is (Limit place) p
  same_heads (Score place body line) n p = sym (whole_at (Score place body line) p)
      ∙ (ap (λ (x : List (List ℕ × List ℕ)). heads_at_score limits place body line x (collected_of held es).findings) (same_spelled (Score place body line) p)
      ∙ now_is (Score place body line) p)
  same_heads (Text place line) n p = absurd n

  -- what a character emits with which they are stopped
  pub stopped_emits : (f : HeadFault) → heads_of limits longer ≡ Err f → f.at_end ≡ false → (events_at limits held c ≡ Stop f.fault ∷ []) × (progress_by longer (heads_of limits longer) ≡ over)
  stopped_emits f now e = grind (arith, closed_events, closed_progress)

  stopped_makes : (f : HeadFault) → heads_of limits longer ≡ Err f → heads_of limits (held ++ c ∷ xs) ≡ Err f → f.at_end ≡ false → f.findings ≡ (collected_of held es).findings → Makes limits held es (c ∷ xs)
  stopped_makes f now all e g = grind (arith, stopped_emits, nothing_left)

  -- what the second `%` emits of whole headers
  pub whole_emits : (heads : Heads) (more : List Finding) → heads_of limits longer ≡ Ok heads → heads.findings ≡ (collected_of held es).findings ++ more
      → (events_at limits held c ≡ map (λ f. Found f) more ++ event_of_book heads.book ∷ []) × (progress_by longer (heads_of limits longer) ≡ after_headers heads.book)
  whole_emits heads more now g = grind (arith, new_is)

  whole_makes : (heads : Heads) (more : List Finding) → heads_of limits longer ≡ Ok heads → heads_of limits (held ++ c ∷ xs) ≡ Ok heads → heads.findings ≡ (collected_of held es).findings ++ more → Makes limits held es (c ∷ xs)
  whole_makes heads more now all g =
      let emits = whole_emits heads more now g in
      let head_items : rest (after_headers heads.book) ≡ map (λ c. Body c) (placed_characters_after longer xs) ++ End ∷ [] = body_given limits heads.book (placed_characters_after longer xs) in
      let body : body_characters (held ++ c ∷ xs) ≡ placed_characters_after longer xs = subst (λ (x : List ℕ). body_characters x ≡ placed_characters_after longer xs) whole_is (body_is limits held c heads now o.fault o.heads xs) in
      ap (λ (x : List HeadEvent). map (λ f. Found f) (collected_of held es).findings ++ x)
      (split ∙ (ap (λ (x : List HeadEvent). x ++ rest (progress_by longer (heads_of limits longer))) emits.0
      ∙ (ap (λ (x : HeadProgress). (map (λ f. Found f) more ++ event_of_book heads.book ∷ []) ++ rest x) emits.1
      ∙ (append_assoc (map (λ f. Found f) more) (event_of_book heads.book ∷ []) (rest (after_headers heads.book))
      ∙ ap (λ (x : List HeadEvent). map (λ f. Found f) more ++ event_of_book heads.book ∷ x) head_items))))
      ∙ (moved (collected_of held es).findings more heads.findings (event_of_book heads.book ∷ (map (λ c. Body c) (placed_characters_after longer xs) ++ End ∷ [])) (sym g)
      ∙ (ap (λ (x : List Char). map (λ f. Found f) heads.findings ++ event_of_book heads.book ∷ (map (λ c. Body c) x ++ End ∷ [])) (sym body)
      ∙ ap (λ (x : Result Heads HeadFault). events_of_heads (held ++ c ∷ xs) x) (sym all)))

  pub ends_here : (end : HeaderEnding) → IsNoText (Ended end) → push_one r c ≡ (new, Ended end) → Makes limits held es (c ∷ xs)
  ends_here end n p = by (ends_with limits longer (collected_of held es) end n)
    where
      now : heads_at limits longer (collected_of held es) end ≡ heads_of limits longer
      now = now_is end p

      all : heads_of limits (held ++ c ∷ xs) ≡ heads_of limits longer
      all = same_heads end n p

      by : EndsWith (collected_of held es).findings (heads_at limits longer (collected_of held es) end) → Makes limits held es (c ∷ xs)
      by (stopped f e d g) = stopped_makes f (sym now ∙ e) (all ∙ (sym now ∙ e)) d g
      by (whole heads more e g) = whole_makes heads more (sym now ∙ e) (all ∙ (sym now ∙ e)) g

-- ---- all of it

-- at the end of the text
makes_end : (limits : Limits) (held : List ℕ) (r : HeaderMachine) (es : List HeaderEvent) → scalars held ≡ true → HasRead limits.header held r es → Makes limits held es []
makes_end limits held r es u h = grind (arith, open_so_far, concat-cons, append-nil)

-- at a character, if what follows makes the whole
makes_step : (limits : Limits) (held xs : List ℕ) (c : ℕ) (r : HeaderMachine) (es : List HeaderEvent) → scalars (held ++ c ∷ xs) ≡ true → HasRead limits.header held r es
    → ((new : HeaderMachine) (more : List HeaderEvent) → HasRead limits.header (held ++ c ∷ []) new more → Makes limits (held ++ c ∷ []) more xs) → Makes limits held es (c ∷ xs)
makes_step limits held xs c r es u h next = by (push_one r c) refl
  where
    by : (p : HeaderMachine × HeaderStep) → push_one r c ≡ p → Makes limits held es (c ∷ xs)
    by (new, Read e) p = goes_on limits held xs c r new es u h e p (next new (with_event es e) (read_more limits.header held r new es c e h p))
    by (new, Ended end) p = ends_here limits held xs c r new es u h end (subst (λ (x : HeaderMachine × HeaderStep). IsNoText x.1) p (no_text_push r c)) p

makes : (limits : Limits) (xs held : List ℕ) (r : HeaderMachine) (es : List HeaderEvent) → scalars (held ++ xs) ≡ true → HasRead limits.header held r es → Makes limits held es xs
makes limits [] held r es u h = makes_end limits held r es (subst (λ (x : List ℕ). scalars x ≡ true) (append-nil held) u) h
makes limits (c ∷ xs) held r es u h = makes_step limits held xs c r es u h
    (λ new more k. makes limits xs (held ++ c ∷ []) new more (subst (λ (x : List ℕ). scalars x ≡ true) (sym (append_assoc held (c ∷ []) xs)) u) k)

-- Emitted character by character, the headers of a text are what they are as a whole.
pub events_make_heads : (limits : Limits) (t : List ℕ) → scalars t ≡ true → concat_of (events_left limits (reading []) (inputs_after [] t)) ≡ events_of_heads t (heads_of limits t)
events_make_heads limits t u = makes limits t [] (fresh_machine limits.header) [] u (begin_read limits.header)
