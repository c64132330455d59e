-- What a stage of headers gives of a character, by what its machine emits of it.
use Rattle.std.proofs.Common.{◌≡◌, ℕ, ◌+◌, ◌≤◌, List, [], ◌∷◌, ◌++◌, length, map, Bool, true, false, cond, codes, refl, sym, ap, ◌∙◌, subst, arith, Option, Some, None, Result, Ok, Err, IsUtf8, append-nil}
use Rattle.std.specs.Char.{IsScalar, len_utf8}
use Rattle.std.specs.Str.{chars}
use Rattle.std.proofs.lemmas.Str.{chars-append, encodes-chars, IsUtf8-append, IsUtf8-encode, length-encode, scalars-chars}
use lib.Utf8.{encode, encodes, scalars}
use Rattle.gabc_places.specs.declared.place.Place.{Place}
use Rattle.gabc_places.specs.declared.place.Span.{Span}
use Rattle.gabc_places.specs.declared.limits.Limits.{Limits}
use Rattle.gabc_places.specs.declared.code.Code.TheVariants.{W1, F4}
use Rattle.gabc_places.specs.declared.code.Fault.{Fault}
use Rattle.gabc_places.specs.declared.code.Finding.{Finding}
use Rattle.gabc_places.proofs.texts.CharactersOfStrings.{chars-encode}
use Rattle.gabc_headers.specs.declared.events.HeaderEvent.{HeaderEvent}
use Rattle.gabc_headers.specs.declared.events.HeaderEnding.{HeaderEnding}
use Rattle.gabc_headers.specs.declared.events.HeaderEnding.TheVariants.{Score, Limit, Text}
use Rattle.gabc_headers.specs.declared.head_event.HeadEvent.{HeadEvent}
use Rattle.gabc_headers.specs.declared.head_event.HeadEvent.TheVariants.{Found, Stop}
use Rattle.gabc_headers.specs.declared.header_machine.HeaderMachine.{HeaderMachine}
use Rattle.gabc_headers.specs.declared.header_machine.HeaderStep.{HeaderStep}
use Rattle.gabc_headers.specs.declared.header_machine.HeaderStep.TheVariants.{Read, Ended}
use Rattle.gabc_headers.specs.declared.heads.Heads.{Heads}
use Rattle.gabc_headers.specs.declared.heads.HeadFault.{HeadFault}
use Rattle.gabc_headers.specs.Book.{has_header}
use Rattle.gabc_headers.specs.Entries.{key_name, spelled_entries}
use Rattle.gabc_headers.specs.Heads.{heads_of}
use Rattle.gabc_headers.specs.HeadEvents.{event_of_book}
use Rattle.gabc_headers.specs.witness.HeadEvents.{HeadProgress, reading, after_headers, over, events_at, events_at_end, progress_with}
use Rattle.gabc_headers.specs.Lines.{bytes_len}
use Rattle.gabc_headers.specs.machine.Collected.{Collected, IsGoodEvent, AreGoodEvents, collected_with, collected_with_all, of_headers, none, name_found, len_at_score, end_fault}
use Rattle.gabc_headers.specs.machine.EntryMap.{EntryMapState, AreWithin, HasPlace, named_entries, spelled_named}
use Rattle.gabc_headers.specs.machine.Events.{with_event}
use Rattle.gabc_headers.specs.machine.HeaderMachine.{IsBounded, fresh_machine, push_one, end_here}
use Rattle.gabc_headers.specs.machine.HeaderStage.{Takes, IsReading}
use Rattle.gabc_headers.proofs.collecting.HeadsFollowFromEvents.{collected_of, read_good, read_within}
use Rattle.gabc_headers.proofs.collecting.HeadsWithinLimits.{by_len, heads_by_len, at_text_end}
use Rattle.gabc_headers.proofs.entries.HeadersAreSpelled.{spelled_by_names, within_by_names}
use Rattle.gabc_headers.proofs.entries.MapIsReadByEntry.{length-named}
use Rattle.gabc_headers.proofs.entries.TextsAsBytes.{bytes_len-append, bytes_len-chars}
use Rattle.gabc_headers.proofs.entries.TextsGoOn.{spelled_longer}
use Rattle.gabc_headers.proofs.prefixes.EventsGrow.{with_last}
use Rattle.gabc_headers.proofs.prefixes.EventsMakeHeads.{IsNoText, no_text_push, read_emits, stopped_emits, whole_emits, now_is}
use Rattle.gabc_headers.proofs.prefixes.HeadsSoFar.{HasRead, read_all, kept_so_far, heads_at, heads_at_end, found_at}
use Rattle.gabc_headers.proofs.stages.HeadersTakeThreeBytes.{room_for_one}
use Rattle.gabc_headers.proofs.stages.MachineTakesText.{takes_more, has_read, counted, seen_bytes}

-- ---- what an event adds depends on the headers alone

headers_alone : (text : List ℕ) (e : HeaderEvent) (c : Collected) → (collected_with text e c).headers ≡ (collected_with text e (of_headers c.headers)).headers
headers_alone text e c = grind arith

found_alone : (text : List ℕ) (e : Option HeaderEvent) (c : Collected) → found_at text e c ≡ found_at text e (of_headers c.headers)
found_alone text e c = grind arith

-- the headers with an event, if there is one
abbrev pub put_at : List ℕ → Option HeaderEvent → List (List ℕ × Span) → List (List ℕ × Span)
put_at text None items = items
put_at text (Some e) items = (collected_with text e (of_headers items)).headers

put_last : (text : List ℕ) (es : List HeaderEvent) (e : Option HeaderEvent) → put_at text e (collected_with_all text es none).headers ≡ (collected_with_all text (with_event es e) none).headers
put_last text es None = refl
put_last text es (Some e) = sym (headers_alone text e (collected_with_all text es none)) ∙ sym (ap (λ (x : Collected). x.headers) (with_last text es e none))

-- the event is good, if there is one
abbrev pub IsGoodOption : List ℕ → Option HeaderEvent → Type 0
IsGoodOption text None = Unit {0}
IsGoodOption text (Some e) = IsGoodEvent text e

good_last : (text : List ℕ) (es : List HeaderEvent) (e : Option HeaderEvent) → AreGoodEvents text (with_event es e) → IsGoodOption text e
good_last text es None h = tt
good_last text [] (Some e) h = h.0
good_last text (d ∷ es) (Some e) h = good_last text es (Some e) h.1

-- ---- the values

-- they lie in the text that is read
pub values_lie_within : (limits : Limits) (text : List ℕ) (space : ℕ) (machine : HeaderMachine) (headers : EntryMapState) → IsUtf8 text → IsReading limits text space machine headers → AreWithin text headers.0
values_lie_within limits text space machine headers u h =
    let t = chars text in
    let bytes_are : encodes t ≡ text = encodes-chars text u in
    let items_are : named_entries headers.0 ≡ (collected_of t h.events).headers = h.put ∙ ap (λ (x : List ℕ). (collected_with_all x h.events none).headers) (sym bytes_are) in
    within_by_names text headers.0 (subst (λ (x : List (List ℕ × Span)). AreWithin text x) (sym items_are) (subst (λ (x : List ℕ). AreWithin x (collected_of t h.events).headers) bytes_are
    (read_within limits t h.events (end_here machine) (scalars-chars text u) (read_all limits.header t machine h.events (has_read limits.header t machine h.events h.taken)))))

-- ---- a character

-- what a character emits with which the headers go on
pub record ReadsOn (limits : Limits) (text : List ℕ) (space : ℕ) (new : HeaderMachine) (headers : EntryMapState) (c : ℕ) (e : Option HeaderEvent) : Type 0 where
  pub fits : length text + length (encode c) ≤ space
  pub good : IsGoodOption (text ++ encode c) e
  pub room : HasPlace headers
  pub events : events_at limits (chars text) c ≡ map (λ f. Found f) (found_at (text ++ encode c) e (of_headers (named_entries headers.0)))
  pub progress : progress_with limits (chars text) c ≡ reading (chars (text ++ encode c))
  pub next : (now : EntryMapState) (more : ℕ) → space ≤ more → named_entries now.0 ≡ put_at (text ++ encode c) e (named_entries headers.0) → now.1 ≡ headers.1
      → IsReading limits (text ++ encode c) more new now

-- what a character emits that ends the headers
pub record EndsHeaders (limits : Limits) (text : List ℕ) (c : ℕ) (events : List HeadEvent) (progress : HeadProgress) : Type 0 where
  pub events_are : events_at limits (chars text) c ≡ events
  pub progress_is : progress_with limits (chars text) c ≡ progress

module _ (limits : Limits) (text : List ℕ) (space : ℕ) (machine new : HeaderMachine) (headers : EntryMapState) (c : ℕ) (u : IsUtf8 text) (s : IsScalar c) (h : IsReading limits text space machine headers) where
  abbrev t : List ℕ
  t = chars text

  abbrev longer : List ℕ
  longer = t ++ c ∷ []

  abbrev more : List ℕ
  more = text ++ encode c

  more_utf8 : IsUtf8 more
  more_utf8 = IsUtf8-append text (encode c) u (IsUtf8-encode c s)

  chars_more : chars more ≡ longer
  chars_more = chars-append text (encode c) u ∙ ap (λ (x : List ℕ). t ++ x) (chars-encode c s)

  bytes_more : encodes longer ≡ more
  bytes_more = sym (ap encodes chars_more) ∙ encodes-chars more more_utf8

  bytes_are : encodes t ≡ text
  bytes_are = encodes-chars text u

  scalars_more : scalars longer ≡ true
  scalars_more = subst (λ (x : List ℕ). scalars x ≡ true) chars_more (scalars-chars more more_utf8)

  pub read : HasRead limits.header t machine h.events
  read = has_read limits.header t machine h.events h.taken

  items_are : named_entries headers.0 ≡ (collected_of t h.events).headers
  items_are = h.put ∙ ap (λ (x : List ℕ). (collected_with_all x h.events none).headers) (sym bytes_are)

  items_more : named_entries headers.0 ≡ (collected_with_all more h.events none).headers
  items_more = grind (arith, items_are, kept_so_far, scalars_more, read, bytes_more)

  pub reads_on : (e : Option HeaderEvent) → IsBounded new → push_one machine c ≡ (new, Read e) → ReadsOn limits text space new headers c e
  reads_on e bounded p =
      let emits = read_emits limits t [] c machine new h.events scalars_more read e p in
      let taken = takes_more (fresh_machine limits.header) machine new [] h.events t c e h.taken p in
      let here = counted limits.header longer new (with_event h.events e) taken in
      record {
        fits = within (bytes_len-append t (c ∷ [])) here.bytes here.limit bounded;
        good = good_last more h.events e (subst (λ (x : List ℕ). AreGoodEvents x (with_event h.events e)) bytes_more
            (read_good limits longer (with_event h.events e) (end_here new) scalars_more (read_all limits.header longer new (with_event h.events e) (has_read limits.header longer new (with_event h.events e) taken))));
        room = room_is;
        events = emits.0 ∙ ap (λ (x : List Finding). map (λ f. Found f) x) (ap (λ (x : List ℕ). found_at x e (collected_of t h.events)) bytes_more ∙ (found_alone more e (collected_of t h.events)
            ∙ ap (λ (x : List (List ℕ × Span)). found_at more e (of_headers x)) (sym items_are)));
        progress = emits.1 ∙ ap (λ (x : List ℕ). reading x) (sym chars_more);
        next = λ now wide w items limit. record {
          events = with_event h.events e;
          taken = subst (λ (x : List ℕ). Takes (fresh_machine limits.header) [] x new (with_event h.events e)) (sym chars_more) taken;
          bounded = bounded;
          fits = (let f = h.fits in omega (arith, f, w));
          put = items ∙ (ap (λ (x : List (List ℕ × Span)). put_at more e x) items_more ∙ put_last more h.events e);
          limit = limit ∙ h.limit;
        };
      }
    where
      held_at_most : (b : Bool) → cond b 1 0 ≤ 1
      held_at_most true = omega arith
      held_at_most false = omega arith

      within : bytes_len longer ≡ bytes_len t + bytes_len (c ∷ []) → bytes_len longer ≡ seen_bytes new → new.limit ≡ limits.header → IsBounded new → length text + length (encode c) ≤ space
      within a b l n =
          let one : bytes_len (c ∷ []) ≡ len_utf8 c = Rattle.std.proofs.Common.zero-add (len_utf8 c) in
          let d = bytes_len-chars text u in
          let g = length-encode c in
          let f = h.fits in
          let m = n.bytes in
          let k = held_at_most new.held in
          omega (arith, a, b, l, one, d, g, f, m, k)

      room_is : HasPlace headers
      room_is =
          let r = room_for_one limits.header t text machine h.events h.taken (let b = h.bounded.bytes in let l = (counted limits.header t machine h.events h.taken).limit in omega (arith, b, l)) in
          let i = ap (λ (x : List (List ℕ × Span)). length x) h.put in
          let l = h.limit in
          omega (arith, r, i, l, length-named headers.0)

  -- the text is too long
  pub emits_limit : (place : Place) → push_one machine c ≡ (new, Ended (Limit place)) → EndsHeaders limits text c (Stop (record { place = place; code = F4 }) ∷ []) over
  emits_limit place p =
      let now = now_is limits t [] c machine new h.events scalars_more read (Limit place) p in
      let k = stopped_emits limits t [] c machine new h.events scalars_more read _ (sym now) refl in
      record { events_are = k.0; progress_is = k.1 }

  -- ---- the line `%%`

  abbrev book : List (List ℕ × List ℕ)
  book = spelled_entries text headers.0

  book_is : spelled_named (encodes longer) (collected_of t h.events).headers ≡ book
  book_is = ap (λ (x : List ℕ). spelled_named x (collected_of t h.events).headers) bytes_more ∙ (ap (λ (x : List (List ℕ × Span)). spelled_named more x) (sym items_are) ∙ spelled_by_names more headers.0
      ∙ spelled_longer key_name text (encode c) headers.0 (values_lie_within limits text space machine headers u h))

  heads_are : (place : Place) (body : ℕ) (line : Option ℕ) → push_one machine c ≡ (new, Ended (Score place body line))
      → heads_of limits longer ≡ heads_by_len place body book (collected_of t h.events).findings (len_at_score limits place line book)
  heads_are place body line p =
      sym (now_is limits t [] c machine new h.events scalars_more read (Score place body line) p)
      ∙ (by_len limits place body line (spelled_named (encodes longer) (collected_of t h.events).headers) (collected_of t h.events).findings
      ∙ ap (λ (x : List (List ℕ × List ℕ)). heads_by_len place body x (collected_of t h.events).findings (len_at_score limits place line x)) book_is)

  pub emits_stop : (place : Place) (body : ℕ) (line : Option ℕ) (fault : Fault) → push_one machine c ≡ (new, Ended (Score place body line)) → len_at_score limits place line book ≡ Err fault
      → EndsHeaders limits text c (Stop fault ∷ []) over
  emits_stop place body line fault p e =
      let now = heads_are place body line p ∙ ap (λ (x : Result ℕ Fault). heads_by_len place body book (collected_of t h.events).findings x) e in
      let k = stopped_emits limits t [] c machine new h.events scalars_more read _ now refl in
      record { events_are = k.0; progress_is = k.1 }

  pub emits_whole : (place : Place) (body : ℕ) (line : Option ℕ) (size : ℕ) → push_one machine c ≡ (new, Ended (Score place body line)) → len_at_score limits place line book ≡ Ok size
      → EndsHeaders limits text c (map (λ f. Found f) (name_found place book) ++ event_of_book book ∷ []) (after_headers book)
  emits_whole place body line size p e =
      let now = heads_are place body line p ∙ ap (λ (x : Result ℕ Fault). heads_by_len place body book (collected_of t h.events).findings x) e in
      let k = whole_emits limits t [] c machine new h.events scalars_more read _ (name_found place book) now (more_found (has_header (codes "name") book)) in
      record { events_are = k.0; progress_is = k.1 }
    where
      more_found : (b : Bool) → cond b (collected_of t h.events).findings ((collected_of t h.events).findings ++ record { place = place; code = W1 } ∷ []) ≡ (collected_of t h.events).findings ++ cond b [] (record { place = place; code = W1 } ∷ [])
      more_found true = sym (append-nil (collected_of t h.events).findings)
      more_found false = refl

  -- a character does not end the text
  pub emits_no_end : (place : Place) (line : Option ℕ) → push_one machine c ≡ (new, Ended (Text place line)) → ⊥
  emits_no_end place line p = subst (λ (x : HeaderMachine × HeaderStep). IsNoText x.1) p (no_text_push machine c)

-- ---- the end of the text

pub emits_end : (limits : Limits) (text : List ℕ) (space : ℕ) (machine : HeaderMachine) (headers : EntryMapState) → IsUtf8 text → IsReading limits text space machine headers
    → (place : Place) (line : Option ℕ) → Text place line ≡ end_here machine → events_at_end (heads_of limits (chars text)) ≡ Stop (end_fault place line) ∷ []
emits_end limits text space machine headers u h place line e =
    let read = has_read limits.header (chars text) machine h.events h.taken in
    let now = heads_at_end limits (chars text) h.events (end_here machine) (scalars-chars text u) (read_all limits.header (chars text) machine h.events read) in
    ap (λ (x : Result Heads HeadFault). events_at_end x) (sym now ∙ (ap (λ (x : HeaderEnding). heads_at limits (chars text) (collected_of (chars text) h.events) x) (sym e)
    ∙ ap (λ (x : HeadFault). Err x) (at_text_end place line (collected_of (chars text) h.events).findings)))
