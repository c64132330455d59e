-- An item that is read, by way of the stage of headers or after the line `%%` without it, brings
-- what was to come for it.
use Rattle.std.proofs.Common.{◌≡◌, ℕ, ◌⊎◌, inl, inr, List, [], ◌∷◌, ◌++◌, map, Bool, true, false, cond, Result, Ok, Err, refl, ap, sym, ◌∙◌, subst, append-nil, arith}
use Rattle.std.specs.List.{list_any}
use Rattle.std.specs.declared.hash.DefaultHasher.{DefaultHasher}
use Rattle.gabc_places.specs.StageLaw.{concat_of}
use Rattle.gabc_places.specs.declared.code.Fault.{Fault}
use Rattle.gabc_places.specs.declared.code.Finding.{Finding}
use Rattle.gabc_places.specs.declared.limits.Limits.{Limits}
use Rattle.gabc_places.specs.declared.place.Char.{Char}
use Rattle.gabc_headers.specs.declared.heads.Heads.{Heads}
use Rattle.gabc_headers.specs.declared.heads.HeadFault.{HeadFault}
use Rattle.gabc_headers.specs.declared.head_event.HeadEvent.{HeadEvent}
use Rattle.gabc_headers.specs.declared.head_event.HeadEvent.TheVariants as head_event
use Rattle.gabc_headers.specs.Heads.{heads_of}
use Rattle.gabc_headers.specs.HeadEvents.{event_of_book}
use Rattle.gabc_headers.specs.witness.HeadEvents.{HeaderStageState, HeadProgress, reading, after_headers, over, IsAfterHeaders, book_at, events_by, events_of_input, new_findings, progress_after, progress_by, stage_after, stage_past}
use Rattle.gabc_score.specs.witness.ScoreStage.{ScoreStageState, left_of}
use Rattle.gabc_headers.proofs.stages.CharactersOfAStage.{nothing_added}
use Rattle.gregorio.specs.declared.source_ending.SourceEnding.{SourceEnding}
use Rattle.gregorio.specs.declared.source_ending.SourceEnding.TheVariants.{Whole as Ended, Broken}
use Rattle.gregorio.specs.Streams.{Streams, after_bytes}
use Rattle.gregorio.specs.witness.Engine.{book_after, head_events_left, is_heads, streams_in}
use Rattle.gregorio.specs.machine.ScoreWriter.{ScoreWriterState, IsBookAt, IsShortBook, KeepsJobAndRooms, WritesAt, streams_of}
use Rattle.gregorio.specs.machine.Engine.{AreBooksAt, GoTogether, IsBookRead, IsSettled, WritesAll, WritesItems, event_of_item, headed_past}
use Rattle.gregorio.proofs.StreamsOfOutputs.{in_body}
use Rattle.gregorio.proofs.pieces.BytesAreJoined.{after_same}

-- ---- the stage of headers

given_next : (h : HeaderStageState) (ending : SourceEnding) (item : Result Char Fault) (items : List (Result Char Fault))
    → head_events_left h ending (item ∷ items) ≡ events_of_input h.limits h.progress item ++ head_events_left (stage_after h item) ending items
given_next h ending item items = grind arith

past_over : (limits : Limits) (hasher : DefaultHasher) (book : List (List ℕ × List ℕ)) (items : List (Result Char Fault)) → (stage_past (record { limits = limits; progress = over; book = book; hasher = hasher }) items).book ≡ book
past_over limits hasher book [] = refl
past_over limits hasher book (item ∷ items) = past_over limits hasher book items

pub past_after : (limits : Limits) (hasher : DefaultHasher) (book : List (List ℕ × List ℕ)) (items : List (Result Char Fault)) → (stage_past (record { limits = limits; progress = after_headers book; book = book; hasher = hasher }) items).book ≡ book
past_after limits hasher book [] = refl
past_after limits hasher book (Ok c ∷ items) = past_after limits hasher book items
past_after limits hasher book (Err fault ∷ items) = past_over limits hasher book items

-- each character is an input of the body
pub inputs_after : (limits : Limits) (hasher : DefaultHasher) (book : List (List ℕ × List ℕ)) (cs : List Char) (ending : SourceEnding) (more : List (Result Char Fault))
    → (let h : HeaderStageState = record { limits = limits; progress = after_headers book; book = book; hasher = hasher } in
    head_events_left h ending (map (λ (c : Char). Ok c) cs ++ more) ≡ map (λ (c : Char). head_event.Body c) cs ++ head_events_left h ending more)
inputs_after limits hasher book [] ending more = refl
inputs_after limits hasher book (c ∷ cs) Ended more = ap (λ (events : List HeadEvent). head_event.Body c ∷ events) (inputs_after limits hasher book cs Ended more)
inputs_after limits hasher book (c ∷ cs) Broken more = ap (λ (events : List HeadEvent). head_event.Body c ∷ events) (inputs_after limits hasher book cs Broken more)

found_books : (fs : List Finding) (rest : List HeadEvent) (book read : List (List ℕ × List ℕ)) → AreBooksAt rest book read → AreBooksAt (map (λ f. head_event.Found f) fs ++ rest) book read
found_books [] rest book read h = h
found_books (f ∷ fs) rest book read h = (tt, found_books fs rest book read h)

books_by : (limits : Limits) (hasher : DefaultHasher) (t : List ℕ) (old : List (List ℕ × List ℕ)) (found : List Finding) (r : Result Heads HeadFault) (items : List (Result Char Fault))
    → AreBooksAt (events_by found r) (stage_past (record { limits = limits; progress = progress_by t r; book = book_at (progress_by t r) old; hasher = hasher }) items).book (book_at (progress_by t r) old)
books_by limits hasher t old found (Ok heads) items = found_books found (event_of_book heads.book ∷ []) _ heads.book (past_after limits hasher heads.book items, tt)
books_by limits hasher t old found (Err stopped) items = by stopped.at_end
  where
    by : (at_end : Bool) → AreBooksAt (cond at_end (map (λ f. head_event.Found f) found) (head_event.Stop stopped.fault ∷ []))
        (stage_past (record { limits = limits; progress = cond at_end (reading t) over; book = book_at (cond at_end (reading t) over) old; hasher = hasher }) items).book (book_at (cond at_end (reading t) over) old)
    by true = rw (← append-nil (map (λ (f : Finding). head_event.Found f) found)) (found_books found [] _ _ tt)
    by false = (tt, tt)

-- the book at the line `%%` is the one that all later items leave
books_are_kept : (limits : Limits) (hasher : DefaultHasher) (progress : HeadProgress) (old : List (List ℕ × List ℕ)) (item : Result Char Fault) (items : List (Result Char Fault))
    → (let h : HeaderStageState = record { limits = limits; progress = progress; book = old; hasher = hasher } in
    AreBooksAt (events_of_input limits progress item) (stage_past (stage_after h item) items).book (stage_after h item).book)
books_are_kept limits hasher (reading t) old (Ok c) items = books_by limits hasher (t ++ c.c ∷ []) old (new_findings limits t (t ++ c.c ∷ [])) (heads_of limits (t ++ c.c ∷ [])) items
books_are_kept limits hasher (after_headers book) old (Ok c) items = (tt, tt)
books_are_kept limits hasher over old item items = tt
books_are_kept limits hasher _ old _ items = (tt, tt)

pub items_by_heads : (h : HeaderStageState) (w new : ScoreWriterState) (item : Result Char Fault) → WritesAll w (events_of_input h.limits h.progress item) (stage_after h item).book new
    → WritesItems h w (item ∷ []) (stage_after h item) new
items_by_heads h w new item a = grind (arith, given_next, books_are_kept)

-- ---- what holds of it then

pub just_found : (fs : List Finding) → list_any is_heads (map (λ f. head_event.Found f) fs) ≡ false
just_found [] = refl
just_found (f ∷ fs) = just_found fs

-- the stage of headers is after the line `%%`, or no headers are whole among what it gives
after_by : (t : List ℕ) (found : List Finding) (r : Result Heads HeadFault) → IsAfterHeaders (progress_by t r) ⊎ (list_any is_heads (events_by found r) ≡ false)
after_by t found (Ok heads) = inl tt
after_by t found (Err stopped) = inr (by stopped.at_end)
  where
    by : (at_end : Bool) → list_any is_heads (cond at_end (map (λ f. head_event.Found f) found) (head_event.Stop stopped.fault ∷ [])) ≡ false
    by true = just_found found
    by false = refl

pub after_or_none : (limits : Limits) (progress : HeadProgress) (item : Result Char Fault) → IsAfterHeaders (progress_after limits progress item) ⊎ (list_any is_heads (events_of_input limits progress item) ≡ false)
after_or_none limits (reading t) (Ok c) = after_by (t ++ c.c ∷ []) (new_findings limits t (t ++ c.c ∷ [])) (heads_of limits (t ++ c.c ∷ []))
after_or_none limits (after_headers book) (Ok c) = inl tt
after_or_none limits _ _ = inr refl

book_is_read : (progress : HeadProgress) (old : List (List ℕ × List ℕ)) → IsBookRead progress (book_at progress old)
book_is_read (after_headers book) old = refl
book_is_read _ old = tt

short_by : (limits : Limits) (t : List ℕ) (old : List (List ℕ × List ℕ)) (r : Result Heads HeadFault) → ((heads : Heads) → r ≡ Ok heads → IsShortBook limits heads.book) → IsShortBook limits old
    → IsShortBook limits (book_at (progress_by t r) old)
short_by limits t old r short h = grind arith

-- canonical headers are within the limit
abbrev pub AreHeadsShort : Type 0
AreHeadsShort = (limits : Limits) (t : List ℕ) (heads : Heads) → heads_of limits t ≡ Ok heads → IsShortBook limits heads.book

short_after : AreHeadsShort → (limits : Limits) (progress : HeadProgress) (old : List (List ℕ × List ℕ)) (item : Result Char Fault) → IsBookRead progress old → IsShortBook limits old
    → IsShortBook limits (book_at (progress_after limits progress item) old)
short_after heads_short limits (reading t) old (Ok c) read h = short_by limits (t ++ c.c ∷ []) old (heads_of limits (t ++ c.c ∷ [])) (heads_short limits (t ++ c.c ∷ [])) h
short_after heads_short limits (after_headers book) old (Ok c) read h = subst (λ (b : List (List ℕ × List ℕ)). IsShortBook limits b) (sym read) h
short_after heads_short limits _ old _ read h = h

pub together_by_heads : (h : HeaderStageState) (w new : ScoreWriterState) (item : Result Char Fault) → AreHeadsShort → GoTogether h w → w.writer.written.headed ≡ false
    → (headed_past w.writer.written.headed (events_of_input h.limits h.progress item) ≡ false → new.writer.written.headed ≡ false) → KeepsJobAndRooms w new → GoTogether (stage_after h item) new
together_by_heads h w new item heads_short together unheaded past steady = grind (arith, after_or_none, book_is_read, short_after)

pub short_stage_after : (h : HeaderStageState) (w : ScoreWriterState) (item : Result Char Fault) → AreHeadsShort → GoTogether h w → IsShortBook w.score.limits (stage_after h item).book
short_stage_after h w item heads_short together = grind (arith, short_after)

-- ---- the body

-- after a stop a stage of scores gives nothing
abbrev pub IsStopLast : Type 0
IsStopLast = (s : ScoreStageState) (fault : Fault) (from_heads : List HeadEvent) → concat_of (left_of s (head_event.Stop fault ∷ from_heads)) ≡ concat_of (left_of s (head_event.Stop fault ∷ []))

stop_in_body : IsStopLast → (w : ScoreWriterState) → w.writer.written.headed ≡ true → (fault : Fault) (book other : List (List ℕ × List ℕ)) (from_heads more : List HeadEvent)
    → streams_of w book (head_event.Stop fault ∷ from_heads) ≡ streams_of w other (head_event.Stop fault ∷ more)
stop_in_body last w headed fault book other from_heads more =
    in_body w.writer.written book (head_event.Stop fault ∷ from_heads) (left_of w.score (head_event.Stop fault ∷ from_heads)) headed
    ∙ (ap (streams_in w.writer.written) (last w.score fault from_heads ∙ sym (last w.score fault more))
    ∙ sym (in_body w.writer.written other (head_event.Stop fault ∷ more) (left_of w.score (head_event.Stop fault ∷ more)) headed))

-- an item of the body has no book
no_book : (item : Result Char Fault) (book read : List (List ℕ × List ℕ)) → IsBookAt (event_of_item item) book read
no_book item book read = grind arith

-- if it is no matter what comes after an event, it is none later
settled_after : (w new : ScoreWriterState) (item : Result Char Fault) → WritesAt w (event_of_item item) [] new
    → ((book other : List (List ℕ × List ℕ)) (from_heads more : List HeadEvent) → streams_of w book (event_of_item item ∷ from_heads) ≡ streams_of w other (event_of_item item ∷ more)) → IsSettled new
settled_after w new item a same = grind (arith, after_same, no_book)

pub record ReadsItem (h : HeaderStageState) (w : ScoreWriterState) (item : Result Char Fault) (new : ScoreWriterState) : Type 0 where
  pub writes : WritesItems h w (item ∷ []) h new
  pub together : GoTogether h new

module _ (w new : ScoreWriterState) (item : Result Char Fault) (a : WritesAt w (event_of_item item) [] new) (steady : KeepsJobAndRooms w new) where
  settled_item : (h : HeaderStageState) → GoTogether h w → IsSettled w → ReadsItem h w item new
  settled_item h together settled =
      let after : IsSettled new = settled_after w new item a (λ book other from_heads more. settled book other (event_of_item item ∷ from_heads) (event_of_item item ∷ more)) in
      record {
        writes = record {
          output = a.output;
          lines = a.lines;
          out = a.out;
          messages = a.messages;
          law = λ ending more.
              settled (book_after h (item ∷ more)) [] (head_events_left h ending (item ∷ more)) (event_of_item item ∷ [])
              ∙ (a.law [] [] (no_book item [] [])
              ∙ ap (λ (s : Streams). after_bytes a.output a.lines s) (after [] (book_after h more) [] (head_events_left h ending more)));
        };
        together = record { limits = together.limits ∙ sym steady.limits; headed = λ e. inr after; book = together.book; short = together.short };
      }

character_read : (limits : Limits) (hasher : DefaultHasher) (book : List (List ℕ × List ℕ)) (w new : ScoreWriterState) (c : Char) → WritesAt w (head_event.Body c) [] new
    → (let h : HeaderStageState = record { limits = limits; progress = after_headers book; book = book; hasher = hasher } in WritesItems h w (Ok c ∷ []) h new)
character_read limits hasher book w new c a = grind (arith, given_next)

stop_read : IsStopLast → (h : HeaderStageState) (book : List (List ℕ × List ℕ)) (w new : ScoreWriterState) (fault : Fault) → h.progress ≡ after_headers book → WritesAt w (head_event.Stop fault) [] new
    → IsSettled new → WritesItems h w (Err fault ∷ []) h new
stop_read last h book w new fault progress a settled = grind (arith, given_next)

module _ (last : IsStopLast) (limits : Limits) (hasher : DefaultHasher) (w new : ScoreWriterState) (headed : w.writer.written.headed ≡ true) (steady : KeepsJobAndRooms w new) where
  after_item : (progress : HeadProgress) (book : List (List ℕ × List ℕ)) (item : Result Char Fault) → WritesAt w (event_of_item item) [] new → IsAfterHeaders progress
      → (let h : HeaderStageState = record { limits = limits; progress = progress; book = book; hasher = hasher } in GoTogether h w → ReadsItem h w item new)
  after_item (reading t) book item a is together = absurd is
  after_item over book item a is together = absurd is
  after_item (after_headers other) book (Ok c) a is together = grind (arith, character_read)
  after_item (after_headers other) book (Err fault) a is together = grind (arith, settled_after, stop_in_body, stop_read)

pub reads_item : IsStopLast → (h : HeaderStageState) (w new : ScoreWriterState) (item : Result Char Fault) → w.writer.written.headed ≡ true → GoTogether h w → WritesAt w (event_of_item item) [] new → KeepsJobAndRooms w new
    → ReadsItem h w item new
reads_item last h w new item headed together a steady = by (together.headed headed)
  where
    by : IsAfterHeaders h.progress ⊎ IsSettled w → ReadsItem h w item new
    by (inl is) = after_item last h.limits h.hasher w new headed steady h.progress h.book item a is together
    by (inr settled) = settled_item w new item a steady h together settled

-- ---- no item

pub no_items : (h : HeaderStageState) (w : ScoreWriterState) → WritesItems h w [] h w
no_items h w = record {
  output = [];
  lines = [];
  out = nothing_added w.writer.out;
  messages = nothing_added w.writer.messages;
  law = λ ending more. refl;
}
