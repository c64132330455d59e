-- Engines whose parts go on alike write the same of whatever follows.
use Rattle.std.proofs.Common.{◌≡◌, ℕ, zero, suc, ◌⊎◌, inr, List, [], ◌∷◌, ◌++◌, take, true, false, Bool, ◌||◌, Result, refl, ap, sym, ◌∙◌, arith}
use Rattle.std.proofs.lemmas.List.Folds.{list_any-append}
use Rattle.std.proofs.lemmas.Bool.{or_parts}
use Rattle.std.specs.List.{list_any}
use Rattle.std.specs.declared.hash.DefaultHasher.{DefaultHasher}
use Rattle.gabc_places.specs.StageLaw.{concat_of}
use Rattle.gabc_places.specs.declared.code.Fault.{Fault}
use Rattle.gabc_places.specs.declared.limits.Limits.{Limits}
use Rattle.gabc_places.specs.declared.place.Char.{Char}
use Rattle.gabc_places.specs.witness.DecoderEvents as decoder
use Rattle.gabc_headers.specs.declared.head_event.HeadEvent.{HeadEvent}
use Rattle.gabc_headers.specs.HeadEvents as heads
use Rattle.gabc_headers.specs.witness.HeadEvents.{HeaderStageState, HeadProgress, IsAfterHeaders, book_at, events_left, events_of_end, events_of_input, progress_after, stage_past}
use Rattle.gabc_body.specs.ScoreEvents.{ScoreOutput}
use Rattle.gabc_score.specs.witness.ScoreStage.{left_of}
use Rattle.gregorio.specs.declared.source_ending.SourceEnding.{SourceEnding}
use Rattle.gregorio.specs.Outcome.{is_whole}
use Rattle.gregorio.specs.witness.Engine.{EngineState, Written, book_after, head_events_left, is_heads, items_left, streams_from, streams_left}
use Rattle.gregorio.specs.machine.SavedAlike.{WriteTheSame}
use Rattle.gregorio.proofs.StreamsOfOutputs.{in_body, without_heads}
use Rattle.gregorio.proofs.pieces.ItemsAreRead.{after_or_none}

-- ---- no headers are whole among these

abbrev NoHeads : List HeadEvent → Type 0
NoHeads events = list_any is_heads events ≡ false

none_in_both : (xs ys : List HeadEvent) → NoHeads xs → NoHeads ys → NoHeads (xs ++ ys)
none_in_both xs ys h k = list_any-append is_heads xs ys ∙ (ap (λ (b : Bool). b || list_any is_heads ys) h ∙ k)

none_in_first : (n : ℕ) (lists : List (List HeadEvent)) → NoHeads (concat_of lists) → NoHeads (concat_of (take n lists))
none_in_first zero lists h = refl
none_in_first (suc n) [] h = refl
none_in_first (suc n) (xs ∷ lists) h =
    let both = or_parts (list_any is_heads xs) _ (sym (list_any-append is_heads xs (concat_of lists)) ∙ h) in
    none_in_both xs (concat_of (take n lists)) both.0 (none_in_first n lists both.1)

none_emitted : (ending : SourceEnding) (items : List (Result Char Fault)) (lists : List (List HeadEvent)) → NoHeads (concat_of lists) → NoHeads (heads.emitted_by (is_whole ending) items lists)
none_emitted ending items lists h = grind (arith, none_in_first)

none_at_end : (limits : Limits) (progress : HeadProgress) → NoHeads (events_of_end limits progress)
none_at_end limits progress = grind arith

-- ---- the book

-- the book does not depend on how names are hashed
any_hasher : (limits : Limits) (progress : HeadProgress) (book : List (List ℕ × List ℕ)) (hasher another : DefaultHasher) (items : List (Result Char Fault))
    → (stage_past (record { limits = limits; progress = progress; book = book; hasher = hasher }) items).book ≡ (stage_past (record { limits = limits; progress = progress; book = book; hasher = another }) items).book
any_hasher limits progress book hasher another [] = refl
any_hasher limits progress book hasher another (x ∷ items) =
    let after = progress_after limits progress x in any_hasher limits after (book_at after book) hasher another items

-- after the line `%%` the book is the one that was read, whatever was before
one_book : (limits : Limits) (hasher another : DefaultHasher) (progress : HeadProgress) (old other : List (List ℕ × List ℕ)) (items : List (Result Char Fault)) → IsAfterHeaders progress
    → (stage_past (record { limits = limits; progress = progress; book = book_at progress old; hasher = hasher }) items).book ≡ (stage_past (record { limits = limits; progress = progress; book = book_at progress other; hasher = another }) items).book
one_book limits hasher another progress old other items h = grind (arith, any_hasher)

-- of two stages that differ in their books alone: both have one book after these, or no headers are
-- whole among what they give
abbrev OneBookOrNone : Limits → DefaultHasher → DefaultHasher → HeadProgress → List (List ℕ × List ℕ) → List (List ℕ × List ℕ) → List (Result Char Fault) → Type 0
OneBookOrNone limits hasher another progress old other items =
    ((stage_past (record { limits = limits; progress = progress; book = old; hasher = hasher }) items).book ≡ (stage_past (record { limits = limits; progress = progress; book = other; hasher = another }) items).book)
    ⊎ NoHeads (concat_of (events_left limits progress items))

books_next : (limits : Limits) (hasher another : DefaultHasher) (progress : HeadProgress) (old other : List (List ℕ × List ℕ)) (x : Result Char Fault) (items : List (Result Char Fault))
    → IsAfterHeaders (progress_after limits progress x) ⊎ NoHeads (events_of_input limits progress x)
    → (let after = progress_after limits progress x in OneBookOrNone limits hasher another after (book_at after old) (book_at after other) items) → OneBookOrNone limits hasher another progress old other (x ∷ items)
books_next limits hasher another progress old other x items h later = grind (arith, one_book, none_in_both)

books_or_none : (limits : Limits) (hasher another : DefaultHasher) (progress : HeadProgress) (old other : List (List ℕ × List ℕ)) (items : List (Result Char Fault)) → OneBookOrNone limits hasher another progress old other items
books_or_none limits hasher another progress old other [] = inr (none_in_both (events_of_end limits progress) [] (none_at_end limits progress) refl)
books_or_none limits hasher another progress old other (x ∷ items) =
    let after = progress_after limits progress x in
    books_next limits hasher another progress old other x items (after_or_none limits progress x) (books_or_none limits hasher another after (book_at after old) (book_at after other) items)

module _ (w : Written) (limits : Limits) (hasher another : DefaultHasher) (progress : HeadProgress) (old other : List (List ℕ × List ℕ)) (ending : SourceEnding) (items : List (Result Char Fault)) (lists : List (List ScoreOutput)) where
  abbrev one : HeaderStageState
  one = record { limits = limits; progress = progress; book = old; hasher = hasher }

  abbrev two : HeaderStageState
  two = record { limits = limits; progress = progress; book = other; hasher = another }

  abbrev given : List HeadEvent
  given = head_events_left one ending items

  either_book : OneBookOrNone limits hasher another progress old other items → streams_from w (book_after one items) given lists ≡ streams_from w (book_after two items) given lists
  either_book h = grind (arith, none_emitted, without_heads)

  -- The book that a stage had before makes no difference.
  pub no_matter_which_book : streams_from w (book_after one items) given lists ≡ streams_from w (book_after two items) given lists
  no_matter_which_book = either_book (books_or_none limits hasher another progress old other items)

-- If the headers are written, the book makes none.
pub no_matter_which_book_after : (w : Written) (book other : List (List ℕ × List ℕ)) (from_heads : List HeadEvent) (lists : List (List ScoreOutput)) → w.headed ≡ true
    → streams_from w book from_heads lists ≡ streams_from w other from_heads lists
no_matter_which_book_after w book other from_heads lists headed = in_body w book from_heads lists headed ∙ sym (in_body w other from_heads lists headed)

-- ---- two engines

-- Their books make no difference.
abbrev pub NoMatterWhichBook : EngineState → EngineState → SourceEnding → List ℕ → Type 0
NoMatterWhichBook one other ending bytes =
    let items = items_left one ending bytes in
    let from_heads = head_events_left one.heads ending items in
    streams_from one.written (book_after one.heads items) from_heads (left_of one.score from_heads) ≡ streams_from one.written (book_after other.heads items) from_heads (left_of one.score from_heads)

-- Two engines have the same streams left: their decoders emit the same, and their stages of
-- headers; their books make no difference; of what the scores give once these come, the same is
-- written; and the same is written before.
pub streams_agree : (one other : EngineState) (ending : SourceEnding) (bytes : List ℕ) → one.written ≡ other.written → decoder.events_left one.decoder bytes ≡ decoder.events_left other.decoder bytes
    → ((items : List (Result Char Fault)) → events_left one.heads.limits one.heads.progress items ≡ events_left other.heads.limits other.heads.progress items) → NoMatterWhichBook one other ending bytes
    → WriteTheSame one.score other.score (head_events_left one.heads ending (items_left one ending bytes)) → streams_left one ending bytes ≡ streams_left other ending bytes
streams_agree one other ending bytes written decoded given books same = grind arith
