-- The streams of what a stage of headers gives of a text, by what a score says of it that has taken nothing: first the headers, if they are whole.
use Rattle.std.proofs.Common.{◌≡◌, ℕ, List, [], ◌∷◌, ◌++◌, map, true, false, ◌||◌, Option, Some, None, is_some, Result, refl, sym, ap, ◌∙◌, append-nil, arith}
use Rattle.std.specs.List.{list_any}
use Rattle.gabc_places.specs.StageLaw.{concat_of}
use Rattle.gabc_places.specs.declared.code.Fault.{Fault}
use Rattle.gabc_places.specs.declared.code.Finding.{Finding}
use Rattle.gabc_places.specs.declared.limits.Limits.{Limits}
use Rattle.gabc_headers.specs.declared.heads.Heads.{Heads}
use Rattle.gabc_headers.specs.declared.heads.HeadFault.{HeadFault}
use Rattle.gabc_headers.specs.declared.head_event.HeadEvent.{HeadEvent}
use Rattle.gabc_headers.specs.declared.head_event.HeadEvent.TheVariants as head_event
use Rattle.gabc_headers.specs.HeadEvents.{event_of_book}
use Rattle.gabc_body.specs.Events.{Texts}
use Rattle.gabc_body.specs.declared.ending.InputEnding.{InputEnding}
use Rattle.gabc_body.specs.witness.EmittedScore.{emitted_score_by}
use Rattle.gabc_body.specs.ScoreEvents.{ScoreOutput, Found, Stop, Syllable, End, score_outputs, stop_events, head_events_by, is_last}
use Rattle.gregorio.specs.Outcome.{shown_line, is_error_finding}
use Rattle.gregorio.specs.Streams.{Streams, after_bytes, heads_text}
use Rattle.gregorio.specs.witness.Engine.{Written, is_heads, streams_from, streams_in, text_of_heads}
use Rattle.gregorio.proofs.StreamsOfOutputs.{EndsAtLast, going_on, in_body, one_and_rest, without_heads}

-- ---- nothing stands after the last

abbrev pub NothingAfter : List ScoreOutput → Type 0
NothingAfter outputs = (before after : List ScoreOutput) (o : ScoreOutput) → outputs ≡ before ++ o ∷ after → is_last o ≡ true → after ≡ []

after_first : (x : ScoreOutput) (outputs : List ScoreOutput) → NothingAfter (x ∷ outputs) → NothingAfter outputs
after_first x outputs law before after o e last = law (x ∷ before) after o (ap (λ (l : List ScoreOutput). x ∷ l) e) last

pub nothing_after : (outputs : List ScoreOutput) → NothingAfter outputs → EndsAtLast (Unit {0}) outputs
nothing_after [] law = tt
nothing_after (Found f ∷ outputs) law = nothing_after outputs (after_first (Found f) outputs law)
nothing_after (Stop fault ∷ outputs) law = (law [] outputs (Stop fault) refl refl, tt)
nothing_after (Syllable s ∷ outputs) law = nothing_after outputs (after_first (Syllable s) outputs law)
nothing_after (End ∷ outputs) law = (law [] outputs End refl refl, tt)

-- ---- the headers

abbrev found_events : List Finding → List HeadEvent
found_events fs = map (λ f. head_event.Found f) fs

no_heads : (fs : List Finding) (o : Option Fault) → list_any is_heads (found_events fs ++ stop_events o) ≡ false
no_heads [] None = refl
no_heads [] (Some fault) = refl
no_heads (f ∷ fs) o = no_heads fs o

module _ (texts : Texts) (limits : Limits) (read : List (List ℕ × List ℕ)) where
  abbrev says : List HeadEvent → List (List ScoreOutput)
  says from_heads = score_outputs texts limits from_heads

  -- what is found comes before them, and writes nothing after them
  heads_and_rest : (w : Written) (fs : List Finding) (book : List (List ℕ × List ℕ)) (rest : List HeadEvent)
      → (let from_heads = found_events fs ++ event_of_book book ∷ rest in
      streams_from (going_on false w) read from_heads (says from_heads) ≡ after_bytes (heads_text w.format read) [] (streams_in (going_on true w) (concat_of (says from_heads))))
  heads_and_rest w [] book rest = grind (arith, append-nil, in_body)
  heads_and_rest w (f ∷ fs) book rest =
      let from_heads = found_events fs ++ event_of_book book ∷ rest in
      let line = shown_line w.name w.all_warnings f in
      let u : Written = record w { errors = w.errors || is_error_finding f } in
      ap (λ (l : List ℕ). after_bytes [] l (streams_from (going_on false u) read from_heads (says from_heads))) (append-nil line)
      ∙ (ap (λ (s : Streams). after_bytes [] line s) (heads_and_rest u fs book rest)
      ∙ ap (λ (s : Streams). after_bytes (heads_text w.format read) [] s) (sym (one_and_rest (going_on true w) (Found f) (concat_of (says from_heads)))))

  pub heads_first : (w : Written) (ending : InputEnding) (t : List ℕ) (r : Result Heads HeadFault)
      → (let from_heads = head_events_by ending t r in
      let headed = is_some (emitted_score_by limits ending t r).book in
      streams_from (going_on false w) read from_heads (says from_heads) ≡ after_bytes (text_of_heads w read headed) [] (streams_in (going_on headed w) (concat_of (says from_heads))))
  heads_first w ending t r = grind (arith, heads_and_rest, without_heads, no_heads)
