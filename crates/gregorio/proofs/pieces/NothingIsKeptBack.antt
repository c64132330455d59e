-- An engine keeps nothing back but the pending syllable, and stops with the byte that brings a
-- fault.
use Rattle.std.proofs.Common.{rules, ◌≡◌, ℕ, ◌+◌, ◌-◌, ◌<◌, ◌≤◌, ◌⊎◌, ◌||◌, inl, inr, IsSome, List, [], ◌∷◌, ◌++◌, length, map, take, drop, Bool, true, false, if◌then◌else◌, Option, Some, None, Result, codes, refl, ap, sym, subst, ◌∙◌, arith, append-nil, length-append, take-add}
use Rattle.std.proofs.lemmas.Bool.{or_parts}
use Rattle.std.specs.List.{All, flat_map}
use Rattle.gabc_places.proofs.NothingAfterAnEnd.{both_empty}
use Rattle.gabc_body.specs.Syllable.{PlacedSyllable}
use Rattle.gabc_write.specs.SyllableRead.{IsWrittenAsOne}
use Rattle.gabc_places.specs.StageLaw.{concat_of}
use Rattle.gabc_places.specs.declared.code.Fault.{Fault}
use Rattle.gabc_places.specs.declared.code.Finding.{Finding}
use Rattle.gabc_places.specs.declared.limits.Limits.{Limits}
use Rattle.gabc_places.specs.declared.place.Char.{Char}
use Rattle.gabc_headers.specs.declared.heads.Heads.{Heads}
use Rattle.gabc_headers.specs.declared.heads.HeadFault.{HeadFault}
use Rattle.gabc_headers.specs.declared.head_event.HeadEvent.{HeadEvent}
use Rattle.gabc_headers.specs.declared.head_event.HeadEvent.TheVariants as head_event
use Rattle.gabc_headers.specs.witness.HeadEvents.{HeadProgress, events_by, events_left, events_of_input, progress_after}
use Rattle.gabc_body.specs.ScoreEvents.{HasNoEnd, ScoreOutput, Found, Stop, Syllable, End, has_end, syllables_in}
use Rattle.gabc_score.specs.witness.ScoreStage.{ScoreStageState, left_of}
use Rattle.gabc_places.specs.Message.{message_text}
use Rattle.gregorio_jobs.specs.declared.job.Format.{Format}
use Rattle.gregorio.specs.declared.run_ending.RunEnding.{RunEnding}
use Rattle.gregorio_jobs.specs.declared.job.Status.TheVariants.{ReadFault}
use Rattle.gregorio.specs.declared.source_ending.SourceEnding.TheVariants.{Broken}
use Rattle.gregorio.specs.Outcome.{fault_line, shown_line}
use Rattle.gregorio.specs.Engine.{Brings, IsHeldText, IsPrompt, NothingWaits, is_running}
use Rattle.gregorio.specs.witness.Engine.{EngineState, Written, after_heads, after_output, after_outputs, ceased_ending, first_list, lines_of_outputs, status_of_ending, streams_from, streams_left, writes_heads}
use Rattle.gregorio.specs.Streams.{Streams, count_after, last_text, texts_after}
use Rattle.gregorio.specs.machine.ScoreWriter.{IsOver, IsSilent}
use Rattle.gregorio.proofs.StreamsOfOutputs.{concat_first, said}
use Rattle.gregorio.proofs.pieces.BytesAreTaken.{GivesNoLast, broken_is_said, goes_on, none_wait, over_left}

-- ---- the held syllable

-- if the headers are not written, nothing is
held_text : (lines macros : ℕ) (headed : Bool) (w : Written) (outputs : List ScoreOutput) → w.headed ≡ headed → has_end outputs ≡ false → length (syllables_in outputs) ≤ 1
    → All (λ (s : PlacedSyllable). IsWrittenAsOne lines macros s.made) (syllables_in outputs)
    → ((said w outputs).output ≡ []) ⊎ IsHeldText w.format (said w outputs).output
held_text lines macros false w outputs headed end few one = inl (ap (λ (b : Bool). if b then texts_after w.format w.count w.force (syllables_in outputs) ++ last_text w.format (has_end outputs) (count_after w.count (syllables_in outputs)) else []) headed)
held_text lines macros true w outputs headed end few one = inr (record {
  count = w.count;
  force = w.force;
  held = syllables_in outputs;
  few = few;
  lines = lines;
  macros = macros;
  one = one;
  is = λ i. if headed i then texts_after w.format w.count w.force (syllables_in outputs) ++ last_text w.format (end i) (count_after w.count (syllables_in outputs)) else [];
})

-- if a run is over, nothing is held
pub prompt_where_over : (s : EngineState) (how : RunEnding) → IsOver s.written s.score how → IsPrompt s.written.format (streams_left s Broken [])
prompt_where_over s how is = grind (arith, over_left)

pub prompt_now : (s : EngineState) → GivesNoLast (concat_of (left_of s.score [])) → length (syllables_in (concat_of (left_of s.score []))) ≤ 1
    → All (λ (p : PlacedSyllable). IsWrittenAsOne s.score.body.nabc_lines s.score.body.macros p.made) (syllables_in (concat_of (left_of s.score []))) → (IsSome s.written.ended → IsSilent s.score)
    → IsPrompt s.written.format (streams_left s Broken [])
prompt_now s gives few one silent = by s.written.ended refl
  where
    by : (ended : Option RunEnding) → s.written.ended ≡ ended → IsPrompt s.written.format (streams_left s Broken [])
    by (Some how) ended = prompt_where_over s how (record { ended = ended; silent = silent (subst IsSome (sym ended) (search rules)) })
    by None ended =
        let outputs = concat_of (left_of s.score []) in
        let w = s.written in
        subst (λ (streams : Streams). IsPrompt w.format streams) (sym (broken_is_said s ended gives)) (record {
          messages = λ i. flat_map (shown_line w.name w.all_warnings) (gives.findings i) ++ fault_line w.name (gives.stop i);
          output = held_text s.score.body.nabc_lines s.score.body.macros w.headed w outputs refl gives.end few one;
        })

-- ---- the last byte

-- the bytes before the last one of those taken after `count` bytes
before_last : (piece : List ℕ) (count more : ℕ) → 0 < more → take (count + more - 1) piece ≡ take count piece ++ take (more - 1) (drop count piece)
before_last piece count more some = ap (λ (n : ℕ). take n piece) (omega (arith, some)) ∙ take-add count (more - 1) piece

-- if nothing waited
pub prompt_further : (first now : EngineState) (piece : List ℕ) (count more : ℕ) → Brings first (take count piece) now → NothingWaits first → NothingWaits now
    → 0 < more → now.written.format ≡ first.written.format → IsPrompt now.written.format (streams_left now Broken (take (more - 1) (drop count piece)))
    → IsPrompt first.written.format (streams_left first Broken (take (count + more - 1) piece))
prompt_further first now piece count more so_far none waits some format prompt =
    let before = take (more - 1) (drop count piece) in
    let same : streams_left first Broken (take (count + more - 1) piece) ≡ streams_left now Broken before
    = ap (λ (xs : List ℕ). streams_left first Broken xs) (before_last piece count more some)
    ∙ (sym (none_wait first none (streams_left first Broken (take count piece ++ before))) ∙ (so_far before Broken ∙ none_wait now waits (streams_left now Broken before))) in
    subst (λ (f : Format). IsPrompt f (streams_left first Broken (take (count + more - 1) piece))) format
    (subst (λ (s : Streams). IsPrompt now.written.format s) (sym same) prompt)

-- whatever waits, the run ends the same
pub ends_further : (first now : EngineState) (piece : List ℕ) (count more : ℕ) → Brings first (take count piece) now → 0 < more
    → (streams_left now Broken (take (more - 1) (drop count piece))).status ≡ ReadFault → (streams_left first Broken (take (count + more - 1) piece)).status ≡ ReadFault
ends_further first now piece count more so_far some fault =
    ap (λ (xs : List ℕ). (streams_left first Broken xs).status) (before_last piece count more some)
    ∙ (ap (λ (s : Streams). s.status) (so_far (take (more - 1) (drop count piece)) Broken) ∙ fault)

-- if a loop over a piece stops before its first step, the piece is empty
pub took_some : (P : Type 0) (count n : ℕ) → (0 < count) ⊎ P → (P → n ≤ count) → 0 < n → 0 < count
took_some P count n h stops more = grind arith

-- ---- a fault is reported

not_empty : (a : List ℕ) (x : ℕ) (later rest : List ℕ) → (a ++ (x ∷ later)) ++ rest ≡ [] → ⊥
not_empty a x later rest e =
    let none = ap length e in
    let first = length-append (a ++ (x ∷ later)) rest in
    let second = length-append a (x ∷ later) in
    omega (arith, none, first, second)

-- if no line is written, and there is no end, the run goes on
no_fault : (w : Written) (outputs : List ScoreOutput) → lines_of_outputs w outputs ≡ [] → has_end outputs ≡ false → (after_outputs w outputs).ended ≡ w.ended
no_fault w [] none end = refl
no_fault w (Found f ∷ outputs) none end = no_fault (after_output w (Found f)) outputs (both_empty (shown_line w.name w.all_warnings f) _ none).1 end
no_fault w (Stop fault ∷ outputs) none end = absurd (not_empty (w.name ++ codes ":" ++ message_text fault.place fault.code) 10 [] (lines_of_outputs (after_output w (Stop fault)) outputs) none)
no_fault w (Syllable s ∷ outputs) none end = no_fault (after_output w (Syllable s)) outputs none end
no_fault w (End ∷ outputs) none end = absurd (cc end)

no_end_in_both : (xs ys : List HeadEvent) → HasNoEnd xs → HasNoEnd ys → HasNoEnd (xs ++ ys)
no_end_in_both [] ys h k = k
no_end_in_both (head_event.End ∷ xs) ys h k = absurd h
no_end_in_both (_ ∷ xs) ys h k = no_end_in_both xs ys h k

no_end_in_found : (fs : List Finding) → HasNoEnd (map (λ f. head_event.Found f) fs)
no_end_in_found [] = tt
no_end_in_found (f ∷ fs) = no_end_in_found fs

no_end_by : (found : List Finding) (r : Result Heads HeadFault) → HasNoEnd (events_by found r)
no_end_by found r = grind (arith, no_end_in_both, no_end_in_found)

no_end_of_input : (limits : Limits) (progress : HeadProgress) (x : Result Char Fault) → HasNoEnd (events_of_input limits progress x)
no_end_of_input limits progress x = grind (arith, no_end_by)

no_end_left : (limits : Limits) (progress : HeadProgress) (items : List (Result Char Fault)) → HasNoEnd (concat_of (take (length items) (events_left limits progress items)))
no_end_left limits progress [] = tt
no_end_left limits progress (x ∷ xs) = grind (arith, no_end_left limits (progress_after limits progress x) xs, no_end_in_both, no_end_of_input)

-- a stage of scores gives the end only if it comes in
abbrev pub EndsAtTheEnd : Type 0
EndsAtTheEnd = (s : ScoreStageState) (xs : List HeadEvent) → HasNoEnd xs → has_end (concat_of (left_of s xs)) ≡ false

first_has_end : (outputs rest : List ScoreOutput) → has_end (outputs ++ rest) ≡ (has_end outputs || has_end rest)
first_has_end [] rest = refl
first_has_end (End ∷ outputs) rest = refl
first_has_end (_ ∷ outputs) rest = first_has_end outputs rest

told : (w : Written) (book : List (List ℕ × List ℕ)) (from_heads : List HeadEvent) (lists : List (List ScoreOutput)) → has_end (concat_of lists) ≡ false → w.ended ≡ None
    → (streams_from w book from_heads lists).messages ≡ [] → (streams_from w book from_heads lists).status ≡ ReadFault
told w book [] lists end runs none =
    let outputs = concat_of lists in
    ap (λ (o : Option RunEnding). status_of_ending (ceased_ending o)) (no_fault w outputs (sym (append-nil (lines_of_outputs w outputs)) ∙ none) end ∙ runs)
told w book (x ∷ from_heads) lists end runs none =
    let v = after_heads w (writes_heads w x) in
    let outputs = first_list lists in
    let rest = streams_from (after_outputs v outputs) book from_heads (drop 1 lists) in
    let ends = or_parts (has_end outputs) _ (sym (ap has_end (concat_first lists) ∙ first_has_end outputs (concat_of (drop 1 lists))) ∙ end) in
    let lines = both_empty (lines_of_outputs v outputs) rest.messages none in
    told (after_outputs v outputs) book from_heads (drop 1 lists) ends.1 (no_fault v outputs lines.0 ends.0 ∙ runs) lines.1

-- If a run that breaks off writes no message, no fault has stopped it.
pub no_fault_is_kept_back : EndsAtTheEnd → (s : EngineState) → is_running s ≡ true → (bytes : List ℕ) → (streams_left s Broken bytes).messages ≡ []
    → (streams_left s Broken bytes).status ≡ ReadFault
no_fault_is_kept_back end s runs bytes none = grind (arith, told, no_end_left, goes_on)
