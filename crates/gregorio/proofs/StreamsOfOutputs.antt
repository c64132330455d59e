-- The streams of what the score says, output by output, and with the headers.
use Rattle.std.proofs.Common.{◌≡◌, ℕ, List, [], ◌∷◌, ◌++◌, drop, Bool, true, false, ◌||◌, ◌&&◌, not, Option, None, is_some, ◌⊎◌, inl, inr, refl, sym, ap, ◌∙◌, subst, append-nil, append_assoc, arith}
use Rattle.std.proofs.Math.Bool.{and-false, or_assoc, or-false, or-true}
use Rattle.std.proofs.lemmas.Bool.{or_parts}
use Rattle.std.specs.List.{flat_map, list_any}
use Rattle.gabc_places.specs.StageLaw.{concat_of}
use Rattle.gabc_headers.specs.declared.head_event.HeadEvent.{HeadEvent}
use Rattle.gabc_body.specs.ScoreEvents.{ScoreOutput, Found, Stop, Syllable, End, findings_in, syllables_in, fault_in, has_end}
use Rattle.gabc_score.specs.witness.ScoreStage.{ScoreStageState, left_of}
use Rattle.gabc_write.specs.Message.{line_of}
use Rattle.gregorio.specs.declared.run_ending.RunEnding.{RunEnding}
use Rattle.gregorio.specs.Outcome.{shown_line, fault_line, is_error_finding, status_by}
use Rattle.gregorio.specs.Streams.{Streams, after_bytes, syllable_text, force_after, last_text, next_number, texts_after, count_after}
use Rattle.gregorio.specs.witness.Engine.{Written, after_output, after_outputs, ceased, ceased_ending, ceased_text, ended_by, ending_of_whole, fault_of_ending, first_list, if_headed, is_before_heads, is_heads, lines_of_output, lines_of_outputs, status_of_ending, streams_from, streams_in, text_of_output, texts_of_outputs, writes_heads}
use Rattle.gregorio.specs.machine.ScoreWriter.{IsOver}
use Rattle.gregorio.proofs.pieces.BytesAreJoined.{with_both_after, same_streams}

-- ---- one output and those after it

pub one_and_rest : (w : Written) (o : ScoreOutput) (outputs : List ScoreOutput) → streams_in w (o ∷ outputs) ≡ after_bytes (text_of_output w o) (lines_of_output w o) (streams_in (after_output w o) outputs)
one_and_rest w o outputs =
    let v = after_output w o in
    with_both_after (text_of_output w o) (lines_of_output w o) (texts_of_outputs v outputs) (lines_of_outputs v outputs) (ceased (after_outputs v outputs))

pub some_and_rest : (w : Written) (outputs rest : List ScoreOutput) → streams_in w (outputs ++ rest) ≡ after_bytes (texts_of_outputs w outputs) (lines_of_outputs w outputs) (streams_in (after_outputs w outputs) rest)
some_and_rest w [] rest = refl
some_and_rest w (o ∷ outputs) rest =
    let v = after_output w o in
    one_and_rest w o (outputs ++ rest)
    ∙ (ap (λ (s : Streams). after_bytes (text_of_output w o) (lines_of_output w o) s) (some_and_rest v outputs rest)
    ∙ sym (with_both_after (text_of_output w o) (lines_of_output w o) (texts_of_outputs v outputs) (lines_of_outputs v outputs) (streams_in (after_outputs v outputs) rest)))

-- ---- what all of them say

-- After a stop or the end nothing stands among these, and `P` holds.
abbrev pub EndsAtLast : Type 0 → List ScoreOutput → Type 0
EndsAtLast P [] = Unit {0}
EndsAtLast P (Found f ∷ outputs) = EndsAtLast P outputs
EndsAtLast P (Stop fault ∷ outputs) = (outputs ≡ []) × P
EndsAtLast P (Syllable s ∷ outputs) = EndsAtLast P outputs
EndsAtLast P (End ∷ outputs) = (outputs ≡ []) × P

-- a list with an item is not empty
pub no_item : {X P : Type 0} (x : X) (xs : List X) → x ∷ xs ≡ [] → P
no_item x xs e = absurd (cc e)

-- the streams of a run that goes on, by what is found, the syllables, the stop and the end
abbrev pub said : Written → List ScoreOutput → Streams
said w outputs = record {
  output = if_headed w (texts_after w.format w.count w.force (syllables_in outputs) ++ last_text w.format (has_end outputs) (count_after w.count (syllables_in outputs)));
  messages = flat_map (shown_line w.name w.all_warnings) (findings_in outputs) ++ fault_line w.name (fault_in outputs);
  status = status_by (fault_in outputs) (not (has_end outputs)) (w.errors || list_any is_error_finding (findings_in outputs));
  fault = fault_in outputs;
}

abbrev pub going_on : Bool → Written → Written
going_on headed w = record w { headed = headed; ended = None }

whole_is_said : (errors : Bool) → (status_of_ending (ending_of_whole errors) ≡ status_by None false errors) × (fault_of_ending (ending_of_whole errors) ≡ None)
whole_is_said true = (refl, refl)
whole_is_said false = (refl, refl)

say : (P : Type 0) (headed : Bool) (w : Written) (outputs : List ScoreOutput) → EndsAtLast P outputs → streams_in (going_on headed w) outputs ≡ said (going_on headed w) outputs
say P headed w [] ends = refl
say P headed w (Found f ∷ outputs) ends =
    let v = going_on headed w in
    one_and_rest v (Found f) outputs
    ∙ (ap (λ (s : Streams). after_bytes [] (shown_line w.name w.all_warnings f) s) (say P headed (record w { errors = w.errors || is_error_finding f }) outputs ends)
    ∙ same_streams _ _ refl
    (sym (append_assoc (shown_line w.name w.all_warnings f) (flat_map (shown_line w.name w.all_warnings) (findings_in outputs)) (fault_line w.name (fault_in outputs))))
    (ap (λ (errors : Bool). status_by (fault_in outputs) (not (has_end outputs)) errors) (or_assoc w.errors (is_error_finding f) (list_any is_error_finding (findings_in outputs)))) refl)
say P true w (Syllable s ∷ outputs) ends =
    let v = going_on true w in
    let text = syllable_text w.format (next_number w.count) w.force s in
    let u : Written = record w { count = next_number w.count; force = force_after w.format w.force s } in
    one_and_rest v (Syllable s) outputs
    ∙ (ap (λ (t : Streams). after_bytes text [] t) (say P true u outputs ends)
    ∙ same_streams _ _ (sym (append_assoc text (texts_after w.format u.count u.force (syllables_in outputs)) (last_text w.format (has_end outputs) (count_after u.count (syllables_in outputs))))) refl refl refl)
say P false w (Syllable s ∷ outputs) ends = say P false w outputs ends
say P headed w (Stop fault ∷ []) ends =
    same_streams _ _ (append-nil (if_headed (going_on headed w) (last_text w.format false w.count) ++ []) ∙ append-nil (if_headed (going_on headed w) (last_text w.format false w.count)))
    (append-nil (line_of w.name fault.place fault.code ++ []) ∙ append-nil (line_of w.name fault.place fault.code)) refl refl
say P headed w (End ∷ []) ends =
    same_streams _ _ (append-nil (if_headed (going_on headed w) (last_text w.format true w.count) ++ []) ∙ append-nil (if_headed (going_on headed w) (last_text w.format true w.count)))
    refl ((whole_is_said w.errors).0 ∙ ap (status_by None false) (sym (or-false w.errors))) (whole_is_said w.errors).1
say P headed w (Stop fault ∷ (o ∷ outputs)) ends = no_item o outputs ends.0
say P headed w (End ∷ (o ∷ outputs)) ends = no_item o outputs ends.0

pub outputs_are_said : (P : Type 0) (w : Written) (outputs : List ScoreOutput) → w.ended ≡ None → EndsAtLast P outputs → streams_in w outputs ≡ said w outputs
outputs_are_said P w outputs goes_on ends =
    subst (λ (ended : Option RunEnding). let v : Written = record w { ended = ended } in streams_in v outputs ≡ said v outputs) (sym goes_on) (say P w.headed w outputs ends)

-- ---- the headers

-- of the same job, and the headers are written or not
abbrev pub IsSameJob : Written → Written → Type 0
IsSameJob w v = (v.format ≡ w.format) × ((v.name ≡ w.name) × ((v.all_warnings ≡ w.all_warnings) × (v.headed ≡ w.headed)))

pub job_stays : (w : Written) (outputs : List ScoreOutput) → IsSameJob w (after_outputs w outputs)
job_stays w [] = (refl, (refl, (refl, refl)))
job_stays w (Found f ∷ outputs) = job_stays (after_output w (Found f)) outputs
job_stays w (Stop fault ∷ outputs) = job_stays (after_output w (Stop fault)) outputs
job_stays w (Syllable s ∷ outputs) = job_stays (after_output w (Syllable s)) outputs
job_stays w (End ∷ outputs) = job_stays (after_output w End) outputs

pub headed_stays : (w : Written) (outputs : List ScoreOutput) → (after_outputs w outputs).headed ≡ w.headed
headed_stays w outputs = (job_stays w outputs).1.1.1

-- if no headers are to be written, none are later
never_later : (w : Written) (outputs : List ScoreOutput) → is_before_heads w ≡ false → is_before_heads (after_outputs w outputs) ≡ false
never_later w [] h = h
never_later w (Found f ∷ outputs) h = never_later (after_output w (Found f)) outputs h
never_later w (Stop fault ∷ outputs) h = never_later (after_output w (Stop fault)) outputs (ap not (or-true w.headed))
never_later w (Syllable s ∷ outputs) h = never_later (after_output w (Syllable s)) outputs h
never_later w (End ∷ outputs) h = never_later (after_output w End) outputs (ap not (or-true w.headed))

-- at an event at which no headers are written
pub no_heads_at : (w : Written) (book : List (List ℕ × List ℕ)) (x : HeadEvent) (from_heads : List HeadEvent) (lists : List (List ScoreOutput)) → writes_heads w x ≡ false
    → streams_from w book (x ∷ from_heads) lists
    ≡ after_bytes (texts_of_outputs w (first_list lists)) (lines_of_outputs w (first_list lists)) (streams_from (after_outputs w (first_list lists)) book from_heads (drop 1 lists))
no_heads_at w book x from_heads lists none = grind (arith, or-false)

-- none come that are to be written
abbrev pub NoHeadsCome : Written → List HeadEvent → Type 0
NoHeadsCome w from_heads = (is_before_heads w ≡ false) ⊎ (list_any is_heads from_heads ≡ false)

none_now : (w : Written) (x : HeadEvent) (from_heads : List HeadEvent) → NoHeadsCome w (x ∷ from_heads) → writes_heads w x ≡ false
none_now w x from_heads (inl h) = ap (λ (b : Bool). is_heads x && b) h ∙ and-false (is_heads x)
none_now w x from_heads (inr h) = ap (λ (b : Bool). b && is_before_heads w) (or_parts (is_heads x) (list_any is_heads from_heads) h).0

none_later : (w : Written) (x : HeadEvent) (from_heads : List HeadEvent) (outputs : List ScoreOutput) → NoHeadsCome w (x ∷ from_heads) → NoHeadsCome (after_outputs w outputs) from_heads
none_later w x from_heads outputs (inl h) = inl (never_later w outputs h)
none_later w x from_heads outputs (inr h) = inr (or_parts (is_heads x) (list_any is_heads from_heads) h).1

pub concat_first : (lists : List (List ScoreOutput)) → concat_of lists ≡ first_list lists ++ concat_of (drop 1 lists)
concat_first lists = grind arith

-- without headers, the streams are those of what the score says
pub without_heads : (w : Written) (book : List (List ℕ × List ℕ)) (from_heads : List HeadEvent) (lists : List (List ScoreOutput)) → NoHeadsCome w from_heads
    → streams_from w book from_heads lists ≡ streams_in w (concat_of lists)
without_heads w book [] lists h = refl
without_heads w book (x ∷ from_heads) lists h =
    let outputs = first_list lists in
    no_heads_at w book x from_heads lists (none_now w x from_heads h)
    ∙ (ap (λ (s : Streams). after_bytes (texts_of_outputs w outputs) (lines_of_outputs w outputs) s) (without_heads (after_outputs w outputs) book from_heads (drop 1 lists) (none_later w x from_heads outputs h))
    ∙ (sym (some_and_rest w outputs (concat_of (drop 1 lists))) ∙ ap (streams_in w) (sym (concat_first lists))))

-- ---- after the headers, and after the end

pub in_body : (w : Written) (book : List (List ℕ × List ℕ)) (from_heads : List HeadEvent) (lists : List (List ScoreOutput)) → w.headed ≡ true
    → streams_from w book from_heads lists ≡ streams_in w (concat_of lists)
in_body w book from_heads lists headed = without_heads w book from_heads lists (inl (ap (λ (b : Bool). not (b || is_some w.ended)) headed))

-- if the run is over and the score says nothing more
pub over_is_last : (w : Written) (score : ScoreStageState) (how : RunEnding) → IsOver w score how → (book : List (List ℕ × List ℕ)) (from_heads : List HeadEvent)
    → streams_from w book from_heads (left_of score from_heads) ≡ ended_by how
over_is_last w score how over book from_heads =
    without_heads w book from_heads (left_of score from_heads) (inl (ap (λ (o : Option RunEnding). not (w.headed || is_some o)) over.ended ∙ ap not (or-true w.headed)))
    ∙ (ap (streams_in w) (over.silent from_heads)
    ∙ ap (λ (o : Option RunEnding). after_bytes [] [] (record (ended_by (ceased_ending o)) { output = ceased_text o w })) over.ended)
