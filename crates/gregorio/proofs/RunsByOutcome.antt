-- How a run ends.
use Rattle.std.proofs.Common.{◌≡◌, ℕ, ◌<◌, ◌≤◌, List, [], ◌++◌, length, append-nil, Bool, false, Option, ◌⊎◌, inl, inr, arith, refl, sym, ap, ◌∙◌, subst}
use Rattle.std.specs.Io.KnownBytes.{Appends}
use Rattle.std.specs.List.{list_any}
use Rattle.gabc_places.specs.Calls.{Calls, NoneLate, GoesOn, FailsOnce}
use Rattle.gabc_places.specs.declared.limits.Limits.{Limits}
use Rattle.gabc_places.specs.declared.code.Fault.{Fault}
use Rattle.gabc_places.specs.declared.decoded.Decoded.{Decoded}
use Rattle.gabc_places.specs.Text.{decoded_of}
use Rattle.gabc_body.specs.declared.ending.InputEnding as score
use Rattle.gabc_body.specs.declared.score.Score.{Score}
use Rattle.gabc_body.specs.Score.{score_of}
use Rattle.gregorio.specs.declared.source_ending.SourceEnding.{SourceEnding}
use Rattle.gregorio.specs.declared.source_ending.SourceEnding.TheVariants.{Whole as Ended, Broken}
use Rattle.gregorio_jobs.specs.declared.job.Job.{Job}
use Rattle.gregorio_jobs.specs.declared.job.Status.{Status}
use Rattle.gregorio_jobs.specs.declared.job.Status.TheVariants.{ReadFault, WriteFault}
use Rattle.gregorio.specs.declared.outcome.Outcome.{Outcome}
use Rattle.gregorio_jobs.specs.declared.job.Format.{Format}
use Rattle.gregorio.specs.Engine.{IsPrompt, fault_of, with_waiting}
use Rattle.gregorio.specs.witness.Engine.{EngineState, streams_left}
use Rattle.gregorio.specs.Streams.{Streams, after_bytes, ended_with, streams_of_outcome}
use Rattle.gregorio.specs.Run.{Use, used, Done, IsKnown, IsRun, SinkCut, Compiles, Taken}
use Rattle.gregorio.specs.SourceBytes.{ReadsSource}
use Rattle.gregorio.specs.Outcome.{is_whole, ending_by, is_cut_short, outcome_of, status_by, status_of, is_error_finding}
use Rattle.gregorio.specs.machine.Compile.{AreSent, AreCut, IsPromptAs, Knows, NoneOrAll, StreamsAreCut, IsFedAll, IsFedInPart, SaysOutcomes}
use Rattle.gregorio.proofs.pieces.BytesAreJoined.{with_both_after}
use Rattle.gregorio.proofs.PiecesAreSent.{sent_on, cut_by, cut_longer, none_or_all}

done_by : (job : Job) (limits : Limits) (source out messages : Use) (o : Option Fault) (b e : Bool) → Done job limits source out messages (status_by o b e) → Compiles job limits source out messages (status_by o b e)
done_by job limits source out messages o b e d = grind arith

-- what is made of an input, part by part
pub outcome_by_parts : (limits : Limits) (ending : SourceEnding) (bytes : List ℕ) (ended : Bool) (decoded : Decoded) (how : score.InputEnding) (made : Score) (broken : Bool)
    → ended ≡ is_whole ending → decoded ≡ decoded_of limits ended bytes → how ≡ ending_by ending decoded.fault → made ≡ score_of limits how decoded.text
    → broken ≡ is_cut_short ending made.fault → record { score = made; broken = broken } ≡ outcome_of limits ending bytes
outcome_by_parts limits ending bytes ended decoded how made broken e d h m b = rw (b, m, h, d, e) refl

-- a read fault comes of a source that failed
broken_by : (ending : SourceEnding) (fault : Option Fault) (errors : Bool) → status_by fault (is_cut_short ending fault) errors ≡ ReadFault → ending ≡ Broken
broken_by ending fault errors s = grind arith

read_fault_broken : (limits : Limits) (ending : SourceEnding) (bytes : List ℕ) → status_of (outcome_of limits ending bytes) ≡ ReadFault → ending ≡ Broken
read_fault_broken limits ending bytes s = grind (arith, broken_by)

-- no run that wrote all has the status of a sink's failure
never_sunk : (fault : Option Fault) (broken errors : Bool) → status_by fault broken errors ≡ WriteFault → ⊥
never_sunk fault broken errors s = grind arith

-- one failure more
a_failure_more : (a b c d : Calls) → (FailsOnce a b × GoesOn c d) ⊎ (GoesOn a b × FailsOnce c d) → (a.failures < b.failures) ⊎ (c.failures < d.failures)
a_failure_more a b c d h = grind arith

sinks_in_time : (a b c d : Calls) → (FailsOnce a b × GoesOn c d) ⊎ (GoesOn a b × FailsOnce c d) → NoneLate a b × NoneLate c d
sinks_in_time a b c d h = grind arith

-- a source that did not fail ended
met_whole : (old new : Option (List ℕ)) (calls_old calls_new : Calls) (limit : ℕ) (bytes : List ℕ) (ending : SourceEnding) → ReadsSource old new calls_old calls_new limit bytes ending
    → calls_new.failures ≡ calls_old.failures → ending ≡ Ended
met_whole old new calls_old calls_new limit bytes ending r same = grind arith

-- one that did not stop was not read to its end
unmet_broken : (old new : Option (List ℕ)) (calls_old calls_new : Calls) (limit : ℕ) (bytes : List ℕ) (ending : SourceEnding) → ReadsSource old new calls_old calls_new limit bytes ending
    → calls_new.is_stopped ≡ false → length bytes ≤ limit → ending ≡ Broken
unmet_broken old new calls_old calls_new limit bytes Broken r runs few = refl
unmet_broken old new calls_old calls_new limit bytes Ended r runs few =
    absurd (cc (r.stopped refl few, runs))

-- one that failed is broken
failed_broken : (old new : Option (List ℕ)) (calls_old calls_new : Calls) (limit : ℕ) (bytes : List ℕ) (ending : SourceEnding) → ReadsSource old new calls_old calls_new limit bytes ending
    → calls_old.failures < calls_new.failures → ending ≡ Broken
failed_broken old new calls_old calls_new limit bytes ending r more = grind arith

-- what an engine knows that says the outcomes of a job is known of the job
is_known : (job : Job) (limits : Limits) (e : EngineState) (bytes : List ℕ) (ending : SourceEnding) (o l : List ℕ) → SaysOutcomes job limits e → (k : Knows e bytes ending o l)
    → IsKnown job limits bytes ending
is_known job limits e bytes ending o l all k = record {
  front = k.front;
  at = k.at;
  is_point = k.is_point;
  output = o;
  lines = l;
  left = k.left;
  known = sym (all.all k.front k.at) ∙ k.known;
  prompt = subst (λ (x : Format). IsPrompt x k.left) all.format k.prompt;
}

prompt_itself : (e f : EngineState) → IsPromptAs e f → IsPrompt f.written.format (streams_left f Broken [])
prompt_itself e f p = subst (λ (x : Format). IsPrompt x (streams_left f Broken [])) (sym p.format) p.prompt

-- at the end nothing of what is still written is known, or all
known_at_end : (f g : EngineState) (ending : SourceEnding) (status : Status) → IsPrompt f.written.format (streams_left f Broken []) → streams_left f ending [] ≡ with_waiting g (ended_with status (fault_of g))
    → (o l : List ℕ) → NoneOrAll g.output g.messages o l → Knows f [] ending o l
known_at_end f g ending status prompt last =
    none_or_all f [] ending g.output g.messages (record { front = []; at = Broken; is_point = inl ([], (refl, refl)); left = streams_left f Broken []; known = refl; prompt = prompt })
    (record { front = []; at = ending; is_point = inr (refl, refl); left = ended_with status (fault_of g); known = last; prompt = record { messages = refl; output = inl refl } })

-- a run that a sink's failure cut when these bytes were taken
module _ (job : Job) (limits : Limits) (source out messages : Use) where
  sink_cut : (e : EngineState) → SaysOutcomes job limits e → (input : Taken limits source) → StreamsAreCut out messages e input.ending input.bytes → SinkCut job limits source out messages
  unfolding is_known
  sink_cut e all input cut =
      let c = subst (λ (y : Streams). AreCut (Knows e input.bytes input.ending) out messages y.output y.messages) (all.all input.bytes input.ending) cut in
      record {
        input = input;
        written_count = c.output_count;
        messages_count = c.lines_count;
        written = c.written;
        messages_written = c.messages_written;
        fails = c.fails;
        known = is_known job limits e input.bytes input.ending c.order.output c.order.lines all c.order.is_point;
        output_first = c.order.output_first;
        messages_then = c.order.lines_then;
      }

  is_run_cut : SinkCut job limits source out messages → NoneLate source.calls_old source.calls_new → IsRun job limits source out messages WriteFault
  is_run_cut c in_time = record {
    compiles = c;
    read_fault = λ is. absurd (cc is);
    write_fault = λ is. a_failure_more _ _ _ _ c.fails;
    steady = λ is. absurd (is refl);
    in_time = (in_time, sinks_in_time _ _ _ _ c.fails);
  }

module _ {A B C : Type 0} (wrote : A → Option (List ℕ)) (went : A → Calls) (emitted : B → Option (List ℕ)) (went_too : B → Calls) (left : C → Option (List ℕ)) (reads_went : C → Calls) (job : Job) (limits : Limits) where
  -- while its source was read
  pub is_run_cut_early : (s t : C) (o p : A) (m n : B) (e : EngineState) → SaysOutcomes job limits e → IsFedInPart limits.input (used left reads_went s t) (used wrote went o p) (used emitted went_too m n) e
      → IsRun job limits (used left reads_went s t) (used wrote went o p) (used emitted went_too m n) WriteFault
  is_run_cut_early s t o p m n e all a =
      let input : Taken limits (used left reads_went s t) = record {
        bytes = a.bytes;
        ending = Broken;
        consumed = a.consumed;
        reads = omega (arith, a.reads);
        within = a.within;
        whole = λ no. cc;
        met = λ runs stopped same. absurd (cc (stopped, a.goes_on.is_stopped, runs));
        unmet = λ _ _. refl;
        failed = λ _. refl;
      } in
      is_run_cut job limits _ _ _ (sink_cut job limits (used left reads_went s t) (used wrote went o p) (used emitted went_too m n) e all input a.cut) a.goes_on.none_late

  -- a run whose source was read, and whose engine has ended
  module _ (s t : C) (o p q : A) (m n r : B) (e f g : EngineState) (ending : SourceEnding) (status : Status) (all : SaysOutcomes job limits e)
      (a : IsFedAll limits.input (used left reads_went s t) (used wrote went o p) (used emitted went_too m n) e f ending) (last : streams_left f ending [] ≡ with_waiting g (ended_with status (fault_of g))) where
    abbrev source : Use
    source = used left reads_went s t

    abbrev out : Use
    out = used wrote went o q

    abbrev messages : Use
    messages = used emitted went_too m r

    abbrev made : Outcome
    made = outcome_of limits ending a.bytes

    -- what an engine wrote of an input is its outcome's
    streams_are : streams_of_outcome job made ≡ after_bytes (a.fed.output ++ g.output) (a.fed.lines ++ g.messages) (ended_with status (fault_of g))
    streams_are = grind (arith, append-nil, with_both_after)

    ends_so : (streams_of_outcome job made).status ≡ status
    ends_so = ap (λ (y : Streams). y.status) streams_are

    -- all was written
    pub is_run_whole : AreSent (used wrote went p q) (used emitted went_too n r) g.output g.messages → IsRun job limits source out messages status
    is_run_whole sent =
        let x = sent_on wrote went emitted went_too o p q m n r a.fed.output a.fed.lines g.output g.messages a.fed.sent sent in
        let d : Done job limits source out messages (status_of made) = record {
          input = record { bytes = a.bytes; ending = ending; reads = a.reads };
          written = subst (Appends (wrote o) (wrote q)) (sym (ap (λ (y : Streams). y.output) streams_are ∙ append-nil (a.fed.output ++ g.output))) x.written;
          messages_written = subst (Appends (emitted m) (emitted r)) (sym (ap (λ (y : Streams). y.messages) streams_are ∙ append-nil (a.fed.lines ++ g.messages))) x.messages_written;
          ends = refl;
        } in
        record {
          compiles = subst (λ (y : Status). Compiles job limits source out messages y) ends_so
              (done_by job limits source out messages made.score.fault made.broken (list_any is_error_finding made.score.findings) d);
          read_fault = λ is. a.reads.broken (read_fault_broken limits ending a.bytes (ends_so ∙ is));
          write_fault = λ is. absurd (never_sunk made.score.fault made.broken (list_any is_error_finding made.score.findings) (ends_so ∙ is));
          steady = λ is. (x.goes_on.failures, x.messages_go_on.failures);
          in_time = (a.in_time, (x.goes_on.none_late, x.messages_go_on.none_late));
        }

    -- a sink's failure cut it at its end
    pub is_run_cut_late : AreCut (NoneOrAll g.output g.messages) (used wrote went p q) (used emitted went_too n r) g.output g.messages → IsRun job limits source out messages WriteFault
    is_run_cut_late cut =
        let longer : StreamsAreCut (used wrote went p q) (used emitted went_too n r) f ending [] =
        subst (λ (y : Streams). AreCut (Knows f [] ending) (used wrote went p q) (used emitted went_too n r) y.output y.messages) (sym last)
        (cut_longer wrote went emitted went_too (NoneOrAll g.output g.messages) (Knows f [] ending) p q n r g.output g.messages [] [] (known_at_end f g ending status (prompt_itself e f a.fed.prompt) last) cut) in
        let input : Taken limits source = record {
          bytes = a.bytes;
          ending = ending;
          consumed = a.reads.consumed;
          reads = a.reads.reads;
          within = a.reads.within;
          whole = a.reads.whole;
          met = λ _ _ same. met_whole _ _ _ _ _ _ ending a.reads same;
          unmet = unmet_broken _ _ _ _ _ _ ending a.reads;
          failed = failed_broken _ _ _ _ _ _ ending a.reads;
        } in
        is_run_cut job limits source out messages
        (sink_cut job limits source out messages e all input (subst (StreamsAreCut out messages e ending) (append-nil a.bytes) (cut_by wrote went emitted went_too o p q m n r e f a.bytes [] ending a.fed longer))) a.in_time
