-- A byte that an engine takes brings what was to come for it, and so do the bytes of a piece.
use Rattle.std.proofs.Common.{◌≡◌, ℕ, ◌≤◌, ◌||◌, List, [], ◌∷◌, ◌++◌, length, take, length-take, take-take, true, false, not, Option, None, IfSome, is_none, is_some, Result, ap, append_assoc, refl, sym, ◌∙◌, arith}
use Rattle.std.specs.List.{list_any}
use Rattle.gabc_places.specs.StageLaw.{concat_of}
use Rattle.gabc_places.specs.declared.code.Fault.{Fault}
use Rattle.gabc_places.specs.declared.place.Char.{Char}
use Rattle.gabc_places.specs.DecoderMachine.{DecoderState}
use Rattle.gabc_places.specs.witness.DecoderEvents as decoder
use Rattle.gabc_headers.specs.HeadEvents.{emitted_by}
use Rattle.gabc_headers.specs.witness.HeadEvents.{HeaderStageState}
use Rattle.gabc_body.specs.ScoreEvents.{ScoreOutput, Found, Stop, Syllable, End, fault_in, findings_in, has_end}
use Rattle.gabc_score.specs.witness.ScoreStage.{ScoreStageState, left_of}
use Rattle.gregorio.specs.declared.source_ending.SourceEnding.{SourceEnding}
use Rattle.gregorio.specs.declared.source_ending.SourceEnding.TheVariants.{Broken}
use Rattle.gregorio.specs.Engine.{Brings, IsEnded, NothingWaits, fault_of, is_running, with_waiting}
use Rattle.gregorio.specs.witness.Engine.{EngineState, Written, book_after, ended_by, head_events_left, items_left, streams_left}
use Rattle.gregorio.specs.Streams.{Streams, after_bytes, ended_with}
use Rattle.gregorio.specs.Outcome.{is_error_finding, is_whole, status_by}
use Rattle.gregorio.specs.machine.ScoreWriter.{ScoreWriterState, IsOver, IsReserved, KeepsJobAndRooms}
use Rattle.gregorio.specs.machine.Engine.{WritesItems, streams_of_items}
use Rattle.gregorio.proofs.pieces.BytesAreJoined.{with_both_after}
use Rattle.gregorio.specs.declared.run_ending.RunEnding.{RunEnding}
use Rattle.gregorio_jobs.specs.declared.job.Status.{Status}
use Rattle.gregorio_jobs.specs.declared.job.Status.TheVariants.{ReadFault}
use Rattle.gregorio.proofs.StreamsOfOutputs.{EndsAtLast, outputs_are_said, over_is_last, said}

-- ---- the rooms stay

pub still_reserved : (old new : ScoreWriterState) → KeepsJobAndRooms old new → IsReserved old → IsReserved new
still_reserved old new steady reserved = grind arith

-- ---- a byte

-- What was to come of these items waits, after what waited before, and the rest is still to come.
pub items_taken : (h now : HeaderStageState) (w new : ScoreWriterState) (items more : List (Result Char Fault)) (ending : SourceEnding) → WritesItems h w items now new
    → after_bytes w.writer.out.items w.writer.messages.items (streams_of_items h w ending (items ++ more))
    ≡ after_bytes new.writer.out.items new.writer.messages.items (streams_of_items now new ending more)
items_taken h now w new items more ending a = grind (arith, with_both_after)

items_next : (d e : DecoderState) (byte : ℕ) (bytes : List ℕ) (items : List (Result Char Fault)) (ending : SourceEnding) → decoder.events_left d (byte ∷ bytes) ≡ items ∷ decoder.events_left e bytes
    → emitted_by (is_whole ending) (byte ∷ bytes) (decoder.events_left d (byte ∷ bytes)) ≡ items ++ emitted_by (is_whole ending) bytes (decoder.events_left e bytes)
items_next d e byte bytes items ending law = grind arith

pub byte_taken : (d e : DecoderState) (h now : HeaderStageState) (w new : ScoreWriterState) (byte : ℕ) (items : List (Result Char Fault))
    → ((bytes : List ℕ) → decoder.events_left d (byte ∷ bytes) ≡ items ∷ decoder.events_left e bytes)
    → WritesItems h w items now new → (bytes : List ℕ) (ending : SourceEnding)
    → after_bytes w.writer.out.items w.writer.messages.items (streams_of_items h w ending (emitted_by (is_whole ending) (byte ∷ bytes) (decoder.events_left d (byte ∷ bytes))))
    ≡ after_bytes new.writer.out.items new.writer.messages.items (streams_of_items now new ending (emitted_by (is_whole ending) bytes (decoder.events_left e bytes)))
byte_taken d e h now w new byte items law a bytes ending = grind (arith, items_next, items_taken)

-- ---- a piece

pub goes_on : (ended : Option RunEnding) → is_none ended ≡ true → ended ≡ None
goes_on ended running = grind arith

pub none_wait : (s : EngineState) → NothingWaits s → (rest : Streams) → with_waiting s rest ≡ rest
none_wait s waits rest = ap (λ (o : List ℕ). after_bytes o s.messages rest) waits.output ∙ ap (λ (l : List ℕ). after_bytes [] l rest) waits.messages

-- an engine that is over already stays as it is
pub over_already : (s : EngineState) (ending : SourceEnding) (status : Status) → NothingWaits s → is_running s ≡ false
    → ((bytes : List ℕ) (later : SourceEnding) → streams_left s later bytes ≡ ended_with status (fault_of s)) → IsEnded s ending status s
over_already s ending status waits over says = record {
  law = says [] ending ∙ sym (none_wait s waits (ended_with status (fault_of s)));
  last = says;
  over = over;
  job = λ job limits runs. runs;
  again = λ e. refl;
  hasher = refl;
}

-- what bytes bring and bytes after them is what both bring
pub brings_both : (old mid new : EngineState) (xs ys : List ℕ) → Brings old xs mid → Brings mid ys new → Brings old (xs ++ ys) new
brings_both old mid new xs ys first second more ending = grind (arith, append_assoc)

-- a front of a front of a piece is a front of the piece
pub front_of_front : (count most : ℕ) (piece : List ℕ) → count ≤ length (take most piece) → take count (take most piece) ≡ take count piece
front_of_front count most piece within = let l = length-take most piece in take-take count most piece (omega (arith, within, l))

pub found_over : (o : Option RunEnding) (w : Written) (score : ScoreStageState) → is_some o ≡ true → IfSome o (λ how. IsOver w score how) → (how : RunEnding) × IsOver w score how
found_over o w score is over = grind arith

-- if the run is over, nothing is written
pub over_left : (s : EngineState) (how : RunEnding) → IsOver s.written s.score how → (ending : SourceEnding) (bytes : List ℕ) → streams_left s ending bytes ≡ ended_by how
over_left s how over ending bytes = let items = items_left s ending bytes in over_is_last s.written s.score how over (book_after s.heads items) (head_events_left s.heads ending items)

-- a piece is taken, and nothing follows
pub stopped_brings : (s : EngineState) (how : RunEnding) → IsOver s.written s.score how → (piece : List ℕ) → Brings s piece s
stopped_brings s how over piece more ending = ap (with_waiting s) (over_left s how over ending (piece ++ more) ∙ sym (over_left s how over ending more))

-- ---- an input that breaks off

-- what a stage of scores gives if its inputs cease
pub record GivesNoLast (outputs : List ScoreOutput) : Type 0 where
  pub findings : findings_in outputs ≡ []
  pub stop : fault_in outputs ≡ None
  pub end : has_end outputs ≡ false

no_last : (outputs : List ScoreOutput) → fault_in outputs ≡ None → has_end outputs ≡ false → EndsAtLast (Unit {0}) outputs
no_last [] stop end = tt
no_last (Found f ∷ outputs) stop end = no_last outputs stop end
no_last (Stop fault ∷ outputs) stop end = absurd (cc stop)
no_last (Syllable s ∷ outputs) stop end = no_last outputs stop end
no_last (End ∷ outputs) stop end = absurd (cc end)

-- what an engine says that runs, if its input ceases now
pub broken_is_said : (s : EngineState) → s.written.ended ≡ None → GivesNoLast (concat_of (left_of s.score [])) → streams_left s Broken [] ≡ said s.written (concat_of (left_of s.score []))
broken_is_said s runs gives = outputs_are_said (Unit {0}) s.written (concat_of (left_of s.score [])) runs (no_last (concat_of (left_of s.score [])) gives.stop gives.end)

-- it has a source that failed
pub read_fault_if_broken : (s : EngineState) → is_running s ≡ true → GivesNoLast (concat_of (left_of s.score [])) → (streams_left s Broken []).status ≡ ReadFault
read_fault_if_broken s running gives =
    let outputs = concat_of (left_of s.score []) in
    let errors = s.written.errors || list_any is_error_finding (findings_in outputs) in
    ap (λ (t : Streams). t.status) (broken_is_said s (goes_on s.written.ended running) gives)
    ∙ (λ i. status_by (gives.stop i) (not (gives.end i)) errors)

-- and no fault
pub no_fault_if_broken : (s : EngineState) → is_running s ≡ true → GivesNoLast (concat_of (left_of s.score [])) → (streams_left s Broken []).fault ≡ None
no_fault_if_broken s running gives = ap (λ (t : Streams). t.fault) (broken_is_said s (goes_on s.written.ended running) gives) ∙ gives.stop
