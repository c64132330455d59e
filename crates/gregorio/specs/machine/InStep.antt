-- The parts of an engine while it runs: they are in step.
use Rattle.std.specs.Prelude.{◌≡◌, ℕ, ◌+◌, ◌≤◌, List, [], ◌∷◌, length, Bool, true, false, is_none, Result}
use Rattle.std.specs.List.{list_any}
use Rattle.gabc_places.specs.DecoderMachine.{DecoderState}
use Rattle.gabc_places.specs.DecoderReports.{MovesOn}
use Rattle.gabc_places.specs.declared.code.Fault.{Fault}
use Rattle.gabc_places.specs.declared.place.Char.{Char}
use Rattle.gabc_places.specs.declared.place.Place.{Place}
use Rattle.gabc_headers.specs.declared.head_event.HeadEvent.{HeadEvent}
use Rattle.gabc_headers.specs.declared.head_event.HeadEvent.TheVariants as head_event
use Rattle.gabc_headers.specs.witness.HeadEvents.{HeaderStageState, HeadProgress, reading, after_headers, over}
use Rattle.gabc_neumes.specs.InForce.{nothing_in_force}
use Rattle.gabc_score.specs.declared.score_machine.ScorePart.{ScorePart}
use Rattle.gabc_score.specs.declared.score_machine.ScorePart.TheVariants as score_part
use Rattle.gabc_body.specs.ScoreEvents.{ScoreOutput, Found, Stop, End, is_last, syllables_in}
use Rattle.gabc_score.specs.ScoreStage.{Counts, IsHere, is_final, most_borrowed, most_whole, part_past, place_after_input, preceding_past}
use Rattle.gabc_score.specs.ReportedWithin.{whole_syllables}
use Rattle.gabc_score.specs.witness.ScoreStage.{ScoreStageState, left_of}
use Rattle.gregorio.specs.witness.Engine.{Written, after_heads, after_outputs, writes_heads}
use Rattle.gregorio.specs.machine.RunWriter.{RunWriterState, heads_at, past_outputs}
use Rattle.gregorio.specs.machine.ScoreWriter.{ScoreWriterState}
use Rattle.gregorio.specs.machine.Telling.{TellsOn}
use Rattle.gregorio_jobs.specs.declared.job.Format.TheVariants.{Gabc}

-- ---- a call

-- the outputs of the score for an event in the headers
abbrev pub given_in_heads : HeadEvent → List ScoreOutput
given_in_heads (head_event.Found f) = Found f ∷ []
given_in_heads (head_event.Stop fault) = Stop fault ∷ []
given_in_heads head_event.End = End ∷ []
given_in_heads (head_event.Body x) = []
given_in_heads (head_event.Heads lines macros canonical) = []

-- At an event the score emitted `outputs`, and `written` is the state after they are written.
pub record PassesOn (old : ScoreStageState) (w : Written) (x : HeadEvent) (new : ScoreWriterState) : Type 0 where
  pub outputs : List ScoreOutput
  pub few : length (syllables_in outputs) ≤ most_borrowed x
  pub part : new.score.part ≡ part_past old.part x outputs
  pub last : (old.part ≡ score_part.Over → ⊥) → is_final x ≡ true → list_any is_last outputs ≡ true
  pub before_held : new.score.part ≡ score_part.Body → new.score.before ≡ preceding_past old.part x outputs old.before
  pub counts : (place : Place) → IsHere x place → Counts place old → Counts (place_after_input x place) new.score
  pub whole : new.score.part ≡ score_part.Body → whole_syllables new.score ≤ most_whole old.part x (whole_syllables old)
  pub written : new.writer.written ≡ after_outputs w outputs
  pub in_heads : old.part ≡ score_part.Heads → outputs ≡ given_in_heads x
  pub tells : TellsOn old x new.score

-- the state of what is written after this event, whose headers are written if it has them
abbrev pub written_at : Written → HeadEvent → Written
written_at w x = after_heads w (writes_heads w x)

-- The writer wrote, after all that it had written, the outputs of the score for an event, and the
-- score continues with the events after it.
pub record TakesEvent (old : ScoreStageState) (w : RunWriterState) (x : HeadEvent) (new : ScoreWriterState) : Type 0 where
  pub passes : PassesOn old w.written x new
  pub law : (from_heads : List HeadEvent) → left_of old (x ∷ from_heads) ≡ passes.outputs ∷ left_of new.score from_heads
  pub writer : new.writer ≡ past_outputs w passes.outputs

-- At each of these events it wrote the headers that were read, if they are whole there, and then
-- the outputs of the score.
abbrev pub TakesEvents : ScoreWriterState → List HeadEvent → List (List ℕ × List ℕ) → ScoreWriterState → Type 0
TakesEvents old [] read new = old ≡ new
TakesEvents old (x ∷ events) read new =
    (mid : ScoreWriterState) × (TakesEvent old.score (heads_at old.writer x read) x mid × TakesEvents mid events read new)

-- it passes on the outputs of each of these events
abbrev pub PassesAll : ScoreWriterState → List HeadEvent → ScoreWriterState → Type 0
PassesAll old [] new = old ≡ new
PassesAll old (x ∷ events) new = (mid : ScoreWriterState) × (PassesOn old.score (written_at old.writer.written x) x mid × PassesAll mid events new)

-- ---- between two calls

-- the score is in the part `at`, and `written` says whether the headers are written
pub record StandsIn (at : ScorePart) (written : Bool) (part : ScorePart) (headed : Bool) : Type 0 where
  pub in_part : part ≡ at
  pub written_so : headed ≡ written

-- both are in the headers, which are not written, or both in the body, and they are
abbrev pub AreInOnePart : HeadProgress → ScorePart → Bool → Type 0
AreInOnePart (reading t) part headed = StandsIn score_part.Heads false part headed
AreInOnePart (after_headers book) part headed = StandsIn score_part.Body true part headed
AreInOnePart over part headed = ⊥

-- An engine that runs: its decoder runs, its stages are in one part, the number of syllables
-- written is that of those before the pending one, and there are no more whole syllables than bytes
-- taken. In the body a text has counted the place of the decoder.
pub record RunsInStep (d : DecoderState) (h : HeaderStageState) (s : ScoreStageState) (w : Written) : Type 0 where
  pub runs : d.ended ≡ false
  pub limit : d.limit ≡ s.limits.input
  pub parts : AreInOnePart h.progress s.part w.headed
  pub none : w.headed ≡ false → w.count ≡ 0
  pub count : w.headed ≡ true → w.count ≡ s.before.syllables
  pub taken : w.headed ≡ true → whole_syllables s ≤ d.taken
  pub column : 1 ≤ d.place.column
  pub near : d.place.line + d.place.column ≤ d.taken + 2
  pub counts : d.taken ≤ d.limit → Counts d.place s

-- a clef and alterations in force are tracked for a dump alone, and before the first syllable there
-- are none
pub record HasForce (w : Written) : Type 0 where
  pub untracked : w.format ≡ Gabc → w.force ≡ nothing_in_force
  pub outset : w.count ≡ 0 → w.force ≡ nothing_in_force

pub record IsInStep (d : DecoderState) (h : HeaderStageState) (s : ScoreStageState) (w : Written) : Type 0 where
  pub force : HasForce w
  pub runs : is_none w.ended ≡ true → RunsInStep d h s w

-- At these items they stay in step, if the decoder continues with them.
pub record StayInStep (h : HeaderStageState) (old : ScoreWriterState) (items : List (Result Char Fault)) (now : HeaderStageState) (new : ScoreWriterState) : Type 0 where
  pub force : HasForce old.writer.written → HasForce new.writer.written
  pub runs : (d e : DecoderState) → MovesOn d items e → (is_none old.writer.written.ended ≡ true → RunsInStep d h old.score old.writer.written) → is_none new.writer.written.ended ≡ true
      → RunsInStep e now new.score new.writer.written
