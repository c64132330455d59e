-- The state that a machine over a score shows, and its invariant between two calls.
use Rattle.std.specs.Prelude.{◌≡◌, ℕ, ◌≤◌, Bool, true, false, [], length, None}
use Rattle.std.specs.List.{All}
use Rattle.gabc_score.specs.declared.preceding.Preceding.{Preceding}
use Rattle.gabc_score.specs.Before.{with_each}
use Rattle.gabc_body.specs.Canonical.{canonical}
use Rattle.gabc_score.specs.ScoreReports.{is_in_front}
use Rattle.gabc_body.specs.Syllable.{UnplacedSyllable}
use Rattle.gabc_score.specs.declared.score_machine.ScoreMachine.{ScoreMachine}
use Rattle.gabc_score.specs.declared.score_machine.ScorePart.{ScorePart}
use Rattle.gabc_score.specs.declared.score_machine.ScorePart.TheVariants as score_part
use Rattle.gabc_score.specs.witness.ScoreStage.{ScoreStageState}
use Rattle.gabc_body.specs.witness.BodyBuilder.{code_in}
use Rattle.gabc_body.specs.witness.Gatherer.{Gathered, nothing_gathered}
use Rattle.gabc_score.specs.machine.HeldWithin.{HoldsWithin}
use Rattle.gabc_score.specs.machine.PartCounts.{CountsHold}
use Rattle.gabc_score.specs.machine.PartKeeps.{IsReading}
use Rattle.gabc_score.specs.machine.PartMakes.{HoldUnits}
use Rattle.gabc_score.specs.machine.Preceded.{IsPreceded}
use Rattle.gabc_score.specs.machine.ScoreStage.{HeldScore}
use Rattle.gabc_score.specs.machine.SlotPair.{is_made, is_preceded}

-- a syllable was emitted: there is one before the pending one
abbrev pub has_given : ScoreMachine → Bool
has_given m = is_preceded m.pair

-- the state after the headers
abbrev pub held_score : ScoreMachine → HeldScore
held_score m = record { next = m.next; gathered = m.pair.gathered; is_preceded = has_given m }

abbrev pub shown : ScoreMachine → ScoreStageState
shown m = record { limits = m.limits; part = m.part; before = m.pair.contexts.before; held = held_score m; body = m.body; first = m.pair.first; second = m.pair.second }

-- a syllable is within the limit, its canonical text without the LF before it
pub record IsShort (limit : ℕ) (m : UnplacedSyllable) : Type 0 where
  pub kept : length m.kept ≤ limit
  pub canonical : length (canonical false m) ≤ limit

-- between two calls: no finding is left, the slots are those of the limits, and the pending
-- syllable is within them
pub record IsAtRest (m : ScoreMachine) : Type 0 where
  pub none : m.found.items ≡ []
  pub room : 9 ≤ m.found.limit
  pub limit : m.pair.gathered.limit ≡ m.limits.syllable
  pub used : is_made m.pair.used ≡ false
  pub over : m.pair.gathered.over ≡ false
  pub short : All (IsShort m.limits.syllable) m.pair.gathered.made

-- before the body nothing is gathered
pub record IsBeforeBody (m : ScoreMachine) : Type 0 where
  pub rests : IsAtRest m
  pub nothing : m.pair.gathered ≡ nothing_gathered m.limits.syllable 0

-- no syllable is whole, emitted or not
pub record NoneIsWhole (before : Preceding) (g : Gathered) : Type 0 where
  pub none_before : before.syllables ≡ 0
  pub none_made : g.made ≡ []

-- In the body the counts hold, no limit is passed, the kept text is within its limit, the state
-- gathered is that of the events of its parts, and the pending syllable holds a unit, whose spans
-- follow from those before it. In front of the first text no syllable is whole.
pub record IsInBody (m : ScoreMachine) : Type 0 where
  pub rests : IsAtRest m
  pub counts : CountsHold m.body.part m.pair.gathered.builder
  pub kept : length m.pair.gathered.builder.kept ≤ m.limits.syllable
  pub preceded : IsPreceded m.pair.contexts.before m.pair.gathered
  pub after : m.pair.contexts.after ≡ with_each m.pair.contexts.before m.pair.gathered.made
  pub code : code_in m.limits m.pair.gathered ≡ None
  pub reading : IsReading m.body.nabc_lines m.body.macros m.body.part m.pair.contexts.after.spans m.pair.gathered
  pub units : HoldUnits m.body.nabc_lines m.pair.contexts.before m.pair.gathered.made
  pub within : HoldsWithin m.limits m.pair.contexts.before m.pair.gathered
  pub front : is_in_front m.body.part ≡ true → NoneIsWhole m.pair.contexts.before m.pair.gathered

-- the memory stays reserved: for the findings of one input, and for syllables within the limit
pub record KeepsMemory (m : ScoreMachine) : Type 0 where
  pub room : 9 ≤ m.found.limit
  pub limit : m.pair.gathered.limit ≡ m.limits.syllable

abbrev pub IsScoreAt : ScorePart → ScoreMachine → Type 0
IsScoreAt score_part.Heads m = IsBeforeBody m
IsScoreAt score_part.Body m = IsInBody m
IsScoreAt score_part.Over m = KeepsMemory m

abbrev pub IsScore : ScoreMachine → Type 0
IsScore m = IsScoreAt m.part m
