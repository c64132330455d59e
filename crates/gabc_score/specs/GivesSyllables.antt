-- Characters at which a stage over a score emits syllables and nothing else.
use Rattle.std.specs.Prelude.{◌≡◌, ℕ, ◌+◌, ◌≤◌, List, [], ◌∷◌, ◌++◌, Bool, cond, length, map}
use Rattle.std.specs.List.{All}
use Rattle.gabc_places.specs.declared.place.Char.{Char}
use Rattle.gabc_places.specs.declared.place.Place.{Place}
use Rattle.gabc_places.specs.Place.{place_past, placed_characters_from}
use Rattle.gabc_places.specs.StageLaw.{concat_of}
use Rattle.gabc_headers.specs.declared.head_event.HeadEvent.{HeadEvent}
use Rattle.gabc_headers.specs.declared.head_event.HeadEvent.TheVariants as head_event
use Rattle.gabc_score.specs.declared.score_machine.ScorePart.TheVariants as score_part
use Rattle.gabc_score.specs.Before.{with_placed}
use Rattle.gabc_body.specs.Canonical.{canonical_in_place}
use Rattle.gabc_body.specs.ScoreEvents.{ScoreOutput, Syllable}
use Rattle.gabc_score.specs.ScoreStage.{Counts, IsWithin, IsInLine}
use Rattle.gabc_body.specs.Syllable.{PlacedSyllable}
use Rattle.gabc_score.specs.ReportedWithin.{HoldsIfAny, ReportsText, whole_syllables}
use Rattle.gabc_score.specs.witness.ScoreStage.{ScoreStageState, left_of}

-- these characters as inputs of the body: the first is at this place
abbrev pub text_inputs : Place → List ℕ → List HeadEvent
text_inputs at t = map (λ (x : Char). head_event.Body x) (placed_characters_from at t)

-- the place of the next character after these, the first of which is at `at`; after none, the place
-- of the next one before
abbrev pub next_after : Place → List ℕ → Place → Place
next_after at [] before = before
next_after at (c ∷ cs) before = place_past at (c ∷ cs)

-- At these characters it emitted these syllables and nothing else, none in the headers, and it goes
-- on in its part under the same limits.
pub record GivesSyllables (before : ScoreStageState) (at : Place) (t : List ℕ) (given : List PlacedSyllable) (after : ScoreStageState) : Type 0 where
  pub limits : after.limits ≡ before.limits
  pub part : after.part ≡ before.part
  pub before_held : after.before ≡ with_placed before.before given
  pub next : after.held.next ≡ next_after at t before.held.next
  pub stands : at ≡ before.held.next → IsInLine before → IsInLine after
  pub whole : whole_syllables after ≤ whole_syllables before + length t
  pub told : at ≡ before.held.next → IsInLine before → ReportsText before → ReportsText after
  pub holds : HoldsIfAny before → HoldsIfAny after
  pub counts : Counts at before → Counts (place_past at t) after
  pub within : All (IsWithin before.limits) given
  pub points : List (List ScoreOutput)
  pub one_each : length points ≡ length t
  pub given_are : concat_of points ≡ map (λ (s : PlacedSyllable). Syllable s) given
  pub law : (xs : List HeadEvent) → left_of before (text_inputs at t ++ xs) ≡ points ++ left_of after xs
  pub none : t ≡ [] → after.body.part ≡ before.body.part
  pub in_heads : before.part ≡ score_part.Heads → given ≡ []

-- a canonical text, with an LF before it if it begins a word
abbrev pub spelled_canonical : Bool → List ℕ → List ℕ
spelled_canonical starts text = cond starts (10 ∷ []) [] ++ text

-- These are n syllables, whose canonical texts one after another are this text, but for the LF
-- before the first if that begins a word.
pub record AreJoined (starts : Bool) (text : List ℕ) (n : ℕ) (ss : List PlacedSyllable) : Type 0 where
  pub count_is : length ss ≡ n
  pub canonical_is : concat_of (map canonical_in_place ss) ≡ spelled_canonical starts text

-- It gave the syllables to a taker, which was this before and is that after.
pub record Runs {Taker : Type 0} (given : Taker → List PlacedSyllable → Taker) (before : ScoreStageState) (at : Place) (t : List ℕ) (after : ScoreStageState) (old new : Taker) : Type 0 where
  pub syllables : List PlacedSyllable
  pub gives : GivesSyllables before at t syllables after
  pub taken : new ≡ given old syllables
