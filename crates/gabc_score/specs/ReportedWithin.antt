-- The bounds of the reports of a stage over a score in the body.
use Rattle.std.specs.Prelude.{◌≡◌, ℕ, ◌+◌, ◌^◌, ◌<◌, ◌≤◌, ◌==◌, ◌||◌, List, length, true, None, IfSome}
use Rattle.std.specs.List.{All}
use Rattle.gabc_places.specs.declared.limits.Limits.{Limits}
use Rattle.gabc_places.specs.PlacesInOrder.{LiesBefore, AreInOrder}
use Rattle.gabc_places.specs.TextOfAnInput.{IsText}
use Rattle.gabc_places.specs.declared.place.Place.{Place}
use Rattle.gabc_score.specs.declared.preceding.Preceding.{Preceding}
use Rattle.gabc_score.specs.declared.body_stage.BodyPart.{BodyPart}
use Rattle.gabc_score.specs.declared.body_tells.Openers.{Openers}
use Rattle.gabc_score.specs.declared.score_machine.ScorePart.TheVariants as score_part
use Rattle.gabc_score.specs.Before.{no_syllable}
use Rattle.gabc_body.specs.Canonical.{canonical}
use Rattle.gabc_score.specs.ScoreReports.{held_of, reading_of, openers_of, is_in_comment}
use Rattle.gabc_body.specs.Syllable.{UnplacedSyllable}
use Rattle.gabc_score.specs.witness.ScoreStage.{ScoreStageState}

-- the canonical text of a syllable after these: the first one begins a word
abbrev pub written_after : Preceding → UnplacedSyllable → List ℕ
written_after p m = canonical ((p.syllables == 0) || m.text.word_start) m

-- The canonical text of a syllable after these is within the limit, and with theirs and an LF after
-- it within that of the input.
pub record IsHeldWithin (limits : Limits) (p : Preceding) (m : UnplacedSyllable) : Type 0 where
  pub some : 2 ≤ length (written_after p m)
  pub short : length (written_after p m) ≤ limits.syllable
  pub file : p.canonical + length (written_after p m) < limits.input

-- before the first syllable no span is open, and no note or clef has come
abbrev pub IsAtOutset : Preceding → Type 0
IsAtOutset p = p.syllables ≡ 0 → p ≡ no_syllable p.canonical

-- no comment is open inside a tag, a raw part, a translation or a raw bracket
abbrev pub HasNoCommentInside : BodyPart → Type 0
HasNoCommentInside part = is_in_comment part ≡ true → (openers_of part).inner ≡ None

-- what it reports is within its limits, whatever it has read
pub record ReportsWithin (s : ScoreStageState) : Type 0 where
  pub reading : length (reading_of s) ≤ s.limits.syllable
  pub held : IfSome (held_of s) (IsHeldWithin s.limits s.before)
  pub outset : IsAtOutset s.before
  pub comment : HasNoCommentInside s.body.part

-- the number of whole syllables: those that were emitted and those that were not
abbrev pub whole_syllables : ScoreStageState → ℕ
whole_syllables s = s.before.syllables + length s.held.gathered.made

-- ---- as long as the inputs come of a text

-- the numbers of the headers are those of headers within the limit of the input, with their `%%`
pub record AreCountsWithin (limits : Limits) (lines macros canonical : ℕ) : Type 0 where
  pub few_lines : lines ≤ 4
  pub ten_macros : macros < 1024
  pub headers : 2 ≤ canonical
  pub below : canonical < limits.input

-- a place of a text, with a column of 64 bits
pub record IsPlace (p : Place) : Type 0 where
  pub line : 1 ≤ p.line
  pub column : 1 ≤ p.column
  pub in_64_bits : p.column < 2 ^ 64

-- the openers are in their order before the next character
pub record AreOpenersBefore (next : Place) (o : Openers) : Type 0 where
  pub notes : IfSome o.notes (LiesBefore next)
  pub inner : IfSome o.inner (LiesBefore next)
  pub in_order : AreInOrder o.notes o.inner

-- What it reports is that of a text.
pub record IsReportOfText (s : ScoreStageState) : Type 0 where
  pub counts : AreCountsWithin s.limits s.body.nabc_lines s.body.macros s.before.canonical
  pub next : IsPlace s.held.next
  pub openers : AreOpenersBefore s.held.next (openers_of s.body.part)
  pub reading : IsText s.held.gathered.builder.kept
  pub held : All (λ (m : UnplacedSyllable). IsText m.kept) s.held.gathered.made

-- in the body it is
abbrev pub ReportsText : ScoreStageState → Type 0
ReportsText s = s.part ≡ score_part.Body → IsReportOfText s

-- ---- whatever comes in

-- in the body none is pending only if no syllable was emitted
abbrev pub HoldsIfAny : ScoreStageState → Type 0
HoldsIfAny s = s.part ≡ score_part.Body → held_of s ≡ None → s.before.syllables ≡ 0
