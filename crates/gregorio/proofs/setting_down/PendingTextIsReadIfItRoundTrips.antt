-- The pending text of a state is read as its fields say, or it is not.
use Rattle.std.proofs.Common.{◌≡◌, ◌≢◌, ℕ, ◌-◌, List, [], length, false, Some, ap, sym, subst, ◌∙◌, arith}
use Rattle.std.proofs.lemmas.Bool.{false≢true}
use Rattle.std.specs.Prelude.{◌==◌, ◌||◌}
use Rattle.std.specs.Str.{chars}
use Rattle.gabc_places.specs.declared.limits.Limits.{Limits}
use Rattle.gabc_score.specs.Before.{preceding_of}
use Rattle.gabc_body.specs.Canonical.{canonical}
use Rattle.gabc_score.specs.HeldAgain.{MayBeHeld}
use Rattle.gabc_score.specs.Resumed.{HoldsAgain, IsAfterSyllables}
use Rattle.gabc_score.specs.ScoreReports.{before_of, before_with, held_of, in_body}
use Rattle.gabc_body.specs.Syllable.{UnplacedSyllable}
use Rattle.gabc_score.specs.ReportedWithin.{written_after}
use Rattle.gabc_body.specs.declared.before.Before.{Before}
use Rattle.gabc_score.specs.declared.score_machine.ScorePart.{ScorePart}
use Rattle.gabc_score.specs.witness.ScoreStage.{ScoreStageState}
use Rattle.gregorio_state.specs.Fields.{ScoreFields}
use Rattle.gregorio.specs.Saved.{held_text}
use Rattle.gregorio.specs.SavedState.{IsHeldRead, before_held}

-- ---- what a stage reports in the body

pub told_in_body : {A : Type 0} → (p : ScorePart) (a b : A) → in_body p a ≡ Some b → a ≡ b
told_in_body p a b is = grind arith

pub before_told : (s : ScoreStageState) (b : Before) → before_of s ≡ Some b → before_with s.body s.before ≡ b
before_told s b is = told_in_body s.part (before_with s.body s.before) b is

-- ---- the held text

-- its length says whether there is one
pub some_text : (text : List ℕ) → false ≡ (length text == 0) → text ≢ []
some_text text some none = false≢true (some ∙ ap (λ (t : List ℕ). length t == 0) none)

module _ (f : ScoreFields) (old : ScoreStageState) (stands : IsAfterSyllables old.limits (before_held f) old) where
  old_before : before_with old.body old.before ≡ before_held f
  old_before = before_told old (before_held f) stands.before_is

  -- if it is one
  module _ (new : ScoreStageState) (holds : HoldsAgain (chars f.held) old new) where
    abbrev new_text : List ℕ
    new_text = held_text new.before (held_of new)

    new_before : before_of new ≡ Some (before_held f)
    new_before = holds.before_is ∙ stands.before_is

    new_syllables : new.before.syllables ≡ f.syllables - 1
    new_syllables = ap (λ (b : Before). b.syllables) (before_told new (before_held f) new_before)

    may : MayBeHeld old.limits (before_held f) (chars f.held) holds.m
    may = subst (λ (b : Before). MayBeHeld old.limits b (chars f.held) holds.m) old_before holds.may

    text_is : new_text ≡ written_after (preceding_of (before_held f)) holds.m
    text_is = ap (held_text new.before) holds.held ∙ ap (λ (n : ℕ). canonical ((n == 0) || holds.m.text.word_start) holds.m) new_syllables

    pub is_read : new_text ≡ f.held → IsHeldRead old.limits f
    is_read same = record { m = holds.m; may = may; is = sym text_is ∙ same }

    -- since a text is one syllable, it has the text that is reported
    pub has_the_text : ((limits : Limits) (before : Before) (text : List ℕ) (m n : UnplacedSyllable) → MayBeHeld limits before text m → MayBeHeld limits before text n → m ≡ n) → IsHeldRead old.limits f → new_text ≡ f.held
    has_the_text law read = text_is ∙ ap (written_after (preceding_of (before_held f))) (law old.limits (before_held f) (chars f.held) holds.m read.m may read.may) ∙ read.is
