-- Two syllables that are pending after the same and have one canonical text there are equivalent.
use Rattle.std.proofs.Common.{◌≡◌, ℕ, ◌==◌, ◌≤◌, length, Bool, true, List, Option, Some, IfSome, is_some, sym, ap, subst, ◌∙◌, arith}
use Rattle.std.specs.Option.{option_map}
use Rattle.std.specs.Prelude.{IsUtf8}
use Rattle.std.proofs.lemmas.Str.{chars_from_encodes}
use Rattle.gabc_places.specs.declared.limits.Limits.{Limits}
use Rattle.gabc_body.specs.declared.before.Before.{Before}
use Rattle.gabc_score.specs.declared.preceding.Preceding.{Preceding}
use Rattle.gabc_body.specs.declared.before.Spans.{Spans}
use Rattle.gabc_score.specs.Before.{preceding_of}
use Rattle.gabc_score.specs.HeldAgain.{MayBeHeld}
use Rattle.gabc_body.specs.OpenSpans.{CanBeOpen}
use Rattle.gabc_headers.specs.declared.head_event.HeadEvent.{HeadEvent}
use Rattle.gabc_score.specs.HeldAside.{GiveTheSame, HoldTheSame, IsEquivalentSyllable}
use Rattle.gabc_body.specs.Holding.{HasWholeSnippets}
use Rattle.gabc_score.specs.ScoreStage.{AreInLine}
use Rattle.gabc_score.specs.ScoreReports.{before_of, held_of}
use Rattle.gabc_body.specs.SpansPast.{FollowsSpans}
use Rattle.gabc_score.specs.AreEquivalent.{AreEquivalent}
use Rattle.gabc_body.specs.Syllable.{UnplacedSyllable}
use Rattle.gabc_places.specs.TextOfAnInput.{IsText}
use Rattle.gabc_score.specs.ReportedWithin.{IsHeldWithin, written_after}
use Rattle.gabc_body.specs.UnitRead.{HoldsSomeUnit}
use Rattle.gabc_score.specs.witness.ScoreStage.{ScoreStageState, left_of}
use Rattle.gabc_write.specs.SavedAlike.{AreSavedAlike}
use Rattle.gabc_write.specs.SetDown.{GoesOnEquivalentlyInLine, SayTheSame}
use Rattle.gabc_write.specs.SyllableRead.{as_it_stands, IsReadFromItsText, IsReadWhereItStands}
use Rattle.gabc_write.proofs.reading_again.TextDeterminesPendingSyllable.{SyllablesByKept, bytes_after, may_be_held, says_again, stands_for}
use Rattle.gabc_write.proofs.reading_again.StageHoldsAgain.{told_before, reported_in_body}

-- both is equivalent to a third
both_stand : (first : Bool) (m n k : UnplacedSyllable) → IsEquivalentSyllable first m k → IsEquivalentSyllable first n k → IsEquivalentSyllable first m n
both_stand first m n k h g = grind arith

both_say : (first : Bool) (m n k : UnplacedSyllable) → SayTheSame first (Some m) (Some k) → SayTheSame first (Some n) (Some k) → SayTheSame first (Some m) (Some n)
both_say first m n k h g position = h position ∙ sym (g position)

-- what is known of a held syllable after these
pub record IsHeldThere (before : Before) (m : UnplacedSyllable) : Type 0 where
  pub own : IsReadWhereItStands before.nabc_lines before.macros m
  pub spans : FollowsSpans before.spans m
  pub holds : HoldsSomeUnit before.nabc_lines m

module _ (by_kept : SyllablesByKept) (opened : (spans : Spans) → CanBeOpen spans) (whole : (lines : ℕ) (n : UnplacedSyllable) → HoldsSomeUnit lines n → HasWholeSnippets n) (limits : Limits) (before : Before) where
  abbrev first : Bool
  first = before.syllables == 0

  module _ (m n : UnplacedSyllable) (h : IsHeldThere before m) (g : IsHeldThere before n) (within : IsHeldWithin limits (preceding_of before) m) (utf8 : IsUtf8 (written_after (preceding_of before) m))
      (same : written_after (preceding_of before) m ≡ written_after (preceding_of before) n) where
    own : IsReadFromItsText before.nabc_lines before.macros (as_it_stands first m)
    own = h.own first

    other : IsReadFromItsText before.nabc_lines before.macros (as_it_stands first n)
    other = g.own first

    text_is : own.text ≡ other.text
    text_is =
        chars_from_encodes own.text (written_after (preceding_of before) m) utf8 (sym (bytes_after limits before m own))
        ∙ sym (chars_from_encodes other.text (written_after (preceding_of before) m) utf8 (sym (same ∙ bytes_after limits before n other)))

    -- the one syllable that is read from the text of both
    k : (x : UnplacedSyllable) × MayBeHeld limits before own.text x
    k = may_be_held limits before m own by_kept utf8 within.short (opened before.spans) within.file

    k_again : MayBeHeld limits before other.text k.0
    k_again = subst (λ (t : List ℕ). MayBeHeld limits before t k.0) text_is k.1

    utf8_other : IsUtf8 (written_after (preceding_of before) n)
    utf8_other = subst IsUtf8 same utf8

    short_other : length (written_after (preceding_of before) n) ≤ limits.syllable
    short_other = subst (λ (t : List ℕ). length t ≤ limits.syllable) same within.short

    pub stand_for_one : IsEquivalentSyllable first m n
    stand_for_one = both_stand first m n k.0 (stands_for limits before m own by_kept utf8 within.short h.spans h.holds whole k.0 k.1)
        (stands_for limits before n other by_kept utf8_other short_other g.spans g.holds whole k.0 k_again)

    pub say_one : SayTheSame first (Some m) (Some n)
    say_one = both_say first m n k.0 (says_again limits before m own by_kept utf8 within.short h.spans h.holds whole k.0 k.1)
        (says_again limits before n other by_kept utf8_other short_other g.spans g.holds whole k.0 k_again)

  -- in the same way if at most one is held
  pub both : (o p : Option UnplacedSyllable) → IfSome o (IsHeldThere before) → IfSome p (IsHeldThere before) → IfSome o (IsHeldWithin limits (preceding_of before)) → IfSome o (λ m. IsUtf8 (written_after (preceding_of before) m))
      → option_map (written_after (preceding_of before)) o ≡ option_map (written_after (preceding_of before)) p → HoldTheSame first o p × SayTheSame first o p
  both o p h g within utf8 same = grind (arith, stand_for_one, say_one)

-- ---- two stages

held_there : (before : Before) (o : Option UnplacedSyllable) → IfSome o (IsReadWhereItStands before.nabc_lines before.macros) → IfSome o (FollowsSpans before.spans) → IfSome o (HoldsSomeUnit before.nabc_lines)
    → IfSome o (IsHeldThere before)
held_there before o read spans holds = grind (arith, own)

-- what is known of the syllable that a stage holds
pub record IsKnown (s : ScoreStageState) : Type 0 where
  pub own : IfSome (held_of s) (IsReadWhereItStands s.body.nabc_lines s.body.macros)
  pub spans : IfSome (held_of s) (FollowsSpans s.before.spans)
  pub holds : IfSome (held_of s) (HoldsSomeUnit s.body.nabc_lines)

are_utf8 : (p : Preceding) (o : Option UnplacedSyllable) → IfSome o (λ m. IsText (written_after p m)) → IfSome o (λ m. IsUtf8 (written_after p m))
are_utf8 p o h = grind arith

module _ (by_kept : SyllablesByKept) (opened : (spans : Spans) → CanBeOpen spans) (whole : (lines : ℕ) (n : UnplacedSyllable) → HoldsSomeUnit lines n → HasWholeSnippets n)
    (one other : ScoreStageState) (runs : is_some (before_of one) ≡ true) (before : before_of one ≡ before_of other) where
  before_one : told_before other ≡ told_before one
  before_one = cc (reported_in_body other.part (told_before other) (ap is_some (sym before) ∙ runs), before, reported_in_body one.part (told_before one) runs)

  pub hold_alike : IsKnown one → IsKnown other → IfSome (held_of one) (IsHeldWithin one.limits one.before) → IfSome (held_of one) (λ m. IsText (written_after one.before m))
      → option_map (written_after one.before) (held_of one) ≡ option_map (written_after other.before) (held_of other)
      → HoldTheSame (one.before.syllables == 0) (held_of one) (held_of other) × SayTheSame (one.before.syllables == 0) (held_of one) (held_of other)
  hold_alike h g within texts same =
      both by_kept opened whole one.limits (told_before one) (held_of one) (held_of other)
      (held_there (told_before one) (held_of one) h.own h.spans h.holds)
      (subst (λ (b : Before). IfSome (held_of other) (IsHeldThere b)) before_one (held_there (told_before other) (held_of other) g.own g.spans g.holds))
      within (are_utf8 one.before (held_of one) texts)
      (same ∙ ap (λ (b : Before). option_map (written_after (preceding_of b)) (held_of other)) before_one)

-- so two of which the same is saved go on alike
pub goes_on_in_line : (one other : ScoreStageState) → AreSavedAlike one other → HoldTheSame (one.before.syllables == 0) (held_of one) (held_of other) → SayTheSame (one.before.syllables == 0) (held_of one) (held_of other)
    → (AreEquivalent one other → (xs : List HeadEvent) → AreInLine one.held.next xs → GiveTheSame (held_of one) (held_of other) (left_of one xs) (left_of other xs))
    → GoesOnEquivalentlyInLine one other
goes_on_in_line one other saved held says agree = grind arith
