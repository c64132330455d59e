-- If a stage after the same reads the text of the pending syllable, its own one is equivalent then.
use Rattle.std.proofs.Common.{◌≡◌, ℕ, Bool, true, false, List, Option, Some, IfSome, is_some, refl, sym, ap, subst, ◌∙◌, arith}
use Rattle.std.specs.Prelude.{IsUtf8, ◌==◌}
use Rattle.std.specs.Str.{chars}
use Rattle.std.proofs.lemmas.Str.{chars_from_encodes}
use Rattle.gabc_places.specs.declared.limits.Limits.{Limits}
use Rattle.gabc_body.specs.declared.before.Before.{Before}
use Rattle.gabc_score.specs.declared.score_machine.ScorePart.{ScorePart}
use Rattle.gabc_score.specs.HeldAgain.{MayBeHeld}
use Rattle.gabc_score.specs.HeldAside.{HoldTheSame, IsEquivalentSyllable}
use Rattle.gabc_body.specs.Holding.{HasWholeSnippets}
use Rattle.gabc_score.specs.Resumed.{HoldsAgain, IsAfterSyllables}
use Rattle.gabc_score.specs.ScoreReports.{before_of, before_with, held_of, in_body}
use Rattle.gabc_body.specs.SpansPast.{FollowsSpans}
use Rattle.gabc_body.specs.Syllable.{UnplacedSyllable}
use Rattle.gabc_score.specs.ReportedWithin.{IsHeldWithin, written_after}
use Rattle.gabc_body.specs.UnitRead.{HoldsSomeUnit}
use Rattle.gabc_score.specs.witness.ScoreStage.{ScoreStageState}
use Rattle.gabc_write.specs.SetDown.{MayBeHeldByItsText, SayTheSame}
use Rattle.gabc_write.specs.SyllableRead.{as_it_stands, IsReadFromItsText}
use Rattle.gabc_write.specs.machine.SetDown.{BeginsAlike}
use Rattle.gabc_write.proofs.reading_again.TextDeterminesPendingSyllable.{SyllablesByKept, bytes_after, says_again, stands_for}

abbrev pub told_before : ScoreStageState → Before
told_before s = before_with s.body s.before

-- in the body a stage reports what stands before
pub reported_in_body : {A : Type 0} → (p : ScorePart) (a : A) → is_some (in_body p a) ≡ true → in_body p a ≡ Some a
reported_in_body p a h = grind arith

pub some_held : (P : UnplacedSyllable → Type 0) (o : Option UnplacedSyllable) (m : UnplacedSyllable) → o ≡ Some m → IfSome o P → P m
some_held P o m is h = subst (λ (x : Option UnplacedSyllable). IfSome x P) is h

module _ (told old : ScoreStageState) (runs : is_some (before_of told) ≡ true) (stands : IsAfterSyllables told.limits (told_before told) old) where
  before_told : before_of told ≡ Some (told_before told)
  before_told = reported_in_body told.part (told_before told) runs

  before_old : told_before old ≡ told_before told
  before_old = cc (ap (λ (p : ScorePart). in_body p (told_before old)) (sym stands.begins.body) ∙ stands.before_is)

  module _ (m : UnplacedSyllable) (is : held_of told ≡ Some m) (within : IsHeldWithin told.limits told.before m) (held : List ℕ) (text : held ≡ written_after told.before m) where
    -- the text may be held there
    pub is_held : IsUtf8 held → MayBeHeldByItsText told.limits (told_before told) m → (result : Bool)
        → (result ≡ false → (n : UnplacedSyllable) → MayBeHeld old.limits (told_before old) (chars held) n → ⊥) → result ≡ true
    is_held utf8 by true refused = refl
    is_held utf8 by false refused =
        absurd (refused refl by.again
        (subst (λ (limits : Limits). MayBeHeld limits (told_before old) (chars held) by.again) (sym stands.limits_are)
        (subst (λ (b : Before). MayBeHeld told.limits b (chars held) by.again) (sym before_old)
        (subst (λ (t : List ℕ). MayBeHeld told.limits (told_before told) t by.again) (chars_from_encodes by.text held utf8 (sym by.bytes ∙ sym text)) by.may))))

    module _ (utf8 : IsUtf8 held) (own : IsReadFromItsText told.body.nabc_lines told.body.macros (as_it_stands (told.before.syllables == 0) m)) where
      utf8_after : IsUtf8 (written_after told.before m)
      utf8_after = subst IsUtf8 text utf8

      text_is : own.text ≡ chars held
      text_is = chars_from_encodes own.text held utf8 (sym (bytes_after told.limits (told_before told) m own) ∙ sym text)

      pub begins_with_one : SyllablesByKept → (whole : (lines : ℕ) (n : UnplacedSyllable) → HoldsSomeUnit lines n → HasWholeSnippets n) (new : ScoreStageState)
          → FollowsSpans told.before.spans m → HoldsSomeUnit told.body.nabc_lines m → HoldsAgain (chars held) old new → BeginsAlike told new
      begins_with_one by_kept whole new spans holds h =
          let may : MayBeHeld told.limits (told_before told) own.text h.m =
          subst (λ (limits : Limits). MayBeHeld limits (told_before told) own.text h.m) stands.limits_are
          (subst (λ (b : Before). MayBeHeld old.limits b own.text h.m) before_old
          (subst (λ (t : List ℕ). MayBeHeld old.limits (told_before old) t h.m) (sym text_is) h.may)) in
          let stand : IsEquivalentSyllable (told.before.syllables == 0) m h.m = stands_for told.limits (told_before told) m own by_kept utf8_after within.short spans holds whole h.m may in
          let says : SayTheSame (told.before.syllables == 0) (Some m) (Some h.m) = says_again told.limits (told_before told) m own by_kept utf8_after within.short spans holds whole h.m may in
          record {
            holds = record {
              limits_are = h.limits ∙ stands.limits_are;
              before_is = h.before_is ∙ stands.before_is ∙ sym before_told;
              held =
                  subst (λ (o : Option UnplacedSyllable). HoldTheSame (told.before.syllables == 0) o (held_of new)) (sym is)
                  (subst (HoldTheSame (told.before.syllables == 0) (Some m)) (sym h.held) stand);
              says = subst (λ (o : Option UnplacedSyllable). SayTheSame (told.before.syllables == 0) o (held_of new)) (sym is) (subst (SayTheSame (told.before.syllables == 0) (Some m)) (sym h.held) says);
            };
            begins = h.begins;
          }
