-- What a machine reports in the body is within its limits.
use Rattle.std.proofs.Common.{◌≡◌, ℕ, ◌+◌, ◌-◌, ◌≤◌, ◌<◌, ◌^◌, nat_lt, min, Bool, true, false, Option, None, is_some, List, [], ◌∷◌, length, option_to_list, refl, sym, ◌∙◌, subst, arith, length-append}
use Rattle.std.specs.Prelude.{IfSome}
use Rattle.std.proofs.lemmas.Bool.Decides.{nat_tests}
use Rattle.gabc_places.specs.declared.limits.Limits.{Limits}
use Rattle.gabc_places.specs.declared.place.Place.{Place}
use Rattle.gabc_text.specs.StageReports as text_tells
use Rattle.gabc_text.specs.declared.stage.TextStage.{TextStage}
use Rattle.gabc_text.specs.witness.Keeps as text
use Rattle.gabc_notes.specs.Events.{in_raw}
use Rattle.gabc_notes.specs.StageReports.{comment_of, opener_of}
use Rattle.gabc_notes.specs.declared.stage.NoteStage.{NoteStage}
use Rattle.gabc_notes.specs.witness.Keeps as notes
use Rattle.gabc_score.specs.declared.body_stage.BodyPart.{BodyPart}
use Rattle.gabc_score.specs.declared.body_stage.BodyPart.TheVariants as part
use Rattle.gabc_score.specs.declared.preceding.Preceding.{Preceding}
use Rattle.gabc_score.specs.declared.score_machine.ScoreMachine.{ScoreMachine}
use Rattle.gabc_score.specs.declared.score_machine.ScorePart.{ScorePart}
use Rattle.gabc_score.specs.declared.score_machine.ScorePart.TheVariants as score_part
use Rattle.gabc_body.specs.Canonical.{canonical}
use Rattle.gabc_score.specs.ScoreReports.{held_in_body}
use Rattle.gabc_body.specs.Syllable.{UnplacedSyllable}
use Rattle.gabc_score.specs.ReportedWithin.{HasNoCommentInside, IsHeldWithin, ReportsWithin}
use Rattle.gabc_body.specs.witness.Gatherer.{Gathered}
use Rattle.gabc_score.specs.machine.HeldWithin.{HoldsWithin}
use Rattle.gabc_score.specs.machine.PartKeeps.{KeptParts, in_text, in_notes, PartKeeps}
use Rattle.gabc_score.specs.machine.Preceded.{IsPreceded}
use Rattle.gabc_score.specs.machine.ScoreMachine.{shown, IsInBody}

-- a canonical text has its brackets
pub canonical_some : (starts : Bool) (m : UnplacedSyllable) → 2 ≤ length (canonical starts m)
canonical_some starts m = simp length-append (omega arith)

-- a sum that is below the limit has not saturated
sum_below : (a n total input : ℕ) → total ≡ min (a + min n (2 ^ 64 - 1)) (2 ^ 64 - 1) → total < input → input ≤ 4294967295 → a + n < input
sum_below a n total input e h k = grind (arith, nat_tests)

module _ (limits : Limits) (p : Preceding) (g : Gathered) (preceded : IsPreceded p g) (within : HoldsWithin limits p g) (few : length g.made ≤ 1) where
  held_by : (ms : List UnplacedSyllable) → g.made ≡ ms → IfSome (held_in_body score_part.Body ms) (IsHeldWithin limits p)
  held_by [] is = tt
  held_by (m ∷ []) is = grind (arith, canonical_some, sum_below)
  held_by (m ∷ n ∷ ms) is = absurd (subst (λ (ms : List UnplacedSyllable). length ms ≤ 1 → ⊥) (sym is) (λ l. omega (arith, l)) few)

is_none : (o : Option Place) → is_some o ≡ false → o ≡ None
is_none o e = grind arith

-- No comment is open inside an inner opener: in a text, if one is open, nothing else is, and a
-- snippet of GABC has an opener only inside raw.
pub no_comment_inside : ((s : TextStage) (k : List ℕ) → text.Keeps s k → is_some (text_tells.opener_of s) ≡ text.is_open_after_text k)
    → ((s : TextStage) (k : List ℕ) → text.Keeps s k → text_tells.is_in_comment s ≡ true → text.begins_comment k ≡ true)
    → ((k : List ℕ) → text.begins_comment k ≡ true → text.is_open_after_text k ≡ false)
    → ((split : Bool) (macros : ℕ) (s : NoteStage) (k : List ℕ) → notes.Keeps split macros s k → is_some (opener_of s) ≡ in_raw k)
    → ((split : Bool) (macros : ℕ) (s : NoteStage) (k : List ℕ) → notes.Keeps split macros s k → comment_of s ≡ true → in_raw k ≡ false)
    → (lines macros : ℕ) (p : BodyPart) (parts : KeptParts) → PartKeeps lines macros p parts → HasNoCommentInside p
no_comment_inside text_opener text_comment text_apart opener comment lines macros (part.Text s) (in_text k) h open_is = is_none (text_tells.opener_of s) (text_opener s k h ∙ text_apart k (text_comment s k h open_is))
no_comment_inside text_opener text_comment text_apart opener comment lines macros (part.Text s) (in_notes t earlier k) h open_is = absurd h
no_comment_inside text_opener text_comment text_apart opener comment lines macros (part.Notes opened s) (in_text k) h open_is = absurd h
no_comment_inside text_opener text_comment text_apart opener comment lines macros (part.Notes opened s) (in_notes t earlier k) h open_is =
    is_none (opener_of s) (opener (nat_lt 0 lines) macros s k h.1 ∙ comment (nat_lt 0 lines) macros s k h.1 open_is)
no_comment_inside text_opener text_comment text_apart opener comment lines macros _ parts h open_is = refl

pub reports_in_body : (m : ScoreMachine) → m.part ≡ score_part.Body → IsInBody m → length m.pair.gathered.made ≤ 1 → HasNoCommentInside m.body.part → ReportsWithin (shown m)
reports_in_body m body h few comment = grind (arith, held_by)

-- those that were made are the one that is held
pub held_made : (p : ScorePart) (made : List UnplacedSyllable) → p ≡ score_part.Body → length made ≤ 1 → length made ≡ length (option_to_list (held_in_body p made))
held_made p made body few = grind arith
