-- What is said of the kept text by itself is what some stage reports of it.
use Rattle.std.proofs.Common.{◌≡◌, ◌≤◌, ℕ, List, [], length, Bool, true, false, is_some, encode_utf8_all, refl, sym, ap, subst, ◌∙◌, arith}
use Rattle.std.specs.Prelude.{IsUtf8}
use Rattle.std.proofs.lemmas.Str.{encodes-chars, scalars-chars}
use Rattle.std.specs.Char.{IsScalar}
use Rattle.std.specs.List.{All}
use Rattle.std.specs.Str.{chars}
use Rattle.gabc_places.specs.declared.limits.Limits.{Limits}
use Rattle.gabc_score.proofs.resuming.BeginsAnywhere.{front_is}
use Rattle.gabc_score.proofs.resuming.ScoresAgree.{reads_in_body}
use Rattle.gabc_score.proofs.texts_of_body.BodyAfterHeads.{are_scalars}
use Rattle.gabc_score.specs.KeptAgain.{IsKeptAgain}
use Rattle.gabc_score.specs.Before.{no_syllable}
use Rattle.gabc_score.specs.ReadAgain.{CanBeReadInText, IsReported, ReportsReading, no_openers}
use Rattle.gabc_score.specs.ScoreReports.{IsInFront, before_of, is_in_comment, is_in_front, openers_of}
use Rattle.gabc_score.specs.declared.body_stage.BodyPart.TheVariants as part
use Rattle.gabc_score.specs.declared.score_machine.ScorePart.TheVariants as score_part
use Rattle.gabc_score.specs.declared.body_tells.Openers.{Openers}
use Rattle.gabc_score.specs.witness.ReadAgain.{CanBeReadAgain}
use Rattle.gabc_score.specs.witness.ScoreStage.{ScoreStageState}
use Rattle.gregorio_state.specs.Fields.{ScoreFields}
use Rattle.gregorio.specs.SavedState.{IsKeptRead}
use Rattle.gregorio.specs.machine.SettingDown.{HasRead, IsReportedSo, openers_reported}

-- the two laws of kept texts
abbrev pub KeptAgain : Type 0
KeptAgain = (s : ScoreStageState) (t : List ℕ) (openers : Openers) (comment : Bool) → All IsScalar t → CanBeReadAgain s → ReportsReading s (encode_utf8_all t) openers comment → IsKeptAgain s.body.nabc_lines s.body.macros t openers comment

abbrev pub KeptShort : Type 0
KeptShort = (s : ScoreStageState) (t : List ℕ) (openers : Openers) (comment : Bool) → CanBeReadAgain s → ReportsReading s (encode_utf8_all t) openers comment → length (encode_utf8_all t) ≤ s.limits.syllable

abbrev pub Reported : Type 0
Reported = (limits : Limits) (lines macros : ℕ) (t : List ℕ) (openers : Openers) (comment : Bool) → All IsScalar t → IsKeptAgain lines macros t openers comment → length (encode_utf8_all t) ≤ limits.syllable
    → IsReported limits lines macros t openers comment

module _ (limits : Limits) (f : ScoreFields) (utf8 : IsUtf8 f.kept) where
  scalar : All IsScalar (chars f.kept)
  scalar = are_scalars (chars f.kept) (scalars-chars f.kept utf8)

  pub kept_read : KeptAgain → KeptShort → IsReportedSo limits f → IsKeptRead limits f
  kept_read again short r = record {
    again = subst (λ (n : ℕ). IsKeptAgain n f.macros (chars f.kept) (openers_reported f) f.in_comment) r.lines
        (subst (λ (n : ℕ). IsKeptAgain r.stage.body.nabc_lines n (chars f.kept) (openers_reported f) f.in_comment) r.macros (again r.stage (chars f.kept) (openers_reported f) f.in_comment scalar r.keeps tells));
    short = let size = ap length (encodes-chars f.kept utf8) in let few = short r.stage (chars f.kept) (openers_reported f) f.in_comment r.keeps tells in let same = ap (λ (l : Limits). l.syllable) r.limits_are in omega (arith, size, few, same);
  }
    where
      tells : ReportsReading r.stage (encode_utf8_all (chars f.kept)) (openers_reported f) f.in_comment
      tells = subst (λ (kept : List ℕ). ReportsReading r.stage kept (openers_reported f) f.in_comment) (sym (encodes-chars f.kept utf8)) r.tells

  pub reported_so : Reported → IsKeptRead limits f → IsReportedSo limits f
  reported_so reported k = record {
    stage = r.stage;
    keeps = r.again;
    limits_are = r.limits_are;
    lines = r.lines_are;
    macros = r.macros_are;
    tells = subst (λ (kept : List ℕ). ReportsReading r.stage kept (openers_reported f) f.in_comment) (encodes-chars f.kept utf8) r.tells;
  }
    where
      r : IsReported limits f.nabc_lines f.macros (chars f.kept) (openers_reported f) f.in_comment
      r = reported limits f.nabc_lines f.macros (chars f.kept) (openers_reported f) f.in_comment scalar k.again (let size = ap length (encodes-chars f.kept utf8) in let short = k.short in omega (arith, size, short))

-- ---- what a stage in the body reports

-- nothing is kept there
nothing_kept : (s : ScoreStageState) → CanBeReadAgain s → s.body.part ≡ part.Comment → s.held.gathered.builder.kept ≡ []
nothing_kept s can is = let none = rw is at can.told.keeps in rw none at can.told.is

-- the same stage before it has read anything
abbrev at_outset : ScoreStageState → ScoreStageState
at_outset s = record s {
  part = score_part.Body;
  before = no_syllable 0;
  held = record s.held { gathered = record s.held.gathered { made = []; builder = record s.held.gathered.builder { kept = [] } } };
}

-- in front it is reported in a text too
abbrev pub ReadInText : Type 0
ReadInText = (s : ScoreStageState) → is_some (before_of s) ≡ true → IsInFront s → CanBeReadInText s

module _ (f : ScoreFields) (s : ScoreStageState) (limits : Limits) (limits_are : s.limits ≡ limits) (body : s.part ≡ score_part.Body) (lines : s.body.nabc_lines ≡ f.nabc_lines) (macros : s.body.macros ≡ f.macros)
    (read : HasRead f s) (can : CanBeReadAgain s) (law : ReadInText) where
  by_front : (front : Bool) → is_in_front s.body.part ≡ front → IsReportedSo limits f
  by_front true front =
      let in_text = law (at_outset s) refl (record { front = front; none_before = refl; none_held = refl; nothing_read = refl }) in
      let comment : s.body.part ≡ part.Comment = front_is s.body.part front in
      let kept : [] ≡ f.kept = sym (nothing_kept s can comment) ∙ sym (reads_in_body s.part s.held.gathered.builder.kept body) ∙ read.kept in
      let openers : no_openers ≡ openers_reported f = sym (ap openers_of comment) ∙ read.openers_are in
      let comment_open : true ≡ f.in_comment = sym (ap is_in_comment comment) ∙ read.comment in
      record {
        stage = in_text.told;
        keeps = in_text.again;
        limits_are = in_text.limits ∙ limits_are;
        lines = in_text.lines ∙ lines;
        macros = in_text.macros ∙ macros;
        tells =
            subst (λ (k : List ℕ). ReportsReading in_text.told k (openers_reported f) f.in_comment) kept
            (subst (λ (o : Openers). ReportsReading in_text.told [] o f.in_comment) openers (subst (λ (b : Bool). ReportsReading in_text.told [] no_openers b) comment_open in_text.tells));
      }
  by_front false front = record {
    stage = s;
    keeps = can;
    limits_are = limits_are;
    lines = lines;
    macros = macros;
    tells = record { front = front; reading = read.kept; openers_are = read.openers_are; comment_is = read.comment };
  }

  pub is_reported_so : IsReportedSo limits f
  is_reported_so = by_front (is_in_front s.body.part) refl
