-- The texts of a score are read under limits that are enough for them as under those of their state.
use Rattle.std.proofs.Common.{◌≡◌, ◌↔◌, ◌≤◌, ℕ, List, length, encode_utf8_all, ap, subst, arith}
use Rattle.std.specs.Str.{chars}
use Rattle.std.proofs.lemmas.Str.{encodes-chars}
use Rattle.gabc_places.specs.declared.limits.Limits.{Limits}
use Rattle.gabc_places.specs.TextOfAnInput.{IsText}
use Rattle.gabc_body.specs.ReadAlone.{IsReadAsSyllable}
use Rattle.gabc_body.specs.Syllable.{UnplacedSyllable}
use Rattle.gabc_body.specs.declared.before.Spans.{Spans}
use Rattle.gregorio_state.specs.Conditions.{ArePhaseFields, AreScoreFields}
use Rattle.gregorio_state.specs.Fields.{InScore, ScoreFields, StateFields}
use Rattle.gregorio.specs.SavedState.{IsHeldRead, IsKeptRead, IsScoreRead, ReportsLimits}
use Rattle.gregorio.specs.machine.Judging.{IsEnoughFor, LetsTexts}
use Rattle.gregorio.specs.machine.Restoring.{AreFieldsIn}

module _ (law : (lines macros : ℕ) (t : List ℕ) (spans : Spans) (limit other : ℕ) (m : UnplacedSyllable) → length (encode_utf8_all t) ≤ other → IsReadAsSyllable lines macros t spans limit m
    → IsReadAsSyllable lines macros t spans other m × (length m.kept ≤ other)) where
  held_alike : (limits other : Limits) (f : ScoreFields) → IsText f.held → LetsTexts f other → other.input ≡ limits.input → IsHeldRead limits f → IsHeldRead other f
  held_alike limits other f is lets input h =
      let all = ap length (encodes-chars f.held is.utf8) in
      let one = law _ _ (chars f.held) _ limits.syllable other.syllable h.m (omega (arith, all, lets.held)) h.may.read in
      let size = ap length h.is in
      record {
        m = h.m;
        may = record { read = one.0; kept = one.1; short = omega (arith, size, lets.held); file = omega (arith, h.may.file, input) };
        is = h.is;
      }

  kept_alike : (limits other : Limits) (f : ScoreFields) → LetsTexts f other → IsKeptRead limits f → IsKeptRead other f
  kept_alike limits other f lets k = record { again = k.again; short = lets.kept }

  read_alike : (limits other : Limits) (f : ScoreFields) → IsText f.held → LetsTexts f other → other.input ≡ limits.input → IsScoreRead limits f → IsScoreRead other f
  read_alike limits other f is lets input r = record { held = λ some. held_alike limits other f is lets input (r.held some); kept = kept_alike limits other f lets r.kept }

  score_alike : (limits small : Limits) (f : ScoreFields) → IsText f.held → IsEnoughFor f limits small → IsScoreRead small f ↔ IsScoreRead limits f
  score_alike limits small f is h = grind (arith, read_alike)

  pub of_fields_alike : (s : StateFields) (limits small : Limits) (f : ScoreFields) → AreFieldsIn (InScore f) s → IsEnoughFor f limits small → IsScoreRead small f ↔ IsScoreRead limits f
  of_fields_alike s limits small f are = score_alike limits small f (subst (ArePhaseFields s) are.phase_is are.fields.phase).held.is_text

-- ---- the fields with these limits

abbrev pub with_limits : Limits → StateFields → StateFields
with_limits small s = record s { header_limit = small.header; syllable_limit = small.syllable; input_limit = small.input }

module _ (s : StateFields) (limits small : Limits) (f : ScoreFields) (tells : ReportsLimits s limits) (enough : IsEnoughFor f limits small) where
  same_input : s.input_limit ≡ small.input
  same_input = grind arith

  fit : length f.held ≤ s.syllable_limit → length f.kept ≤ s.syllable_limit → (length f.held ≤ small.syllable) × (length f.kept ≤ small.syllable)
  fit held kept = grind arith

  score_fields_alike : AreScoreFields s f → AreScoreFields (with_limits small s) f
  score_fields_alike a = grind (arith, fit, same_input)

  pub fields_alike : AreFieldsIn (InScore f) s → AreFieldsIn (InScore f) (with_limits small s)
  fields_alike are = grind (arith, same_input, score_fields_alike)
