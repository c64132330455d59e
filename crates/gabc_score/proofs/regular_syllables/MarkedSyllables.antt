-- The spans that are open after a syllable with one span mark, or none.
use Rattle.std.proofs.Common.{◌≡◌, ℕ, nat_lt, length, codes, Option, ap, ◌∙◌, arith}
use Rattle.std.proofs.lemmas.Bool.{lt-ltb}
use lib.Utf8.{encode}
use Rattle.gabc_text.specs.declared.span_mark.SpanMark.{SpanMark}
use Rattle.gabc_text.specs.RegularText.{tags_of}
use Rattle.gabc_text.specs.ViewFacts.{span_tags}
use Rattle.gabc_body.specs.declared.before.Spans.{Spans}
use Rattle.gabc_body.specs.Syllable.{UnplacedSyllable}
use Rattle.gabc_body.specs.SpansPast.{eu_past, nlba_past}
use Rattle.gabc_body.specs.SyllablesOfUnits.{HoldsUnit, ScoreUnit}
use Rattle.gabc_score.specs.RegularSyllable.{SyllableParts, has_gap}
use Rattle.gabc_score.specs.machine.RegularLen.{past_mark}
use Rattle.gabc_body.proofs.syllables_of_units.LastTagOpensTheSpan.{after_tags}
use Rattle.gabc_body.proofs.syllables_of_units.UnitGivesOneSyllable.{unit_past}

after_mark : (o : Option SpanMark) (spans : Spans)
    → (after_tags (codes "<eu>") (codes "</eu>") spans.eu (tags_of o) ≡ (past_mark o spans).eu) × (after_tags (codes "<nlba>") (codes "</nlba>") spans.nlba (tags_of o) ≡ (past_mark o spans).nlba)
unfolding encode
after_mark o spans = grind arith

pub spans_past : (lines : ℕ) (u : ScoreUnit) (m : UnplacedSyllable) (holds : HoldsUnit lines u m) (spans : Spans) (o : Option SpanMark) → span_tags u.text ≡ tags_of o
    → (eu_past m spans.eu ≡ (past_mark o spans).eu) × (nlba_past m spans.nlba ≡ (past_mark o spans).nlba)
spans_past lines u m holds spans o e = (
  unit_past (codes "<eu>") (codes "</eu>") lines u m spans.eu holds ∙ ap (after_tags (codes "<eu>") (codes "</eu>") spans.eu) e ∙ (after_mark o spans).0,
  unit_past (codes "<nlba>") (codes "</nlba>") lines u m spans.nlba holds ∙ ap (after_tags (codes "<nlba>") (codes "</nlba>") spans.nlba) e ∙ (after_mark o spans).1,
)

-- whether there is a gap says how many blanks it has
pub gap_starts : (r : SyllableParts) (n : ℕ) → n ≡ length r.gap → nat_lt 0 n ≡ has_gap r.gap
gap_starts r n e = grind (arith, lt-ltb)
