-- The slices of a regular syllable that was found.
use Rattle.std.proofs.Common.{◌≡◌, ℕ, zero, suc, ◌-◌, ◌≤◌, Bool, nat_lt, ◌++◌, length, drop, refl, sym, ap, ap₂, subst, ◌∙◌, arith, length-append, IsUtf8}
use Rattle.std.specs.Str.{IsCharBoundary}
use Rattle.std.proofs.Math.ListN.{get_or-append}
use Rattle.std.proofs.lemmas.Str.{IsUtf8-drop, IsUtf8-nil, IsCharBoundary-from_take}
use Rattle.gabc_body.specs.declared.before.Spans.{Spans}
use Rattle.gabc_score.specs.declared.run.Found.{Found}
use Rattle.gabc_score.specs.declared.spelled.SpelledSyllable.{SpelledSyllable}
use Rattle.gabc_body.specs.Canonical.{position_by, starts_word}
use Rattle.gabc_score.specs.GivesSyllables.{spelled_canonical}
use Rattle.gabc_score.specs.RegularSyllable.{IsRegularSyllable, snippets_spelled, with_lines}
use Rattle.gabc_score.specs.SpelledSyllable.{IsSpelling, Spells}
use Rattle.gabc_body.specs.Syllable.{PlacedSyllable}
use Rattle.gabc_score.specs.machine.RegularLen.{BeginsRegularly}
use Rattle.gabc_score.specs.machine.Run.{SpellsFound, len_of}
use Rattle.gabc_score.proofs.runs.FoundSyllable.{front_is, utf8_is}
use Rattle.gabc_body.proofs.within_limits.CodesOfLimits.{begins_there}

module _ (f : Found) (lines : ℕ) (b : BeginsRegularly lines (f.spelled.now ++ f.rest.now) (len_of f)) where
  -- it may be cut after its gap
  pub cut : IsCharBoundary f.spelled.now f.gap
  cut = by f.gap refl
    where
      within : f.gap ≤ length f.spelled.now
      within = let some = b.some in omega (arith, some)

      by : (n : ℕ) → f.gap ≡ n → IsCharBoundary f.spelled.now f.gap
      by zero e = subst (IsCharBoundary f.spelled.now) (sym e) (IsCharBoundary-from_take f.spelled.now 0 (utf8_is f lines b) (omega arith) IsUtf8-nil)
      by (suc n) e =
          let there = b.cut_gap.1 (omega (arith, e)) in
          let all = length-append f.spelled.now f.rest.now in (
            within,
            λ less high. subst (λ x. 192 ≤ x) (get_or-append f.spelled.now f.rest.now 0 f.gap less)
                (there (omega (arith, less, all)) (subst (λ x. 128 ≤ x) (sym (get_or-append f.spelled.now f.rest.now 0 f.gap less)) high)),
          )

  module _ (r : SpelledSyllable) (lines_are : r.lines ≡ lines) (canonical : r.canonical.now ≡ drop f.gap f.spelled.now) (opening : r.opening ≡ f.opening - f.gap) where
    abbrev pub slices_spell : IsSpelling r
    slices_spell = record {
      parts = b.syllable;
      regular = subst (λ l. IsRegularSyllable l b.syllable) (sym lines_are) b.is_regular;
      canonical_is = canonical ∙ ap (drop f.gap) (sym (front_is f)) ∙ b.rest_is;
      opening_is = (let e = b.opening_is in omega (arith, e, opening));
      utf8 = subst IsUtf8 (sym canonical) (IsUtf8-drop f.spelled.now f.gap (utf8_is f lines b) cut);
    }

    module _ (spans : Spans) (begins : Bool) (position : r.position ≡ position_by (nat_lt 0 f.gap) begins) (spans_are : r.spans ≡ spans) (s : PlacedSyllable) (h : SpellsFound lines spans begins f b.syllable s) where
      pub syllable_spelled : Spells r s
      syllable_spelled = record {
        spelling = slices_spell;
        position = h.position ∙ sym position;
        eu = h.eu ∙ ap (λ (x : Spans). x.eu) (sym spans_are);
        nlba = h.nlba ∙ ap (λ (x : Spans). x.nlba) (sym spans_are);
        gap = sym h.gap ∙ sym (ap starts_word position ∙ begins_there (nat_lt 0 f.gap) begins);
        word_start = h.word_start;
        kept = h.kept;
        canonical = h.canonical ∙ ap₂ spelled_canonical (sym (ap starts_word position ∙ begins_there (nat_lt 0 f.gap) begins)) (sym canonical);
        text = h.text;
        snippets = h.snippets ∙ ap (λ l. with_lines l 0 b.syllable.nexts b.syllable.final) (sym lines_are);
        spans = h.spans_are ∙ ap (λ l. snippets_spelled l b.syllable) (sym lines_are);
      }
