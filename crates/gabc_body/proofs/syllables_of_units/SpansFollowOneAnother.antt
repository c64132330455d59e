-- Which spans are open after a syllable follows from those that are open after the one before it.
use Rattle.std.proofs.Common.{◌≡◌, ℕ, zero, suc, ◌+◌, ◌<◌, Bool, false, List, [], ◌∷◌, ◌++◌, length, length-append, append_assoc, refl, sym, ap, ◌∙◌, arith, codes}
use Rattle.std.specs.Prelude.{IsTrue, ◌↔◌}
use Rattle.std.proofs.lemmas.List.{nil_from_length}
use lib.Utf8.{encodes}
use Rattle.gabc_body.specs.SpansPast.{open_past, eu_past, nlba_past}
use Rattle.gabc_body.specs.Syllable.{UnplacedSyllable, PlacedSyllable}
use Rattle.gabc_text.specs.ViewFacts.{span_tags}
use Rattle.gabc_body.specs.SyllablesOfUnits.{ScoreUnit, HoldsUnit, IsLeftOpen, AreSyllablesOf, tags_in}
use Rattle.gabc_body.proofs.syllables_of_units.LastTagOpensTheSpan.{after_tags, after_append, last_tag_opens}
use Rattle.gabc_body.proofs.syllables_of_units.SyllablesAreThoseOfUnits.{tags_by_bytes, tags_push}
use Rattle.gabc_body.proofs.syllables_of_units.UnitGivesOneSyllable.{unit_past}

same_bool : (P : Type 0) (a b : Bool) → IsTrue a ↔ P → IsTrue b ↔ P → a ≡ b
same_bool P a b h k = grind arith

module _ (opening closing : List ℕ) (same : encodes opening ≡ opening) (other : encodes closing ≡ closing) (lines : ℕ) where
  -- a span is open by the last tag, or by the tags one after the other
  by_tags : (tags : List (List ℕ)) (b : Bool) → IsTrue b ↔ IsLeftOpen opening closing tags → b ≡ after_tags opening closing false tags
  by_tags tags b h = same_bool (IsLeftOpen opening closing tags) b (after_tags opening closing false tags) h (last_tag_opens opening closing same other tags (after_tags opening closing false tags) refl)

  -- a unit after others, after which the span is open so
  pub one_past : (us : List ScoreUnit) (v : ScoreUnit) (m : UnplacedSyllable) (was now : Bool) → HoldsUnit lines v m → was ≡ after_tags opening closing false (tags_in us)
      → IsTrue now ↔ IsLeftOpen opening closing (tags_in (us ++ v ∷ [])) → now ≡ open_past opening closing m.kept m.text.pieces was
  one_past us v m was now holds h k =
      by_tags (tags_in (us ++ v ∷ [])) now k
      ∙ rw (tags_push lines us v, after_append opening closing false (tags_in us) (span_tags v.text), ← h) (sym (unit_past opening closing lines v m was holds))

  pub next_past : (us : List ScoreUnit) (u v : ScoreUnit) (m : UnplacedSyllable) (was now : Bool) → HoldsUnit lines v m → IsTrue was ↔ IsLeftOpen opening closing (tags_in (us ++ u ∷ []))
      → IsTrue now ↔ IsLeftOpen opening closing (tags_in ((us ++ u ∷ []) ++ v ∷ [])) → now ≡ open_past opening closing m.kept m.text.pieces was
  next_past us u v m was now holds h k = one_past (us ++ u ∷ []) v m was now holds (by_tags (tags_in (us ++ u ∷ [])) was h) k

-- ---- syllables of units

-- n units, and the one after them
record Split (n : ℕ) (units : List ScoreUnit) : Type 0 where
  before : List ScoreUnit
  one : ScoreUnit
  after : List ScoreUnit
  parts : units ≡ before ++ one ∷ after
  count : length before ≡ n

split : (n : ℕ) (units : List ScoreUnit) → n < length units → Split n units
split n [] h = absurd (omega (arith, h))
split zero (u ∷ us) h = record { before = []; one = u; after = us; parts = refl; count = refl }
split (suc n) (u ∷ us) h =
    let r = split n us (omega (arith, h)) in
    record { before = u ∷ r.before; one = r.one; after = r.after; parts = ap (λ vs. u ∷ vs) r.parts; count = ap suc r.count }

module _ (lines : ℕ) (units : List ScoreUnit) (syllables : List PlacedSyllable) (are : AreSyllablesOf lines units syllables) where
  abbrev Follows : UnplacedSyllable → Bool → Bool → Type 0
  Follows m eu nlba = (m.eu ≡ eu_past m eu) × (m.nlba ≡ nlba_past m nlba)

  pub first_follows : (s : PlacedSyllable) (after : List PlacedSyllable) → syllables ≡ s ∷ after → Follows s.made false false
  first_follows s after e =
      let size : length syllables ≡ suc (length after) = ap (length {A = PlacedSyllable}) e in
      let count : length syllables ≡ length units = are.count in
      let p = split 0 units (omega (arith, size, count)) in
      let k = are.each p.before p.after p.one [] after s p.parts e (sym p.count) in
      let none : p.before ≡ [] = nil_from_length p.before p.count in (
        one_past (codes "<eu>") (codes "</eu>") tags_by_bytes.0 tags_by_bytes.1 lines p.before p.one s.made false s.made.eu k.holds (ap (λ us. after_tags (codes "<eu>") (codes "</eu>") false (tags_in us)) (sym none)) k.eu_is,
        one_past (codes "<nlba>") (codes "</nlba>") tags_by_bytes.2 tags_by_bytes.3 lines p.before p.one s.made false s.made.nlba k.holds (ap (λ us. after_tags (codes "<nlba>") (codes "</nlba>") false (tags_in us)) (sym none)) k.nlba_is,
      )

  pub next_follows : (before after : List PlacedSyllable) (s next : PlacedSyllable) → syllables ≡ before ++ s ∷ next ∷ after → Follows next.made s.made.eu s.made.nlba
  next_follows before after s next e =
      let size : length syllables ≡ length before + suc (suc (length after)) = ap (length {A = PlacedSyllable}) e ∙ length-append before (s ∷ next ∷ after) in
      let count : length syllables ≡ length units = are.count in
      let p = split (length before) units (omega (arith, size, count)) in
      let parts : length units ≡ length p.before + suc (length p.after) = ap (length {A = ScoreUnit}) p.parts ∙ length-append p.before (p.one ∷ p.after) in
      by p.before p.after p.one p.parts p.count (omega (arith, size, count, parts, p.count))
    where
      by : (us vs : List ScoreUnit) (u : ScoreUnit) → units ≡ us ++ u ∷ vs → length us ≡ length before → length vs ≡ suc (length after) → Follows next.made s.made.eu s.made.nlba
      by us [] u f n h = absurd (omega (arith, h))
      by us (v ∷ vs) u f n h =
          let k = are.each us (v ∷ vs) u before (next ∷ after) s f e (sym n) in
          let longer : length (before ++ s ∷ []) ≡ length (us ++ u ∷ []) = length-append before (s ∷ []) ∙ ap (λ (i : ℕ). i + 1) (sym n) ∙ sym (length-append us (u ∷ [])) in
          let l = are.each (us ++ u ∷ []) vs v (before ++ s ∷ []) after next (f ∙ sym (append_assoc us (u ∷ []) (v ∷ vs))) (e ∙ sym (append_assoc before (s ∷ []) (next ∷ after))) longer in (
            next_past (codes "<eu>") (codes "</eu>") tags_by_bytes.0 tags_by_bytes.1 lines us u v next.made s.made.eu next.made.eu l.holds k.eu_is l.eu_is,
            next_past (codes "<nlba>") (codes "</nlba>") tags_by_bytes.2 tags_by_bytes.3 lines us u v next.made s.made.nlba next.made.nlba l.holds k.nlba_is l.nlba_is,
          )
