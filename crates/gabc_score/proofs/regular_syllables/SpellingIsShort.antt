-- A regular syllable keeps no more bytes than it has, and its canonical text has no more.
use Rattle.std.proofs.Common.{◌≡◌, ℕ, ◌+◌, ◌<◌, ◌≤◌, Bool, true, cond, List, [], ◌∷◌, ◌++◌, length, ap, ◌∙◌, arith, append-nil, length-append}
use Rattle.std.proofs.lemmas.List.{append_cancel_left}
use Rattle.std.proofs.lemmas.Str.{length-encode}
use lib.Utf8.{encodes}
use Rattle.gabc_text.proofs.KeptCharacters.{codes_placed}
use Rattle.gabc_places.specs.declared.place.Place.{Place}
use Rattle.gabc_text.specs.Events.{codes_of}
use Rattle.gabc_text.specs.RegularText.{IsRegularText, is_gap}
use Rattle.gabc_text.specs.View.{kept}
use Rattle.gabc_body.specs.Canonical.{canonical}
use Rattle.gabc_score.specs.RegularSyllable.{SyllableParts, IsRegularSyllable, has_gap, gap_kept, canonical_spelled, notes_spelled, spelled, unit_at}
use Rattle.gabc_body.specs.Syllable.{UnplacedSyllable}
use Rattle.gabc_body.specs.SyllablesOfUnits.{characters_in, score_unit}
use Rattle.gabc_body.specs.WithinLimits.{KeepsWithin}
use Rattle.gabc_score.proofs.regular_syllables.RegularSyllableIsMade.{one_byte, text_kept}
use Rattle.gabc_score.proofs.regular_syllables.RegularSyllableIsRead.{unit_placed}
use Rattle.gabc_body.proofs.texts_of_body.SeamsOfCharacters.{size, size_append}
use Rattle.gabc_body.proofs.texts_of_body.TextEmitsThroughEnd.{codes_append}

-- ---- bytes

-- one byte in place of a gap
one_for_gap : (b : ℕ) (gap : List ℕ) → b < 128 → size (cond (has_gap gap) (b ∷ []) []) ≤ size gap
one_for_gap b gap h = grind (arith, one_byte, length-append, length-encode)

module _ (r : SyllableParts) where
  abbrev notes : List ℕ
  notes = 40 ∷ notes_spelled r.nexts r.final

  sizes : size (spelled r) ≡ (size r.gap + size r.text) + size notes
  sizes = size_append (r.gap ++ r.text) notes ∙ ap (λ (n : ℕ). n + size notes) (size_append r.gap r.text)

  -- its canonical text, in which an LF stands for blanks
  pub canonical_short : (m : UnplacedSyllable) → m.text.word_start ≡ has_gap r.gap → ((starts : Bool) → canonical starts m ≡ encodes (canonical_spelled starts r)) → length (canonical m.text.word_start m) ≤ size (spelled r)
  canonical_short m starts are = grind (arith, size_append, one_for_gap, sizes)

  -- ---- what is kept of its unit

  module _ (kept_alone : (t rest : List ℕ) → IsRegularText t → kept (t ++ 40 ∷ rest) ≡ t)
      (kept_after : (b : ℕ) (gap t rest : List ℕ) → is_gap (b ∷ gap) ≡ true → IsRegularText t → kept (b ∷ gap ++ (t ++ 40 ∷ rest)) ≡ 32 ∷ t)
      (lines : ℕ) (at : Place) (regular : IsRegularSyllable lines r) where
    abbrev codes : List ℕ
    codes = codes_of (characters_in (unit_at at r))

    codes_are : codes ≡ spelled r
    codes_are = ap codes_of (unit_placed at r) ∙ codes_placed at (spelled r)

    text_is : kept (score_unit (unit_at at r) []).text ≡ gap_kept r.gap ++ r.text
    text_is = ap kept (ap codes_of (append-nil (characters_in (unit_at at r))) ∙ codes_are) ∙ text_kept kept_alone kept_after r.gap r.text (notes_spelled r.nexts r.final) regular.blanks regular.text

    notes_are : (score_unit (unit_at at r) []).notes ≡ notes
    notes_are = grind (arith, append_cancel_left, codes_placed, codes_append, codes_are)

    pub keeps_within : (limit : ℕ) → size (spelled r) ≤ limit → KeepsWithin limit (score_unit (unit_at at r) [])
    keeps_within limit h = grind (arith, text_is, size_append, notes_are, one_for_gap, sizes)
