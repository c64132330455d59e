-- The pending syllable of a stage over a score is read again from its own text, and its text is one
-- syllable.
use Rattle.std.proofs.Common.{◌≡◌, ℕ, ◌+◌, ◌<◌, ◌≤◌, ◌^◌, ◌||◌, Bool, true, false, List, [], length, Option, Some, None, IfSome, encode_utf8_all, ◌∷◌, subst, refl, arith}
use Rattle.std.specs.Prelude.{◌↔◌}
use Rattle.std.specs.Char.{IsScalar}
use Rattle.std.specs.Str.{IsUtf8}
use Rattle.std.proofs.lemmas.List.Elements.{All-nil, All-cons, All-head, All-tail}
use Rattle.std.proofs.lemmas.Str.{length-le-encodes}
use Rattle.std.specs.List.{All}
use Rattle.gabc_places.specs.declared.limits.Limits.{Limits}
use Rattle.gabc_body.specs.Canonical.{canonical}
use Rattle.gabc_score.specs.ScoreStage.{IsWithinAnywhere}
use Rattle.gabc_body.specs.ScoreEvents.{first_place}
use Rattle.gabc_body.specs.Syllable.{PlacedSyllable, UnplacedSyllable}
use Rattle.gabc_body.specs.UnitRead.{HoldsSomeUnit}
use Rattle.gabc_body.specs.declared.syllable.Position.TheVariants.{One, Middle}
use Rattle.gabc_write.specs.SyllableRead.{as_it_stands, IsReadByItself, IsReadFromItsText, IsReadWhereItStands, IsWrittenAsOne}
use Rattle.gabc_text.specs.Events.{CountsFit}
use Rattle.gabc_body.specs.OneSyllable.{IsOneAlone}
use Rattle.gabc_body.specs.ReadAlone.{IsReadAsOne}
use Rattle.gabc_body.proofs.texts_of_body.BodyFits.{bytes_encodes}
use Rattle.gabc_body.proofs.units.CanonicalTextIsText.{scalars_of}
use Rattle.gabc_score.proofs.texts_of_body.BodyAfterHeads.{are_scalars}

-- the canonical text of a syllable within the limits has few bytes
short_anywhere : (limits : Limits) (m : UnplacedSyllable) → IsWithinAnywhere limits m → (starts : Bool) → length (canonical starts m) < 2 ^ 63
short_anywhere limits m w true = let few : length (canonical true m) ≤ limits.syllable + 1 = (w One).canonical in let most = limits.in_range.syllable_most in omega (arith, few, most)
short_anywhere limits m w false = let few : length (canonical false m) ≤ limits.syllable + 1 = (w Middle).canonical in let most = limits.in_range.syllable_most in omega (arith, few, most)

pub held_is_read : (lines macros : ℕ) (limits : Limits) (o : Option UnplacedSyllable)
    → ((first : Bool) (m : UnplacedSyllable) → HoldsSomeUnit lines m → length (canonical (first || m.text.word_start) m) < 2 ^ 63 → IsReadFromItsText lines macros (as_it_stands first m))
    → IfSome o (HoldsSomeUnit lines) → IfSome o (IsWithinAnywhere limits) → IfSome o (IsReadWhereItStands lines macros)
held_is_read lines macros limits None law h w = tt
held_is_read lines macros limits (Some m) law h w = λ first. law first m h (short_anywhere limits m w (first || m.text.word_start))

-- the counts of a text that begins at the first place
pub fits_first : (t : List ℕ) → length (encode_utf8_all t) < 2 ^ 63 → CountsFit first_place t
fits_first t few =
    let less = length-le-encodes t in
    record { line = omega (arith, few, less); column = omega (arith, few, less); bytes = let e = bytes_encodes t in omega (arith, few, e) }

-- A text is one syllable exactly if the reading makes one of it, by a law on texts.
abbrev pub MakesOne : Type 0
MakesOne = (lines macros : ℕ) (t : List ℕ) → All IsScalar t → CountsFit first_place t → IsOneAlone lines macros first_place t ↔ IsReadAsOne lines macros t

module _ (makes_one : MakesOne) (lines macros : ℕ) where
  as_one : (m : UnplacedSyllable) → IsReadWhereItStands lines macros m → ((starts : Bool) → IsUtf8 (canonical starts m)) → ((starts : Bool) → length (canonical starts m) < 2 ^ 63) → IsWrittenAsOne lines macros m
  as_one m own utf8 short first =
      let o = own first in
      let starts = first || m.text.word_start in
      let read : IsReadByItself lines macros (as_it_stands first m) o.text first_place [] = o.read first_place [] refl in
      let is : All IsScalar o.text = are_scalars o.text (scalars_of o.text (subst IsUtf8 o.bytes (utf8 starts))) in
      let few : length (encode_utf8_all o.text) < 2 ^ 63 = subst (λ (bytes : List ℕ). length bytes < 2 ^ 63) o.bytes (short starts) in
      (o.text, (o.bytes, (makes_one lines macros o.text is (fits_first o.text few)).0 (record { syllable = read.again; none_earlier = read.none_earlier; one = read.one })))

  some_as_one : (limits : Limits) (held : Option UnplacedSyllable) → IfSome held (IsReadWhereItStands lines macros) → IfSome held (λ m. (starts : Bool) → IsUtf8 (canonical starts m)) → IfSome held (IsWithinAnywhere limits)
      → IfSome held (IsWrittenAsOne lines macros)
  some_as_one limits None own utf8 within = tt
  some_as_one limits (Some m) own utf8 within = as_one m own utf8 (short_anywhere limits m within)

  pub written_as_one : (limits : Limits) (held : Option UnplacedSyllable) (given : List PlacedSyllable) → IfSome held (IsReadWhereItStands lines macros) → IfSome held (λ m. (starts : Bool) → IsUtf8 (canonical starts m))
      → IfSome held (IsWithinAnywhere limits) → All (λ (p : PlacedSyllable). held ≡ Some p.made) given
      → All (λ (p : PlacedSyllable). IsWrittenAsOne lines macros p.made) given
  written_as_one limits held given own utf8 within are = each given are
    where
      each : (ps : List PlacedSyllable) → All (λ (p : PlacedSyllable). held ≡ Some p.made) ps → All (λ (p : PlacedSyllable). IsWrittenAsOne lines macros p.made) ps
      each [] is = All-nil (λ (p : PlacedSyllable). IsWrittenAsOne lines macros p.made)
      each (p ∷ ps) is =
          All-cons (λ (q : PlacedSyllable). IsWrittenAsOne lines macros q.made) p ps
          (subst (λ (o : Option UnplacedSyllable). IfSome o (IsWrittenAsOne lines macros)) (All-head (λ (q : PlacedSyllable). held ≡ Some q.made) p ps is) (some_as_one limits held own utf8 within))
          (each ps (All-tail (λ (q : PlacedSyllable). held ≡ Some q.made) p ps is))

-- the canonical text of the held syllable is in UTF-8, if its kept text is
pub canonical_in_utf8 : (lines : ℕ) (held : Option UnplacedSyllable) → ((m : UnplacedSyllable) → HoldsSomeUnit lines m → IsUtf8 m.kept → (starts : Bool) → IsUtf8 (canonical starts m))
    → IfSome held (HoldsSomeUnit lines) → IfSome held (λ m. IsUtf8 m.kept) → IfSome held (λ m. (starts : Bool) → IsUtf8 (canonical starts m))
canonical_in_utf8 lines None law unit utf8 = tt
canonical_in_utf8 lines (Some m) law unit utf8 = law m unit utf8
