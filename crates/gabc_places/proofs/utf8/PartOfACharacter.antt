-- A part of a character with one byte more: it is a character, a longer part, or begins none.
use Rattle.std.proofs.Common.{◌≡◌, ℕ, ◌-◌, ◌+◌, ◌<◌, ◌≤◌, true, List, [], ◌∷◌, ◌++◌, length, take, drop, None, refl, ap, sym, ◌∙◌, subst, arith, append_assoc, append-nil, length-append, IsUtf8, length-take, inl, inr}
use Rattle.std.proofs.lemmas.Bool.{and_parts, cases_lt}
use Rattle.std.proofs.lemmas.List.{take_all, take-append-drop, length-take-le}
use Rattle.std.proofs.lemmas.Str.{IsUtf8-nil, IsUtf8-encode, utf8_valid_len-IsUtf8, utf8_valid_len_le, length-encode, len_utf8_bounds, chars_from_encodes, chars_past_char}
use Rattle.std.proofs.Math.Seq.{take-append_seam, take-take}
use Rattle.std.specs.Char.{IsScalar}
use Rattle.std.specs.Str.{chars}
use Rattle.std.specs.Str.Lossy.{utf8_valid_len, utf8_error_len}
use lib.Utf8.{encode, encodes, scalars}
use Rattle.gabc_places.specs.Text.{tail_by, utf8_prefix_of, tail_of}
use Rattle.gabc_places.specs.DecoderMachine.{IsPartial, IsWrong}
use Rattle.gabc_places.specs.declared.decoded.Tail.{Tail}
use Rattle.gabc_places.specs.declared.decoded.Tail.TheVariants.{Wrong}
use Rattle.gabc_places.proofs.texts.CharactersOfStrings.{chars-encode}
use Rattle.gabc_places.proofs.utf8.CharacterByCharacter.{valid_len-max, valid_len-front, part_of_char, tail_of-none}

error_len-nil : utf8_error_len [] ≡ None
unfolding utf8_error_len
error_len-nil = refl

pub nothing_is_partial : IsPartial []
nothing_is_partial = record { none = utf8_valid_len-IsUtf8 [] IsUtf8-nil; more = error_len-nil }

-- the characters of the longest prefix spell it
prefix_spells : (bs : List ℕ) → (scalars (utf8_prefix_of bs) ≡ true) × (encodes (utf8_prefix_of bs) ≡ take (utf8_valid_len bs) bs)
unfolding utf8_prefix_of
prefix_spells bs = by (valid_len-front bs)
  where
    by : (u : IsUtf8 (take (utf8_valid_len bs) bs)) → (scalars (chars (take (utf8_valid_len bs) bs)) ≡ true) × (encodes (chars (take (utf8_valid_len bs) bs)) ≡ take (utf8_valid_len bs) bs)
    by u =
        let same : u.0 ≡ chars (take (utf8_valid_len bs) bs) = chars_from_encodes u.0 _ u u.1.1 in
        (ap scalars (sym same) ∙ u.1.0, ap encodes (sym same) ∙ u.1.1)

no_character : (bs : List ℕ) → utf8_prefix_of bs ≡ [] → utf8_valid_len bs ≡ 0
no_character bs e =
    let h : [] ≡ take (utf8_valid_len bs) bs = ap encodes (sym e) ∙ (prefix_spells bs).1 in
    omega (arith, ap length h, length-take-le (utf8_valid_len bs) bs (utf8_valid_len_le bs))

error_of : (b : ℕ) (bs : List ℕ) → utf8_valid_len (b ∷ bs) ≡ 0 → tail_of (b ∷ bs) ≡ tail_by (utf8_error_len (b ∷ bs))
error_of b bs none = tail_of-none (b ∷ bs) none

-- no character, and the bytes are not wrong: they are a part of one
pub part_is : (bs : List ℕ) (t : Tail) → utf8_prefix_of bs ≡ [] → tail_of bs ≡ t → (t ≡ Wrong → ⊥) → IsPartial bs
part_is [] t e h not_wrong = nothing_is_partial
part_is (b ∷ bs) t e h not_wrong = grind (arith, no_character, error_of)

-- no character, and the bytes are wrong
pub wrong_is : (bs : List ℕ) → utf8_prefix_of bs ≡ [] → tail_of bs ≡ Wrong → IsWrong bs
wrong_is [] e h = grind (arith, tail_of-none, nothing_is_partial)
wrong_is (b ∷ bs) e h = grind (arith, no_character, error_of)

-- where no character ends before the last byte
module _ (bs : List ℕ) (before : utf8_valid_len (take (length bs - 1) bs) ≡ 0) where
  nothing_shorter : (m : ℕ) → m < length bs → IsUtf8 (take m bs) → m ≡ 0
  nothing_shorter m less u = grind (arith, take-take, valid_len-max, length-take)

  is_all : (c : ℕ) (rest : List ℕ) → IsScalar c → bs ≡ encode c ++ rest → bs ≡ encode c
  is_all c [] s e = e ∙ append-nil (encode c)
  is_all c (x ∷ xs) s e =
      let same : take (length (encode c)) bs ≡ encode c = ap (take (length (encode c))) e ∙ take-append_seam (encode c) (x ∷ xs) in
      let less : length (encode c) < length bs = omega (arith, ap length e, length-append (encode c) (x ∷ xs)) in
      let none : length (encode c) ≡ 0 = nothing_shorter (length (encode c)) less (subst IsUtf8 (sym same) (IsUtf8-encode c s)) in
      absurd (omega (arith, length-encode c, (len_utf8_bounds c).0))

  -- a character: all of the bytes
  pub character_is : (c : ℕ) (cs : List ℕ) → utf8_prefix_of bs ≡ c ∷ cs → (bs ≡ encode c) × IsScalar c
  character_is c cs e =
      let spelled = prefix_spells bs in
      let s : IsScalar c = (and_parts _ _ (ap scalars (sym e) ∙ spelled.0)).0 in
      let bytes : encode c ++ encodes cs ≡ take (utf8_valid_len bs) bs = ap encodes (sym e) ∙ spelled.1 in
      let some : 0 < utf8_valid_len bs =
      omega (arith, ap length bytes, length-take-le (utf8_valid_len bs) bs (utf8_valid_len_le bs), length-append (encode c) (encodes cs), length-encode c, (len_utf8_bounds c).0) in
      elim (cases_lt (utf8_valid_len bs) (length bs)) [
        | inl less ↦ absurd (omega (arith, nothing_shorter (utf8_valid_len bs) less (valid_len-front bs)))
        | inr all ↦ (is_all c (encodes cs) s (sym (take_all (utf8_valid_len bs) bs all) ∙ sym bytes), s)
      ]

-- ---- the front of a character

-- no character ends before it does
no_shorter : (c n : ℕ) (front rest cs : List ℕ) → IsScalar c → front ++ rest ≡ encode c → 0 < length rest → 0 < n → n ≤ length front → scalars cs ≡ true → encodes cs ≡ take n front → ⊥
no_shorter c n front rest [] s e more some le ok spelled = absurd (omega (arith, ap length spelled, length-take-le n front le, some))
no_shorter c n front rest (d ∷ cs) s e more some le ok spelled =
    let later = encodes cs ++ (drop n front ++ rest) in
    let whole : encode c ≡ encode d ++ later =
    sym e ∙ ap (λ (l : List ℕ). l ++ rest) (sym (take-append-drop n front)) ∙ append_assoc (take n front) (drop n front) rest
    ∙ ap (λ (l : List ℕ). l ++ (drop n front ++ rest)) (sym spelled) ∙ append_assoc (encode d) (encodes cs) (drop n front ++ rest) in
    let same : c ∷ [] ≡ d ∷ chars later = sym (chars-encode c s) ∙ chars_past_char (encode c) later d (IsUtf8-encode c s) whole in
    let equal : c ≡ d = cc in
    let short : length (encode d) ≤ length front = omega (arith, ap length spelled, length-append (encode d) (encodes cs), length-take-le n front le, le) in
    let long : length (encode d) ≡ length front + length rest = ap (λ (x : ℕ). length (encode x)) (sym equal) ∙ (ap length (sym e) ∙ length-append front rest) in
    absurd (omega (arith, short, long, more))

-- a front of a character is a part of it
pub front_is_partial : (c : ℕ) (front rest : List ℕ) → IsScalar c → 0 < length front → 0 < length rest → front ++ rest ≡ encode c → IsPartial front
front_is_partial c front rest s some more e = record {
  none = elim (cases_lt 0 (utf8_valid_len front)) [
    | inl longer ↦ absurd (let u = valid_len-front front in no_shorter c (utf8_valid_len front) front rest u.0 s e more longer (utf8_valid_len_le front) u.1.0 u.1.1)
    | inr none ↦ omega (arith, none)
  ];
  more = ap utf8_error_len (sym (take-append_seam front rest) ∙ ap (take (length front)) e)
      ∙ part_of_char c (length front) s some (omega (arith, more, ap length e, length-append front rest));
}
