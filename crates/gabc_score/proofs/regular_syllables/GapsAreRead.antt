-- Blanks and comments before a text, byte by byte.
use Rattle.std.proofs.Common.{◌≡◌, ℕ, ◌+◌, ◌<◌, List, [], ◌∷◌, ◌++◌, Bool, true, false, not, ◌&&◌, ◌==◌, nat_lt, if◌then◌else◌, length, take, drop, slice_index, refl, sym, ap, subst, ◌∙◌, arith, append_assoc}
use Rattle.std.specs.List.{All}
use Rattle.std.specs.Str.{IsAscii}
use Rattle.std.proofs.Math.Seq.{take-add}
use Rattle.std.proofs.lemmas.Bool.{ltb-true, true≢false, and_parts}
use Rattle.std.proofs.lemmas.List.{take_more}
use Rattle.std.proofs.lemmas.List.Elements.{All-append, All-cons, All-nil}
use Rattle.std.proofs.lemmas.Str.{IsAscii-append}
use Rattle.gabc_places.proofs.NumbersByTests.{below_eqb}
use Rattle.gabc_places.specs.TextOfAnInput.{IsPlain}
use Rattle.gabc_text.specs.Token.{is_blank}
use Rattle.gabc_text.specs.RegularText.{is_gap, is_gap_after}
use Rattle.gabc_score.specs.machine.RegularLen.{IsPlainGap, is_printable}
use Rattle.gabc_score.proofs.regular_syllables.BytesOfRegularSyllables.{ascii_one}

-- ---- two gaps, one after the other

cases : (x y : Bool) {P Q R S : Bool} → (if x then P else (y && Q)) ≡ true → (P ≡ true → R ≡ true) → (Q ≡ true → S ≡ true) → (if x then R else (y && S)) ≡ true
cases x y h f g = grind arith

gap_join : (within : Bool) (a b : List ℕ) → is_gap_after within a ≡ true → is_gap b ≡ true → is_gap_after within (a ++ b) ≡ true
gap_join true [] b h k = absurd (cc)
gap_join false [] b h k = k
gap_join true (c ∷ a) b h k = gap_join (not (10 == c)) a b h k
gap_join false (c ∷ a) b h k = cases (is_blank c) (37 == c) h (λ e. gap_join false a b e k) (λ e. gap_join true a b e k)

pub joined : (a b : List ℕ) → IsPlainGap a → IsPlainGap b → IsPlainGap (a ++ b)
joined a b g h = record {
  is = gap_join false a b g.is h.is;
  ascii = IsAscii-append a b g.ascii h.ascii;
  plain = All-append IsPlain a b g.plain h.plain;
}

pub more_joined : (bytes : List ℕ) (n more : ℕ) → IsPlainGap (take n bytes) → IsPlainGap (take more (drop n bytes)) → IsPlainGap (take (n + more) bytes)
more_joined bytes n more g h = subst IsPlainGap (sym (take-add n more bytes)) (joined (take n bytes) (take more (drop n bytes)) g h)

-- ---- one byte

low_plain : (c : ℕ) → c < 128 → (13 == c) ≡ false → IsPlain c
low_plain c less e = ((λ w. absurd (true≢false (sym (ap (λ (x : ℕ). 13 == x) w) ∙ e))), (λ w. omega arith))

-- ---- a comment

-- a comment that is open, of plain ASCII
pub record IsOpenComment (bytes : List ℕ) : Type 0 where
  pub goes_on : (t : List ℕ) → is_gap_after true t ≡ true → is_gap (bytes ++ t) ≡ true
  pub ascii : IsAscii bytes
  pub plain : All IsPlain bytes

printable_is : (c : ℕ) → is_printable c ≡ true → (31 < c) × (c < 127)
printable_is c h = let p = and_parts (nat_lt 31 c) (nat_lt c 127) h in (ltb-true 31 c p.0, ltb-true c 127 p.1)

pub more_opened : (bytes : List ℕ) (n : ℕ) → n < length bytes → is_printable (slice_index bytes n) ≡ true → IsOpenComment (take n bytes) → IsOpenComment (take (n + 1) bytes)
more_opened bytes n less h o = subst IsOpenComment (sym (take_more bytes n 0 less)) (with_one (slice_index bytes n) h)
  where
    with_one : (c : ℕ) → is_printable c ≡ true → IsOpenComment (take n bytes ++ c ∷ [])
    with_one c h =
        let p = printable_is c h in
        let no : (x : ℕ) → x < 31 → (x == c) ≡ false = λ x less. below_eqb x c (omega (arith, p.0, less)) in
        record {
          goes_on = λ t e. subst (λ (u : List ℕ). is_gap u ≡ true) (sym (append_assoc (take n bytes) (c ∷ []) t)) (o.goes_on (c ∷ t) (rw (no 10 (omega arith)) e));
          ascii = IsAscii-append (take n bytes) (c ∷ []) o.ascii (ascii_one c (omega (arith, p.1)));
          plain = All-append IsPlain (take n bytes) (c ∷ []) o.plain (All-cons IsPlain c [] (low_plain c (omega (arith, p.1)) (no 13 (omega arith))) (All-nil IsPlain));
        }

pub ended : (bytes : List ℕ) (n : ℕ) → n < length bytes → slice_index bytes n ≡ 10 → IsOpenComment (take n bytes) → IsPlainGap (take (n + 1) bytes)
ended bytes n less h o =
    subst IsPlainGap (sym (take_more bytes n 0 less ∙ ap (λ (x : ℕ). take n bytes ++ x ∷ []) h)) (record {
      is = o.goes_on (10 ∷ []) refl;
      ascii = IsAscii-append (take n bytes) (10 ∷ []) o.ascii (ascii_one 10 (omega arith));
      plain = All-append IsPlain (take n bytes) (10 ∷ []) o.plain (All-cons IsPlain 10 [] (low_plain 10 (omega arith) refl) (All-nil IsPlain));
    })
