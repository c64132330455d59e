-- A character is this one or another, and by itself a token of one of five kinds; tests of tests.
use Rattle.std.proofs.Common.{◌≡◌, ℕ, ◌==◌, true, false, refl, sym, codes, List, ◌∷◌, ◌∙◌, Option, Some, None, drop, length, nat_lt, ◌<◌, ◌≤◌, arith}
use Rattle.std.proofs.lemmas.Bool.{true≢false, ltb-true, ltb-false, true_from_ne_false}
use Rattle.gabc_text.specs.declared.token.TokenKind.{TokenKind}
use Rattle.gabc_text.specs.declared.token.TokenKind.TheVariants as kind
use Rattle.gabc_text.specs.Token.{single, token_at, token_of_tag, tag_at, through, effect_of, is_special}
use Rattle.gabc_text.specs.declared.token.TagEffect.{TagEffect}
use Rattle.gabc_text.specs.View.{is_translation}

pub by_case : (x c : ℕ) (P : ℕ → Type 0) → P x → (c == x ≡ false → P c) → P c
by_case x c P here other = grind arith

-- what a character by itself is
pub single_kind : (P : TokenKind → Type 0) → P kind.Blank → P kind.Stray → P kind.Begin → P kind.End → P kind.Letter → (c : ℕ) → P (single c)
single_kind P a b d e l c = grind arith

-- what a token is that begins with `<`
pub tag_kind : (P : TokenKind → Type 0) → P kind.Tag → P kind.Raw → P kind.OpenTag → (t : List ℕ) (o : Option (List ℕ)) → P (tag_at t o).kind
tag_kind P tag raw cut t None = cut
tag_kind P tag raw cut t (Some name) = by (effect_of (60 ∷ name))
  where
    by : (s : TagEffect) → P (token_of_tag name (drop (length name) t) s).kind
    by s = grind arith

-- a translation begins with `[`
pub translation_first : (c : ℕ) (t : List ℕ) → is_translation (token_at c t).kind ≡ true → c ≡ 91
translation_first c t =
    by_case 36 c AtBracket (λ h. absurd (true≢false (sym h ∙ dollar t))) (λ e36.
    by_case 37 c AtBracket (λ h. absurd (cc)) (λ e37.
    by_case 60 c AtBracket (λ h. absurd (true≢false (sym h ∙ tag_kind (λ k. is_translation k ≡ false) refl refl refl t (through (codes ">") t)))) (λ e60.
    by_case 91 c AtBracket (λ h. refl) (λ e91.
    λ h. absurd (true≢false (sym (rw (e36, e37, e60, e91) at h) ∙ single_kind (λ k. is_translation k ≡ false) refl refl refl refl refl c))))))
  where
    AtBracket : ℕ → Type 0
    AtBracket x = is_translation (token_at x t).kind ≡ true → x ≡ 91

    dollar : (t : List ℕ) → is_translation (token_at 36 t).kind ≡ false
    dollar t = grind arith

-- special characters are of ASCII
pub no_special : (c : ℕ) → 128 ≤ c → is_special c ≡ false
no_special c h = grind arith

pub special_is_low : (c : ℕ) → is_special c ≡ true → c < 128
special_is_low c h = ltb-true c 128 (true_from_ne_false (nat_lt c 128) (λ e. true≢false (sym h ∙ no_special c (ltb-false c 128 e))))
