-- Tokens that are read again, whatever follows.
use Rattle.std.proofs.Common.{◌≡◌, ℕ, ◌≤◌, ◌==◌, List, [], ◌∷◌, ◌++◌, Bool, true, false, ◌&&◌, cond, refl, sym, ap, ◌∙◌, append_assoc, append-nil, length, Option, Some, None, option_map, arith, codes}
use Rattle.std.proofs.Common.{eq-eqb}
use Rattle.std.proofs.lemmas.Bool.{eqb-true, and_parts}
use Rattle.std.proofs.Math.Seq.{drop-append_seam}
use Rattle.gabc_text.proofs.tokens.CasesOfCharacters.{by_case, single_kind}
use Rattle.gabc_text.specs.declared.token.TokenKind.{TokenKind}
use Rattle.gabc_text.specs.declared.token.TokenKind.TheVariants as kind
use Rattle.gabc_text.specs.declared.token.TagEffect.{TagEffect}
use Rattle.gabc_text.specs.declared.token.TagEffect.TheVariants.{Opens, Closes, Mark, Begins, Other}
use Rattle.gabc_text.specs.declared.token.RawKind.{RawKind}
use Rattle.gabc_text.specs.declared.token.RawKind.TheVariants.{V, Sp, Alt}
use Rattle.gabc_text.specs.declared.styles.Style.{Style}
use Rattle.gabc_text.specs.Token.{Token, tokens, token_at, through, begins_with, ended_token, tag_at, token_of_tag, single, is_special, is_blank, effect_of, ending_of}
use Rattle.gabc_text.specs.machine.PrintedPieces.{Stable}
use Rattle.gabc_text.specs.Printed.{text_of_tokens, opening_tag, closing_tag, letter}
use Rattle.gabc_text.proofs.tokens.TokensByCharacter.{tokens_first}
use Rattle.gabc_text.proofs.tokens.RawEndingIsMatched.{begins_itself}
use Rattle.gabc_text.proofs.machine.TokenStateByCharacter.{turned}

abbrev pub AllStable : List Token → Type 0
AllStable [] = Unit {0}
AllStable (k ∷ ks) = Stable k × AllStable ks

pub written_stable : (ks : List Token) (u : List ℕ) → AllStable ks → tokens (text_of_tokens ks ++ u) ≡ ks ++ tokens u
written_stable [] u h = refl
written_stable (k ∷ ks) u h = grind (arith, append_assoc, written_stable ks u h.1)

-- ---- the tags of styles

pub opening_stable : (s : Style) → Stable (opening_tag s)
opening_stable s u = grind arith

pub closing_stable : (s : Style) → Stable (closing_tag s)
closing_stable s u = grind arith

-- ---- what was found is found again

begins_prefix : (e a u v : List ℕ) → length e ≤ length a → begins_with e (a ++ u) ≡ begins_with e (a ++ v)
begins_prefix [] a u v h = refl
begins_prefix (d ∷ e) [] u v h = absurd (omega arith)
begins_prefix (d ∷ e) (c ∷ a) u v h = ap (λ b. d == c && b) (begins_prefix e a u v (omega arith))

pub record Found (e t y : List ℕ) : Type 0 where
  pub rest : List ℕ
  pub parts : t ≡ y ++ rest
  pub long : length e ≤ length y
  pub again : (u : List ℕ) → through e (y ++ u) ≡ Some y

begins_parts : (e t : List ℕ) → begins_with e t ≡ true → (rest : List ℕ) × (t ≡ e ++ rest)
begins_parts [] t h = (t, refl)
begins_parts (d ∷ e) [] h = absurd (cc)
begins_parts (d ∷ e) (c ∷ t) h =
    let both = and_parts (d == c) (begins_with e t) h in
    let r = begins_parts e t both.1 in
    let same : d ≡ c = eqb-true d c both.0 in
    let left : t ≡ e ++ r.0 = r.1 in
    (r.0, (let f : c ∷ t ≡ d ∷ (e ++ r.0) = cc in f))

found_here : (x : ℕ) (e t : List ℕ) → begins_with (x ∷ e) t ≡ true → Found (x ∷ e) t (x ∷ e)
found_here x e t h = grind (arith, begins_parts, eq-eqb, begins_itself)

found_later : (x : ℕ) (e : List ℕ) (c : ℕ) (t y : List ℕ) → begins_with (x ∷ e) (c ∷ t) ≡ false → Found (x ∷ e) t y → Found (x ∷ e) (c ∷ t) (c ∷ y)
found_later x e c t y h f = grind (arith, begins_prefix)

pub found : (x : ℕ) (e t y : List ℕ) → through (x ∷ e) t ≡ Some y → Found (x ∷ e) t y
found x e [] y h = absurd (cc)
found x e (c ∷ t) y h = by (begins_with (x ∷ e) (c ∷ t)) (through (x ∷ e) t) refl refl h (λ z g. found x e t z g)
  where
    by : (b : Bool) (o : Option (List ℕ)) → begins_with (x ∷ e) (c ∷ t) ≡ b → through (x ∷ e) t ≡ o → cond b (Some (x ∷ e)) (option_map (λ s. c ∷ s) o) ≡ Some y
        → ((z : List ℕ) → through (x ∷ e) t ≡ Some z → Found (x ∷ e) t z) → Found (x ∷ e) (c ∷ t) y
    by b o f g h more = grind (arith, found_here, found_later)

-- ---- raw parts, tags and translations

abbrev pub is_bracketed : TokenKind → Bool
is_bracketed kind.Raw = true
is_bracketed kind.Tag = true
is_bracketed kind.Translation = true
is_bracketed _ = false

-- a token that is read again, if it is a raw part, a tag or a translation
abbrev pub IsReadAgain : Token → Type 0
IsReadAgain k = is_bracketed k.kind ≡ true → Stable k

pub again_by : (k : Token) → k.first == 40 ≡ false → ((u : List ℕ) → token_at k.first (k.more ++ u) ≡ k) → Stable k
again_by k ne f u = tokens_first k.first (k.more ++ u) u k ne (f u) refl

one_found : (x : ℕ) (t y : List ℕ) → through (x ∷ []) t ≡ Some y → (u : List ℕ) → through (x ∷ []) (y ++ u) ≡ Some y
one_found x t y e = (found x [] t y e).again

raw_found : (raw : RawKind) (t y : List ℕ) → through (ending_of raw) t ≡ Some y → (u : List ℕ) → through (ending_of raw) (y ++ u) ≡ Some y
raw_found V t y e = (found 60 (codes "/v>") t y e).again
raw_found Sp t y e = (found 60 (codes "/sp>") t y e).again
raw_found Alt t y e = (found 60 (codes "/alt>") t y e).again

-- the tag read again
tag_again : (t name y u : List ℕ) → through (62 ∷ []) t ≡ Some name → token_at 60 ((name ++ y) ++ u) ≡ token_of_tag name (y ++ u) (effect_of (60 ∷ name))
tag_again t name y u e =
    ap (token_at 60) (append_assoc name y u) ∙ ap (tag_at (name ++ (y ++ u))) (one_found 62 t name e (y ++ u))
    ∙ ap (λ (x : List ℕ). token_of_tag name x (effect_of (60 ∷ name))) (drop-append_seam name (y ++ u))

tag_only : (t name : List ℕ) (s : TagEffect) → through (62 ∷ []) t ≡ Some name → effect_of (60 ∷ name) ≡ s
    → ((u : List ℕ) → token_of_tag name u s ≡ record { kind = kind.Tag; first = 60; more = name }) → Stable (record { kind = kind.Tag; first = 60; more = name })
tag_only t name s e g k = again_by (record { kind = kind.Tag; first = 60; more = name }) refl
    (λ u. ap (λ (x : List ℕ). token_at 60 (x ++ u)) (sym (append-nil name)) ∙ tag_again t name [] u e ∙ ap (token_of_tag name u) g ∙ k u)

tag_case : (t name v : List ℕ) (so : TagEffect) → through (62 ∷ []) t ≡ Some name → effect_of (60 ∷ name) ≡ so → IsReadAgain (token_of_tag name v so)
tag_case t name v (Begins raw) e f h = by (through (ending_of raw) v) refl h
  where
    by : (o : Option (List ℕ)) → through (ending_of raw) v ≡ o → IsReadAgain (ended_token kind.Raw kind.OpenTag 60 name v o)
    by None g h = absurd (cc)
    by (Some y) g h = again_by (record { kind = kind.Raw; first = 60; more = name ++ y }) refl
        (λ u. tag_again t name y u e ∙ ap (token_of_tag name (y ++ u)) f ∙ ap (ended_token kind.Raw kind.OpenTag 60 name (y ++ u)) (raw_found raw v y g u))
tag_case t name v (Opens r) e f h = tag_only t name (Opens r) e f (λ u. refl)
tag_case t name v (Closes r) e f h = tag_only t name (Closes r) e f (λ u. refl)
tag_case t name v Mark e f h = tag_only t name Mark e f (λ u. refl)
tag_case t name v Other e f h = tag_only t name Other e f (λ u. refl)

at_tag : (t : List ℕ) → IsReadAgain (token_at 60 t)
at_tag t = grind (arith, tag_case)

at_bracket : (t : List ℕ) → IsReadAgain (token_at 91 t)
at_bracket t = grind (arith, again_by, one_found)

at_dollar : (t : List ℕ) → IsReadAgain (token_at 36 t)
at_dollar t h = grind arith

single_plain : (c : ℕ) → is_bracketed (single c) ≡ false
single_plain c = single_kind (λ k. is_bracketed k ≡ false) refl refl refl refl refl c

pub token_again : (c : ℕ) (t : List ℕ) → IsReadAgain (token_at c t)
token_again c t = grind (arith, by_case, at_dollar, at_tag, at_bracket, single_plain)

-- ---- a letter, as it is printed

abbrev Bare : ℕ → Type 0
Bare c = is_special c ≡ false → is_blank c ≡ false → Stable (record { kind = kind.Letter; first = c; more = [] })

bare_stable : (c : ℕ) → Bare c
bare_stable c =
    by_case 40 c Bare (λ s b. absurd (cc)) (λ e40.
    by_case 41 c Bare (λ s b. absurd (cc)) (λ e41.
    by_case 91 c Bare (λ s b. absurd (cc)) (λ e91.
    by_case 93 c Bare (λ s b. absurd (cc)) (λ e93.
    by_case 123 c Bare (λ s b. absurd (cc)) (λ e123.
    by_case 125 c Bare (λ s b. absurd (cc)) (λ e125.
    by_case 60 c Bare (λ s b. absurd (cc)) (λ e60.
    by_case 62 c Bare (λ s b. absurd (cc)) (λ e62.
    by_case 37 c Bare (λ s b. absurd (cc)) (λ e37.
    by_case 36 c Bare (λ s b. absurd (cc)) (λ e36.
    λ s b. again_by (record { kind = kind.Letter; first = c; more = [] }) e40
    (λ u. rw (e36, e37, e60, e91, b, turned 41 c e41, turned 93 c e93, turned 62 c e62, e123, e125) refl)))))))))))

pub escaped_stable : (c : ℕ) → is_special c ≡ true → Stable (record { kind = kind.Letter; first = 36; more = c ∷ [] })
escaped_stable c e = again_by (record { kind = kind.Letter; first = 36; more = c ∷ [] }) refl (λ u. rw e refl)

pub letter_stable : (c : ℕ) → is_blank c ≡ false → Stable (letter (c ∷ []))
letter_stable c b = grind (arith, escaped_stable, bare_stable)
