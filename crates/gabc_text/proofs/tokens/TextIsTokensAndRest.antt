-- A text is its tokens and what follows them.
use Rattle.std.proofs.Common.{arith, ◌≡◌, ℕ, zero, suc, ◌==◌, List, [], ◌∷◌, ◌++◌, Bool, true, false, cond, refl, sym, ap, ◌∙◌, append_assoc, append-nil, length, drop, Option, Some, None, codes, subst, inl, inr, ◌⊎◌}
use Rattle.std.proofs.lemmas.Bool.{eqb-true}
use Rattle.std.proofs.Math.Seq.{drop-append_seam}
use Rattle.gabc_text.specs.declared.token.TokenKind.TheVariants as kind
use Rattle.gabc_text.specs.declared.token.TagEffect.{TagEffect}
use Rattle.gabc_text.specs.declared.token.TagEffect.TheVariants.{Begins}
use Rattle.gabc_text.specs.declared.token.RawKind.{RawKind}
use Rattle.gabc_text.specs.declared.token.RawKind.TheVariants.{V, Sp, Alt}
use Rattle.gabc_text.specs.Token.{Token, tokens, tokens_after, token_at, through, before_first, ended_token, tag_at, token_of_tag, dollar_at, is_special, effect_of, ending_of}
use Rattle.gabc_text.specs.View.{is_space, is_open_kind}
use Rattle.gabc_text.specs.Printed.{text_of_tokens}
use Rattle.gabc_text.proofs.tokens.CasesOfCharacters.{by_case}
use Rattle.gabc_text.proofs.machine.KeptOfOpenToken.{single_uncut}
use Rattle.gabc_text.proofs.printing.TokensAreReadAgain.{found}

-- a token that may stand before this text: it is open only if nothing follows, and a blank is one character
pub record Goes (k : Token) (u : List ℕ) : Type 0 where
  pub is_last : is_open_kind k.kind ≡ true → u ≡ []
  pub blank : is_space k.kind ≡ true → k.more ≡ []

-- the token stands at the start of its first character and this text
pub record Front (k : Token) (t : List ℕ) : Type 0 where
  pub rest : List ℕ
  pub parts : t ≡ k.more ++ rest
  pub goes : Goes k rest

before_parts : (x : ℕ) (t : List ℕ) → (rest : List ℕ) × (t ≡ before_first x t ++ rest)
before_parts x [] = ([], refl)
before_parts x (c ∷ t) = by (x == c) (before_parts x t)
  where
    by : (b : Bool) → (rest : List ℕ) × (t ≡ before_first x t ++ rest) → (rest : List ℕ) × (c ∷ t ≡ cond b [] (c ∷ before_first x t) ++ rest)
    by true r = (c ∷ t, refl)
    by false r = (r.0, ap (λ (s : List ℕ). c ∷ s) r.1)

prefix_dollar : (t : List ℕ) → Front (dollar_at t) t
prefix_dollar [] = record { rest = []; parts = refl; goes = record { is_last = λ e. absurd (cc); blank = λ e. absurd (cc) } }
prefix_dollar (c ∷ t) = by (is_special c)
  where
    by : (b : Bool) → Front (record { kind = kind.Letter; first = 36; more = cond b (c ∷ []) [] }) (c ∷ t)
    by true = record { rest = t; parts = refl; goes = record { is_last = λ e. absurd (cc); blank = λ e. absurd (cc) } }
    by false = record { rest = c ∷ t; parts = refl; goes = record { is_last = λ e. absurd (cc); blank = λ e. absurd (cc) } }

prefix_comment : (t : List ℕ) → Front (record { kind = kind.Comment; first = 37; more = before_first 10 t }) t
prefix_comment t =
    let r = before_parts 10 t in
    record { rest = r.0; parts = r.1; goes = record { is_last = λ e. absurd (cc); blank = λ e. absurd (cc) } }

-- a raw part that this text ends, or leaves open
prefix_raw : (raw : RawKind) (name u : List ℕ) → Front (ended_token kind.Raw kind.OpenTag 60 name u (through (ending_of raw) u)) (name ++ u)
prefix_raw raw name u = by (through (ending_of raw) u) refl
  where
    found_raw : (r : RawKind) (y : List ℕ) → through (ending_of r) u ≡ Some y → (rest : List ℕ) × (u ≡ y ++ rest)
    found_raw V y e = let f = found 60 (codes "/v>") u y e in (f.rest, f.parts)
    found_raw Sp y e = let f = found 60 (codes "/sp>") u y e in (f.rest, f.parts)
    found_raw Alt y e = let f = found 60 (codes "/alt>") u y e in (f.rest, f.parts)

    by : (o : Option (List ℕ)) → through (ending_of raw) u ≡ o → Front (ended_token kind.Raw kind.OpenTag 60 name u o) (name ++ u)
    by o e = grind (arith, append-nil, found_raw, append_assoc)

prefix_tagged : (name u : List ℕ) (s : TagEffect) → Front (token_of_tag name u s) (name ++ u)
prefix_tagged name u (Begins raw) = prefix_raw raw name u
prefix_tagged name u _ = record { rest = u; parts = refl; goes = record { is_last = λ e. absurd (cc); blank = λ e. absurd (cc) } }

prefix_tag : (t : List ℕ) → Front (tag_at t (through (62 ∷ []) t)) t
prefix_tag t = by (through (62 ∷ []) t) refl
  where
    by : (o : Option (List ℕ)) → through (62 ∷ []) t ≡ o → Front (tag_at t o) t
    by None e = record { rest = []; parts = sym (append-nil t); goes = record { is_last = λ f. refl; blank = λ f. absurd (cc) } }
    by (Some name) e =
        let f = found 62 [] t name e in
        let d : drop (length name) t ≡ f.rest = ap (drop (length name)) f.parts ∙ drop-append_seam name f.rest in
        subst (λ (u : List ℕ). Front (token_of_tag name u (effect_of (60 ∷ name))) t) (sym d)
        (subst (Front (token_of_tag name f.rest (effect_of (60 ∷ name)))) (sym f.parts) (prefix_tagged name f.rest (effect_of (60 ∷ name))))

prefix_translation : (t : List ℕ) → Front (ended_token kind.Translation kind.OpenTranslation 91 [] t (through (93 ∷ []) t)) t
prefix_translation t = by (through (93 ∷ []) t) refl
  where
    by : (o : Option (List ℕ)) → through (93 ∷ []) t ≡ o → Front (ended_token kind.Translation kind.OpenTranslation 91 [] t o) t
    by None e = record { rest = []; parts = sym (append-nil t); goes = record { is_last = λ f. refl; blank = λ f. absurd (cc) } }
    by (Some y) e =
        let f = found 93 [] t y e in
        record { rest = f.rest; parts = f.parts; goes = record { is_last = λ g. absurd (cc); blank = λ g. absurd (cc) } }

abbrev FrontAt : List ℕ → ℕ → Type 0
FrontAt t c = Front (token_at c t) t

prefix_at : (c : ℕ) (t : List ℕ) → FrontAt t c
prefix_at c t =
    by_case 36 c (FrontAt t) (prefix_dollar t) (λ e36.
    by_case 37 c (FrontAt t) (prefix_comment t) (λ e37.
    by_case 60 c (FrontAt t) (prefix_tag t) (λ e60.
    by_case 91 c (FrontAt t) (prefix_translation t) (λ e91.
    let uncut = single_uncut c in
    rw (e36, e37, e60, e91) (record { rest = t; parts = refl; goes = record { is_last = λ e. absurd (cc); blank = λ e. refl } })))))

-- ---- the whole text

-- these tokens may stand one after another, before this rest, which is empty or begins with the `(`
abbrev pub AllGo : List Token → List ℕ → Type 0
AllGo [] rest = (rest ≡ []) ⊎ (rest ≡ 40 ∷ drop 1 rest)
AllGo (k ∷ ks) rest = Goes k (text_of_tokens ks ++ rest) × AllGo ks rest

pub record Parted (t : List ℕ) (ks : List Token) : Type 0 where
  pub rest : List ℕ
  pub parts : t ≡ text_of_tokens ks ++ rest
  pub go : AllGo ks rest

parted_first : (c : ℕ) (t : List ℕ) (k : Token) (ks : List Token) → k.first ≡ c → Front k t → Parted (drop (length k.more) t) ks → Parted (c ∷ t) (k ∷ ks)
parted_first c t k ks e f p = grind (arith, drop-append_seam, append_assoc)

abbrev FirstIs : List ℕ → ℕ → Type 0
FirstIs t c = (token_at c t).first ≡ c

first_tag : (t : List ℕ) → (tag_at t (through (62 ∷ []) t)).first ≡ 60
first_tag t = by (through (62 ∷ []) t)
  where
    name_of : (name u : List ℕ) (s : TagEffect) → (token_of_tag name u s).first ≡ 60
    name_of name u s = grind arith

    by : (o : Option (List ℕ)) → (tag_at t o).first ≡ 60
    by o = grind (arith, name_of)

first_is : (c : ℕ) (t : List ℕ) → FirstIs t c
first_is c t = grind (arith, by_case, first_tag)

pub parted_after : (n : ℕ) (t : List ℕ) → Parted (drop n t) (tokens_after n t)
parted_after zero [] = record { rest = []; parts = refl; go = inl refl }
parted_after (suc n) [] = record { rest = []; parts = refl; go = inl refl }
parted_after (suc n) (c ∷ t) = parted_after n t
parted_after zero (c ∷ t) = by (c == 40) refl (parted_after (length (token_at c t).more) t)
  where
    by : (b : Bool) → c == 40 ≡ b → Parted (drop (length (token_at c t).more) t) (tokens_after (length (token_at c t).more) t)
        → Parted (c ∷ t) (cond b [] (token_at c t ∷ tokens_after (length (token_at c t).more) t))
    by true e p = record { rest = c ∷ t; parts = refl; go = inr (ap (λ (x : ℕ). x ∷ t) (eqb-true c 40 e)) }
    by false e p = parted_first c t (token_at c t) (tokens_after (length (token_at c t).more) t) (first_is c t) (prefix_at c t) p

pub parted : (t : List ℕ) → Parted t (tokens t)
parted t = parted_after 0 t
