-- The tokens of a text: a letter is one character or a `$` and one, a translation ends with its `]`,
-- and what is open stands last.
use Rattle.std.proofs.Common.{arith, ◌≡◌, ℕ, zero, suc, ◌+◌, ◌==◌, ◌&&◌, List, [], ◌∷◌, ◌++◌, length, Bool, true, false, cond, refl, subst, Option, Some, None}
use Rattle.std.specs.Option.{option_map}
use Rattle.std.specs.Char.{len_utf8}
use Rattle.gabc_text.specs.declared.token.TokenKind.{TokenKind}
use Rattle.gabc_text.specs.declared.token.TokenKind.TheVariants as kind
use Rattle.gabc_text.specs.declared.token.TagEffect.{TagEffect}
use Rattle.gabc_text.specs.declared.token.TagEffect.TheVariants.{Begins}
use Rattle.gabc_text.specs.Token.{Token, tokens, tokens_after, token_at, through, ended_token, tag_at, token_of_tag, single, is_special, effect_of, ending_of}
use Rattle.gabc_text.specs.View.{bytes_of}
use Rattle.gabc_text.specs.Events.{but_last}
use Rattle.gabc_text.specs.Printed.{text_of_tokens}
use Rattle.gabc_text.proofs.tokens.CasesOfCharacters.{by_case}
use Rattle.gabc_text.proofs.tokens.TextIsTokensAndRest.{AllGo, parted}
use Rattle.gabc_text.proofs.by_kept.ViewOfKept.{IsCut, AreCut}

through_last : (t y : List ℕ) (d : ℕ) → through (93 ∷ []) t ≡ Some y → bytes_of (but_last d y) + 1 ≡ bytes_of (d ∷ y)
through_last [] y d e = absurd (cc)
through_last (c ∷ t) y d e = by ((93 == c) && true) (through (93 ∷ []) t) refl e (λ z g. through_last t z c g)
  where
    end : (n : ℕ) → (n + 0) + 1 ≡ n + (1 + 0)
    end n = omega arith

    more : (n m k : ℕ) → m + 1 ≡ k → (n + m) + 1 ≡ n + k
    more n m k e = omega arith

    by : (b : Bool) (o : Option (List ℕ)) → through (93 ∷ []) t ≡ o → cond b (Some (93 ∷ [])) (option_map (λ s. c ∷ s) o) ≡ Some y
        → ((z : List ℕ) → through (93 ∷ []) t ≡ Some z → bytes_of (but_last c z) + 1 ≡ bytes_of (c ∷ z)) → bytes_of (but_last d y) + 1 ≡ bytes_of (d ∷ y)
    by true o f g F = let same : 93 ∷ [] ≡ y = cc in subst (λ (u : List ℕ). bytes_of (but_last d u) + 1 ≡ bytes_of (d ∷ u)) same (end (len_utf8 d))
    by false None f g F = absurd (cc)
    by false (Some z) f g F = let same : c ∷ z ≡ y = cc in subst (λ (u : List ℕ). bytes_of (but_last d u) + 1 ≡ bytes_of (d ∷ u)) same (more (len_utf8 d) (bytes_of (but_last c z)) (bytes_of (c ∷ z)) (F z f))

abbrev CutAt : List ℕ → ℕ → Type 0
CutAt t c = IsCut (token_at c t)

letter_cut : (c : ℕ) → IsCut (record { kind = kind.Letter; first = c; more = [] })
letter_cut c = record { letter = λ e. refl; translation = λ e. absurd (cc) }

dollar_cut : (t : List ℕ) → CutAt t 36
dollar_cut [] = letter_cut 36
dollar_cut (c ∷ t) = by (is_special c)
  where
    by : (b : Bool) → IsCut (record { kind = kind.Letter; first = 36; more = cond b (c ∷ []) [] })
    by true = record { letter = λ e. refl; translation = λ e. absurd (cc) }
    by false = letter_cut 36

tagged_cut : (name u : List ℕ) (s : TagEffect) → IsCut (token_of_tag name u s)
tagged_cut name u (Begins raw) = by (through (ending_of raw) u)
  where
    by : (o : Option (List ℕ)) → IsCut (ended_token kind.Raw kind.OpenTag 60 name u o)
    by None = record { letter = λ e. absurd (cc); translation = λ e. absurd (cc) }
    by (Some y) = record { letter = λ e. absurd (cc); translation = λ e. absurd (cc) }
tagged_cut name u _ = record { letter = λ e. absurd (cc); translation = λ e. absurd (cc) }

tag_cut : (t : List ℕ) → CutAt t 60
tag_cut t = by (through (62 ∷ []) t)
  where
    by : (o : Option (List ℕ)) → IsCut (tag_at t o)
    by None = record { letter = λ e. absurd (cc); translation = λ e. absurd (cc) }
    by (Some name) = tagged_cut name _ (effect_of (60 ∷ name))

bracket_cut : (t : List ℕ) → CutAt t 91
bracket_cut t = by (through (93 ∷ []) t) refl
  where
    by : (o : Option (List ℕ)) → through (93 ∷ []) t ≡ o → IsCut (ended_token kind.Translation kind.OpenTranslation 91 [] t o)
    by None e = record { letter = λ e. absurd (cc); translation = λ e. absurd (cc) }
    by (Some y) e = record { letter = λ e. absurd (cc); translation = λ f. through_last t y 91 e }

single_cut : (c : ℕ) (i : TokenKind) → (i ≡ kind.Translation → ⊥) → IsCut (record { kind = i; first = c; more = [] })
single_cut c i F = record { letter = λ e. refl; translation = λ e. absurd (F e) }

single_none : (c : ℕ) → single c ≡ kind.Translation → ⊥
single_none c e = grind arith

token_cut : (c : ℕ) (t : List ℕ) → CutAt t c
token_cut c t =
    by_case 36 c (CutAt t) (dollar_cut t) (λ e36.
    by_case 37 c (CutAt t) (record { letter = λ e. absurd (cc); translation = λ e. absurd (cc) }) (λ e37.
    by_case 60 c (CutAt t) (tag_cut t) (λ e60.
    by_case 91 c (CutAt t) (bracket_cut t) (λ e91.
    rw (e36, e37, e60, e91) (single_cut c (single c) (single_none c))))))

abbrev EachCut : List Token → Type 0
EachCut [] = Unit {0}
EachCut (k ∷ ks) = IsCut k × EachCut ks

each_cut : (n : ℕ) (t : List ℕ) → EachCut (tokens_after n t)
each_cut n [] = tt
each_cut (suc n) (c ∷ t) = each_cut n t
each_cut zero (c ∷ t) = by (c == 40) (token_cut c t) (each_cut (length (token_at c t).more) t)
  where
    by : (b : Bool) → IsCut (token_at c t) → EachCut (tokens_after (length (token_at c t).more) t) → EachCut (cond b [] (token_at c t ∷ tokens_after (length (token_at c t).more) t))
    by true f g = tt
    by false f g = (f, g)

nothing_spelled : (ks : List Token) (rest : List ℕ) → text_of_tokens ks ++ rest ≡ [] → ks ≡ []
nothing_spelled [] rest e = refl
nothing_spelled (k ∷ ks) rest e = absurd (cc)

both : (ks : List Token) (rest : List ℕ) → EachCut ks → AllGo ks rest → AreCut ks
both [] rest h g = tt
both (k ∷ ks) rest h g = (h.0, λ e. nothing_spelled ks rest (g.0.is_last e), both ks rest h.1 g.1)

pub tokens_cut : (t : List ℕ) → AreCut (tokens t)
tokens_cut t = let p = parted t in both (tokens t) p.rest (each_cut 0 t) p.go
