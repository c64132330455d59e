-- What a text says is the same from its first token on and from its last one back.
use Rattle.std.proofs.Common.{◌≡◌, ℕ, zero, suc, ◌-◌, ◌==◌, List, [], ◌∷◌, ◌++◌, Bool, true, false, cond, refl, sym, ap, ◌∙◌, length, take, reverse, Option, Some, None, arith, subst}
use Rattle.std.proofs.Math.Bool.{or-true}
use Rattle.gabc_places.specs.declared.place.Span.{Span}
use Rattle.gabc_text.specs.declared.token.TokenKind.{TokenKind}
use Rattle.gabc_text.specs.declared.token.TokenKind.TheVariants as kind
use Rattle.gabc_text.specs.Token.{Token, tokens, tokens_after, token_at}
use Rattle.gabc_text.specs.View.{along, has_begin, has_end, begin_of, end_of, centre_by, has_translation, is_translation, starts_word}
use Rattle.gabc_text.specs.Events.{but_last}
use Rattle.gabc_text.specs.ViewFacts.{ViewFacts, view_facts, translation_text, but_end}
use Rattle.gabc_text.specs.Printed.{print}
use Rattle.gabc_text.proofs.tokens.CasesOfCharacters.{translation_first}
use Rattle.gabc_text.proofs.machine.TokensOneAfterAnother.{onto}
use Rattle.gabc_text.proofs.printing.ViewFromFirstToken.{begin_at, end_at, translation_from, view, pieces_of}
use Rattle.gabc_text.proofs.printing.ViewFromFirstToken as forward
use Rattle.gabc_text.proofs.printing.PrintedTextIsReadAgain.{forward_again}
use Rattle.gabc_text.proofs.printing.TokensOfKeptText.{none_after}

abbrev first_in : List ℕ → Option ℕ
first_in [] = None
first_in (x ∷ xs) = Some x

abbrev or_else : Option ℕ → Option ℕ → Option ℕ
or_else None y = y
or_else (Some x) y = Some x

-- ---- where the centre begins and ends

no_begin : (ks before : List Token) → has_begin before ≡ true → along begin_at before ks ≡ []
no_begin [] before h = refl
no_begin (k ∷ ks) before h = grind (arith, begin_at, no_begin ks (k ∷ before))

begins_so : (ks before : List Token) → begin_of (onto ks before) ≡ or_else (first_in (along begin_at before ks)) (begin_of before)
begins_so [] before = refl
begins_so (k ∷ ks) before = grind (arith, no_begin, begin_at, begins_so ks (k ∷ before))

no_end : (ks before : List Token) → has_end before ≡ true → along end_at before ks ≡ []
no_end [] before h = refl
no_end (k ∷ ks) before h = grind (arith, end_at, no_end ks (k ∷ before))

ends_so : (ks before : List Token) → end_of (onto ks before) ≡ or_else (first_in (along end_at before ks)) (end_of before)
ends_so [] before = refl
ends_so (k ∷ ks) before = grind (arith, no_end, end_at, ends_so ks (k ∷ before))

or_nothing : (o : Option ℕ) → or_else o None ≡ o
or_nothing o = grind arith

centre_so : (n : ℕ) (xs ys : List ℕ) → centre_by n (first_in xs) (first_in ys) ≡ forward.centre_by n xs ys
centre_so n xs ys = grind arith

-- ---- the translation

-- only the last token is a translation that is left open
abbrev is_open_one : TokenKind → Bool
is_open_one kind.OpenTranslation = true
is_open_one _ = false

abbrev OpenLast : List Token → Type 0
OpenLast [] = Unit {0}
OpenLast (k ∷ ks) = (is_open_one k.kind ≡ true → ks ≡ []) × OpenLast ks

but_end_take : (s : List ℕ) → but_end s ≡ take (length s - 1) s
but_end_take [] = refl
but_end_take (c ∷ s) = prefix c s ∙ ap (λ (n : ℕ). take n (c ∷ s)) (let e : length s ≡ suc (length s) - 1 = omega arith in e)
  where
    prefix : (c : ℕ) (s : List ℕ) → but_last c s ≡ take (length s) (c ∷ s)
    prefix c [] = refl
    prefix c (d ∷ s) = ap (λ (x : List ℕ). c ∷ x) (prefix d s)

one_translation : (ks before : List Token) → has_translation before ≡ true → translation_text (onto ks before) ≡ translation_text before
one_translation [] before h = refl
one_translation (k ∷ ks) before h = grind (arith, one_translation ks (k ∷ before) (rw h (or-true (is_translation k.kind))), or-true)

first_translation : (ks before : List Token) → has_translation before ≡ false → translation_text before ≡ None → OpenLast ks → translation_text (onto ks before) ≡ translation_from ks
first_translation [] before h n o = n
first_translation (k ∷ ks) before h n o = grind (arith, one_translation, but_end_take, first_translation ks (k ∷ before))

-- a translation that is left open takes the rest of the text
abbrev TakesAll : List ℕ → ℕ → Type 0
TakesAll t c = is_open_one (token_at c t).kind ≡ true → (token_at c t).more ≡ t

at_bracket : (t : List ℕ) → TakesAll t 91
at_bracket t = grind arith

takes_all : (c : ℕ) (t : List ℕ) → TakesAll t c
takes_all c t h = subst (TakesAll t) (sym (translation_first c t (by (token_at c t).kind h))) (at_bracket t) h
  where
    by : (d : TokenKind) → is_open_one d ≡ true → is_translation d ≡ true
    by d h = grind arith

open_last : (n : ℕ) (t : List ℕ) → OpenLast (tokens_after n t)
open_last n [] = tt
open_last (suc n) (c ∷ t) = open_last n t
open_last zero (c ∷ t) = by (c == 40) (open_last (length (token_at c t).more) t)
  where
    by : (b : Bool) → OpenLast (tokens_after (length (token_at c t).more) t) → OpenLast (cond b [] (token_at c t ∷ tokens_after (length (token_at c t).more) t))
    by true h = tt
    by false h = ((λ e. ap (λ (u : List ℕ). tokens_after (length u) t) (takes_all c t e) ∙ none_after t), h)

-- ---- the view

pub facts_is : (t : List ℕ) → view_facts t ≡ view t
facts_is t =
    let ks = tokens t in
    let b : begin_of (reverse (tokens t)) ≡ first_in (along begin_at [] (tokens t)) = begins_so (tokens t) [] ∙ or_nothing (first_in (along begin_at [] (tokens t))) in
    let e : end_of (reverse (tokens t)) ≡ first_in (along end_at [] (tokens t)) = ends_so (tokens t) [] ∙ or_nothing (first_in (along end_at [] (tokens t))) in
    let tr : translation_text (reverse (tokens t)) ≡ translation_from (tokens t) = first_translation (tokens t) [] refl refl (open_last 0 t) in
    ap (λ (x : Option ℕ). with_parts t (centre_by (length (pieces_of (tokens t))) x (end_of (reverse (tokens t)))) (translation_text (reverse (tokens t)))) b
    ∙ ap (λ (x : Option ℕ). with_parts t (centre_by (length (pieces_of (tokens t))) (first_in (along begin_at [] (tokens t))) x) (translation_text (reverse (tokens t)))) e
    ∙ ap (λ (x : Option Span). with_parts t x (translation_text (reverse (tokens t)))) (centre_so (length (pieces_of (tokens t))) (along begin_at [] (tokens t)) (along end_at [] (tokens t)))
    ∙ ap (λ (x : Option (List ℕ)). with_parts t (forward.centre_by (length (pieces_of (tokens t))) (along begin_at [] (tokens t)) (along end_at [] (tokens t))) x) tr
  where
    with_parts : List ℕ → Option Span → Option (List ℕ) → ViewFacts
    with_parts t c tr = record { word_start = starts_word (reverse (tokens t)); pieces = pieces_of (tokens t); centre = c; translation = tr }

pub facts_again : (t rest : List ℕ) → view_facts (print (view_facts t) ++ 40 ∷ rest) ≡ view_facts t
facts_again t rest = grind (arith, facts_is, view, forward_again)
