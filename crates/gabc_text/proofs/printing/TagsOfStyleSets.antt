-- The tags of a set of styles: each style's, where it is in the set.
use Rattle.std.proofs.Common.{arith, ◌≡◌, ℕ, List, [], ◌∷◌, ◌++◌, Bool, true, false, cond, refl, sym, ap, ◌∙◌, append-nil, reverse}
use Rattle.std.proofs.lemmas.List.{reverse-append}
use Rattle.std.specs.List.{filter, flat_map}
use Rattle.std.proofs.lemmas.List.Elements.{filter-append}
use Rattle.gabc_text.specs.declared.styles.Style.{Style}
use Rattle.gabc_text.specs.declared.styles.Styles.{Styles}
use Rattle.gabc_text.specs.TextFacts.{has_style}
use Rattle.gabc_text.specs.TagNames.{all_styles}
use Rattle.gabc_text.specs.Canonical.{listed_styles, style_opening, style_closing}

-- the text of each style that is in the set
abbrev pub tags_of : (Style → List ℕ) → Styles → List Style → List ℕ
tags_of f s ss = flat_map (λ r. cond (has_style s r) (f r) []) ss

tagged : (f : Style → List ℕ) (s : Styles) (ss : List Style) → flat_map f (filter (λ r. has_style s r) ss) ≡ tags_of f s ss
tagged f s [] = refl
tagged f s (r ∷ ss) = grind (arith, flat_map, tagged f s ss)

reverse-filter : (p : Style → Bool) (ss : List Style) → reverse (filter p ss) ≡ filter p (reverse ss)
reverse-filter p [] = refl
reverse-filter p (s ∷ ss) = by (reverse-filter p ss) (p s) ∙ sym (filter-append p (reverse ss) (s ∷ [])) ∙ ap (filter p) (sym (reverse-append (s ∷ []) ss))
  where
    by : reverse (filter p ss) ≡ filter p (reverse ss) → (b : Bool) → reverse (cond b (s ∷ filter p ss) (filter p ss)) ≡ filter p (reverse ss) ++ cond b (s ∷ []) []
    by e true = reverse-append (s ∷ []) (filter p ss) ∙ ap (λ (x : List Style). x ++ s ∷ []) e
    by e false = e ∙ sym (append-nil (filter p (reverse ss)))

pub opened_is : (s : Styles) → flat_map style_opening (listed_styles s) ≡ tags_of style_opening s all_styles
unfolding listed_styles
opened_is s = tagged style_opening s all_styles

pub closed_is : (s : Styles) → flat_map style_closing (reverse (listed_styles s)) ≡ tags_of style_closing s (reverse all_styles)
unfolding listed_styles
closed_is s = ap (flat_map style_closing) (reverse-filter (λ r. has_style s r) all_styles) ∙ tagged style_closing s (reverse all_styles)

pub none_listed : listed_styles (record { b = false; c = false; e = false; i = false; sc = false; tt = false; ul = false }) ≡ []
unfolding listed_styles
none_listed = refl
