-- The styles that do not stay open between two neighbours are those from the first one on in which they differ.
use Rattle.std.proofs.Common.{arith, ◌≡◌, ℕ, ◌&&◌, not, [], ◌∷◌, Bool, true, false, cond, refl, ap, ◌∙◌, append-nil, List, ◌++◌, reverse}
use Rattle.std.proofs.lemmas.Bool.{and_parts, not-true}
use Rattle.std.proofs.Math.Bool.{beq, and-true}
use Rattle.std.specs.List.{filter, flat_map}
use Rattle.gabc_text.proofs.printing.NothingIsFoundInPrintedText.{itself, other_too}
use Rattle.gabc_text.specs.declared.styles.Style.{Style}
use Rattle.gabc_text.specs.declared.styles.Styles.{Styles}
use Rattle.gabc_text.specs.TextFacts.{has_style}
use Rattle.gabc_text.specs.TagNames.{all_styles}
use Rattle.gabc_text.specs.View.{is_same}
use Rattle.gabc_text.specs.Canonical.{listed_styles, after_common, boundary, style_opening, style_closing}
use Rattle.gabc_text.specs.machine.ChangedStyles.{common_styles, differs, changed_styles}

-- the styles of h, from the first one on in which f and g differ
abbrev gone : (Style → Bool) → (Style → Bool) → (Style → Bool) → Bool → List Style → List Style
gone f g h d [] = []
gone f g h d (s ∷ ss) = cond (h s && differs d (f s) (g s)) (s ∷ gone f g h (differs d (f s) (g s)) ss) (gone f g h (differs d (f s) (g s)) ss)

-- no style of the list is s
abbrev lacking : Style → List Style → Bool
lacking s [] = true
lacking s (r ∷ ss) = not (is_same s r) && lacking s ss

abbrev distinct : List Style → Bool
distinct [] = true
distinct (s ∷ ss) = lacking s ss && distinct ss

all_gone : (f g h : Style → Bool) (ss : List Style) → gone f g h true ss ≡ filter h ss
all_gone f g h [] = refl
all_gone f g h (s ∷ ss) = rw (all_gone f g h ss, and-true (h s)) refl

-- a style that the other list lacks
after_one : (s : Style) (old new : List Style) → lacking s new ≡ true → after_common (s ∷ old) new ≡ (s ∷ old, new)
after_one s old new h = grind arith

after_other : (s : Style) (old new : List Style) → lacking s old ≡ true → after_common old (s ∷ new) ≡ (old, s ∷ new)
after_other s [] new h = refl
after_other s (r ∷ old) new h = rw (other_too s r (not-true (is_same s r) (and_parts _ (lacking s old) h).0)) refl

lacking_filter : (s : Style) (f : Style → Bool) (ss : List Style) → lacking s ss ≡ true → lacking s (filter f ss) ≡ true
lacking_filter s f [] h = refl
lacking_filter s f (r ∷ ss) h =
    let both = and_parts (not (is_same s r)) (lacking s ss) h in
    by (f r) both.0 (lacking_filter s f ss both.1)
  where
    by : (b : Bool) → not (is_same s r) ≡ true → lacking s (filter f ss) ≡ true → lacking s (cond b (r ∷ filter f ss) (filter f ss)) ≡ true
    by b n ih = grind arith

after_by : (f g : Style → Bool) (ss : List Style) → distinct ss ≡ true → after_common (filter f ss) (filter g ss) ≡ (gone f g f false ss, gone f g g false ss)
after_by f g [] h = refl
after_by f g (s ∷ ss) h =
    let both = and_parts (lacking s ss) (distinct ss) h in
    by (f s) (g s) both.0 (after_by f g ss both.1)
  where
    by : (a b : Bool) → lacking s ss ≡ true → after_common (filter f ss) (filter g ss) ≡ (gone f g f false ss, gone f g g false ss)
        → after_common (cond a (s ∷ filter f ss) (filter f ss)) (cond b (s ∷ filter g ss) (filter g ss))
        ≡ (cond (a && differs false a b) (s ∷ gone f g f (differs false a b) ss) (gone f g f (differs false a b) ss), cond (b && differs false a b) (s ∷ gone f g g (differs false a b) ss) (gone f g g (differs false a b) ss))
    by a b l ih = grind (arith, itself, all_gone, after_one, lacking_filter, after_other)

-- with the flags that the code keeps
gone_in : (old new s : Styles) → gone (λ r. has_style old r) (λ r. has_style new r) (λ r. has_style s r) false all_styles ≡ filter (λ r. has_style (common_styles s (changed_styles old new)) r) all_styles
gone_in old new s = refl

pub common_is : (old new : Styles) → after_common (listed_styles old) (listed_styles new) ≡ (listed_styles (common_styles old (changed_styles old new)), listed_styles (common_styles new (changed_styles old new)))
unfolding listed_styles
common_is old new =
    after_by (λ s. has_style old s) (λ s. has_style new s) all_styles refl
    ∙ ap (λ (x : List Style). (x, gone (λ s. has_style old s) (λ s. has_style new s) (λ s. has_style new s) false all_styles)) (gone_in old new old)
    ∙ ap (λ (x : List Style). (filter (λ r. has_style (common_styles old (changed_styles old new)) r) all_styles, x)) (gone_in old new new)

pub boundary_is : (old new : Styles) (m : List ℕ) → boundary (listed_styles old) (listed_styles new) m
    ≡ flat_map style_closing (reverse (listed_styles (common_styles old (changed_styles old new)))) ++ (m ++ flat_map style_opening (listed_styles (common_styles new (changed_styles old new))))
boundary_is old new m = ap (λ (x : List Style × List Style). flat_map style_closing (reverse x.0) ++ (m ++ flat_map style_opening x.1)) (common_is old new)

-- nothing is left of a list after what it has in common with itself
pub none_after : (ss : List Style) → after_common ss ss ≡ ([], [])
none_after [] = refl
none_after (s ∷ ss) = rw (itself s) (none_after ss)

-- between neighbours with the same styles there are no tags
pub boundary_of_same : (ss : List Style) (middle : List ℕ) → boundary ss ss middle ≡ middle
boundary_of_same ss middle = rw (none_after ss) (append-nil middle)

and_same : (a b c : Bool) → (beq a b && c) ≡ true → (a ≡ b) × (c ≡ true)
and_same a b c e = grind arith

-- sets of styles that compare as equal are the same
pub same_styles : (s t : Styles) → (beq s.b t.b && (beq s.c t.c && (beq s.e t.e && (beq s.i t.i && (beq s.sc t.sc && (beq s.tt t.tt && beq s.ul t.ul)))))) ≡ true → s ≡ t
same_styles s t h = grind (arith, and_same, and-true)
