-- Printed tags leave open the styles that they should.
use Rattle.std.proofs.Common.{◌≡◌, List, [], ◌∷◌, ◌++◌, Bool, true, false, ◌||◌, ◌&&◌, not, cond, refl, sym, ap, ◌∙◌, map, reverse, filter, append_assoc, arith}
use Rattle.std.proofs.lemmas.List.{reverse-append}
use Rattle.std.proofs.lemmas.Bool.{or_parts}
use Rattle.std.specs.List.{list_any}
use Rattle.std.proofs.lemmas.List.Folds.{list_any-append}
use Rattle.std.proofs.Math.Bool.{and-false, and-true, or-false, or-true, or_comm, not-and_self}
use Rattle.gabc_text.proofs.machine.TokensOneAfterAnother.{onto}
use Rattle.gabc_text.specs.declared.styles.Style.{Style}
use Rattle.gabc_text.specs.Token.{Token}
use Rattle.gabc_text.specs.TagNames.{all_styles}
use Rattle.gabc_text.specs.View.{along, effect, is_open_after, is_open, is_same, open_styles}
use Rattle.gabc_text.specs.Canonical.{after_common}
use Rattle.gabc_text.specs.Printed.{opening_tag, closing_tag, tokens_between}
use Rattle.gabc_text.specs.declared.token.TagEffect.{TagEffect}
use Rattle.gabc_text.specs.declared.token.TagEffect.TheVariants.{Opens, Closes}

pub push_append : (ks ls before : List Token) → onto (ks ++ ls) before ≡ onto ls (onto ks before)
push_append [] ls before = refl
push_append (k ∷ ks) ls before = push_append ks ls (k ∷ before)

pub along_append : {X : Type 0} (at : List Token → Token → List X) (before ks ls : List Token) → along at before (ks ++ ls) ≡ along at before ks ++ along at (onto ks before) ls
along_append at before [] ls = refl
along_append at before (k ∷ ks) ls = simp (append_assoc, along_append at (k ∷ before) ks ls)

abbrev pub member : Style → List Style → Bool
member s xs = list_any (λ r. is_same r s) xs

-- ---- one tag

pub tag_opens : (s : Style) → effect (opening_tag s) ≡ Opens s
tag_opens s = grind arith

pub tag_closes : (s : Style) → effect (closing_tag s) ≡ Closes s
tag_closes s = grind arith

pub open_one : (r s : Style) (before : List Token) → is_open s (opening_tag r ∷ before) ≡ cond (is_same r s) true (is_open s before)
open_one r s before = ap (λ (so : TagEffect). is_open_after s so (is_open s before)) (tag_opens r)

pub close_one : (r s : Style) (before : List Token) → is_open s (closing_tag r ∷ before) ≡ cond (is_same r s) false (is_open s before)
close_one r s before = ap (λ (so : TagEffect). is_open_after s so (is_open s before)) (tag_closes r)

-- ---- several tags

opened : (s : Style) (ys : List Style) (before : List Token) → is_open s (onto (map opening_tag ys) before) ≡ (member s ys || is_open s before)
opened s [] before = refl
opened s (y ∷ ys) before = opened s ys (opening_tag y ∷ before) ∙ ap (λ b. member s ys || b) (open_one y s before) ∙ turn (is_same y s) (member s ys) (is_open s before)
  where
    turn : (a m b : Bool) → (m || cond a true b) ≡ ((a || m) || b)
    turn a m b = grind arith

pub closed : (s : Style) (ys : List Style) (before : List Token) → is_open s (onto (map closing_tag ys) before) ≡ (not (member s ys) && is_open s before)
closed s [] before = refl
closed s (y ∷ ys) before = grind (arith, close_one, closed s ys (closing_tag y ∷ before))

pub any_reverse : (s : Style) (xs : List Style) → member s (reverse xs) ≡ member s xs
any_reverse s [] = refl
any_reverse s (x ∷ xs) =
    ap (member s) (reverse-append (x ∷ []) xs) ∙ list_any-append (λ (r : Style). is_same r s) (reverse xs) (x ∷ []) ∙ ap (λ b. b || (is_same x s || false)) (any_reverse s xs)
    ∙ ap (λ b. member s xs || b) (or-false (is_same x s)) ∙ or_comm (member s xs) (is_same x s)

-- ---- the common prefix

-- no style twice
abbrev pub AllOnce : List Style → Type 0
AllOnce [] = Unit {0}
AllOnce (x ∷ xs) = (member x xs ≡ false) × AllOnce xs

pub same_style : (r s : Style) → is_same r s ≡ true → r ≡ s
same_style r s e = grind arith

-- what is left of the old are styles of the old
pub within : (s : Style) (old new : List Style) → member s old ≡ false → member s (after_common old new).0 ≡ false
within s [] new h = refl
within s (x ∷ old) [] h = h
within s (x ∷ old) (y ∷ new) h = grind (arith, or_parts, within s old new (or_parts (is_same x s) (member s old) h).1)

-- closing what is left of the old and opening what is left of the new makes the new
abbrev Turned : Style → List Style → List Style → List Style × List Style → Type 0
Turned s old new left = (member s left.1 || (not (member s left.0) && member s old)) ≡ member s new

none_closed : (m n : Bool) → (n || (not m && m)) ≡ n
none_closed m n = ap (λ b. n || b) (not-and_self m) ∙ or-false n

pub turned_over : (s : Style) (old new : List Style) → AllOnce old → Turned s old new (after_common old new)
turned_over s [] new h = none_closed false (member s new)
turned_over s (x ∷ old) [] h = none_closed (member s (x ∷ old)) false
turned_over s (x ∷ old) (y ∷ new) h = grind (arith, within, same_style, or-true, none_closed, turned_over s old new h.1)

-- ---- a boundary

-- tokens that are no style tags
abbrev pub Quiet : List Token → Type 0
Quiet ks = (s : Style) (before : List Token) → is_open s (onto ks before) ≡ is_open s before

pub across : (s : Style) (old new : List Style) (middle before : List Token) → AllOnce old → Quiet middle → is_open s before ≡ member s old
    → is_open s (onto (tokens_between old new middle) before) ≡ member s new
across s old new middle before once quiet h = grind (arith, push_append, opened, closed, any_reverse, turned_over)

-- ---- sets of styles as lists

congruent : (f g : Style → Bool) (xs : List Style) → ((s : Style) → f s ≡ g s) → filter f xs ≡ filter g xs
congruent f g xs h = grind arith

pub member_filter : (s : Style) (f : Style → Bool) (xs : List Style) → member s (filter f xs) ≡ (f s && member s xs)
member_filter s f [] = sym (and-false (f s))
member_filter s f (x ∷ xs) = grind (arith, same_style, member_filter s f xs)

all_members : (s : Style) → member s all_styles ≡ true
all_members s = grind arith

-- the open styles after a boundary are the new ones
pub styles_again : (old : List Style) (f : Style → Bool) (middle before : List Token) → AllOnce old → Quiet middle → ((s : Style) → is_open s before ≡ member s old)
    → open_styles (onto (tokens_between old (filter f all_styles) middle) before) ≡ filter f all_styles
styles_again old f middle before once quiet h = grind (arith, congruent, across, member_filter, all_members, and-true)

-- a list of open styles has none twice
pub once : (f : Style → Bool) → AllOnce (filter f all_styles)
once f = grind arith
