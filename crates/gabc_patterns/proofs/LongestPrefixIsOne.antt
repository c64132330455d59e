-- The longest prefix is one.
use Rattle.std.proofs.Common.{◌≡◌, List, [], ◌∷◌, ◌++◌, refl, sym, append-nil, inl, inr, ◌⊎◌, arith}
use Rattle.gabc_patterns.specs.LongestItems.{Longest}
use Rattle.gabc_patterns.proofs.PartsOfNothing.{append_none}

-- of two prefixes of one list, one is a prefix of the other
pub compare : {X : Type 0} (a b x y : List X) → a ++ x ≡ b ++ y
    → ((m : List X) × (b ≡ a ++ m) × (x ≡ m ++ y)) ⊎ ((m : List X) × (a ≡ b ++ m) × (y ≡ m ++ x))
compare [] b x y e = inl (b, refl, e)
compare (c ∷ a) [] x y e = inr (c ∷ a, refl, sym e)
compare (c ∷ a) (d ∷ b) x y e =
    let f : a ++ x ≡ b ++ y = cc in
    let g : c ≡ d = cc in
    elim (compare a b x y f) [ inl h ↦ inl (h.0, (let p = h.1 in cc), h.2) | inr h ↦ inr (h.0, (let p = h.1 in cc), h.2) ]

-- two longest prefixes of one list are one
pub one_longest : {X : Type 0} (P : List X → Type 0) (a b x y : List X) → a ++ x ≡ b ++ y → Longest P a x → Longest P b y → (a ≡ b) × (x ≡ y)
one_longest P a b x y e l k = grind (arith, compare, append-nil)

-- a prefix of a list with one more element is that list, or a prefix of it without
pub split_push : {X : Type 0} (rest more after : List X) (c : X) → rest ++ c ∷ [] ≡ more ++ after
    → (more ≡ rest ++ c ∷ []) ⊎ ((less : List X) × (rest ≡ more ++ less))
split_push rest [] after c e = inr (rest, refl)
split_push {X} [] (d ∷ more) after c e = grind (arith, append_none)
split_push (b ∷ rest) (d ∷ more) after c e =
    let f : rest ++ c ∷ [] ≡ more ++ after = cc in
    let g : b ≡ d = cc in
    elim (split_push rest more after c f) [
      | inl x ↦ inl (cc)
      | inr x ↦ inr (x.0, (let y = x.1 in cc))
    ]

-- a whole list is the longest prefix of itself
pub longest_all : {X : Type 0} (P : List X → Type 0) (all : List X) → P all → Longest P all []
longest_all P all h = record { has = h; longest = λ more after e i. (append_none more after e).0 }

-- a longest prefix stays it, with a character more that makes none
pub longest_push : {X : Type 0} (P : List X → Type 0) (prefix rest : List X) (c : X) → Longest P prefix rest
    → ¬ P (prefix ++ (rest ++ c ∷ [])) → Longest P prefix (rest ++ c ∷ [])
longest_push P prefix rest c l n = grind (arith, split_push)
