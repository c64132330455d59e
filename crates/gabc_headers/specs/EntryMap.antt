-- The gathered headers: names with values, each name at the place of its first and with the value
-- of its last.
use Rattle.std.specs.Prelude.{ℕ, List, [], ◌∷◌, ◌++◌, Bool, cond, bytes_eq, codes}

abbrev pub is_annotation : List ℕ → Bool
is_annotation name = bytes_eq name (codes "annotation")

-- the value goes to the entry of that name, or else a new one is last
abbrev pub with_value : {X : Type 0} → List (List ℕ × X) → List ℕ → X → List (List ℕ × X)
with_value [] name v = (name, v) ∷ []
with_value (e ∷ es) name v = cond (bytes_eq name e.0) ((e.0, v) ∷ es) (e ∷ with_value es name v)

-- the same, but an annotation is always last
abbrev pub put_entry : {X : Type 0} → List (List ℕ × X) → List ℕ → X → List (List ℕ × X)
put_entry es name v = cond (is_annotation name) (es ++ (name, v) ∷ []) (with_value es name v)

-- all of them put in turn
abbrev pub put_all : {X : Type 0} → List (List ℕ × X) → List (List ℕ × X) → List (List ℕ × X)
put_all done [] = done
put_all done (e ∷ es) = put_all (put_entry done e.0 e.1) es
