-- Patterns of text, and what they spell.
use Rattle.std.specs.Prelude.{◌≡◌, ℕ, ◌≢◌, ◌==◌, ◌⊎◌, List, [], ◌∷◌, ◌++◌, Bool, IsTrue}
use Rattle.std.specs.List.{concat, list_any}

infixr 55 ◌·◌
infixr 50 ◌or◌
-- a pattern of text
pub data Pattern : Type 0 where
  -- no text; the empty text
  never nothing : Pattern
  -- one of these characters; any character but this
  one_of : List ℕ → Pattern
  any_but : ℕ → Pattern
  -- one after the other; one or the other; any number of them
  ◌·◌ ◌or◌ : Pattern → Pattern → Pattern
  many : Pattern → Pattern

-- c is one of cs
abbrev pub is_in : ℕ → List ℕ → Bool
is_in c cs = list_any (λ d. d == c) cs

-- P of each part
abbrev pub Each : (List ℕ → Type 0) → List (List ℕ) → Type 0
Each P [] = Unit {0}
Each P (x ∷ xs) = P x × Each P xs

-- the text is one that the pattern spells
abbrev pub Spells : Pattern → List ℕ → Type 0
Spells never t = ⊥
Spells nothing t = t ≡ []
Spells (one_of cs) t = (c : ℕ) × IsTrue (is_in c cs) × (t ≡ c ∷ [])
Spells (any_but x) t = (c : ℕ) × (c ≢ x) × (t ≡ c ∷ [])
Spells (p · q) t = (a b : List ℕ) × Spells p a × Spells q b × (t ≡ a ++ b)
Spells (p or q) t = Spells p t ⊎ Spells q t
Spells (many p) t = (parts : List (List ℕ)) × Each (Spells p) parts × (t ≡ concat parts)

-- p, or no text
abbrev pub optional : Pattern → Pattern
optional p = p or nothing

-- just these characters, in this order
abbrev pub text : List ℕ → Pattern
text [] = nothing
text (c ∷ []) = one_of (c ∷ [])
text (c ∷ d ∷ cs) = one_of (c ∷ []) · text (d ∷ cs)
