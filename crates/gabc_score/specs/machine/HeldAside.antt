-- Two states gathered, which may differ in the pending syllable and in which came first, a note or
-- a clef.
use Rattle.std.specs.Prelude.{◌≡◌, ◌⊎◌, ◌||◌, not, List, ◌∷◌, Bool, true, Option, is_some}
use Rattle.gabc_notes.specs.declared.item.ItemKind.{ItemKind}
use Rattle.gabc_body.specs.Syllable.{UnplacedSyllable}
use Rattle.gabc_body.specs.witness.Gatherer.{Gathered}

-- both are the same, or in both a note or a clef has come
abbrev pub AreInputsAlike : Option ItemKind → Option ItemKind → Type 0
AreInputsAlike a b = (a ≡ b) ⊎ ((is_some a ≡ true) × (is_some b ≡ true))

module _ (m n : UnplacedSyllable) where
  -- `n` is in place of `m` as the first syllable that is not emitted, and begins a word as `m`
  -- does, if a syllable is before it
  pub record IsSwapped (is_preceded : Bool) (ms ns : List UnplacedSyllable) : Type 0 where
    pub rest : List UnplacedSyllable
    pub one : ms ≡ m ∷ rest
    pub other : ns ≡ n ∷ rest
    pub twins : (not is_preceded || m.text.word_start) ≡ (not is_preceded || n.text.word_start)

  -- the syllables are the same, or have `n` in place of `m`
  abbrev pub AreMadeAlike : Bool → List UnplacedSyllable → List UnplacedSyllable → Type 0
  AreMadeAlike is_preceded ms ns = (ns ≡ ms) ⊎ IsSwapped is_preceded ms ns

  -- but for these `b` has gathered what `a` has
  pub record IsEquivalentAside (is_preceded : Bool) (a b : Gathered) : Type 0 where
    pub comes : AreInputsAlike a.first_kind b.first_kind
    pub made : AreMadeAlike is_preceded a.made b.made
    pub same : b ≡ record a { made = b.made; first_kind = b.first_kind }
