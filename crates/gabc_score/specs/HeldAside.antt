-- The outputs of a stage, but for its pending syllable: the same with one syllable in the place
-- of another.
use Rattle.std.specs.Prelude.{◌≡◌, ◌⊎◌, ◌||◌, List, [], ◌∷◌, Bool, Option, Some, None}
use Rattle.gabc_score.specs.Before.{sounds}
use Rattle.gabc_body.specs.Canonical.{canonical}
use Rattle.gabc_body.specs.ScoreEvents.{ScoreOutput, Found, Stop, Syllable, End}
use Rattle.gabc_body.specs.Syllable.{UnplacedSyllable}

-- A pending syllable may be equivalent to another: they begin a word alike, have one canonical
-- text, leave the same spans open, and have a note or a clef alike. `first` says whether no
-- syllable comes before them.
pub record IsEquivalentSyllable (first : Bool) (m n : UnplacedSyllable) : Type 0 where
  pub starts : (first || m.text.word_start) ≡ (first || n.text.word_start)
  pub canonical : canonical (first || m.text.word_start) m ≡ canonical (first || n.text.word_start) n
  pub eu : m.eu ≡ n.eu
  pub nlba : m.nlba ≡ n.nlba
  pub sounds : sounds m ≡ sounds n

module _ (m n : UnplacedSyllable) where
  -- the same, or the one syllable in the place of the other
  abbrev pub IsSameOutput : ScoreOutput → ScoreOutput → Type 0
  IsSameOutput (Found f) (Found g) = f ≡ g
  IsSameOutput (Stop f) (Stop g) = f ≡ g
  IsSameOutput (Syllable s) (Syllable t) = (s ≡ t) ⊎ ((s.made ≡ m) × ((t.made ≡ n) × (s.position ≡ t.position)))
  IsSameOutput End End = Unit {0}
  IsSameOutput _ _ = ⊥

  abbrev pub AreSameOutputs : List ScoreOutput → List ScoreOutput → Type 0
  AreSameOutputs [] [] = Unit {0}
  AreSameOutputs (o ∷ os) (p ∷ ps) = IsSameOutput o p × AreSameOutputs os ps
  AreSameOutputs _ _ = ⊥

  abbrev pub AreSameLists : List (List ScoreOutput) → List (List ScoreOutput) → Type 0
  AreSameLists [] [] = Unit {0}
  AreSameLists (os ∷ lists) (ps ∷ others) = AreSameOutputs os ps × AreSameLists lists others
  AreSameLists _ _ = ⊥

-- of a pending syllable or none: there is none, or the one is equivalent to the other
abbrev pub HoldTheSame : Bool → Option UnplacedSyllable → Option UnplacedSyllable → Type 0
HoldTheSame first None None = Unit {0}
HoldTheSame first (Some m) (Some n) = IsEquivalentSyllable first m n
HoldTheSame first _ _ = ⊥

-- the same is emitted, but that the pending syllable of the one may take the place of that of the
-- other
abbrev pub GiveTheSame : Option UnplacedSyllable → Option UnplacedSyllable → List (List ScoreOutput) → List (List ScoreOutput) → Type 0
GiveTheSame (Some m) (Some n) lists others = AreSameLists m n lists others
GiveTheSame _ _ lists others = lists ≡ others
