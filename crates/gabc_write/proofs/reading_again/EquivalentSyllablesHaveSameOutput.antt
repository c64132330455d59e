-- Pending syllables that are equivalent and say the same are written alike.
use Rattle.std.proofs.Common.{◌≡◌, ℕ, Bool, Option, Some, None, IfSome, arith}
use Rattle.std.proofs.lemmas.List.{append_cancel_left}
use Rattle.gabc_body.specs.Canonical.{canonical, starts_word}
use Rattle.gabc_score.specs.HeldAside.{HoldTheSame, IsEquivalentSyllable}
use Rattle.gabc_body.specs.Holding.{HasWholeSnippets}
use Rattle.gabc_body.specs.Syllable.{UnplacedSyllable}
use Rattle.gabc_body.specs.UnitRead.{HoldsSomeUnit}
use Rattle.gabc_body.specs.declared.syllable.Position.{Position}
use Rattle.gabc_write.specs.DumpOfSyllables.{HaveOneDump}
use Rattle.gabc_write.specs.SetDown.{SayTheSame, AreWrittenAlike}

-- what stands after the LF before a word is the same
canonical_alike : (first : Bool) (m n : UnplacedSyllable) → IsEquivalentSyllable first m n → (starts : Bool) → canonical starts m ≡ canonical starts n
canonical_alike first m n h starts = grind (arith, append_cancel_left)

module _ (whole : (lines : ℕ) (n : UnplacedSyllable) → HoldsSomeUnit lines n → HasWholeSnippets n)
    (dump : (first : Bool) (m n : UnplacedSyllable) (position : Position) → HasWholeSnippets m → HasWholeSnippets n → SayTheSame first (Some m) (Some n)
    → HaveOneDump (record { made = m; position = position }) (record { made = n; position = position })) where
  pub written_alike : (first : Bool) (lines others : ℕ) (o p : Option UnplacedSyllable) → IfSome o (HoldsSomeUnit lines) → IfSome p (HoldsSomeUnit others)
      → HoldTheSame first o p → SayTheSame first o p → AreWrittenAlike o p
  written_alike first lines others None None a b h says = tt
  written_alike first lines others (Some m) (Some n) a b h says = λ position. record {
    canonical = canonical_alike first m n h (starts_word position);
    dump = dump first m n position (whole lines m a) (whole others n b) says;
  }
  written_alike first lines others _ _ a b h says = absurd h
