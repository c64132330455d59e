-- A text that is read by itself after the same is one syllable.
use Rattle.std.proofs.Common.{◌≡◌, ℕ, List, [], ◌∷◌, sym, ◌∙◌}
use Rattle.gabc_places.specs.declared.limits.Limits.{Limits}
use Rattle.gabc_body.specs.declared.before.Before.{Before}
use Rattle.gabc_body.specs.Syllable.{UnplacedSyllable}
use Rattle.gabc_score.specs.HeldAgain.{MayBeHeld}

pub one_syllable : (limits : Limits) (b : Before) (text : List ℕ) (m n : UnplacedSyllable) → MayBeHeld limits b text m → MayBeHeld limits b text n → m ≡ n
one_syllable limits b text m n may other = let same : m ∷ [] ≡ n ∷ [] = sym may.read.one ∙ other.read.one in cc
