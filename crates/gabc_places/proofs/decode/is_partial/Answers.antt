use Rattle.std.proofs.Common.{ℕ, ◌==◌, List, [], ◌∷◌, length, IsUtf8, IsTrue, refl, arith}
use Rattle.std.proofs.lemmas.Bool.{eqb-true}
use Rattle.std.proofs.lemmas.Str.{utf8_valid_len-IsUtf8}
use Rattle.gabc_places.specs.DecoderMachine.{IsPartial}
use Rattle.gabc_places.proofs.utf8.PartOfACharacter.{nothing_is_partial}
use Rattle.gabc_places.proofs.decode.is_partial.Goals as goal

-- a text is the beginning of one character only where it is empty
text_is : (bs : List ℕ) → IsUtf8 bs → (IsTrue (length bs == 0) → IsPartial bs) × (IsPartial bs → IsTrue (length bs == 0))
text_is [] u = (λ t. nothing_is_partial, λ p. refl)
text_is (b ∷ bs) u = (λ t. absurd (omega (arith, eqb-true (length (b ∷ bs)) 0 t)), λ p. absurd (omega (arith, utf8_valid_len-IsUtf8 (b ∷ bs) u, p.none)))

pub returns-in-Ok : goal.returns-in-Ok
returns-in-Ok c = rw c.is_empty.ensures (text_is c.args.bytes.now c.in-Ok.ensures.cases.1)
