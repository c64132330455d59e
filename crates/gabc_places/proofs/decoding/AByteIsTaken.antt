-- What a byte does to a decoder that runs.
use Rattle.std.proofs.Common.{◌≡◌, ℕ, ◌+◌, ◌<◌, false, List, [], ◌∷◌, ◌++◌, ap, sym, ◌∙◌, arith, append-nil}
use Rattle.std.proofs.lemmas.Bool.Decides.{nat_tests}
use Rattle.std.proofs.lemmas.Bool.{lt-ltb, cond-true}
use Rattle.std.specs.Char.{IsScalar}
use lib.Utf8.{encode}
use Rattle.gabc_places.specs.Text.{utf8_prefix_of, tail_of}
use Rattle.gabc_places.specs.DecoderMachine.{DecoderState}
use Rattle.gabc_places.specs.witness.DecoderEvents.{DecoderStep, take_character, take_pending, take_byte}
use Rattle.gabc_places.proofs.utf8.CharacterByCharacter.{utf8_prefix_of-past, utf8_prefix_of-none}
use Rattle.gabc_places.proofs.utf8.PartOfACharacter.{nothing_is_partial}

-- the decoder that has taken one byte more, with nothing pending
abbrev pub with_byte : DecoderState → DecoderState
with_byte s = record s { taken = s.taken + 1; pending = [] }

abbrev after_byte : List ℕ → DecoderState → DecoderStep
after_byte bytes s = take_pending bytes (utf8_prefix_of bytes) (tail_of bytes) (with_byte s)

pub byte_taken : (x : ℕ) (s : DecoderState) → s.ended ≡ false → (s.taken ≡ s.limit → ⊥) → take_byte x s ≡ after_byte (s.pending ++ x ∷ []) s
byte_taken x s e h = grind arith

spelled : (x : ℕ) → x < 128 → x ∷ [] ≡ encode x ++ []
unfolding encode
spelled x less = sym (append-nil (encode x) ∙ cond-true _ _ _ (lt-ltb x 128 less))

-- a byte below 128 is a character
pub plain_is_scalar : (x : ℕ) → x < 128 → IsScalar x
plain_is_scalar x less = grind (arith, nat_tests)

-- a byte below 128, with nothing pending, is a character
ascii : (x : ℕ) → x < 128 → utf8_prefix_of (x ∷ []) ≡ x ∷ []
ascii x less = ap utf8_prefix_of (spelled x less) ∙ utf8_prefix_of-past x [] (plain_is_scalar x less) ∙ ap (λ l. x ∷ l) (utf8_prefix_of-none [] nothing_is_partial.none)

pub plain_byte_taken : (x : ℕ) (s : DecoderState) → s.ended ≡ false → (s.taken ≡ s.limit → ⊥) → s.pending ≡ [] → x < 128
    → take_byte x s ≡ take_character x (record s { taken = s.taken + 1 })
plain_byte_taken x s e h none less = grind (arith, byte_taken, ascii)
