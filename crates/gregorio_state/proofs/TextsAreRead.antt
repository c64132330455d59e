-- Bytes are read as a text exactly where they are UTF-8.
use Rattle.std.proofs.Common.{◌≡◌, ℕ, List, Some, None, IsUtf8, refl, arith}
use Rattle.std.proofs.lemmas.Str.{IsUtf8-from_is_utf8, is_utf8-from_IsUtf8}
use Rattle.gregorio_state.specs.machine.Reading.{text_of}

pub text_read : (bytes : List ℕ) → IsUtf8 bytes → text_of bytes ≡ Some bytes
text_read bytes u = rw (is_utf8-from_IsUtf8 bytes u) refl

pub text_refused : (bytes : List ℕ) → (IsUtf8 bytes → ⊥) → text_of bytes ≡ None
text_refused bytes fails = grind (arith, IsUtf8-from_is_utf8)
