-- Where characters begin in a text, and the texts of spans between them.
use Rattle.std.proofs.Common.{◌≡◌, ℕ, ◌≤◌, List, ◌++◌, true, length, drop, refl, arith}
use Rattle.std.proofs.lemmas.Bool.{le-leb}
use Rattle.std.proofs.lemmas.Bool.Decides.{nat_tests}
use lib.Utf8.{encode}
use Rattle.gabc_places.specs.declared.place.Span.{Span}
use Rattle.gabc_body.specs.Syllable.{is_seam, slice, text_at}

-- a character's bytes begin a character
pub first_byte : (c : ℕ) (t : List ℕ) → is_seam (encode c ++ t) ≡ true
unfolding encode
first_byte c t = grind (arith, nat_tests)

-- a span between characters has its text
pub text_is : (span : Span) (bytes : List ℕ) → span.from ≤ span.to → span.to ≤ length bytes → is_seam (drop span.from bytes) ≡ true → is_seam (drop span.to bytes) ≡ true
    → text_at span bytes ≡ slice span bytes
text_is span bytes order within from to = rw (le-leb span.from span.to order, le-leb span.to (length bytes) within, from, to) refl
