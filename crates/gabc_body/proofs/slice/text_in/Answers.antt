use Rattle.std.proofs.Common.{◌≡◌, ℕ, ◌≤◌, zero, suc, List, [], ◌∷◌, true, drop, slice_range, refl, arith}
use Rattle.std.specs.Str.{IsCharBoundary}
use Rattle.std.proofs.lemmas.Bool.{le-leb, lt-ltb}
use Rattle.gabc_places.specs.declared.place.Span.{Span}
use Rattle.gabc_body.specs.Syllable.{begins_character, is_seam, slice, text_at}
use Rattle.gabc_body.proofs.slice.text_in.Goals as goal

begins : (b : ℕ) → (128 ≤ b → 192 ≤ b) → begins_character b ≡ true
begins b h = grind (arith, lt-ltb)

seam_here : (bytes : List ℕ) (i : ℕ) → IsCharBoundary bytes i → is_seam (drop i bytes) ≡ true
seam_here [] zero h = refl
seam_here [] (suc i) h = refl
seam_here (b ∷ bytes) zero h = begins b (h.1 (omega arith))
seam_here (b ∷ bytes) (suc i) h = let l = h.0 in seam_here bytes i (omega arith, λ x y. h.1 (omega arith) y)

text_is : (span : Span) (bytes : List ℕ) → span.from ≤ span.to → IsCharBoundary bytes span.from → IsCharBoundary bytes span.to → slice_range bytes span.from span.to ≡ text_at span bytes
unfolding slice
text_is span bytes l f t = grind (arith, le-leb, seam_here)

pub returns : goal.returns
returns c = grind (arith, text_is)
