-- The text of a span is UTF-8, with no more bytes than the span has.
use Rattle.std.proofs.Common.{◌≡◌, ◌-◌, ◌≤◌, ℕ, List, [], length, Bool, true, false, cond, drop, refl, arith, IsUtf8}
use Rattle.std.specs.Prelude.{nat_le, ◌&&◌}
use Rattle.std.proofs.lemmas.Bool.{and_parts, leb-true}
use Rattle.std.proofs.lemmas.Str.{IsUtf8-between}
use Rattle.gabc_places.specs.declared.place.Span.{Span}
use Rattle.gabc_body.specs.Syllable.{slice, text_at, is_seam}
use Rattle.gabc_score.proofs.score_events.TextsArePlain.{seam_boundary}
use Rattle.gabc_tree.proofs.syllables.TextsFit.{slice_len}

pub text_utf8 : (span : Span) (bytes : List ℕ) → IsUtf8 bytes → IsUtf8 (text_at span bytes) × (length (text_at span bytes) ≤ span.to - span.from)
unfolding slice
text_utf8 span bytes u = by (nat_le span.from span.to && (nat_le span.to (length bytes) && (is_seam (drop span.from bytes) && is_seam (drop span.to bytes)))) refl
  where
    by : (b : Bool) → (nat_le span.from span.to && (nat_le span.to (length bytes) && (is_seam (drop span.from bytes) && is_seam (drop span.to bytes)))) ≡ b
        → IsUtf8 (cond b (slice span bytes) []) × (length (cond b (slice span bytes) []) ≤ span.to - span.from)
    by true e =
        let x = and_parts _ _ e in
        let y = and_parts _ _ x.1 in
        let z = and_parts _ _ y.1 in
        let order = leb-true span.from span.to x.0 in
        let within = leb-true span.to (length bytes) y.0 in
        let few = slice_len span bytes in
        (IsUtf8-between bytes span.from span.to u order (seam_boundary bytes span.from (omega arith) z.0) (seam_boundary bytes span.to within z.1), few)
    by false e = (([], (refl, refl)), omega arith)
