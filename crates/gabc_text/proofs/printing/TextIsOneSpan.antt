-- A text that is one part of the kept bytes: a run that goes up to the last piece.
use Rattle.std.proofs.Common.{arith, ◌≡◌, ℕ, ◌+◌, ◌<◌, ◌≤◌, List, [], ◌∷◌, length, drop, get_or, refl, ◌∙◌, append-nil, add-one, drop-cons}
use Rattle.gabc_text.specs.declared.styles.Styles.{Styles}
use Rattle.gabc_text.specs.declared.view.Piece.{Piece}
use Rattle.gabc_text.specs.declared.view.TextView.{TextView}
use Rattle.gabc_text.specs.declared.canonical.Run.{Run}
use Rattle.gabc_text.specs.machine.Runs.{text_at, text_after}
use Rattle.gabc_text.specs.Canonical.{span_bytes, braces, listed_styles}
use Rattle.gabc_text.specs.TextSpan.{GoOnAt, GoesOnAt}
use Rattle.gabc_text.proofs.printing.AfterTheLastPiece.{last_text}

-- after the last piece, with no style open and no brace there, nothing is put
nothing_after : (v : TextView) (kept : List ℕ) (old : Styles) (i : ℕ) → listed_styles old ≡ [] → length v.pieces.items ≤ i → braces v.centre i ≡ []
    → text_at v kept old i ≡ []
nothing_after v kept old i none after no_braces = last_text v.centre kept i (listed_styles old) v.pieces.items after ∙ rw (none, no_braces) refl

pub one_span : (v : TextView) (kept : List ℕ) (old : Styles) (r : Run) → listed_styles old ≡ [] → length v.pieces.items ≤ r.next → braces v.centre r.next ≡ []
    → text_after v kept old r ≡ span_bytes kept r.span
one_span v kept old r none after no_braces = grind (arith, nothing_after, append-nil)

-- pieces that go on: the first of them, and those after it
pub next_of_all : (kept : List ℕ) (old : Styles) (at i : ℕ) (ps : List Piece) (d : Piece) → i < length ps → GoOnAt kept old at (drop i ps)
    → GoesOnAt kept old at (get_or ps i d) × GoOnAt kept old (get_or ps i d).span.to (drop (i + 1) ps)
next_of_all kept old at i ps d h g =
    let e : drop i ps ≡ get_or ps i d ∷ drop (i + 1) ps = rw add-one (drop-cons ps i d h) in
    rw e at g
