-- A text that is one part of the kept bytes as it is printed.
use Rattle.std.specs.Prelude.{◌≡◌, ◌≤◌, ℕ, List, [], ◌∷◌, length, false, None}
use Rattle.gabc_text.specs.declared.styles.Styles.{Styles}
use Rattle.gabc_text.specs.declared.view.Piece.{Piece}
use Rattle.gabc_text.specs.TextView.{ViewContent}
use Rattle.gabc_text.specs.Canonical.{piece_text, span_bytes}

abbrev pub no_styles : Styles
no_styles = record { b = false; c = false; e = false; i = false; sc = false; tt = false; ul = false }

-- the kept bytes of a piece are its text
pub record IsAsKept (kept : List ℕ) (p : Piece) : Type 0 where
  pub ordered : p.span.from ≤ p.span.to
  pub within : p.span.to ≤ length kept
  pub text : piece_text kept p ≡ span_bytes kept p.span

-- a piece that begins at this byte as it is kept, after pieces with these styles
pub record GoesOnAt (kept : List ℕ) (old : Styles) (at : ℕ) (p : Piece) : Type 0 where
  pub styles : old ≡ p.styles
  pub meets : at ≡ p.span.from
  pub kept_so : IsAsKept kept p

-- pieces of which each begins at the end of the one before it, the first at this byte
abbrev pub GoOnAt : List ℕ → Styles → ℕ → List Piece → Type 0
GoOnAt kept old at [] = Unit {0}
GoOnAt kept old at (p ∷ ps) = GoesOnAt kept old at p × GoOnAt kept old p.span.to ps

-- pieces of which the first may begin anywhere
abbrev pub GoOn : List ℕ → List Piece → Type 0
GoOn kept [] = Unit {0}
GoOn kept (p ∷ ps) = GoOnAt kept no_styles p.span.from (p ∷ ps)

-- a text with no centre, whose pieces follow one another in the kept text as they are printed
pub record IsOnePart (v : ViewContent) (kept : List ℕ) : Type 0 where
  pub no_centre : v.centre ≡ None
  pub pieces : GoOn kept v.pieces
