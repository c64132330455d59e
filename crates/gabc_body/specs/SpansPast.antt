-- The spans of several syllables that are open after a syllable, by those open before it.
use Rattle.std.specs.Prelude.{◌≡◌, ℕ, List, [], ◌∷◌, Bool, codes}
use Rattle.gabc_text.specs.declared.view.Piece.{Piece}
use Rattle.gabc_body.specs.declared.before.Spans.{Spans}
use Rattle.gabc_body.specs.Syllable.{UnplacedSyllable, slice, is_open_after}

-- a span is open after these pieces of a kept text, by the tags that open and close it, if it was
-- open or not before them
abbrev pub open_past : List ℕ → List ℕ → List ℕ → List Piece → Bool → Bool
open_past opening closing kept [] was = was
open_past opening closing kept (p ∷ ps) was = open_past opening closing kept ps (is_open_after opening closing was p.kind (slice p.span kept))

abbrev pub eu_past : UnplacedSyllable → Bool → Bool
eu_past m was = open_past (codes "<eu>") (codes "</eu>") m.kept m.text.pieces was

abbrev pub nlba_past : UnplacedSyllable → Bool → Bool
nlba_past m was = open_past (codes "<nlba>") (codes "</nlba>") m.kept m.text.pieces was

-- the spans that are open after a syllable follow from its text and from those that are open before
-- it
pub record FollowsSpans (spans : Spans) (m : UnplacedSyllable) : Type 0 where
  pub eu : m.eu ≡ eu_past m spans.eu
  pub nlba : m.nlba ≡ nlba_past m spans.nlba
