-- Syllables without notes. The last text of a body is one.
use Rattle.std.specs.Prelude.{◌≡◌, List, [], ◌∷◌, Bool, true, false, ◌==◌, ◌&&◌}
use Rattle.std.specs.List.{All}
use Rattle.gabc_body.specs.declared.snippets.Snippet.{Snippet}
use Rattle.gabc_body.specs.Syllable.{UnplacedSyllable, PlacedSyllable}

-- one snippet of GABC, which is empty
abbrev pub are_no_notes : List Snippet → Bool
are_no_notes [] = false
are_no_notes (s ∷ []) = (s.line == 0) && (s.span.from == s.span.to)
are_no_notes (s ∷ t ∷ snippets) = false

abbrev pub has_no_notes : UnplacedSyllable → Bool
has_no_notes m = are_no_notes m.snippets

-- of these, those after the first have no notes
abbrev pub OnlyFirstHasNotes : List PlacedSyllable → Type 0
OnlyFirstHasNotes [] = Unit {0}
OnlyFirstHasNotes (s ∷ later) = All (λ (t : PlacedSyllable). has_no_notes t.made ≡ true) later
