-- The parts of a syllable's canonical text.
use Rattle.std.specs.Prelude.{ℕ, List, ◌++◌, codes}
use Rattle.std.specs.List.{flat_map}
use Rattle.gabc_body.specs.declared.snippets.Snippet.{Snippet}
use Rattle.gabc_body.specs.Syllable.{slice}

-- snippets, each with a `|` before it
abbrev pub snippets_after_bars : List ℕ → List Snippet → List ℕ
snippets_after_bars kept snippets = flat_map (λ (s : Snippet). codes "|" ++ slice s.span kept) snippets
