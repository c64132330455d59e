-- Snippets with `|` between them have one before each but the first.
use Rattle.std.proofs.Common.{◌≡◌, ℕ, List, [], ◌∷◌, ◌++◌, sym, ap, append-nil, codes}
use Rattle.gabc_body.specs.declared.snippets.Snippet.{Snippet}
use Rattle.gabc_body.specs.Syllable.{slice}
use Rattle.gabc_body.specs.Canonical.{with_bars}
use Rattle.gabc_body.specs.machine.SyllableText.{snippets_after_bars}

pub bars_after_first : (kept : List ℕ) (s : Snippet) (rest : List Snippet) → with_bars kept (s ∷ rest) ≡ slice s.span kept ++ snippets_after_bars kept rest
bars_after_first kept s [] = sym (append-nil (slice s.span kept))
bars_after_first kept s (t ∷ rest) = ap (λ x. slice s.span kept ++ (codes "|" ++ x)) (bars_after_first kept t rest)
