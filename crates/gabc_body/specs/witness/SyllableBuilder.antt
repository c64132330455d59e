-- The syllable that a gatherer builds.
use Rattle.std.specs.Prelude.{ℕ, ◌+◌, List, [], ◌∷◌, ◌++◌, Bool, length, encode_utf8}
use Rattle.gabc_text.specs.TextView.{ViewContent}
use Rattle.gabc_body.specs.declared.snippets.Snippet.{Snippet}
use Rattle.gabc_body.specs.Syllable.{UnplacedSyllable, prefix_of}
use Rattle.gabc_text.specs.BuiltText.{empty_view}

-- the current syllable: its kept text, the number of its bytes before the current part, its view
-- and snippets
pub record OpenSyllable : Type 0 where
  pub kept : List ℕ
  pub from : ℕ
  pub view : ViewContent
  pub snippets : List Snippet

abbrev pub nothing_open : OpenSyllable
nothing_open = record { kept = []; from = 0; view = empty_view; snippets = [] }

abbrev pub with_kept : OpenSyllable → ℕ → OpenSyllable
with_kept o c = record o { kept = o.kept ++ encode_utf8 c }

abbrev pub past_mark : List ℕ → ℕ → OpenSyllable → OpenSyllable
past_mark kept mark o = record o { kept = kept ++ encode_utf8 mark; from = length (kept ++ encode_utf8 mark) }

abbrev pub past_text : OpenSyllable → OpenSyllable
past_text o = past_mark o.kept 40 o

abbrev pub snippet_from : OpenSyllable → ℕ → List ℕ → Snippet
snippet_from o line kept = record { line = line; span = record { from = o.from; to = length kept } }

abbrev pub past_snippet : OpenSyllable → ℕ → ℕ → ℕ → OpenSyllable
past_snippet o line count mark =
    let kept = prefix_of (o.from + count) o.kept in
    record (past_mark kept mark o) { snippets = o.snippets ++ snippet_from o line kept ∷ [] }

abbrev pub made_from : OpenSyllable → Bool → Bool → UnplacedSyllable
made_from o eu nlba = record { text = o.view; kept = o.kept; snippets = o.snippets; eu = eu; nlba = nlba }
