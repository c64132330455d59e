-- The score of a text, by all events of its body.
use Rattle.std.specs.Prelude.{ℕ, List, [], None, Result, Ok, Err}
use Rattle.gabc_places.specs.declared.limits.Limits.{Limits}
use Rattle.gabc_places.specs.Place.{place_after, placed_characters_after}
use Rattle.gabc_headers.specs.declared.heads.Heads.{Heads}
use Rattle.gabc_headers.specs.declared.heads.HeadFault.{HeadFault}
use Rattle.gabc_headers.specs.Book.{nabc_lines_of, macros_of}
use Rattle.gabc_headers.specs.Canonical.{canonical_heads}
use Rattle.gabc_headers.specs.Heads.{heads_of}
use Rattle.gabc_headers.specs.Lines.{bytes_len}
use Rattle.gabc_body.specs.declared.ending.InputEnding.{InputEnding}
use Rattle.gabc_body.specs.declared.body_result.BodyResult.{BodyResult}
use Rattle.gabc_body.specs.declared.score.Score.{Score}
use Rattle.gabc_body.specs.Body.{body_of}
use Rattle.gabc_body.specs.NoteBeforeClef.{score_events}
use Rattle.gabc_body.specs.Score.{heads_text, after_heads, with_body, head_fault_by}

-- the body of a text with these headers and this ending
abbrev pub emitted_body : Limits → InputEnding → List ℕ → Heads → BodyResult
emitted_body limits ending t heads =
    let xs = placed_characters_after (heads_text t) (after_heads t) in
    body_of limits (bytes_len (canonical_heads heads.book)) heads.findings (place_after t) ending xs (score_events (nabc_lines_of heads.book) (macros_of heads.book) xs)

abbrev pub emitted_score_by : Limits → InputEnding → List ℕ → Result Heads HeadFault → Score
emitted_score_by limits ending t (Ok heads) = with_body heads (emitted_body limits ending t heads)
emitted_score_by limits ending t (Err stop) = record { book = None; syllables = []; findings = stop.findings; fault = head_fault_by ending stop.at_end stop.fault }

-- the score of a text
abbrev pub emitted_score : Limits → InputEnding → List ℕ → Score
emitted_score limits ending t = emitted_score_by limits ending t (heads_of limits t)
