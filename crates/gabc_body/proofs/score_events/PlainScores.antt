-- A score without what is found beside its body: it has the same book, syllables and fault.
use Rattle.std.proofs.Common.{◌≡◌, ℕ, List, Result, Ok, Err, arith}
use Rattle.gabc_places.specs.declared.limits.Limits.{Limits}
use Rattle.gabc_places.specs.Place.{place_after, placed_characters_after}
use Rattle.gabc_headers.specs.declared.heads.Heads.{Heads}
use Rattle.gabc_headers.specs.declared.heads.HeadFault.{HeadFault}
use Rattle.gabc_headers.specs.Book.{nabc_lines_of, macros_of}
use Rattle.gabc_headers.specs.Canonical.{canonical_heads}
use Rattle.gabc_headers.specs.Lines.{bytes_len}
use Rattle.gabc_headers.specs.Heads.{heads_of}
use Rattle.gabc_body.specs.declared.body_result.BodyResult.{BodyResult}
use Rattle.gabc_body.specs.declared.ending.InputEnding.{InputEnding}
use Rattle.gabc_body.specs.declared.score.Score.{Score}
use Rattle.gabc_body.specs.Body.{body_of}
use Rattle.gabc_body.specs.Events.{body_events}
use Rattle.gabc_body.specs.Score.{heads_text, after_heads, with_body}
use Rattle.gabc_body.specs.witness.EmittedScore.{emitted_score_by, emitted_score}
use Rattle.gabc_body.proofs.gathering.FirstNotes.{body_alike}

abbrev pub plain_in : Limits → InputEnding → List ℕ → Heads → BodyResult
plain_in limits ending t heads =
    let xs = placed_characters_after (heads_text t) (after_heads t) in
    body_of limits (bytes_len (canonical_heads heads.book)) heads.findings (place_after t) ending xs (body_events (nabc_lines_of heads.book) (macros_of heads.book) xs)

abbrev pub plain_by : Limits → InputEnding → List ℕ → Result Heads HeadFault → Score
plain_by limits ending t (Ok heads) = with_body heads (plain_in limits ending t heads)
plain_by limits ending t (Err stop) = emitted_score_by limits ending t (Err stop)

abbrev pub plain_of : Limits → InputEnding → List ℕ → Score
plain_of limits ending t = plain_by limits ending t (heads_of limits t)

pub record ScoresAlike (r s : Score) : Type 0 where
  pub book : r.book ≡ s.book
  pub syllables : r.syllables ≡ s.syllables
  pub fault : r.fault ≡ s.fault

pub alike_by : (limits : Limits) (ending : InputEnding) (t : List ℕ) (r : Result Heads HeadFault) → ScoresAlike (emitted_score_by limits ending t r) (plain_by limits ending t r)
alike_by limits ending t r = grind (arith, body_alike)

pub alike : (limits : Limits) (ending : InputEnding) (t : List ℕ) → ScoresAlike (emitted_score limits ending t) (plain_of limits ending t)
alike limits ending t = alike_by limits ending t (heads_of limits t)
