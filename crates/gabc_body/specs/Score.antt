-- The score of a text.
use Rattle.std.specs.Prelude.{ℕ, ◌+◌, List, [], Bool, true, false, take, drop, Option, Some, None, Result, Ok, Err}
use Rattle.gabc_places.specs.declared.code.Fault.{Fault}
use Rattle.gabc_places.specs.declared.limits.Limits.{Limits}
use Rattle.gabc_places.specs.Place.{place_after, placed_characters_after}
use Rattle.gabc_headers.specs.declared.heads.Heads.{Heads}
use Rattle.gabc_headers.specs.declared.heads.HeadFault.{HeadFault}
use Rattle.gabc_headers.specs.Book.{nabc_lines_of, macros_of}
use Rattle.gabc_headers.specs.Canonical.{canonical_heads}
use Rattle.gabc_headers.specs.Lines.{bytes_len}
use Rattle.gabc_headers.specs.Heads.{head_len, heads_of}
use Rattle.gabc_body.specs.declared.ending.InputEnding.{InputEnding}
use Rattle.gabc_body.specs.declared.ending.InputEnding.TheVariants.{Whole, Broken, At}
use Rattle.gabc_body.specs.declared.body_result.BodyResult.{BodyResult}
use Rattle.gabc_body.specs.declared.score.Score.{Score}
use Rattle.gabc_body.specs.Reading.{body_by}

-- the text through the `%%` that ends the headers, and the body after it
abbrev pub heads_text : List ℕ → List ℕ
heads_text t = take (head_len t + 2) t

abbrev pub after_heads : List ℕ → List ℕ
after_heads t = drop (head_len t + 2) t

-- the body of a text with these headers and this ending
abbrev pub body_in : Limits → InputEnding → List ℕ → Heads → BodyResult
body_in limits ending t heads =
    body_by limits (bytes_len (canonical_heads heads.book)) (nabc_lines_of heads.book) (macros_of heads.book) heads.findings (place_after t) ending
    (placed_characters_after (heads_text t) (after_heads t))

abbrev pub with_body : Heads → BodyResult → Score
with_body heads body = record { book = Some heads.book; syllables = body.syllables; findings = body.findings; fault = body.fault }

-- A fault of the headers whose point is the end counts only if the text ended whole; else the fault
-- of the ending does, if there is one.
abbrev pub head_fault_by : InputEnding → Bool → Fault → Option Fault
head_fault_by ending false fault = Some fault
head_fault_by Whole true fault = Some fault
head_fault_by Broken true fault = None
head_fault_by (At other) true fault = Some other

abbrev pub score_by : Limits → InputEnding → List ℕ → Result Heads HeadFault → Score
score_by limits ending t (Ok heads) = with_body heads (body_in limits ending t heads)
score_by limits ending t (Err stop) = record { book = None; syllables = []; findings = stop.findings; fault = head_fault_by ending stop.at_end stop.fault }

-- The score of a text: its headers, and the body after them.
abbrev pub score_of : Limits → InputEnding → List ℕ → Score
score_of limits ending t = score_by limits ending t (heads_of limits t)
