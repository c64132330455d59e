-- The findings in the headers of a text, and the faults that stop them, by the parts of its lines.
use Rattle.std.specs.Prelude.{ℕ, List, Option, Result}
use Rattle.gabc_places.specs.declared.limits.Limits.{Limits}
use Rattle.gabc_places.specs.Findings.{Known, Stop}
use Rattle.gabc_headers.specs.declared.heads.Heads.{Heads}
use Rattle.gabc_headers.specs.declared.heads.HeadFault.{HeadFault}
use Rattle.gabc_headers.specs.Heads.{findings_of_name, findings_of_parts, stops_of_score, stops_of_parts, heads_of_parts_by}
use Rattle.gabc_headers.specs.witness.Parts.{head_parts}

abbrev pub name_findings : List ℕ → List Known
name_findings t = findings_of_name t (head_parts t)

abbrev pub head_findings : List ℕ → List Known
head_findings t = findings_of_parts t (head_parts t)

abbrev pub score_stops : Limits → List ℕ → List Stop
score_stops limits t = stops_of_score limits t (head_parts t)

abbrev pub head_stops : Limits → List ℕ → List Stop
head_stops limits t = stops_of_parts limits t (head_parts t)

abbrev pub heads_by : List ℕ → Option Stop → Result Heads HeadFault
heads_by t o = heads_of_parts_by t (head_parts t) o
