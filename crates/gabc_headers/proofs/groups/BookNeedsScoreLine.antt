-- Headers without a fault have a line `%%`.
use Rattle.std.proofs.Common.{◌≡◌, ℕ, ◌+◌, ◌≤◌, List, [], ◌∷◌, ◌++◌, true, refl, length, Option, Some, None, Ok, arith}
use Rattle.gabc_places.specs.declared.limits.Limits.{Limits}
use Rattle.gabc_places.specs.Findings.{Stop, earliest, or_earlier}
use Rattle.gabc_headers.specs.declared.heads.Heads.{Heads}
use Rattle.gabc_headers.specs.Lines.{lines, has_score}
use Rattle.gabc_headers.specs.Heads.{head_len, open_stops, missing_score, text_stops, heads_of}
use Rattle.gabc_headers.proofs.stops.PointsOfStops.{score_within}

some_earliest : (xs ys : List Stop) (s : Stop) → (first : Stop) × (earliest (xs ++ s ∷ ys) ≡ Some first)
some_earliest [] ys s = (or_earlier s (earliest ys), refl)
some_earliest (x ∷ xs) ys s = (or_earlier x (earliest (xs ++ s ∷ ys)), refl)

-- without it something stops the headers at the end
stopped : (limits : Limits) (t : List ℕ) → (o : Option ℕ) → (first : Stop) × (earliest (text_stops limits.header t ++ (open_stops (length t) o ++ missing_score o t)) ≡ Some first)
stopped limits t None = some_earliest (text_stops limits.header t) [] _
stopped limits t (Some k) = some_earliest (text_stops limits.header t) [] _

pub has_score_line : (limits : Limits) (t : List ℕ) (heads : Heads) → heads_of limits t ≡ Ok heads → has_score (lines t) ≡ true
has_score_line limits t heads e = grind (arith, stopped)

pub score_after : (limits : Limits) (t : List ℕ) (heads : Heads) → heads_of limits t ≡ Ok heads → head_len t + 2 ≤ length t
score_after limits t heads e = score_within t (has_score_line limits t heads e)
