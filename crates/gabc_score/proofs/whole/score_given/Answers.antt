use Rattle.std.proofs.Common.{◌≡◌, List, ℕ, Option, Ok, arith}
use Rattle.gabc_places.specs.Findings.{Stop}
use Rattle.gabc_headers.specs.declared.heads.Heads.{Heads}
use Rattle.gabc_headers.specs.Heads.{body_byte, heads_of_parts_by}
use Rattle.gabc_headers.specs.Parts.{HeaderPart}
use Rattle.gabc_score.proofs.whole.score_given.Goals as goal

-- the body of headers that are read whole begins after their `%%`
body_is : (t : List ℕ) (ps : List HeaderPart) (o : Option Stop) (heads : Heads) → Ok heads ≡ heads_of_parts_by t ps o → heads.body ≡ body_byte t
body_is t ps o heads e = grind arith

pub score_after-requires : goal.score_after-requires
score_after-requires g c = grind (arith, body_is)
