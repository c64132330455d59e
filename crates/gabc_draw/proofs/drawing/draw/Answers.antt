use Rattle.std.proofs.Common.{rules}
use Rattle.gabc_draw.proofs.drawing.draw.Goals as goal

pub returns-clause-drawn : goal.returns-clause-drawn
returns-clause-drawn g c = record {
  picture = c.in_ok-picture.picture;
  shows = search rules;
  put = search rules;
}
