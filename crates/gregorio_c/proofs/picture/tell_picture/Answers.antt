use Rattle.std.proofs.Common.{rules}
use Rattle.gregorio_c.proofs.picture.tell_picture.Goals as goal

pub returns-clause-answered : goal.returns-clause-answered
returns-clause-answered c = record {
  limits = c.default.result;
  usual = search rules;
  picture = c.in_ok-picture.picture;
  shows = search rules;
  put = search rules;
  counted = search rules;
}
