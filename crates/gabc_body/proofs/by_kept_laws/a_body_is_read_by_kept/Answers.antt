use Rattle.std.proofs.Common.{sym}
use Rattle.gabc_places.proofs.decoding.PlainTextsAreReadAgain.{all_scalars}
use Rattle.gabc_body.proofs.by_kept.BodyIsRead.{body_is_read, fits_so}
use Rattle.gabc_body.proofs.by_kept_laws.a_body_is_read_by_kept.Goals as goal

pub returns : goal.returns
returns c limits head lines macros found ending at t s l n = sym (body_is_read c.texts_go_by_kept.ensures limits head lines macros found ending at t (fits_so at t l n (all_scalars t s)))
