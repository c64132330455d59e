use Rattle.gabc_places.proofs.decoding.PlainTextsAreReadAgain.{all_scalars}
use Rattle.gabc_body.proofs.by_kept.BodyIsRead.{fits_so}
use Rattle.gabc_body.proofs.by_kept.PrefixesAreRead.{prefix_is_read}
use Rattle.gabc_body.proofs.by_kept_laws.first_characters_are_read_by_kept.Goals as goal

pub returns : goal.returns
returns c lines macros at t before n s l f o u h = prefix_is_read c.texts_go_by_kept.ensures lines macros at t before (fits_so at t l f (all_scalars t s)) o u n h
