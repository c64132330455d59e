use Rattle.gabc_score.proofs.by_kept.KeptAgainIsRead.{kept_again_is_read}
use Rattle.gabc_score.proofs.kept_laws.a_text_is_kept_again_by_kept.Goals as goal

pub returns : goal.returns
returns c = kept_again_is_read c.texts_go_by_kept.ensures c.laws_of_stages.ensures c.a_text_is_read_from_its_beginning.ensures
