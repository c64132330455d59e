use Rattle.gabc_places.proofs.decoding.PlainTextsAreReadAgain.{all_scalars}
use Rattle.gabc_body.proofs.by_kept.ScoreByKept.{body_is, score_is}
use Rattle.gabc_body.proofs.by_kept_laws.a_score_says_what_is_kept.Goals as goal

pub returns-clause-body : goal.returns-clause-body
returns-clause-body c limits ending t heads s h = body_is c.texts_go_by_kept.ensures limits ending t (all_scalars t s) h heads

pub returns-clause-score : goal.returns-clause-score
returns-clause-score c limits ending t s h = score_is c.texts_go_by_kept.ensures limits ending t (all_scalars t s) h
