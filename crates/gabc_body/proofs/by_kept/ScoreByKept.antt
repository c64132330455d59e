-- A score is read by what is kept: the body after its headers is.
use Rattle.std.proofs.Common.{◌≡◌, ℕ, ◌<◌, ◌^◌, List, true, length, encode_utf8_all, Result, Ok, Err, refl, sym, ap}
use lib.Utf8.{scalars}
use Rattle.gabc_places.specs.declared.limits.Limits.{Limits}
use Rattle.gabc_headers.specs.declared.heads.Heads.{Heads}
use Rattle.gabc_headers.specs.declared.heads.HeadFault.{HeadFault}
use Rattle.gabc_headers.specs.Heads.{heads_of}
use Rattle.gabc_body.specs.declared.ending.InputEnding.{InputEnding}
use Rattle.gabc_body.specs.Score.{with_body, body_in, score_by, score_of}
use Rattle.gabc_body.specs.witness.EmittedScore.{emitted_body, emitted_score_by, emitted_score}
use Rattle.gabc_body.specs.witness.TextsByKept.{TextsGoByKept}
use Rattle.gabc_body.proofs.by_kept.BodyIsRead.{score_body_is_read}

module _ (alike : TextsGoByKept) (limits : Limits) (ending : InputEnding) (t : List ℕ) (is : scalars t ≡ true) (short : length (encode_utf8_all t) < 2 ^ 63) where
  pub body_is : (heads : Heads) → body_in limits ending t heads ≡ emitted_body limits ending t heads
  body_is heads = sym (score_body_is_read alike limits ending t heads is short)

  by_heads : (r : Result Heads HeadFault) → score_by limits ending t r ≡ emitted_score_by limits ending t r
  by_heads (Ok heads) = ap (with_body heads) (body_is heads)
  by_heads (Err stop) = refl

  pub score_is : score_of limits ending t ≡ emitted_score limits ending t
  score_is = by_heads (heads_of limits t)
