-- Where the machine stands after a token is what the definitions say of it.
use Rattle.std.proofs.Common.{◌≡◌, ℕ, ◌+◌, ◌<◌, ◌^◌, List, ◌∷◌, arith}
use Rattle.gabc_places.specs.declared.place.Place.{Place}
use Rattle.gabc_text.specs.declared.token.TagEffect.{TagEffect}
use Rattle.gabc_text.specs.declared.progress.Progress.{Progress}
use Rattle.gabc_text.specs.Token.{Token}
use Rattle.gabc_text.specs.View.{effect, place_of, bytes_of, begin_of, end_of, count_pieces}
use Rattle.gabc_text.specs.Events.{kept_of, waiting_blank}
use Rattle.gabc_text.specs.machine.TextStage.{progress_after}
use Rattle.gabc_text.proofs.machine.FactsOfTokens.{facts_of}

-- where the machine stands after the tokens before
abbrev pub progress_of : Place → List Token → Place → ℕ → Progress
progress_of at before p n = record {
  place = place_of at before;
  start = bytes_of (kept_of before);
  next = p;
  kept = n;
  pieces = count_pieces before;
  blank = waiting_blank before;
  begin = begin_of before;
  end = end_of before;
}

-- ---- the counts after a token

module _ (at : Place) (before : List Token) (k : Token) (p : Place) (small : count_pieces before + 1 < 2 ^ 64) where
  abbrev spot_there : Progress
  spot_there = progress_of at before p (bytes_of (kept_of (k ∷ before)))

  -- where the machine stands after a token
  pub spot_emitted : (so : TagEffect) (next : Place) → effect k ≡ so → next ≡ place_of at (k ∷ before)
      → progress_after (facts_of before) spot_there k.kind so next ≡ progress_of at (k ∷ before) p (bytes_of (kept_of (k ∷ before)))
  spot_emitted so next e f = grind arith
