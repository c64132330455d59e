use Rattle.std.proofs.Common.{◌≡◌, [], take, false}
use Rattle.gabc_text.proofs.resuming.KeptTextGivesStage.{IsBack}
use Rattle.gabc_text.proofs.laws.a_kept_text_gives_the_stage_back.Given as goal

-- what was read of the kept text is kept again
abbrev pub invariant-loop-c : goal.invariant-loop-c
invariant-loop-c l = record {
  back : IsBack (take l.c-index l.kept) false l.again;
  empty : l.room ≡ record { items = []; limit = 8 };
}
