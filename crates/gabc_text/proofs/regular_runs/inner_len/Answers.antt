use Rattle.std.proofs.Common.{arith}
use Rattle.gabc_text.proofs.RegularBytes.{inner_step, none_inner}
use Rattle.gabc_text.proofs.regular_runs.inner_len.Goals as goal

pub loop-end-init : goal.loop-end-init
loop-end-init c = record { within = omega arith; inner = none_inner c.args.stop }

pub loop-end-preserved : goal.loop-end-preserved
loop-end-preserved c = record {
  within = omega (arith, c.inner_character_len-more.ensures.within);
  inner = inner_step c.args.stop c.args.bytes.now c.loop-end.end _ (c.inner_character_len-more.ensures.inner (omega (arith, c.if-more-eq0.false))) c.loop-end.invariant.inner;
}
