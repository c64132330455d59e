use Rattle.std.proofs.Common.{◌≡◌, ◌∙◌, sym, arith, None, get_or, ◌≤◌, length}
use Rattle.gabc_nabc.specs.machine.Regular.{regular_after}
use Rattle.gabc_nabc.proofs.machine.RegularBytes.{read_none, read_same, read_stuck, read_to_end, read_whole}
use Rattle.gabc_nabc.proofs.regular.regular_by_bytes.Goals as goal

pub loop-read-init : goal.loop-read-init
loop-read-init c = record { so_far = read_none c.as_bytes-bytes.result.now }

pub loop-read-preserved-then-is_whole : goal.loop-read-preserved-then-is_whole
loop-read-preserved-then-is_whole c = record {
  so_far = read_whole _ c.loop-read.state c.in-Some.next c.loop-read.read c.loop-read.regular c.loop-read.invariant.so_far c.loop-read-test.true
      (cc (c.after.ensures, c.in-Some.is, c.from.ensures)) (sym c.is_whole.ensures ∙ c.if-is_whole.true);
}

pub loop-read-preserved : goal.loop-read-preserved
loop-read-preserved c = record {
  so_far = read_same _ c.loop-read.state c.in-Some.next c.loop-read.read c.loop-read.regular c.loop-read.invariant.so_far c.loop-read-test.true
      (cc (c.after.ensures, c.in-Some.is, c.from.ensures)) (sym c.is_whole.ensures ∙ c.if-is_whole.false);
}

pub returns-in-None : goal.returns-in-None
returns-in-None c =
    let same = c.as_bytes-bytes.ensures.value in
    let none : regular_after c.loop-read.state (get_or c.as_bytes-bytes.result.now c.loop-read.read 0) ≡ None = cc (c.after.ensures, c.in-None.is, c.from.ensures) in
    read_stuck c.args.text.now c.loop-read.state c.loop-read.read c.loop-read.regular (rw (same) at c.loop-read.invariant.so_far) c.utf8.text
    (rw (same) at none)

pub returns : goal.returns
returns c =
    let same = c.as_bytes-bytes.ensures.value in
    let all : length c.as_bytes-bytes.result.now ≤ c.loop-read.read = omega (arith, c.loop-read-test.false) in
    read_to_end c.args.text.now c.loop-read.state c.loop-read.read c.loop-read.regular (rw (same) at c.loop-read.invariant.so_far) c.utf8.text
    (rw (same) at all)
