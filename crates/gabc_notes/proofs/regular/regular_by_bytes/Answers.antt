use Rattle.std.proofs.Common.{◌<◌, ◌+◌, length, drop, ap, sym, ◌∙◌, arith}
use Rattle.std.proofs.lemmas.List.{length-drop, take_rest}
use Rattle.std.specs.Option.{option_map}
use Rattle.gabc_patterns.specs.LongestPrefix.{IsLongestPrefix}
use Rattle.gabc_notes.specs.Regular.{IsRegular}
use Rattle.gabc_notes.specs.machine.Regular.{reading_at}
use Rattle.gabc_notes.proofs.machine.RegularBrackets.{begun_to, closed_outside, no_byte, past_bracket, past_byte, unclosed, warned_at}
use Rattle.gabc_notes.proofs.machine.RegularFronts.{at_end}
use Rattle.gabc_notes.proofs.regular.regular_by_bytes.Goals as goal
use Rattle.gabc_notes.proofs.regular.regular_by_bytes.Goals.{then-len-rest-via-then-len-rest, then-len-rest-via-else-len-rest+then-warns_after, then-is_raw+else-len-rest+else-warns_after, else-is_raw}

pub loop-read-init : goal.loop-read-init
loop-read-init c = grind (arith, begun_to)

pub returns-in-None : goal.returns-in-None
returns-in-None c =
    let i = c.loop-read.invariant in
    rw (c.as_bytes-bytes.ensures.value) at (no_byte _ _ _ _ c.as_bytes-bytes.ensures.utf8 i.read_to c.loop-read-test.true i.outside
    (ap (option_map reading_at) (sym c.in-None.is) ∙ c.after.ensures i.outside))

pub returns-then-len-rest : goal.returns-then-len-rest
returns-then-len-rest c =
    let bytes = c.as_bytes-bytes.result.now in
    let i = c.loop-read.invariant in
    let rest = take_rest bytes (c.loop-read.read + 1) in
    let read = past_byte bytes _ _ _ c.as_bytes-bytes.ensures.utf8 i.read_to c.loop-read-test.true i.outside c.in-Some.next (ap (option_map reading_at) (sym c.in-Some.is) ∙ c.after.ensures i.outside) in
    let raw = sym c.is_raw.ensures ∙ c.if-is_raw.true in
    let within = rw (rest) at c.inside_len-len.ensures.within in
    let all = rw (rest) at c.inside_len-len.ensures.inside in
    let longest : IsLongestPrefix IsRegular bytes c.loop-read.regular =
    elim c.then-len-rest.branch [
      | then-len-rest-via-then-len-rest w ↦ unclosed bytes c.in-Some.next _ c.loop-read.regular c.inside_len-len.result c.as_bytes-bytes.ensures.utf8 read raw within all (rw (rest) at w.if-len-rest.true)
      | then-len-rest-via-else-len-rest+then-warns_after w ↦ (let unlike = rw (rest) at w.if-len-rest.false in
          let less : c.inside_len-len.result < length (drop (c.loop-read.read + 1) bytes) = omega (arith, within, unlike) in
          warned_at bytes c.in-Some.next _ c.loop-read.regular c.inside_len-len.result c.as_bytes-bytes.ensures.utf8 read raw within all less ((rw (rest) at c.inside_len-len.ensures.closed) less)
          (sym (rw (rest) at w.warns_after.ensures) ∙ w.if-warns_after.true))
    ] in
    rw (c.as_bytes-bytes.ensures.value) at longest

pub loop-read-preserved : goal.loop-read-preserved
loop-read-preserved c =
    let bytes = c.as_bytes-bytes.result.now in
    let i = c.loop-read.invariant in
    let rest = take_rest bytes (c.loop-read.read + 1) in
    let read = past_byte bytes _ _ _ c.as_bytes-bytes.ensures.utf8 i.read_to c.loop-read-test.true i.outside c.in-Some.next (ap (option_map reading_at) (sym c.in-Some.is) ∙ c.after.ensures i.outside) in
    elim c.if-is_raw.branch [
      | then-is_raw+else-len-rest+else-warns_after w ↦ (let within = rw (rest) at w.inside_len-len.ensures.within in
          let unlike = rw (rest) at w.if-len-rest.false in
          let less : w.inside_len-len.result < length (drop (c.loop-read.read + 1) bytes) = omega (arith, within, unlike) in
          let left = length-drop (c.loop-read.read + 1) bytes in
          rw (c.longest-regular.ensures, w.point-is, w.read-is, w.closed-point.ensures) (record {
            within = omega (arith, left, less);
            outside = closed_outside c.in-Some.next.item;
            read_to = past_bracket bytes c.in-Some.next _ c.loop-read.regular w.inside_len-len.result c.as_bytes-bytes.ensures.utf8 read (sym c.is_raw.ensures ∙ w.if-is_raw.true)
                within (rw (rest) at w.inside_len-len.ensures.inside) less ((rw (rest) at w.inside_len-len.ensures.closed) less) (sym (rw (rest) at w.warns_after.ensures) ∙ w.if-warns_after.false);
          }))
      | else-is_raw w ↦ rw (c.longest-regular.ensures, w.point-is, w.read-is) (record {
        within = omega (arith, c.loop-read-test.true);
        outside = sym c.is_raw.ensures ∙ w.if-is_raw.false;
        read_to = read;
      })
    ]

pub returns : goal.returns
returns c = rw (c.as_bytes-bytes.ensures.value) at (at_end _ _ _ _ c.loop-read.invariant.read_to c.as_bytes-bytes.ensures.utf8 (omega (arith, c.loop-read-test.false)))
