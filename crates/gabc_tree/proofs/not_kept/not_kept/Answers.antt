use Rattle.std.proofs.Common.{◌≡◌, ◌+◌, ◌++◌, ◌<◌, ◌≤◌, ◌^◌, ℕ, List, sym, ap, ◌∙◌, arith, length, subst, IsUtf8}
use Rattle.std.proofs.Math.Utf8.{encode}
use Rattle.gabc_places.proofs.texts.CharactersOfStrings.{chars-none}
use Rattle.std.specs.Str.{chars}
use Rattle.std.specs.Str.Iter.{chars_rest}
use Rattle.std.proofs.lemmas.List.{length-append}
use Rattle.std.specs.Char.{len_utf8}
use Rattle.std.proofs.lemmas.Str.{chars_past_char, length-encode, len_utf8_bounds}
use Rattle.gabc_nodes.specs.declared.node.Node.{Node}
use Rattle.gabc_tree.specs.NotKept.{nodes_from, begun}
use Rattle.gabc_tree.specs.Placed.{bytes_in}
use Rattle.gabc_tree.proofs.not_kept_nodes.FewBytes.{few_bytes}
use Rattle.gabc_tree.specs.machine.NotKept.{joined_after}
use Rattle.gabc_tree.proofs.not_kept.not_kept.Goals as goal

-- the bytes that are left after a character
shorter : (byte after size : ℕ) (all enc rest : List ℕ) → byte + length all < 2 ^ 32 → all ≡ enc ++ rest → length enc ≡ size → after ≡ byte + size → after + length rest < 2 ^ 32
shorter byte after size all enc rest lt is len eq = grind (arith, length-append)

fewer : (size : ℕ) (all enc rest left : List ℕ) → 1 ≤ size → all ≡ enc ++ rest → length enc ≡ size → length left ≤ length rest → length left < length all
fewer size all enc rest left some is len h = grind (arith, length-append)

pub loop-c-preserved : goal.loop-c-preserved
loop-c-preserved c =
    let i = c.loop-c.invariant in
    let step = c.in-Some.ensures.steps.0 in
    let past = chars_past_char (chars_rest c.loop-c.chars) (chars_rest c.next.new.self) c.in-Some.c i.utf8 step in
    let told = c.in_ok-pass.ensures in
    let kept = c.pass_kept-in-Some.ensures in
    let short = shorter c.loop-c.reading.byte c.pass.new.reading.byte (len_utf8 c.in-Some.c) (chars_rest c.loop-c.chars) (encode c.in-Some.c) (chars_rest c.next.new.self) i.short step (length-encode c.in-Some.c) told.byte in
    record {
      all =
          ap (λ (bs : List ℕ). joined_after c.pass.new.joining (nodes_from c.pass_kept-in-Some.new.reading (chars bs))) c.chars-chars-in-Some.ensures.rest
          ∙ (ap (λ (ns : List Node). joined_after c.pass.new.joining ns) kept.nodes
          ∙ (ap (λ (bs : List ℕ). joined_after c.pass.new.joining (nodes_from c.pass.new.reading (chars bs))) c.as_str.ensures
          ∙ (told.all (chars (chars_rest c.next.new.self)) ∙ ap (λ (cs : List ℕ). joined_after c.loop-c.joining (nodes_from c.loop-c.reading cs)) (sym past) ∙ i.all)));
      short = grind (arith, short, kept.end, c.as_str.ensures, c.chars-chars-in-Some.ensures.rest);
      utf8 = subst IsUtf8 (sym c.chars-chars-in-Some.ensures.rest) c.pass_kept-in-Some.utf8;
    }

pub pass_kept-requires-in-Some : goal.pass_kept-requires-in-Some
pass_kept-requires-in-Some c =
    let i = c.loop-c.invariant in
    let step = c.in-Some.ensures.steps.0 in
    let short = shorter c.loop-c.reading.byte c.pass.new.reading.byte (len_utf8 c.in-Some.c) (chars_rest c.loop-c.chars) (encode c.in-Some.c) (chars_rest c.next.new.self) i.short step (length-encode c.in-Some.c) c.in_ok-pass.ensures.byte in
    subst (λ (bs : List ℕ). c.pass.new.reading.byte + length bs < 2 ^ 32) (sym c.as_str.ensures) short

pub loop-c-smaller : goal.loop-c-smaller
loop-c-smaller c = grind (arith, fewer, len_utf8_bounds, length-encode, c.in-Some.ensures.steps.0, c.as_str.ensures, c.chars-chars-in-Some.ensures.rest, c.pass_kept-in-Some.ensures.rest)

pub pass-requires : goal.pass-requires
pass-requires c =
    let i = c.loop-c.invariant in
    let step = c.in-Some.ensures.steps.0 in
    fits c.loop-c.reading.byte (len_utf8 c.in-Some.c) (chars_rest c.loop-c.chars) (encode c.in-Some.c) (chars_rest c.next.new.self) i.short step (length-encode c.in-Some.c)
  where
    fits : (byte size : ℕ) (all enc rest : List ℕ) → byte + length all < 2 ^ 32 → all ≡ enc ++ rest → length enc ≡ size → byte + size < 2 ^ 32
    fits byte size all enc rest lt is len = grind (arith, length-append)

pub returns-clause-nodes : goal.returns-clause-nodes
returns-clause-nodes c = grind (arith, chars-none)

pub returns-clause-few : goal.returns-clause-few
returns-clause-few c = subst (λ (ns : List Node). bytes_in ns < 2 ^ 32) (sym (returns-clause-nodes c)) (few_bytes (begun c.args.heads (chars c.args.kept.now) c.args.findings.now) c.args.input.now c.utf8.input c.requires)
