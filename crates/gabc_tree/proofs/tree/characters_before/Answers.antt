use Rattle.std.proofs.Common.{◌≡◌, ◌+◌, ◌-◌, ◌≤◌, ◌<◌, ◌++◌, ◌∷◌, [], List, ℕ, arith, length}
use Rattle.std.specs.Char.{len_utf8}
use Rattle.std.specs.Str.{chars}
use Rattle.std.specs.Str.Iter.{chars_rest}
use Rattle.std.proofs.Math.Utf8.{encode}
use Rattle.std.proofs.lemmas.List.{length-append}
use Rattle.std.proofs.lemmas.Str.{chars_past_char, IsUtf8-past_char, length-encode}
use Rattle.gabc_places.proofs.texts.CharactersOfStrings.{chars-none}
use Rattle.gabc_tree.specs.Tree.{characters_before}
use Rattle.gabc_tree.proofs.tree.characters_before.Goals as goal

pub loop-c-init : goal.loop-c-init
loop-c-init c = grind (arith, chars_rest)

one_more : (count left end c size : ℕ) (text rest next : List ℕ) → count + characters_before left rest ≡ characters_before end text → rest ≡ c ∷ next → (left ≡ 0 → ⊥)
    → size ≡ len_utf8 c → (less : ℕ) → less ≡ left - size → count + 1 + characters_before less next ≡ characters_before end text
one_more count left end c size text rest next is past more len less less_is = grind (arith, characters_before)

some_bytes : (n size len : ℕ) → n ≡ len → size ≡ len → 1 ≤ size → 0 < n
some_bytes n size len n_is size_is le = grind arith

fewer : (count n : ℕ) (all enc rest : List ℕ) → count + length all ≤ n → all ≡ enc ++ rest → 0 < length enc → count + 1 + length rest ≤ n
fewer count n all enc rest le is some = grind (arith, length-append)

pub loop-c-preserved : goal.loop-c-preserved
loop-c-preserved c =
    let i = c.loop-c.invariant in
    let step = c.in-Some.ensures.steps.0 in
    let past = chars_past_char (chars_rest c.loop-c.c-iterator) (chars_rest c.next.new.self) c.in-Some.c i.utf8 step in
    record {
      count = one_more c.loop-c.count c.loop-c.left c.args.end c.in-Some.c c.len_utf8.result (chars c.args.text.now) (chars (chars_rest c.loop-c.c-iterator)) (chars (chars_rest c.next.new.self)) i.count past c.if-left-eq0.false c.len_utf8.ensures.value c.saturating_sub-left.result c.saturating_sub-left.ensures;
      few = fewer c.loop-c.count (length c.args.text.now) (chars_rest c.loop-c.c-iterator) (encode c.in-Some.c) (chars_rest c.next.new.self) i.few step (some_bytes (length (encode c.in-Some.c)) c.len_utf8.result (len_utf8 c.in-Some.c) (length-encode c.in-Some.c) c.len_utf8.ensures.value c.len_utf8.ensures.lower_bound);
      utf8 = IsUtf8-past_char (chars_rest c.loop-c.c-iterator) (chars_rest c.next.new.self) c.in-Some.c i.utf8 step;
    }

none_left : (count left end : ℕ) (text rest : List ℕ) → count + characters_before left rest ≡ characters_before end text → rest ≡ [] → count ≡ characters_before end text
none_left count left end text rest is none = grind (arith, characters_before)

pub returns-in-None : goal.returns-in-None
returns-in-None c = record { count = none_left c.loop-c.count c.loop-c.left c.args.end (chars c.args.text.now) (chars (chars_rest c.loop-c.c-iterator)) c.loop-c.invariant.count (chars-none (chars_rest c.loop-c.c-iterator) c.in-None.ensures.steps.0.0) }

no_bytes : (count left end : ℕ) (text rest : List ℕ) → count + characters_before left rest ≡ characters_before end text → left ≡ 0 → count ≡ characters_before end text
no_bytes count left end text [] is none = grind (arith, characters_before)
no_bytes count left end text (c ∷ rest) is none = grind (arith, characters_before)

pub returns-then-left-eq0 : goal.returns-then-left-eq0
returns-then-left-eq0 c = record { count = no_bytes c.loop-c.count c.loop-c.left c.args.end (chars c.args.text.now) (chars (chars_rest c.loop-c.c-iterator)) c.loop-c.invariant.count c.if-left-eq0.true }
