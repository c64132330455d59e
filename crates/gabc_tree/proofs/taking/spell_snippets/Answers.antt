use Rattle.std.proofs.Common.{◌≡◌, ◌≤◌, ◌+◌, ◌++◌, ◌∷◌, [], ℕ, List, Bool, true, false, length, refl, sym, ap, ◌∙◌, append_assoc, append-nil, arith}
use Rattle.gabc_body.specs.Canonical.{starts_word}
use Rattle.gabc_body.specs.declared.snippets.Snippet.{Snippet}
use Rattle.gabc_score.specs.RegularSyllable.{spans_from, with_lines}
use Rattle.gabc_tree.specs.machine.SyllableSlices.{gap_of}
use Rattle.gabc_tree.proofs.syllables.SpelledSlices.{canonical_total, total}
use Rattle.gabc_tree.proofs.taking.spell_snippets.Goals as goal

gap_short : (starts : Bool) → length (gap_of starts) ≤ 1
gap_short true = omega arith
gap_short false = omega arith

pub loop-snippet-init : goal.loop-snippet-init
loop-snippet-init c = record {
  some = (_, c.snippets-rest.ensures c.requires);
  left = λ is.
      let texts = with_lines c.args.syllable.lines 0 is.parts.nexts is.parts.final in
      let all = canonical_total c.args.syllable is in
      let from = c.notes_from-from.ensures in
      let gap = gap_short (starts_word c.args.syllable.position) in (
        texts,
        record {
          come = c.snippets-rest.ensures is;
          fits = omega (arith, all, from, gap);
          spans = ap (λ (ss : List Snippet). ss ++ spans_from c.notes_from-from.result texts) c.clear.ensures.items ∙ ap (λ (n : ℕ). spans_from n texts) c.notes_from-from.ensures;
        },
      );
}

one_more : (old new all : List Snippet) (at n line : ℕ) (text : List ℕ) (later more : List (ℕ × List ℕ)) → later ≡ (line, text) ∷ more → n ≡ length text
    → new ≡ old ++ record { line = line; span = record { from = at; to = at + n } } ∷ [] → old ++ spans_from at later ≡ all → new ++ spans_from (at + n + 1) more ≡ all
one_more old new all at n line text later more later_is n_is new_is is =
    ap (λ (ss : List Snippet). ss ++ spans_from (at + n + 1) more) new_is
    ∙ append_assoc old (record { line = line; span = record { from = at; to = at + n } } ∷ []) (spans_from (at + n + 1) more)
    ∙ ap (λ (k : ℕ). old ++ record { line = line; span = record { from = at; to = at + k } } ∷ spans_from (at + k + 1) more) n_is
    ∙ ap (λ (ts : List (ℕ × List ℕ)). old ++ spans_from at ts) (sym later_is)
    ∙ is

still_fits : (at n line most : ℕ) (text : List ℕ) (later more : List (ℕ × List ℕ)) → later ≡ (line, text) ∷ more → n ≡ length text → at + total later ≤ most → at + n + 1 + total more ≤ most
still_fits at n line most text later more later_is n_is le = let all = ap total later_is in omega (arith, all, n_is, le)

pub loop-snippet-preserved : goal.loop-snippet-preserved
loop-snippet-preserved c = record {
  some = (let i = c.loop-snippet.invariant.some in let next = c.in-Some.ensures.next i.0 i.1 in (next.0, next.1.1));
  left = λ is.
      let i = c.loop-snippet.invariant.left is in
      let next = c.in-Some.ensures.next i.0 i.1.come in (
        next.0,
        record {
          come = next.1.1;
          fits = still_fits c.loop-snippet.from (length c.in-Some.snippet.text.now) c.in-Some.snippet.line (length c.args.syllable.canonical.now + 1) c.in-Some.snippet.text.now i.0 next.0 next.1.0 refl i.1.fits;
          spans = one_more c.loop-snippet.snippets.items c.push.new.self.items _ c.loop-snippet.from (length c.in-Some.snippet.text.now) c.in-Some.snippet.line c.in-Some.snippet.text.now i.0 next.0 next.1.0 refl
              c.in_ok-push.ensures.items i.1.spans;
        },
      );
}

pub overflow_add-to : goal.overflow_add-to
overflow_add-to c =
    let i = c.loop-snippet.invariant.left c.requires in
    let next = c.in-Some.ensures.next i.0 i.1.come in
    let fits = still_fits c.loop-snippet.from (length c.in-Some.snippet.text.now) c.in-Some.snippet.line (length c.args.syllable.canonical.now + 1) c.in-Some.snippet.text.now i.0 next.0 next.1.0 refl i.1.fits in
    omega (arith, fits)

pub overflow_add-from : goal.overflow_add-from
overflow_add-from c =
    let i = c.loop-snippet.invariant.left c.requires in
    let next = c.in-Some.ensures.next i.0 i.1.come in
    let fits = still_fits c.loop-snippet.from (length c.in-Some.snippet.text.now) c.in-Some.snippet.line (length c.args.syllable.canonical.now + 1) c.in-Some.snippet.text.now i.0 next.0 next.1.0 refl i.1.fits in
    omega (arith, fits)

pub returns : goal.returns
returns c = λ is.
    let i = c.loop-snippet.invariant.left is in
    append_end _ _ _ (c.in_default.ensures.next i.0 i.1.come) i.1.spans
  where
    append_end : (old all : List Snippet) (later : List (ℕ × List ℕ)) → later ≡ [] → old ++ spans_from c.loop-snippet.from later ≡ all → old ≡ all
    append_end old all later none is = sym (append-nil old) ∙ ap (λ (ts : List (ℕ × List ℕ)). old ++ spans_from c.loop-snippet.from ts) (sym none) ∙ is
