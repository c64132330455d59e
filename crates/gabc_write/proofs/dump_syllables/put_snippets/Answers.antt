use Rattle.std.proofs.Common.{◌≡◌, ◌<◌, ◌+◌, ℕ, List, [], ◌∷◌, ◌++◌, All, string_bytes, take, drop, get_or, length, add-one, append-nil, ap, sym, ◌∙◌, subst, arith}
use Rattle.std.proofs.Math.Seq.{drop-cons}
use Rattle.std.proofs.lemmas.List.{take_more}
use Rattle.std.proofs.lemmas.Grind.{flat_map-append}
use Rattle.std.proofs.lemmas.List.Elements.{All-push}
use Rattle.gabc_body.specs.declared.snippets.Snippet.{Snippet}
use Rattle.gabc_neumes.specs.InForce.{InForce, ScoreStep, passed}
use Rattle.gabc_write.specs.DumpOfSyllables.{steps_of_snippet, steps_of_snippets, lines_of_snippet, lines_of_snippets}
use Rattle.gabc_write.proofs.dump_syllables.put_snippets.Goals as goal

abbrev none : Snippet
none = record { line = 0; span = record { from = 0; to = 0 } }

-- the steps up to a snippet, and those of it
steps_more : (kept : List ℕ) (snippets : List Snippet) (i : ℕ) → i < length snippets
    → steps_of_snippets kept (take i snippets) ++ steps_of_snippet kept (get_or snippets i none) ≡ steps_of_snippets kept (take (i + 1) snippets)
steps_more kept snippets i l =
    let one : Snippet = get_or snippets i none in
    sym (ap (steps_of_snippets kept) (take_more snippets i none l)
    ∙ (flat_map-append (steps_of_snippet kept) (take i snippets) (one ∷ [])
    ∙ ap (λ (t : List ScoreStep). steps_of_snippets kept (take i snippets) ++ t) (append-nil (steps_of_snippet kept one))))

-- the lines from a snippet on
lines_from : (f : InForce) (kept : List ℕ) (snippets : List Snippet) (i : ℕ) → i < length snippets
    → lines_of_snippets f kept (drop i snippets)
    ≡ lines_of_snippet f kept (get_or snippets i none) ++ lines_of_snippets (passed f (steps_of_snippet kept (get_or snippets i none))) kept (drop (i + 1) snippets)
lines_from f kept snippets i l = grind (arith, drop-cons, add-one)

pub loop-snippet-preserved : goal.loop-snippet-preserved
loop-snippet-preserved g c =
    let h = c.loop-snippet.invariant in
    let i = c.loop-snippet.snippet-index in
    let kept = string_bytes c.args.syllable.now.kept in
    let snippets = c.args.snippets.now in
    let one : Snippet = get_or snippets i none in
    let now = c.loop-snippet.alterations in
    let out = c.loop-snippet.out in
    let inside = c.loop-snippet-test.true in
    let later : InForce → List ℕ = λ f. lines_of_snippets f kept (drop (i + 1) snippets) in
    let after : InForce = passed now (steps_of_snippet kept one) in
    let lines = rw (c.text_at.ensures) at c.put_snippet.ensures.put in
    let steps = rw (c.text_at.ensures) at c.put_snippet.ensures.alterations in
    record {
      put = ap (λ o. g.S.Put.taken o (later c.put_snippet.new.alterations)) lines
          ∙ (ap (λ (f : InForce). g.S.Put.taken (g.S.Put.taken out (lines_of_snippet now kept one)) (later f)) steps
          ∙ (g.met.S.Put.taken_both out (lines_of_snippet now kept one) (later after)
          ∙ (ap (g.S.Put.taken out) (sym (lines_from now kept snippets i inside)) ∙ h.put)));
      alterations = steps
          ∙ (ap (λ (f : InForce). passed f (steps_of_snippet kept one)) h.alterations
          ∙ (c.steps_are_passed_one_by_one.ensures.forth c.args.alterations.now (steps_of_snippets kept (take i snippets)) (steps_of_snippet kept one)
          ∙ ap (passed c.args.alterations.now) (steps_more kept snippets i inside)));
      lines = subst (All (λ (s : Snippet). s.line < 256)) (sym (take_more snippets i none inside))
          (All-push (λ (s : Snippet). s.line < 256) _ _ h.lines c.put_snippet.ensures.line);
    }
