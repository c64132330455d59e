use Rattle.std.proofs.Common.{◌∷◌, [], sym, ap, ◌∙◌}
use Rattle.gabc_tree.specs.machine.BodyNodes.{BodyState, past_syllables}
use Rattle.gabc_tree.proofs.syllables.SpelledSlices.{kept_is, snippets_are}
use Rattle.gabc_tree.proofs.taking.NodeTaker.add_spelled.Goals as goal

pub returns-clause-added : goal.returns-clause-added
returns-clause-added c = λ s h.
    c.in_ok-add.ensures.added s (record {
      kept = kept_is c.args.syllable s h ∙ sym c.in_ok-spell_kept.ensures ∙ sym c.as_str.ensures.value;
      snippets = snippets_are c.args.syllable s h ∙ sym (c.in_ok-spell_snippets.ensures h.spelling) ∙ sym c.as_slice.ensures.value;
      position = h.position;
      eu = h.eu;
      nlba = h.nlba;
      word_start = h.word_start ∙ h.gap ∙ sym c.starts_word.ensures;
    })
    ∙ ap (λ (b : BodyState). past_syllables b (s ∷ [])) c.self.view_is
