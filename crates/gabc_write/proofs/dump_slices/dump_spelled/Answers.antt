use Rattle.std.proofs.Common.{◌++◌, ◌∙◌, ap, sym, arith}
use Rattle.gabc_neumes.specs.InForce.{InForce, passed}
use Rattle.gabc_score.specs.RegularSyllable.{with_lines}
use Rattle.gabc_write.specs.DumpOfSyllables.{first_line_by, first_steps, line_of_text}
use Rattle.gabc_write.specs.machine.DumpOfTexts.{line_of_bracketed, lines_of_texts}
use Rattle.gabc_write.proofs.DumpOfSpelledSyllables.{all_lines, few, kept_few, kept_utf8, steps_are, texts}
use Rattle.gabc_write.proofs.dump_slices.dump_spelled.Goals as goal

pub put_spelled_snippets-requires : goal.put_spelled_snippets-requires
put_spelled_snippets-requires g c =
    (with_lines c.args.syllable.lines 0 c.requires.spelling.parts.nexts c.requires.spelling.parts.final, c.snippets.ensures c.requires.spelling)

pub returns-clause-put : goal.returns-clause-put
returns-clause-put g c = λ s h.
    let r = c.args.syllable in
    let ts = texts r s h in
    let first = first_line_by c.args.number r.position r.spans.eu r.spans.nlba in
    let text = line_of_text c.args.text.now in
    let translation = line_of_bracketed c.args.translation.now in
    let lines = lines_of_texts (passed c.args.alterations.now (first_steps r.position)) ts in
    c.put_spelled_snippets.ensures.put ts (c.snippets.ensures h.spelling)
    ∙ ap (λ (f : InForce). g.S.Put.taken c.put_line_of_bracketed.new.out (lines_of_texts f ts)) c.pass_position.ensures
    ∙ ap (λ o. g.S.Put.taken o lines) (c.put_line_of_bracketed.ensures ∙ ap (λ o. g.S.Put.taken o translation) (c.put_line_of.ensures ∙ ap (λ o. g.S.Put.taken o text) c.put_first_line.ensures))
    ∙ g.met.S.Put.taken_both (g.S.Put.taken (g.S.Put.taken c.args.out.now first) text) translation lines
    ∙ g.met.S.Put.taken_both (g.S.Put.taken c.args.out.now first) text (translation ++ lines)
    ∙ g.met.S.Put.taken_both c.args.out.now first (text ++ (translation ++ lines))
    ∙ ap (g.S.Put.taken c.args.out.now) (sym (all_lines r s h c.args.text.now c.args.translation.now c.requires.texts c.args.number c.args.alterations.now))

pub returns-clause-alterations : goal.returns-clause-alterations
returns-clause-alterations g c = grind (arith, steps_are)

pub returns-clause-short : goal.returns-clause-short
returns-clause-short g c = λ s h.
    let r = c.args.syllable in
    let kept = kept_few r s h in
    c.a_dump_is_short.ensures c.args.number c.args.alterations.now s c.ranges.number.fits (kept_utf8 r s h) (let w = c.well_formed in let v = c.snippets.type_inv in omega (arith, kept, w, v))
    (few r s h (c.put_spelled_snippets.ensures.lines (texts r s h) (c.snippets.ensures h.spelling)))
