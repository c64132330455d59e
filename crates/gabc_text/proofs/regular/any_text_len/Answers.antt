use Rattle.std.proofs.Common.{ap, sym, ◌∙◌, arith, rules}
use Rattle.gabc_text.specs.RegularText.{mark_at, tags_of}
use Rattle.gabc_text.proofs.RegularRawParts.{mark_stays, whole, whole_stops}
use Rattle.gabc_text.proofs.regular.any_text_len.Goals as goal

pub returns : goal.returns
returns c =
    let b = c.untranslated_len-end.ensures.begun in
    let first = c.untranslated_len-end.ensures.mark in
    let all = whole (mark_at c.args.bytes.now) b.0 c.args.bytes.now c.untranslated_len-end.result c.translation_len.result b.1 c.translation_len.ensures.bracketed in
    record {
      within = search rules;
      text = all.text;
      regular = all.regular;
      mark = all.marks ∙ ap tags_of (sym (mark_stays c.args.bytes.now _ (omega (arith, first))));
      stops = λ less. whole_stops c.args.bytes.now c.untranslated_len-end.result c.translation_len.result c.untranslated_len-end.ensures.stops c.translation_len.ensures.notes less;
    }
