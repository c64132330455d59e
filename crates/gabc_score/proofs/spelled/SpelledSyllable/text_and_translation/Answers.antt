use Rattle.std.proofs.Common.{ℕ, List, ◌-◌, length, take, drop, take_all, length-drop, ap, ◌∙◌, arith}
use Rattle.gabc_score.proofs.regular_syllables.SlicesAreRead.{text_regular, texts_are}
use Rattle.gabc_score.proofs.spelled.SpelledSyllable.text_and_translation.Goals as goal

pub translation_from-requires : goal.translation_from-requires
translation_from-requires c = text_regular c.args.self c.text-text.result.now c.text-text.utf8 c.text-text.ensures c.requires

pub returns : goal.returns
returns c =
    let n = c.in_ok-from.from in
    let bytes = c.as_bytes-bytes.result.now in
    let same = c.as_bytes-bytes.ensures.value in
    texts_are c.args.self c.text-text.result.now c.text-text.utf8 c.text-text.ensures _ _ (ap (λ (l : List ℕ). take n l) same ∙ c.in_ok-from.ensures.text)
    (take_all (length bytes - n) (drop n bytes) (omega (arith, length-drop n bytes)) ∙ ap (λ (l : List ℕ). drop n l) same ∙ c.in_ok-from.ensures.translation)
