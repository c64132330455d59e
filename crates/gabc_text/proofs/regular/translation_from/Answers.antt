use Rattle.std.proofs.Common.{◌≡◌, ℕ, List, length, ◌-◌, slice_index, ap, ◌∙◌, arith, take_all}
use Rattle.std.proofs.lemmas.List.{drop_all}
use Rattle.gabc_text.proofs.RegularRawParts.{parted, unbracketed, whole}
use Rattle.gabc_text.specs.RegularText.{mark_at}
use Rattle.gabc_text.proofs.regular.translation_from.Goals as goal

pub returns-then-byte_at-ne93 : goal.returns-then-byte_at-ne93
returns-then-byte_at-ne93 c =
    let same = c.as_bytes-bytes.ensures.value in
    let long = ap (λ (l : List ℕ). length l) same in
    let plain : slice_index c.args.text.now (length c.args.text.now - 1) ≡ 93 → ⊥ =
    λ e. c.if-byte_at-ne93.true (c.byte_at.ensures ∙ ap (slice_index c.as_bytes-bytes.result.now) c.saturating_sub.ensures ∙ ap (λ (l : List ℕ). slice_index l (length l - 1)) same ∙ e) in
    let none = unbracketed c.args.text.now c.utf8.text c.requires plain in
    record {
      within = omega (arith, long);
      text = take_all (length c.as_bytes-bytes.result.now) c.args.text.now (omega (arith, long)) ∙ none.0;
      translation = drop_all (length c.as_bytes-bytes.result.now) c.args.text.now (omega (arith, long)) ∙ none.1;
    }

pub returns-then-end-translation : goal.returns-then-end-translation
returns-then-end-translation c =
    let b = c.untranslated_len-end.ensures.begun in
    let same = c.as_bytes-bytes.ensures.value in
    let n = c.untranslated_len-end.result in
    let all = c.if-end-translation.true ∙ ap (λ (l : List ℕ). length l) same in
    let two = parted (mark_at c.args.text.now) c.args.text.now n c.bracketed_len-translation.result all
    (whole (mark_at c.args.text.now) b.0 c.args.text.now n c.bracketed_len-translation.result (rw (same) at b.1) (rw (same) at c.bracketed_len-translation.ensures.bracketed)) in
    record { within = omega (arith, all); text = two.text_is; translation = two.translation_is }
