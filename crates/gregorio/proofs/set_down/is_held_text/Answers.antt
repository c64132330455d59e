use Rattle.std.proofs.Common.{ℕ, List, Some, ap, ◌∙◌}
use Rattle.gregorio.specs.machine.Comparison.{compared_with}
use Rattle.gregorio.proofs.BytesAreCompared.{same_text}
use Rattle.gregorio.proofs.set_down.is_held_text.Goals as goal

pub returns : goal.returns
returns c =
    same_text c.with-comparison.result c.put_into.new.out c.args.text.now _ c.is_same.result (c.with-comparison.ensures ∙ ap (λ (text : List ℕ). Some text) c.as_bytes.ensures.value)
    (c.put_into.ensures ∙ ap (λ (bytes : List ℕ). compared_with c.with-comparison.result bytes) c.of.ensures) c.is_same.ensures
