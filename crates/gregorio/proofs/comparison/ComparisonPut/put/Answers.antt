use Rattle.std.proofs.Common.{◌≡◌, List, ℕ, Option, Some, Bor, ap, sym, ◌∙◌}
use Rattle.std.specs.Option.{option_map}
use Rattle.std.proofs.lemmas.Bool.Decides.{Decides-eqb}
use Rattle.std.proofs.lemmas.Slice.Eq.{strip_prefix_is}
use Rattle.gregorio.specs.machine.Comparison.{compared_with}
use Rattle.gregorio.proofs.BytesAreCompared.{left_is}
use Rattle.gregorio.proofs.comparison.ComparisonPut.put.Goals as goal

pub returns-in-Some : goal.returns-in-Some
returns-in-Some c =
    let rest = c.in-Some.rest.now in
    let bytes = c.args.bytes.now in
    let here : Some rest ≡ c.args.self.now = ap (option_map (λ (r : Bor (List ℕ)). r.now)) (sym c.in-Some.is) ∙ c.self.view_is in
    left_is bytes rest c.strip_prefix-self-inside.result (strip_prefix_is Decides-eqb rest bytes c.strip_prefix-self-inside.result c.strip_prefix-self-inside.ensures.cases)
    ∙ ap (λ (o : Option (List ℕ)). compared_with o bytes) here
