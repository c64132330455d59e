use Rattle.std.proofs.Common.{◌≡◌, drop, map}
use Rattle.gabc_text.specs.Token.{effect_in}
use Rattle.gabc_text.proofs.tag_name.TagPrefix.effect_among.Given as goal

abbrev pub invariant-loop-name : goal.invariant-loop-name
invariant-loop-name l =
    effect_in (map (λ row. (row.0.now, row.1)) l.rows) l.self ≡ effect_in (map (λ row. (row.0.now, row.1)) (drop l.name-index l.rows)) l.self
