use Rattle.std.proofs.Common.{◌≡◌, rules, refl}
use Rattle.gabc_notes.specs.declared.stage.CharRole.TheVariants.{Ends}
use Rattle.gabc_notes.proofs.stage.emit.Goals as goal

pub returns-in-Ends : goal.returns-in-Ends
returns-in-Ends c =
    let role : c.args.role ≡ Ends = search rules in
    rw role (c.emit_end.ensures c.args.macros c.args.facts refl)
