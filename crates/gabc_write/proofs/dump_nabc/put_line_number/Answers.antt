use Rattle.std.proofs.Common.{rules, arith, ◌<◌}
use Rattle.std.proofs.lemmas.Fmt.{decimal_digit}
use Rattle.gabc_write.proofs.dump_nabc.put_line_number.Goals as goal

pub returns-in-0-to-9 : goal.returns-in-0-to-9
returns-in-0-to-9 g c =
    let small : c.args.line < 10 = omega (arith, c.in-0-to-9) in
    rw (decimal_digit c.args.line small) (search rules)
