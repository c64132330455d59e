use Rattle.std.proofs.Common.{◌<◌, All, length, subst, IsUtf8, ap, arith}
use Rattle.gabc_body.specs.Syllable.{placed_of}
use Rattle.gabc_body.specs.declared.snippets.Snippet.{Snippet}
use Rattle.gabc_write.proofs.dump_syllables.dump_syllable.Goals as goal

pub returns-clause-short : goal.returns-clause-short
returns-clause-short g c =
    let same = c.as_str.ensures.value in
    c.a_dump_is_short.ensures c.args.number c.args.alterations.now (placed_of c.args.syllable.now) c.ranges.number.fits (subst IsUtf8 same c.as_str.utf8) (omega (arith, ap length same))
    (subst (All (λ (s : Snippet). s.line < 256)) c.as_slice-snippets.ensures c.put_snippets.ensures.lines)
