use Rattle.std.proofs.Common.{◌≡◌, drop, string_bytes}
use Rattle.gabc_body.specs.machine.SyllableText.{snippets_after_bars}
use Rattle.gabc_body.proofs.canonical.put_barred.Given as goal

-- with what is left, it will have taken all of it
abbrev pub invariant-loop-snippet : goal.invariant-loop-snippet
invariant-loop-snippet g l =
    g.S.Put.taken l.out (snippets_after_bars (string_bytes l.syllable.kept) (drop l.snippet-index l.snippets))
    ≡ g.S.Put.taken l.initial.out (snippets_after_bars (string_bytes l.syllable.kept) l.snippets)
