use Rattle.std.proofs.Common.{◌≡◌, ◌<◌, All, take, drop, string_bytes}
use Rattle.gabc_neumes.specs.InForce.{passed}
use Rattle.gabc_write.specs.DumpOfSyllables.{steps_of_snippets, lines_of_snippets}
use Rattle.gabc_write.proofs.dump_syllables.put_snippets.Given as goal

-- with what is left, all lines will have been put
abbrev pub invariant-loop-snippet : goal.invariant-loop-snippet
invariant-loop-snippet g l = record {
  put : g.S.Put.taken l.out (lines_of_snippets l.alterations (string_bytes l.syllable.kept) (drop l.snippet-index l.snippets))
      ≡ g.S.Put.taken l.initial.out (lines_of_snippets l.initial.alterations (string_bytes l.syllable.kept) l.snippets);
  alterations : l.alterations ≡ passed l.initial.alterations (steps_of_snippets (string_bytes l.syllable.kept) (take l.snippet-index l.snippets));
  lines : All (λ s. s.line < 256) (take l.snippet-index l.snippets);
}
