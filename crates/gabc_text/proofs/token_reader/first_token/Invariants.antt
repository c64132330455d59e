use Rattle.std.specs.Str.Iter.{chars_rest}
use Rattle.gabc_text.proofs.machine.FirstTokenIsRead.{ReadSoFar}
use Rattle.gabc_text.proofs.token_reader.first_token.Given as goal

abbrev pub invariant-loop-c : goal.invariant-loop-c
invariant-loop-c l = ReadSoFar l.text l.at l.yielded (chars_rest l.c-iterator) l.state l.end
