use Rattle.std.proofs.Common.{◌≡◌, encode_utf8_all}
use Rattle.gabc_headers.specs.Canonical.{canonical_heads}
use Rattle.gabc_headers.proofs.canonical.canon_header.Given as goal

-- with what is left, it will have taken all of it
abbrev pub invariant-loop-name : goal.invariant-loop-name
invariant-loop-name g l = g.S.Put.taken l.out (encode_utf8_all (canonical_heads l.name-iterator)) ≡ g.S.Put.taken l.initial.out (encode_utf8_all (canonical_heads l.fn.headers))
