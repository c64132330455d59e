use Rattle.std.proofs.Common.{◌≡◌, [], cond, drop}
use Rattle.std.specs.List.{flat_map}
use Rattle.gabc_text.proofs.canonical.put_each.Given as goal

-- with what is left, it will have taken all of it
abbrev pub invariant-loop-wanted : goal.invariant-loop-wanted
invariant-loop-wanted g l =
    g.S.Put.taken l.out (flat_map (λ t. cond t.0 t.1.now []) (drop l.wanted-index l.texts)) ≡ g.S.Put.taken l.initial.out (flat_map (λ t. cond t.0 t.1.now []) l.texts)
