-- A node in which no other lies.
use Rattle.std.specs.Prelude.{ℕ}
use Rattle.gabc_nodes.specs.declared.kind.Kind.{Kind}
use Rattle.gabc_nodes.specs.declared.node.Node.{Node}

-- of the bytes from `from` up to before `to`, whose first number is `a`, and the others 0
abbrev pub leaf : Kind → ℕ → ℕ → ℕ → Node
leaf kind a from to = record { begin = from; end = to; inner = 0; kind = kind; a = a; b = 0; c = 0 }
