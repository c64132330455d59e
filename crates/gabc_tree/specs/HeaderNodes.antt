-- The nodes of the headers of a text, which count its bytes.
use Rattle.std.specs.Prelude.{ℕ, ◌-◌, List, [], ◌∷◌, ◌++◌, take, encode_utf8_all, Result, Ok, Err}
use Rattle.gabc_places.specs.declared.limits.Limits.{Limits}
use Rattle.gabc_headers.specs.declared.heads.Heads.{Heads}
use Rattle.gabc_headers.specs.declared.heads.HeadFault.{HeadFault}
use Rattle.gabc_headers.specs.Heads.{heads_of}
use Rattle.gabc_nodes.specs.Node.{leaf}
use Rattle.gabc_nodes.specs.declared.kind.Kind.TheVariants.{ScoreLine}
use Rattle.gabc_nodes.specs.declared.node.Node.{Node}
use Rattle.gabc_tree.specs.HeaderLines.{header_line_nodes}
use Rattle.gabc_tree.specs.Placed.{offset}

abbrev pub head_end_by : Result Heads HeadFault → ℕ
head_end_by (Ok heads) = heads.body
head_end_by (Err fault) = 0

-- the nodes of the lines before the `%%`, and then the `%%`
abbrev pub head_nodes_by : List ℕ → Result Heads HeadFault → List Node
head_nodes_by text (Ok heads) =
    header_line_nodes (take (heads.body - 2) (encode_utf8_all text)) heads.findings
    ++ leaf ScoreLine 0 (offset (heads.body - 2)) (offset heads.body) ∷ []
head_nodes_by text (Err fault) = []

abbrev pub head_end : Limits → List ℕ → ℕ
head_end limits text = head_end_by (heads_of limits text)

abbrev pub head_nodes : Limits → List ℕ → List Node
head_nodes limits text = head_nodes_by text (heads_of limits text)
