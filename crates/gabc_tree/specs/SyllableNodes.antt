-- The nodes of a syllable, which count the bytes of its kept text.
use Rattle.std.specs.Prelude.{ℕ, ◌+◌, ◌-◌, List, [], ◌∷◌, ◌++◌, Bool, cond, ◌&&◌, ◌==◌, nat_lt, length}
use Rattle.gabc_neumes.specs.InForce.{InForce, WordStart, steps_of, in_force_after, passed}
use Rattle.gabc_body.specs.Canonical.{starts_word}
use Rattle.gabc_body.specs.declared.snippets.Snippet.{Snippet}
use Rattle.gabc_body.specs.declared.syllable.Position.{Position}
use Rattle.gabc_body.specs.declared.syllable.Position.TheVariants as position
use Rattle.gabc_body.specs.Syllable.{PlacedSyllable, text_at}
use Rattle.gabc_nodes.specs.declared.kind.Kind.TheVariants as kind
use Rattle.gabc_nodes.specs.declared.node.Node.{Node}
use Rattle.gabc_tree.specs.NabcNodes.{nabc_nodes}
use Rattle.gabc_tree.specs.NoteNodes.{gabc_nodes}
use Rattle.gabc_tree.specs.Placed.{offset}
use Rattle.gabc_tree.specs.TextNodes.{bit, text_nodes}

abbrev pub position_number : Position → ℕ
position_number position.One = 0
position_number position.Beginning = 1
position_number position.Middle = 2
position_number position.End = 3

abbrev pub flags_of : PlacedSyllable → ℕ
flags_of s = bit s.made.eu 1 + bit s.made.nlba 2 + bit s.made.text.word_start 4

-- a node with those that lie in it after it
abbrev pub around : Node → List Node → List Node
around n inside = record n { inner = offset (length inside) } ∷ inside

-- ---- the notes

abbrev pub snippet_node : Snippet → Node
snippet_node s = record { begin = offset s.span.from; end = offset s.span.to; inner = 0; kind = kind.Snippet; a = s.line; b = 0; c = 0 }

abbrev pub items_nodes : InForce → List ℕ → Snippet → List Node
items_nodes force kept s = cond (s.line == 0) (gabc_nodes (offset s.span.from) force (text_at s.span kept)) (nabc_nodes (offset s.span.from) (text_at s.span kept))

abbrev pub snippet_nodes : InForce → List ℕ → Snippet → List Node
snippet_nodes force kept s = around (snippet_node s) (items_nodes force kept s)

-- the alterations and the clef in force after a snippet
abbrev pub force_past : InForce → List ℕ → Snippet → InForce
force_past force kept s = cond (s.line == 0) (passed force (steps_of (text_at s.span kept))) force

abbrev pub force_after : InForce → List ℕ → List Snippet → InForce
force_after force kept [] = force
force_after force kept (s ∷ snippets) = force_after (force_past force kept s) kept snippets

abbrev pub notes_nodes : InForce → List ℕ → List Snippet → List Node
notes_nodes force kept [] = []
notes_nodes force kept (s ∷ snippets) = snippet_nodes force kept s ++ notes_nodes (force_past force kept s) kept snippets

-- ---- the syllable

-- the number of bytes of its text in its kept text: those before its `(`, or all
abbrev pub text_len : List ℕ → List Snippet → ℕ
text_len kept [] = length kept
text_len kept (s ∷ snippets) = cond (nat_lt 0 s.span.from && nat_lt s.span.from (length kept)) (s.span.from - 1) (length kept)

abbrev pub has_notes : PlacedSyllable → Bool
has_notes s = nat_lt (text_len s.made.kept s.made.snippets) (length s.made.kept)

-- a word that begins with it ends what was in force
abbrev pub force_at : InForce → PlacedSyllable → InForce
force_at force s = cond (starts_word s.position) (in_force_after force (WordStart ∷ [])) force

-- of the notes, before which this is in force
abbrev pub force_past_notes : InForce → PlacedSyllable → InForce
force_past_notes force s = cond (has_notes s) (force_after force s.made.kept s.made.snippets) force

abbrev pub force_past_syllable : InForce → PlacedSyllable → InForce
force_past_syllable force s = force_past_notes (force_at force s) s

abbrev pub syllable_node : PlacedSyllable → Node
syllable_node s = record { begin = 0; end = offset (length s.made.kept); inner = 0; kind = kind.Syllable; a = position_number s.position; b = flags_of s; c = 0 }

-- the nodes of its text and of its notes, before which this is in force
abbrev pub inside_nodes : InForce → PlacedSyllable → List Node
inside_nodes force s =
    text_nodes (text_at (record { from = 0; to = text_len s.made.kept s.made.snippets }) s.made.kept)
    ++ cond (has_notes s) (notes_nodes force s.made.kept s.made.snippets) []

abbrev pub syllable_nodes : InForce → PlacedSyllable → List Node
syllable_nodes force s = around (syllable_node s) (inside_nodes (force_at force s) s)
