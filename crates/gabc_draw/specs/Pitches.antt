-- The notes and the syllables of a tree, as a picture has to show them.
use Rattle.std.specs.Prelude.{ℕ, ◌%◌, List, [], ◌∷◌, ◌++◌, replicate}
use Rattle.gabc_marks.specs.Heads.{Bytes, Shown, Syllable, notes_of}
use Rattle.gabc_pen.specs.Notes.{times_of_shape}
use Rattle.gabc_nodes.specs.declared.kind.Kind.{Kind}
use Rattle.gabc_nodes.specs.declared.kind.Kind.TheVariants as kind
use Rattle.gabc_nodes.specs.declared.node.Node.{Node}

-- the pitches of a note with these numbers: its height once for each time that it sounds
abbrev pub pitches_of_note : ℕ → ℕ → List ℕ
pitches_of_note a b = replicate (times_of_shape (b % 32)) (a % 16)

abbrev pub bytes_of_node : Node → Bytes
bytes_of_node n = record { begin = n.begin; end = n.end }

-- the part of a picture for a node of that kind after a syllable with these bytes: the syllable
-- that it begins, or a note of the one before
abbrev pub shown_of_kind : Kind → Node → Bytes → List Shown
shown_of_kind kind.Syllable n bytes = Syllable (bytes_of_node n) ∷ []
shown_of_kind kind.Note n bytes = notes_of bytes (pitches_of_note n.a n.b)
shown_of_kind other n bytes = []

-- the bytes of the last syllable up to a node of that kind, if it was the one with these bytes
-- before
abbrev pub bytes_after : Kind → Node → Bytes → Bytes
bytes_after kind.Syllable n bytes = bytes_of_node n
bytes_after other n bytes = bytes

-- what a tree is to show after a syllable with these bytes: its syllables in their order, each with
-- its bytes, and after each syllable its notes in their order
abbrev pub shown_after : Bytes → List Node → List Shown
shown_after bytes [] = []
shown_after bytes (n ∷ nodes) = shown_of_kind n.kind n bytes ++ shown_after (bytes_after n.kind n bytes) nodes

-- what a tree is to show; notes before all syllables belong to the bytes 0 to 0
abbrev pub shown_of_nodes : List Node → List Shown
shown_of_nodes nodes = shown_after (record { begin = 0; end = 0 }) nodes
