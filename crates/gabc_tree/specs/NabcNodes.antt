-- The nodes of a snippet of NABC in a kept text: its spaces and descriptors in order, and after a
-- descriptor those of its pieces, which are glyphs, points and letters.
use Rattle.std.specs.Prelude.{ℕ, zero, suc, ◌+◌, ◌-◌, ◌==◌, List, [], ◌∷◌, length, drop, Bool, nat_le, ◌&&◌, ◌||◌, codes, slice_index, Option, Some, None, if◌then◌else◌}
use Rattle.std.specs.List.{flat_map, prefix_len}
use Rattle.gabc_patterns.specs.Pattern.{is_in}
use Rattle.gabc_places.specs.declared.place.Span.{Span}
use Rattle.gabc_notes.specs.Notes.{begins_with, height_of}
use Rattle.gabc_nabc.specs.Parts.{bytes_of, parts_of}
use Rattle.gabc_nabc.specs.declared.descriptor.Descriptor.{Descriptor}
use Rattle.gabc_nodes.specs.declared.kind.Kind.{Kind}
use Rattle.gabc_nodes.specs.declared.kind.Kind.TheVariants as kind
use Rattle.gabc_nodes.specs.declared.node.Node.{Node}
use Rattle.gabc_tree.specs.Numbers.{three}
use Rattle.gabc_tree.specs.NoteNodes.{node_at}
use Rattle.gabc_tree.specs.declared.nabc_nodes.PieceKind.{PieceKind}
use Rattle.gabc_tree.specs.declared.nabc_nodes.PieceKind.TheVariants as piece
use Rattle.gabc_tree.specs.declared.numbers.Numbers.{Numbers}

-- ---- the piece with which a text begins

-- `su` and `pp` begin points, `ls` and `lt` letters; other two letters are the code of a glyph
abbrev pub piece_kind : List ℕ → PieceKind
piece_kind t =
    if begins_with (codes "su") t || begins_with (codes "pp") t then piece.Points else
    if begins_with (codes "ls") t || begins_with (codes "lt") t then piece.Letters else piece.Glyph

abbrev pub kind_of_piece : PieceKind → Kind
kind_of_piece piece.Glyph = kind.NabcGlyph
kind_of_piece piece.Points = kind.NabcPoints
kind_of_piece piece.Letters = kind.NabcLetters

abbrev pub is_digit : ℕ → Bool
is_digit c = nat_le 49 c && nat_le c 57

-- a modifier of a glyph, or the digit after one
abbrev pub is_modifier : ℕ → Bool
is_modifier c = is_in c (codes "SGM->~") || is_digit c

-- the number of bytes of a text through its first digit: all if it has none
abbrev pub through_digit : List ℕ → ℕ
through_digit [] = 0
through_digit (c ∷ t) = if is_digit c then 1 else suc (through_digit t)

-- the value of the first digit, or 0
abbrev pub first_digit : List ℕ → ℕ
first_digit [] = 0
first_digit (c ∷ t) = if is_digit c then c - 48 else first_digit t

-- the number of bytes of a glyph before its pitch: its code, and modifiers
abbrev pub glyph_before_pitch : List ℕ → ℕ
glyph_before_pitch (a ∷ b ∷ t) = 2 + prefix_len is_modifier t
glyph_before_pitch t = length t

-- the same of a piece of that kind
abbrev pub before_pitch : PieceKind → List ℕ → ℕ
before_pitch piece.Glyph t = glyph_before_pitch t
before_pitch piece.Points t = through_digit t
before_pitch piece.Letters t = through_digit t

-- the height of the pitch with which a text begins: an `h` and a letter
abbrev pub pitch_at : List ℕ → Option ℕ
pitch_at (h ∷ c ∷ t) = if h == 104 then Some (height_of c) else None
pitch_at _ = None

-- the pitch of a piece
abbrev pub pitch_of : List ℕ → Option ℕ
pitch_of t = pitch_at (drop (before_pitch (piece_kind t) t) t)

-- the number of bytes of a piece
abbrev pub piece_len : List ℕ → ℕ
piece_len t = before_pitch (piece_kind t) t + (elim (pitch_of t) as (λ _. ℕ) [ None ↦ 0 | Some height ↦ 2 ])

-- the small letter with which a text begins, or 0
abbrev pub letter_at : List ℕ → ℕ
letter_at [] = 0
letter_at (c ∷ t) = if nat_le 97 c && nat_le c 122 then c else 0

-- of a glyph the letters of its code and its pitch; of points whether they are `pp`, the letter
-- and the digit; of letters whether they are `lt`, and the digit
abbrev pub piece_numbers_by : PieceKind → Option ℕ → List ℕ → Numbers
piece_numbers_by piece.Glyph pitch t =
    three (slice_index t 0) (slice_index t 1) (elim pitch as (λ _. ℕ) [ None ↦ 0 | Some height ↦ 1 + height ])
piece_numbers_by piece.Points pitch t =
    three (if begins_with (codes "p") t then 1 else 0) (letter_at (drop 2 t)) (first_digit t)
piece_numbers_by piece.Letters pitch t =
    three (if begins_with (codes "t") (drop 1 t) then 1 else 0) 0 (first_digit t)

abbrev pub piece_numbers : List ℕ → Numbers
piece_numbers t = piece_numbers_by (piece_kind t) (pitch_of t) t

-- the node of the piece with which a text begins, if the text begins at that byte
abbrev pub piece_node : ℕ → ℕ → List ℕ → Node
piece_node base at t =
    node_at base (record { from = at; to = at + piece_len t }) 0 (kind_of_piece (piece_kind t)) (piece_numbers t)

-- ---- the pieces of a descriptor

-- The nodes of the pieces of a text that begins at byte `at`. Its first `skip` bytes belong to the
-- piece before. A `!` between pieces belongs to none.
abbrev pub pieces_from : ℕ → ℕ → ℕ → List ℕ → List Node
pieces_from base skip at [] = []
pieces_from base zero at (c ∷ t) =
    if c == 33 then pieces_from base 0 (at + 1) t
    else piece_node base at (c ∷ t) ∷ pieces_from base (piece_len (c ∷ t) - 1) (at + 1) t
pieces_from base (suc skip) at (c ∷ t) = pieces_from base skip (at + 1) t

-- the nodes of the pieces of a descriptor whose bytes count from base on
abbrev pub pieces_of : ℕ → List ℕ → List Node
pieces_of base t = pieces_from base 0 0 t

-- ---- the nodes of a snippet

-- those of a descriptor with these pieces
abbrev pub descriptor_nodes : ℕ → Span → List Node → List Node
descriptor_nodes base span pieces = node_at base span (length pieces) kind.Descriptor (three 0 0 0) ∷ pieces

abbrev pub part_nodes : ℕ → List ℕ → Descriptor → List Node
part_nodes base kept part =
    if part.space then node_at base part.span 0 kind.NabcSpace (three 0 0 0) ∷ []
    else descriptor_nodes base part.span (pieces_of (base + part.span.from) (bytes_of kept part))

-- the nodes of a snippet whose bytes count from base on
abbrev pub nabc_nodes : ℕ → List ℕ → List Node
nabc_nodes base kept = flat_map (part_nodes base kept) (parts_of kept)
