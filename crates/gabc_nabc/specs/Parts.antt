-- The parts of a kept text by the bytes where they begin and end.
use Rattle.std.specs.Prelude.{◌≡◌, ℕ, ◌+◌, ◌≤◌, List, [], ◌∷◌, Bool, All, map, slice_range, length, encode_utf8_all}
use Rattle.std.specs.Str.{chars}
use Rattle.gabc_patterns.specs.LongestItems.{IsReading, IsSnippet}
use Rattle.gabc_patterns.specs.Items.{FollowOn, ItemSpan}
use Rattle.gabc_patterns.specs.ItemsRead.{ReadsTo}
use Rattle.gabc_patterns.specs.Reads.{items_by}
use Rattle.gabc_nabc.specs.Table.{nabc}
use Rattle.gabc_nabc.specs.declared.descriptor.Descriptor.{Descriptor}

-- the text, as its bytes, is an NABC snippet
abbrev pub IsNabc : List ℕ → Type 0
IsNabc bytes = IsSnippet nabc (chars bytes)

-- the bytes of a part
abbrev pub bytes_of : List ℕ → Descriptor → List ℕ
bytes_of bytes i = slice_range bytes i.span.from i.span.to

-- whether a part is a space, and its characters
abbrev pub read_as : List ℕ → Descriptor → Bool × List ℕ
read_as bytes i = (i.space, chars (bytes_of bytes i))

-- whether a part is a space, and where it begins and ends
abbrev pub piece_of : Descriptor → ItemSpan Bool
piece_of i = (i.space, i.span.from, i.span.to)

-- The parts make up the text: each is the longest that begins at its place, and begins where the
-- one before it ends.
pub record MakeUp (bytes : List ℕ) (parts : List Descriptor) : Type 0 where
  pub reads : IsReading nabc (map (read_as bytes) parts) (chars bytes)
  pub joined : FollowOn 0 (map piece_of parts) (length bytes)

-- parts of these kinds and characters, which stand one after the other from that byte on
abbrev pub placed_parts : ℕ → List (Bool × List ℕ) → List Descriptor
placed_parts at [] = []
placed_parts at (i ∷ is) =
    let to = at + length (encode_utf8_all i.1) in
    record { space = i.0; span = record { from = at; to = to } } ∷ placed_parts to is

-- The parts of the text, as far as one begins: each is the longest that begins where the one before
-- it ends. Of a snippet they are all.
pub record AreDescriptorsOf (bytes : List ℕ) (parts : List Descriptor) : Type 0 where
  pub texts : List (Bool × List ℕ)
  pub rest : List ℕ
  pub reads : ReadsTo nabc texts (chars bytes) rest
  pub placed : parts ≡ placed_parts 0 texts

-- the descriptors and spaces of what is left of a text from that byte on, each the longest that
-- begins at its place, as far as one begins
abbrev pub parts_from : ℕ → List ℕ → List Descriptor
parts_from at rest = placed_parts at (items_by nabc (chars rest))

-- the descriptors and spaces of a text: of a snippet all
abbrev pub parts_of : List ℕ → List Descriptor
parts_of bytes = parts_from 0 bytes

-- the parts lie in the text
abbrev pub AreWithin : List ℕ → List Descriptor → Type 0
AreWithin bytes parts = All (λ part. (part.span.from ≤ part.span.to) × (part.span.to ≤ length bytes)) parts
