-- The items of a kept text by the bytes at which they begin and end.
use Rattle.std.specs.Prelude.{◌≡◌, ℕ, ◌+◌, ◌≤◌, List, [], ◌∷◌, map, slice_range, length, encode_utf8_all}
use Rattle.std.specs.Str.{chars}
use Rattle.std.specs.List.{All}
use Rattle.gabc_patterns.specs.LongestItems.{IsReading, IsSnippet}
use Rattle.gabc_patterns.specs.Items.{FollowOn, ItemSpan}
use Rattle.gabc_patterns.specs.ItemsRead.{ReadsTo}
use Rattle.gabc_patterns.specs.Reads.{items_by}
use Rattle.gabc_notes.specs.Table.{gabc}
use Rattle.gabc_notes.specs.declared.item.Item.{Item}
use Rattle.gabc_notes.specs.declared.item.ItemKind.{ItemKind}

-- the text, as its bytes, is a snippet
abbrev pub IsKept : List ℕ → Type 0
IsKept bytes = IsSnippet gabc (chars bytes)

-- the items lie in the text
abbrev pub AreWithin : List ℕ → List Item → Type 0
AreWithin bytes items = All (λ i. (i.span.from ≤ i.span.to) × (i.span.to ≤ length bytes)) items

-- the bytes of an item
abbrev pub bytes_of : List ℕ → Item → List ℕ
bytes_of bytes i = slice_range bytes i.span.from i.span.to

-- an item's kind and its characters
abbrev pub read_as : List ℕ → Item → ItemKind × List ℕ
read_as bytes i = (i.kind, chars (bytes_of bytes i))

-- an item's kind, and its beginning and end
abbrev pub piece_of : Item → ItemSpan ItemKind
piece_of i = (i.kind, i.span.from, i.span.to)

-- The items make up the text: each is the longest that begins at its place, and begins at the end
-- of the one before it.
pub record MakeUp (bytes : List ℕ) (items : List Item) : Type 0 where
  pub reads : IsReading gabc (map (read_as bytes) items) (chars bytes)
  pub joined : FollowOn 0 (map piece_of items) (length bytes)

-- items of these kinds and characters, one after the other from that byte on
abbrev pub placed_items : ℕ → List (ItemKind × List ℕ) → List Item
placed_items at [] = []
placed_items at (i ∷ is) =
    let to = at + length (encode_utf8_all i.1) in
    record { kind = i.0; span = record { from = at; to = to } } ∷ placed_items to is

-- The items of the text, up to the first place where none begins: each is the longest that begins
-- at the end of the one before it. Of a snippet they are all.
pub record AreItemsOf (bytes : List ℕ) (items : List Item) : Type 0 where
  pub texts : List (ItemKind × List ℕ)
  pub rest : List ℕ
  pub reads : ReadsTo gabc texts (chars bytes) rest
  pub placed : items ≡ placed_items 0 texts

-- the items of the rest of a text from that byte on, each the longest that begins at its place, up
-- to the first place where none begins
abbrev pub items_from : ℕ → List ℕ → List Item
items_from at rest = placed_items at (items_by gabc (chars rest))

-- the items of a text: of a snippet all
abbrev pub items_of : List ℕ → List Item
items_of bytes = items_from 0 bytes
