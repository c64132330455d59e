-- The map of headers: names with values, each name at the place of its first and with the value of
-- its last.
use Rattle.std.specs.Prelude.{ℕ, ◌+◌, ◌<◌, ◌≤◌, ◌≡◌, length, map, max, List, [], ◌∷◌, Bool, true, false, not, ◌&&◌, IsUtf8}
use Rattle.std.specs.Str.{chars}
use Rattle.std.specs.declared.hash.DefaultHasher.{DefaultHasher}
use Rattle.gabc_places.specs.declared.place.Span.{Span}
use Rattle.gabc_headers.specs.declared.entry_map.Key.{Key}
use Rattle.gabc_headers.specs.declared.entry_map.Key.TheVariants.{Name, Annotation}
use Rattle.gabc_headers.specs.Book.{is_one_of}
use Rattle.gabc_headers.specs.Entries.{key_name, text_at}
use Rattle.gabc_headers.specs.machine.Spans.{IsWithin}
use Rattle.gabc_headers.specs.EntryMap.{is_annotation}

-- the state that a map of headers shows: the keys with the spans of their values, the number of
-- headers for which it has room, and its hasher of names
abbrev pub EntryMapState : Type 0
EntryMapState = List (Key × Span) × ℕ × DefaultHasher

-- there is room for one header more
abbrev pub HasPlace : EntryMapState → Type 0
HasPlace map = length map.0 < map.1

-- the entries, with the names that the keys stand for
abbrev pub named_entries : {X : Type 0} → List (Key × X) → List (List ℕ × X)
named_entries [] = []
named_entries (e ∷ es) = (key_name e.0, e.1) ∷ named_entries es

-- the names, each with the characters of its span of a text's bytes
abbrev pub spelled_named : List ℕ → List (List ℕ × Span) → List (List ℕ × List ℕ)
spelled_named text es = map (λ e. (e.0, text_at text e.1)) es

-- the names of the entries
abbrev pub names : {X : Type 0} → List (List ℕ × X) → List (List ℕ)
names [] = []
names (d ∷ ds) = d.0 ∷ names ds

-- whether the name has an entry that it can replace
abbrev pub comes_again : {X : Type 0} → List (List ℕ × X) → List ℕ → Bool
comes_again es name = not (is_annotation name) && is_one_of name (names es)

-- the key of a header of this name, before which there are n
abbrev pub IsKeyOf : List ℕ → ℕ → Key → Type 0
IsKeyOf name n (Name s) = (s.bytes ≡ name) × (is_annotation (chars name) ≡ false)
IsKeyOf name n (Annotation i) = (i ≡ n) × (is_annotation (chars name) ≡ true)

-- a key that is a name is a text and no annotation, and one that is a number is below the number of
-- the entries
abbrev pub IsKeyBelow : ℕ → Key → Type 0
IsKeyBelow n (Name s) = (is_annotation (chars s.bytes) ≡ false) × IsUtf8 s.bytes
IsKeyBelow n (Annotation i) = i < n

abbrev pub AreKeysBelow : {X : Type 0} → ℕ → List (Key × X) → Type 0
AreKeysBelow n [] = Unit {0}
AreKeysBelow n (e ∷ es) = IsKeyBelow n e.0 × AreKeysBelow n es

-- the keys are those of the entries, and as many as the limit says fit without more memory
pub record IsEntryRoom (limit room : ℕ) (es : List (Key × Span)) : Type 0 where
  pub keys : AreKeysBelow (length es) es
  pub fits : limit ≤ length es + room

-- each span lies in the text, between characters
abbrev pub AreWithin : {K : Type 0} → List ℕ → List (K × Span) → Type 0
AreWithin text [] = Unit {0}
AreWithin text (e ∷ es) = IsWithin text e.1 × AreWithin text es

-- the largest end of these spans, or 0
abbrev pub values_end : {K : Type 0} → List (K × Span) → ℕ
values_end [] = 0
values_end (e ∷ es) = max e.1.to (values_end es)
