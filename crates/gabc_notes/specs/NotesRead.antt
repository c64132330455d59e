-- The reading of a text by `snippet_whole`, by relations over the whole of the snippet with which
-- it begins. Characters are listed with the nearest first, each with whether it lies in a comment.
use Rattle.std.specs.Prelude.{◌≡◌, ◌⊎◌, ◌↔◌, ℕ, List, [], ◌∷◌, ◌++◌, ◌==◌, Bool, true, false, IsTrue, codes, chars, if◌then◌else◌, Some, map, reverse, sum_by, string_bytes, encode_utf8_all}
use Rattle.std.specs.Char.{len_utf8}
use Rattle.std.specs.List.{list_any}
use Rattle.gabc_places.specs.declared.code.Code.{Code}
use Rattle.gabc_places.specs.declared.code.Code.TheVariants.{E1, E6, W8, W10}
use Rattle.gabc_places.specs.declared.code.Finding.{Finding}
use Rattle.gabc_places.specs.declared.place.Char.{Char}
use Rattle.gabc_places.specs.declared.place.Place.{Place}
use Rattle.gabc_places.specs.Place.{placed_characters_from}
use Rattle.gabc_patterns.specs.Kept.{Keeps, Trims}
use Rattle.gabc_patterns.specs.LongestItems.{IsReading, IsSnippet, IsViable}
use Rattle.gabc_notes.specs.Table.{gabc}
use Rattle.gabc_notes.specs.Raw.{IsOpen}
use Rattle.gabc_notes.specs.FoundAt.{AreThoseFound}
use Rattle.gabc_notes.specs.Events.{ItemText, macro_in, is_defined}
use Rattle.gabc_notes.specs.declared.item.ItemKind.TheVariants.{Attribute, Fusion}
use Rattle.gabc_notes.specs.declared.snippet_read.SnippetEnding.TheVariants.{Next, Close, Cut}
use Rattle.gabc_notes.specs.declared.snippet_read.SnippetRead.{SnippetRead}

-- a character, and whether it lies in a comment
abbrev pub Marked : Type 0
Marked = Char × Bool

-- ---- comments, and the kept text

-- those outside comments, in order
abbrev pub outside : List Marked → List ℕ
outside [] = []
outside (m ∷ back) = if m.1 then outside back else outside back ++ m.0.c ∷ []

-- that is kept of them: each one outside comments, exactly if what is kept before it, followed by
-- it, is viable
abbrev pub IsKeptOf : List Marked → List ℕ → Type 0
IsKeptOf back kept = Keeps gabc [] (outside back) kept

-- what is kept of them ends inside raw
abbrev pub IsInRaw : List Marked → Type 0
IsInRaw back = (kept : List ℕ) × IsKeptOf back kept × IsOpen kept

-- They end with a `%` outside raw and what follows it, and there is no LF from there on.
pub record IsInComment (back : List Marked) : Type 0 where
  pub line : List Marked
  pub mark : Marked
  pub before : List Marked
  pub cut : back ≡ line ++ mark ∷ before
  pub percent : mark.0.c ≡ 37
  pub no_raw : ¬ IsInRaw before
  pub no_feed : list_any (λ (m : Marked). m.0.c == 10) line ≡ false

-- each is marked exactly if it lies in a comment
abbrev pub AreMarked : List Marked → Type 0
AreMarked [] = Unit {0}
AreMarked (m ∷ back) = (IsTrue m.1 ↔ IsInComment (m ∷ back)) × AreMarked back

-- the last of them is kept, and t is what is kept with it
abbrev pub IsKeptWith : List Marked → List ℕ → Type 0
IsKeptWith [] t = ⊥
IsKeptWith (m ∷ back) t = (m.1 ≡ false) × ((kept : List ℕ) × IsKeptOf back kept × (t ≡ kept ++ m.0.c ∷ []) × IsViable gabc t)

-- those of them that are kept, in order
abbrev pub AreKept : List Marked → List Char → Type 0
AreKept [] cs = cs ≡ []
AreKept (m ∷ back) cs =
    (before : List Char) × AreKept back before
    × ((((t : List ℕ) × IsKeptWith (m ∷ back) t) × (cs ≡ before ++ m.0 ∷ [])) ⊎ ((¬ ((t : List ℕ) × IsKeptWith (m ∷ back) t)) × (cs ≡ before)))

-- ---- items

-- the last of them is kept, and ends that item
abbrev pub EndsItem : List Marked → ItemText → Type 0
EndsItem back i = (t : List ℕ) × IsKeptWith back t × ((items : List ItemText) × IsReading gabc (items ++ i ∷ []) t)

-- an `@[` is open: an item of theirs, with no `]` after it that is one
abbrev pub IsFused : List Marked → Type 0
IsFused [] = ⊥
IsFused (m ∷ back) = EndsItem (m ∷ back) (Fusion, codes "@[") ⊎ ((¬ EndsItem (m ∷ back) (Fusion, codes "]")) × IsFused back)

-- the last of them is kept, and is outside raw
abbrev pub IsKeptOutside : List Marked → Type 0
IsKeptOutside [] = ⊥
IsKeptOutside (m ∷ back) = ((t : List ℕ) × IsKeptWith (m ∷ back) t) × (¬ IsInRaw back)

-- the last one that is kept and is outside raw is at this place: inside raw it is the open bracket
abbrev pub IsOpener : List Marked → Place → Type 0
IsOpener [] place = place ≡ record { line = 0; column = 0 }
IsOpener (m ∷ back) place = (IsKeptOutside (m ∷ back) × (place ≡ m.0.place)) ⊎ ((¬ IsKeptOutside (m ∷ back)) × IsOpener back place)

-- ---- findings

-- the finding is made at the character m after those
abbrev pub IsFound : ℕ → Marked → List Marked → Code → Place → Type 0
IsFound macros m back E1 place = (m.1 ≡ false) × ((t : List ℕ) → ¬ IsKeptWith (m ∷ back) t) × (place ≡ m.0.place)
IsFound macros m back W8 place =
    ((t : List ℕ) × (digit : ℕ) × EndsItem (m ∷ back) (Attribute, t) × (macro_in t ≡ Some digit) × (is_defined macros digit ≡ false)) × IsOpener back place
IsFound macros m back W10 place =
    ((EndsItem (m ∷ back) (Fusion, codes "@[") × IsFused back) ⊎ (EndsItem (m ∷ back) (Fusion, codes "]") × (¬ IsFused back))) × (place ≡ m.0.place)
IsFound macros m back _ place = ⊥

-- these are found at the characters, in order
abbrev pub AreFound : ℕ → List Marked → List Finding → Type 0
AreFound macros [] fs = fs ≡ []
AreFound macros (m ∷ back) fs = (before here : List Finding) × (fs ≡ before ++ here) × AreFound macros back before × AreThoseFound (λ f. IsFound macros m back f.code f.place) here

-- ---- the end

-- The character x after them ends the snippet: a `)` outside raw and in no comment, or if the notes
-- are split a `|`.
pub record IsEnd (split : Bool) (back : List Marked) (x : Char) : Type 0 where
  pub mark : (x.c ≡ 41) ⊎ ((split ≡ true) × (x.c ≡ 124))
  pub no_comment : ¬ IsInComment ((x, false) ∷ back)
  pub no_raw : ¬ IsInRaw back

-- At the mark x after those, of which that is kept, these are found: E6 of an unfinished end, and
-- W10 of an `@[` that is open.
pub record AreFoundAtEnd (back : List Marked) (kept : List ℕ) (x : Char) (found : List Finding) : Type 0 where
  pub unfinished : List Finding
  pub fused : List Finding
  pub is_unfinished : AreThoseFound (λ f. (f ≡ record { place = x.place; code = E6 }) × (¬ IsSnippet gabc kept)) unfinished
  pub is_fused : AreThoseFound (λ f. (f ≡ record { place = x.place; code = W10 }) × IsFused back) fused
  pub all : found ≡ unfinished ++ fused

-- The snippet ends at the mark x after those. An unfinished end is left out.
pub record IsEnded (split : Bool) (back : List Marked) (kept : List ℕ) (found : List Finding) (x : Char) (r : SnippetRead) : Type 0 where
  pub mark : IsEnd split back x
  pub whole : List ℕ
  pub trims : Trims gabc kept whole
  pub last : List Finding
  pub is_last : AreFoundAtEnd back kept x last
  pub kept_is : string_bytes r.kept ≡ encode_utf8_all whole
  pub findings_are : r.findings ≡ found ++ last
  pub how_is : r.how ≡ (let n = sum_by (λ (m : Marked). len_utf8 m.0.c) back in if x.c == 124 then Next n else Close n)

-- the place of the open bracket, if one is open; else no place
abbrev pub IsCutAt : List Marked → Place → Type 0
IsCutAt back place = (IsInRaw back × IsOpener back place) ⊎ ((¬ IsInRaw back) × (place ≡ record { line = 0; column = 0 }))

-- the snippet ends before the rest, or is cut at the end of the text
abbrev pub IsRead : Bool → List Marked → List ℕ → List Finding → List Char → SnippetRead → Type 0
IsRead split back kept found [] r = (string_bytes r.kept ≡ encode_utf8_all kept) × (r.findings ≡ found) × ((place : Place) × IsCutAt back place × (r.how ≡ Cut place))
IsRead split back kept found (x ∷ rest) r = IsEnded split back kept found x r

-- The text begins with the snippet, in which nothing ends one.
pub record IsSnippetRead (at : Place) (split : Bool) (macros : ℕ) (text : List ℕ) (r : SnippetRead) : Type 0 where
  pub back : List Marked
  pub rest : List Char
  pub cut : placed_characters_from at text ≡ reverse (map (λ (m : Marked). m.0) back) ++ rest
  pub marked : AreMarked back
  pub unended : (after before : List Marked) (m : Marked) → back ≡ after ++ m ∷ before → ¬ IsEnd split before m.0
  pub kept : List ℕ
  pub keeps : IsKeptOf back kept
  pub found : List Finding
  pub finds : AreFound macros back found
  pub is_read : IsRead split back kept found rest r

-- The characters are those of the text that is read, each with its place: the first of those that
-- are kept.
pub record AreKeptChars (at : Place) (split : Bool) (macros : ℕ) (text : List ℕ) (cs : List Char) : Type 0 where
  pub read : SnippetRead
  pub is_read : IsSnippetRead at split macros text read
  pub kept : List Char
  pub are_kept : AreKept is_read.back kept
  pub rest : List Char
  pub cut : kept ≡ cs ++ rest
  pub same : map (λ (x : Char). x.c) cs ≡ chars (string_bytes read.kept)
