-- The reading of a text by `nabc_whole`, by relations over the whole of the snippet with which it
-- begins.
use Rattle.std.specs.Prelude.{◌≡◌, ◌⊎◌, ℕ, List, [], ◌∷◌, ◌++◌, ◌==◌, true, false, chars, if◌then◌else◌, length, map, string_bytes, encode_utf8_all}
use Rattle.gabc_places.specs.declared.code.Code.{Code}
use Rattle.gabc_places.specs.declared.code.Code.TheVariants.{E3, E6, W7}
use Rattle.gabc_places.specs.declared.code.Finding.{Finding}
use Rattle.gabc_places.specs.declared.place.Char.{Char}
use Rattle.gabc_places.specs.declared.place.Place.{Place}
use Rattle.gabc_places.specs.Place.{place_past, placed_characters_from}
use Rattle.gabc_patterns.specs.Kept.{Keeps, Trims}
use Rattle.gabc_patterns.specs.LongestItems.{IsSnippet, IsViable}
use Rattle.gabc_patterns.specs.Pattern.{Spells}
use Rattle.gabc_notes.specs.FoundAt.{AreThoseFound}
use Rattle.gabc_notes.specs.declared.snippet_read.SnippetEnding.TheVariants.{Next, Close, Cut}
use Rattle.gabc_notes.specs.declared.snippet_read.SnippetRead.{SnippetRead}
use Rattle.gabc_nabc.specs.Table.{nabc, code}
use Rattle.gabc_nabc.specs.Names.{is_known}
use Rattle.gabc_nabc.specs.Events.{is_character, is_end, characters_after}

-- that is kept of the text: of its characters each one, exactly if what is kept before it, followed
-- by it, is viable
abbrev pub IsKeptOf : List ℕ → List ℕ → Type 0
IsKeptOf t kept = Keeps nabc [] (characters_after [] t) kept

-- the character c after the text is one of the snippet's, and kept
abbrev pub IsKeptAfter : List ℕ → ℕ → Type 0
IsKeptAfter t c = (is_character t c ≡ true) × ((kept : List ℕ) × IsKeptOf t kept × IsViable nabc (kept ++ c ∷ []))

-- those of the characters after the text that are kept, in order
abbrev pub AreKept : List ℕ → List Char → List Char → Type 0
AreKept t [] cs = cs ≡ []
AreKept t (x ∷ xs) cs = (later : List Char) × AreKept (t ++ x.c ∷ []) xs later × ((IsKeptAfter t x.c × (cs ≡ x ∷ later)) ⊎ ((¬ IsKeptAfter t x.c) × (cs ≡ later)))

-- The letter c ends a code that the table of names lacks. A code may begin after a snippet, and
-- after the `!` that joins glyphs.
pub record EndsUnknownCode (kept : List ℕ) (c : ℕ) : Type 0 where
  pub before : List ℕ
  pub first : ℕ
  pub cut : kept ≡ before ++ first ∷ []
  pub begins : IsSnippet nabc before ⊎ ((joined : List ℕ) × (before ≡ joined ++ 33 ∷ []))
  pub is_code : Spells code (first ∷ c ∷ [])
  pub unknown : is_known first c ≡ false

-- the code is found at a character c of the snippet, where that is kept before it
abbrev pub IsFound : List ℕ → ℕ → Code → Type 0
IsFound kept c E3 = ¬ IsViable nabc (kept ++ c ∷ [])
IsFound kept c W7 = IsViable nabc (kept ++ c ∷ []) × EndsUnknownCode kept c
IsFound kept c _ = ⊥

-- the finding is made at the character after the text
abbrev pub IsFoundAfter : List ℕ → Char → Finding → Type 0
IsFoundAfter t x f = (f.place ≡ x.place) × (is_character t x.c ≡ true) × ((kept : List ℕ) × IsKeptOf t kept × IsFound kept x.c f.code)

-- these are found at the characters after the text, in order
abbrev pub AreFound : List ℕ → List Char → List Finding → Type 0
AreFound t [] fs = fs ≡ []
AreFound t (x ∷ xs) fs = (here later : List Finding) × (fs ≡ here ++ later) × AreThoseFound (IsFoundAfter t x) here × AreFound (t ++ x.c ∷ []) xs later

-- what is kept ends unfinished, which is found at the place of the mark
abbrev pub IsUnfinished : List ℕ → Place → Finding → Type 0
IsUnfinished kept place f = (f ≡ record { place = place; code = E6 }) × (¬ IsSnippet nabc kept)

-- The snippet ends at the mark c after its text, of which that is kept and found. An unfinished end
-- is left out, and found at the mark.
pub record IsEnded (at : Place) (front kept : List ℕ) (found : List Finding) (c : ℕ) (r : SnippetRead) : Type 0 where
  pub mark : is_end front c ≡ true
  pub whole : List ℕ
  pub trims : Trims nabc kept whole
  pub last : List Finding
  pub unfinished : AreThoseFound (IsUnfinished kept (place_past at front)) last
  pub kept_is : string_bytes r.kept ≡ encode_utf8_all whole
  pub findings_are : r.findings ≡ found ++ last
  pub how_is : r.how ≡ (let n = length (encode_utf8_all front) in if c == 124 then Next n else Close n)

-- the snippet ends before the rest, or is cut at the end of the text
abbrev pub IsRead : Place → List ℕ → List ℕ → List Finding → List ℕ → SnippetRead → Type 0
IsRead at front kept found [] r = (string_bytes r.kept ≡ encode_utf8_all kept) × (r.findings ≡ found) × (r.how ≡ Cut (record { line = 0; column = 0 }))
IsRead at front kept found (c ∷ rest) r = IsEnded at front kept found c r

-- The text begins with the snippet, and the characters before the rest have no mark that ends one.
pub record IsNabcRead (at : Place) (t : List ℕ) (r : SnippetRead) : Type 0 where
  pub front : List ℕ
  pub rest : List ℕ
  pub cut : t ≡ front ++ rest
  pub unended : (before after : List ℕ) (c : ℕ) → front ≡ before ++ c ∷ after → is_end before c ≡ false
  pub kept : List ℕ
  pub keeps : IsKeptOf front kept
  pub found : List Finding
  pub finds : AreFound [] (placed_characters_from at front) found
  pub is_read : IsRead at front kept found rest r

-- The characters are those of the text that is read, each with its place: the first of those that
-- are kept.
pub record AreKeptChars (at : Place) (t : List ℕ) (cs : List Char) : Type 0 where
  pub read : SnippetRead
  pub is_read : IsNabcRead at t read
  pub kept : List Char
  pub are_kept : AreKept [] (placed_characters_from at is_read.front) kept
  pub rest : List Char
  pub cut : kept ≡ cs ++ rest
  pub same : map (λ (x : Char). x.c) cs ≡ chars (string_bytes read.kept)
