-- The lines of a dump, in bytes of UTF-8. Every line ends with LF.
use Rattle.std.specs.Prelude.{ℕ, List, [], ◌∷◌, ◌++◌, ◌==◌, codes, encode_utf8_all, if◌then◌else◌}
use Rattle.std.specs.List.{flat_map}
use Rattle.std.specs.Fmt.{decimal}

-- a backslash is written `\\`, and an LF `\n`
abbrev pub escaped_byte : ℕ → List ℕ
escaped_byte c = if c == 92 then codes "\\\\" else if c == 10 then codes "\\n" else c ∷ []

-- a text taken from the input
abbrev pub escaped : List ℕ → List ℕ
escaped text = flat_map escaped_byte text

-- `header NAME:VALUE`
abbrev pub line_of_header : List ℕ × List ℕ → List ℕ
line_of_header e = codes "header " ++ (escaped (encode_utf8_all e.0) ++ (codes ":" ++ (escaped (encode_utf8_all e.1) ++ codes "\n")))

-- the lines before the syllables: `dump 2`, and a line for each header
abbrev pub dump_heads : List (List ℕ × List ℕ) → List ℕ
dump_heads book = codes "dump 2\n" ++ flat_map line_of_header book

-- the line after them, for n syllables: `end COUNT`
abbrev pub end_line : ℕ → List ℕ
end_line count = codes "end " ++ (decimal count ++ codes "\n")
