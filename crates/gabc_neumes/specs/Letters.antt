-- The notes of a segment as letters, one for each: of the first its shape; of another whether it is
-- joinable, an inclinatum or neither, and whether it is higher or lower than the note before it, or
-- level with it.
use Rattle.std.specs.Prelude.{ℕ, nat_lt, List, [], ◌∷◌, Bool, codes, Option, Some, None, if◌then◌else◌}
use Rattle.gabc_notes.specs.declared.note.Note.{Note}
use Rattle.gabc_notes.specs.declared.note.Shape.{Shape}
use Rattle.gabc_notes.specs.declared.note.Shape.TheVariants.{Punctum, Inclinatum, Virga, Bivirga, Trivirga, VirgaReversa, Stropha, Distropha, Tristropha, Oriscus, OriscusScapus, Quilisma, QuilismaQuadratum, Quadratum, Cavum, Lined, Linea}
use Rattle.gabc_patterns.specs.Pattern.{is_in}

-- the letter of a first note of that shape: p i v b t V s S T o O w W q r R =
abbrev pub shape_letter : Shape → ℕ
shape_letter Punctum = 112
shape_letter Inclinatum = 105
shape_letter Virga = 118
shape_letter Bivirga = 98
shape_letter Trivirga = 116
shape_letter VirgaReversa = 86
shape_letter Stropha = 115
shape_letter Distropha = 83
shape_letter Tristropha = 84
shape_letter Oriscus = 111
shape_letter OriscusScapus = 79
shape_letter Quilisma = 119
shape_letter QuilismaQuadratum = 87
shape_letter Quadratum = 113
shape_letter Cavum = 114
shape_letter Lined = 82
shape_letter Linea = 61

-- the letters of joinable shapes: punctum, oriscus, oriscus-scapus, quilisma, quilisma-quadratum,
-- quadratum
abbrev pub joinable_letters : List ℕ
joinable_letters = codes "poOwWq"

-- a note of that shape is joinable
abbrev pub is_joinable : Shape → Bool
is_joinable s = is_in (shape_letter s) joinable_letters

-- the letter of a note at the height here after one at the height before: D U E joinable, d u e an
-- inclinatum, x neither; lower, higher, level
abbrev pub step_letter : Shape → ℕ → ℕ → ℕ
step_letter Inclinatum before here = if nat_lt here before then 100 else if nat_lt before here then 117 else 101
step_letter s before here = if is_joinable s then (if nat_lt here before then 68 else if nat_lt before here then 85 else 69) else 120

-- the letter of a note, where the note before it is at that height, or there is none
abbrev pub letter_of : Option ℕ → Note → ℕ
letter_of None n = shape_letter n.shape
letter_of (Some before) n = step_letter n.shape before n.height

-- the letters of notes, where the note before them is at that height, or there is none
abbrev pub letters_from : Option ℕ → List Note → List ℕ
letters_from before [] = []
letters_from before (n ∷ ns) = letter_of before n ∷ letters_from (Some n.height) ns

-- the letters of a segment's notes
abbrev pub letters : List Note → List ℕ
letters ns = letters_from None ns
