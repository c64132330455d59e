-- The line of an item is short: an item of b bytes has a line of at most 33 * b.
use Rattle.std.proofs.Common.{ℕ, ◌+◌, ◌*◌, ◌≤◌, ◌-◌, List, [], ◌∷◌, ◌++◌, length, length-append, length-take, length-drop, drop, codes, Option, arith}
use Rattle.gabc_notes.specs.Notes.{from_pitch, height_at, shape_at}
use Rattle.gabc_notes.specs.declared.item.ItemKind.{ItemKind}
use Rattle.gabc_notes.specs.declared.item.ItemKind.TheVariants as kind
use Rattle.gabc_notes.specs.declared.note.Shape.{Shape}
use Rattle.gabc_neumes.specs.InForce.{InForce, sound_of}
use Rattle.gabc_neumes.specs.Sound.{sign_of}
use Rattle.gabc_neumes.specs.Words.{shape_word, alter_word}
use Rattle.gabc_neumes.specs.declared.sound.Alter.{Alter}
use Rattle.gabc_neumes.specs.declared.sound.Sound.{Sound}
use Rattle.gabc_write.specs.DumpLines.{escaped}
use Rattle.gabc_write.specs.DumpOfNotes.{last_text, degree_word, sound_words, line_of_note, bar_word, line_of_spacing, line_of_custos, raw_of, line_by}
use Rattle.gabc_write.proofs.DumpOfHeadersIsShort.{escaped_short}

-- ---- words

word_short : (s : Shape) → length (shape_word s) ≤ 18
word_short s = grind arith

-- a note of one character is a punctum or an inclinatum
one_character : (c : ℕ) → length (shape_word (shape_at (from_pitch (c ∷ [])))) ≤ 10
one_character c = grind arith

-- the word of a note's shape, by the number of its bytes
pub shape_short : (t : List ℕ) (b : ℕ) → length t ≤ b → 1 ≤ b → length (shape_word (shape_at (from_pitch t))) ≤ 10 * b
shape_short [] b l m = omega arith
shape_short (c ∷ []) b l m = omega (arith, one_character c)
shape_short (c ∷ d ∷ t) b l m = omega (arith, word_short (shape_at (from_pitch (c ∷ d ∷ t))))

-- ---- lines

pub last_short : (t : List ℕ) → length (last_text t) ≤ 2 * length t + 1
last_short t = omega (arith, length-append (escaped t) (codes "\n"), escaped_short t)

alter_short : (a : Alter) → length (alter_word a) ≤ 7
alter_short a = grind arith

degree_short : (degree : Option ℕ) → length (degree_word degree) ≤ 3
degree_short degree = grind arith

sound_short : (s : Sound) → length (sound_words s) ≤ 12
sound_short s = omega (arith, length-append (degree_word s.degree) (codes " " ++ alter_word s.alter), degree_short s.degree, alter_short s.alter)

note_short : (s : Sound) (t : List ℕ) (b : ℕ) → length t ≤ b → 1 ≤ b → length (line_of_note s t) ≤ 33 * b
note_short s t b l m = grind (arith, length-append, sound_short, last_short, shape_short)

bar_short : (t : List ℕ) → length (bar_word t) ≤ 7
bar_short t = grind arith

spacing_short : (t : List ℕ) → length (line_of_spacing t) ≤ 2 * length t + 12
spacing_short t = grind (arith, last_short)

custos_short : (t : List ℕ) → length (line_of_custos t) ≤ 12
custos_short t = grind arith

raw_short : (t : List ℕ) → length (raw_of t) ≤ length t
raw_short t = omega (arith, length-take (length t - 1 - 1) (drop 1 t), length-drop 1 t)

-- the line of an item of that spelling, which has at most b bytes
pub line_short : (f : InForce) (k : ItemKind) (t : List ℕ) (b : ℕ) → length t ≤ b → 1 ≤ b → length (line_by f k t) ≤ 33 * b
line_short f kind.Note t b l m = note_short (sound_of f (height_at (from_pitch t))) t b l m
line_short f kind.Alteration t b l m = omega (arith, length-append (alter_word (sign_of t)) (codes " " ++ last_text t), alter_short (sign_of t), last_short t)
line_short f kind.Bar t b l m = omega (arith, length-append (bar_word t) (codes " " ++ last_text t), bar_short t, last_short t)
line_short f kind.Spacing t b l m = omega (arith, spacing_short t)
line_short f kind.Custos t b l m = omega (arith, custos_short t)
line_short f kind.Attribute t b l m = omega (arith, last_short (raw_of t), raw_short t)
line_short f _ t b l m = omega (arith, last_short t)
