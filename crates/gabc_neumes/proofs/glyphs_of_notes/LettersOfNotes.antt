-- The letters of notes one after the other.
use Rattle.std.proofs.Common.{◌≡◌, ℕ, zero, suc, List, [], ◌∷◌, ◌++◌, refl, ap, Bool, if◌then◌else◌, Option, Some, None, take, length, get_or, ◌<◌, ◌+◌, arith, sym, ◌∙◌}
use Rattle.std.proofs.lemmas.List.{take_more}
use Rattle.gabc_notes.specs.declared.note.Note.{Note}
use Rattle.gabc_notes.specs.declared.note.Shape.{Shape}
use Rattle.gabc_patterns.proofs.ItemsByLetters.{AreLetters}
use Rattle.gabc_neumes.specs.Letters.{letters, letters_from, letter_of, shape_letter, step_letter}
use Rattle.gabc_neumes.specs.machine.GlyphMachine.{class_of_letter, class_at, step_class}
use Rattle.gabc_neumes.specs.declared.state.NoteClass.TheVariants.{First, Up, Down, Level, PointUp, PointDown, PointLevel}

-- ---- as many as notes, and a prefix of them for a prefix of the notes

pub many : (b : Option ℕ) (ns : List Note) → length (letters_from b ns) ≡ length ns
many b [] = refl
many b (n ∷ ns) = ap suc (many (Some n.height) ns)

prefix : (b : Option ℕ) (m : ℕ) (ns : List Note) → letters_from b (take m ns) ≡ take m (letters_from b ns)
prefix b zero ns = refl
prefix b (suc m) [] = refl
prefix b (suc m) (n ∷ ns) = ap (λ (u : List ℕ). letter_of b n ∷ u) (prefix (Some n.height) m ns)

pub are_letters : AreLetters letters
are_letters = record { as_many = many None; prefix = prefix None }

-- ---- the letter of a note more

-- the height of the last note, where that before them is b
abbrev pub last_from : Option ℕ → List Note → Option ℕ
last_from b [] = b
last_from b (n ∷ ns) = last_from (Some n.height) ns

-- the height of the last note
abbrev pub last_height : List Note → Option ℕ
last_height ns = last_from None ns

pub letters-snoc : (b : Option ℕ) (ns : List Note) (n : Note) → letters_from b (ns ++ n ∷ []) ≡ letters_from b ns ++ letter_of (last_from b ns) n ∷ []
letters-snoc b [] n = refl
letters-snoc b (m ∷ ns) n = ap (λ (u : List ℕ). letter_of b m ∷ u) (letters-snoc (Some m.height) ns n)

pub last-snoc : (b : Option ℕ) (ns : List Note) (n : Note) → last_from b (ns ++ n ∷ []) ≡ Some n.height
last-snoc b [] n = refl
last-snoc b (m ∷ ns) n = last-snoc (Some m.height) ns n

-- the height of the last note up to a place
pub last_next : (ns : List Note) (i : ℕ) (d : Note) → i < length ns → Some (get_or ns i d).height ≡ last_height (take (i + 1) ns)
last_next ns i d l = sym (ap last_height (take_more ns i d l) ∙ last-snoc None (take i ns) (get_or ns i d))

-- the letter of the note at a place
pub letter_at : (b : Option ℕ) (ns : List Note) (i : ℕ) (d : Note) (e : ℕ) → i < length ns
    → letter_of (last_from b (take i ns)) (get_or ns i d) ≡ get_or (letters_from b ns) i e
letter_at b [] i d e l = absurd (omega arith)
letter_at b (n ∷ ns) zero d e l = refl
letter_at b (n ∷ ns) (suc i) d e l = letter_at (Some n.height) ns i d e (omega arith)

-- ---- the class of a note's letter is the note's

of_first : (s : Shape) → class_of_letter (shape_letter s) ≡ First s
of_first s = grind arith

of_joinable : (l h : Bool) → class_of_letter (if l then 68 else if h then 85 else 69) ≡ (if l then Down else if h then Up else Level)
of_joinable l h = grind arith

of_point : (l h : Bool) → class_of_letter (if l then 100 else if h then 117 else 101) ≡ (if l then PointDown else if h then PointUp else PointLevel)
of_point l h = grind arith

of_step : (s : Shape) (a b : ℕ) → class_of_letter (step_letter s a b) ≡ step_class s a b
of_step s a b = grind (arith, of_point, of_joinable)

pub class_of_letter_of : (b : Option ℕ) (n : Note) → class_of_letter (letter_of b n) ≡ class_at b n
class_of_letter_of b n = grind (arith, of_first, of_step)
