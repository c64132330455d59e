-- The line of the text of a syllable, as the writer passes on its parts.
use Rattle.std.proofs.Common.{ℕ, List, [], ◌∷◌, ◌++◌, ◌≡◌, Bool, true, codes, if◌then◌else◌, rules, refl, append-nil, append_assoc, ap, sym, ◌∙◌}
use Rattle.std.proofs.lemmas.Grind.{flat_map-append}
use Rattle.gabc_write.specs.DumpLines.{escaped, escaped_byte}

-- the line has begun after these bytes: there are some, or it had before
abbrev pub begun_after : Bool → List ℕ → Bool
begun_after begun [] = begun
begun_after begun (c ∷ t) = true

-- the part of the line that these bytes add, with `text:` before it if the line has not begun
abbrev pub line_part : Bool → List ℕ → List ℕ
line_part begun [] = []
line_part begun (c ∷ t) = (if begun then [] else codes "text:") ++ escaped (c ∷ t)

-- the end of the line, if it has begun
abbrev pub line_end : Bool → List ℕ
line_end begun = if begun then codes "\n" else []

-- ---- two parts are one

pub begun_is_one : (begun : Bool) (a b : List ℕ) → begun_after (begun_after begun a) b ≡ begun_after begun (a ++ b)
begun_is_one begun [] b = refl
begun_is_one begun (c ∷ a) [] = refl
begun_is_one begun (c ∷ a) (d ∷ b) = refl

pub parts_are_one : (begun : Bool) (a b : List ℕ) → line_part begun a ++ line_part (begun_after begun a) b ≡ line_part begun (a ++ b)
parts_are_one begun [] b = refl
parts_are_one begun (c ∷ a) [] = search (rules, append-nil)
parts_are_one begun (c ∷ a) (d ∷ b) =
    append_assoc (if begun then [] else codes "text:") (escaped (c ∷ a)) (escaped (d ∷ b))
    ∙ ap (λ (t : List ℕ). (if begun then [] else codes "text:") ++ t) (sym (flat_map-append escaped_byte (c ∷ a) (d ∷ b)))
