-- The notes that heads show, and their heights.
use Rattle.std.specs.Prelude.{ℕ, ◌+◌, ◌-◌, ◌*◌, List, [], ◌∷◌, ◌++◌, map, cond, ℤ, pos, ◌-ℤ◌}
use Rattle.std.specs.List.{flat_map}
use Rattle.gabc_marks.specs.declared.head.Head.{Head}
use Rattle.gabc_marks.specs.declared.head.Head.TheVariants.{Single, Stroke, Joined as JoinedHead}
use Rattle.gabc_marks.specs.declared.head.NoteHead.{NoteHead}
use Rattle.gabc_marks.specs.declared.joined.Family.{Family}
use Rattle.gabc_marks.specs.declared.joined.Family.TheVariants as family
use Rattle.gabc_marks.specs.declared.picture.Part.{Part}

-- the distance of a note of this pitch below the lowest line of its staff, in thousandths of a
-- space: a pitch is half a space above the one below it, and the lowest line is that of d, 3
abbrev pub height_at : ℕ → ℤ
height_at pitch = pos 1500 -ℤ pos (500 * pitch)

-- the pitches of the notes of a neume, of which the first is p, and each further one lies a, b or c
-- steps above or below the one before it
abbrev pub pitches_of_family : Family → ℕ → ℕ → ℕ → ℕ → List ℕ
pitches_of_family family.Flexus p a b c = p ∷ (p - a) ∷ []
pitches_of_family family.FlexusOriscus p a b c = p ∷ (p - a) ∷ []
pitches_of_family family.Torculus p a b c = p ∷ (p + a) ∷ (p + a - b) ∷ []
pitches_of_family family.TorculusQuilisma p a b c = p ∷ (p + a) ∷ (p + a - b) ∷ []
pitches_of_family family.Porrectus p a b c = p ∷ (p - a) ∷ (p - a + b) ∷ []
pitches_of_family family.Scandicus p a b c = p ∷ (p + a) ∷ (p + a + b) ∷ []
pitches_of_family family.Salicus p a b c = p ∷ (p + a) ∷ (p + a + b) ∷ []
pitches_of_family family.TorculusResupinus p a b c = p ∷ (p + a) ∷ (p + a - b) ∷ (p + a - b + c) ∷ []
pitches_of_family family.TorculusResupinusQuilisma p a b c = p ∷ (p + a) ∷ (p + a - b) ∷ (p + a - b + c) ∷ []
pitches_of_family family.PorrectusFlexus p a b c = p ∷ (p - a) ∷ (p - a + b) ∷ (p - a + b - c) ∷ []
pitches_of_family other p a b c = p ∷ (p + a) ∷ []

-- the pitches of the notes that an outline shows, of which the first is p
abbrev pub pitches_shown : Head → ℕ → List ℕ
pitches_shown (Stroke steps) p = p ∷ (p - steps) ∷ []
pitches_shown (JoinedHead j) p = pitches_of_family j.family p j.first j.second j.third
pitches_shown (Single s) p = p ∷ []

-- the pitches of the notes that heads show, in their order
abbrev pub pitches_of_heads : List NoteHead → List ℕ
pitches_of_heads heads = flat_map (λ (h : NoteHead). pitches_shown h.head h.pitch) heads

-- the bytes of a file from which something was read
pub record Bytes : Type 0 where
  pub begin : ℕ
  pub end : ℕ

-- what is shown of a score: a syllable with these bytes begins; or a note of this pitch, which
-- belongs to the syllable with these bytes
pub data Shown : Type 0 where
  Syllable : Bytes → Shown
  Note : Bytes → ℕ → Shown

-- notes of these pitches in the syllable with these bytes
abbrev pub notes_of : Bytes → List ℕ → List Shown
notes_of bytes pitches = map (Note bytes) pitches

abbrev pub bytes_of_part : Part → Bytes
bytes_of_part p = record { begin = p.begin; end = p.end }

-- what the group of a part shows: that its syllable begins, if it is the first part of it, and the
-- notes of its heads
abbrev pub shown_by_part : Part → List Shown
shown_by_part p =
    cond p.is_first (Syllable (bytes_of_part p) ∷ []) []
    ++ notes_of (bytes_of_part p) (pitches_of_heads p.heads.items)

-- what the groups of parts show, in their order
abbrev pub shown_by_parts : List Part → List Shown
shown_by_parts parts = flat_map shown_by_part parts
