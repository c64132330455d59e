-- The marks at which the units of a body end.
use Rattle.std.specs.Prelude.{◌≡◌, ℕ, List, [], ◌∷◌, Option, Some, None}
use Rattle.gabc_body.specs.Units.{EndedPart, BodyUnit, LastUnit, JustText, OpenNotes, Units}

-- each of these parts ends at this character
abbrev pub EndAt : ℕ → List EndedPart → Type 0
EndAt c [] = Unit {0}
EndAt c (e ∷ es) = (e.end.c ≡ c) × EndAt c es

-- a unit's text ends at a `(`, its last snippet at a `)`, and each other snippet at a `|`
pub record EndsAtItsMarks (u : BodyUnit) : Type 0 where
  pub text : u.text.end.c ≡ 40
  pub nexts : EndAt 124 u.nexts
  pub final : u.final.end.c ≡ 41

-- each of these units ends at its marks
abbrev pub EndAtTheirMarks : List BodyUnit → Type 0
EndAtTheirMarks [] = Unit {0}
EndAtTheirMarks (u ∷ us) = EndsAtItsMarks u × EndAtTheirMarks us

-- of notes that never end, the text ends at a `(`, and the snippets before the rest at a `|`
abbrev pub LastEndsAtItsMarks : LastUnit → Type 0
LastEndsAtItsMarks (JustText xs) = Unit {0}
LastEndsAtItsMarks (OpenNotes text nexts xs) = (text.end.c ≡ 40) × EndAt 124 nexts

-- each text and each snippet of the units ends so
abbrev pub AllEndAtTheirMarks : Option Units → Type 0
AllEndAtTheirMarks None = Unit {0}
AllEndAtTheirMarks (Some u) = EndAtTheirMarks u.closed × LastEndsAtItsMarks u.last
