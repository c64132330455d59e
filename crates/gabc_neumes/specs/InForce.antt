-- Which clef and which alterations are in force at a note. In these definitions `before` is what
-- stands before it, the nearest first, and `outset` is what is in force before all of that.
use Rattle.std.specs.Prelude.{ℕ, ◌==◌, List, [], ◌∷◌, map, reverse, replicate, Bool, true, false, not, codes, get_or, Option, Some, None, if◌then◌else◌}
use Rattle.std.specs.List.{range_with_len}
use Rattle.std.specs.Option.{option_map, option_or}
use Rattle.gabc_notes.specs.Items.{items_of, bytes_of}
use Rattle.gabc_notes.specs.Notes.{begins_with, height_at}
use Rattle.gabc_notes.specs.declared.item.Item.{Item}
use Rattle.gabc_notes.specs.declared.item.ItemKind.{ItemKind}
use Rattle.gabc_notes.specs.declared.item.ItemKind.TheVariants as kind
use Rattle.gabc_neumes.specs.Sound.{clef_at, sign_of, degree, is_flat_by, told}
use Rattle.gabc_neumes.specs.declared.sound.Alter.{Alter}
use Rattle.gabc_neumes.specs.declared.sound.Alter.TheVariants as alter
use Rattle.gabc_neumes.specs.declared.sound.Clef.{Clef}
use Rattle.gabc_neumes.specs.declared.sound.Sound.{Sound}

-- A step of a score: the start of a word, or an item of notes with its spelling.
pub data ScoreStep : Type 0 where
  WordStart : ScoreStep
  AnItem : ItemKind → List ℕ → ScoreStep

abbrev pub step_of : List ℕ → Item → ScoreStep
step_of kept i = AnItem i.kind (bytes_of kept i)

-- the steps of a snippet of notes, in order
abbrev pub steps_of : List ℕ → List ScoreStep
steps_of kept = map (step_of kept) (items_of kept)

-- A clef and an alteration of each height from 0 to 14.
pub record InForce : Type 0 where
  pub clef : Option Clef
  pub alters : List Alter

-- before a score there is none
abbrev pub nothing_in_force : InForce
nothing_in_force = record { clef = None; alters = replicate 15 alter.None }

-- ---- the clef in force

abbrev pub clef_of : ScoreStep → Option Clef
clef_of (AnItem kind.Clef t) = clef_at t
clef_of _ = None

-- the nearest clef, else that of the outset
abbrev pub clef_in_force : InForce → List ScoreStep → Option Clef
clef_in_force outset [] = outset.clef
clef_in_force outset (s ∷ before) = option_or (clef_of s) (clef_in_force outset before)

-- ---- the alteration in force at a height

-- the alteration of that height that a step is
abbrev pub alter_of : ℕ → ScoreStep → Option Alter
alter_of height (AnItem kind.Alteration t) = if height_at t == height then Some (sign_of t) else None
alter_of height _ = None

abbrev pub is_virgula : List ℕ → Bool
is_virgula t = begins_with (codes "`") t

-- alterations hold up to the start of a word, a clef, or a bar that is no virgula
abbrev pub ends_alterations : ScoreStep → Bool
ends_alterations WordStart = true
ends_alterations (AnItem kind.Clef t) = true
ends_alterations (AnItem kind.Bar t) = not (is_virgula t)
ends_alterations _ = false

-- On the way back: the nearest alteration of that height. Where what ends alterations comes first,
-- there is none; where neither comes, it is that of the outset.
abbrev pub alter_in_force : InForce → List ScoreStep → ℕ → Alter
alter_in_force outset [] height = get_or outset.alters height alter.None
alter_in_force outset (s ∷ before) height = elim (alter_of height s) as (λ _. Alter) [
  | Some a ↦ a
  | None ↦ if ends_alterations s then alter.None else alter_in_force outset before height
]

-- ---- what is in force, and how a note sounds

-- the heights of the pitches from `a` to `n`, and `p`
abbrev pub heights : List ℕ
heights = range_with_len 0 15

-- after these steps; where there are none, the outset itself
abbrev pub in_force_after : InForce → List ScoreStep → InForce
in_force_after outset [] = outset
in_force_after outset (s ∷ before) = record {
  clef = clef_in_force outset (s ∷ before);
  alters = map (alter_in_force outset (s ∷ before)) heights;
}

-- the same, where the steps are in the order of the score
abbrev pub passed : InForce → List ScoreStep → InForce
passed outset steps = in_force_after outset (reverse steps)

-- the alteration of a height, without the `b` of the clef
abbrev pub own_alter : InForce → ℕ → Alter
own_alter force height = get_or force.alters height alter.None

-- how a note of that height sounds: it has no degree before any clef
abbrev pub sound_of : InForce → ℕ → Sound
sound_of force height = record {
  degree = option_map (λ clef. degree clef height) force.clef;
  alter = told (own_alter force height) (is_flat_by force.clef height);
}
