-- The signs of a note, as its suffixes are read from the last byte to the first.
use Rattle.std.specs.Prelude.{ℕ, zero, suc, ◌==◌, List, [], ◌∷◌, Bool, not, ◌||◌, drop, min, codes, if◌then◌else◌}
use Rattle.gabc_patterns.specs.Pattern.{is_in}
use Rattle.gabc_patterns.specs.Derivative.{same_texts}
use Rattle.gabc_notes.specs.Notes.{begins_with, digits_of, is_sign}
use Rattle.gabc_tree.specs.Signs.{bars, suffixes, side_by, size_by, last_size, with_cover, signs_of}
use Rattle.gabc_tree.specs.declared.signs.Side.{Side}
use Rattle.gabc_tree.specs.declared.signs.Side.TheVariants as side
use Rattle.gabc_tree.specs.declared.signs.Liquescence.{Liquescence}
use Rattle.gabc_tree.specs.declared.signs.Liquescence.TheVariants as liquescence
use Rattle.gabc_tree.specs.declared.signs.Orientation.{Orientation}
use Rattle.gabc_tree.specs.declared.signs.Orientation.TheVariants as orientation
use Rattle.gabc_tree.specs.declared.signs.OverStaff.{OverStaff}
use Rattle.gabc_tree.specs.declared.signs.NoteSigns.{NoteSigns}
use Rattle.gabc_tree.specs.declared.signs.SuffixesRead.{SuffixesRead}

-- these digits are this one digit
abbrev pub names : List ℕ → ℕ → Bool
names digits digit = same_texts digits (digit ∷ [])

-- the signs over the staff with an `r` and these digits added
abbrev pub over_with : OverStaff → List ℕ → OverStaff
over_with o digits = record {
  accent = names digits 49 || o.accent;
  grave = names digits 50 || o.grave;
  circle = names digits 51 || o.circle;
  lower_arc = names digits 52 || o.lower_arc;
  upper_arc = names digits 53 || o.upper_arc;
  flat = names digits 54 || o.flat;
  natural = names digits 55 || o.natural;
  sharp = names digits 56 || o.sharp;
}

-- the signs with an `r` and these digits before them
abbrev pub with_r : NoteSigns → List ℕ → NoteSigns
with_r s digits = record s {
  hollow = not (is_sign digits) || s.hollow;
  lined = names digits 48 || s.lined;
  over_staff = over_with s.over_staff digits;
}

-- the orientation that digits name, or else this one
abbrev pub orientation_with : Orientation → List ℕ → Orientation
orientation_with o digits =
    if begins_with (codes "0") digits then orientation.Down else
    if begins_with (codes "1") digits then orientation.Up else o

-- the liquescence of `<` together with this one, and of `>` with this one
abbrev pub or_augmented : Liquescence → Liquescence
or_augmented liquescence.Deminutus = liquescence.Deminutus
or_augmented _ = liquescence.Augmented

abbrev pub or_diminished : Liquescence → Liquescence
or_diminished liquescence.None = liquescence.Diminished
or_diminished l = l

-- the liquescence of the sign, one of the three, together with this one
abbrev pub liquescence_with : ℕ → Liquescence → Liquescence
liquescence_with sign l =
    if sign == 126 then liquescence.Deminutus else if sign == 60 then or_augmented l else or_diminished l

-- the signs with a `_` and these digits before them
abbrev pub with_episema : NoteSigns → List ℕ → NoteSigns
with_episema s digits = record s {
  covered = with_cover s.covered (side_by digits) 1;
  size = last_size (size_by digits) s.size;
  unbridged = is_in 50 digits || s.unbridged;
}

-- the side of this number of `_`, with which the text begins
abbrev pub side_of_run : ℕ → List ℕ → Side
side_of_run zero t = side.Auto
side_of_run (suc n) t = side_by (digits_of (drop (suc n) t))

-- the suffixes of a text as they are read
abbrev pub suffixes_read : List ℕ → SuffixesRead
suffixes_read t = record { signs = signs_of (suffixes t); run = min 7 (bars t); side = side_of_run (bars t) t }
