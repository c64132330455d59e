-- How a note sounds: its degree under a clef, and the alteration that is said of it.
use Rattle.std.specs.Prelude.{ℕ, ◌+◌, ◌-◌, ◌*◌, ◌%◌, ◌==◌, ◌||◌, ◌&&◌, List, [], ◌∷◌, Bool, false, drop, codes, Option, Some, None, if◌then◌else◌}
use Rattle.std.specs.Option.{option_map}
use Rattle.gabc_patterns.specs.Pattern.{is_in}
use Rattle.gabc_notes.specs.Notes.{begins_with}
use Rattle.gabc_neumes.specs.declared.sound.Alter.{Alter}
use Rattle.gabc_neumes.specs.declared.sound.Alter.TheVariants as alter
use Rattle.gabc_neumes.specs.declared.sound.Clef.{Clef}

-- ---- what a spelling says

-- the line of a clef is a digit from 1 to 5
abbrev pub line_at : List ℕ → Option ℕ
line_at [] = None
line_at (c ∷ t) = if is_in c (codes "12345") then Some (c - 48) else None

-- a `b` stands after the letter of a clef
abbrev pub has_flat : List ℕ → Bool
has_flat t = begins_with (codes "b") (drop 1 t)

-- the clef with which a text begins: of two joined clefs the first
abbrev pub clef_at : List ℕ → Option Clef
clef_at t =
    option_map (λ line. record { f = begins_with (codes "f") t; flat = has_flat t; line = line })
    (line_at (if has_flat t then drop 2 t else drop 1 t))

-- the alteration whose sign stands after the pitch with which a text begins
abbrev pub sign_of : List ℕ → Alter
sign_of t =
    if begins_with (codes "x") (drop 1 t) || begins_with (codes "X") (drop 1 t) then alter.Flat else
    if begins_with (codes "y") (drop 1 t) || begins_with (codes "Y") (drop 1 t) then alter.Natural else alter.Sharp

-- ---- degrees

-- The degree of a height, from 0 for ut to 6 for si: how far it lies above the line of a `c`, or
-- above that of an `f`, which is fa. Line k of the staff is the height 2k + 1. Two octaves more
-- keep the difference above 0.
abbrev pub degree : Clef → ℕ → ℕ
degree clef height = (height + 14 + (if clef.f then 3 else 0) - (2 * clef.line + 1)) % 7

-- the `b` of a clef makes its si flat
abbrev pub is_flat_by : Option Clef → ℕ → Bool
is_flat_by None height = false
is_flat_by (Some clef) height = clef.flat && (degree clef height == 6)

-- an alteration counts before that of the clef
abbrev pub told : Alter → Bool → Alter
told alter.None flat_by_clef = if flat_by_clef then alter.Flat else alter.None
told a flat_by_clef = a
