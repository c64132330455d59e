-- The signs of a note, read from its suffixes: all but its shape.
use Rattle.std.specs.Prelude.{ℕ, suc, ◌==◌, List, [], ◌∷◌, Bool, not, ◌&&◌, ◌||◌, drop, min, max, codes, Option, Some, None, if◌then◌else◌}
use Rattle.std.specs.List.{list_any}
use Rattle.gabc_patterns.specs.Pattern.{is_in}
use Rattle.gabc_patterns.specs.Derivative.{same_texts}
use Rattle.gabc_notes.specs.Notes.{begins_with, is_digit, digits_of, is_sign}
use Rattle.gabc_tree.specs.declared.signs.Side.{Side}
use Rattle.gabc_tree.specs.declared.signs.Side.TheVariants as side
use Rattle.gabc_tree.specs.declared.signs.Liquescence.{Liquescence}
use Rattle.gabc_tree.specs.declared.signs.Liquescence.TheVariants as liquescence
use Rattle.gabc_tree.specs.declared.signs.EpisemaSize.{EpisemaSize}
use Rattle.gabc_tree.specs.declared.signs.EpisemaSize.TheVariants as size
use Rattle.gabc_tree.specs.declared.signs.Orientation.{Orientation}
use Rattle.gabc_tree.specs.declared.signs.Orientation.TheVariants as orientation
use Rattle.gabc_tree.specs.declared.signs.OverStaff.{OverStaff}
use Rattle.gabc_tree.specs.declared.signs.Covered.{Covered}
use Rattle.gabc_tree.specs.declared.signs.NoteSigns.{NoteSigns}

-- ---- the suffixes of a note

-- A suffix: a character, and the digits after it. For a `_` the count is the number of them in a
-- row from it on, and the digits are those after the last of them.
pub record Suffix : Type 0 where
  pub sign : ℕ
  pub count : ℕ
  pub digits : List ℕ

-- the number of `_` with which the text begins
abbrev pub bars : List ℕ → ℕ
bars [] = 0
bars (c ∷ t) = if c == 95 then suc (bars t) else 0

-- the number of `_` in a row after that character: 0 after another than a `_`
abbrev pub more_bars : ℕ → List ℕ → ℕ
more_bars c t = if c == 95 then bars t else 0

-- the suffix that this character begins
abbrev pub suffix_at : ℕ → List ℕ → Suffix
suffix_at c t = record { sign = c; count = suc (more_bars c t); digits = digits_of (drop (more_bars c t) t) }

-- the suffixes of a text: each character begins one, but for the digits
abbrev pub suffixes : List ℕ → List Suffix
suffixes [] = []
suffixes (c ∷ t) = if is_digit c then suffixes t else suffix_at c t ∷ suffixes t

-- ---- what they say

-- one of them is that sign
abbrev pub has : ℕ → List Suffix → Bool
has c ss = list_any (λ s. s.sign == c) ss

-- the number of them with that sign
abbrev pub count_of : ℕ → List Suffix → ℕ
count_of c [] = 0
count_of c (s ∷ ss) = if s.sign == c then suc (count_of c ss) else count_of c ss

-- one of them is an `r` with that digit alone
abbrev pub has_r : ℕ → List Suffix → Bool
has_r digit ss = list_any (λ s. (s.sign == 114) && same_texts s.digits (digit ∷ [])) ss

-- the side that digits name, or the one before: the last of them counts
abbrev pub side_after : Side → List ℕ → Side
side_after s [] = s
side_after s (d ∷ ds) = side_after (if d == 48 then side.Under else if d == 49 then side.Over else s) ds

-- the side that digits name: `0` under the note, `1` over it
abbrev pub side_by : List ℕ → Side
side_by digits = side_after side.Auto digits

-- the side of the first ictus
abbrev pub ictus : List Suffix → Option Side
ictus [] = None
ictus (s ∷ ss) = if s.sign == 39 then Some (side_by s.digits) else ictus ss

-- the size that digits name, or the one before: the last of them counts
abbrev pub size_after : EpisemaSize → List ℕ → EpisemaSize
size_after s [] = s
size_after s (d ∷ ds) =
    size_after (if d == 51 then size.Left else if d == 52 then size.Centre else if d == 53 then size.Right else s) ds

-- the size that digits name: `3`, `4` and `5` a small one, at the left, in the centre, at the right
abbrev pub size_by : List ℕ → EpisemaSize
size_by digits = size_after size.Whole digits

-- the second size, if it is a small one
abbrev pub last_size : EpisemaSize → EpisemaSize → EpisemaSize
last_size s size.Whole = s
last_size s t = t

-- the size of the last small episema
abbrev pub episema_size : List Suffix → EpisemaSize
episema_size [] = size.Whole
episema_size (s ∷ ss) = if s.sign == 95 then last_size (size_by s.digits) (episema_size ss) else episema_size ss

-- an episema of that side and count more
abbrev pub with_cover : Covered → Side → ℕ → Covered
with_cover c side.Auto n = record c { auto = max c.auto n }
with_cover c side.Over n = record c { over = max c.over n }
with_cover c side.Under n = record c { under = max c.under n }

-- the number of notes that the longest episema of each side covers, at most 7
abbrev pub covered : List Suffix → Covered
covered [] = record { auto = 0; over = 0; under = 0 }
covered (s ∷ ss) = if s.sign == 95 then with_cover (covered ss) (side_by s.digits) (min 7 s.count) else covered ss

-- an episema is not to be bridged
abbrev pub is_unbridged : List Suffix → Bool
is_unbridged ss = list_any (λ s. (s.sign == 95) && is_in 50 s.digits) ss

-- `~` counts before `<`, and this before `>`
abbrev pub liquescence_of : List Suffix → Liquescence
liquescence_of ss =
    if has 126 ss then liquescence.Deminutus else
    if has 60 ss then liquescence.Augmented else
    if has 62 ss then liquescence.Diminished else liquescence.None

-- an `r` without digits or with `0`
abbrev pub is_hollow : List Suffix → Bool
is_hollow ss = list_any (λ s. (s.sign == 114) && not (is_sign s.digits)) ss

-- an `R`, or an `r` with `0`
abbrev pub is_lined : List Suffix → Bool
is_lined ss = list_any (λ s. (s.sign == 82) || ((s.sign == 114) && same_texts s.digits (codes "0"))) ss

-- the signs over the staff
abbrev pub over_staff : List Suffix → OverStaff
over_staff ss = record {
  accent = has_r 49 ss;
  grave = has_r 50 ss;
  circle = has_r 51 ss;
  lower_arc = has_r 52 ss;
  upper_arc = has_r 53 ss;
  flat = has_r 54 ss;
  natural = has_r 55 ss;
  sharp = has_r 56 ss;
}

-- of the first `o` or `O` with digits that begin with `0` or `1`
abbrev pub orientation_of : List Suffix → Orientation
orientation_of [] = orientation.NotTold
orientation_of (s ∷ ss) =
    if is_in s.sign (codes "oO") && begins_with (codes "0") s.digits then orientation.Down else
    if is_in s.sign (codes "oO") && begins_with (codes "1") s.digits then orientation.Up else orientation_of ss

abbrev pub signs_of : List Suffix → NoteSigns
signs_of ss = record {
  morae = min 3 (count_of 46 ss);
  ictus = ictus ss;
  covered = covered ss;
  size = episema_size ss;
  unbridged = is_unbridged ss;
  liquescence = liquescence_of ss;
  hollow = is_hollow ss;
  lined = is_lined ss;
  over_staff = over_staff ss;
  orientation = orientation_of ss;
}
