-- Tests of single characters and alterations.
use Rattle.std.specs.Prelude.{ℕ, Bool, true, false, not, ◌==◌, ◌&&◌}
use Rattle.gabc_neumes.specs.declared.sound.Alter.{Alter}
use Rattle.gabc_neumes.specs.declared.sound.Alter.TheVariants as alter

-- neither a CR nor U+FEFF
abbrev pub is_plain : ℕ → Bool
is_plain c = not (c == 13) && not (c == 0xFEFF)

abbrev pub is_none : Alter → Bool
is_none alter.None = true
is_none _ = false
