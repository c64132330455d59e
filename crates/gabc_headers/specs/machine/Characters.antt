-- The code's tables for marks. The contract of `events_of_headers` does not rest on them: they are
-- proved to do what it says.
use Rattle.std.specs.Prelude.{ℕ, ◌==◌, Bool, true, false, cond}
use Rattle.gabc_headers.specs.declared.characters.HeaderChar.{HeaderChar}
use Rattle.gabc_headers.specs.declared.characters.HeaderChar.TheVariants.{Semicolon, Percent, Blank, LineEnd, Colon, Other}
use Rattle.gabc_headers.specs.declared.characters.Run.{Run}
use Rattle.gabc_headers.specs.declared.characters.Run.TheVariants.{Text, Short, Enough, Spaced}

abbrev pub header_char_of : ℕ → HeaderChar
header_char_of c = cond (c == 59) Semicolon (cond (c == 37) Percent (cond (c == 32) Blank (cond (c == 9) Blank (cond (c == 10) LineEnd (cond (c == 58) Colon Other)))))

abbrev pub next_run : Run → Bool → HeaderChar → Run
next_run Short long Semicolon = Enough
next_run Enough long Semicolon = Enough
next_run Text long Semicolon = cond long Short Enough
next_run Spaced long Semicolon = cond long Short Enough
next_run Enough long Blank = Spaced
next_run Spaced long Blank = Spaced
next_run run long kind = Text

abbrev pub is_mark_run : Run → Bool
is_mark_run Enough = true
is_mark_run Spaced = true
is_mark_run run = false
