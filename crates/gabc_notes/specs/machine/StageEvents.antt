-- The facts before the first character of a snippet.
use Rattle.std.specs.Prelude.{false}
use Rattle.gabc_notes.specs.declared.stage.Before.{Before}

-- nothing is kept, and no `@[` and no comment is open
abbrev pub nothing_before : Before
nothing_before = record { place = record { line = 0; column = 0 }; fused = false; comment = false; kept = 0; whole = 0 }
