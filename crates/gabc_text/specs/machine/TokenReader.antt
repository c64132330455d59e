-- The step at a character, while tokens are read.
use Rattle.std.specs.Prelude.{ℕ, Bool, true, false, ◌&&◌, ◌==◌, Option, Some, None}
use Rattle.gabc_text.specs.declared.token.TokenKind.{TokenKind}
use Rattle.gabc_text.specs.declared.token_state.TokenState.{TokenState}
use Rattle.gabc_text.specs.declared.token_state.Step.{Step}
use Rattle.gabc_text.specs.declared.token_reader.Reading.{Reading}
use Rattle.gabc_text.specs.declared.token_reader.Reading.TheVariants.{Notes, Settled, Taken}
use Rattle.gabc_text.specs.machine.TokenState.{settled_kind, next_step, is_plain}

abbrev pub reading_by : Bool → Option TokenKind → Step → Reading
reading_by true kind step = Notes
reading_by false (Some kind) step = Settled kind
reading_by false None step = Taken step

abbrev pub reading_at : TokenState → ℕ → Reading
reading_at state c = reading_by ((c == 40) && is_plain state) (settled_kind state c) (next_step state c)
