-- The number of pieces that a stage may still emit for characters that it has kept.
use Rattle.std.specs.Prelude.{ℕ, ◌+◌, Bool, true, false, not, ◌&&◌, is_some}
use Rattle.gabc_text.specs.declared.token_state.TokenState.{TokenState}
use Rattle.gabc_text.specs.declared.token_state.TokenState.TheVariants.{Dollar}
use Rattle.gabc_text.specs.declared.stage.TextStage.{TextStage}

abbrev pub one_if : Bool → ℕ
one_if true = 1
one_if false = 0

abbrev pub is_dollar : TokenState → Bool
is_dollar Dollar = true
is_dollar stage_is = false

-- The number of pieces that a stage may still emit for characters that it kept: a blank that waits,
-- and a `$`. A blank that is not kept, since one was kept before it, may wait as well if a piece
-- came between.
abbrev pub pieces_owed : TextStage → ℕ
pieces_owed s = one_if (is_some s.progress.blank) + (one_if (is_dollar s.state) + one_if (s.facts.space && not s.facts.blank))
