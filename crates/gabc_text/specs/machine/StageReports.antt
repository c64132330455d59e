-- The openers of a stage, by its state.
use Rattle.std.specs.Prelude.{Bool, true, false, Option, Some, None, if◌then◌else◌}
use Rattle.gabc_places.specs.declared.place.Place.{Place}
use Rattle.gabc_text.specs.declared.token_state.TokenState.{TokenState}
use Rattle.gabc_text.specs.declared.token_state.TokenState.TheVariants.{Comment, Tag, Raw, Translation}
use Rattle.gabc_text.specs.declared.stage.TextStage.{TextStage}

-- in a tag, a raw part or a translation
abbrev pub is_open : TokenState → Bool
is_open (Tag name) = true
is_open (Raw part m) = true
is_open Translation = true
is_open _ = false

abbrev pub is_comment : TokenState → Bool
is_comment Comment = true
is_comment _ = false

-- the place of the opener
abbrev pub opener_in : TextStage → Option Place
opener_in s = if is_open s.state then Some s.progress.place else None

-- a comment is open
abbrev pub comment_in : TextStage → Bool
comment_in s = is_comment s.state
