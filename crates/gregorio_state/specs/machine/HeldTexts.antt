-- The canonical text of the pending syllable in the fields of a state.
use Rattle.std.specs.Prelude.{ℕ, List, []}
use Rattle.gregorio_state.specs.Fields.{PhaseFields, InHeaders, InScore}

-- this text; in the headers there is none
abbrev pub text_held : PhaseFields → List ℕ
text_held (InHeaders headers) = []
text_held (InScore f) = f.held
