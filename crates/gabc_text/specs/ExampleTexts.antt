-- What was read of the token that a state stands in, as far as it matters for what comes.
use Rattle.std.specs.Prelude.{ℕ, ◌-◌, List, [], ◌∷◌, ◌++◌, length, take, min, codes, if◌then◌else◌}
use Rattle.gabc_text.specs.declared.token.RawKind.{RawKind}
use Rattle.gabc_text.specs.declared.token.RawKind.TheVariants as raw
use Rattle.gabc_text.specs.declared.token_state.TokenState.{TokenState}
use Rattle.gabc_text.specs.declared.token_state.TokenState.TheVariants.{Plain, Dollar, Comment, Tag, Raw, Translation}
use Rattle.gabc_text.specs.Token.{is_one_of, ending_of}

-- the tag that begins a raw part
abbrev pub beginning_of : RawKind → List ℕ
beginning_of raw.V = codes "<v>"
beginning_of raw.Sp = codes "<sp>"
beginning_of raw.Alt = codes "<alt>"

-- a tag's name so far; an x where it holds a `>`, which no name does
abbrev pub name_so_far : List ℕ → List ℕ
name_so_far name = if is_one_of name 62 then codes "x" else name

-- a text whose reading leads into the state: nothing between tokens, else a prefix of a token
abbrev pub stands_for : TokenState → List ℕ
stands_for Plain = []
stands_for Dollar = codes "$"
stands_for Comment = codes "%"
stands_for (Tag name) = 60 ∷ name_so_far name
stands_for (Raw raw m) = beginning_of raw ++ take (min m (length (ending_of raw) - 1)) (ending_of raw)
stands_for Translation = codes "["
