-- The tokens of a text by the bytes at which they begin and end.
use Rattle.std.specs.Prelude.{ℕ, ◌+◌, ◌≤◌, List, [], ◌∷◌, length}
use Rattle.std.specs.List.{All}
use Rattle.std.specs.Str.{chars}
use Rattle.gabc_text.specs.declared.token_reader.TextToken.{TextToken}
use Rattle.gabc_text.specs.Token.{Token, spelling, tokens}
use Rattle.gabc_text.specs.View.{effect, bytes_of}

-- a token whose first byte is this one
abbrev pub placed_token : ℕ → Token → TextToken
placed_token at k = record { kind = k.kind; effect = effect k; span = record { from = at; to = at + bytes_of (spelling k) } }

-- tokens that come one after the other from that byte on
abbrev pub placed_tokens : ℕ → List Token → List TextToken
placed_tokens at [] = []
placed_tokens at (k ∷ ks) = placed_token at k ∷ placed_tokens (at + bytes_of (spelling k)) ks

-- the tokens of the rest of a text from that byte on
abbrev pub tokens_from : ℕ → List ℕ → List TextToken
tokens_from at rest = placed_tokens at (tokens (chars rest))

-- the tokens of a text
abbrev pub tokens_of : List ℕ → List TextToken
tokens_of bytes = tokens_from 0 bytes

-- the tokens lie in the text
abbrev pub AreWithin : List ℕ → List TextToken → Type 0
AreWithin bytes ks = All (λ k. (k.span.from ≤ k.span.to) × (k.span.to ≤ length bytes)) ks
