-- The bytes of a score at the places of messages.
use Rattle.std.specs.Prelude.{ℕ, List, map, take}
use Rattle.gabc_places.specs.Limits.{AreUsual}
use Rattle.gabc_places.specs.Text.{utf8_prefix_of}
use Rattle.gabc_places.specs.declared.limits.Limits.{Limits}
use Rattle.gabc_tree.specs.InputPlaces.{byte_in}
use Rattle.gregorio_c.specs.Answers.{IsPut}
use Rattle.gregorio_c.specs.declared.message.Message.{Message}

-- the byte of a message, of a score with these characters
abbrev pub byte_in_text : List ℕ → Message → ℕ
byte_in_text characters m = byte_in characters (record { line = m.line; column = m.column })

-- The bytes of all messages are in the buffer, if there is room for them. Of the score the
-- characters are read that the default limits allow.
pub record BytesAnswer (score : List ℕ) (messages : List Message) (old new : List ℕ) : Type 0 where
  pub limits : Limits
  pub usual : AreUsual limits.header limits.syllable limits.input
  pub bytes : IsPut (map (byte_in_text (utf8_prefix_of (take limits.input score))) messages) old new
