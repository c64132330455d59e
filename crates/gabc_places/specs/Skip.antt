-- Texts, which a decoder takes at once.
use Rattle.std.specs.Prelude.{ℕ, ◌-◌, List, [], ◌∷◌, ◌++◌, replicate, not, ◌&&◌, if◌then◌else◌, Result, Ok}
use Rattle.std.specs.Char.{len_utf8}
use Rattle.std.specs.List.{flat_map}
use Rattle.gabc_places.specs.declared.place.Place.{Place}
use Rattle.gabc_places.specs.declared.place.Char.{Char}
use Rattle.gabc_places.specs.declared.code.Fault.{Fault}
use Rattle.gabc_places.specs.Place.{placed_characters_from}
use Rattle.gabc_places.specs.DecoderMachine.{DecoderState, is_unfinished}

-- The number of bytes that a decoder takes at once: those that are left to its limit, if it runs
-- and no character is pending, else 0.
abbrev pub most_skipped : DecoderState → ℕ
most_skipped s = if not s.ended && not (is_unfinished s.pending) then s.limit - s.taken else 0

-- the events of a decoder for the bytes of a character: the character with the last of them, and
-- nothing with each other one
abbrev pub character_events : Char → List (List (Result Char Fault))
character_events x = replicate (len_utf8 x.c - 1) [] ++ (Ok x ∷ []) ∷ []

-- its events for the bytes of a text, of which the first character is at `place`
abbrev pub text_events : Place → List ℕ → List (List (Result Char Fault))
text_events place cs = flat_map character_events (placed_characters_from place cs)
