-- What a decoder emits for the bytes of a text are its characters: there is a list for each byte.
use Rattle.std.proofs.Common.{◌≡◌, ℕ, zero, suc, List, [], ◌∷◌, ◌++◌, length, map, replicate, Result, Ok, refl, ap, ◌∙◌, arith, append_assoc, length-append, IsUtf8}
use Rattle.std.proofs.lemmas.Str.{length-encode, encodes-chars}
use Rattle.std.proofs.lemmas.List.{length-replicate}
use Rattle.std.specs.Str.{chars}
use lib.Utf8.{encode, encodes}
use Rattle.gabc_places.specs.declared.place.Char.{Char}
use Rattle.gabc_places.specs.declared.place.Place.{Place}
use Rattle.gabc_places.specs.declared.code.Fault.{Fault}
use Rattle.gabc_places.specs.Place.{next_place, placed_characters_from}
use Rattle.gabc_places.specs.Skip.{character_events, text_events}
use Rattle.gabc_places.specs.StageLaw.{concat_of}

-- ---- a list for each byte

length_of_one : (x : Char) → length (character_events x) ≡ length (encode x.c)
length_of_one x = grind (arith, length-append, length-replicate, length-encode)

length_of_all : (place : Place) (cs : List ℕ) → length (text_events place cs) ≡ length (encodes cs)
length_of_all place [] = refl
length_of_all place (c ∷ cs) = grind (arith, length_of_all (next_place place c) cs, length-append, length_of_one)

pub one_each : (place : Place) (text : List ℕ) → IsUtf8 text → length (text_events place (chars text)) ≡ length text
one_each place text u = length_of_all place (chars text) ∙ ap length (encodes-chars text u)

-- ---- the characters

nothing_joined : (n : ℕ) (lists : List (List (Result Char Fault))) → concat_of (replicate n [] ++ lists) ≡ concat_of lists
nothing_joined zero lists = refl
nothing_joined (suc n) lists = nothing_joined n lists

pub all_emitted : (place : Place) (cs : List ℕ) → concat_of (text_events place cs) ≡ map (λ c. Ok c) (placed_characters_from place cs)
all_emitted place [] = refl
all_emitted place (c ∷ cs) = grind (arith, all_emitted (next_place place c) cs, append_assoc, nothing_joined)
