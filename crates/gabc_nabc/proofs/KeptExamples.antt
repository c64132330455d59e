-- Examples of what becomes of a character after a kept text, and of what is found with it.
use Rattle.std.proofs.Common.{◌≡◌, [], ◌∷◌, refl, codes, Some, None}
use Rattle.gabc_places.specs.Fate.{Keep, Comment, Ends, LeaveOut}
use Rattle.gabc_places.specs.declared.code.Code.TheVariants.{E3, E6, W7}
use Rattle.gabc_patterns.specs.Reads.{whole_front}
use Rattle.gabc_nabc.specs.Table.{nabc}
use Rattle.gabc_nabc.specs.KeptNabc.{fate_in_nabc, found_in_nabc, found_at_end}

-- an `s` begins a code, but `su` is none
letter_goes_on : fate_in_nabc [] 115 ≡ Keep
letter_goes_on = refl

no_code : fate_in_nabc (codes "s") 117 ≡ LeaveOut (Some E3)
no_code = refl

-- after a glyph it stands above or below that
above_glyph : fate_in_nabc (codes "pes") 117 ≡ Keep
above_glyph = refl

-- a `!` waits for a glyph
join_waits : fate_in_nabc (codes "pe") 33 ≡ Keep
join_waits = refl

digit_is_left_out : fate_in_nabc (codes "pe!") 49 ≡ LeaveOut (Some E3)
digit_is_left_out = refl

-- blanks are left out in silence
blank_is_silent : fate_in_nabc (codes "pe") 32 ≡ LeaveOut None
blank_is_silent = refl

percent_begins_comment : fate_in_nabc (codes "pes") 37 ≡ Comment
percent_begins_comment = refl

bar_ends : fate_in_nabc (codes "peci") 124 ≡ Ends
bar_ends = refl

bracket_ends : fate_in_nabc (codes "pe!") 41 ≡ Ends
bracket_ends = refl

-- a code without a name: the first, one after a whole descriptor, and one that is joined
first_unknown : found_in_nabc (codes "z") 122 ≡ W7 ∷ []
first_unknown = refl

next_unknown : found_in_nabc (codes "pesu1z") 122 ≡ W7 ∷ []
next_unknown = refl

joined_unknown : found_in_nabc (codes "pesu1zz!x") 120 ≡ W7 ∷ []
joined_unknown = refl

-- a code with a name, letters that are none, and a first letter
known : found_in_nabc (codes "p") 101 ≡ []
known = refl

no_second : found_in_nabc (codes "pes") 117 ≡ []
no_second = refl

first_alone : found_in_nabc [] 122 ≡ []
first_alone = refl

-- at the end
unfinished : found_at_end (codes "pe!clsu") ≡ E6 ∷ []
unfinished = refl

without_end : whole_front nabc (codes "pe!clsu") ≡ codes "pe!cl"
without_end = refl

whole : found_at_end (codes "peci") ≡ []
whole = refl
