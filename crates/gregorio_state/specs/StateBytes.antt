-- The bytes of a saved state, field by field.
use Rattle.std.specs.Prelude.{ℕ, ◌+◌, ◌*◌, List, [], ◌∷◌, ◌++◌, length, map, Bool, Option, Some, None, codes, if◌then◌else◌}
use Rattle.std.specs.Int.{Width, w16, w32, w64, to_be_bytes}
use Rattle.gabc_places.specs.StageLaw.{concat_of}
use Rattle.gabc_places.specs.declared.place.Place.{Place}
use Rattle.gabc_neumes.specs.declared.sound.Alter.{Alter}
use Rattle.gabc_neumes.specs.declared.sound.Alter.TheVariants as alter
use Rattle.gabc_neumes.specs.declared.sound.Clef.{Clef}
use Rattle.gregorio_jobs.specs.declared.job.Format.{Format}
use Rattle.gregorio_jobs.specs.declared.job.Format.TheVariants as format
use Rattle.gregorio_state.specs.Fields.{StateFields, ScoreFields, PhaseFields, InHeaders, InScore}

-- ---- a field

abbrev pub bit : Bool → ℕ
bit b = if b then 1 else 0

-- a number in n bytes has its highest byte first
unfoldable pub number_bytes : Width → ℕ → List ℕ
number_bytes w n = to_be_bytes w n

-- a flag is one byte, 0 or 1
abbrev pub flag_bytes : Bool → List ℕ
flag_bytes b = bit b ∷ []

-- a text is its length in 4 bytes, and its bytes
abbrev pub text_bytes : List ℕ → List ℕ
text_bytes bytes = number_bytes w32 (length bytes) ++ bytes

abbrev pub place_bytes : Place → List ℕ
place_bytes p = number_bytes w64 p.line ++ number_bytes w64 p.column

-- where there is none, 0 and 0
abbrev pub opener_bytes : Option Place → List ℕ
opener_bytes None = place_bytes (record { line = 0; column = 0 })
opener_bytes (Some p) = place_bytes p

-- which spans are open: 1 for `<eu>`, and 2 for `<nlba>`
abbrev pub spans_number : Bool → Bool → ℕ
spans_number eu nlba = bit eu + 2 * bit nlba

abbrev pub format_number : Format → ℕ
format_number format.Gabc = 0
format_number format.Dump = 1

-- which clef it is, its `b` and its line; all 0 where there is none
abbrev pub clef_bytes : Option Clef → List ℕ
clef_bytes None = 0 ∷ 0 ∷ 0 ∷ []
clef_bytes (Some c) = (if c.f then 2 else 1) ∷ bit c.flat ∷ c.line ∷ []

abbrev pub alter_number : Alter → ℕ
alter_number alter.None = 0
alter_number alter.Flat = 1
alter_number alter.Natural = 2
alter_number alter.Sharp = 3

-- ---- all fields

abbrev pub score_parts : ScoreFields → List (List ℕ)
score_parts s =
    (s.nabc_lines ∷ [])
    ∷ number_bytes w16 s.macros
    ∷ number_bytes w32 s.syllables
    ∷ number_bytes w32 s.canonical
    ∷ (spans_number s.in_eu s.in_nlba ∷ [])
    ∷ flag_bytes s.sounded
    ∷ clef_bytes s.in_force.clef
    ∷ map alter_number s.in_force.alters
    ∷ text_bytes s.held
    ∷ flag_bytes s.in_comment
    ∷ opener_bytes s.notes_opener
    ∷ opener_bytes s.inner_opener
    ∷ text_bytes s.kept
    ∷ []

abbrev pub score_bytes : ScoreFields → List ℕ
score_bytes s = concat_of (score_parts s)

-- a byte for what the run reads, and its fields
abbrev pub phase_bytes : PhaseFields → List ℕ
phase_bytes (InHeaders headers) = 0 ∷ text_bytes headers
phase_bytes (InScore s) = 1 ∷ score_bytes s

-- `GSAV`, the version 3, and the fields
abbrev pub state_parts : StateFields → List (List ℕ)
state_parts s =
    codes "GSAV"
    ∷ (3 ∷ [])
    ∷ (format_number s.format ∷ [])
    ∷ flag_bytes s.all_warnings
    ∷ number_bytes w32 s.header_limit
    ∷ number_bytes w32 s.syllable_limit
    ∷ number_bytes w32 s.input_limit
    ∷ number_bytes w32 s.taken
    ∷ place_bytes s.place
    ∷ (length s.pending ∷ [])
    ∷ s.pending
    ∷ flag_bytes s.after_cr
    ∷ flag_bytes s.has_error
    ∷ phase_bytes s.phase
    ∷ []

abbrev pub state_bytes : StateFields → List ℕ
state_bytes s = concat_of (state_parts s)
