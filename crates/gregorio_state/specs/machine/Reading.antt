-- The fields of a state, read from its bytes, from the first on.
use Rattle.std.specs.Prelude.{◌≡◌, ℕ, zero, suc, List, [], ◌∷◌, ◌++◌, length, take, drop, Bool, true, false, Option, Some, None, nat_lt, nat_le, ◌==◌, ◌&&◌, codes, if◌then◌else◌}
use Rattle.std.specs.Int.{Width, w16, w32, w64, byte_len, from_be_bytes}
use Rattle.std.specs.Str.{is_utf8, bytes_eq}
use Rattle.gabc_places.specs.declared.place.Place.{Place}
use Rattle.gabc_neumes.specs.declared.sound.Alter.{Alter}
use Rattle.gabc_neumes.specs.declared.sound.Alter.TheVariants as alter
use Rattle.gabc_neumes.specs.declared.sound.Clef.{Clef}
use Rattle.gregorio_jobs.specs.declared.job.Format.{Format}
use Rattle.gregorio_jobs.specs.declared.job.Format.TheVariants as format
use Rattle.gregorio_state.specs.declared.reading.OpenSpans.{OpenSpans}
use Rattle.gregorio_state.specs.Fields.{StateFields, ScoreFields, PhaseFields, InHeaders, InScore}

infixl 10 ◌>>=◌
abbrev pub ◌>>=◌ : {A B : Type 0} → Option A → (A → Option B) → Option B
(Some x) >>= f = f x
None >>= f = None

-- the result of a function, seen by `view`, is the result of reading
abbrev pub Gives : {X Y : Type 0} → (X → Y) → Option X → Option Y → Type 0
Gives view (Some x) read = read ≡ Some (view x)
Gives view None read = read ≡ None

-- ---- A field is a value and the bytes after it.

abbrev pub byte_at : List ℕ → Option (ℕ × List ℕ)
byte_at [] = None
byte_at (b ∷ bytes) = Some (b, bytes)

unfoldable pub number_at : Width → List ℕ → Option (ℕ × List ℕ)
number_at w bytes = if nat_lt (length bytes) (byte_len w) then None else Some (from_be_bytes w (take (byte_len w) bytes), drop (byte_len w) bytes)

-- n bytes
unfoldable pub front_at : ℕ → List ℕ → Option (List ℕ × List ℕ)
front_at n bytes = if nat_lt (length bytes) n then None else Some (take n bytes, drop n bytes)

abbrev pub flag_of : ℕ → Option Bool
flag_of zero = Some false
flag_of (suc zero) = Some true
flag_of (suc (suc n)) = None

unfoldable pub flag_at : List ℕ → Option (Bool × List ℕ)
flag_at bytes = do
  b ← byte_at bytes
  f ← flag_of b.0
  Some (f, b.1)

abbrev pub format_of : ℕ → Option Format
format_of zero = Some format.Gabc
format_of (suc zero) = Some format.Dump
format_of (suc (suc n)) = None

unfoldable pub format_at : List ℕ → Option (Format × List ℕ)
format_at bytes = do
  b ← byte_at bytes
  f ← format_of b.0
  Some (f, b.1)

abbrev pub spans_of : ℕ → Option OpenSpans
spans_of zero = Some (record { eu = false; nlba = false })
spans_of (suc zero) = Some (record { eu = true; nlba = false })
spans_of (suc (suc zero)) = Some (record { eu = false; nlba = true })
spans_of (suc (suc (suc zero))) = Some (record { eu = true; nlba = true })
spans_of (suc (suc (suc (suc n)))) = None

unfoldable pub spans_at : List ℕ → Option (OpenSpans × List ℕ)
spans_at bytes = do
  b ← byte_at bytes
  s ← spans_of b.0
  Some (s, b.1)

-- a text, if the bytes are UTF-8
abbrev pub text_of : List ℕ → Option (List ℕ)
text_of bytes = if is_utf8 bytes then Some bytes else None

unfoldable pub text_at : List ℕ → Option (List ℕ × List ℕ)
text_at bytes = do
  n ← number_at w32 bytes
  f ← front_at n.0 n.1
  t ← text_of f.0
  Some (t, f.1)

unfoldable pub pending_at : List ℕ → Option (List ℕ × List ℕ)
pending_at bytes = do
  n ← byte_at bytes
  front_at n.0 n.1

unfoldable pub place_at : List ℕ → Option (Place × List ℕ)
place_at bytes = do
  line ← number_at w64 bytes
  column ← number_at w64 line.1
  Some (record { line = line.0; column = column.0 }, column.1)

abbrev pub opener_of : Place → Option Place
opener_of p = if (p.line == 0) && (p.column == 0) then None else Some p

unfoldable pub opener_at : List ℕ → Option (Option Place × List ℕ)
opener_at bytes = do
  p ← place_at bytes
  Some (opener_of p.0, p.1)

-- a clef or none, by the byte of its letter, its `b` and its line
abbrev pub clef_of : ℕ → Bool → ℕ → Option (Option Clef)
clef_of zero flat line = if flat then None else (if line == 0 then Some None else None)
clef_of (suc zero) flat line = Some (Some (record { f = false; flat = flat; line = line }))
clef_of (suc (suc zero)) flat line = Some (Some (record { f = true; flat = flat; line = line }))
clef_of (suc (suc (suc n))) flat line = None

unfoldable pub clef_at : List ℕ → Option (Option Clef × List ℕ)
clef_at bytes = do
  letter ← byte_at bytes
  flat ← flag_at letter.1
  line ← byte_at flat.1
  clef ← clef_of letter.0 flat.0 line.0
  Some (clef, line.1)

abbrev pub alter_of : ℕ → Option Alter
alter_of zero = Some alter.None
alter_of (suc zero) = Some alter.Flat
alter_of (suc (suc zero)) = Some alter.Natural
alter_of (suc (suc (suc zero))) = Some alter.Sharp
alter_of (suc (suc (suc (suc n)))) = None

abbrev pub alters_of : List ℕ → Option (List Alter)
alters_of [] = Some []
alters_of (b ∷ bytes) = do
  a ← alter_of b
  others ← alters_of bytes
  Some (a ∷ others)

unfoldable pub alters_at : List ℕ → Option (List Alter × List ℕ)
alters_at bytes = do
  f ← front_at 15 bytes
  alters ← alters_of f.0
  Some (alters, f.1)

-- the bytes after `GSAV` and the version
unfoldable pub after_tag : List ℕ → Option (List ℕ)
after_tag bytes = if bytes_eq (take 5 bytes) (codes "GSAV" ++ 3 ∷ []) then Some (drop 5 bytes) else None

-- ---- all fields, of all bytes

-- a text of all the bytes
unfoldable pub last_text : List ℕ → Option (List ℕ)
last_text bytes = do
  t ← text_at bytes
  if length t.1 == 0 then Some t.0 else None

unfoldable pub score_of_bytes : List ℕ → Option ScoreFields
score_of_bytes bytes = do
  nabc_lines ← byte_at bytes
  macros ← number_at w16 nabc_lines.1
  syllables ← number_at w32 macros.1
  canonical ← number_at w32 syllables.1
  spans ← spans_at canonical.1
  sounded ← flag_at spans.1
  clef ← clef_at sounded.1
  alters ← alters_at clef.1
  held ← text_at alters.1
  in_comment ← flag_at held.1
  notes_opener ← opener_at in_comment.1
  inner_opener ← opener_at notes_opener.1
  kept ← last_text inner_opener.1
  Some
      (record {
        nabc_lines = nabc_lines.0;
        macros = macros.0;
        syllables = syllables.0;
        canonical = canonical.0;
        in_eu = spans.0.eu;
        in_nlba = spans.0.nlba;
        sounded = sounded.0;
        in_force = record { clef = clef.0; alters = alters.0 };
        held = held.0;
        in_comment = in_comment.0;
        notes_opener = notes_opener.0;
        inner_opener = inner_opener.0;
        kept = kept;
      })

abbrev pub phase_of_bytes : List ℕ → Option PhaseFields
phase_of_bytes [] = None
phase_of_bytes (zero ∷ bytes) = do
  t ← last_text bytes
  Some (InHeaders t)
phase_of_bytes (suc zero ∷ bytes) = do
  s ← score_of_bytes bytes
  Some (InScore s)
phase_of_bytes (suc (suc n) ∷ bytes) = None

-- as `Limits::new` accepts
abbrev pub are_limits : ℕ → ℕ → ℕ → Bool
are_limits header syllable input =
    (nat_le 64 header && nat_le header 16777216) && ((nat_le 64 syllable && nat_le syllable 16777216) && (nat_le 64 input && nat_le input 4294967295))

abbrev pub limits_of : ℕ → ℕ → ℕ → Option (ℕ × ℕ × ℕ)
limits_of header syllable input = if are_limits header syllable input then Some (header, syllable, input) else None

unfoldable pub limits_at : List ℕ → Option ((ℕ × ℕ × ℕ) × List ℕ)
limits_at bytes = do
  header ← number_at w32 bytes
  syllable ← number_at w32 header.1
  input ← number_at w32 syllable.1
  limits ← limits_of header.0 syllable.0 input.0
  Some (limits, input.1)

unfoldable pub state_of_bytes : List ℕ → Option StateFields
state_of_bytes bytes = do
  rest ← after_tag bytes
  format ← format_at rest
  all_warnings ← flag_at format.1
  limits ← limits_at all_warnings.1
  taken ← number_at w32 limits.1
  place ← place_at taken.1
  pending ← pending_at place.1
  after_cr ← flag_at pending.1
  has_error ← flag_at after_cr.1
  phase ← phase_of_bytes has_error.1
  Some
      (record {
        format = format.0;
        all_warnings = all_warnings.0;
        header_limit = limits.0.0;
        syllable_limit = limits.0.1;
        input_limit = limits.0.2;
        taken = taken.0;
        place = place.0;
        pending = pending.0;
        after_cr = after_cr.0;
        has_error = has_error.0;
        phase = phase;
      })
