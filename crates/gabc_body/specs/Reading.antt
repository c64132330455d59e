-- The content of a body, read character by character. The state of the current syllable is its kept
-- text, whether a comment is open, and the places of its openers: from this alone the reading
-- continues.
use Rattle.std.specs.Prelude.{ℕ, ◌+◌, List, [], ◌∷◌, ◌++◌, Bool, true, false, cond, not, ◌||◌, ◌&&◌, ◌==◌, nat_lt, length, map, reverse, codes, encode_utf8_all, Option, Some, None, is_some}
use Rattle.gabc_places.specs.Fate.{Fate, Keep, Comment, Ends, LeaveOut}
use Rattle.gabc_places.specs.declared.code.Code.{Code}
use Rattle.gabc_places.specs.declared.code.Code.TheVariants.{W8, W9, W11, W12, F6}
use Rattle.gabc_places.specs.declared.code.Finding.{Finding}
use Rattle.gabc_places.specs.declared.code.Fault.{Fault}
use Rattle.gabc_places.specs.declared.limits.Limits.{Limits}
use Rattle.gabc_places.specs.declared.place.Char.{Char}
use Rattle.gabc_places.specs.declared.place.Place.{Place}
use Rattle.gabc_patterns.specs.Reads.{whole_front, items_by}
use Rattle.gabc_text.specs.Token.{tokens}
use Rattle.gabc_text.specs.View.{codes_at_end, is_cut}
use Rattle.gabc_text.specs.KeptText.{view_of_kept, belongs, fate_in_text, kept_char, codes_with}
use Rattle.gabc_notes.specs.Table.{gabc}
use Rattle.gabc_notes.specs.FirstSound.{first_sound}
use Rattle.gabc_notes.specs.KeptNotes as notes
use Rattle.gabc_nabc.specs.Table.{nabc}
use Rattle.gabc_nabc.specs.KeptNabc as nabc_text
use Rattle.gabc_body.specs.declared.body_result.BodyResult.{BodyResult}
use Rattle.gabc_body.specs.declared.ending.InputEnding.{InputEnding}
use Rattle.gabc_body.specs.declared.ending.InputEnding.TheVariants.{Whole, Broken, At}
use Rattle.gabc_body.specs.declared.snippets.Snippet.{Snippet}
use Rattle.gabc_body.specs.Body.{code_by, fault_at, has_text, empty_snippet}
use Rattle.gabc_body.specs.Canonical.{with_positions}
use Rattle.gabc_body.specs.SpansPast.{open_past}
use Rattle.gabc_body.specs.Syllable.{UnplacedSyllable, snippet_at}

-- ---- the state of the reading

-- a text, or a snippet on this line
pub data Part : Type 0 where
  InText : Part
  InNotes : ℕ → Part

-- The current syllable: its current part, with what is kept of it; what is kept of the parts before
-- it, with their marks; the kept text of its text, and its snippets so far; whether a comment is
-- open; and the places of the `(` and of what is open inside the part.
pub record Reading : Type 0 where
  pub part : Part
  pub kept : List ℕ
  pub before : List ℕ
  pub text : List ℕ
  pub snippets : List Snippet
  pub comment : Bool
  pub paren : Place
  pub inner : Place

-- The body so far: its syllables, the spans open after them, whether a note or a clef has come, the
-- findings, and the current syllable.
pub record BodyRead : Type 0 where
  pub made : List UnplacedSyllable
  pub eu : Bool
  pub nlba : Bool
  pub sounded : Bool
  pub found : List Finding
  pub reading : Reading

abbrev pub no_place : Place
no_place = record { line = 0; column = 0 }

-- before a syllable
abbrev pub at_start : Bool → Reading
at_start comment = record { part = InText; kept = []; before = []; text = []; snippets = []; comment = comment; paren = no_place; inner = no_place }

-- a body begins in a comment
abbrev pub begun : BodyRead
begun = record { made = []; eu = false; nlba = false; sounded = false; found = []; reading = at_start true }

-- the kept text of the syllable, in bytes
abbrev pub kept_bytes : Reading → List ℕ
kept_bytes r = encode_utf8_all (r.before ++ r.kept)

-- ---- the findings

-- a macro is found at its bracket, all else of notes at the character
abbrev pub place_by : Code → Place → Place → Place
place_by W8 inner here = inner
place_by code inner here = here

abbrev pub found_within : List Code → Place → Place → List Finding
found_within cs inner here = map (λ (c : Code). record { place = place_by c inner here; code = c }) cs

abbrev pub found_at : List Code → Place → List Finding
found_at cs here = map (λ (c : Code). record { place = here; code = c }) cs

abbrev pub with_found : List Finding → BodyRead → BodyRead
with_found found b = record b { found = b.found ++ found }

-- ---- a character that is kept

abbrev pub fate_by : ℕ → Part → List ℕ → ℕ → Fate
fate_by lines InText kept c = fate_in_text (reverse (tokens kept)) c
fate_by lines (InNotes line) kept c = cond (line == 0) (notes.fate_in_notes (nat_lt 0 lines) kept c) (nabc_text.fate_in_nabc kept c)

-- a blank of a text is kept as a space
abbrev pub kept_as : Part → List ℕ → ℕ → ℕ
kept_as InText kept c = kept_char (reverse (tokens kept)) c
kept_as (InNotes line) kept c = c

-- the place of what is open with the character: in a text and in GABC the same as before, if the
-- character belongs to it, else that of the character; in NABC nothing opens
abbrev pub inner_by : Part → List ℕ → Place → Char → Place
inner_by InText kept inner x = cond (belongs (reverse (tokens kept)) x.c) inner x.place
inner_by (InNotes line) kept inner x = cond (not (line == 0) || notes.in_raw kept) inner x.place

-- the findings with the character: in a text they are at the beginning of what it is part of
abbrev pub found_by : ℕ → Part → List ℕ → Place → Char → List Finding
found_by macros InText kept inner x = found_at (codes_with (reverse (tokens (kept ++ kept_as InText kept x.c ∷ [])))) (inner_by InText kept inner x)
found_by macros (InNotes line) kept inner x =
    cond (line == 0) (found_within (notes.found_in_notes macros (kept ++ x.c ∷ [])) inner x.place) (found_at (nabc_text.found_in_nabc kept x.c) x.place)

abbrev pub with_kept : ℕ → BodyRead → Char → BodyRead
with_kept macros b x =
    let r = b.reading in
    with_found (found_by macros r.part r.kept r.inner x)
    (record b { reading = record r { kept = r.kept ++ kept_as r.part r.kept x.c ∷ []; comment = false; inner = inner_by r.part r.kept r.inner x } })

-- ---- the end of a part

abbrev pub with_text_ended : Place → BodyRead → BodyRead
with_text_ended here b = with_found (found_at (codes_at_end (reverse (tokens b.reading.kept))) here) b

abbrev pub past_text : Place → BodyRead → BodyRead
past_text here b =
    let r = b.reading in
    record b { reading = record r { part = InNotes 0; kept = []; before = r.kept ++ 40 ∷ []; text = r.kept; comment = false; paren = here; inner = no_place } }

-- W12 of a note before any clef, if neither has come before
abbrev pub sound_codes : Bool → Option Bool → List Code
sound_codes false (Some true) = W12 ∷ []
sound_codes sounded first = []

abbrev pub with_sound : Option Bool → Place → BodyRead → BodyRead
with_sound first here b = with_found (found_at (sound_codes b.sounded first) here) (record b { sounded = b.sounded || is_some first })

-- the kept text of a snippet on this line, without an unfinished end
abbrev pub whole_of : ℕ → List ℕ → List ℕ
whole_of line kept = cond (line == 0) (whole_front gabc kept) (whole_front nabc kept)

abbrev pub with_snippet_ended : ℕ → Place → BodyRead → BodyRead
with_snippet_ended line here b =
    let kept = b.reading.kept in
    cond (line == 0)
    (with_sound (first_sound (items_by gabc (whole_front gabc kept))) here (with_found (found_at (notes.found_at_end kept) here) b))
    (with_found (found_at (nabc_text.found_at_end kept) here) b)

-- the body with the syllable of this kept text, whose text is `t`, with these snippets
abbrev pub with_syllable : List ℕ → List ℕ → List Snippet → BodyRead → BodyRead
with_syllable kept t snippets b =
    let view = view_of_kept t in
    let eu = open_past (codes "<eu>") (codes "</eu>") kept view.pieces b.eu in
    let nlba = open_past (codes "<nlba>") (codes "</nlba>") kept view.pieces b.nlba in
    record b { made = b.made ++ record { text = view; kept = kept; snippets = snippets; eu = eu; nlba = nlba } ∷ []; eu = eu; nlba = nlba }

-- after a `|` the next snippet, of GABC after the last NABC line, after a `)` the next syllable
abbrev pub past_snippet : ℕ → ℕ → ℕ → BodyRead → BodyRead
past_snippet lines line mark b =
    let r = b.reading in
    let whole = whole_of line r.kept in
    let snippets = r.snippets ++ snippet_at line (length (encode_utf8_all r.before)) (encode_utf8_all whole) ∷ [] in
    let before = r.before ++ (whole ++ mark ∷ []) in
    cond (mark == 124)
    (record b { reading = record r { part = InNotes (cond (nat_lt line lines) (line + 1) 0); kept = []; before = before; snippets = snippets; comment = false; inner = no_place } })
    (record (with_syllable (encode_utf8_all before) r.text snippets b) { reading = at_start false })

abbrev pub with_end : ℕ → Part → BodyRead → Char → BodyRead
with_end lines InText b x = past_text x.place (with_text_ended x.place b)
with_end lines (InNotes line) b x = past_snippet lines line x.c (with_snippet_ended line x.place b)

abbrev pub with_fate : ℕ → ℕ → BodyRead → Char → Fate → BodyRead
with_fate lines macros b x Keep = with_kept macros b x
with_fate lines macros b x Comment = record b { reading = record b.reading { comment = true } }
with_fate lines macros b x (LeaveOut None) = record b { reading = record b.reading { comment = false } }
with_fate lines macros b x (LeaveOut (Some code)) = with_found (found_at (code ∷ []) x.place) (record b { reading = record b.reading { comment = false } })
with_fate lines macros b x Ends = with_end lines b.reading.part b x

-- a comment continues up to an LF
abbrev pub past : ℕ → ℕ → BodyRead → Char → BodyRead
past lines macros b x =
    cond (b.reading.comment && not (x.c == 10)) b
    (with_fate lines macros b x (fate_by lines b.reading.part b.reading.kept x.c))

-- ---- the stop

abbrev pub code_now : Limits → ℕ → BodyRead → Option Code
code_now limits head b = code_by limits head b.made (kept_bytes b.reading)

abbrev pub stops_by : Option Code → Place → BodyRead → BodyRead × Option Fault → BodyRead × Option Fault
stops_by (Some code) here b later = (b, Some (fault_at here code))
stops_by None here b later = later

-- The body read past the characters before the first at which a limit is passed, and the fault of
-- this limit.
abbrev pub read_on : Limits → ℕ → ℕ → ℕ → BodyRead → List Char → BodyRead × Option Fault
read_on limits head lines macros b [] = (b, None)
read_on limits head lines macros b (x ∷ xs) =
    let next = past lines macros b x in
    stops_by (code_now limits head next) x.place b (read_on limits head lines macros next xs)

-- ---- the end

-- the innermost bracket that is open
abbrev pub open_by : Part → Reading → Option Place
open_by InText r = cond (is_cut (reverse (tokens r.kept))) (Some r.inner) None
open_by (InNotes line) r = Some (cond ((line == 0) && notes.in_raw r.kept) r.inner r.paren)

-- a last text with a piece, a centre or a translation is a syllable
abbrev pub with_last : Place → BodyRead → BodyRead
with_last here b =
    let kept = kept_bytes b.reading in
    cond (has_text (view_of_kept b.reading.kept))
    (with_found (found_at (W9 ∷ []) here) (with_syllable kept b.reading.kept (empty_snippet kept ∷ []) b))
    b

-- W11 of a span that is open
abbrev pub ended : Place → BodyRead → BodyRead
ended here b =
    let all = with_last here (with_text_ended here b) in
    with_found (found_at (cond (all.eu || all.nlba) (W11 ∷ []) []) here) all

abbrev pub result_of : List Finding → BodyRead → Option Fault → BodyResult
result_of found b fault = record { syllables = with_positions b.made; findings = found ++ b.found; fault = fault }

-- a fault of the end hides the findings and the syllable whose point is the end
abbrev pub result_by_code : List Finding → Place → BodyRead → BodyRead → Option Code → BodyResult
result_by_code found here b all (Some code) = result_of found b (Some (fault_at here code))
result_by_code found here b all None = result_of found all None

abbrev pub result_by_open : Limits → ℕ → List Finding → Place → BodyRead → Option Place → BodyResult
result_by_open limits head found here b (Some opened) = result_of found b (Some (fault_at opened F6))
result_by_open limits head found here b None =
    let all = ended here b in
    result_by_code found here b all (code_by limits head all.made (kept_bytes b.reading))

abbrev pub result_at_end : Limits → ℕ → List Finding → Place → InputEnding → BodyRead → BodyResult
result_at_end limits head found here Whole b = result_by_open limits head found here b (open_by b.reading.part b.reading)
result_at_end limits head found here Broken b = result_of found b None
result_at_end limits head found here (At fault) b = result_of found b (Some fault)

abbrev pub result_by : Limits → ℕ → List Finding → Place → InputEnding → BodyRead × Option Fault → BodyResult
result_by limits head found here ending (b, Some fault) = result_of found b (Some fault)
result_by limits head found here ending (b, None) = result_at_end limits head found here ending b

-- The content of a body of these characters, whose end is at this place. `head` is the number of
-- bytes of the canonical headers with `%%`, and `found` are the findings in the headers.
abbrev pub body_by : Limits → ℕ → ℕ → ℕ → List Finding → Place → InputEnding → List Char → BodyResult
body_by limits head lines macros found here ending xs = result_by limits head found here ending (read_on limits head lines macros begun xs)
