-- A syllable of a score, by the events of its characters. In these definitions `before` are the
-- events so far, and `events` those of one syllable, both the nearest first.
use Rattle.std.specs.Prelude.{ℕ, ◌+◌, ◌-◌, ◌||◌, ◌&&◌, nat_lt, nat_le, List, [], ◌∷◌, ◌++◌, Bool, true, false, cond, length, take, drop, codes, string_bytes, encode_utf8, bytes_eq}
use Rattle.gabc_places.specs.declared.place.Span.{Span}
use Rattle.gabc_text.specs.declared.view.PieceKind.{PieceKind}
use Rattle.gabc_text.specs.ViewFacts.{is_mark}
use Rattle.gabc_text.specs.TextView.{ViewContent, content_of}
use Rattle.gabc_text.specs.declared.text_event.TextPart.TheVariants as part
use Rattle.gabc_text.specs.declared.text_event.TextEnd.TheVariants.{Notes}
use Rattle.gabc_text.specs.declared.text_event.TextEvent.TheVariants as text
use Rattle.gabc_text.specs.BuiltText.{with_part, empty_view}
use Rattle.gabc_notes.specs.declared.stage.NoteEnd.TheVariants.{Next, Close}
use Rattle.gabc_notes.specs.declared.stage.NoteEvent.TheVariants as note
use Rattle.gabc_body.specs.declared.events.BodyEvent.{BodyEvent}
use Rattle.gabc_body.specs.declared.events.BodyEvent.TheVariants as event
use Rattle.gabc_body.specs.declared.snippets.Snippet.{Snippet}
use Rattle.gabc_body.specs.declared.syllable.Position.{Position}
use Rattle.gabc_body.specs.declared.syllable.Syllable.{Syllable}

-- a syllable without its position
pub record UnplacedSyllable : Type 0 where
  pub text : ViewContent
  pub kept : List ℕ
  pub snippets : List Snippet
  pub eu : Bool
  pub nlba : Bool

-- a syllable
pub record PlacedSyllable : Type 0 where
  pub made : UnplacedSyllable
  pub position : Position

abbrev pub unplaced_of : Syllable → UnplacedSyllable
unplaced_of s = record { text = content_of s.text; kept = string_bytes s.kept; snippets = s.snippets.items; eu = s.eu; nlba = s.nlba }

abbrev pub placed_of : Syllable → PlacedSyllable
placed_of s = record { made = unplaced_of s; position = s.position }

-- ---- which events are those of a syllable

-- the `)` that ends a syllable
abbrev pub closes : BodyEvent → Bool
closes (event.Notes line (note.Ended Close n)) = true
closes _ = false

-- the events since the last `)`
abbrev pub since_close : List BodyEvent → List BodyEvent
since_close [] = []
since_close (t ∷ before) = cond (closes t) [] (t ∷ since_close before)

-- ---- the kept text

-- a character may begin with this byte
abbrev pub begins_character : ℕ → Bool
begins_character byte = nat_lt byte 128 || nat_lt 191 byte

-- a character may end before these bytes
abbrev pub is_seam : List ℕ → Bool
is_seam [] = true
is_seam (byte ∷ bytes) = begins_character byte

-- the first n bytes of a text, if a character ends there
abbrev pub prefix_of : ℕ → List ℕ → List ℕ
prefix_of n bytes = cond (is_seam (drop n bytes)) (take n bytes) bytes

-- the kept bytes of the current part, a text or a snippet
abbrev pub part_with : List ℕ → BodyEvent → List ℕ
part_with part (event.Text (text.Kept c)) = part ++ encode_utf8 c.c
part_with part (event.Text (text.Ended Notes)) = []
part_with part (event.Notes line (note.Kept c)) = part ++ encode_utf8 c.c
part_with part (event.Notes line (note.Ended Next n)) = []
part_with part (event.Notes line (note.Ended Close n)) = []
part_with part _ = part

abbrev pub part_of : List BodyEvent → List ℕ
part_of [] = []
part_of (t ∷ events) = part_with (part_of events) t

-- The parts that have ended, each with the mark that ended it. How many bytes a snippet keeps at
-- its end is emitted there.
abbrev pub ended_parts_with : List ℕ → List ℕ → BodyEvent → List ℕ
ended_parts_with ended part (event.Text (text.Ended Notes)) = ended ++ (part ++ codes "(")
ended_parts_with ended part (event.Notes line (note.Ended Next n)) = ended ++ (prefix_of n part ++ codes "|")
ended_parts_with ended part (event.Notes line (note.Ended Close n)) = ended ++ (prefix_of n part ++ codes ")")
ended_parts_with ended part _ = ended

abbrev pub ended_parts_of : List BodyEvent → List ℕ
ended_parts_of [] = []
ended_parts_of (t ∷ events) = ended_parts_with (ended_parts_of events) (part_of events) t

-- the bytes of the kept text
abbrev pub kept_of : List BodyEvent → List ℕ
kept_of events = ended_parts_of events ++ part_of events

-- ---- the snippets

abbrev pub snippet_at : ℕ → ℕ → List ℕ → Snippet
snippet_at line from kept = record { line = line; span = record { from = from; to = from + length kept } }

abbrev pub snippets_with : List Snippet → List ℕ → List ℕ → BodyEvent → List Snippet
snippets_with snippets ended part (event.Notes line (note.Ended Next n)) = snippets ++ snippet_at line (length ended) (prefix_of n part) ∷ []
snippets_with snippets ended part (event.Notes line (note.Ended Close n)) = snippets ++ snippet_at line (length ended) (prefix_of n part) ∷ []
snippets_with snippets ended part _ = snippets

abbrev pub snippets_of : List BodyEvent → List Snippet
snippets_of [] = []
snippets_of (t ∷ events) = snippets_with (snippets_of events) (ended_parts_of events) (part_of events) t

-- ---- the view of the text

abbrev pub view_with : ViewContent → BodyEvent → ViewContent
view_with view (event.Text (text.Part p)) = with_part view p
view_with view _ = view

abbrev pub view_of : List BodyEvent → ViewContent
view_of [] = empty_view
view_of (t ∷ events) = view_with (view_of events) t

-- ---- the spans over several syllables

-- the bytes of a span
unfoldable pub slice : Span → List ℕ → List ℕ
slice span bytes = take (span.to - span.from) (drop span.from bytes)

-- the bytes of a span: none, unless it begins and ends between characters of the text
abbrev pub text_at : Span → List ℕ → List ℕ
text_at span bytes =
    cond (nat_le span.from span.to && (nat_le span.to (length bytes) && (is_seam (drop span.from bytes) && is_seam (drop span.to bytes))))
    (slice span bytes) []

-- a span is open after a piece of this kind and spelling, by the tags that open and close it, if it
-- was open or not before
abbrev pub is_open_after : List ℕ → List ℕ → Bool → PieceKind → List ℕ → Bool
is_open_after opening closing was kind spelled =
    cond (is_mark kind) (cond (bytes_eq spelled opening) true (cond (bytes_eq spelled closing) false was)) was

abbrev pub is_open_with : List ℕ → List ℕ → Bool → List ℕ → BodyEvent → Bool
is_open_with opening closing was kept (event.Text (text.Part (part.Piece p))) = is_open_after opening closing was p.kind (slice p.span kept)
is_open_with opening closing was kept _ = was

-- the last of the two tags that were emitted opens the span
abbrev pub is_open : List ℕ → List ℕ → List BodyEvent → Bool
is_open opening closing [] = false
is_open opening closing (t ∷ before) = is_open_with opening closing (is_open opening closing before) (kept_of (since_close before)) t

abbrev pub is_eu : List BodyEvent → Bool
is_eu before = is_open (codes "<eu>") (codes "</eu>") before

abbrev pub is_nlba : List BodyEvent → Bool
is_nlba before = is_open (codes "<nlba>") (codes "</nlba>") before

-- ---- the syllables

-- the syllable of these events, with these spans open after it or not
abbrev pub syllable_by : List BodyEvent → Bool → Bool → UnplacedSyllable
syllable_by events eu nlba = record { text = view_of events; kept = kept_of events; snippets = snippets_of events; eu = eu; nlba = nlba }

-- the syllables whose `)` was emitted
abbrev pub all_syllables : List BodyEvent → List UnplacedSyllable
all_syllables [] = []
all_syllables (t ∷ before) =
    cond (closes t) (all_syllables before ++ syllable_by (t ∷ since_close before) (is_eu before) (is_nlba before) ∷ []) (all_syllables before)
