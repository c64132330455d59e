-- The kept text of the current syllable, cut into parts. The part of the body keeps the last of
-- them, and the state gathered is that of the events of all.
use Rattle.std.specs.Prelude.{◌≡◌, ◌≢◌, ◌<◌, ◌^◌, ℕ, zero, suc, nat_lt, List, [], ◌∷◌, ◌++◌, map, length, true, cond, None, encode_utf8_all}
use Rattle.std.specs.List.{flat_map}
use Rattle.gabc_places.specs.Place.{saturating_next_place}
use Rattle.gabc_places.specs.declared.place.Char.{Char}
use Rattle.gabc_patterns.specs.LongestItems.{IsSnippet}
use Rattle.gabc_text.specs.witness.Keeps as text
use Rattle.gabc_text.specs.declared.stage.TextStage.{TextStage}
use Rattle.gabc_notes.specs.Table.{gabc}
use Rattle.gabc_notes.specs.witness.Keeps as notes
use Rattle.gabc_notes.specs.declared.stage.NoteEnd.TheVariants.{Next}
use Rattle.gabc_notes.specs.declared.stage.NoteEvent.TheVariants.{Kept, Ended}
use Rattle.gabc_nabc.specs.Table.{nabc}
use Rattle.gabc_nabc.specs.witness.Keeps as nabc
use Rattle.gabc_body.specs.declared.before.Spans.{Spans}
use Rattle.gabc_score.specs.declared.body_stage.BodyPart.{BodyPart}
use Rattle.gabc_score.specs.declared.body_stage.BodyPart.TheVariants as part
use Rattle.gabc_body.specs.declared.events.BodyEvent.{BodyEvent}
use Rattle.gabc_body.specs.declared.events.BodyEvent.TheVariants as event
use Rattle.gabc_body.specs.Events.{next_line}
use Rattle.gabc_score.specs.ScoreReports.{IsAt}
use Rattle.gabc_body.specs.witness.BodyBuilder.{with_all}
use Rattle.gabc_body.specs.witness.Gatherer.{Gathered, nothing_gathered}
use Rattle.gabc_score.specs.machine.Preceded.{spans_of}
use Rattle.gabc_body.specs.witness.TextEvents.{kept_char, text_events}

-- ---- the parts of a kept text

-- a text; or a text that has ended, the kept texts of the snippets that have ended, and that of the
-- current snippet
pub data KeptParts : Type 0 where
  in_text : List ℕ → KeptParts
  in_notes : List ℕ → List (List ℕ) → List ℕ → KeptParts

-- snippets, each with the `|` after it
abbrev pub barred : List (List ℕ) → List ℕ
barred snippets = flat_map (λ s. s ++ 124 ∷ []) snippets

-- the kept text before the current part
abbrev pub text_before : KeptParts → List ℕ
text_before (in_text k) = []
text_before (in_notes t earlier k) = t ++ 40 ∷ barred earlier

-- the kept text of the current part
abbrev pub last_part : KeptParts → List ℕ
last_part (in_text k) = k
last_part (in_notes t earlier k) = k

-- the whole kept text
abbrev pub joined : KeptParts → List ℕ
joined p = text_before p ++ last_part p

-- the line after these snippets, the first of which is on line `line`
abbrev pub line_after : ℕ → ℕ → List (List ℕ) → ℕ
line_after lines line [] = line
line_after lines line (s ∷ earlier) = line_after lines (next_line lines line) earlier

-- ---- the events of the parts

-- the events of a snippet, and of one that has ended at its `|`
abbrev pub snippet_events : ℕ → List ℕ → List BodyEvent
snippet_events line k = map (λ (c : ℕ). event.Notes line (Kept (kept_char c))) k

abbrev pub ended_events : ℕ → List ℕ → List BodyEvent
ended_events line s = snippet_events line s ++ event.Notes line (Ended Next (length (encode_utf8_all s))) ∷ []

abbrev pub earlier_events : ℕ → ℕ → List (List ℕ) → List BodyEvent
earlier_events lines line [] = []
earlier_events lines line (s ∷ earlier) = ended_events line s ++ earlier_events lines (next_line lines line) earlier

-- the events of a text that has ended at its `(`, and of these snippets
abbrev pub events_before : ℕ → List ℕ → List (List ℕ) → List BodyEvent
events_before lines t earlier = text_events (text.said_of t ++ text.said_at_end t) ++ earlier_events lines 0 earlier

abbrev pub said_by : ℕ → KeptParts → List BodyEvent
said_by lines (in_text k) = text_events (text.said_of k)
said_by lines (in_notes t earlier k) = events_before lines t earlier ++ snippet_events (line_after lines 0 earlier) k

-- ---- the part that keeps them

-- A text that a stage kept has ended at its `(`.
pub record IsEndedText (t : List ℕ) : Type 0 where
  pub stage : TextStage
  pub keeps : text.Keeps stage t
  pub ends : text.ends_after_it t ≡ true

-- A snippet of a table has ended at its `|`: the text that a stage kept begins with it, and an
-- unfinished end may follow.
pub record IsEnded {S : Type 0} (Keeps : S → List ℕ → Type 0) (IsWhole : List ℕ → Type 0) (s : List ℕ) : Type 0 where
  pub stage : S
  pub rest : List ℕ
  pub keeps : Keeps stage (s ++ rest)
  pub whole : IsWhole s

abbrev pub IsEndedOn : ℕ → ℕ → ℕ → List ℕ → Type 0
IsEndedOn lines macros zero s = (nat_lt 0 lines ≡ true) × IsEnded (notes.Keeps (nat_lt 0 lines) macros) (IsSnippet gabc) s
IsEndedOn lines macros (suc line) s = IsEnded nabc.Keeps (IsSnippet nabc) s

abbrev pub AreEnded : ℕ → ℕ → ℕ → List (List ℕ) → Type 0
AreEnded lines macros line [] = Unit {0}
AreEnded lines macros line (s ∷ earlier) = IsEndedOn lines macros line s × AreEnded lines macros (next_line lines line) earlier

-- a text and these snippets have ended, and a snippet on line `line` is read
pub record AreAfter (lines macros line : ℕ) (t : List ℕ) (earlier : List (List ℕ)) : Type 0 where
  pub text_ended : IsEndedText t
  pub snippets_ended : AreEnded lines macros 0 earlier
  pub line_is : line_after lines 0 earlier ≡ line

-- A part keeps the last of these parts of a kept text; in the comment after the `%%` nothing is
-- kept.
abbrev pub PartKeeps : ℕ → ℕ → BodyPart → KeptParts → Type 0
PartKeeps lines macros part.Comment p = p ≡ in_text []
PartKeeps lines macros (part.Text stage) (in_text k) = text.Keeps stage k
PartKeeps lines macros (part.Notes opened stage) (in_notes t earlier k) = AreAfter lines macros 0 t earlier × notes.Keeps (nat_lt 0 lines) macros stage k
PartKeeps lines macros (part.Nabc line opened stage) (in_notes t earlier k) = AreAfter lines macros line t earlier × ((line ≢ 0) × nabc.Keeps stage k)
PartKeeps lines macros part p = ⊥

-- a part is at the beginning of a snippet on this line, after whatever text and snippets
abbrev pub BeginsSnippet : ℕ → ℕ → ℕ → BodyPart → Type 0
BeginsSnippet lines macros line part = (t : List ℕ) (earlier : List (List ℕ)) → AreAfter lines macros line t earlier → PartKeeps lines macros part (in_notes t earlier [])

-- ---- the state gathered of them

-- nothing of a syllable, before which these spans are open
abbrev pub begun : Spans → Gathered
begun spans = record (nothing_gathered 0 0) { eu = spans.eu; nlba = spans.nlba }

-- `g` and `h` have gathered the same of the current syllable
pub record ReadAlike (g h : Gathered) : Type 0 where
  pub builder : g.builder ≡ h.builder
  pub eu : g.eu ≡ h.eu
  pub nlba : g.nlba ≡ h.nlba

-- A part keeps the last part of the kept text of the current syllable, before which `spans` are
-- open, and `g` has gathered the events of all its parts.
pub record IsReading (lines macros : ℕ) (part : BodyPart) (spans : Spans) (g : Gathered) : Type 0 where
  pub parts : KeptParts
  pub keeps : PartKeeps lines macros part parts
  pub said : ReadAlike g (with_all (begun spans) (said_by lines parts))
  pub kept : g.builder.kept ≡ encode_utf8_all (joined parts)
  pub from : g.builder.from ≡ length (encode_utf8_all (text_before parts))
  pub uncut : g.cut ≡ None

-- the spans open before the current syllable, if `h` was gathered after `g`: those after the one
-- that has become whole since, if one has
abbrev pub spans_past : Spans → Gathered → Gathered → Spans
spans_past spans g h = cond (nat_lt (length g.made) (length h.made)) (spans_of h) spans

-- With these events a part continues as the other, and the parts of the kept text with it.
abbrev pub PartKeepsOn : ℕ → ℕ → BodyPart → BodyPart → List BodyEvent → Type 0
PartKeepsOn lines macros before after now =
    (spans : Spans) (g : Gathered) → length g.builder.kept < 2 ^ 64 → IsReading lines macros before spans g
    → IsReading lines macros after (spans_past spans g (with_all g now)) (with_all g now)

-- if a part that keeps a text has counted the place of the character x, it has counted the one
-- after x then
abbrev pub PartStandsOn : ℕ → ℕ → Char → BodyPart → BodyPart → Type 0
PartStandsOn lines macros x before after =
    (p : KeptParts) → PartKeeps lines macros before p → IsAt x.place before → IsAt (saturating_next_place x.place x.c) after
