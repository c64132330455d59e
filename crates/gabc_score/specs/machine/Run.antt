-- A run of regular syllables that a machine over a score takes from a text.
use Rattle.std.specs.Prelude.{◌≡◌, ℕ, ◌+◌, ◌≤◌, ◌<◌, ◌^◌, ◌||◌, ◌&&◌, ◌==◌, not, nat_lt, min, List, [], ◌∷◌, ◌++◌, Bool, length, map, take, drop, encode_utf8_all, if◌then◌else◌, Option, is_some}
use Rattle.std.specs.List.{All, list_any}
use Rattle.std.specs.Str.{IsUtf8, chars}
use Rattle.std.specs.String.Boundary.{IsSplitPoint}
use Rattle.gabc_places.specs.declared.limits.Limits.{Limits}
use Rattle.gabc_places.specs.declared.place.Place.{Place}
use Rattle.gabc_places.specs.Place.{place_past}
use Rattle.gabc_places.specs.StageLaw.{concat_of}
use Rattle.gabc_places.specs.TextOfAnInput.{IsPlain}
use Rattle.gabc_text.specs.declared.span_mark.SpanMark.{SpanMark}
use Rattle.gabc_text.specs.RegularText.{mark_at}
use Rattle.gabc_text.specs.TextStage.{fresh_stage}
use Rattle.gabc_notes.specs.FirstNoteOrClef.{first_note_or_clef}
use Rattle.gabc_notes.specs.Items.{items_of}
use Rattle.gabc_notes.specs.declared.item.ItemKind.{ItemKind}
use Rattle.gabc_score.specs.declared.preceding.Preceding.{Preceding}
use Rattle.gabc_score.specs.declared.body_stage.BodyPart.TheVariants.{Text}
use Rattle.gabc_score.specs.declared.give.Run.{Run}
use Rattle.gabc_score.specs.declared.regular.RegularLen.{RegularLen}
use Rattle.gabc_score.specs.declared.run.Found.{Found}
use Rattle.gabc_score.specs.declared.run.Reached.{Reached}
use Rattle.gabc_score.specs.declared.score_machine.ScoreMachine.{ScoreMachine}
use Rattle.gabc_score.specs.declared.score_machine.ScorePart.TheVariants as score_part
use Rattle.gabc_score.specs.declared.slot_pair.SlotUse.TheVariants.{Filling}
use Rattle.gabc_score.specs.Before.{most, with_placed}
use Rattle.gabc_body.specs.Canonical.{canonical_in_place, position_by}
use Rattle.gabc_score.specs.GivesSyllables.{GivesSyllables, Runs, spelled_canonical}
use Rattle.gabc_score.specs.RegularSyllable.{SaysText, SyllableParts, has_gap, kept_spelled, snippet_texts, snippets_spelled, with_lines}
use Rattle.gabc_body.specs.declared.before.Spans.{Spans}
use Rattle.gabc_score.specs.declared.spelled.SpelledSyllable.{SpelledSyllable}
use Rattle.gabc_score.specs.declared.waiting.Waiting.{Waiting}
use Rattle.gabc_score.specs.SpelledSyllable.{IsSpelling}
use Rattle.gabc_score.specs.ScoreStage.{IsWithin}
use Rattle.gabc_body.specs.Syllable.{UnplacedSyllable, PlacedSyllable}
use Rattle.gabc_score.specs.machine.Between.{IsBetween, StepsOver, SoundsNoMore}
use Rattle.gabc_score.specs.machine.RegularLen.{BeginsRegularly, IsPlainByte, past_mark}
use Rattle.gabc_score.specs.machine.PartCounts.{CountsHold}
use Rattle.gabc_score.specs.machine.PartKeeps.{in_text, PartKeeps}
use Rattle.gabc_score.specs.machine.Preceded.{gathered_after, none_pending}
use Rattle.gabc_score.specs.machine.ScoreMachine.{held_score, shown, IsInBody, IsScore}
use Rattle.gabc_score.specs.machine.ScoreStage.{HeldScore}
use Rattle.gabc_body.specs.witness.SyllableBuilder.{nothing_open}

-- ---- a syllable that is found

-- The lengths of a syllable that was found.
abbrev pub len_of : Found → RegularLen
len_of f = record { gap = f.gap; opening = f.opening; len = length f.spelled.now }

-- A regular syllable was found, with which no limit is passed after `total` canonical bytes.
pub record IsFound (lines : ℕ) (limits : Limits) (total : ℕ) (f : Found) : Type 0 where
  pub is : BeginsRegularly lines (f.spelled.now ++ f.rest.now) (len_of f)
  pub syllable : length f.spelled.now ≤ limits.syllable
  pub input : total + length f.spelled.now + 1 ≤ limits.input
  pub plain : All IsPlainByte (take f.plain f.rest.now)

-- a snippet of GABC in these texts has a note or a clef
abbrev pub sounds_on_line : ℕ × List ℕ → Bool
sounds_on_line t = (t.0 == 0) && is_some (first_note_or_clef (items_of t.1))

abbrev pub sounds_among : List (ℕ × List ℕ) → Bool
sounds_among texts = list_any sounds_on_line texts

-- if neither a note nor a clef has come, none comes with the syllable
abbrev pub KeepsFirstSound : ℕ → Option ItemKind → SyllableParts → Type 0
KeepsFirstSound lines first r = SoundsNoMore (is_some first) (sounds_among (with_lines lines 0 r.nexts r.final))

-- the bytes of its canonical text, with the LF before a word
abbrev pub canonical_length : Found → ℕ
canonical_length f = length (drop f.gap f.spelled.now) + (if nat_lt 0 f.gap then 1 else 0)

-- the span mark that its text begins with
abbrev pub mark_of : Found → Option SpanMark
mark_of f = mark_at (drop f.gap f.spelled.now)

-- the totals before the syllable after this one
abbrev pub past_found : Preceding → Found → Preceding
past_found p f = record p { syllables = min (p.syllables + 1) most; canonical = p.canonical + canonical_length f; spans = past_mark (mark_of f) p.spans }

-- The syllable `s` is the one found, with `spans` open after it; `begins` says whether the next one
-- begins a word: its position, its spans, whether it begins after blanks, its kept text, its
-- canonical text, its text and translation, and its snippets, each in its place.
pub record SpellsFound (lines : ℕ) (spans : Spans) (begins : Bool) (f : Found) (r : SyllableParts) (s : PlacedSyllable) : Type 0 where
  pub position : s.position ≡ position_by (nat_lt 0 f.gap) begins
  pub eu : s.made.eu ≡ spans.eu
  pub nlba : s.made.nlba ≡ spans.nlba
  pub gap : nat_lt 0 f.gap ≡ has_gap r.gap
  pub word_start : s.made.text.word_start ≡ has_gap r.gap
  pub kept : s.made.kept ≡ encode_utf8_all (kept_spelled r)
  pub canonical : canonical_in_place s ≡ spelled_canonical (nat_lt 0 f.gap) (drop f.gap f.spelled.now)
  pub text : SaysText s.made r.text
  pub snippets : snippet_texts s.made ≡ with_lines lines 0 r.nexts r.final
  pub spans_are : s.made.snippets ≡ snippets_spelled lines r

-- Slices spell a syllable of these parts.
pub record IsSpelledBy (r : SpelledSyllable) (lines : ℕ) (parts : SyllableParts) : Type 0 where
  pub spelling : IsSpelling r
  pub parts_are : spelling.parts ≡ parts
  pub lines_are : r.lines ≡ lines

-- ---- the run

-- The machine is between two syllables: one is pending, and a text begins at this place.
pub record IsBetweenSyllables (m : ScoreMachine) (at : Place) : Type 0 where
  pub part : m.part ≡ score_part.Body
  pub rests : IsInBody m
  pub begins : m.body.part ≡ Text (fresh_stage at)
  pub between : IsBetween m.limits (held_score m)
  pub one : length m.pair.gathered.made ≡ 1

-- From `at` on the machine has read the characters `t`, and emitted `given`; `starts` says whether
-- the next syllable begins a word. Without a run the last of these would be pending. `p` has the
-- totals before the next syllable, which is at `next`.
pub record RunsBefore (m : ScoreMachine) (at : Place) (t : List ℕ) (given : List PlacedSyllable) (starts : Bool) (p : Preceding) (next : Place) : Type 0 where
  pub held : UnplacedSyllable
  pub s : HeldScore
  pub earlier : List PlacedSyllable
  pub through : StepsOver m.limits m.body.nabc_lines m.body.macros at (held_score m) t earlier next s
  pub gathered : s.gathered ≡ record m.pair.gathered { made = held ∷ []; total = p.canonical; eu = p.spans.eu; nlba = p.spans.nlba }
  pub given_are : given ≡ earlier ++ record { made = held; position = position_by (not s.is_preceded || held.text.word_start) starts } ∷ []
  pub before : p ≡ with_placed m.pair.contexts.before given
  pub place : next ≡ place_past at t
  pub within : All (IsWithin m.limits) given
  pub plain : All IsPlain t
  pub few : length earlier ≤ length t
  pub some : 1 ≤ p.syllables
  pub sounded : is_some m.pair.gathered.first_kind ≡ p.sounded
  pub input : p.canonical + 1 ≤ m.limits.input

-- the totals before the syllable that a run has reached, by those before the run
abbrev pub before_by : Preceding → Reached → Preceding
before_by p r = record { syllables = min (p.syllables + r.count) most; canonical = r.canonical; spans = r.spans; sounded = p.sounded }

abbrev pub before_in : ScoreMachine → Reached → Preceding
before_in m r = before_by m.pair.contexts.after r

-- In this text, the first of whose characters is at `at`, a run has emitted the syllables `given`,
-- and has reached one that is not emitted yet.
pub record RunsTo (m : ScoreMachine) (at : Place) (text : List ℕ) (given : List PlacedSyllable) (reached : Reached) : Type 0 where
  pub stands : IsBetweenSyllables m at
  pub bytes : List ℕ
  pub utf8 : IsUtf8 bytes
  pub runs : RunsBefore m at (chars bytes) given (nat_lt 0 reached.last.gap) (before_in m reached) (place_past at (chars bytes))
  pub found : IsFound m.body.nabc_lines m.limits reached.canonical reached.last
  pub steady : KeepsFirstSound m.body.nabc_lines m.pair.gathered.first_kind found.is.syllable
  pub text_is : text ≡ bytes ++ (reached.last.spelled.now ++ reached.last.rest.now)
  pub line : at.line + length text < 2 ^ 63
  pub column : at.column + length text < 2 ^ 63

-- The same with further syllables, which a taker has taken.
pub record RunsMore {Taker : Type 0} (given_by : Taker → List PlacedSyllable → Taker) (m : ScoreMachine) (at : Place) (text : List ℕ) (given : List PlacedSyllable) (old : Taker) (reached : Reached) (new : Taker) : Type 0 where
  pub more : List PlacedSyllable
  pub runs : RunsTo m at text (given ++ more) reached
  pub taken : new ≡ given_by old more

-- ---- syllables that wait

-- the rest of the text from this syllable on, without its gap
abbrev pub unread : Found → List ℕ
unread f = drop f.gap f.spelled.now ++ f.rest.now

-- These bytes are a text but for its last n, which begin with a character.
pub record HasFront (text front : List ℕ) (n : ℕ) : Type 0 where
  pub back : List ℕ
  pub utf8 : IsUtf8 back
  pub is : text ≡ front ++ back
  pub left_is : length back ≡ n

-- The text from the waiting syllables on is `front`, and then what is unread.
pub record AreBefore (w : Waiting) (r : Reached) (front : List ℕ) : Type 0 where
  pub earlier : w.earlier ≤ r.count
  pub text : w.text.now ≡ front ++ unread r.last
  pub some : w.earlier < r.count → (r.last.gap ≡ 0) × (length front + length r.last.spelled.now < w.most)
  pub none : w.earlier ≡ r.count → (front ≡ []) × (w.starts ≡ nat_lt 0 r.last.gap)

-- The same as `RunsMore`, but some of the syllables wait, which the taker has not taken.
pub record RunsOn {Taker : Type 0} (given_by : Taker → List PlacedSyllable → Taker) (m : ScoreMachine) (at : Place) (text : List ℕ) (given : List PlacedSyllable) (old : Taker) (w : Waiting) (front : List ℕ) (reached : Reached) (new : Taker) : Type 0 where
  pub more : List PlacedSyllable
  pub waiting : List PlacedSyllable
  pub runs : RunsTo m at text ((given ++ more) ++ waiting) reached
  pub taken : new ≡ given_by old more
  pub count : w.earlier + length waiting ≡ reached.count
  pub joined : (t : List ℕ) → concat_of (map canonical_in_place waiting) ++ spelled_canonical (nat_lt 0 reached.last.gap) t ≡ spelled_canonical w.starts (front ++ t)

-- ---- the machine between two syllables

-- Only the slots may differ: the same was gathered, the contexts are the same, and the slot that
-- reads is being filled.
pub record IsSamePair (old new : ScoreMachine) : Type 0 where
  pub gathered : new.pair.gathered ≡ old.pair.gathered
  pub contexts : new.pair.contexts ≡ old.pair.contexts
  pub used : new.pair.used ≡ Filling
  pub is : new ≡ record old { pair = new.pair }

-- The machine is before a syllable of a run, at `at`, and none is pending. `p` has the totals
-- before it.
pub record GoesBefore (m : ScoreMachine) (p : Preceding) (at : Place) (on : ScoreMachine) : Type 0 where
  pub gathered : on.pair.gathered ≡ gathered_after p m.pair.gathered
  pub contexts : on.pair.contexts ≡ none_pending p
  pub used : on.pair.used ≡ Filling
  pub body : on.body ≡ record m.body { part = Text (fresh_stage at) }
  pub counts : CountsHold on.body.part nothing_open
  pub keeps : (lines macros : ℕ) → PartKeeps lines macros on.body.part (in_text [])
  pub is : on ≡ record m { pair = on.pair; body = on.body; next = at }

-- ---- the end of a run

-- A run of whole characters from the front of this text, none of them a CR or U+FEFF, and the place
-- after them.
pub record IsFrontOf (text : List ℕ) (at : Place) (run : Run) : Type 0 where
  pub within : IsSplitPoint text run.bytes
  pub plain : All IsPlain (chars (take run.bytes text))
  pub next : run.next ≡ place_past at (chars (take run.bytes text))

-- A run that has reached a syllable ends: its syllables were emitted, and the one reached is read.
pub record EndsRun (m : ScoreMachine) (at : Place) (text : List ℕ) (reached : Reached) (run : Run) (after : ScoreMachine) : Type 0 where
  pub front : IsFrontOf text at run
  pub gives : (given : List PlacedSyllable) → RunsTo m at text given reached → GivesSyllables (shown m) at (chars (take run.bytes text)) given (shown after)
  pub rests : IsScore after

-- A run is taken, or nothing is.
pub record TakesRun {Taker : Type 0} (given_by : Taker → List PlacedSyllable → Taker) (m : ScoreMachine) (at : Place) (text : List ℕ) (run : Run) (after : ScoreMachine) (old new : Taker) : Type 0 where
  pub front : IsFrontOf text at run
  pub runs : Runs given_by (shown m) at (chars (take run.bytes text)) (shown after) old new
  pub rests : IsScore after
