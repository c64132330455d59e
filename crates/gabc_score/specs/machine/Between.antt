-- A score between two syllables: a text begins, of which no character was read.
use Rattle.std.specs.Prelude.{◌≡◌, ℕ, ◌+◌, ◌≤◌, ◌||◌, nat_lt, true, false, List, [], ◌∷◌, ◌++◌, length, map, take, is_some, encode_utf8_all, Bool}
use Rattle.gabc_places.specs.declared.limits.Limits.{Limits}
use Rattle.gabc_places.specs.declared.place.Place.{Place}
use Rattle.gabc_places.specs.Place.{place_past, placed_characters_from}
use Rattle.gabc_places.specs.StageLaw.{concat_of}
use Rattle.gabc_headers.specs.declared.head_event.HeadEvent.{HeadEvent}
use Rattle.gabc_body.specs.declared.before.Spans.{Spans}
use Rattle.gabc_body.specs.declared.events.BodyEvent.{BodyEvent}
use Rattle.gabc_score.specs.Before.{sounds}
use Rattle.gabc_body.specs.Canonical.{canonical}
use Rattle.gabc_body.specs.Events.{text_from, events_from}
use Rattle.gabc_score.specs.GivesSyllables.{text_inputs}
use Rattle.gabc_score.specs.RegularSyllable.{SaysText, SyllableParts, spelled, kept_spelled, canonical_spelled, has_gap, snippet_texts, snippets_spelled, with_lines}
use Rattle.gabc_body.specs.ScoreEvents.{ScoreOutput, Syllable, characters_in}
use Rattle.gabc_body.specs.SpansPast.{FollowsSpans}
use Rattle.gabc_body.specs.Syllable.{UnplacedSyllable, PlacedSyllable}
use Rattle.gabc_text.specs.ViewFacts.{span_tags}
use Rattle.gabc_body.specs.UnitRead.{HoldsSomeUnit}
use Rattle.gabc_score.specs.witness.BodyStage.{texts_by_stage}
use Rattle.gabc_body.specs.witness.BodyBuilder.{with_all}
use Rattle.gabc_body.specs.witness.Gatherer.{Gathered, with_made}
use Rattle.gabc_score.specs.machine.Preceded.{spans_of}
use Rattle.gabc_score.specs.machine.ReadAlone.{is_alone}
use Rattle.gabc_score.specs.machine.ScoreStage.{HeldScore, body_left, placed_after}
use Rattle.gabc_body.specs.witness.SyllableBuilder.{nothing_open}

-- ---- one syllable more

-- the state gathered with this syllable, if the one pending before is emitted
abbrev pub with_one : Gathered → UnplacedSyllable → Gathered
with_one g m = record (with_made g m) { eu = m.eu; nlba = m.nlba; made = m ∷ [] }

-- the state of a score with this syllable, the next character at this place
abbrev pub after_one : HeldScore → Place → UnplacedSyllable → HeldScore
after_one s next m = record { next = next; gathered = with_one s.gathered m; is_preceded = s.is_preceded || nat_lt 0 (length s.gathered.made) }

-- the syllable emitted with this one: the one pending before it, if there was one
abbrev pub given_before : HeldScore → UnplacedSyllable → List PlacedSyllable
given_before s m = take (length s.gathered.made) (placed_after s.is_preceded (s.gathered.made ++ m ∷ []))

-- ---- between two syllables

-- if neither a note nor a clef has come, none comes with the syllable
abbrev pub SoundsNoMore : Bool → Bool → Type 0
SoundsNoMore sounded sounds_now = (sounded || sounds_now) ≡ sounded

module _ (limits : Limits) where
  -- Nothing is read of the next syllable, which is not the first. At most one is pending, and no
  -- limit is passed.
  pub record IsBetween (s : HeldScore) : Type 0 where
    pub nothing : s.gathered.builder ≡ nothing_open
    pub limit : s.gathered.limit ≡ limits.syllable
    pub few : length s.gathered.made ≤ 1
    pub follows : s.gathered.follows ≡ true
    pub over : s.gathered.over ≡ false
    pub total : s.gathered.total + 1 ≤ limits.input

  -- With this syllable no limit is passed.
  pub record LeavesRoomFor (g : Gathered) (r : SyllableParts) : Type 0 where
    pub syllable : length (encode_utf8_all (spelled r)) ≤ limits.syllable
    pub input : g.total + length (encode_utf8_all (spelled r)) + 1 ≤ limits.input

  module _ (lines macros : ℕ) where
    -- the outputs still to come, if a text begins at this place
    abbrev pub left_between : Place → HeldScore → List HeadEvent → List (List ScoreOutput)
    left_between at s xs = body_left limits s (events_from texts_by_stage lines macros (text_from texts_by_stage at (characters_in xs)) (characters_in xs)) xs

    -- The characters `t` emit only the syllables `given`, and lead from one state between two
    -- syllables to another.
    pub record StepsOver (at : Place) (s : HeldScore) (t : List ℕ) (given : List PlacedSyllable) (next : Place) (after : HeldScore) : Type 0 where
      pub points : List (List ScoreOutput)
      pub one_each : length points ≡ length t
      pub law : (xs : List HeadEvent) → left_between at s (text_inputs at t ++ xs) ≡ points ++ left_between next after xs
      pub given_are : concat_of points ≡ map (λ (s : PlacedSyllable). Syllable s) given

-- the lists that a body emits for these characters of a text, the first of which is at this place
abbrev pub lists_between : ℕ → ℕ → Place → List ℕ → List (List BodyEvent)
lists_between lines macros at t = let us = placed_characters_from at t in take (length t) (events_from texts_by_stage lines macros (text_from texts_by_stage at us) us)

-- With these lists one syllable is gathered and nothing is read of the next one, no limit is passed
-- and no error is found.
pub record GathersOneSyllable (limits : Limits) (g : Gathered) (lists : List (List BodyEvent)) (m : UnplacedSyllable) : Type 0 where
  pub alone : is_alone limits g lists ≡ true
  pub gathered : with_all g (concat_of lists) ≡ with_one g m

-- ---- the syllable that a regular one is read as

-- The syllable `m` keeps the spelling of `r`, with one blank for those before its text. Without
-- them the spelling is its canonical text, and `m` has the text and the snippets of `r`, each in
-- its place. It holds a unit with the span marks of this text, and the spans open after it follow
-- from those before.
pub record SpellsItself (lines : ℕ) (spans : Spans) (r : SyllableParts) (m : UnplacedSyllable) : Type 0 where
  pub kept : m.kept ≡ encode_utf8_all (kept_spelled r)
  pub starts : m.text.word_start ≡ has_gap r.gap
  pub canonical_is : (starts : Bool) → canonical starts m ≡ encode_utf8_all (canonical_spelled starts r)
  pub text_is : SaysText m r.text
  pub snippets_are : snippet_texts m ≡ with_lines lines 0 r.nexts r.final
  pub spans_are : m.snippets ≡ snippets_spelled lines r
  pub unit : HoldsSomeUnit lines m
  pub tags : span_tags unit.unit.text ≡ span_tags r.text
  pub follows : FollowsSpans spans m

-- If `spans` are open, the regular syllable `r`, from `at` on, is read as `m`, whatever was
-- gathered before, as long as it leaves room and no note or clef comes with it, or one has come
-- before. The syllable pending before is emitted. If there is none, the text is this one syllable,
-- without an error.
pub record ReadsAlike (lines macros : ℕ) (at : Place) (r : SyllableParts) (spans : Spans) (m : UnplacedSyllable) : Type 0 where
  pub made : SpellsItself lines spans r m
  pub through : (limits : Limits) (s : HeldScore) → IsBetween limits s → SoundsNoMore (is_some s.gathered.first_kind) (sounds m) → spans_of s.gathered ≡ spans → LeavesRoomFor limits s.gathered r
      → StepsOver limits lines macros at s (spelled r) (given_before s m) (place_past at (spelled r)) (after_one s (place_past at (spelled r)) m)
  pub alone : (limits : Limits) (s : HeldScore) → IsBetween limits s → SoundsNoMore (is_some s.gathered.first_kind) (sounds m) → s.gathered.made ≡ [] → spans_of s.gathered ≡ spans → LeavesRoomFor limits s.gathered r
      → GathersOneSyllable limits s.gathered (lists_between lines macros at (spelled r)) m
