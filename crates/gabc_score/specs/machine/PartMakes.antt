-- The syllables that a part of a body makes hold units, and their spans follow one another: by the
-- laws of its texts and its snippets.
use Rattle.std.specs.Prelude.{◌≡◌, ℕ, ◌<◌, ◌^◌, List, [], ◌∷◌, ◌++◌, length, encode_utf8_all}
use Rattle.std.specs.List.{All}
use Rattle.gabc_places.specs.Place.{placed_characters_from}
use Rattle.gabc_places.specs.declared.place.Char.{Char}
use Rattle.gabc_text.specs.TextRead.{view_in}
use Rattle.gabc_text.specs.View.{kept}
use Rattle.gabc_text.specs.ViewFacts.{StandsForView}
use Rattle.gabc_text.specs.witness.SaidInFull.{IsSaidInFull}
use Rattle.gabc_score.specs.declared.preceding.Preceding.{Preceding}
use Rattle.gabc_score.specs.declared.body_stage.BodyPart.{BodyPart}
use Rattle.gabc_body.specs.declared.events.BodyEvent.{BodyEvent}
use Rattle.gabc_score.specs.Before.{with_one, with_each}
use Rattle.gabc_body.specs.Holding.{IsSnippetOf, kept_on_line}
use Rattle.gabc_body.specs.SpansPast.{FollowsSpans}
use Rattle.gabc_body.specs.Syllable.{UnplacedSyllable}
use Rattle.gabc_body.specs.UnitRead.{HoldsSomeUnit}
use Rattle.gabc_body.specs.witness.BodyBuilder.{with_all}
use Rattle.gabc_body.specs.witness.Gatherer.{Gathered}
use Rattle.gabc_score.specs.machine.PartKeeps.{IsEndedText, IsReading}

-- the characters of a kept text, at places that do not matter
abbrev pub characters_of : List ℕ → List Char
characters_of t = placed_characters_from (record { line = 0; column = 0 }) t

-- Laws of texts and snippets: a text that has ended was read in full, the spans of a view stand for
-- it, and a snippet that is whole is kept again.
pub record PartLaws : Type 0 where
  pub said : (t : List ℕ) → IsEndedText t → length (encode_utf8_all (t ++ 40 ∷ [])) < 2 ^ 64 → IsSaidInFull t []
  pub stands : (t : List ℕ) → StandsForView (kept t) (view_in t) t
  pub kept_again : (line : ℕ) (s : List ℕ) → IsSnippetOf line s → s ≡ kept_on_line line (characters_of s)

-- the spans open after each of these syllables follow from those before it; `p` has the totals
-- before the first
unfoldable pub FollowEach : Preceding → List UnplacedSyllable → Type 0
FollowEach p [] = Unit {0}
FollowEach p (m ∷ ms) = FollowsSpans p.spans m × FollowEach (with_one p m) ms

-- each of these syllables holds some unit, and their spans follow one another; `p` has the totals
-- before the first
pub record AreHeld (lines : ℕ) (p : Preceding) (made : List UnplacedSyllable) : Type 0 where
  pub units : All (HoldsSomeUnit lines) made
  pub follow : FollowEach p made

-- by these laws the syllables are so
unfoldable pub HoldUnits : ℕ → Preceding → List UnplacedSyllable → Type 0
HoldUnits lines p made = PartLaws → AreHeld lines p made

-- if the syllables made before these events of a part are so by these laws, those made after the
-- events are, too
unfoldable pub PartMakes : ℕ → ℕ → BodyPart → List BodyEvent → Type 0
PartMakes lines macros before now =
    (p : Preceding) (g : Gathered) → length g.builder.kept < 2 ^ 64 → IsReading lines macros before (with_each p g.made).spans g → HoldUnits lines p g.made → HoldUnits lines p (with_all g now).made
