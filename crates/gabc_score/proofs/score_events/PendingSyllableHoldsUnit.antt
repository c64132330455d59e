-- The pending syllable holds a unit, and its spans follow from those before it, past a point.
use Rattle.std.proofs.Common.{◌≡◌, ℕ, zero, suc, ◌-◌, ◌<◌, ◌^◌, not, take, drop, Bool, true, false, List, [], ◌∷◌, ◌++◌, length, IfSome, refl, sym, ap, subst, ◌∙◌, arith}
use Rattle.std.proofs.lemmas.List.Elements.{All-nil, All-head, All-drop}
use Rattle.std.proofs.lemmas.Str.{length-le-encodes}
use Rattle.std.specs.List.{All}
use Rattle.gabc_text.proofs.KeptCharacters.{codes_placed}
use Rattle.gabc_places.specs.declared.place.Place.{Place}
use Rattle.gabc_patterns.specs.Function.{trim}
use Rattle.gabc_patterns.specs.LongestItems.{IsSnippet}
use Rattle.gabc_text.specs.Events.{CountsFit}
use Rattle.gabc_text.specs.TextRead.{view_in}
use Rattle.gabc_text.specs.View.{kept}
use Rattle.gabc_text.specs.ViewFacts.{StandsForView}
use Rattle.gabc_text.specs.declared.stage.TextStage.{TextStage}
use Rattle.gabc_text.specs.witness.Keeps.{Keeps, ends_after_it}
use Rattle.gabc_text.specs.witness.SaidInFull.{IsSaidInFull}
use Rattle.gabc_notes.specs.Ends.{IsMarkOf}
use Rattle.gabc_notes.specs.ReadAgain.{IsReadAgain}
use Rattle.gabc_notes.specs.Table.{gabc}
use Rattle.gabc_notes.specs.declared.stage.NoteEnd.{NoteEnd}
use Rattle.gabc_notes.specs.declared.stage.NoteEnd.TheVariants.{Close}
use Rattle.gabc_nabc.specs.Events as nabc
use Rattle.gabc_nabc.specs.ReadAgain.{IsNabcReadAgain}
use Rattle.gabc_nabc.specs.Table.{nabc as nabc_table}
use Rattle.gabc_score.specs.declared.preceding.Preceding.{Preceding}
use Rattle.gabc_body.specs.declared.before.Spans.{Spans}
use Rattle.gabc_score.specs.declared.body_stage.BodyPart.{BodyPart}
use Rattle.gabc_body.specs.declared.events.BodyEvent.{BodyEvent}
use Rattle.gabc_score.specs.declared.score_machine.ScoreMachine.{ScoreMachine}
use Rattle.gabc_score.specs.declared.score_machine.ScorePart.{ScorePart}
use Rattle.gabc_score.specs.declared.score_machine.ScorePart.TheVariants as score_part
use Rattle.gabc_score.specs.Before.{with_one, with_each, with_placed}
use Rattle.gabc_body.specs.Canonical.{placed_syllables_by}
use Rattle.gabc_body.specs.Holding.{IsSnippetOf, kept_on_line}
use Rattle.gabc_score.specs.ScoreStage.{IsWithinAnywhere}
use Rattle.gabc_score.specs.ScoreReports.{held_in_body}
use Rattle.gabc_body.specs.SpansPast.{FollowsSpans}
use Rattle.gabc_body.specs.Syllable.{UnplacedSyllable}
use Rattle.gabc_body.specs.UnitRead.{HoldsSomeUnit}
use Rattle.gabc_body.specs.witness.BodyBuilder.{with_all}
use Rattle.gabc_body.specs.witness.Gatherer.{Gathered}
use Rattle.gabc_score.specs.machine.PartKeeps.{IsReading}
use Rattle.gabc_score.specs.machine.PartMakes.{PartLaws, FollowEach, HoldUnits, PartMakes, characters_of}
use Rattle.gabc_score.specs.machine.ScoreMachine.{IsScoreAt}
use Rattle.gabc_score.specs.machine.ScoreStage.{placed_after, with_held}
use Rattle.gabc_body.proofs.holding.SnippetsLieInKeptText.{bytes_are_size}
use Rattle.gabc_score.proofs.score_events.FewAndShortAreLent.{short_within}

pub none_held : (lines : ℕ) (p : Preceding) (made : List UnplacedSyllable) → made ≡ [] → HoldUnits lines p made
unfolding HoldUnits FollowEach
none_held lines p made e = subst (HoldUnits lines p) (sym e) (λ laws. record { units = All-nil (HoldsSomeUnit lines); follow = tt })

-- all but the last are given
follow_dropped : (k : ℕ) (first : Bool) (p : Preceding) (ms : List UnplacedSyllable) → FollowEach p ms → FollowEach (with_placed p (take k (placed_syllables_by first ms))) (drop k ms)
unfolding FollowEach
follow_dropped zero first p ms h = h
follow_dropped (suc k) first p [] h = tt
follow_dropped (suc k) first p (m ∷ ms) h = follow_dropped k false (with_one p m) ms h.1

pub units_past : (lines macros l : ℕ) (before : BodyPart) (p passed : Preceding) (spans : Spans) (is_preceded : Bool) (was g turned : Gathered) (now : List BodyEvent) → length was.builder.kept < 2 ^ 64
    → g ≡ with_all was now → turned ≡ with_held g → l ≡ lines → spans ≡ (with_each p was.made).spans → passed ≡ with_placed p (take (length g.made - 1) (placed_after is_preceded g.made))
    → PartMakes lines macros before now → IsReading lines macros before spans was → HoldUnits lines p was.made → HoldUnits l passed turned.made
unfolding PartMakes HoldUnits
units_past lines macros l before p passed spans is_preceded was g turned now fits is turn same after given makes r h = rw (turn, same, given) held
  where
    all : HoldUnits lines p g.made
    all = subst (λ (k : Gathered). HoldUnits lines p k.made) (sym is) (makes p was fits (subst (λ (k : Spans). IsReading lines macros before k was) after r) h)

    held : HoldUnits lines (with_placed p (take (length g.made - 1) (placed_after is_preceded g.made))) (with_held g).made
    held laws = record {
      units = All-drop (HoldsSomeUnit lines) (length g.made - 1) g.made (all laws).units;
      follow = follow_dropped (length g.made - 1) (not is_preceded) p g.made (all laws).follow;
    }

-- what holds of those that were made holds of the one that is held
held_one : (P : UnplacedSyllable → Type 0) (made : List UnplacedSyllable) → All P made → IfSome (held_in_body score_part.Body made) P
held_one P [] a = tt
held_one P (s ∷ made) a = All-head P s made a

-- so of what a machine shows as held
pub held_unit : (m : ScoreMachine) (p : ScorePart) → IsScoreAt p m → PartLaws → IfSome (held_in_body p m.pair.gathered.made) (HoldsSomeUnit m.body.nabc_lines)
unfolding HoldUnits
held_unit m score_part.Body h laws = held_one (HoldsSomeUnit m.body.nabc_lines) m.pair.gathered.made (h.units laws).units
held_unit m _ h laws = tt

-- its spans follow from those before it
pub held_follows : (m : ScoreMachine) (p : ScorePart) → IsScoreAt p m → PartLaws → IfSome (held_in_body p m.pair.gathered.made) (FollowsSpans m.pair.contexts.before.spans)
unfolding HoldUnits FollowEach
held_follows m p h laws = grind arith

-- and it is within the limits
pub held_within : (m : ScoreMachine) (p : ScorePart) → IsScoreAt p m → IfSome (held_in_body p m.pair.gathered.made) (IsWithinAnywhere m.limits)
held_within m p h = grind (arith, short_within, All-head)

-- ---- the laws

abbrev nowhere : Place
nowhere = record { line = 0; column = 0 }

pub laws_hold : ((s : TextStage) (k rest : List ℕ) → Keeps s k → ends_after_it k ≡ true → CountsFit nowhere (k ++ 40 ∷ rest) → IsSaidInFull k rest) → ((t : List ℕ) → StandsForView (kept t) (view_in t) t)
    → ((split : Bool) (macros : ℕ) (at : Place) (how : NoteEnd) (t rest : List ℕ) (mark : ℕ) → IsSnippet gabc t → IsMarkOf split how mark → IsReadAgain split macros at t mark rest)
    → ((at : Place) (how : NoteEnd) (t rest : List ℕ) (mark : ℕ) → IsSnippet nabc_table t → IsMarkOf true how mark → IsNabcReadAgain at t mark rest) → PartLaws
laws_hold said stands gabc_again nabc_again = record {
  said = λ t e few.
      let characters = length-le-encodes (t ++ 40 ∷ []) in
      let bytes = bytes_are_size (t ++ 40 ∷ []) in
      said e.stage t [] e.keeps e.ends (record { line = omega (arith, few, characters); column = omega (arith, few, characters); bytes = omega (arith, few, bytes) });
  stands = stands;
  kept_again = by;
}
  where
    by : (line : ℕ) (s : List ℕ) → IsSnippetOf line s → s ≡ kept_on_line line (characters_of s)
    by zero s is = sym (gabc_again true 0 nowhere Close s [] 41 is refl).kept
    by (suc line) s is = sym (nabc_again nowhere Close s [] 41 is refl).kept ∙ ap (λ (t : List ℕ). trim nabc_table (nabc.kept_of t)) (sym (codes_placed nowhere s))
