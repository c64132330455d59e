-- The last syllable of a run, which a machine reads by itself, is pending then.
use Rattle.std.proofs.Common.{◌≡◌, ℕ, nat_lt, Bool, true, List, [], length, take, refl, sym, ap, subst, ◌∙◌, arith}
use Rattle.std.proofs.lemmas.Bool.{true≢false}
use Rattle.std.proofs.lemmas.Bool.Decides.{nat_tests}
use Rattle.std.proofs.lemmas.List.Elements.{All-nil}
use Rattle.std.specs.Str.{chars}
use Rattle.gabc_text.specs.TextStage.{fresh_stage}
use Rattle.gabc_places.specs.Place.{place_past, placed_characters_from}
use Rattle.gabc_places.specs.TextOfAnInput.{IsText}
use Rattle.gabc_places.specs.declared.place.Place.{Place}
use Rattle.gabc_score.specs.declared.preceding.Preceding.{Preceding}
use Rattle.gabc_score.specs.declared.body_stage.BodyPart.TheVariants.{Text}
use Rattle.gabc_score.specs.declared.run.Found.{Found}
use Rattle.gabc_score.specs.declared.score_machine.ScoreMachine.{ScoreMachine}
use Rattle.gabc_score.specs.ScoreReports.{is_in_front}
use Rattle.gabc_body.specs.Syllable.{PlacedSyllable}
use Rattle.gabc_score.specs.witness.BodyStage.{BodyStageState, running_events_left}
use Rattle.gabc_score.specs.machine.Between.{lists_between, with_one as gathered_with}
use Rattle.gabc_body.specs.witness.Gatherer.{Gathered}
use Rattle.gabc_score.specs.machine.PartCounts.{CountsHold}
use Rattle.gabc_score.specs.machine.PartKeeps.{in_text, PartKeeps}
use Rattle.gabc_score.specs.machine.PartOnly.{HasText, HoldsTexts}
use Rattle.gabc_score.specs.machine.Preceded.{Contexts}
use Rattle.gabc_score.specs.machine.ReadAlone.{is_alone, lists_from}
use Rattle.gabc_score.specs.machine.Run.{GoesBefore, IsFound, RunsBefore, IsBetweenSyllables}
use Rattle.gabc_score.specs.machine.ScoreMachine.{IsInBody}
use Rattle.gabc_score.specs.machine.SlotPair.{is_made}
use Rattle.gabc_body.specs.witness.SyllableBuilder.{OpenSyllable, nothing_open}
use Rattle.gabc_score.proofs.resuming.NothingIsRead.{begins_again}
use Rattle.gabc_score.proofs.resuming.ReadOneByOne.{HasRead}
use Rattle.gabc_score.proofs.runs.BeforeLast.{rests_next}
use Rattle.gabc_score.proofs.runs.FoundSyllable.{front_is}
use Rattle.gabc_score.proofs.runs.RunEnds.{EndsWith, before_last}
use Rattle.gabc_score.proofs.runs.RunGives.{HoldsLast}
use Rattle.gabc_body.proofs.units.CanonicalTextIsText.{nothing_plain}

module _ (m : ScoreMachine) (at : Place) (t : List ℕ) (given : List PlacedSyllable) (starts : Bool) (p : Preceding) (next : Place) (runs : RunsBefore m at t given starts p next)
    (stands : IsBetweenSyllables m at) (f : Found) (on : ScoreMachine) (goes : GoesBefore m p next on) where
  some_before : nat_lt 0 p.syllables ≡ true
  some_before = let s = runs.some in grind (arith, nat_tests, s)

  gathered_there : on.pair.gathered ≡ before_last m p
  gathered_there = goes.gathered ∙ ap (λ b. record (before_last m p) { follows = b }) (some_before ∙ sym stands.between.follows)

  -- it rests there
  pub rests_there : IsInBody on
  rests_there = subst IsInBody (sym goes.is)
      (rests_next m stands.rests p runs.some runs.sounded stands.between.nothing stands.between.follows on.pair on.body next next gathered_there goes.contexts (ap is_made goes.used) goes.body goes.counts goes.keeps)

  limits_there : on.limits ≡ m.limits
  limits_there = ap (λ (n : ScoreMachine). n.limits) goes.is

  lists_are : lists_from on next (chars f.spelled.now) ≡ lists_between m.body.nabc_lines m.body.macros next (chars f.spelled.now)
  lists_are = ap (λ (b : BodyStageState). take (length (chars f.spelled.now)) (running_events_left b (placed_characters_from next (chars f.spelled.now)))) goes.body

  texts_there : HoldsTexts on.pair.gathered
  texts_there = subst HoldsTexts (sym gathered_there) (subst IsText (sym (ap (λ (o : OpenSyllable). o.kept) stands.between.nothing)) nothing_plain, All-nil HasText)

  module _ (ends : EndsWith m at t given p f next) where
    -- the syllable is whole with its last character
    pub is_alone_there : is_alone on.limits on.pair.gathered (lists_from on next (chars f.spelled.now)) ≡ true
    is_alone_there = grind (arith, limits_there, lists_are, gathered_there)

    module _ (found : IsFound m.body.nabc_lines m.limits p.canonical f) (read : ScoreMachine) (has : HasRead on read (lists_from on next (chars f.spelled.now)))
        (texts : IsText f.spelled.now → HoldsTexts on.pair.gathered → HoldsTexts read.pair.gathered)
        (body : BodyStageState) (begins : body ≡ record read.body { part = Text (fresh_stage (place_past next (chars f.spelled.now))) }) (counts : CountsHold body.part nothing_open)
        (keeps : (lines macros : ℕ) → PartKeeps lines macros body.part (in_text [])) where
      abbrev pub then : ScoreMachine
      then = record read { body = body; next = place_past next (chars f.spelled.now) }

      gathered_is : read.pair.gathered ≡ gathered_with (before_last m p) ends.made
      gathered_is = grind (arith, lists_are, gathered_there)

      nothing : read.pair.gathered.builder ≡ nothing_open
      nothing = ap (λ (g : Gathered). g.builder) gathered_is

      before_is : read.pair.contexts.before ≡ p
      before_is = has.before ∙ ap (λ (k : Contexts). k.before) goes.contexts

      rested : IsInBody read
      rested = has.stands.rests

      lines_are : body.nabc_lines ≡ read.body.nabc_lines
      lines_are = ap (λ (b : BodyStageState). b.nabc_lines) begins

      macros_are : body.macros ≡ read.body.macros
      macros_are = ap (λ (b : BodyStageState). b.macros) begins

      -- it rests
      pub rests_then : IsInBody then
      rests_then = record {
        rests = record { none = rested.rests.none; room = rested.rests.room; limit = rested.rests.limit; used = rested.rests.used; over = rested.rests.over; short = rested.rests.short };
        counts = subst (CountsHold body.part) (sym nothing) counts;
        kept = rested.kept;
        preceded = rested.preceded;
        after = rested.after;
        code = rested.code;
        reading = begins_again _ _ read.body.part body.part read.pair.contexts.after.spans read.pair.gathered (rw (lines_are, macros_are) rested.reading) nothing (keeps _ _);
        units = rw lines_are rested.units;
        within = rested.within;
        front = λ e. absurd (true≢false (sym e ∙ ap (λ (b : BodyStageState). is_in_front b.part) begins));
      }

      spelled_is_text : IsText f.spelled.now
      spelled_is_text = subst IsText (front_is f) found.is.is_text

      -- and holds the syllable
      pub holds_then : HoldsLast m p (place_past next (chars f.spelled.now)) ends.made then
      holds_then = record {
        limits = has.limits ∙ limits_there;
        part = has.stands.part;
        begins = ap (λ (b : BodyStageState). b.part) begins;
        lines = lines_are ∙ has.lines ∙ ap (λ (b : BodyStageState). b.nabc_lines) goes.body;
        macros = macros_are ∙ has.macros ∙ ap (λ (b : BodyStageState). b.macros) goes.body;
        at = refl;
        gathered = gathered_is;
        before = before_is;
        lent = ap (λ (q : Preceding). nat_lt 0 q.syllables) before_is ∙ some_before;
        texts = texts spelled_is_text texts_there;
      }
