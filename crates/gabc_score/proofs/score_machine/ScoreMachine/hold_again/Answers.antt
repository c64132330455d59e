use Rattle.std.proofs.Common.{◌≡◌, ℕ, ◌≤◌, ◌<◌, ◌^◌, true, ◌∷◌, [], List, length, Some, refl, sym, ap, subst, ◌∙◌, arith}
use Rattle.std.proofs.lemmas.Bool.{true≢false}
use Rattle.std.proofs.lemmas.Str.{scalars-chars}
use Rattle.std.specs.Char.{IsScalar}
use Rattle.std.specs.List.{All}
use Rattle.std.specs.Prelude.{IsUtf8, ◌↔◌}
use Rattle.std.specs.Str.{chars}
use Rattle.gabc_text.specs.Events.{CountsFit}
use Rattle.gabc_body.specs.OneSyllable.{IsOneSyllable}
use Rattle.gabc_body.specs.ReadAlone.{IsReadAsSyllable}
use Rattle.gabc_body.specs.declared.before.Spans.{Spans}
use Rattle.gabc_places.specs.TextOfAnInput.{IsText}
use Rattle.gabc_text.specs.witness.EventsLeft as fresh_events
use Rattle.gabc_score.specs.declared.preceding.Preceding.{Preceding}
use Rattle.gabc_score.specs.declared.score_machine.ScorePart.{ScorePart}
use Rattle.gabc_score.specs.declared.score_machine.ScorePart.TheVariants as score_part
use Rattle.gabc_body.specs.ScoreEvents.{first_place}
use Rattle.gabc_score.specs.ScoreReports.{before_with, is_in_front, held_in_body, in_body, reading_in_body}
use Rattle.gabc_body.specs.Syllable.{UnplacedSyllable}
use Rattle.gabc_body.specs.witness.Gatherer.{Gathered}
use Rattle.gabc_score.specs.machine.PartCounts.{CountsHold}
use Rattle.gabc_body.specs.witness.SyllableBuilder.{OpenSyllable}
use Rattle.gabc_score.specs.witness.BodyStage.{BodyStageState}
use Rattle.gabc_score.proofs.resuming.MachineHoldsByDefinition.{found_alone, is_found}
use Rattle.gabc_score.proofs.resuming.OneSyllableByCharacters.{IsOneByKept}
use Rattle.gabc_score.proofs.texts_of_body.BodyAfterHeads.{are_scalars}
use Rattle.gabc_score.proofs.resuming.NothingIsRead.{begins_again}
use Rattle.gabc_score.proofs.resuming.ResumedIsOfText.{first_is_place}
use Rattle.gabc_score.proofs.texts_of_body.StageAndDefinitionAgree.{fits_after_prefix}
use Rattle.gabc_score.proofs.score_machine.ScoreMachine.hold_again.Goals as goal
use Rattle.gabc_places.specs.declared.place.Place.{Place}
use Rattle.gabc_score.specs.declared.reading_again.SyllableRead.{SyllableRead}
use Rattle.gabc_score.specs.declared.reading_again.SyllableRead.TheVariants.{Open, Whole}
use Rattle.gabc_score.specs.declared.score_machine.ScoreMachine.{ScoreMachine}
use Rattle.gabc_score.specs.machine.ReadsSilently.{ReadsTextSilently}
use Rattle.gabc_score.specs.machine.ReadAlone.{BeginsAlone}
use Rattle.gabc_score.specs.machine.ReadsChar.{StandsInBody}
use Rattle.gabc_score.proofs.keeping.ReadByItself.{HasRoom}
use Rattle.gabc_score.proofs.resuming.BeginsAnywhere.{none_in_body}
use Rattle.gabc_score.proofs.resuming.MachinesReadAgain.{in_body_stands, memory_through}
use Rattle.gabc_score.proofs.resuming.ReadOneByOne.{HasReadAlone, reads_alone, whole_left_is}
use Rattle.gabc_body.proofs.units.CanonicalTextIsText.{characters}
use Rattle.gabc_score.proofs.score_events.MemoryIsKept.{keeps}

-- the text is one syllable exactly if it is one by what is kept of it
by_kept : (text : List ℕ) → IsUtf8 text
    → ((lines macros : ℕ) (t : List ℕ) (spans : Spans) (limit : ℕ) (m : UnplacedSyllable) → All IsScalar t → CountsFit first_place t → IsOneSyllable lines macros first_place t spans limit m ↔ IsReadAsSyllable lines macros t spans limit m)
    → CountsFit first_place (chars text) → IsOneByKept (chars text)
by_kept text utf8 law fits lines macros spans limit m = law lines macros (chars text) spans limit m (are_scalars (chars text) (scalars-chars text utf8)) fits

-- the syllable that is found is held
held_there : (p : ScorePart) (ms : List UnplacedSyllable) (m : UnplacedSyllable) → p ≡ score_part.Body → ms ≡ m ∷ [] → held_in_body p ms ≡ Some m
held_there p ms m e f = ap (λ (q : ScorePart). held_in_body q ms) e ∙ ap (held_in_body score_part.Body) f

before_there : (p q : ScorePart) (a b : BodyStageState) (was is : Preceding) → p ≡ score_part.Body → q ≡ score_part.Body → b.nabc_lines ≡ a.nabc_lines → b.macros ≡ a.macros → is ≡ was
    → in_body q (before_with b is) ≡ in_body p (before_with a was)
before_there p q a b was is e f lines macros same = rw (e, f, lines, macros, same) refl

reads_there : (p : ScorePart) (kept : List ℕ) → p ≡ score_part.Body → kept ≡ [] → reading_in_body p kept ≡ []
reads_there p kept e f = ap (λ (q : ScorePart). reading_in_body q kept) e ∙ f

-- ---- the text, as it was read

module _ (was new : ScoreMachine) (bytes : List ℕ) (left : SyllableRead) (alone : BeginsAlone was) (short : length bytes < 2 ^ 63) (utf8 : IsUtf8 bytes) (steps : ReadsTextSilently true Open was (chars bytes) left new) where
  fits : CountsFit first_place (chars bytes)
  fits = fits_after_prefix first_place [] bytes utf8 (omega arith) (omega arith) (omega (arith, short))

  stands : StandsInBody was
  stands = in_body_stands was alone.rests alone.begins.body

  read : HasReadAlone was first_place (chars bytes) left new
  read =
      subst (λ (at : Place). HasReadAlone was at (chars bytes) left new) alone.begins.next
      (reads_alone (chars bytes) was new left stands (subst (λ (at : Place). HasRoom at (length (chars bytes))) (sym alone.begins.next) (record { line = fits.line; column = fits.column }))
      (none_in_body was.part was.pair.gathered.made alone.begins.body alone.none) steps)

pub returns-in_default : goal.returns-in_default
returns-in_default c =
    let was = c.args.self.now in
    let k = c.read_text_silently.new.self in
    let left = c.read_text_silently.result in
    let text = chars c.args.text.now in
    let memory = memory_through true Open left was k text (keeps was was.part c.requires.alone.rests) c.read_text_silently.ensures in
    let stands = stands was k c.args.text.now left c.requires.alone c.requires.short c.utf8.text c.read_text_silently.ensures in
    let fits = fits was k c.args.text.now left c.requires.alone c.requires.short c.utf8.text c.read_text_silently.ensures in
    let read = read was k c.args.text.now left c.requires.alone c.requires.short c.utf8.text c.read_text_silently.ensures in
    record {
      rests = record { room = memory.room; limit = memory.limit };
      holds = record {
        held = λ good. absurd (true≢false (sym good));
        told = λ good. absurd (true≢false (sym good));
        refused = λ bad m may. c.in_default.not-Whole (whole_left_is left (sym read.alone ∙ is_found was stands.rests c.requires.alone.begins c.requires.alone.none text fits c.a_text_is_read_from_its_beginning.ensures (by_kept c.args.text.now c.utf8.text c.a_syllable_is_read_by_kept.ensures fits) m may));
        over = λ bad. refl;
        ends = λ bad. refl;
      };
    }

pub at_most_one_is_held-requires : goal.at_most_one_is_held-requires
at_most_one_is_held-requires c = ((read c.args.self.now c.read_text_silently.new.self c.args.text.now Whole c.requires.alone c.requires.short c.utf8.text c.in-Whole.ensures).goes refl).stands.rests.rests.used

pub returns-clause-holds : goal.returns-clause-holds
unfolding fresh_events.events_left
returns-clause-holds c =
    let was = c.args.self.now in
    let k = c.read_text_silently.new.self in
    let text = chars c.args.text.now in
    let stands = stands was k c.args.text.now Whole c.requires.alone c.requires.short c.utf8.text c.in-Whole.ensures in
    let fits = fits was k c.args.text.now Whole c.requires.alone c.requires.short c.utf8.text c.in-Whole.ensures in
    let read = read was k c.args.text.now Whole c.requires.alone c.requires.short c.utf8.text c.in-Whole.ensures in
    let on = read.goes refl in
    let few = subst (λ (g : Gathered). length g.made ≤ 1) on.gathered c.at_most_one_is_held.ensures in
    let found = found_alone was stands.rests c.requires.alone.begins c.requires.alone.none text fits c.a_text_is_read_from_its_beginning.ensures (by_kept c.args.text.now c.utf8.text c.a_syllable_is_read_by_kept.ensures fits) read.alone few in
    let made = ap (λ (g : Gathered). g.made) on.gathered ∙ found.made in
    let kept = ap (λ (o : OpenSyllable). o.kept) on.whole in
    let body = ap (λ (b : BodyStageState). b.part) c.begin_text.ensures.text in
    let texts = λ (is : IsText c.args.text.now). read.texts refl (characters text (scalars-chars c.args.text.now c.utf8.text) is.plain) in
    record {
      held = λ fine. record {
        m = found.syllable;
        may = found.may;
        held = held_there k.part k.pair.gathered.made found.syllable on.stands.part made;
        limits = on.limits;
        before_is = before_there was.part k.part was.body c.begin_text.new.self was.pair.contexts.before k.pair.contexts.before c.requires.alone.begins.body on.stands.part
            (ap (λ (b : BodyStageState). b.nabc_lines) c.begin_text.ensures.text ∙ on.lines) (ap (λ (b : BodyStageState). b.macros) c.begin_text.ensures.text ∙ on.macros) on.before;
        begins = record { body = on.stands.part; nothing_read = reads_there k.part k.pair.gathered.builder.kept on.stands.part kept; begins = body; next = refl };
      };
      told = λ fine is told now.
          let t = told c.requires.alone.begins.body in
          let b = c.begin_text.ensures.text in
          let both = texts is (t.reading, t.held) in
          record {
            counts = rw (on.limits, ap (λ (s : BodyStageState). s.nabc_lines) b ∙ on.lines, ap (λ (s : BodyStageState). s.macros) b ∙ on.macros, on.before) t.counts;
            next = first_is_place;
            openers = rw (ap (λ (s : BodyStageState). s.part) b) (record { notes = tt; inner = tt; in_order = tt });
            reading = both.0;
            held = both.1;
          };
      refused = λ bad. absurd (true≢false bad);
      over = λ bad. absurd (true≢false bad);
      ends = λ bad. absurd (true≢false bad);
    }

pub returns-clause-rests : goal.returns-clause-rests
returns-clause-rests c =
    let on = (read c.args.self.now c.read_text_silently.new.self c.args.text.now Whole c.requires.alone c.requires.short c.utf8.text c.in-Whole.ensures).goes refl in
    let was = on.stands.rests in
    rw on.stands.part (record {
      rests = record { none = was.rests.none; room = was.rests.room; limit = was.rests.limit; used = was.rests.used; over = was.rests.over; short = was.rests.short };
      counts = subst (CountsHold c.begin_text.new.self.part) (sym on.whole) c.begin_text.ensures.counts;
      kept = was.kept;
      preceded = was.preceded;
      after = was.after;
      code = was.code;
      reading = begins_again _ _ c.read_text_silently.new.self.body.part c.begin_text.new.self.part c.read_text_silently.new.self.pair.contexts.after.spans c.read_text_silently.new.self.pair.gathered
          (rw (ap (λ (b : BodyStageState). b.nabc_lines) c.begin_text.ensures.text, ap (λ (b : BodyStageState). b.macros) c.begin_text.ensures.text) was.reading) on.whole (c.begin_text.ensures.keeps _ _);
      units = rw (ap (λ (b : BodyStageState). b.nabc_lines) c.begin_text.ensures.text) was.units;
      within = was.within;
      front = λ e. absurd (true≢false (sym e ∙ ap (λ (b : BodyStageState). is_in_front b.part) c.begin_text.ensures.text));
    })
