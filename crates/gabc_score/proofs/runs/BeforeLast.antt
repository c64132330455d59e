-- A machine that goes on before a syllable, while none is pending.
use Rattle.std.proofs.Math.Bool.{or-false}
use Rattle.std.proofs.Common.{◌≡◌, ℕ, ◌≤◌, true, false, [], length, is_some, sym, ap, subst, ◌∙◌, arith}
use Rattle.std.proofs.lemmas.Bool.{true≢false}
use Rattle.std.proofs.lemmas.List.Elements.{All-nil}
use Rattle.std.specs.List.{All}
use Rattle.gabc_text.specs.TextStage.{fresh_stage}
use Rattle.gabc_text.specs.witness.Keeps as text
use Rattle.gabc_places.specs.declared.place.Place.{Place}
use Rattle.gabc_score.specs.declared.preceding.Preceding.{Preceding}
use Rattle.gabc_score.specs.declared.body_stage.BodyPart.{BodyPart}
use Rattle.gabc_score.specs.declared.body_stage.BodyPart.TheVariants.{Text}
use Rattle.gabc_score.specs.declared.score_machine.ScoreMachine.{ScoreMachine}
use Rattle.gabc_score.specs.Before.{with_each}
use Rattle.gabc_score.specs.ScoreReports.{is_in_front}
use Rattle.gabc_score.specs.ReportedWithin.{IsAtOutset}
use Rattle.gabc_body.specs.witness.BodyBuilder.{code_in}
use Rattle.gabc_body.specs.witness.Gatherer.{Gathered}
use Rattle.gabc_score.specs.machine.PartCounts.{CountsHold}
use Rattle.gabc_score.specs.machine.PartKeeps.{in_text, IsReading, PartKeeps}
use Rattle.gabc_score.specs.machine.Preceded.{IsPreceded, none_pending}
use Rattle.gabc_score.specs.machine.ScoreMachine.{IsInBody, IsShort}
use Rattle.gabc_score.specs.machine.SlotPair.{SlotPairState, is_made}
use Rattle.gabc_body.specs.witness.SyllableBuilder.{OpenSyllable, nothing_open}
use Rattle.gabc_score.specs.witness.BodyStage.{BodyStageState}
use Rattle.gabc_score.proofs.runs.RunEnds.{before_last}
use Rattle.gabc_score.proofs.score_events.EventsStayWithinBounds.{none_passed}
use Rattle.gabc_score.proofs.score_events.GatheredStaysWithinLimits.{within_none}
use Rattle.gabc_score.proofs.score_events.PendingSyllableHoldsUnit.{none_held}

module _ (m : ScoreMachine) (rests : IsInBody m) (p : Preceding) (some : 1 ≤ p.syllables) (sounded : is_some m.pair.gathered.first_kind ≡ p.sounded)
    (nothing : m.pair.gathered.builder ≡ nothing_open) (follows : m.pair.gathered.follows ≡ true) where
  preceded_next : IsPreceded p (before_last m p)
  preceded_next = grind (arith, or-false, All-nil)

  outset_next : IsAtOutset p
  outset_next none = absurd (omega (arith, some, none))

  reads_next : (lines macros : ℕ) (b : BodyPart) → PartKeeps lines macros b (in_text []) → IsReading lines macros b p.spans (before_last m p)
  unfolding text.said_of
  reads_next lines macros b keeps = grind arith

  -- It rests, whatever slots it has, in which this is gathered.
  pub rests_next : (pair : SlotPairState) (body : BodyStageState) (next at : Place) → pair.gathered ≡ before_last m p → pair.contexts ≡ none_pending p → is_made pair.used ≡ false → body ≡ record m.body { part = Text (fresh_stage at) }
      → CountsHold body.part nothing_open → ((lines macros : ℕ) → PartKeeps lines macros body.part (in_text []))
      → IsInBody (record m { pair = pair; body = body; next = next })
  rests_next pair body next at is there used text counts keeps = record {
    rests = record {
      none = rests.rests.none;
      room = rests.rests.room;
      limit = ap (λ (g : Gathered). g.limit) is ∙ rests.rests.limit;
      used = used;
      over = ap (λ (g : Gathered). g.over) is ∙ rests.rests.over;
      short = subst (λ (g : Gathered). All (IsShort m.limits.syllable) g.made) (sym is) (All-nil (IsShort m.limits.syllable));
    };
    counts = subst (CountsHold body.part) (sym (ap (λ (g : Gathered). g.builder) is ∙ nothing)) counts;
    kept = (let k = ap (λ (g : Gathered). length g.builder.kept) is ∙ ap (λ (o : OpenSyllable). length o.kept) nothing in omega (arith, k));
    preceded = rw there (subst (IsPreceded p) (sym is) preceded_next);
    after = rw there (ap (λ (g : Gathered). with_each p g.made) (sym is));
    code = ap (code_in m.limits) is ∙ none_passed m.limits (before_last m p) (record { kept = (let k = ap (λ (o : OpenSyllable). length o.kept) nothing in omega (arith, k)); over = rests.rests.over; file = λ some. absurd (cc some) });
    reading = rw there (subst (IsReading body.nabc_lines body.macros body.part p.spans) (sym is)
        (reads_next body.nabc_lines body.macros body.part (keeps body.nabc_lines body.macros)));
    units = none_held body.nabc_lines pair.contexts.before pair.gathered.made (ap (λ (g : Gathered). g.made) is);
    within = rw there (within_none m.limits p pair.gathered outset_next (ap (λ (g : Gathered). g.made) is));
    front = λ e. absurd (true≢false (sym e ∙ ap (λ (b : BodyStageState). is_in_front b.part) text));
  }
