-- What was said of a text that a stage keeps is what is said of it in front of the `(` that ends it.
use Rattle.std.proofs.Common.{arith, ◌≡◌, ℕ, List, [], ◌∷◌, ◌++◌, map, true, false, option_to_list, refl, sym, ap, subst, ◌∙◌, append_assoc, append-nil}
use Rattle.std.proofs.lemmas.Bool.{true≢false}
use Rattle.std.proofs.lemmas.List.Folds.{list_any-append}
use Rattle.gabc_places.specs.StageLaw.{concat_of}
use Rattle.gabc_text.specs.declared.stage.TextStage.{TextStage}
use Rattle.gabc_text.specs.declared.text_event.TextEnd.TheVariants as ending
use Rattle.gabc_text.specs.declared.text_event.TextPart.{TextPart}
use Rattle.gabc_text.specs.declared.text_event.TextEvent.{TextEvent}
use Rattle.gabc_text.specs.declared.text_event.TextEvent.TheVariants as out
use Rattle.gabc_text.specs.BuiltText.{BuiltText, with_event, with_events, with_part, empty_text, kept_in}
use Rattle.gabc_text.specs.End.{is_end}
use Rattle.gabc_text.specs.Ends.{ends_in}
use Rattle.gabc_text.specs.Events.{CountsFit, events_by_point}
use Rattle.gabc_text.specs.TextStage.{fresh_stage}
use Rattle.gabc_text.specs.TextView.{ViewContent}
use Rattle.gabc_text.specs.witness.Keeps.{said, end_text, EndsInNotes, stage_after, Keeps, said_of, ends_after_it, said_at_end}
use Rattle.gabc_text.specs.witness.SaidInFull.{IsSaidInFull}
use Rattle.gabc_text.specs.machine.RawPart.{stage_past, events_of_pushes}
use Rattle.gabc_text.specs.machine.Resuming.{nowhere, kept_past}
use Rattle.gabc_text.specs.machine.TextStage.{push_stage, events_of_push}
use Rattle.gabc_text.proofs.events.EventsBuildText.{events_append, events_whole, kept_more, kept_whole, none_kept}
use Rattle.gabc_text.proofs.events.EventsByPointAreEvents.{joined_nothing, points_joined}
use Rattle.gabc_text.proofs.machine.EventsStepByStep.{stepwise}
use Rattle.gabc_text.proofs.machine.FreshStageEmitsEventsByPoint.{fresh_stepwise}
use Rattle.gabc_text.proofs.machine.TokensOneAfterAnother.{rest_done}
use Rattle.gabc_text.proofs.resuming.EndsAndKept.{kept_said, ends_said, no_ends, done_is, kept_is, none_kept_at_end, notes_at_end}
use Rattle.gabc_text.proofs.resuming.PlacesAside.{said_append}
use Rattle.gabc_text.proofs.resuming.ReachedStages.{goes_on}
use Rattle.gabc_text.proofs.resuming.StagesKeep.{ends_are, last_is, said_is}

-- ---- the events of a text up to its `(`

emitted : (s : TextStage) (k rest : List ℕ) → (push_stage (stage_past s k) 40).ended ≡ true → concat_of (stepwise s (k ++ 40 ∷ rest)) ≡ events_of_pushes s k ++ events_of_push (stage_past s k) 40
emitted s [] rest over = grind (arith, rest_done, joined_nothing, append-nil)
emitted s (c ∷ k) rest over = simp (append_assoc, emitted (push_stage s c) k rest over)

-- no end is among them before the `(`, and of each character what is kept is kept
pushes_go : (s : TextStage) (k : List ℕ) → (stage_past s k).ended ≡ false → end_text (events_of_pushes s k) ≡ false
pushes_go s [] e = refl
pushes_go s (c ∷ k) e = grind (arith, done_is, goes_on, list_any-append, pushes_go (push_stage s c) k e)

pushes_keep : (s : TextStage) (k : List ℕ) → (stage_past s k).ended ≡ false → kept_in (events_of_pushes s k) ≡ kept_past s k
pushes_keep s [] e = refl
pushes_keep s (c ∷ k) e = grind (arith, kept_more, kept_is, goes_on, option_to_list, pushes_keep (push_stage s c) k e)

-- ---- what is said

silent_by : (es : List TextEvent) → end_text es ≡ false → ends_in es ≡ []
silent_by [] e = refl
silent_by (out.Ended h ∷ es) e = absurd (true≢false e)
silent_by (_ ∷ es) e = silent_by es e

-- findings and places do not change the view
view_said : (b d : BuiltText) (es : List TextEvent) → b.view ≡ d.view → (with_events b (said es)).view ≡ (with_events d es).view
view_said b d [] e = e
view_said b d (out.Kept c ∷ es) e = view_said (with_event b (out.Kept (record { c = c.c; place = nowhere }))) (with_event d (out.Kept c)) es e
view_said b d (out.Part p ∷ es) e = view_said (with_event b (out.Part p)) (with_event d (out.Part p)) es (ap (λ (v : ViewContent). with_part v p) e)
view_said b d (out.Found f ∷ es) e = view_said b (with_event d (out.Found f)) es e
view_said b d (out.Ended h ∷ es) e = view_said (with_event b (out.Ended h)) (with_event d (out.Ended h)) es e

abbrev parts_out : List TextPart → List TextEvent
parts_out ps = map (λ (p : TextPart). out.Part p) ps

pub said_in_full : (s : TextStage) (k rest : List ℕ) → Keeps s k → ends_after_it k ≡ true → CountsFit nowhere (k ++ 40 ∷ rest) → IsSaidInFull k rest
said_in_full s k rest keeps ends fits = record {
  mids = mids;
  said_are = ap (λ (es : List TextEvent). said_of k ++ es) notes.is ∙ sym (append_assoc (said_of k) (parts_out notes.parts) (out.Ended ending.Notes ∷ []));
  emitted_are = ap said (sym (points_joined nowhere text) ∙ all_emitted) ∙ all_said
      ∙ append_assoc (said_of k) (parts_out notes.parts) (out.Ended ending.Notes ∷ [])
      ∙ ap (λ (es : List TextEvent). said_of k ++ es) (sym notes.is);
  silent = silent_by mids (list_any-append is_end (said_of k) (parts_out notes.parts) ∙ rw (goes_said, no_ends notes.parts) refl);
  kept_are = kept_more (said_of k) (parts_out notes.parts)
      ∙ ap (λ (t : List ℕ). kept_in (said_of k) ++ t) (none_kept (λ (p : TextPart). out.Part p) (λ p. refl) notes.parts)
      ∙ append-nil (kept_in (said_of k))
      ∙ ap kept_in (said_is k) ∙ kept_said (events_of_pushes (fresh_stage nowhere) k) ∙ all_kept;
  view_is = ap (λ (b : BuiltText). b.view) (sym (events_append empty_text mids (out.Ended ending.Notes ∷ [])))
      ∙ ap (λ (es : List TextEvent). (with_events empty_text es).view) (sym all_said)
      ∙ view_said empty_text empty_text (events_of_pushes (fresh_stage nowhere) k ++ events_of_push (stage_after k) 40) refl
      ∙ ap (λ (es : List TextEvent). (with_events empty_text es).view) (sym all_emitted ∙ points_joined nowhere text)
      ∙ ap (λ (b : BuiltText). b.view) (events_whole nowhere text);
  kept_is = sym (ap kept_in (points_joined nowhere text) ∙ kept_whole nowhere text)
      ∙ ap kept_in all_emitted
      ∙ kept_more (events_of_pushes (fresh_stage nowhere) k) (events_of_push (stage_after k) 40)
      ∙ ap (λ (t : List ℕ). kept_in (events_of_pushes (fresh_stage nowhere) k) ++ t) (none_kept_at_end (stage_after k) 40 going over)
      ∙ append-nil (kept_in (events_of_pushes (fresh_stage nowhere) k))
      ∙ all_kept;
}
  where
    text : List ℕ
    text = k ++ 40 ∷ rest

    going : (stage_after k).ended ≡ false
    going = ap (λ (x : TextStage). x.ended) keeps.alike.same ∙ keeps.goes_on

    over : (push_stage (stage_after k) 40).ended ≡ true
    over = sym (ends_are k) ∙ ends

    notes : EndsInNotes (said_at_end k)
    notes = subst EndsInNotes (sym (last_is k)) (notes_at_end (stage_after k) 40 going over)

    mids : List TextEvent
    mids = said_of k ++ parts_out notes.parts

    goes_said : end_text (said_of k) ≡ false
    goes_said = ap end_text (said_is k) ∙ ends_said (events_of_pushes (fresh_stage nowhere) k) ∙ pushes_go (fresh_stage nowhere) k going

    all_kept : kept_in (events_of_pushes (fresh_stage nowhere) k) ≡ k
    all_kept = pushes_keep (fresh_stage nowhere) k going ∙ keeps.whole

    all_emitted : concat_of (events_by_point nowhere text) ≡ events_of_pushes (fresh_stage nowhere) k ++ events_of_push (stage_after k) 40
    all_emitted = ap concat_of (sym (fresh_stepwise nowhere text fits).0) ∙ emitted (fresh_stage nowhere) k rest over

    -- what was said is what is said of the events
    all_said : said (events_of_pushes (fresh_stage nowhere) k ++ events_of_push (stage_after k) 40) ≡ mids ++ out.Ended ending.Notes ∷ []
    all_said =
        said_append (events_of_pushes (fresh_stage nowhere) k) (events_of_push (stage_after k) 40)
        ∙ ap (λ (es : List TextEvent). es ++ said (events_of_push (stage_after k) 40)) (sym (said_is k))
        ∙ ap (λ (es : List TextEvent). said_of k ++ es) (sym (last_is k))
        ∙ ap (λ (es : List TextEvent). said_of k ++ es) notes.is
        ∙ sym (append_assoc (said_of k) (parts_out notes.parts) (out.Ended ending.Notes ∷ []))
