-- What is kept of a character, and whether it ends the text.
use Rattle.std.proofs.lemmas.Bool.{and_parts, eqb-true, true≢false}
use Rattle.std.proofs.Common.{arith, ◌≡◌, ◌==◌, ◌&&◌, ℕ, List, [], ◌∷◌, ◌++◌, map, Bool, true, false, cond, Option, Some, None, option_to_list, refl, sym, ap, ◌∙◌, append-nil}
use Rattle.gabc_places.specs.declared.code.Code.{Code}
use Rattle.gabc_places.specs.declared.place.Place.{Place}
use Rattle.gabc_places.specs.declared.place.Span.{Span}
use Rattle.gabc_text.specs.declared.progress.Progress.{Progress}
use Rattle.gabc_text.specs.declared.text_facts.TextFacts.{TextFacts}
use Rattle.gabc_text.specs.declared.token.TokenKind.{TokenKind}
use Rattle.gabc_text.specs.declared.token.TagEffect.TheVariants as tag
use Rattle.gabc_text.specs.declared.token_state.Step.{Step}
use Rattle.gabc_text.specs.declared.text_event.TextPart.{TextPart}
use Rattle.gabc_text.specs.declared.text_event.TextPart.TheVariants as part
use Rattle.gabc_text.specs.declared.text_event.TextEvent.{TextEvent}
use Rattle.gabc_text.specs.declared.text_event.TextEvent.TheVariants as out
use Rattle.gabc_text.specs.declared.text_event.TextEnd.TheVariants as text_ending
use Rattle.gabc_text.specs.declared.stage.TextStage.{TextStage}
use Rattle.gabc_text.specs.BuiltText.{kept_in}
use Rattle.gabc_text.specs.End.{is_end}
use Rattle.gabc_text.specs.Events.{option_list_of, count_by}
use Rattle.gabc_text.specs.witness.EventsLeft.{findings_there, codes_last, parts_by}
use Rattle.gabc_text.specs.witness.Keeps.{said, end_text, EndsInNotes}
use Rattle.gabc_text.specs.machine.StageReports.{is_comment}
use Rattle.gabc_text.specs.View.{piece_kind, centre_by}
use Rattle.gabc_text.specs.machine.Resuming.{kept_at}
use Rattle.gabc_text.specs.machine.TokenState.{settled_kind, next_step, keep, is_plain}
use Rattle.gabc_text.specs.machine.TextStage.{settle_stage, settle_stage_by, events_of_settling_by, stage_past_char, stage_after_step, read_stage, events_of_reading, end_stage, events_of_end, push_stage, events_of_push}
use Rattle.std.proofs.lemmas.List.Folds.{list_any-append}
use Rattle.gabc_text.proofs.events.EventsBuildText.{kept_more}
use Rattle.gabc_text.proofs.resuming.PlacesAside.{said_append, said_found, said_of_char, said_of_step, token_said, reading_said}

-- ---- what is said has the same characters and end

pub kept_said : (es : List TextEvent) → kept_in (said es) ≡ kept_in es
kept_said [] = refl
kept_said (out.Kept c ∷ es) = ap (λ (t : List ℕ). c.c ∷ t) (kept_said es)
kept_said (_ ∷ es) = kept_said es

pub ends_said : (es : List TextEvent) → end_text (said es) ≡ end_text es
ends_said [] = refl
ends_said (out.Ended h ∷ es) = refl
ends_said (_ ∷ es) = ends_said es

pub no_ends : (ps : List TextPart) → end_text (map (λ (x : TextPart). out.Part x) ps) ≡ false
no_ends [] = refl
no_ends (p ∷ ps) = no_ends ps

-- ---- what is kept of a character, and whether it ends the text

char_kept : (o : Option ℕ) → kept_in (said_of_char o) ≡ option_to_list o
char_kept o = grind arith

char_goes : (o : Option ℕ) → end_text (said_of_char o) ≡ false
char_goes o = grind arith

step_kept : (t : TextStage) (st : Step) (last : ℕ) → kept_in (said_of_step t st last) ≡ []
step_kept t st last = grind arith

step_goes : (t : TextStage) (st : Step) (last : ℕ) → end_text (said_of_step t st last) ≡ false
step_goes t st last = grind arith

pub read_kept : (t : TextStage) (c : ℕ) → kept_in (events_of_reading t c) ≡ option_to_list (keep t.facts t.state c)
read_kept t c =
    sym (kept_said (events_of_reading t c))
    ∙ ap kept_in (reading_said t c)
    ∙ kept_more (said_of_char (keep t.facts t.state c)) (said_of_step (stage_past_char t c) (next_step t.state c) t.progress.kept)
    ∙ rw (char_kept (keep t.facts t.state c), step_kept (stage_past_char t c) (next_step t.state c) t.progress.kept) (append-nil (option_to_list (keep t.facts t.state c)))

read_goes : (t : TextStage) (c : ℕ) → end_text (events_of_reading t c) ≡ false
read_goes t c =
    sym (ends_said (events_of_reading t c))
    ∙ ap end_text (reading_said t c)
    ∙ list_any-append is_end (said_of_char (keep t.facts t.state c)) (said_of_step (stage_past_char t c) (next_step t.state c) t.progress.kept)
    ∙ rw (char_goes (keep t.facts t.state c), step_goes (stage_past_char t c) (next_step t.state c) t.progress.kept) refl

pub settling_kept : (s : TextStage) (o : Option TokenKind) → kept_in (events_of_settling_by s o) ≡ []
settling_kept s o = grind arith

pub no_found_kept : (p : Place) (cs : List Code) → kept_in (findings_there p cs) ≡ []
no_found_kept p [] = refl
no_found_kept p (c ∷ cs) = no_found_kept p cs

end_kept : (facts : TextFacts) (p : Progress) → kept_in (events_of_end facts p text_ending.Notes) ≡ []
end_kept facts p = grind arith

settling_goes : (s : TextStage) (o : Option TokenKind) → end_text (events_of_settling_by s o) ≡ false
settling_goes s o = grind arith

end_ends : (facts : TextFacts) (p : Progress) → end_text (events_of_end facts p text_ending.Notes) ≡ true
end_ends facts p = grind arith

pub settled_done : (s : TextStage) (o : Option TokenKind) → (settle_stage_by s o).ended ≡ s.ended
settled_done s o = grind arith

pub read_done : (u : TextStage) (c : ℕ) (st : Step) → (stage_after_step (stage_past_char u c) st).ended ≡ u.ended
read_done u c st = grind arith

-- the text has ended exactly if the end is emitted
pub done_is : (s : TextStage) (c : ℕ) → s.ended ≡ false → (push_stage s c).ended ≡ end_text (events_of_push s c)
done_is s c on = grind (arith, list_any-append, settling_goes, end_ends, read_done, settled_done, read_goes)

pub kept_is : (s : TextStage) (c : ℕ) → s.ended ≡ false → (push_stage s c).ended ≡ false → kept_in (events_of_push s c) ≡ option_to_list (kept_at s c)
kept_is s c on = grind (arith, option_to_list, kept_more, settling_kept, read_kept)

-- nothing is kept of the `(` that ends the text
pub none_kept_at_end : (s : TextStage) (c : ℕ) → s.ended ≡ false → (push_stage s c).ended ≡ true → kept_in (events_of_push s c) ≡ []
none_kept_at_end s c on = grind (arith, kept_more, settling_kept, end_kept, read_done, settled_done)

-- what is said then are parts and the end
parts_more : (ps qs : List TextPart) → map (λ (p : TextPart). out.Part p) ps ++ (map (λ (p : TextPart). out.Part p) qs ++ out.Ended text_ending.Notes ∷ [])
    ≡ map (λ (p : TextPart). out.Part p) (ps ++ qs) ++ out.Ended text_ending.Notes ∷ []
parts_more [] qs = refl
parts_more (p ∷ ps) qs = ap (λ (os : List TextEvent). out.Part p ∷ os) (parts_more ps qs)

centre_said : (o : Option Span) → EndsInNotes (said (map (λ (c : Span). out.Part (part.Centre c)) (option_list_of o) ++ out.Ended text_ending.Notes ∷ []))
centre_said None = record { parts = []; is = refl }
centre_said (Some s) = record { parts = part.Centre s ∷ []; is = refl }

end_said : (facts : TextFacts) (p : Progress) → EndsInNotes (said (events_of_end facts p text_ending.Notes))
end_said facts p =
    let o = centre_by (count_by p.pieces p.blank) p.begin p.end in
    let h = centre_said o in
    record {
      parts = h.parts;
      is = said_append (findings_there p.next (codes_last facts)) (map (λ (c : Span). out.Part (part.Centre c)) (option_list_of o) ++ out.Ended text_ending.Notes ∷ [])
          ∙ rw (said_found p.next (codes_last facts)) h.is;
    }

settling_said : (s : TextStage) (o : Option TokenKind) → (ps : List TextPart) × (said (events_of_settling_by s o) ≡ map (λ (p : TextPart). out.Part p) ps)
settling_said s None = ([], refl)
settling_said s (Some k) = (parts_by s.facts s.progress k s.progress.start s.progress.kept (piece_kind k tag.Other), token_said s.facts s.progress k tag.Other s.progress.start)

pub notes_at_end : (s : TextStage) (c : ℕ) → s.ended ≡ false → (push_stage s c).ended ≡ true → EndsInNotes (said (events_of_push s c))
notes_at_end s c on = by s.ended on (settled_kind s.state c) (c == 40 && is_plain (settle_stage s c).state)
  where
    by : (d : Bool) → d ≡ false → (o : Option TokenKind) (b : Bool) → (cond d s (cond b (end_stage (settle_stage_by s o)) (read_stage (settle_stage_by s o) c))).ended ≡ true
        → EndsInNotes (said (cond d [] (events_of_settling_by s o ++ cond b (events_of_end (settle_stage_by s o).facts (settle_stage_by s o).progress text_ending.Notes) (events_of_reading (settle_stage_by s o) c))))
    by true e o b over = absurd (true≢false e)
    by false e o true over =
        let first = settling_said s o in
        let last = end_said (settle_stage_by s o).facts (settle_stage_by s o).progress in
        record {
          parts = first.0 ++ last.parts;
          is = said_append (events_of_settling_by s o) (events_of_end (settle_stage_by s o).facts (settle_stage_by s o).progress text_ending.Notes)
              ∙ rw (first.1, last.is) (parts_more first.0 last.parts);
        }
    by false e o false over = absurd (true≢false (sym over ∙ read_done (settle_stage_by s o) c (next_step (settle_stage_by s o).state c) ∙ settled_done s o ∙ on))

-- a text ends at a `(`, where absurd (true≢false comment) is open
pub record EndsAt (s : TextStage) (c : ℕ) : Type 0 where
  pub mark : c ≡ 40
  pub no_comment : is_comment s.state ≡ false

pub ended_at : (s : TextStage) (c : ℕ) → s.ended ≡ false → (push_stage s c).ended ≡ true → EndsAt s c
ended_at s c on over = grind (arith, read_done, settled_done, and_parts, eqb-true)
