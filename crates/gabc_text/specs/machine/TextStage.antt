-- The steps of the machine at a character and at the end.
use Rattle.std.specs.Prelude.{if◌then◌else◌, ℕ, ◌==◌, ◌&&◌, Bool, true, false, cond, List, [], ◌++◌, Option, Some, None}
use Rattle.std.specs.Char.{len_utf8}
use Rattle.gabc_places.specs.declared.place.Place.{Place}
use Rattle.gabc_text.specs.declared.token.TokenKind.{TokenKind}
use Rattle.gabc_text.specs.declared.token.TagEffect.{TagEffect}
use Rattle.gabc_text.specs.declared.token.TagEffect.TheVariants.{Other}
use Rattle.gabc_text.specs.declared.view.PieceKind.TheVariants as piece
use Rattle.gabc_text.specs.declared.token_state.TokenState.TheVariants.{Plain}
use Rattle.gabc_text.specs.declared.token_state.Step.{Step}
use Rattle.gabc_text.specs.declared.token_state.Step.TheVariants.{Stays, Ends}
use Rattle.gabc_text.specs.declared.text_facts.TextFacts.{TextFacts}
use Rattle.gabc_text.specs.declared.progress.Progress.{Progress}
use Rattle.gabc_text.specs.declared.stage.TextStage.{TextStage}
use Rattle.gabc_text.specs.declared.text_event.TextEnd.{TextEnd}
use Rattle.gabc_text.specs.declared.text_event.TextEnd.TheVariants as text_ending
use Rattle.gabc_text.specs.declared.text_event.TextEvent.{TextEvent}
use Rattle.gabc_text.specs.declared.text_event.TextEvent.TheVariants as out
use Rattle.gabc_text.specs.View.{is_open_kind}
use Rattle.gabc_text.specs.Events.{option_list_of}
use Rattle.gabc_text.specs.witness.EventsLeft.{piece_by, piece_there, findings_there, whole_events_by, end_events_by, count_after, waiting_after, begin_after, end_after}
use Rattle.gabc_text.specs.machine.TextFacts.{facts_after, early_at}
use Rattle.gabc_text.specs.machine.TokenState.{settled_kind, next_step, keep, kind_at_end, is_plain}
use Rattle.gabc_text.specs.TextStage.{count_plus}
use Rattle.gabc_places.specs.Place.{saturating_next_place}

abbrev pub progress_after : TextFacts → Progress → TokenKind → TagEffect → Place → Progress
progress_after facts progress k s place = record {
  place = place;
  start = progress.kept;
  next = progress.next;
  kept = progress.kept;
  pieces = count_after progress.pieces (piece_by facts k s);
  blank = waiting_after (piece_there facts progress piece.Blank progress.start progress.kept) progress.blank (piece_by facts k s);
  begin = begin_after facts k progress.pieces progress.begin;
  end = end_after facts k progress.pieces progress.end;
}

abbrev pub char_event : Place → Option ℕ → Option TextEvent
char_event place (Some c) = Some (out.Kept (record { c = c; place = place }))
char_event place None = None

-- after a token, which ends before this place
abbrev pub token_stage : TextStage → TokenKind → TagEffect → Place → TextStage
token_stage t k s place = record t { state = Plain; facts = facts_after t.facts k s; progress = progress_after t.facts t.progress k s place }

abbrev pub events_of_token : TextFacts → Progress → TokenKind → TagEffect → ℕ → List TextEvent
events_of_token facts progress k s last = whole_events_by facts progress k s last progress.kept

abbrev pub settle_stage_by : TextStage → Option TokenKind → TextStage
settle_stage_by t None = t
settle_stage_by t (Some k) = token_stage t k Other t.progress.next

abbrev pub settle_stage : TextStage → ℕ → TextStage
settle_stage t c = settle_stage_by t (settled_kind t.state c)

abbrev pub events_of_settling_by : TextStage → Option TokenKind → List TextEvent
events_of_settling_by t None = []
events_of_settling_by t (Some k) = events_of_token t.facts t.progress k Other t.progress.start

abbrev pub events_of_settling : TextStage → ℕ → List TextEvent
events_of_settling t c = events_of_settling_by t (settled_kind t.state c)

abbrev pub bytes_with : ℕ → Option ℕ → ℕ
bytes_with n (Some c) = count_plus n (len_utf8 c)
bytes_with n None = n

abbrev pub progress_past : Progress → ℕ → Option ℕ → Progress
progress_past progress c kept = record progress { next = saturating_next_place progress.next c; kept = bytes_with progress.kept kept }

abbrev pub stage_after_step : TextStage → Step → TextStage
stage_after_step t (Stays state) = record t { state = state }
stage_after_step t (Ends k s) = token_stage t k s t.progress.next

abbrev pub events_of_step : TextStage → Step → ℕ → List TextEvent
events_of_step t (Stays state) last = []
events_of_step t (Ends k s) last = events_of_token t.facts t.progress k s last

-- the machine with this character counted, and what is kept of it
abbrev pub stage_past_char : TextStage → ℕ → TextStage
stage_past_char t c = record t { progress = progress_past t.progress c (keep t.facts t.state c) }

abbrev pub read_stage : TextStage → ℕ → TextStage
read_stage t c = stage_after_step (stage_past_char t c) (next_step t.state c)

abbrev pub events_of_reading : TextStage → ℕ → List TextEvent
events_of_reading t c =
    findings_there t.progress.place (option_list_of (early_at t.facts t.state c))
    ++ (option_list_of (char_event t.progress.next (keep t.facts t.state c))
    ++ events_of_step (stage_past_char t c) (next_step t.state c) t.progress.kept)

abbrev pub is_cut_end : TextEnd → Bool
is_cut_end (text_ending.Cut p) = true
is_cut_end _ = false

abbrev pub events_of_end : TextFacts → Progress → TextEnd → List TextEvent
events_of_end facts progress h = end_events_by facts progress (is_cut_end h) h

abbrev pub end_stage : TextStage → TextStage
end_stage t = record t { ended = true }

abbrev pub settled_push_stage : TextStage → ℕ → TextStage
settled_push_stage t c = cond (c == 40 && is_plain t.state) (end_stage t) (read_stage t c)

abbrev pub events_of_settled_push : TextStage → ℕ → List TextEvent
events_of_settled_push t c = cond (c == 40 && is_plain t.state) (events_of_end t.facts t.progress text_ending.Notes) (events_of_reading t c)

abbrev pub push_stage : TextStage → ℕ → TextStage
push_stage t c = cond t.ended t (settled_push_stage (settle_stage t c) c)

abbrev pub events_of_push : TextStage → ℕ → List TextEvent
events_of_push t c = cond t.ended [] (events_of_settling t c ++ events_of_settled_push (settle_stage t c) c)

abbrev pub end_by : TokenKind → Place → TextEnd
end_by k place = if is_open_kind k then text_ending.Cut place else text_ending.Finished

abbrev pub finish_stage_by : TextStage → Option TokenKind → TextStage
finish_stage_by t None = end_stage t
finish_stage_by t (Some k) = end_stage (token_stage t k Other t.progress.next)

abbrev pub finish_stage : TextStage → TextStage
finish_stage t = cond t.ended t (finish_stage_by t (kind_at_end t.state))

abbrev pub events_of_finish_by : TextStage → Option TokenKind → List TextEvent
events_of_finish_by t None = events_of_end t.facts t.progress text_ending.Finished
events_of_finish_by t (Some k) =
    events_of_token t.facts t.progress k Other t.progress.start
    ++ events_of_end (facts_after t.facts k Other) (progress_after t.facts t.progress k Other t.progress.next) (end_by k t.progress.place)

abbrev pub events_of_finish : TextStage → List TextEvent
events_of_finish t = cond t.ended [] (events_of_finish_by t (kind_at_end t.state))
