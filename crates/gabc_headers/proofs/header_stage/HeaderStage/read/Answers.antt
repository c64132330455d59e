use Rattle.std.proofs.Common.{◌∷◌, [], ◌++◌, Option, Some, None, refl, sym, ap, ◌∙◌, arith, map, List, string_bytes}
use Rattle.std.specs.String.{string_capacity}
use Rattle.std.proofs.lemmas.Str.{IsUtf8-string_bytes}
use Rattle.gabc_places.specs.declared.code.Code.TheVariants.{F4}
use Rattle.gabc_places.specs.declared.code.Finding.{Finding}
use Rattle.gabc_headers.specs.declared.events.HeaderEvent.{HeaderEvent}
use Rattle.gabc_headers.specs.declared.events.HeaderEnding.{HeaderEnding}
use Rattle.gabc_headers.specs.declared.head_event.HeadEvent.TheVariants.{Found, Stop}
use Rattle.gabc_headers.specs.declared.header_machine.HeaderStep.TheVariants.{Read, Ended}
use Rattle.gabc_headers.specs.HeadEvents.{event_of_book}
use Rattle.gabc_headers.specs.machine.Collected.{found_list, name_found}
use Rattle.gabc_headers.specs.Entries.{spelled_entries}
use Rattle.gabc_headers.proofs.stages.CharactersOfAStage.{keeps, stands, out_is, few_is, state_on, state_over, state_after, few_found, few_heads, nothing_added}
use Rattle.gabc_headers.proofs.stages.EventsOfAStage.{reads_on, emits_limit, emits_stop, emits_whole, emits_no_end, values_lie_within}
use Rattle.gabc_headers.proofs.header_stage.HeaderStage.read.Goals as goal

pub unreachable-requires : goal.unreachable-requires
unreachable-requires c =
    let st = stands c.self.inside.limits c.self.inside.part (string_bytes c.self.inside.text) (string_capacity c.self.inside.text) c.self.inside.machine c.self.inside.headers c.args.self.now c.self.view_is c.requires.reading c.self.invariant in
    let on = reads_on c.self.inside.limits (string_bytes c.self.inside.text) (string_capacity c.self.inside.text) c.self.inside.machine c.push.new.self c.self.inside.headers c.args.c (IsUtf8-string_bytes c.self.inside.text) c.ranges.c.0 st.reads c.in-Read.event c.push.ensures.bounds (sym c.in-Read.ensures.pushes) in
    absurd (let f = on.fits in let n = c.in_default.ensures.full in let o = c.self.inside.text.bytes.ok.0 in omega (arith, f, n, o))

pub take_event-found-requires : goal.take_event-found-requires
take_event-found-requires c =
    let st = stands c.self.inside.limits c.self.inside.part (string_bytes c.self.inside.text) (string_capacity c.self.inside.text) c.self.inside.machine c.self.inside.headers c.args.self.now c.self.view_is c.requires.reading c.self.invariant in
    let on = reads_on c.self.inside.limits (string_bytes c.self.inside.text) (string_capacity c.self.inside.text) c.self.inside.machine c.push.new.self c.self.inside.headers c.args.c (IsUtf8-string_bytes c.self.inside.text) c.ranges.c.0 st.reads (Some c.in-Some.event) c.push.ensures.bounds (sym c.in-Read.ensures.pushes ∙ ap (λ (e : Option HeaderEvent). (c.push.new.self, Read e)) c.in-Some.is) in
    record {
      good = rw (c.as_str.ensures.value, c.in-Ok.ensures.bytes) on.good;
      room = on.room;
    }

pub invariant_of-self : goal.invariant_of-self
invariant_of-self c =
    let st = stands c.self.inside.limits c.self.inside.part (string_bytes c.self.inside.text) (string_capacity c.self.inside.text) c.self.inside.machine c.self.inside.headers c.args.self.now c.self.view_is c.requires.reading c.self.invariant in
    let on = reads_on c.self.inside.limits (string_bytes c.self.inside.text) (string_capacity c.self.inside.text) c.self.inside.machine c.push.new.self c.self.inside.headers c.args.c (IsUtf8-string_bytes c.self.inside.text) c.ranges.c.0 st.reads (Some c.in-Some.event) c.push.ensures.bounds (sym c.in-Read.ensures.pushes ∙ ap (λ (e : Option HeaderEvent). (c.push.new.self, Read e)) c.in-Some.is) in
    rw (st.part_is, c.in-Ok.ensures.bytes) (on.next c.take_event-found.new.headers (string_capacity c.push-in-Read.new.self) c.push-in-Read.ensures.capacity (rw (← c.in-Ok.ensures.bytes, ← c.as_str.ensures.value) c.take_event-found.ensures.headers) c.take_event-found.ensures.limit)

pub invariant_of-self-in_default-event : goal.invariant_of-self-in_default-event
invariant_of-self-in_default-event c =
    let st = stands c.self.inside.limits c.self.inside.part (string_bytes c.self.inside.text) (string_capacity c.self.inside.text) c.self.inside.machine c.self.inside.headers c.args.self.now c.self.view_is c.requires.reading c.self.invariant in
    let on = reads_on c.self.inside.limits (string_bytes c.self.inside.text) (string_capacity c.self.inside.text) c.self.inside.machine c.push.new.self c.self.inside.headers c.args.c (IsUtf8-string_bytes c.self.inside.text) c.ranges.c.0 st.reads None c.push.ensures.bounds (sym c.in-Read.ensures.pushes ∙ ap (λ (e : Option HeaderEvent). (c.push.new.self, Read e)) c.in_default-event.is) in
    rw (st.part_is, c.in-Ok.ensures.bytes) (on.next c.self.inside.headers (string_capacity c.push-in-Read.new.self) c.push-in-Read.ensures.capacity refl refl)

pub score_len-requires : goal.score_len-requires
score_len-requires c = grind (arith, stands, values_lie_within, IsUtf8-string_bytes)

pub of-requires : goal.of-requires
of-requires c = grind (arith, stands, values_lie_within, IsUtf8-string_bytes)

pub invariant_of-self-in-Ok-score_len : goal.invariant_of-self-in-Ok-score_len
invariant_of-self-in-Ok-score_len c = grind (arith, keeps, IsUtf8-string_bytes)

pub unreachable-requires-in-Ended-Text : goal.unreachable-requires-in-Ended-Text
unreachable-requires-in-Ended-Text c =
    let st = stands c.self.inside.limits c.self.inside.part (string_bytes c.self.inside.text) (string_capacity c.self.inside.text) c.self.inside.machine c.self.inside.headers c.args.self.now c.self.view_is c.requires.reading c.self.invariant in
    emits_no_end c.self.inside.limits (string_bytes c.self.inside.text) (string_capacity c.self.inside.text) c.self.inside.machine c.push.new.self c.self.inside.headers c.args.c (IsUtf8-string_bytes c.self.inside.text) c.ranges.c.0 st.reads c.in-Ended-Text.field-0-0 c.in-Ended-Text.field-0-1 (sym c.in-Ended-Text.ensures.pushes ∙ ap (λ (x : HeaderEnding). (c.push.new.self, Ended x)) c.in-Ended-Text.field-0-is)

pub returns-in-Some : goal.returns-in-Some
returns-in-Some c =
    let st = stands c.self.inside.limits c.self.inside.part (string_bytes c.self.inside.text) (string_capacity c.self.inside.text) c.self.inside.machine c.self.inside.headers c.args.self.now c.self.view_is c.requires.reading c.self.invariant in
    let on = reads_on c.self.inside.limits (string_bytes c.self.inside.text) (string_capacity c.self.inside.text) c.self.inside.machine c.push.new.self c.self.inside.headers c.args.c (IsUtf8-string_bytes c.self.inside.text) c.ranges.c.0 st.reads (Some c.in-Some.event) c.push.ensures.bounds (sym c.in-Read.ensures.pushes ∙ ap (λ (e : Option HeaderEvent). (c.push.new.self, Read e)) c.in-Some.is) in
    record {
      state = state_on c.self.inside.limits c.self.inside.part (string_bytes c.self.inside.text) (string_bytes c.push-in-Read.new.self) c.self.inside.headers c.take_event-found.new.headers c.args.self.now c.args.c st.part_is c.self.view_is c.take_event-found.ensures.hasher (rw c.in-Ok.ensures.bytes on.progress);
      out = out_is c.self.inside.limits c.self.inside.part (string_bytes c.self.inside.text) c.self.inside.headers c.args.self.now c.args.c (map (λ f. Found f) (found_list c.take_event-found.result)) c.args.out.now c.emit_finding.new.out st.part_is c.self.view_is (on.events ∙ (rw (← c.in-Ok.ensures.bytes, ← c.as_str.ensures.value) (ap (λ (x : List Finding). map (λ f. Found f) x) (sym c.take_event-found.ensures.found)))) c.emit_finding.ensures;
      few = few_is c.self.inside.limits c.self.inside.part (string_bytes c.self.inside.text) c.self.inside.headers c.args.self.now c.args.c (map (λ f. Found f) (found_list c.take_event-found.result)) st.part_is c.self.view_is (on.events ∙ (rw (← c.in-Ok.ensures.bytes, ← c.as_str.ensures.value) (ap (λ (x : List Finding). map (λ f. Found f) x) (sym c.take_event-found.ensures.found)))) (few_found c.take_event-found.result);
    }

pub returns-in_default-event : goal.returns-in_default-event
returns-in_default-event c =
    let st = stands c.self.inside.limits c.self.inside.part (string_bytes c.self.inside.text) (string_capacity c.self.inside.text) c.self.inside.machine c.self.inside.headers c.args.self.now c.self.view_is c.requires.reading c.self.invariant in
    let on = reads_on c.self.inside.limits (string_bytes c.self.inside.text) (string_capacity c.self.inside.text) c.self.inside.machine c.push.new.self c.self.inside.headers c.args.c (IsUtf8-string_bytes c.self.inside.text) c.ranges.c.0 st.reads None c.push.ensures.bounds (sym c.in-Read.ensures.pushes ∙ ap (λ (e : Option HeaderEvent). (c.push.new.self, Read e)) c.in_default-event.is) in
    record {
      state = state_on c.self.inside.limits c.self.inside.part (string_bytes c.self.inside.text) (string_bytes c.push-in-Read.new.self) c.self.inside.headers c.self.inside.headers c.args.self.now c.args.c st.part_is c.self.view_is refl (rw c.in-Ok.ensures.bytes on.progress);
      out = out_is c.self.inside.limits c.self.inside.part (string_bytes c.self.inside.text) c.self.inside.headers c.args.self.now c.args.c [] c.args.out.now c.args.out.now st.part_is c.self.view_is on.events (nothing_added c.args.out.now);
      few = few_is c.self.inside.limits c.self.inside.part (string_bytes c.self.inside.text) c.self.inside.headers c.args.self.now c.args.c [] st.part_is c.self.view_is on.events (omega arith);
    }

pub returns-in-Ok-score_len : goal.returns-in-Ok-score_len
returns-in-Ok-score_len c =
    let st = stands c.self.inside.limits c.self.inside.part (string_bytes c.self.inside.text) (string_capacity c.self.inside.text) c.self.inside.machine c.self.inside.headers c.args.self.now c.self.view_is c.requires.reading c.self.invariant in
    let emits = emits_whole c.self.inside.limits (string_bytes c.self.inside.text) (string_capacity c.self.inside.text) c.self.inside.machine c.push.new.self c.self.inside.headers c.args.c (IsUtf8-string_bytes c.self.inside.text) c.ranges.c.0 st.reads c.in-Ended-Score.place c.in-Ended-Score.field-0-1 c.in-Ended-Score.open_line c.in-Ok-score_len.size (sym c.in-Ended-Score.ensures.pushes ∙ ap (λ (x : HeaderEnding). (c.push.new.self, Ended x)) c.in-Ended-Score.field-0-is) (rw (← c.as_str-text.ensures.value, ← c.in-Ended-Score.place-is, ← c.in-Ended-Score.open_line-is) (sym c.in-Ok-score_len.ensures)) in
    record {
      state = state_after c.self.inside.limits c.self.inside.part (string_bytes c.self.inside.text) c.self.inside.headers c.args.self.now c.args.c st.part_is c.self.view_is emits.progress_is;
      out = out_is c.self.inside.limits c.self.inside.part (string_bytes c.self.inside.text) c.self.inside.headers c.args.self.now c.args.c (map (λ f. Found f) (name_found c.in-Ended-Score.place (spelled_entries (string_bytes c.self.inside.text) c.self.inside.headers.0)) ++ event_of_book (spelled_entries (string_bytes c.self.inside.text) c.self.inside.headers.0) ∷ []) c.args.out.now c.emit_heads.new.out st.part_is c.self.view_is emits.events_are (rw (← c.in-Ended-Score.place-is, ← c.as_str-text.ensures.value, ← c.of.ensures) c.emit_heads.ensures);
      few = few_is c.self.inside.limits c.self.inside.part (string_bytes c.self.inside.text) c.self.inside.headers c.args.self.now c.args.c (map (λ f. Found f) (name_found c.in-Ended-Score.place (spelled_entries (string_bytes c.self.inside.text) c.self.inside.headers.0)) ++ event_of_book (spelled_entries (string_bytes c.self.inside.text) c.self.inside.headers.0) ∷ []) st.part_is c.self.view_is emits.events_are (few_heads c.in-Ended-Score.place (spelled_entries (string_bytes c.self.inside.text) c.self.inside.headers.0) (event_of_book (spelled_entries (string_bytes c.self.inside.text) c.self.inside.headers.0)));
    }

pub returns-in-Err : goal.returns-in-Err
returns-in-Err c =
    let st = stands c.self.inside.limits c.self.inside.part (string_bytes c.self.inside.text) (string_capacity c.self.inside.text) c.self.inside.machine c.self.inside.headers c.args.self.now c.self.view_is c.requires.reading c.self.invariant in
    let emits = emits_stop c.self.inside.limits (string_bytes c.self.inside.text) (string_capacity c.self.inside.text) c.self.inside.machine c.push.new.self c.self.inside.headers c.args.c (IsUtf8-string_bytes c.self.inside.text) c.ranges.c.0 st.reads c.in-Ended-Score.place c.in-Ended-Score.field-0-1 c.in-Ended-Score.open_line c.in-Err.fault (sym c.in-Ended-Score.ensures.pushes ∙ ap (λ (x : HeaderEnding). (c.push.new.self, Ended x)) c.in-Ended-Score.field-0-is) (rw (← c.as_str-text.ensures.value, ← c.in-Ended-Score.place-is, ← c.in-Ended-Score.open_line-is) (sym c.in-Err.ensures)) in
    record {
      state = state_over c.self.inside.limits c.self.inside.part (string_bytes c.self.inside.text) c.self.inside.headers c.args.self.now c.stop.new.self c.args.c st.part_is c.self.view_is emits.progress_is c.stop.ensures.state;
      out = out_is c.self.inside.limits c.self.inside.part (string_bytes c.self.inside.text) c.self.inside.headers c.args.self.now c.args.c (Stop c.in-Err.fault ∷ []) c.args.out.now c.stop.new.out st.part_is c.self.view_is emits.events_are c.stop.ensures.out;
      few = few_is c.self.inside.limits c.self.inside.part (string_bytes c.self.inside.text) c.self.inside.headers c.args.self.now c.args.c (Stop c.in-Err.fault ∷ []) st.part_is c.self.view_is emits.events_are (omega arith);
    }

pub returns-in-Ended-Limit : goal.returns-in-Ended-Limit
returns-in-Ended-Limit c =
    let st = stands c.self.inside.limits c.self.inside.part (string_bytes c.self.inside.text) (string_capacity c.self.inside.text) c.self.inside.machine c.self.inside.headers c.args.self.now c.self.view_is c.requires.reading c.self.invariant in
    let emits = emits_limit c.self.inside.limits (string_bytes c.self.inside.text) (string_capacity c.self.inside.text) c.self.inside.machine c.push.new.self c.self.inside.headers c.args.c (IsUtf8-string_bytes c.self.inside.text) c.ranges.c.0 st.reads c.in-Ended-Limit.place (sym c.in-Ended-Limit.ensures.pushes ∙ ap (λ (x : HeaderEnding). (c.push.new.self, Ended x)) c.in-Ended-Limit.field-0-is) in
    record {
      state = state_over c.self.inside.limits c.self.inside.part (string_bytes c.self.inside.text) c.self.inside.headers c.args.self.now c.stop-in-Ended-Limit.new.self c.args.c st.part_is c.self.view_is emits.progress_is c.stop-in-Ended-Limit.ensures.state;
      out = out_is c.self.inside.limits c.self.inside.part (string_bytes c.self.inside.text) c.self.inside.headers c.args.self.now c.args.c (Stop (record { place = c.in-Ended-Limit.place; code = F4 }) ∷ []) c.args.out.now c.stop-in-Ended-Limit.new.out st.part_is c.self.view_is emits.events_are (rw (← c.in-Ended-Limit.place-is) c.stop-in-Ended-Limit.ensures.out);
      few = few_is c.self.inside.limits c.self.inside.part (string_bytes c.self.inside.text) c.self.inside.headers c.args.self.now c.args.c (Stop (record { place = c.in-Ended-Limit.place; code = F4 }) ∷ []) st.part_is c.self.view_is emits.events_are (omega arith);
    }
