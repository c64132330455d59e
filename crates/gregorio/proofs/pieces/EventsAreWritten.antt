-- What follows for a writer that takes events one after the other.
use Rattle.std.proofs.Common.{◌≡◌, ℕ, List, [], ◌∷◌, ◌++◌, length, drop, slice_index_or, ◌+◌, ◌<◌, Bool, false, ◌||◌, ◌&&◌, refl, ap, sym, subst, ◌∙◌, add-one, drop-cons, arith}
use Rattle.std.proofs.lemmas.Bool.{or_parts}
use Rattle.std.proofs.Math.Bool.{or-false}
use Rattle.gabc_headers.specs.declared.head_event.HeadEvent.{HeadEvent}
use Rattle.gabc_body.specs.ScoreEvents.{ScoreOutput}
use Rattle.gabc_score.specs.witness.ScoreStage.{left_of}
use Rattle.gabc_headers.proofs.stages.CharactersOfAStage.{nothing_added}
use Rattle.gabc_score.proofs.score_events.OutputsOfLentSyllables.{then_more}
use Rattle.gregorio.specs.Streams.{Streams, after_bytes}
use Rattle.gregorio.specs.witness.Engine.{Written, is_before_heads, is_heads, lines_of_outputs, streams_from, text_of_heads, texts_of_outputs, writes_heads}
use Rattle.gregorio.specs.machine.InStep.{PassesAll, TakesEvent, TakesEvents, written_at}
use Rattle.gregorio.specs.machine.RunWriter.{RunWriterState, heads_at}
use Rattle.gregorio.specs.machine.ScoreWriter.{ScoreWriterState, FitsEvents, IsBookAt, KeepsJobAndRooms, WritesAt, streams_of}
use Rattle.gregorio.specs.machine.Engine.{WritesAll, headed_past}
use Rattle.gregorio.proofs.StreamsOfOutputs.{headed_stays}
use Rattle.gregorio.proofs.pieces.RoomIsLeft.{room_for_first}
use Rattle.gregorio.proofs.pieces.BytesAreJoined.{with_both_after}
use Rattle.gregorio.proofs.pieces.WriterKeepsPaceWithScore.{not_written, steady_past}

-- ---- an event

-- no headers are written at an event that is not theirs
pub takes_other : (old new : ScoreWriterState) (x : HeadEvent) → is_heads x ≡ false → TakesEvent old.score old.writer x new → TakesEvent old.score (heads_at old.writer x []) x new
takes_other old new x none takes = subst (λ (w : RunWriterState). TakesEvent old.score w x new) (sym (not_written old.writer x [] none)) takes

same_text : (x : HeadEvent) (w : Written) (book read : List (List ℕ × List ℕ)) → IsBookAt x book read → text_of_heads w book (writes_heads w x) ≡ text_of_heads w read (writes_heads w x)
same_text x w book read same = grind arith

module _ (x : HeadEvent) (read : List (List ℕ × List ℕ)) (old new : ScoreWriterState) (t : TakesEvent old.score (heads_at old.writer x read) x new) where
  pub steady_event : KeepsJobAndRooms old new
  steady_event =
      steady_past old new (heads_at old.writer x read) t.passes.outputs (record { limits = t.passes.tells.limits; format = refl; name = refl; all_warnings = refl; out = refl; messages = refl }) t.writer

  pub writes_event : WritesAt old x read new
  writes_event =
      let w = old.writer.written in
      let v = written_at w x in
      let outputs = t.passes.outputs in
      let heads = text_of_heads w read (writes_heads w x) in
      let texts = texts_of_outputs v outputs in
      let lines = lines_of_outputs v outputs in
      record {
        output = heads ++ texts;
        lines = lines;
        out = then_more old.writer.out (heads_at old.writer x read).out new.writer.out heads texts refl (ap (λ (u : RunWriterState). u.out) t.writer);
        messages = ap (λ (u : RunWriterState). u.messages) t.writer;
        law = λ book from_heads same.
            ap (λ (lists : List (List ScoreOutput)). streams_from w book (x ∷ from_heads) lists) (t.law from_heads)
            ∙ (λ i. after_bytes (same_text x w book read same i ++ texts) lines (streams_from (sym t.passes.written i) book from_heads (left_of new.score from_heads)));
      }

-- ---- events

pub steady_both : (old mid new : ScoreWriterState) → KeepsJobAndRooms old mid → KeepsJobAndRooms mid new → KeepsJobAndRooms old new
steady_both old mid new a b = grind arith

pub steady_all : (events : List HeadEvent) (read : List (List ℕ × List ℕ)) (old new : ScoreWriterState) → TakesEvents old events read new → KeepsJobAndRooms old new
steady_all [] read old new all = subst (λ (s : ScoreWriterState). KeepsJobAndRooms old s) all (record { limits = refl; format = refl; name = refl; all_warnings = refl; out = refl; messages = refl })
steady_all (x ∷ events) read old new all = steady_both old all.0 new (steady_event x read old all.0 all.1.0) (steady_all events read all.0 new all.1.1)

pub passes_all : (events : List HeadEvent) (read : List (List ℕ × List ℕ)) (old new : ScoreWriterState) → TakesEvents old events read new → PassesAll old events new
passes_all [] read old new all = all
passes_all (x ∷ events) read old new all = (all.0, (all.1.0.passes, passes_all events read all.0 new all.1.1))

writes_none : (w : ScoreWriterState) (read : List (List ℕ × List ℕ)) → WritesAll w [] read w
writes_none w read = record {
  output = [];
  lines = [];
  out = nothing_added w.writer.out;
  messages = nothing_added w.writer.messages;
  law = λ book from_heads same. refl;
}

writes_next : (x : HeadEvent) (events : List HeadEvent) (read : List (List ℕ × List ℕ)) (old mid new : ScoreWriterState) → WritesAt old x read mid → WritesAll mid events read new → WritesAll old (x ∷ events) read new
writes_next x events read old mid new a b = record {
  output = a.output ++ b.output;
  lines = a.lines ++ b.lines;
  out = then_more old.writer.out mid.writer.out new.writer.out a.output b.output a.out b.out;
  messages = then_more old.writer.messages mid.writer.messages new.writer.messages a.lines b.lines a.messages b.messages;
  law = λ book from_heads same. a.law book (events ++ from_heads) same.0
      ∙ (ap (λ (s : Streams). after_bytes a.output a.lines s) (b.law book from_heads same.1)
      ∙ sym (with_both_after a.output a.lines b.output b.lines (streams_of new book from_heads)));
}

pub writes_all : (events : List HeadEvent) (read : List (List ℕ × List ℕ)) (old new : ScoreWriterState) → TakesEvents old events read new → WritesAll old events read new
writes_all [] read old new all = subst (λ (s : ScoreWriterState). WritesAll old [] read s) all (writes_none old read)
writes_all (x ∷ events) read old new all = writes_next x events read old all.0 new (writes_event x read old all.0 all.1.0) (writes_all events read all.0 new all.1.1)

-- if the headers are not written at an event, and none come after it
unheaded_later : (headed before heads later now : Bool) → now ≡ (headed || (heads && before)) → (headed || (heads || later)) ≡ false → (now || later) ≡ false
unheaded_later headed before heads later now is h = grind (arith, or_parts)

pub unheaded_all : (events : List HeadEvent) (old new : ScoreWriterState) → PassesAll old events new → headed_past old.writer.written.headed events ≡ false → new.writer.written.headed ≡ false
unheaded_all [] old new all none = ap (λ (s : ScoreWriterState). s.writer.written.headed) (sym all) ∙ (sym (or-false old.writer.written.headed) ∙ none)
unheaded_all (x ∷ events) old new all none =
    let w = old.writer.written in
    let p = all.1.0 in
    unheaded_all events all.0 new all.1.1
    (unheaded_later w.headed (is_before_heads w) (is_heads x) _ all.0.writer.written.headed (ap (λ (v : Written). v.headed) p.written ∙ headed_stays (written_at w x) p.outputs) none)

-- ---- one of a list of events, and those after it

module _ (from_heads : List HeadEvent) (i : ℕ) (d : HeadEvent) (within : i < length from_heads) where
  abbrev now : HeadEvent
  now = slice_index_or from_heads i d

  left_is : drop i from_heads ≡ now ∷ drop (i + 1) from_heads
  left_is = drop-cons from_heads i d within ∙ ap (λ (k : ℕ). now ∷ drop k from_heads) (sym (add-one i))

  pub room_now : (w : ScoreWriterState) → FitsEvents w false (drop i from_heads) → FitsEvents w false (now ∷ [])
  room_now w room = room_for_first w false now (drop (i + 1) from_heads) (subst (λ (left : List HeadEvent). FitsEvents w false left) left_is room)

  pub room_left : (w : ScoreWriterState) (ends : Bool) (events : List HeadEvent) → FitsEvents w ends (drop i from_heads ++ events) → FitsEvents w ends (now ∷ (drop (i + 1) from_heads ++ events))
  room_left w ends events room = subst (λ (left : List HeadEvent). FitsEvents w ends (left ++ events)) left_is room

  pub takes_left : (read : List (List ℕ × List ℕ)) (old mid new : ScoreWriterState) → TakesEvent old.score (heads_at old.writer now read) now mid → TakesEvents mid (drop (i + 1) from_heads) read new
      → TakesEvents old (drop i from_heads) read new
  takes_left read old mid new t all = subst (λ (left : List HeadEvent). TakesEvents old left read new) (sym left_is) (mid, (t, all))
