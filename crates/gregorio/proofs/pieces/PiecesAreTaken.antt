-- What an engine takes of a piece, one part after the other.
use Rattle.std.proofs.Common.{◌≡◌, ℕ, ◌+◌, ◌-◌, ◌<◌, List, [], ◌∷◌, ◌++◌, length, take, drop, get_or, length-take, length-drop, take-add, drop-cons, true, refl, ap, sym, subst, ◌∙◌, arith}
use Rattle.gregorio_jobs.specs.declared.job.Status.TheVariants.{ReadFault}
use Rattle.gabc_places.specs.BoundedList.{BoundedList}
use Rattle.gabc_places.specs.DecoderMachine.{DecoderState}
use Rattle.gabc_headers.specs.declared.head_event.HeadEvent.{HeadEvent}
use Rattle.gabc_headers.specs.witness.HeadEvents.{HeaderStageState}
use Rattle.gregorio.specs.Engine.{is_running}
use Rattle.gregorio.specs.Streams.{Streams}
use Rattle.gregorio.specs.declared.source_ending.SourceEnding.TheVariants.{Broken}
use Rattle.gregorio.specs.witness.Engine.{EngineState, streams_left}
use Rattle.gregorio.specs.machine.Engine.{IsEngine, LeavesRoom, MayRead}
use Rattle.gregorio.specs.machine.ScoreWriter.{ScoreWriterState}
use Rattle.gregorio.specs.machine.Taking.{Takes, TakesFrom}
use Rattle.gregorio.proofs.pieces.BytesAreTaken.{brings_both, front_of_front}
use Rattle.gregorio.proofs.pieces.NothingIsKeptBack.{ends_further}
use Rattle.gregorio.proofs.pieces.RoomIsLeft.{room_where_few_wait}
use Rattle.gregorio.proofs.pieces.SavedInHeaders.{shown}
use Rattle.gregorio.proofs.pieces.ScoreStaysInSync.{in_heads_yet}

-- ---- bytes

pub takes_none : (s : EngineState) → Takes s [] s
takes_none s = record { brings = λ more ending. refl; format = refl; job = λ job limits runs. runs; hasher = refl }

takes_both : (old mid new : EngineState) (xs ys : List ℕ) → Takes old xs mid → Takes mid ys new → Takes old (xs ++ ys) new
takes_both old mid new xs ys first next = record {
  brings = brings_both old mid new xs ys first.brings next.brings;
  format = next.format ∙ first.format;
  job = λ job limits runs. next.job job limits (first.job job limits runs);
  hasher = next.hasher ∙ first.hasher;
}

pub takes_more : (old mid new : EngineState) (piece : List ℕ) (count more : ℕ) → Takes old (take count piece) mid → Takes mid (take more (drop count piece)) new → Takes old (take (count + more) piece) new
takes_more old mid new piece count more first next =
    subst (λ (xs : List ℕ). Takes old xs new) (sym (take-add count more piece)) (takes_both old mid new (take count piece) (take more (drop count piece)) first next)

-- the next byte of a piece
pub next_byte : (old new : EngineState) (piece : List ℕ) (count : ℕ) → count < length piece → Takes old (get_or piece count 0 ∷ []) new → Takes old (take 1 (drop count piece)) new
next_byte old new piece count more = subst (λ (xs : List ℕ). Takes old xs new) (sym (ap (λ (xs : List ℕ). take 1 xs) (drop-cons piece count 0 more)))

-- ---- the front of a piece

pub none_taken : (s : EngineState) (piece : List ℕ) → is_running s ≡ true → TakesFrom s piece 0 s
none_taken s piece runs = record { within = omega arith; takes = takes_none s; fault = λ over. absurd (cc (sym over ∙ runs)) }

-- before one byte no fault is known
pub byte_taken_from : (old new : EngineState) (piece : List ℕ) (count : ℕ) → count < length piece → (is_running old ≡ true → (streams_left old Broken []).status ≡ ReadFault) → is_running old ≡ true
    → Takes old (get_or piece count 0 ∷ []) new → TakesFrom old (drop count piece) 1 new
byte_taken_from old new piece count more broken runs takes = record {
  within = omega (arith, more, length-drop count piece);
  takes = next_byte old new piece count more takes;
  fault = λ over. broken runs;
}

-- after nothing
pub taken_after_none : (old mid new : EngineState) (piece : List ℕ) (count : ℕ) → Takes old [] mid → TakesFrom mid piece count new → TakesFrom old piece count new
taken_after_none old mid new piece count none next = record {
  within = next.within;
  takes = takes_both old mid new [] (take count piece) none next.takes;
  fault = λ over. ap (λ (s : Streams). s.status) (none.brings (take (count - 1) piece) Broken) ∙ next.fault over;
}

pub taken_further : (old mid new : EngineState) (piece : List ℕ) (count more : ℕ) → TakesFrom old piece count mid → 0 < more → TakesFrom mid (drop count piece) more new → TakesFrom old piece (count + more) new
taken_further old mid new piece count more first some next = record {
  within = omega (arith, first.within, next.within, length-drop count piece);
  takes = takes_more old mid new piece count more first.takes next.takes;
  fault = λ over. ends_further old mid piece count more first.takes.brings some (next.fault over);
}

-- what is taken of a front of a piece is taken of the piece
pub taken_of_front : (old new : EngineState) (piece : List ℕ) (most count : ℕ) → TakesFrom old (take most piece) count new → TakesFrom old piece count new
taken_of_front old new piece most count front = grind (arith, length-take, front_of_front)

-- ---- an item may be read

pub may_read : (d : DecoderState) (h : HeaderStageState) (from_heads : BoundedList HeadEvent) (w : ScoreWriterState) (e : EngineState) → IsEngine d h from_heads w → shown d h w ≡ e → LeavesRoom e → MayRead h from_heads w
may_read d h from_heads w e is shows few = grind (arith, room_where_few_wait, in_heads_yet)
