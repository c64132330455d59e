-- A run ends by its input: it was whole or had errors, a fault stopped it, or its source failed.
use Rattle.std.proofs.Common.{ℕ, List, [], ◌∷◌, drop, arith}
use Rattle.gabc_places.specs.StageLaw.{concat_of}
use Rattle.gabc_headers.specs.declared.head_event.HeadEvent.{HeadEvent}
use Rattle.gabc_body.specs.ScoreEvents.{ScoreOutput}
use Rattle.gregorio.specs.declared.run_ending.RunEnding.{RunEnding}
use Rattle.gregorio.specs.declared.source_ending.SourceEnding.{SourceEnding}
use Rattle.gregorio.specs.Engine.{EndsByInput}
use Rattle.gregorio.specs.witness.Engine.{EngineState, Written, after_heads, after_outputs, ceased_ending, first_list, status_of_ending, streams_from, streams_left, writes_heads}

ended_so : (how : RunEnding) → EndsByInput (status_of_ending how)
ended_so how = grind arith

ends : (w : Written) (book : List (List ℕ × List ℕ)) (from_heads : List HeadEvent) (lists : List (List ScoreOutput)) → EndsByInput (streams_from w book from_heads lists).status
ends w book [] lists = ended_so (ceased_ending (after_outputs w (concat_of lists)).ended)
ends w book (x ∷ from_heads) lists = ends (after_outputs (after_heads w (writes_heads w x)) (first_list lists)) book from_heads (drop 1 lists)

pub ends_by_input : (e : EngineState) (ending : SourceEnding) (bytes : List ℕ) → EndsByInput (streams_left e ending bytes).status
ends_by_input e ending bytes = grind (arith, ends)
