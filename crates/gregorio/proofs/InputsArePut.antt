-- What an engine writes of an input in memory is put as it comes.
use Rattle.std.proofs.Common.{◌≡◌, ℕ, ◌+◌, List, [], ◌++◌, take, drop, take-append-drop, append_assoc, false, refl, sym, ap, ◌∙◌, arith}
use Rattle.std.proofs.lemmas.List.{drop-drop}
use Rattle.gabc_places.specs.declared.limits.Limits.{Limits}
use Rattle.gregorio_jobs.specs.declared.job.Job.{Job}
use Rattle.gregorio.specs.declared.source_ending.SourceEnding.{SourceEnding}
use Rattle.gregorio.specs.Engine.{NothingWaits, RunsJob, is_running, with_waiting}
use Rattle.gregorio.specs.witness.Engine.{EngineState, streams_left}
use Rattle.gregorio.specs.Streams.{Streams, TakeTheSame, after_bytes}
use Rattle.gregorio.proofs.PiecesAreSent.{IsTaken}

-- what is left of an input, once an engine took n bytes more
pub left_past : (e f g : EngineState) (input : List ℕ) (count k : ℕ) → IsTaken e f (take k (drop count input)) → g ≡ record f { output = []; messages = [] }
    → (ending : SourceEnding) (more : List ℕ) → streams_left e ending (drop count input ++ more) ≡ after_bytes f.output f.messages (streams_left g ending (drop (count + k) input ++ more))
left_past e f g input count k law forgets ending more =
    let rest : List ℕ = drop count input in
    ap (λ (l : List ℕ). streams_left e ending (l ++ more)) (sym (take-append-drop k rest))
    ∙ (ap (streams_left e ending) (append_assoc (take k rest) (drop k rest) more)
    ∙ (law (drop k rest ++ more) ending
    ∙ (ap (λ (l : List ℕ). with_waiting f (streams_left f ending (l ++ more))) (drop-drop k count input)
    ∙ ap (λ (s : EngineState). after_bytes f.output f.messages (streams_left s ending (drop (count + k) input ++ more))) (sym forgets))))

-- an engine in which nothing waits stays as it is if what waits is forgotten
forgets_nothing : (e f : EngineState) → NothingWaits e → f ≡ record e { output = []; messages = [] } → f ≡ e
forgets_nothing e f waits forgets = grind arith

-- an engine that was over, and stood as it did, stands so after a piece
pub still_over : (e f g h : EngineState) → f ≡ e → is_running e ≡ false → NothingWaits f → (is_running f ≡ false → g ≡ f) → h ≡ record g { output = []; messages = [] } → h ≡ e
still_over e f g h same over waits takes forgets =
    let stays : g ≡ f = takes (ap (λ (x : EngineState). is_running x) same ∙ over) in
    forgets_nothing f h waits (forgets ∙ ap (λ (x : EngineState). record x { output = []; messages = [] }) stays) ∙ same

-- what waits is none of its job
pub runs_where_taken : (f g : EngineState) (job : Job) (limits : Limits) → g ≡ record f { output = []; messages = [] } → RunsJob job limits f → RunsJob job limits g
runs_where_taken f g job limits forgets runs = grind arith

module _ {A B : Type 0} (takes : A → List ℕ → A) (takes_too : B → List ℕ → B) where
  pub nothing_taken : (o : A) (m : B) (s : Streams) → TakeTheSame takes takes_too o m s o m s
  nothing_taken o m s = record { output = refl; lines = refl; status = refl; fault = refl }

  module _ (both : (s : A) (a b : List ℕ) → takes (takes s a) b ≡ takes s (a ++ b)) (both_too : (s : B) (a b : List ℕ) → takes_too (takes_too s a) b ≡ takes_too s (a ++ b)) where
    -- they took what stands before the rest
    pub more_taken : (o p q : A) (m n r : B) (s t u : Streams) (output lines : List ℕ) → TakeTheSame takes takes_too o m s p n t → t ≡ after_bytes output lines u
        → q ≡ takes p output → r ≡ takes_too n lines → TakeTheSame takes takes_too o m s q r u
    more_taken o p q m n r s t u output lines h parts i j = grind arith
