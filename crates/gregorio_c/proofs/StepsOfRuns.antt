-- What a step makes of an engine that stands after a state.
use Rattle.std.proofs.Common.{◌≡◌, ℕ, List, [], ◌++◌, Option, append-nil, refl, sym, ap, subst, ◌∙◌, arith}
use Rattle.gabc_places.specs.declared.code.Fault.{Fault}
use Rattle.gabc_places.specs.declared.limits.Limits.{Limits}
use Rattle.gregorio_jobs.specs.declared.job.Job.{Job}
use Rattle.gregorio_jobs.specs.declared.job.Status.{Status}
use Rattle.gregorio_jobs.specs.Status.{code_of}
use Rattle.gregorio.specs.declared.source_ending.SourceEnding.{SourceEnding}
use Rattle.gregorio.specs.declared.source_ending.SourceEnding.TheVariants.{Broken}
use Rattle.gregorio.specs.Engine.{EndsByInput}
use Rattle.gregorio.specs.Streams.{Streams, after_bytes, ended_with}
use Rattle.gregorio.specs.witness.StandsFor.{StandsFor}
use Rattle.gregorio_c.specs.Steps.{Begins, Ends, Feeds, GoesOn, IsStopped, Made, Writes, goes_on, run_of}
use Rattle.gregorio_c.specs.machine.Steps.{EndedAs, FedAs, StandsAlone}

-- no run ends with the number of one that goes on
no_end : (status : Status) → code_of status ≡ goes_on → ⊥
no_end status e = grind arith

-- the last bytes of a run that is over
last_is : (output lines : List ℕ) (status : Status) (fault : Option Fault) → after_bytes output lines (ended_with status fault) ≡ record { output = output; messages = lines; status = status; fault = fault }
last_is output lines status fault = grind (arith, append-nil)

-- ---- what is made of an engine

pub ended : (ending : SourceEnding) (left : Writes) (made : Made) (status : Status) (fault : Option Fault) (output lines : List ℕ) → made ≡ record { output = output; lines = lines; state = []; number = code_of status }
    → left ending [] ≡ after_bytes output lines (ended_with status fault) → EndsByInput (left ending []).status → EndedAs ending left made
ended ending left made status fault output lines is law by_input =
    subst (EndedAs ending left) (sym is) (record {
      status = status;
      fault = fault;
      over = record { number = refl; by_input = subst EndsByInput (ap (λ (s : Streams). s.status) law) by_input; no_state = refl };
      law = law ∙ last_is output lines status fault;
    })

pub stopped : (job : Job) (limits : Limits) (left rest : Writes) (piece : List ℕ) (made : Made) (status : Status) (fault : Option Fault) (output lines : List ℕ) → made ≡ record { output = output; lines = lines; state = []; number = code_of status }
    → ((ending : SourceEnding) (more : List ℕ) → left ending (piece ++ more) ≡ after_bytes output lines (rest ending more)) → ((more : List ℕ) (ending : SourceEnding) → rest ending more ≡ ended_with status fault)
    → EndsByInput (left Broken (piece ++ [])).status → FedAs job limits left piece made
stopped job limits left rest piece made status fault output lines is law over by_input =
    subst (FedAs job limits left piece) (sym is) (record {
      on = λ number. absurd (no_end status number);
      over = λ number. record {
        status = status;
        fault = fault;
        over = record {
          number = refl;
          by_input = subst EndsByInput (ap (λ (s : Streams). s.status) (law Broken [] ∙ ap (after_bytes output lines) (over [] Broken))) by_input;
          no_state = refl;
        };
        law = λ ending more. law ending more ∙ (ap (after_bytes output lines) (over more ending) ∙ last_is output lines status fault);
      };
    })

pub goes_on_so : (job : Job) (limits : Limits) (left : Writes) (piece : List ℕ) (made : Made) → made.number ≡ goes_on → GoesOn job limits left piece made → FedAs job limits left piece made
goes_on_so job limits left piece made is g = record { on = λ number. g; over = λ number. absurd (number is) }

-- ---- of one that stands for the same

module _ (job : Job) (limits : Limits) (left : Writes) (other : Writes) (same : (ending : SourceEnding) (more : List ℕ) → left ending more ≡ other ending more) where
  stands_too : (bytes : List ℕ) → StandsFor job limits bytes left → StandsFor job limits bytes other
  stands_too bytes s = record {
    engine = s.engine;
    may = s.may;
    of_job = s.of_job;
    saved = s.saved;
    is_state = s.is_state;
    writes = λ ending more. s.writes ending more ∙ same ending more;
  }

  goes_on_too : (piece : List ℕ) (made : Made) → GoesOn job limits left piece made → GoesOn job limits other piece made
  goes_on_too piece made g = grind arith

  is_stopped_too : (piece : List ℕ) (made : Made) → IsStopped left piece made → IsStopped other piece made
  is_stopped_too piece made s = grind arith

-- the first state stands for the whole run, if the engine writes that
pub begins : (job : Job) (limits : Limits) (left : Writes) (state : List ℕ) (made : Made) → made ≡ record { output = []; lines = []; state = state; number = goes_on }
    → ((more : List ℕ) (ending : SourceEnding) → left ending more ≡ run_of job limits ending more) → StandsFor job limits state left → Begins job limits made
begins job limits left state made is all s =
    subst (Begins job limits) (sym is) (record {
      number = refl;
      output = refl;
      lines = refl;
      stands = stands_too job limits left (run_of job limits) (λ ending more. all more ending) state s;
    })

pub feeds : (job : Job) (limits : Limits) (before piece : List ℕ) (left : Writes) (made : Made) → StandsAlone job limits before left → FedAs job limits left piece made → Feeds job limits before piece made
feeds job limits before piece left made a fed = record {
  left = left;
  stood = a.stands;
  on = λ number other stands. goes_on_too job limits left other (a.alone other stands) piece made (fed.on number);
  over = λ number other stands. is_stopped_too job limits left other (a.alone other stands) piece made (fed.over number);
}

pub ends : (job : Job) (limits : Limits) (ending : SourceEnding) (before : List ℕ) (left : Writes) (made : Made) → StandsAlone job limits before left → EndedAs ending left made → Ends job limits ending before made
ends job limits ending before left made a ended = record {
  left = left;
  stood = a.stands;
  status = ended.status;
  fault = ended.fault;
  over = ended.over;
  law = λ other stands. sym (a.alone other stands ending []) ∙ ended.law;
}
