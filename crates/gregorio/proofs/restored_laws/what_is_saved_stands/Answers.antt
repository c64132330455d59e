use Rattle.std.proofs.Common.{refl, sym, ◌∙◌}
use Rattle.gregorio.specs.Saved.{state_of}
use Rattle.gregorio.proofs.restored_laws.what_is_saved_stands.Goals as goal

pub returns-clause-stands : goal.returns-clause-stands
returns-clause-stands c = record {
  engine = c.args.engine.now;
  may = c.an_engine_may_run.ensures;
  of_job = c.requires.job;
  saved = c.requires.saved;
  is_state = c.what_is_saved_is_a_state.ensures;
  writes = λ ending more. refl;
}

pub returns-clause-alone : goal.returns-clause-alone
returns-clause-alone c = λ left stands ending more.
    c.engines_that_save_the_same_agree.ensures c.args.engine.now stands.engine c.an_engine_may_run.ensures stands.may (c.requires.job.name ∙ sym stands.of_job.name)
    (c.bytes_are_of_one_state.ensures (state_of c.args.engine.now) (state_of stands.engine) c.what_is_saved_is_a_state.ensures.fields stands.is_state.fields c.requires.saved stands.saved)
    ending more
    ∙ stands.writes ending more
