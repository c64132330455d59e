use Rattle.std.proofs.Common.{◌∙◌, ap}
use Rattle.clap.specs.Words.{found_of}
use Rattle.gregorio_jobs.specs.Wants.{is_from_words}
use Rattle.gregorio_jobs.proofs.answers.ArgumentsByRows.{is_used-rows}
use Rattle.gregorio_jobs.proofs.wanted.is_used.Goals as goal

pub returns : goal.returns
returns c = c.is_from_words.ensures ∙ (ap is_from_words c.value_source.ensures ∙ is_used-rows (found_of c.args.matches.now) c.args.id.now)
