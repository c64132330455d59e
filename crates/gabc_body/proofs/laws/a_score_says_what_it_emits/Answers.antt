use Rattle.gabc_body.proofs.score_events.ScoreOutputs.{findings_are, syllables_are, fault_is, end_is}
use Rattle.gabc_body.proofs.laws.a_score_says_what_it_emits.Goals as goal

pub returns : goal.returns
returns c = record { findings = findings_are; syllables = syllables_are; fault = fault_is; end = end_is }
