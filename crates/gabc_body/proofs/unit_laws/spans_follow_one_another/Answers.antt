use Rattle.gabc_body.proofs.syllables_of_units.SpansFollowOneAnother.{first_follows, next_follows}
use Rattle.gabc_body.proofs.unit_laws.spans_follow_one_another.Goals as goal

pub returns-clause-first : goal.returns-clause-first
returns-clause-first c lines units syllables after s are e = first_follows lines units syllables are s after e

pub returns-clause-next : goal.returns-clause-next
returns-clause-next c lines units syllables before after s next are e = next_follows lines units syllables are before after s next e
