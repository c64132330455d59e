use Rattle.gabc_text.proofs.events.TextEndsOnce.{ends_once}
use Rattle.gabc_text.proofs.laws.a_text_ends_once.Goals as goal

pub returns : goal.returns
returns c at t = ends_once at t
