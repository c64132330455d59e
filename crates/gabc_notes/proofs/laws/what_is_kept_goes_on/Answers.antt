use Rattle.std.proofs.Common.{[], refl}
use Rattle.gabc_patterns.proofs.FunctionsMeetRelations.{keep_keeps, trim_trims}
use Rattle.gabc_notes.specs.Table.{gabc}
use Rattle.gabc_notes.specs.Events.{outside_comments, with_comments, kept}
use Rattle.gabc_notes.proofs.laws.what_is_kept_goes_on.Goals as goal

pub returns : goal.returns
returns c = record { keep = λ back. keep_keeps gabc refl [] (outside_comments (with_comments back)); trim = λ mark back. trim_trims gabc refl (kept back) }
