use Rattle.std.specs.Prelude.{◌==◌}
use Rattle.gabc_score.specs.ScoreReports.{held_of}
use Rattle.gabc_write.proofs.reading_again.EquivalentSyllablesHaveSameOutput.{written_alike}
use Rattle.gabc_write.proofs.saved_alike.what_goes_on_alike_is_written_alike.Goals as goal

pub returns : goal.returns
returns c = λ one other stands too alike.
    written_alike c.snippets_of_a_unit_stand_between_characters.ensures c.held_syllables_that_say_the_same_have_one_dump.ensures (one.before.syllables == 0) one.body.nabc_lines other.body.nabc_lines
    (held_of one) (held_of other) (c.what_is_held_holds_a_unit.ensures one stands) (c.what_is_held_holds_a_unit.ensures other too) alike.held alike.says
