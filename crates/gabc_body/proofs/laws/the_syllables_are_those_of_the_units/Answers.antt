use Rattle.std.proofs.Common.{◌-◌, length, sym, subst, ◌∙◌}
use Rattle.gabc_headers.specs.Book.{nabc_lines_of}
use Rattle.gabc_body.specs.SyllablesOfUnits.{AreSyllablesOf, score_units, units_within}
use Rattle.gabc_body.specs.declared.ending.InputEnding.TheVariants.{Whole}
use Rattle.gabc_body.proofs.score_events.PlainScores.{alike}
use Rattle.gabc_body.proofs.syllables_of_units.UnitsGiveSyllables.{body_is_units}
use Rattle.gabc_body.proofs.stopped_scores.StoppedScores.{stopped_syllables, stop_stands}
use Rattle.gabc_body.proofs.stopped_scores.WholeScores.{whole_syllables}
use Rattle.gabc_body.proofs.laws.the_syllables_are_those_of_the_units.Goals as goal

pub returns-clause-characters : goal.returns-clause-characters
returns-clause-characters c = body_is_units

pub returns-clause-whole : goal.returns-clause-whole
returns-clause-whole c limits t book cut short b h none =
    let a = alike limits Whole t in
    subst (AreSyllablesOf (nabc_lines_of book) (score_units cut.units)) (sym a.syllables)
    (whole_syllables c.a_text_ends_once.ensures c.events_build_the_text.ensures.events c.spans_stand_for_the_view.ensures.view c.events_by_point_are_the_events.ensures.joined limits t book cut short
    (sym a.book ∙ b) h (sym a.fault ∙ none))

pub returns-clause-stopped : goal.returns-clause-stopped
returns-clause-stopped c limits ending t book cut n short b h stands some =
    let a = alike limits ending t in
    subst (AreSyllablesOf (nabc_lines_of book) (units_within (n - length cut.comment) cut.units)) (sym a.syllables)
    (stopped_syllables c.a_text_ends_once.ensures c.events_build_the_text.ensures.events c.spans_stand_for_the_view.ensures.view c.events_by_point_are_the_events.ensures.joined limits ending t book cut n short
    (sym a.book ∙ b) h stands (λ w. some (w.0, a.fault ∙ w.1)))

pub returns-clause-stop : goal.returns-clause-stop
returns-clause-stop c = stop_stands
