use Rattle.gabc_body.proofs.units.UnitsEndAtMarks.{units_end, units_single}
use Rattle.std.proofs.Common.{refl}
use Rattle.gabc_body.proofs.laws.units_end_at_their_marks.Goals as goal

pub returns-clause-marks : goal.returns-clause-marks
returns-clause-marks c = units_end c.a_text_ends_once.ensures

pub returns-clause-single : goal.returns-clause-single
returns-clause-single c macros xs cut h =
    units_single c.a_text_ends_once.ensures 0 macros xs cut refl h
