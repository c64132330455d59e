use Rattle.gabc_headers.specs.Book.{nabc_lines_of, macros_of}
use Rattle.gabc_body.specs.Events.{texts_by_definition}
use Rattle.gabc_body.specs.SyllablesOfUnits.{body_characters}
use Rattle.gabc_body.proofs.stopped_scores.WholePrefixesAreFronts.{prefix_is_front}
use Rattle.gabc_body.proofs.laws.whole_prefixes_are_first_characters.Goals as goal

pub returns : goal.returns
returns c book t cut n is_cut =
    let characters = c.the_syllables_are_those_of_the_units.ensures.characters texts_by_definition (nabc_lines_of book) (macros_of book) (body_characters t) cut is_cut in
    prefix_is_front t cut n characters
