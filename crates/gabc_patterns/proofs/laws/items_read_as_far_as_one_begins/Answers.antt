use Rattle.gabc_patterns.proofs.RowsAfterACharacter.{none_ends}
use Rattle.gabc_patterns.proofs.ItemsAsFarAsOneBegins.{items_read_on, one_read_on, reading_read_on, read_to_the_end}
use Rattle.gabc_patterns.proofs.laws.items_read_as_far_as_one_begins.Goals as goal

pub returns : goal.returns
returns g c = record {
  items = λ rows h. items_read_on rows (none_ends rows h);
  one = λ rows h. one_read_on rows (none_ends rows h);
  snippet = λ rows h is t. (reading_read_on rows (none_ends rows h) is t, read_to_the_end rows is t);
}
