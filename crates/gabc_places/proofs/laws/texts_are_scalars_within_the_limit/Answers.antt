use Rattle.gabc_places.proofs.texts.TextsAreScalars.{text_scalars, text_short}
use Rattle.gabc_places.proofs.laws.texts_are_scalars_within_the_limit.Goals as goal

pub returns-clause-scalars : goal.returns-clause-scalars
returns-clause-scalars c = text_scalars

pub returns-clause-short : goal.returns-clause-short
returns-clause-short c = text_short
