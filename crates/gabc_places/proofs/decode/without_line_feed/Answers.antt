use Rattle.gabc_places.proofs.texts.CharactersOfStrings.{chars-feed, chars-no_feed}
use Rattle.gabc_places.proofs.decode.without_line_feed.Goals as goal

pub returns-in-Some-clause-text : goal.returns-in-Some-clause-text
returns-in-Some-clause-text c = let e = c.in-Some.ensures.cases in rw e.2 (chars-feed _ _ c.utf8.text e.1.split)

pub returns-in-None-clause-text : goal.returns-in-None-clause-text
returns-in-None-clause-text c = chars-no_feed _ c.utf8.text c.in-None.ensures.cases
