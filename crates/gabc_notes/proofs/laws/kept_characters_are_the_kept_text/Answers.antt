use Rattle.gabc_notes.proofs.KeptChars.{kept_chars-kept}
use Rattle.gabc_notes.proofs.laws.kept_characters_are_the_kept_text.Goals as goal

pub returns : goal.returns
returns c events = kept_chars-kept events
