use Rattle.gabc_text.proofs.by_kept.FatesInText.{fates_are, tags_are, translations_are, ends_are}
use Rattle.gabc_text.proofs.laws.fates_in_text.Goals as goal

pub returns : goal.returns
returns c = record { fate = fates_are; tag = tags_are; translation = translations_are; end = ends_are }
