use Rattle.std.proofs.Common.{[]}
use Rattle.gabc_patterns.proofs.RowsAfterACharacter.{none_ends}
use Rattle.gabc_patterns.proofs.FunctionsMeetRelations.{keep_keeps, keeps_is, trim_trims, trims_is, kept_text_is, is_kept_text_is}
use Rattle.gabc_patterns.proofs.laws.kept_is_computed.Goals as goal

pub returns : goal.returns
returns g c = record {
  keeps = λ rows h. keeps_is rows (none_ends rows h) [];
  keep = λ rows h. keep_keeps rows (none_ends rows h) [];
  trims = λ rows h. trims_is rows (none_ends rows h);
  trim = λ rows h. trim_trims rows (none_ends rows h);
  is_kept_text = λ rows h. is_kept_text_is rows (none_ends rows h);
  kept_text = λ rows h. kept_text_is rows (none_ends rows h);
}
