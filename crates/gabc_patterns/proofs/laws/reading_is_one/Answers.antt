use Rattle.gabc_patterns.specs.LongestItems.{IsItemOf}
use Rattle.gabc_patterns.proofs.OneReading.{one_cutting, one_reading}
use Rattle.gabc_patterns.proofs.laws.reading_is_one.Goals as goal

pub returns : goal.returns
returns g c = record {
  texts = λ rows h. one_cutting (IsItemOf rows) (λ k i. h (k, i));
  kinds = λ rows h. one_reading (IsItemOf rows) (λ k i. h (k, i));
}
