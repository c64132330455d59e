use Rattle.std.proofs.Common.{◌∷◌}
use Rattle.gabc_text.proofs.printing.BlanksBeforeRegularText.{says_after, nothing_after, ends_after_it, kept_after, printed_after, canonical_after}
use Rattle.gabc_text.proofs.laws.blanks_before_a_regular_text_begin_a_word.Goals as goal

pub returns : goal.returns
returns c = record {
  says = says_after;
  found = λ at b gap t rest h r. nothing_after at (b ∷ gap) t rest h r;
  ends = λ b gap t rest h r. ends_after_it (b ∷ gap) t rest h r;
  kept = kept_after;
  printed = printed_after;
  canonical = canonical_after;
}
