-- What is printed of a view that begins no word is a regular text, if its tags are known.
use Rattle.std.proofs.Common.{arith, ◌≡◌, [], false, refl, sym, ap, ◌∙◌, append-nil}
use Rattle.gabc_text.specs.Token.{tokens}
use Rattle.gabc_text.specs.ViewFacts.{ViewFacts, view_facts}
use Rattle.gabc_text.specs.Printed.{print, print_tokens}
use Rattle.gabc_text.specs.RegularText.{IsRegularText}
use Rattle.gabc_text.specs.machine.RegularBytes.{AllKnown}
use Rattle.gabc_text.proofs.printing.ViewFromFirstToken.{view_by}
use Rattle.gabc_text.proofs.printing.ViewForwardIsViewBackward.{facts_is}
use Rattle.gabc_text.proofs.printing.PrintedTextIsReadAgain.{Sound, tokens_before, printed_view}
use Rattle.gabc_text.proofs.printing.NothingIsFoundInPrintedText.{nothing_in}

module _ (v : ViewFacts) (s : Sound v) where
  tokens_alone : tokens (print v) ≡ print_tokens v
  tokens_alone = ap tokens (sym (append-nil (print v))) ∙ tokens_before v s [] refl

  pub read_again : view_facts (print v) ≡ v
  read_again = facts_is (print v) ∙ ap view_by tokens_alone ∙ printed_view v s

  pub regular_is : AllKnown v.pieces → v.word_start ≡ false → IsRegularText (print v)
  regular_is known start = grind (arith, read_again, tokens_alone, nothing_in)
