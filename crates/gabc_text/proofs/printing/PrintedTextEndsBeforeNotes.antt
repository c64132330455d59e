-- A printed text ends before the `(` that stands after it.
use Rattle.std.proofs.Common.{arith, ◌≡◌, ℕ, ◌+◌, List, [], ◌∷◌, ◌++◌, refl, sym, ap, ◌∙◌, length, length-append}
use Rattle.std.proofs.Math.Seq.{drop-append_seam}
use Rattle.gabc_text.specs.Token.{Token, spelling}
use Rattle.gabc_text.specs.Events.{after_tokens}
use Rattle.gabc_text.specs.ViewFacts.{view_facts}
use Rattle.gabc_text.specs.Printed.{print, text_of_tokens}
use Rattle.gabc_text.proofs.printing.ViewFromFirstToken.{view}
use Rattle.gabc_text.proofs.printing.ViewForwardIsViewBackward.{facts_is}
use Rattle.gabc_text.proofs.printing.PrintedTextIsReadAgain.{tokens_printed}
use Rattle.gabc_text.proofs.machine.TokensOneAfterAnother.{size, after_is}

pub size_written : (ks : List Token) → size ks ≡ length (text_of_tokens ks)
size_written [] = refl
size_written (k ∷ ks) = ap (λ (n : ℕ). length (spelling k) + n) (size_written ks) ∙ sym (length-append (spelling k) (text_of_tokens ks))

pub printed_ends : (t rest : List ℕ) → after_tokens (print (view_facts t) ++ 40 ∷ rest) ≡ 40 ∷ rest
printed_ends t rest = grind (arith, facts_is, after_is, view, size, tokens_printed, size_written, drop-append_seam)
