-- What is printed of a view is the printed form of what the text says, and is printed again of the view that it gives.
use Rattle.std.proofs.Common.{arith, ◌≡◌, ℕ, List, [], ◌∷◌, ◌++◌, Bool, cond, refl, append_assoc, append-nil, Option}
use Rattle.std.proofs.lemmas.Str.{encodes-append}
use lib.Utf8.{encode, encodes}
use Rattle.gabc_places.specs.declared.place.Span.{Span}
use Rattle.gabc_text.specs.TextRead.{view_in}
use Rattle.gabc_text.specs.ViewFacts.{view_facts, StandsForView, IsTranslation}
use Rattle.gabc_text.specs.Printed.{print, translation_tokens, word_break, text_of_tokens}
use Rattle.gabc_text.specs.PrintedView.{printed_translation, printed_view}
use Rattle.gabc_text.proofs.printing.CanonicalTextIsPrinted.{canonical_is, bytes_append}
use Rattle.gabc_text.proofs.printing.ViewForwardIsViewBackward.{facts_again}
use Rattle.gabc_text.proofs.spans.CentreLiesAmongPieces.{spanned_is}

break_bytes : (b : Bool) → cond b (10 ∷ []) [] ≡ encodes (text_of_tokens (word_break b))
unfolding encode
break_bytes b = grind arith

opening_bracket : 91 ∷ [] ≡ encodes (91 ∷ [])
unfolding encode
opening_bracket = refl

closing_bracket : 93 ∷ [] ≡ encodes (93 ∷ [])
unfolding encode
closing_bracket = refl

translation_bytes : (K : List ℕ) (o : Option Span) (s : Option (List ℕ)) → IsTranslation K o s → printed_translation (encodes K) o ≡ encodes (text_of_tokens (translation_tokens s))
translation_bytes K o s h = grind (arith, spanned_is, closing_bracket, encodes-append, opening_bracket, append-nil)

pub printed_is : (K t : List ℕ) → StandsForView K (view_in t) t → printed_view (view_in t) (encodes K) ≡ encodes (print (view_facts t))
printed_is K t h = grind (arith, break_bytes, canonical_is, translation_bytes, append_assoc, bytes_append)

pub printed_again : (K L t rest : List ℕ) → StandsForView K (view_in t) t
    → StandsForView L (view_in (print (view_facts t) ++ 40 ∷ rest)) (print (view_facts t) ++ 40 ∷ rest)
    → printed_view (view_in (print (view_facts t) ++ 40 ∷ rest)) (encodes L) ≡ printed_view (view_in t) (encodes K)
printed_again K L t rest h g = grind (arith, printed_is, facts_again)
