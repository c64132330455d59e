-- What a regular text says in front of a `(`.
use Rattle.std.proofs.Common.{arith, ◌≡◌, ℕ, List, [], ◌∷◌, ◌++◌, Bool, false, Option, None, refl, sym, ap, ◌∙◌, append-nil, reverse, encode_utf8_all}
use Rattle.gabc_places.specs.declared.place.Place.{Place}
use Rattle.gabc_text.specs.Token.{Token, tokens}
use Rattle.gabc_text.specs.View.{along, findings, findings_at, findings_at_end, kept}
use Rattle.gabc_text.specs.Events.{after_tokens}
use Rattle.gabc_text.specs.ViewFacts.{ViewFacts, view_facts, view_facts_by, StandsForView}
use Rattle.gabc_text.specs.TextRead.{view_in}
use Rattle.gabc_text.specs.Canonical.{canonical_text}
use Rattle.gabc_text.specs.Printed.{print, text_of_tokens, text_tokens, translation_tokens, word_break, print_tokens}
use Rattle.gabc_text.specs.PrintedView.{printed_view}
use Rattle.gabc_text.specs.RegularText.{IsRegularText, text_part, translation_part}
use Rattle.gabc_text.proofs.printing.ViewFromFirstToken.{view}
use Rattle.gabc_text.proofs.printing.ViewForwardIsViewBackward.{facts_is}
use Rattle.gabc_text.proofs.printing.PrintedTextIsReadAgain.{tokens_before, tokens_printed, view_sound}
use Rattle.gabc_text.proofs.printing.PrintedTextIsKept.{printed_kept, word_kept, written_append}
use Rattle.gabc_text.proofs.printing.PrintedTextEndsBeforeNotes.{printed_ends}
use Rattle.gabc_text.proofs.printing.PrintedViewIsReadAgain.{printed_is}
use Rattle.gabc_text.proofs.printing.CanonicalTextIsPrinted.{canonical_is}

pub own_form : (t : List ℕ) → IsRegularText t → print (view t) ≡ t
own_form t r = ap print (sym (facts_is t)) ∙ r.printed

pub own_tokens : (t : List ℕ) → IsRegularText t → tokens t ≡ print_tokens (view t)
own_tokens t r =
    ap tokens (sym (append-nil t)) ∙ ap (λ (x : List ℕ). tokens (x ++ [])) (sym (own_form t r)) ∙ tokens_before (view t) (view_sound t) [] refl

-- the `(` after it takes no token away
pub same_tokens : (t rest : List ℕ) → IsRegularText t → tokens (t ++ 40 ∷ rest) ≡ tokens t
same_tokens t rest r = ap (λ (x : List ℕ). tokens (x ++ 40 ∷ rest)) (sym (own_form t r)) ∙ tokens_printed t rest ∙ sym (own_tokens t r)

pub says_alone : (t rest : List ℕ) → IsRegularText t → view_facts (t ++ 40 ∷ rest) ≡ view_facts t
says_alone t rest r = ap view_facts_by (same_tokens t rest r)

pub nothing_found : (at : Place) (t rest : List ℕ) → IsRegularText t → findings at (t ++ 40 ∷ rest) ≡ []
nothing_found at t rest r = ap (λ (ks : List Token). along (findings_at at) [] ks ++ findings_at_end at (reverse ks)) (same_tokens t rest r) ∙ r.nothing at

pub regular_ends : (t rest : List ℕ) → IsRegularText t → after_tokens (t ++ 40 ∷ rest) ≡ 40 ∷ rest
regular_ends t rest r = ap (λ (x : List ℕ). after_tokens (x ++ 40 ∷ rest)) (sym r.printed) ∙ printed_ends t rest

kept_so : (b : Bool) (ks ls : List Token) → b ≡ false → word_kept b ++ text_of_tokens (ks ++ ls) ≡ text_of_tokens (word_break b ++ ks ++ ls)
kept_so b ks ls e = rw e refl

pub regular_kept : (t rest : List ℕ) → IsRegularText t → kept (t ++ 40 ∷ rest) ≡ t
regular_kept t rest r = grind (arith, printed_kept, kept_so)

pub regular_printed : (whole t rest : List ℕ) → IsRegularText t → StandsForView whole (view_in (t ++ 40 ∷ rest)) (t ++ 40 ∷ rest)
    → printed_view (view_in (t ++ 40 ∷ rest)) (encode_utf8_all whole) ≡ encode_utf8_all t
regular_printed whole t rest r s = grind (arith, printed_is, encode_utf8_all, says_alone)

-- it is its text and its translation
pub parts_join : (t : List ℕ) → IsRegularText t → text_part t ++ translation_part t ≡ t
parts_join t r = grind (arith, written_append)

pub text_alone : (b : Bool) (ks : List Token) (x : Option (List ℕ)) → b ≡ false → x ≡ None → text_of_tokens ks ≡ text_of_tokens (word_break b ++ ks ++ translation_tokens x)
text_alone b ks x e f = rw (e, f) (ap text_of_tokens (sym (append-nil ks)))

pub regular_canonical : (whole t rest : List ℕ) → IsRegularText t → (view_facts t).translation ≡ None → StandsForView whole (view_in (t ++ 40 ∷ rest)) (t ++ 40 ∷ rest)
    → canonical_text (view_in (t ++ 40 ∷ rest)) (encode_utf8_all whole) ≡ encode_utf8_all t
regular_canonical whole t rest r n s =
    canonical_is whole (t ++ 40 ∷ rest) s ∙ ap (λ (v : ViewFacts). encode_utf8_all (text_of_tokens (text_tokens v))) (says_alone t rest r)
    ∙ ap encode_utf8_all (text_alone (view_facts t).word_start (text_tokens (view_facts t)) (view_facts t).translation r.no_start n ∙ r.printed)
