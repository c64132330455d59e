-- A printed text is read without an error.
use Rattle.std.proofs.Common.{◌≡◌, ℕ, ◌+◌, ◌||◌, List, [], ◌∷◌, ◌++◌, Bool, true, false, refl, map, Option, Some, arith}
use Rattle.std.proofs.lemmas.List.Folds.{list_any-append}
use Rattle.gabc_places.specs.declared.place.Place.{Place}
use Rattle.gabc_places.specs.declared.place.Span.{Span}
use Rattle.gabc_text.specs.declared.styles.Style.{Style}
use Rattle.gabc_text.specs.declared.token.TokenKind.{TokenKind}
use Rattle.gabc_text.specs.declared.token.TokenKind.TheVariants as kind
use Rattle.gabc_text.specs.Token.{Token}
use Rattle.gabc_text.specs.View.{along, PieceFacts, findings_at, findings_at_end, findings, is_word_kind, is_blank_piece}
use Rattle.gabc_text.specs.ViewFacts.{view_facts, has_error}
use Rattle.gabc_text.specs.Printed.{opening_tag, closing_tag, brace_tokens, tokens_between, printed_piece, print_from, text_tokens, translation_tokens, word_break, print_tokens, print}
use Rattle.gabc_text.proofs.printing.ViewFromFirstToken.{view}
use Rattle.gabc_text.proofs.printing.PiecesPrintWell.{pieces_good}
use Rattle.gabc_text.proofs.printing.PrintedTextIsReadAgain.{tokens_printed}
use Rattle.gabc_text.proofs.printing.ViewForwardIsViewBackward.{facts_is}
use Rattle.gabc_text.specs.machine.PrintedPieces.{AllGood}
use Rattle.gabc_text.proofs.printing.PrintedPiecesAreReadAgain.{printed_kind}

-- ---- tokens that are no stray characters

abbrev is_stray : TokenKind → Bool
is_stray kind.Stray = true
is_stray _ = false

abbrev NoStray : List Token → Type 0
NoStray [] = Unit {0}
NoStray (k ∷ ks) = (is_stray k.kind ≡ false) × NoStray ks

no_stray_append : (ks ls : List Token) → NoStray ks → NoStray ls → NoStray (ks ++ ls)
no_stray_append [] ls h g = g
no_stray_append (k ∷ ks) ls h g = (h.0, no_stray_append ks ls h.1 g)

openings : (ss : List Style) → NoStray (map opening_tag ss)
openings [] = tt
openings (s ∷ ss) = (refl, openings ss)

closings : (ss : List Style) → NoStray (map closing_tag ss)
closings [] = tt
closings (s ∷ ss) = (refl, closings ss)

in_braces : (centre : Option Span) (i : ℕ) → NoStray (brace_tokens centre i)
in_braces centre i = grind arith

in_gap : (centre : Option Span) (i : ℕ) (old new : List Style) → NoStray (tokens_between old new (brace_tokens centre i))
in_gap centre i old new = grind (arith, no_stray_append, closings, in_braces, openings)

in_pieces : (centre : Option Span) (i : ℕ) (old : List Style) (ps : List PieceFacts) (w b : Bool) → AllGood w b ps → NoStray (print_from centre i old ps)
in_pieces centre i old [] w b g = in_gap centre i old []
in_pieces centre i old (p ∷ ps) w b g =
    no_stray_append (tokens_between old p.styles (brace_tokens centre i)) (printed_piece p.kind p.text ∷ print_from centre (i + 1) p.styles ps) (in_gap centre i old p.styles)
    (printed_kind (λ (d : TokenKind). is_stray d ≡ false) refl refl refl refl p w b g.0, in_pieces centre (i + 1) p.styles ps (is_word_kind (Some p.kind) || w) (is_blank_piece p.kind) g.1)

in_print : (t : List ℕ) → NoStray (print_tokens (view t))
in_print t =
    no_stray_append (word_break (view t).word_start ++ text_tokens (view t)) (translation_tokens (view t).translation)
    (no_stray_append (word_break (view t).word_start) (text_tokens (view t)) (start (view t).word_start) (in_pieces (view t).centre 0 [] (view t).pieces false false (pieces_good t)))
    (end (view t).translation)
  where
    start : (b : Bool) → NoStray (word_break b)
    start b = grind arith

    end : (tr : Option (List ℕ)) → NoStray (translation_tokens tr)
    end tr = grind arith

-- ---- their findings

module _ (at : Place) where
  token_fine : (bs : List Token) (k : Token) → is_stray k.kind ≡ false → has_error (findings_at at bs k) ≡ false
  token_fine bs k e = grind arith

  along_fine : (ks bs : List Token) → NoStray ks → has_error (along (findings_at at) bs ks) ≡ false
  along_fine [] bs h = refl
  along_fine (k ∷ ks) bs h = grind (arith, list_any-append, token_fine, along_fine ks (k ∷ bs) h.1)

  end_fine : (bs : List Token) → has_error (findings_at_end at bs) ≡ false
  end_fine bs = grind arith

  pub no_errors : (t rest : List ℕ) → has_error (findings at (print (view_facts t) ++ 40 ∷ rest)) ≡ false
  no_errors t rest = grind (arith, facts_is, tokens_printed, list_any-append, view, along_fine, in_print, end_fine)
