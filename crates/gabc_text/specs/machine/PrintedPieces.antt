-- Pieces whose printed form is read again as themselves.
use Rattle.std.specs.Prelude.{◌≡◌, ℕ, List, [], ◌∷◌, ◌++◌, Bool, true, false, ◌||◌, Some}
use Rattle.std.specs.List.{filter}
use Rattle.gabc_text.specs.declared.styles.Style.{Style}
use Rattle.gabc_text.specs.declared.view.PieceKind.{PieceKind}
use Rattle.gabc_text.specs.declared.view.PieceKind.TheVariants as piece
use Rattle.gabc_text.specs.Token.{Token, spelling, tokens}
use Rattle.gabc_text.specs.TagNames.{all_styles}
use Rattle.gabc_text.specs.View.{PieceFacts, kind_of, is_word_kind, is_space, is_blank_piece, text_of_piece}
use Rattle.gabc_text.specs.Printed.{printed_piece}

-- a token that is read again, whatever follows
abbrev pub Stable : Token → Type 0
Stable k = (u : List ℕ) → tokens (spelling k ++ u) ≡ k ∷ tokens u

-- a piece but a blank that is printed as a token of its kind; a blank after a word and no blank
abbrev pub Says : PieceKind → List ℕ → Bool → Bool → Type 0
Says piece.Blank t w b = (t ≡ []) × (w ≡ true) × (b ≡ false)
Says k t w b = (kind_of (printed_piece k t) ≡ Some k) × (text_of_piece k (printed_piece k t) ≡ t) × (is_space (printed_piece k t).kind ≡ false)

pub record Good (p : PieceFacts) (w b : Bool) : Type 0 where
  pub test : Style → Bool
  pub styles_are : p.styles ≡ filter test all_styles
  pub stable : Stable (printed_piece p.kind p.text)
  pub reads_so : Says p.kind p.text w b

-- the pieces after a word or none, and after a blank or none
abbrev pub AllGood : Bool → Bool → List PieceFacts → Type 0
AllGood w b [] = Unit {0}
AllGood w b (p ∷ ps) = Good p w b × AllGood (is_word_kind (Some p.kind) || w) (is_blank_piece p.kind) ps
