-- What a kept text says, and what becomes of a character after it. In these definitions `before`
-- are the tokens of the kept text before a place, the nearest first.
use Rattle.std.specs.Prelude.{ℕ, ◌+◌, ◌-◌, List, [], ◌∷◌, Bool, false, cond, not, ◌||◌, ◌&&◌, ◌==◌, length, Option, Some, None, codes, reverse, sum_by}
use Rattle.std.specs.Option.{option_or}
use Rattle.gabc_places.specs.declared.code.Code.{Code}
use Rattle.gabc_places.specs.declared.code.Code.TheVariants.{E2, W4, W5}
use Rattle.gabc_places.specs.declared.place.Span.{Span}
use Rattle.gabc_places.specs.Fate.{Fate, Keep, Comment, Ends, LeaveOut}
use Rattle.gabc_text.specs.declared.view.Piece.{Piece}
use Rattle.gabc_text.specs.declared.view.PieceKind.{PieceKind}
use Rattle.gabc_text.specs.declared.view.PieceKind.TheVariants as piece
use Rattle.gabc_text.specs.declared.token.TokenKind.{TokenKind}
use Rattle.gabc_text.specs.declared.token.TokenKind.TheVariants.{Letter, Tag, Translation, OpenTranslation}
use Rattle.gabc_text.specs.declared.token.TagEffect.{TagEffect}
use Rattle.gabc_text.specs.TextView.{ViewContent}
use Rattle.gabc_text.specs.Token.{Token, spelling, tokens, is_blank, is_one_of, is_special, is_text}
use Rattle.gabc_text.specs.View.{along, effect, kind_of, bytes_of, is_open, is_space, starts_word, is_begin, is_end, is_open_kind, centre_by, tag_codes_by, has_translation, has_begin, has_end}
use Rattle.gabc_text.specs.Events.{styles_of, is_blank_at}
use Rattle.gabc_text.specs.TextRead.{but_last_blank}

-- ---- the view

-- how many bytes the tokens spell
abbrev pub bytes_before : List Token → ℕ
bytes_before before = sum_by (λ k. bytes_of (spelling k)) before

-- a `$` before a character, which is no part of its piece
abbrev pub dollar_of : TokenKind → List ℕ → ℕ
dollar_of Letter more = length more
dollar_of _ more = 0

abbrev pub piece_of : List Token → Token → PieceKind → Piece
piece_of before k kind = record { kind = kind; styles = styles_of before; span = record { from = bytes_before before + dollar_of k.kind k.more; to = bytes_before (k ∷ before) } }

-- the pieces that a token is: one or none
abbrev pub pieces_by : List Token → Token → Option PieceKind → List Piece
pieces_by before k (Some kind) = piece_of before k kind ∷ []
pieces_by before k None = cond (is_blank_at before k.kind) (piece_of before k piece.Blank ∷ []) []

abbrev pub pieces_at : List Token → Token → List Piece
pieces_at before k = pieces_by before k (kind_of k)

abbrev pub pieces_of : List Token → List Piece
pieces_of ks = along pieces_at [] ks

-- how many pieces stand before the brace of that kind
abbrev pub pieces_before : (TokenKind → Bool) → List Token → Option ℕ
pieces_before is [] = None
pieces_before is (k ∷ before) = option_or (pieces_before is before) (cond (is k.kind) (Some (length (pieces_of (reverse before)))) None)

-- the first translation, without its brackets
abbrev pub translation_by : TokenKind → List Token → Token → Option Span
translation_by Translation before k = Some (record { from = bytes_before before + 1; to = bytes_before (k ∷ before) - 1 })
translation_by _ before k = None

abbrev pub translation_of : List Token → Option Span
translation_of [] = None
translation_of (k ∷ before) = option_or (translation_of before) (translation_by k.kind before k)

abbrev pub view_by : List Piece → List Token → ViewContent
view_by pieces before = record {
  word_start = starts_word before;
  pieces = pieces;
  centre = centre_by (length pieces) (pieces_before is_begin before) (pieces_before is_end before);
  translation = translation_of before;
}

-- what a text says of which this is kept
abbrev pub view_of_kept : List ℕ → ViewContent
view_of_kept t = view_by (but_last_blank (pieces_of (tokens t))) (reverse (tokens t))

-- ---- a character after it

-- it is part of the last token: of one that is open, or after a `$`
abbrev pub belongs : List Token → ℕ → Bool
belongs [] c = false
belongs (k ∷ before) c = is_open_kind k.kind || (is_text (codes "$") (spelling k) && is_special c)

-- a `{` after another, or a `}` that is not the first after a `{`
abbrev pub is_unmatched : List Token → ℕ → Bool
is_unmatched before c = ((c == 123) && has_begin before) || ((c == 125) && not (has_begin before && not (has_end before)))

abbrev pub ends_blank : List Token → Bool
ends_blank [] = false
ends_blank (k ∷ before) = is_space k.kind

-- what becomes of the character after these tokens
abbrev pub fate_in_text : List Token → ℕ → Fate
fate_in_text before c =
    cond (belongs before c) Keep
    (cond (c == 40) Ends
    (cond (c == 37) Comment
    (cond (is_one_of (codes ")]>") c) (LeaveOut (Some E2))
    (cond (is_unmatched before c) (LeaveOut (Some W4))
    (cond (is_blank c && ends_blank before) (LeaveOut None) Keep)))))

-- a blank is kept as U+0020, if it is no part of a longer token
abbrev pub kept_char : List Token → ℕ → ℕ
kept_char before c = cond (belongs before c) c (cond (is_blank c) 32 c)

abbrev pub kept_by : Fate → ℕ → List ℕ
kept_by Keep c = c ∷ []
kept_by _ c = []

-- what is kept of the character after these tokens
abbrev pub kept_after : List Token → ℕ → List ℕ
kept_after before c = kept_by (fate_in_text before c) (kept_char before c)

-- what is found with the last character of these tokens, which is kept
abbrev pub codes_by : List Token → TokenKind → List ℕ → TagEffect → List Code
codes_by before Tag more s = tag_codes_by (λ r. is_open r before) s
codes_by before OpenTranslation [] s = cond (has_translation before) (W5 ∷ []) []
codes_by before _ more s = []

abbrev pub codes_with : List Token → List Code
codes_with [] = []
codes_with (k ∷ before) = codes_by before k.kind k.more (effect k)
