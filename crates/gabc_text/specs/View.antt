-- What a text means, by its tokens. In these definitions `before` are the tokens before a place,
-- the nearest first.
use Rattle.std.specs.Prelude.{if◌then◌else◌, ℕ, ◌+◌, List, [], ◌∷◌, ◌++◌, Bool, true, false, cond, not, ◌||◌, ◌&&◌, length, take, filter, min, Option, Some, None, is_some, map, reverse, drop}
use Rattle.std.specs.List.{list_any}
use Rattle.gabc_text.specs.declared.styles.Style.{Style}
use Rattle.gabc_text.specs.declared.view.PieceKind.{PieceKind}
use Rattle.gabc_text.specs.declared.view.PieceKind.TheVariants as piece
use Rattle.gabc_places.specs.declared.code.Code.{Code}
use Rattle.gabc_places.specs.declared.code.Code.TheVariants.{E2, W3, W4, W5, W6}
use Rattle.gabc_places.specs.declared.code.Finding.{Finding}
use Rattle.std.specs.Char.{len_utf8}
use Rattle.gabc_places.specs.Place.{place_past}
use Rattle.gabc_places.specs.declared.place.Place.{Place}
use Rattle.gabc_places.specs.declared.place.Span.{Span}
use Rattle.gabc_text.specs.declared.view.TextEnding.{TextEnding}
use Rattle.gabc_text.specs.declared.view.TextEnding.TheVariants.{Notes, Finished, Cut}
use Rattle.gabc_text.specs.declared.token.TokenKind.{TokenKind}
use Rattle.gabc_text.specs.declared.token.TokenKind.TheVariants.{Letter, Blank, Comment, Stray, Begin, End, Tag, Raw, Translation, OpenTag, OpenTranslation}
use Rattle.gabc_text.specs.declared.token.TagEffect.{TagEffect}
use Rattle.gabc_text.specs.declared.token.TagEffect.TheVariants.{Opens, Closes, Mark, Other}
use Rattle.gabc_text.specs.TagNames.{all_styles, style_name}
use Rattle.gabc_text.specs.Token.{Token, spelling, tokens, is_text, effect_of}

-- what a token does to the styles and spans
abbrev pub effect_as : TokenKind → List ℕ → TagEffect
effect_as Tag s = effect_of s
effect_as _ s = Other

abbrev pub effect : Token → TagEffect
effect k = effect_as k.kind (spelling k)

-- What the tokens ks emit, each after those before it: the first of ks stands after `before`.
abbrev pub along : {X : Type 0} → (List Token → Token → List X) → List Token → List Token → List X
along at before [] = []
along at before (k ∷ ks) = at before k ++ along at (k ∷ before) ks

-- ---- where a token stands

-- the text that the tokens before spell
abbrev pub text_of : List Token → List ℕ
text_of [] = []
text_of (k ∷ before) = text_of before ++ spelling k

abbrev pub place_of : Place → List Token → Place
place_of at before = place_past at (text_of before)

-- how many bytes the characters have
abbrev pub bytes_of : List ℕ → ℕ
bytes_of [] = 0
bytes_of (c ∷ t) = len_utf8 c + bytes_of t

-- ---- styles

-- they have the same name
abbrev pub is_same : Style → Style → Bool
is_same r s = is_text (style_name r) (style_name s)

-- the style is open after a tag of this sort, if it was open or not before it
abbrev pub is_open_after : Style → TagEffect → Bool → Bool
is_open_after s (Opens r) was = cond (is_same r s) true was
is_open_after s (Closes r) was = cond (is_same r s) false was
is_open_after s _ was = was

-- the nearest tag of the style opens it
abbrev pub is_open : Style → List Token → Bool
is_open s [] = false
is_open s (k ∷ before) = is_open_after s (effect k) (is_open s before)

abbrev pub open_styles : List Token → List Style
open_styles before = filter (λ s. is_open s before) all_styles

-- ---- pieces

abbrev pub last_of : ℕ → List ℕ → List ℕ
last_of c [] = c ∷ []
last_of c (d ∷ s) = last_of d s

-- what a piece says
pub record PieceFacts : Type 0 where
  pub kind : PieceKind
  pub styles : List Style
  pub text : List ℕ

-- the kind of piece that a token is, blanks aside
abbrev pub tag_piece : TagEffect → Option PieceKind
tag_piece Mark = Some piece.Mark
tag_piece Other = Some piece.Tag
tag_piece _ = None

abbrev pub piece_kind : TokenKind → TagEffect → Option PieceKind
piece_kind Letter s = Some piece.Char
piece_kind Raw s = Some piece.Raw
piece_kind Tag s = tag_piece s
piece_kind _ s = None

abbrev pub kind_of : Token → Option PieceKind
kind_of k = piece_kind k.kind (effect k)

abbrev pub is_space : TokenKind → Bool
is_space Blank = true
is_space _ = false

-- a piece but a span mark
abbrev pub is_word_kind : Option PieceKind → Bool
is_word_kind None = false
is_word_kind (Some piece.Mark) = false
is_word_kind (Some _) = true

abbrev pub has_word : List Token → Bool
has_word before = list_any (λ k. is_word_kind (kind_of k)) before

-- of the tokens that are blanks or pieces, the nearest is a blank
abbrev pub follows_blank : List Token → Bool
follows_blank [] = false
follows_blank (k ∷ before) = is_space k.kind || (not (is_some (kind_of k)) && follows_blank before)

-- what a piece says: of a letter the character, without its `$`
abbrev pub text_of_piece : PieceKind → Token → List ℕ
text_of_piece piece.Char k = last_of k.first k.more
text_of_piece _ k = spelling k

abbrev pub piece_of : List Token → Token → Option PieceKind → List PieceFacts
piece_of before k (Some kind) = record { kind = kind; styles = open_styles before; text = text_of_piece kind k } ∷ []
piece_of before k None =
    cond (is_space k.kind && has_word before && not (follows_blank before)) (record { kind = piece.Blank; styles = open_styles before; text = [] } ∷ []) []

-- the pieces that a token after `before` is: one or none
abbrev pub pieces_at : List Token → Token → List PieceFacts
pieces_at before k = piece_of before k (kind_of k)

abbrev pub is_blank_piece : PieceKind → Bool
is_blank_piece piece.Blank = true
is_blank_piece _ = false

-- a blank before which no piece stands but span marks
abbrev pub starts_word : List Token → Bool
starts_word [] = false
starts_word (k ∷ before) = (is_space k.kind && not (has_word before)) || starts_word before

-- ---- the centre

abbrev pub is_begin : TokenKind → Bool
is_begin Begin = true
is_begin _ = false

abbrev pub is_end : TokenKind → Bool
is_end End = true
is_end _ = false

abbrev pub has_begin : List Token → Bool
has_begin before = list_any (λ k. is_begin k.kind) before

-- a `}` stands after a `{`
abbrev pub has_end : List Token → Bool
has_end [] = false
has_end (k ∷ before) = (is_end k.kind && has_begin before) || has_end before

abbrev pub count_pieces : List Token → ℕ
count_pieces [] = 0
count_pieces (k ∷ before) = count_pieces before + length (pieces_at before k)

-- how many pieces stand before the first `{`, and before the first `}` after it
abbrev pub begin_of : List Token → Option ℕ
begin_of [] = None
begin_of (k ∷ before) = cond (is_begin k.kind && not (has_begin before)) (Some (count_pieces before)) (begin_of before)

abbrev pub end_of : List Token → Option ℕ
end_of [] = None
end_of (k ∷ before) = cond (is_end k.kind && (has_begin before && not (has_end before))) (Some (count_pieces before)) (end_of before)

-- a centre that is not ended goes to the end; no position is past the pieces
abbrev pub centre_by : ℕ → Option ℕ → Option ℕ → Option Span
centre_by count (Some from) (Some to) = Some (record { from = min from count; to = min to count })
centre_by count (Some from) None = Some (record { from = min from count; to = count })
centre_by count None _ = None

-- ---- the translation

abbrev pub is_translation : TokenKind → Bool
is_translation Translation = true
is_translation OpenTranslation = true
is_translation _ = false

abbrev pub has_translation : List Token → Bool
has_translation before = list_any (λ k. is_translation k.kind) before

-- ---- the kept text

-- A comment, a stray character, or a brace that is not the first `{` or the first `}` after it: by
-- whether a `{` stands before, and a `}` after one.
abbrev pub is_left_out_by : Bool → Bool → TokenKind → Bool
is_left_out_by begun ended Comment = true
is_left_out_by begun ended Stray = true
is_left_out_by begun ended Begin = begun
is_left_out_by begun ended End = not (begun && not ended)
is_left_out_by begun ended _ = false

abbrev pub is_left_out : List Token → TokenKind → Bool
is_left_out before k = is_left_out_by (has_begin before) (has_end before) k

-- the nearest token that is not left out is a blank
abbrev pub follows_space : List Token → Bool
follows_space [] = false
follows_space (k ∷ before) = is_space k.kind || (is_left_out before k.kind && follows_space before)

-- Nothing is kept of a token that is left out, of several blanks one, and all of any other token:
-- by whether it is left out, and whether what is kept before it is a blank.
abbrev pub kept_as : {X : Type 0} → Bool → Bool → TokenKind → X → X → X → X
kept_as out space k nothing blank all =
    if out then nothing else (if is_space k then (if space then nothing else blank) else all)

-- what is kept of a token after `before`
abbrev pub kept_at : List Token → Token → List ℕ
kept_at before k = kept_as (is_left_out before k.kind) (follows_space before) k.kind [] (32 ∷ []) (spelling k)

-- ---- how a text ends

abbrev pub is_open_kind : TokenKind → Bool
is_open_kind OpenTag = true
is_open_kind OpenTranslation = true
is_open_kind _ = false

-- the last token is left open
abbrev pub is_cut : List Token → Bool
is_cut [] = false
is_cut (k ∷ before) = is_open_kind k.kind

-- what follows the tokens is empty, or begins with the `(`, after this prefix
abbrev pub ending_by : List ℕ → List ℕ → TextEnding
ending_by prefix [] = Finished
ending_by prefix (c ∷ rest) = Notes (bytes_of prefix)

-- how a text ends whose tokens are these, the nearest first, where they spell the prefix and rest
-- follows
abbrev pub ending_after : Place → List Token → List ℕ → List ℕ → TextEnding
ending_after at [] prefix rest = ending_by prefix rest
ending_after at (k ∷ before) prefix rest = cond (is_open_kind k.kind) (Cut (place_of at before)) (ending_by prefix rest)

-- ---- the findings, each with the index of its character

-- of a tag that opens what is open, or closes what is not, or is not known
abbrev pub tag_codes_by : (Style → Bool) → TagEffect → List Code
tag_codes_by opened (Opens s) = cond (opened s) (W3 ∷ []) []
tag_codes_by opened (Closes s) = cond (opened s) [] (W3 ∷ [])
tag_codes_by opened Other = W6 ∷ []
tag_codes_by opened _ = []

-- a second translation is found where it begins, all else where the token ends
abbrev pub early_codes : List Token → TokenKind → List Code
early_codes before Translation = cond (has_translation before) (W5 ∷ []) []
early_codes before OpenTranslation = cond (has_translation before) (W5 ∷ []) []
early_codes before _ = []

-- by which styles are open, whether a `{` stands before, and a `}` after one
abbrev pub late_codes_by : (Style → Bool) → Bool → Bool → TokenKind → TagEffect → List Code
late_codes_by opened begun ended Stray s = E2 ∷ []
late_codes_by opened begun ended Begin s = cond begun (W4 ∷ []) []
late_codes_by opened begun ended End s = cond (begun && not ended) [] (W4 ∷ [])
late_codes_by opened begun ended Tag s = tag_codes_by opened s
late_codes_by opened begun ended _ s = []

abbrev pub late_codes : List Token → TokenKind → TagEffect → List Code
late_codes before k s = late_codes_by (λ r. is_open r before) (has_begin before) (has_end before) k s

abbrev pub found_at : Place → Code → Finding
found_at place c = record { place = place; code = c }

abbrev pub findings_at : Place → List Token → Token → List Finding
findings_at at before k = map (found_at (place_of at before)) (early_codes before k.kind ++ late_codes before k.kind (effect k))

-- those of a text's end: styles that are still open, and a centre that is
abbrev pub end_codes_by : (Style → Bool) → Bool → Bool → List Code
end_codes_by opened begun ended = cond (list_any opened all_styles) (W3 ∷ []) [] ++ cond (begun && not ended) (W4 ∷ []) []

abbrev pub codes_at_end : List Token → List Code
codes_at_end before = end_codes_by (λ s. is_open s before) (has_begin before) (has_end before)

abbrev pub findings_at_end : Place → List Token → List Finding
findings_at_end at before = cond (is_cut before) [] (map (found_at (place_of at before)) (codes_at_end before))

-- ---- of a text

abbrev pub kept : List ℕ → List ℕ
kept t = along kept_at [] (tokens t)

abbrev pub findings : Place → List ℕ → List Finding
findings at t = along (findings_at at) [] (tokens t) ++ findings_at_end at (reverse (tokens t))

-- how many characters the tokens have
abbrev pub length_of : List ℕ → ℕ
length_of t = length (text_of (reverse (tokens t)))

abbrev pub ending_in : Place → List ℕ → TextEnding
ending_in at t = ending_after at (reverse (tokens t)) (take (length_of t) t) (drop (length_of t) t)
