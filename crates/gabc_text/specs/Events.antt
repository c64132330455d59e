-- What a text emits as it is read: its kept characters, the parts of its view, its findings and its
-- end.
use Rattle.std.specs.Prelude.{if◌then◌else◌, ℕ, ◌+◌, ◌-◌, ◌<◌, ◌^◌, List, [], ◌∷◌, ◌++◌, Bool, true, false, cond, not, ◌&&◌, length, Option, Some, None, map, reverse, drop, codes}
use Rattle.gabc_places.specs.Place.{placed_characters_from}
use Rattle.gabc_places.specs.declared.place.Place.{Place}
use Rattle.gabc_places.specs.declared.place.Span.{Span}
use Rattle.gabc_places.specs.declared.place.Char.{Char}
use Rattle.gabc_places.specs.declared.code.Code.{Code}
use Rattle.gabc_text.specs.declared.styles.Style.TheVariants.{B, C, E, I, Sc, Tt, Ul}
use Rattle.gabc_text.specs.declared.styles.Styles.{Styles}
use Rattle.gabc_text.specs.declared.view.PieceKind.{PieceKind}
use Rattle.gabc_text.specs.declared.view.PieceKind.TheVariants as piece
use Rattle.gabc_text.specs.declared.view.Piece.{Piece}
use Rattle.gabc_text.specs.declared.token.TokenKind.{TokenKind}
use Rattle.gabc_text.specs.declared.token.TokenKind.TheVariants.{Translation}
use Rattle.gabc_text.specs.declared.text_event.TextPart.{TextPart}
use Rattle.gabc_text.specs.declared.text_event.TextPart.TheVariants as part
use Rattle.gabc_text.specs.declared.text_event.TextEnd.{TextEnd}
use Rattle.gabc_text.specs.declared.text_event.TextEnd.TheVariants as ending
use Rattle.gabc_text.specs.declared.text_event.TextEvent.{TextEvent}
use Rattle.gabc_text.specs.declared.text_event.TextEvent.TheVariants as out
use Rattle.gabc_text.specs.Token.{Token, spelling, tokens, is_text}
use Rattle.gabc_text.specs.View.{along, effect, kind_of, is_open, is_space, is_left_out, follows_space, follows_blank, has_word, starts_word, has_translation, kept_as, kept_at, text_of, place_of, bytes_of, begin_of, end_of, centre_by, count_pieces, early_codes, late_codes, found_at, findings_at_end, is_open_kind}

-- the set of styles that are open
abbrev pub styles_of : List Token → Styles
styles_of before = record {
  b = is_open B before;
  c = is_open C before;
  e = is_open E before;
  i = is_open I before;
  sc = is_open Sc before;
  tt = is_open Tt before;
  ul = is_open Ul before;
}

-- what is kept of the tokens before
abbrev pub kept_of : List Token → List ℕ
kept_of [] = []
kept_of (k ∷ before) = kept_of before ++ kept_at before k

abbrev pub but_last : ℕ → List ℕ → List ℕ
but_last c [] = []
but_last c (d ∷ s) = c ∷ but_last d s

-- how many bytes are kept before the last character of a token that is kept whole
abbrev pub last_at : List Token → Token → ℕ
last_at before k = bytes_of (kept_of before ++ but_last k.first k.more)

-- a piece has the span of its token in the kept text, a character that of the token's last
-- character
abbrev pub from_of : List Token → Token → PieceKind → ℕ
from_of before k piece.Char = last_at before k
from_of before k _ = bytes_of (kept_of before)

abbrev pub piece_at : List Token → Token → PieceKind → Piece
piece_at before k kind = record { kind = kind; styles = styles_of before; span = record { from = from_of before k kind; to = bytes_of (kept_of (k ∷ before)) } }

-- a blank after a word's piece, and not after a blank piece
abbrev pub is_blank_at : List Token → TokenKind → Bool
is_blank_at before k = is_space k && (has_word before && not (follows_blank before))

abbrev pub all_pieces_by : List Token → Token → Option PieceKind → List Piece
all_pieces_by before k (Some kind) = piece_at before k kind ∷ []
all_pieces_by before k None = cond (is_blank_at before k.kind) (piece_at before k piece.Blank ∷ []) []

-- the pieces that a token is, blanks among them
abbrev pub all_pieces_at : List Token → Token → List Piece
all_pieces_at before k = all_pieces_by before k (kind_of k)

-- the blank that is the last piece so far, if it is one: it is emitted with the next piece
abbrev pub waiting_by : List Token → Token → Option PieceKind → Option Piece → Option Piece
waiting_by before k (Some kind) was = None
waiting_by before k None was = cond (is_blank_at before k.kind) (Some (piece_at before k piece.Blank)) was

abbrev pub waiting_blank : List Token → Option Piece
waiting_blank [] = None
waiting_blank (k ∷ before) = waiting_by before k (kind_of k) (waiting_blank before)

abbrev pub option_list_of : {X : Type 0} → Option X → List X
option_list_of None = []
option_list_of (Some x) = x ∷ []

-- ---- parts

abbrev pub is_whole_translation : TokenKind → Bool
is_whole_translation Translation = true
is_whole_translation _ = false

abbrev pub translation_at : List Token → Token → Span
translation_at before k = record { from = bytes_of (kept_of before) + 1; to = last_at before k }

abbrev pub parts_by : List Token → Token → Option PieceKind → List TextPart
parts_by before k (Some kind) = map (λ (p : Piece). part.Piece p) (option_list_of (waiting_blank before)) ++ part.Piece (piece_at before k kind) ∷ []
parts_by before k None =
    cond (is_space k.kind && (not (has_word before) && not (starts_word before))) (part.WordStart ∷ [])
    (cond (is_whole_translation k.kind && not (has_translation before)) (part.Translation (translation_at before k) ∷ [])
    [])

abbrev pub parts_at : List Token → Token → List TextPart
parts_at before k = parts_by before k (kind_of k)

-- ---- kept characters

-- the characters that are kept of a token, each with its place
abbrev pub chars_at : Place → List Token → Token → List Char
chars_at at before k =
    kept_as (is_left_out before k.kind) (follows_space before) k.kind [] (record { c = 32; place = place_of at before } ∷ [])
    (placed_characters_from (place_of at before) (spelling k))

-- ---- events

abbrev pub finding_events : Place → List Token → List Code → List TextEvent
finding_events at before cs = map (λ (c : Code). out.Found (found_at (place_of at before) c)) cs

abbrev pub early_events : Place → List Token → TokenKind → List TextEvent
early_events at before k = finding_events at before (early_codes before k)

-- what is emitted of a token as a whole: its parts and its findings, but for a second translation's
abbrev pub token_events : Place → List Token → Token → List TextEvent
token_events at before k = map (λ (p : TextPart). out.Part p) (parts_at before k) ++ finding_events at before (late_codes before k.kind (effect k))

abbrev pub events_at : Place → List Token → Token → List TextEvent
events_at at before k = early_events at before k.kind ++ (map (λ (c : Char). out.Kept c) (chars_at at before k) ++ token_events at before k)

-- how many pieces are emitted
abbrev pub count_by : ℕ → Option Piece → ℕ
count_by n (Some p) = n - 1
count_by n None = n

abbrev pub centre_of : List Token → Option Span
centre_of before = centre_by (count_by (count_pieces before) (waiting_blank before)) (begin_of before) (end_of before)

abbrev pub end_by_rest : List ℕ → TextEnd
end_by_rest [] = ending.Finished
end_by_rest (c ∷ rest) = ending.Notes

abbrev pub end_after : Place → List Token → List ℕ → TextEnd
end_after at [] rest = end_by_rest rest
end_after at (k ∷ before) rest = cond (is_open_kind k.kind) (ending.Cut (place_of at before)) (end_by_rest rest)

-- the end of a text with these tokens, the nearest first, where rest follows
abbrev pub end_events : Place → List Token → List ℕ → List TextEvent
end_events at before rest =
    map out.Found (findings_at_end at before)
    ++ (map (λ (s : Span). out.Part (part.Centre s)) (option_list_of (centre_of before))
    ++ out.Ended (end_after at before rest) ∷ [])

-- what follows the tokens of a text
abbrev pub after_tokens : List ℕ → List ℕ
after_tokens t = drop (length (text_of (reverse (tokens t)))) t

-- what a text emits whose first character stands at this place
abbrev pub events_of : Place → List ℕ → List TextEvent
events_of at t = along (events_at at) [] (tokens t) ++ end_events at (reverse (tokens t)) (after_tokens t)

-- ---- the events by their points: a list for each character

-- a list of nothing for each
abbrev pub no_events_each : List ℕ → List (List TextEvent)
no_events_each t = map (λ _. []) t

abbrev pub kept_each : Place → List ℕ → List (List TextEvent)
kept_each p t = map (λ (c : Char). out.Kept c ∷ []) (placed_characters_from p t)

-- what is kept of each of these characters of a token, where the first stands at this place, if
-- this is each of them
abbrev pub kept_lists_as : Bool → Bool → TokenKind → Place → List ℕ → List (List TextEvent) → List (List TextEvent)
kept_lists_as left_out space k p s each =
    if left_out then no_events_each s
    else (if is_space k then (if space then [] else out.Kept (record { c = 32; place = p }) ∷ []) ∷ [] else each)

-- what is kept of each character of a token of this kind and spelling
abbrev pub kept_lists_by : Place → List Token → TokenKind → List ℕ → List (List TextEvent)
kept_lists_by at before k s =
    kept_lists_as (is_left_out before k) (follows_space before) k (place_of at before) s (kept_each (place_of at before) s)

-- a `$` that is no escape shows only by the character after it, or by the end, that it stands for
-- itself
abbrev pub is_lone : Token → Bool
is_lone k = is_text (codes "$") (spelling k)

-- what a token emits with its last character
abbrev pub last_char_events : Place → List Token → Token → List TextEvent
last_char_events at before k = cond (is_lone k) [] (token_events at before k)

-- what the last of the tokens before emits with the character after it, or with the end
abbrev pub owed_events : Place → List Token → List TextEvent
owed_events at [] = []
owed_events at (k ∷ before) = cond (is_lone k) (token_events at before k) []

abbrev pub with_first : List TextEvent → List (List TextEvent) → List (List TextEvent)
with_first xs [] = []
with_first xs (ys ∷ lists) = (xs ++ ys) ∷ lists

abbrev pub with_last : List TextEvent → List (List TextEvent) → List (List TextEvent)
with_last xs [] = []
with_last xs (ys ∷ []) = (ys ++ xs) ∷ []
with_last xs (ys ∷ zs ∷ lists) = ys ∷ with_last xs (zs ∷ lists)

-- What is emitted with each character of a token: with its first what the token before owes and the
-- finding of a second translation, then what is kept of each, and with its last the rest.
abbrev pub lists_at : Place → List Token → Token → List (List TextEvent)
lists_at at before k =
    with_last (last_char_events at before k)
    (with_first (owed_events at before ++ early_events at before k.kind)
    (kept_lists_by at before k.kind (spelling k)))

-- what is emitted with the character after the tokens, or with the end, and then nothing
abbrev pub lists_end : Place → List Token → List ℕ → List (List TextEvent)
lists_end at before rest = (owed_events at before ++ end_events at before rest) ∷ no_events_each rest

-- What a text emits whose first character stands at this place: a list for each of its characters,
-- and one for the end.
abbrev pub events_by_point : Place → List ℕ → List (List TextEvent)
events_by_point at t = along (lists_at at) [] (tokens t) ++ lists_end at (reverse (tokens t)) (after_tokens t)

-- no count of a text that begins at this place reaches its last value
pub record CountsFit (at : Place) (t : List ℕ) : Type 0 where
  pub line : at.line + length t < 2 ^ 64
  pub column : at.column + length t < 2 ^ 64
  pub bytes : bytes_of t < 2 ^ 64

abbrev pub codes_of : List Char → List ℕ
codes_of [] = []
codes_of (c ∷ cs) = c.c ∷ codes_of cs
