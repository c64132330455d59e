-- The bytes of a regular text, with the pieces that they spell.
use Rattle.std.specs.Prelude.{◌≡◌, ℕ, ◌<◌, ◌==◌, not, List, [], ◌∷◌, ◌++◌, Bool, true, false, ◌&&◌, ◌||◌, nat_lt, length, map, Option, Some, None, encode_utf8_all, if◌then◌else◌, slice_index}
use Rattle.std.specs.Str.{all_scalars}
use Rattle.std.specs.List.{All, list_all}
use Rattle.gabc_places.specs.TextOfAnInput.{IsPlain}
use Rattle.gabc_places.specs.declared.place.Span.{Span}
use Rattle.gabc_text.specs.declared.styles.Style.{Style}
use Rattle.gabc_text.specs.declared.span_mark.SpanMark.{SpanMark}
use Rattle.gabc_text.specs.declared.regular.Before.{Before}
use Rattle.gabc_text.specs.declared.regular.Part.{Part}
use Rattle.gabc_text.specs.declared.view.PieceKind.{PieceKind}
use Rattle.gabc_text.specs.declared.view.PieceKind.TheVariants as piece
use Rattle.gabc_text.specs.Token.{Token, spelling}
use Rattle.gabc_text.specs.View.{PieceFacts, is_word_kind, is_blank_piece, is_same}
use Rattle.gabc_text.specs.ViewFacts.{LiesAmong, tags_among}
use Rattle.gabc_text.specs.Canonical.{after_common}
use Rattle.gabc_text.specs.RegularText.{tag_of, tags_of}
use Rattle.gabc_text.specs.Printed.{printed_piece, print_from, text_of_tokens}
use Rattle.gabc_text.specs.machine.PrintedPieces.{Stable, Says, AllGood}

-- ---- pieces

-- a piece that is a tag of no known name
abbrev pub is_unknown : PieceKind → Bool
is_unknown piece.Tag = true
is_unknown _ = false

abbrev pub AllKnown : List PieceFacts → Type 0
AllKnown [] = Unit {0}
AllKnown (p ∷ ps) = (is_unknown p.kind ≡ false) × AllKnown ps

-- there is a piece but a span mark among these, or before them
abbrev pub word_after : Bool → List PieceFacts → Bool
word_after w [] = w
word_after w (p ∷ ps) = word_after (is_word_kind (Some p.kind) || w) ps

-- the last of these is a blank, or, if there are none, the piece before them is
abbrev pub blank_after : Bool → List PieceFacts → Bool
blank_after b [] = b
blank_after b (p ∷ ps) = blank_after (is_blank_piece p.kind) ps

-- the styles of the first of these; those of the last, or, if there are none, those before them
abbrev pub first_styles : List PieceFacts → List Style
first_styles [] = []
first_styles (p ∷ ps) = p.styles

abbrev pub last_styles : List Style → List PieceFacts → List Style
last_styles old [] = old
last_styles old (p ∷ ps) = last_styles p.styles ps

-- the two lists have no common prefix: no style stays open between them
abbrev pub AreApart : List Style → List Style → Type 0
AreApart old new = after_common old new ≡ (old, new)

abbrev pub printed_as : PieceFacts → Token
printed_as p = printed_piece p.kind p.text

-- the pieces as they are printed, but for tags and braces
abbrev pub printed_text : List PieceFacts → List ℕ
printed_text ps = text_of_tokens (map printed_as ps)

-- ---- bytes

-- a byte of ASCII, and no CR
abbrev pub is_low : ℕ → Bool
is_low b = nat_lt b 128 && not (b == 13)

-- a byte of printable ASCII but this one
abbrev pub is_plain_byte : ℕ → ℕ → Bool
is_plain_byte but b = (nat_lt 31 b && nat_lt b 127) && not (but == b)

-- the first byte of the name of a tag, before which there may be a `/`
abbrev pub name_of_tag : List ℕ → ℕ
name_of_tag bytes = if slice_index bytes 1 == 47 then slice_index bytes 2 else slice_index bytes 1

-- the bytes of these characters in UTF-8, none of which is a CR or U+FEFF
pub record IsSpelled (t : List ℕ) (bytes : List ℕ) : Type 0 where
  pub spelled : bytes ≡ encode_utf8_all t
  pub scalars : all_scalars t ≡ true
  pub plain : All IsPlain t

-- the bytes of a piece in no style, but a blank, a span mark or an unknown tag
pub record IsWord (bytes : List ℕ) : Type 0 where
  pub kind : PieceKind
  pub text : List ℕ
  pub spells : IsSpelled (spelling (printed_piece kind text)) bytes
  pub stable : Stable (printed_piece kind text)
  pub says : (w b : Bool) → Says kind text w b
  pub word : is_word_kind (Some kind) ≡ true
  pub known : is_unknown kind ≡ false

-- the bytes of such pieces, with single blanks between them
pub record IsRun (bytes : List ℕ) : Type 0 where
  pub pieces : List PieceFacts
  pub spells : IsSpelled (printed_text pieces) bytes
  pub good : AllGood false false pieces
  pub known : AllKnown pieces
  pub no_blank : blank_after false pieces ≡ false
  pub no_mark : tags_among pieces ≡ []
  pub word : 0 < length bytes → word_after false pieces ≡ true

-- the bytes of characters other than this one
pub record IsInner (stop : ℕ) (bytes : List ℕ) : Type 0 where
  pub text : List ℕ
  pub spells : IsSpelled text bytes
  pub without : list_all (λ c. not (stop == c)) text ≡ true

-- the bytes of such characters between `opening` and `closing`
pub record IsBracketed (opening : List ℕ) (stop : ℕ) (closing bytes : List ℕ) : Type 0 where
  pub inner : List ℕ
  pub within : IsInner stop inner
  pub parts : bytes ≡ opening ++ (inner ++ closing)

-- the bytes of a run that is not empty, between `opening` and `closing`
pub record IsEnclosed (opening closing bytes : List ℕ) : Type 0 where
  pub inner : List ℕ
  pub run : IsRun inner
  pub some : 0 < length inner
  pub parts : bytes ≡ opening ++ (inner ++ closing)

-- one style, or none; and whether it is this one
abbrev pub in_style : Option Style → List Style
in_style None = []
in_style (Some s) = s ∷ []

abbrev pub is_style : Option Style → Style → Bool
is_style None s = false
is_style (Some r) s = is_same r s

-- the bytes of some pieces, the first and the last in this style, or in none; the last is no blank,
-- and none is a span mark
pub record IsPart (style : Option Style) (bytes : List ℕ) : Type 0 where
  pub pieces : List PieceFacts
  pub spells : IsSpelled (text_of_tokens (print_from None 0 [] pieces)) bytes
  pub good : AllGood false false pieces
  pub known : AllKnown pieces
  pub some : blank_after true pieces ≡ false
  pub first_are : first_styles pieces ≡ in_style style
  pub last_are : last_styles [] pieces ≡ in_style style
  pub no_mark : tags_among pieces ≡ []
  pub word : word_after false pieces ≡ true

-- the bytes of a span mark, if there is one
abbrev pub mark_length : Option SpanMark → ℕ
mark_length None = 0
mark_length (Some mark) = length (tag_of mark)

-- nothing, or a span mark alone
abbrev pub nothing_before : Before
nothing_before = record { style = None; word = false; centre = false }

-- the facts about a text with a part after it
abbrev pub through : Before → Part → Before
through b p = record { style = p.style; word = true; centre = b.centre }

-- the bytes of a regular text without a translation, with these facts; this span mark, if there is
-- one, is the only one in it
pub record IsBegun (mark : Option SpanMark) (before : Before) (bytes : List ℕ) : Type 0 where
  pub pieces : List PieceFacts
  pub middle : Option Span
  pub spells : IsSpelled (text_of_tokens (print_from middle 0 [] pieces)) bytes
  pub good : AllGood false false pieces
  pub known : AllKnown pieces
  pub no_blank : blank_after false pieces ≡ false
  pub last_are : last_styles [] pieces ≡ in_style before.style
  pub marks_are : tags_among pieces ≡ tags_of mark
  pub word_is : before.word ≡ true → word_after false pieces ≡ true
  pub middle_in : LiesAmong (length pieces) middle
  pub no_middle : before.centre ≡ false → middle ≡ None
