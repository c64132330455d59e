-- What a text's view says, and where its spans lie in the kept text.
use Rattle.std.specs.Prelude.{Bool, true, false, ◌≡◌, ℕ, ◌≤◌, List, [], ◌∷◌, ◌++◌, cond, not, ◌&&◌, length, map, filter, Option, Some, None, reverse, codes}
use Rattle.std.specs.List.{list_any}
use Rattle.gabc_places.specs.declared.place.Span.{Span}
use Rattle.gabc_places.specs.declared.code.Code.{Code}
use Rattle.gabc_places.specs.declared.code.Code.TheVariants.{E2}
use Rattle.gabc_places.specs.declared.code.Finding.{Finding}
use Rattle.gabc_text.specs.declared.view.Piece.{Piece}
use Rattle.gabc_text.specs.declared.view.PieceKind.{PieceKind}
use Rattle.gabc_text.specs.declared.view.PieceKind.TheVariants.{Mark}
use Rattle.gabc_text.specs.TextView.{ViewContent}
use Rattle.gabc_text.specs.Token.{Token, tokens}
use Rattle.gabc_text.specs.View.{along, PieceFacts, pieces_at, is_blank_piece, has_translation, starts_word, begin_of, end_of, centre_by, bytes_of}
use Rattle.gabc_text.specs.Events.{but_last, is_whole_translation}
use Rattle.gabc_text.specs.Canonical.{listed_styles}

-- ---- what is said

-- the pieces but for a blank at their end
abbrev pub but_blank : List PieceFacts → List PieceFacts
but_blank [] = []
but_blank (p ∷ []) = cond (is_blank_piece p.kind) [] (p ∷ [])
but_blank (p ∷ q ∷ ps) = p ∷ but_blank (q ∷ ps)

-- the pieces of a text
abbrev pub piece_facts_in : List ℕ → List PieceFacts
piece_facts_in t = but_blank (along pieces_at [] (tokens t))

-- a piece that is the tag of a span
abbrev pub is_mark : PieceKind → Bool
is_mark Mark = true
is_mark _ = false

-- the tags of spans among these, and in a text, in order
abbrev pub tags_among : List PieceFacts → List (List ℕ)
tags_among ps = map (λ (p : PieceFacts). p.text) (filter (λ (p : PieceFacts). is_mark p.kind) ps)

abbrev pub span_tags : List ℕ → List (List ℕ)
span_tags t = tags_among (piece_facts_in t)

-- a text but for its last character
abbrev pub but_end : List ℕ → List ℕ
but_end [] = []
but_end (c ∷ t) = but_last c t

-- the first translation between its brackets, if it is ended
abbrev pub translation_text : List Token → Option (List ℕ)
translation_text [] = None
translation_text (k ∷ before) = cond (is_whole_translation k.kind && not (has_translation before)) (Some (but_end k.more)) (translation_text before)

-- what a text says, without the spelling: its pieces, the centre between them, the translation, and
-- whether it begins a word
pub record ViewFacts : Type 0 where
  pub word_start : Bool
  pub pieces : List PieceFacts
  pub centre : Option Span
  pub translation : Option (List ℕ)

abbrev pub view_facts_by : List Token → ViewFacts
view_facts_by ks = record {
  word_start = starts_word (reverse ks);
  pieces = but_blank (along pieces_at [] ks);
  centre = centre_by (length (but_blank (along pieces_at [] ks))) (begin_of (reverse ks)) (end_of (reverse ks));
  translation = translation_text (reverse ks);
}

abbrev pub view_facts : List ℕ → ViewFacts
view_facts t = view_facts_by (tokens t)

-- ---- where it stands

-- a span of bytes holds the middle of the text, from one character's first byte to another's last
pub record StandsFor (kept : List ℕ) (s : Span) (middle : List ℕ) : Type 0 where
  pub prefix : List ℕ
  pub back : List ℕ
  pub parts : kept ≡ prefix ++ (middle ++ back)
  pub from_is : s.from ≡ bytes_of prefix
  pub to_is : s.to ≡ bytes_of (prefix ++ middle)

-- what is kept of a piece: of a character the character, of a run of blanks one
abbrev pub kept_of_piece : PieceFacts → List ℕ
kept_of_piece p = cond (is_blank_piece p.kind) (codes " ") p.text

-- the piece says this, and its span stands for it
pub record IsPieceOf (kept : List ℕ) (p : Piece) (facts : PieceFacts) : Type 0 where
  pub kind_is : p.kind ≡ facts.kind
  pub styles_are : listed_styles p.styles ≡ facts.styles
  pub stands : StandsFor kept p.span (kept_of_piece facts)

-- the pieces say these, one after another
abbrev pub ArePiecesOf : List ℕ → List Piece → List PieceFacts → Type 0
ArePiecesOf kept [] [] = Unit {0}
ArePiecesOf kept (p ∷ ps) (q ∷ qs) = IsPieceOf kept p q × ArePiecesOf kept ps qs
ArePiecesOf kept _ _ = ⊥

abbrev pub IsTranslation : List ℕ → Option Span → Option (List ℕ) → Type 0
IsTranslation kept None None = Unit {0}
IsTranslation kept (Some s) (Some t) = StandsFor kept s t
IsTranslation kept _ _ = ⊥

-- the centre lies among n pieces
abbrev pub LiesAmong : ℕ → Option Span → Type 0
LiesAmong n None = Unit {0}
LiesAmong n (Some c) = (c.from ≤ c.to) × (c.to ≤ n)

-- the view of a text with this kept text
pub record StandsForView (kept : List ℕ) (v : ViewContent) (t : List ℕ) : Type 0 where
  pub pieces : ArePiecesOf kept v.pieces (piece_facts_in t)
  pub centre : LiesAmong (length v.pieces) v.centre
  pub translation : IsTranslation kept v.translation (translation_text (reverse (tokens t)))

-- ---- errors among the findings

abbrev pub is_error : Code → Bool
is_error E2 = true
is_error _ = false

abbrev pub has_error : List Finding → Bool
has_error found = list_any (λ (f : Finding). is_error f.code) found
