-- Worked rows of the definitions of specs/KeptText.antt.
use Rattle.std.proofs.Common.{◌≡◌, ℕ, List, [], ◌∷◌, true, false, refl, codes, Some, None}
use Rattle.std.specs.Prelude.{reverse}
use Rattle.gabc_places.specs.declared.code.Code.TheVariants.{E2, W3, W4, W5, W6}
use Rattle.gabc_places.specs.declared.place.Span.{Span}
use Rattle.gabc_places.specs.Fate.{Fate, Keep, Comment, Ends, LeaveOut}
use Rattle.gabc_text.specs.declared.view.Piece.{Piece}
use Rattle.gabc_text.specs.declared.view.PieceKind.{PieceKind}
use Rattle.gabc_text.specs.declared.view.PieceKind.TheVariants as piece
use Rattle.gabc_text.specs.Token.{tokens}
use Rattle.gabc_text.specs.KeptText.{view_of_kept, fate_in_text, kept_after, codes_with}
use Rattle.gabc_text.specs.TextSpan.{no_styles}

abbrev span : ℕ → ℕ → Span
span from to = record { from = from; to = to }

abbrev plain : PieceKind → ℕ → ℕ → Piece
plain kind from to = record { kind = kind; styles = no_styles; span = span from to }

abbrev italic : PieceKind → ℕ → ℕ → Piece
italic kind from to = record { kind = kind; styles = record no_styles { i = true }; span = span from to }

-- ---- what a kept text says

-- a word after a blank, a tag, braces and a translation
says_all : view_of_kept (codes " a<i>{b}</i>[so]")
    ≡ record { word_start = true; pieces = plain piece.Char 1 2 ∷ italic piece.Char 6 7 ∷ []; centre = Some (span 1 2); translation = Some (span 13 15) }
says_all = refl

-- a `$` by itself, and one before a bracket; blanks between and at the end, and an accent of two bytes
says_dollars : view_of_kept (codes "$é $( ")
    ≡ record { word_start = false; pieces = plain piece.Char 0 1 ∷ plain piece.Char 1 3 ∷ plain piece.Blank 3 4 ∷ plain piece.Char 5 6 ∷ []; centre = None; translation = None }
says_dollars = refl

-- a raw part, a mark and a tag of no known name; of two translations the first, and a centre to the end
says_tags : view_of_kept (codes "<sp>ae</sp><eu><q>[x]{a[y]")
    ≡ record { word_start = false; pieces = plain piece.Raw 0 11 ∷ plain piece.Mark 11 15 ∷ plain piece.Tag 15 18 ∷ plain piece.Char 22 23 ∷ []; centre = Some (span 3 4); translation = Some (span 19 20) }
says_tags = refl

-- ---- what becomes of a character after it

abbrev fate : List ℕ → ℕ → Fate
fate kept c = fate_in_text (reverse (tokens kept)) c

notes : fate (codes "a") 40 ≡ Ends
notes = refl

escaped : fate (codes "a$") 40 ≡ Keep
escaped = refl

within_tag : fate (codes "a<sp>(") 37 ≡ Keep
within_tag = refl

comment : fate (codes "[x]") 37 ≡ Comment
comment = refl

stray : fate (codes "a") 93 ≡ LeaveOut (Some E2)
stray = refl

second_brace : fate (codes "{a") 123 ≡ LeaveOut (Some W4)
second_brace = refl

closing_brace : fate (codes "{a") 125 ≡ Keep
closing_brace = refl

late_brace : fate (codes "{a}b") 125 ≡ LeaveOut (Some W4)
late_brace = refl

second_blank : fate (codes "a ") 10 ≡ LeaveOut None
second_blank = refl

-- a line end is kept as a blank, but not within a translation
line_end : kept_after (reverse (tokens (codes "a"))) 10 ≡ codes " "
line_end = refl

line_end_within : kept_after (reverse (tokens (codes "[a"))) 10 ≡ 10 ∷ []
line_end_within = refl

-- ---- what is found with its last character

unknown_tag : codes_with (reverse (tokens (codes "a<q>"))) ≡ W6 ∷ []
unknown_tag = refl

open_twice : codes_with (reverse (tokens (codes "<i>a<i>"))) ≡ W3 ∷ []
open_twice = refl

second_translation : codes_with (reverse (tokens (codes "[a]b["))) ≡ W5 ∷ []
second_translation = refl
