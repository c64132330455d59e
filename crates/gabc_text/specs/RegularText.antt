-- The texts that are printed as they are written, and in which nothing is found.
use Rattle.std.specs.Prelude.{◌≡◌, ℕ, ◌+◌, ◌==◌, List, [], ◌∷◌, Bool, true, false, not, ◌&&◌, ◌||◌, if◌then◌else◌, nat_lt, slice_index, codes, cond, Option, Some, None}
use Rattle.std.specs.List.{starts_with}
use Rattle.gabc_places.specs.declared.place.Place.{Place}
use Rattle.gabc_text.specs.declared.span_mark.SpanMark.{SpanMark}
use Rattle.gabc_text.specs.declared.span_mark.SpanMark.TheVariants.{OpensEu, ClosesEu, OpensNlba, ClosesNlba}
use Rattle.gabc_text.specs.Token.{is_blank, is_special}
use Rattle.gabc_text.specs.View.{findings}
use Rattle.gabc_text.specs.ViewFacts.{view_facts}
use Rattle.gabc_text.specs.Printed.{print, text_tokens, translation_tokens, text_of_tokens}

-- a text that is its own printed form, begins no word, and has no finding
pub record IsRegularText (t : List ℕ) : Type 0 where
  pub printed : print (view_facts t) ≡ t
  pub no_start : (view_facts t).word_start ≡ false
  pub nothing : (at : Place) → findings at t ≡ []

-- the printed form of this text but for its translation, and of its translation with the brackets
abbrev pub text_part : List ℕ → List ℕ
text_part t = text_of_tokens (text_tokens (view_facts t))

abbrev pub translation_part : List ℕ → List ℕ
translation_part t = text_of_tokens (translation_tokens (view_facts t).translation)

-- the tag of a span mark, the mark that bytes begin with, and the tags of one or none
abbrev pub tag_of : SpanMark → List ℕ
tag_of OpensEu = codes "<eu>"
tag_of ClosesEu = codes "</eu>"
tag_of OpensNlba = codes "<nlba>"
tag_of ClosesNlba = codes "</nlba>"

abbrev pub begins_with : SpanMark → List ℕ → Bool
begins_with mark bytes = starts_with (λ a b. a == b) bytes (tag_of mark)

abbrev pub mark_at : List ℕ → Option SpanMark
mark_at bytes =
    cond (begins_with OpensEu bytes) (Some OpensEu)
    (cond (begins_with ClosesEu bytes) (Some ClosesEu)
    (cond (begins_with OpensNlba bytes) (Some OpensNlba)
    (cond (begins_with ClosesNlba bytes) (Some ClosesNlba)
    None)))

abbrev pub tags_of : Option SpanMark → List (List ℕ)
tags_of None = []
tags_of (Some mark) = tag_of mark ∷ []

-- blanks and comments in any order, each comment with the LF that ends it; the first flag says
-- whether a comment is open before them
abbrev pub is_gap_after : Bool → List ℕ → Bool
is_gap_after within [] = not within
is_gap_after true (c ∷ t) = is_gap_after (not (10 == c)) t
is_gap_after false (c ∷ t) = if is_blank c then is_gap_after false t else ((37 == c) && is_gap_after true t)

abbrev pub is_gap : List ℕ → Bool
is_gap t = is_gap_after false t

-- a byte of ASCII that is a letter by itself
abbrev pub is_letter_byte : ℕ → Bool
is_letter_byte b = not (is_special b) && (nat_lt 32 b && nat_lt b 127)

-- a byte within a character of several bytes; the first byte of one of two bytes, and of one from
-- U+1000 to U+CFFF
abbrev pub is_continuation : ℕ → Bool
is_continuation b = nat_lt 127 b && nat_lt b 192

abbrev pub is_first_of_two : ℕ → Bool
is_first_of_two b = nat_lt 193 b && nat_lt b 224

abbrev pub is_first_of_three : ℕ → Bool
is_first_of_three b = nat_lt 224 b && nat_lt b 237

-- the first of these bytes begins a letter
abbrev pub begins_letter : ℕ → ℕ → ℕ → Bool
begins_letter a b c = is_letter_byte a || ((is_first_of_two a && is_continuation b) || (is_first_of_three a && (is_continuation b && is_continuation c)))

-- a letter begins at this byte: one of ASCII, one of two bytes, or one from U+1000 to U+CFFF
abbrev pub has_letter_at : List ℕ → ℕ → Bool
has_letter_at bs n = begins_letter (slice_index bs n) (slice_index bs (n + 1)) (slice_index bs (n + 2))
