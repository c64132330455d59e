-- What a text says, reported from its first token on.
use Rattle.std.proofs.Common.{ℕ, ◌-◌, List, [], ◌∷◌, cond, not, ◌&&◌, Option, Some, None, length, take, min, reverse}
use Rattle.gabc_places.specs.declared.place.Span.{Span}
use Rattle.gabc_text.specs.declared.token.TokenKind.{TokenKind}
use Rattle.gabc_text.specs.declared.token.TokenKind.TheVariants.{Translation}
use Rattle.gabc_text.specs.Token.{Token, tokens}
use Rattle.gabc_text.specs.View.{along, PieceFacts, pieces_at, starts_word, is_begin, is_end, has_begin, has_end, count_pieces}
use Rattle.gabc_text.specs.ViewFacts.{ViewFacts, but_blank}

-- the positions of the first `{`, and of the first `}` after it: how many pieces stand before it
abbrev pub begin_at : List Token → Token → List ℕ
begin_at before k = cond (is_begin k.kind && not (has_begin before)) (count_pieces before ∷ []) []

abbrev pub end_at : List Token → Token → List ℕ
end_at before k = cond (is_end k.kind && has_begin before && not (has_end before)) (count_pieces before ∷ []) []

abbrev pub centre_by : ℕ → List ℕ → List ℕ → Option Span
centre_by count (from ∷ _) (to ∷ _) = Some (record { from = min from count; to = min to count })
centre_by count (from ∷ _) [] = Some (record { from = min from count; to = count })
centre_by count [] _ = None

-- the first translation, without its brackets
abbrev pub translation_by : TokenKind → List ℕ → Option (List ℕ) → Option (List ℕ)
translation_by Translation more others = Some (take (length more - 1) more)
translation_by _ more others = others

abbrev pub translation_from : List Token → Option (List ℕ)
translation_from [] = None
translation_from (k ∷ ks) = translation_by k.kind k.more (translation_from ks)

abbrev pub pieces_of : List Token → List PieceFacts
pieces_of ks = but_blank (along pieces_at [] ks)

abbrev pub view_by : List Token → ViewFacts
view_by ks = record {
  word_start = starts_word (reverse ks);
  pieces = pieces_of ks;
  centre = centre_by (length (pieces_of ks)) (along begin_at [] ks) (along end_at [] ks);
  translation = translation_from ks;
}

abbrev pub view : List ℕ → ViewFacts
view t = view_by (tokens t)
