-- Counts and places of a text that grows.
use Rattle.std.proofs.Common.{◌≡◌, ℕ, ◌+◌, ◌<◌, ◌≤◌, ◌^◌, ◌==◌, List, [], ◌∷◌, ◌++◌, Bool, cond, refl, ap, map, length, length-append, Option, arith}
use Rattle.std.specs.Char.{len_utf8}
use Rattle.gabc_places.specs.Place.{next_place, place_past, placed_characters_from, saturating_next_place}
use Rattle.gabc_places.specs.declared.place.Place.{Place}
use Rattle.gabc_places.specs.declared.place.Char.{Char}
use Rattle.gabc_text.specs.declared.view.PieceKind.{PieceKind}
use Rattle.gabc_text.specs.Token.{Token, spelling}
use Rattle.gabc_text.specs.View.{text_of, bytes_of, kept_at, count_pieces, pieces_at, piece_of, kind_of}
use Rattle.gabc_text.specs.Events.{kept_of, chars_at}
use Rattle.gabc_text.specs.TextStage.{count_plus}

-- the bytes of two texts
pub bytes_append : (s t : List ℕ) → bytes_of (s ++ t) ≡ bytes_of s + bytes_of t
bytes_append [] t = omega arith
bytes_append (c ∷ s) t = omega (arith, bytes_append s t)

-- a character has a byte at least
pub some_bytes : (c : ℕ) → 0 < len_utf8 c
some_bytes c = grind arith

-- a count that does not reach its last value
pub up_is : (n m : ℕ) → n + m < 2 ^ 64 → count_plus n m ≡ n + m
up_is n m h = omega arith

-- the place to come, where no count reaches its last value
pub later_is : (p : Place) (c : ℕ) → p.line + 1 < 2 ^ 64 → p.column + 1 < 2 ^ 64 → saturating_next_place p c ≡ next_place p c
later_is p c h g = rw (up_is p.line 1 h, up_is p.column 1 g) refl

abbrev next_by : Bool → Place → Place
next_by b p = cond b (record { line = p.line + 1; column = 1 }) (record { line = p.line; column = p.column + 1 })

next_small : (b : Bool) (p : Place) → ((next_by b p).line ≤ p.line + 1) × ((next_by b p).column ≤ p.column + 1)
next_small b p = grind arith

line_next : (p : Place) (c : ℕ) → ((next_place p c).line ≤ p.line + 1) × ((next_place p c).column ≤ p.column + 1)
line_next p c = next_small (c == 10) p

-- a place is no further than the characters before it
pub place_small : (p : Place) (t : List ℕ) → ((place_past p t).line ≤ p.line + length t) × ((place_past p t).column ≤ p.column + length t)
place_small p [] = (omega arith, omega arith)
place_small p (c ∷ t) = grind (arith, line_next, place_small (next_place p c) t)

pub kept_at_small : (before : List Token) (k : Token) → bytes_of (kept_at before k) ≤ bytes_of (spelling k)
kept_at_small before k = grind arith

-- no more bytes are kept than there are
pub kept_small : (before : List Token) → bytes_of (kept_of before) ≤ bytes_of (text_of before)
kept_small [] = omega arith
kept_small (k ∷ before) = omega (arith, kept_small before, kept_at_small before k, bytes_append (kept_of before) (kept_at before k), bytes_append (text_of before) (spelling k))

one_piece_by : (before : List Token) (k : Token) (o : Option PieceKind) → length (piece_of before k o) ≤ 1
one_piece_by before k o = grind arith

one_piece : (before : List Token) (k : Token) → length (pieces_at before k) ≤ 1
one_piece before k = one_piece_by before k (kind_of k)

-- no more pieces than characters
pub pieces_small : (before : List Token) → count_pieces before ≤ length (text_of before)
pieces_small [] = omega arith
pieces_small (k ∷ before) = omega (arith, pieces_small before, one_piece before k, length-append (text_of before) (spelling k))

-- ---- the characters that are kept, without their places

codes_placed : (p : Place) (s : List ℕ) → map (λ (c : Char). c.c) (placed_characters_from p s) ≡ s
codes_placed p [] = refl
codes_placed p (c ∷ s) = ap (λ (t : List ℕ). c ∷ t) (codes_placed (next_place p c) s)

pub codes_kept : (at : Place) (before : List Token) (k : Token) → map (λ (c : Char). c.c) (chars_at at before k) ≡ kept_at before k
codes_kept at before k = grind (arith, codes_placed)
