-- The first row of a table of names that has a code.
use Rattle.std.proofs.Common.{◌≡◌, ℕ, ◌==◌, ◌&&◌, ◌<◌, ◌≤◌, ◌+◌, length, List, ◌∷◌, Option, Some, None, map, cond, drop, Bor, ap, ◌∙◌, arith, Bool, false, slice_index_or, ◌++◌, IsUtf8, MatchOption}
use Rattle.std.proofs.lemmas.Bool.Decides.{nat_tests}
use Rattle.std.proofs.Math.Seq.{drop-cons}
use Rattle.std.proofs.lemmas.List.{drop_all}
use Rattle.std.specs.Str.{chars}
use Rattle.std.proofs.lemmas.Str.{chars_past_char, IsUtf8-past_char}
use lib.Utf8.{encode}
use Rattle.gabc_nabc.specs.Names.{name_among, name_by, name_in}
use Rattle.gabc_places.proofs.texts.CharactersOfStrings.{chars-none}

abbrev pub Row : Type 0
Row = ℕ × ℕ × Bor (List ℕ)

abbrev pub plain : Row → ℕ × ℕ × List ℕ
plain row = (row.0, row.1, row.2.now)

here : (a b i : ℕ) (rows : List Row) (d : Row) → i < length rows
    → name_among a b (map plain (drop i rows)) ≡ cond (((slice_index_or rows i d).0 == a) && ((slice_index_or rows i d).1 == b)) (Some (slice_index_or rows i d).2.now) (name_among a b (map plain (drop (i + 1) rows)))
here a b i rows d l = grind (arith, drop-cons)

-- the row has the code
pub has_code : (a b i : ℕ) (rows : List Row) (d : Row) → i < length rows → (slice_index_or rows i d).0 ≡ a → (slice_index_or rows i d).1 ≡ b
    → name_among a b (map plain (drop i rows)) ≡ Some (slice_index_or rows i d).2.now
has_code a b i rows d l e f = here a b i rows d l ∙ grind (arith, nat_tests, e, f)

-- the row has not the code
pub other_code : (a b i : ℕ) (rows : List Row) (d : Row) → i < length rows → (((slice_index_or rows i d).0 == a) && ((slice_index_or rows i d).1 == b)) ≡ false
    → name_among a b (map plain (drop i rows)) ≡ name_among a b (map plain (drop (i + 1) rows))
other_code a b i rows d l e = here a b i rows d l ∙ ap (λ (t : Bool). cond t (Some (slice_index_or rows i d).2.now) (name_among a b (map plain (drop (i + 1) rows)))) e

-- no rows are left
pub no_code : (a b i : ℕ) (rows : List Row) → length rows ≤ i → name_among a b (map plain (drop i rows)) ≡ None
no_code a b i rows l = ap (λ (u : List Row). name_among a b (map plain u)) (drop_all i rows l)

-- ---- the letters of a text

-- the characters of a text after its first one
abbrev pub After : List ℕ → ℕ → List ℕ → Type 0
After bs c rest = (chars bs ≡ c ∷ chars rest) × IsUtf8 rest

after : (bs rest : List ℕ) (c : ℕ) → IsUtf8 bs → bs ≡ encode c ++ rest → After bs c rest
after bs rest c u e = (chars_past_char bs rest c u e, IsUtf8-past_char bs rest c u e)

-- what is known where there is none
pub none_of : (A : Type 0) (B : ℕ → Type 0) (o : Option ℕ) → o ≡ None → MatchOption o A B → A
none_of A B o e h = grind arith

-- no character
pub no_letters : (bs : List ℕ) → length bs ≡ 0 → name_in (chars bs) ≡ None
no_letters bs l = ap name_in (chars-none bs l)

-- one
pub one_letter : (bs more : List ℕ) (a : ℕ) → IsUtf8 bs → bs ≡ encode a ++ more → length more ≡ 0 → name_in (chars bs) ≡ None
one_letter bs more a u e l = ap name_in ((after bs more a u e).0 ∙ ap (λ (t : List ℕ). a ∷ t) (chars-none more l))

-- two
pub two_letters : (bs more rest : List ℕ) (a b : ℕ) → IsUtf8 bs → bs ≡ encode a ++ more → more ≡ encode b ++ rest → length rest ≡ 0 → name_in (chars bs) ≡ name_by a b
two_letters bs more rest a b u e f l =
    let x = after bs more a u e in
    let y = after more rest b x.1 f in
    ap name_in (x.0 ∙ ap (λ (t : List ℕ). a ∷ t) (y.0 ∙ ap (λ (t : List ℕ). b ∷ t) (chars-none rest l)))

-- three
pub three_letters : (bs more rest last : List ℕ) (a b d : ℕ) → IsUtf8 bs → bs ≡ encode a ++ more → more ≡ encode b ++ rest → rest ≡ encode d ++ last
    → name_in (chars bs) ≡ None
three_letters bs more rest last a b d u e f g =
    let x = after bs more a u e in
    let y = after more rest b x.1 f in
    let z = after rest last d y.1 g in
    ap name_in (x.0 ∙ ap (λ (t : List ℕ). a ∷ t) (y.0 ∙ ap (λ (t : List ℕ). b ∷ t) z.0))
