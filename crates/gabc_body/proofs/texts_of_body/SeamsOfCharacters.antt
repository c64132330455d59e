-- The bytes of characters, and where texts are cut.
use Rattle.std.proofs.Common.{◌≡◌, ℕ, ◌+◌, true, List, [], ◌∷◌, ◌++◌, length, sum_by, encode_utf8_all, refl, sym, ap, ◌∙◌, arith, append_assoc, length-append}
use Rattle.std.specs.Char.{len_utf8}
use Rattle.std.proofs.lemmas.List.{take_at, drop_at}
use Rattle.std.proofs.lemmas.List.Sums.{sum_by-cons}
use Rattle.std.proofs.lemmas.Str.{encodes-append, length-encode}
use lib.Utf8.{encode, encodes}
use Rattle.gabc_body.proofs.holding.SeamsOfText.{first_byte}
use Rattle.gabc_body.specs.Syllable.{is_seam, prefix_of}

pub texts_begin : (t : List ℕ) → is_seam (encodes t) ≡ true
texts_begin [] = refl
texts_begin (c ∷ t) = first_byte c (encodes t)

-- a text is cut between two characters
pub cut_between : (prefix back : List ℕ) → prefix_of (length (encodes prefix)) (encodes (prefix ++ back)) ≡ encodes prefix
cut_between prefix back = grind (arith, encodes-append, drop_at, texts_begin, take_at)

-- ---- how many bytes

abbrev pub size : List ℕ → ℕ
size t = length (encodes t)

pub size_append : (s t : List ℕ) → size (s ++ t) ≡ size s + size t
size_append s t = ap length (encodes-append s t) ∙ length-append (encodes s) (encodes t)

pub size_is_sum : (t : List ℕ) → sum_by len_utf8 t ≡ size t
size_is_sum [] = refl
size_is_sum (c ∷ t) =
    sum_by-cons len_utf8 c t ∙ ap (λ n. len_utf8 c + n) (size_is_sum t)
    ∙ sym (length-append (encode c) (encodes t) ∙ ap (λ n. n + size t) (length-encode c))

pub size_of_one : (c : ℕ) → size (c ∷ []) ≡ len_utf8 c
size_of_one c = sym (size_is_sum (c ∷ [])) ∙ omega arith

-- the bytes of a snippet that ends are cut to those of its kept text without an unfinished end
pub cut_is : (from n : ℕ) (kept before s rest : List ℕ) → kept ≡ encode_utf8_all (before ++ (s ++ rest)) → from ≡ size before → n ≡ size s → prefix_of (from + n) kept ≡ encode_utf8_all (before ++ s)
cut_is from n kept before s rest k f c =
    ap (λ (m : ℕ). prefix_of m kept) (ap (λ (m : ℕ). m + n) f ∙ ap (λ (m : ℕ). size before + m) c ∙ sym (length-append (encode_utf8_all before) (encode_utf8_all s)) ∙ ap length (sym (encodes-append before s)))
    ∙ ap (prefix_of (size (before ++ s))) (k ∙ ap encode_utf8_all (sym (append_assoc before s rest)))
    ∙ cut_between (before ++ s) rest
