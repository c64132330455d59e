-- Texts as bytes and as characters.
use Rattle.std.proofs.Common.{◌≡◌, ℕ, List, [], ◌∷◌, ◌++◌, ◌+◌, length, length-append, arith, ◌<◌, zero-add, Bool, true, false, refl, sym, ap, ◌∙◌, subst, bytes_eq, codes, eq-eqb, IsUtf8}
use Rattle.std.specs.Cmp.Lexicographic.{same_text}
use Rattle.std.specs.Str.{chars, is_utf8, IsAscii}
use Rattle.std.proofs.lemmas.Str.{encodes-chars, length-encode, chars-IsAscii, IsUtf8-from_is_utf8}
use lib.Utf8.{encode, encodes}
use Rattle.std.specs.Char.{len_utf8}
use Rattle.std.proofs.lemmas.List.Sums.{sum_by-append}
use Rattle.gabc_headers.specs.Lines.{bytes_len}
use Rattle.gabc_headers.specs.Book.{macro_name}

-- a text is itself
pub bytes_eq_self : (a : List ℕ) → bytes_eq a a ≡ true
bytes_eq_self [] = refl
bytes_eq_self (c ∷ a) = rw (eq-eqb c c refl) (bytes_eq_self a)

eq_flip : (a b : List ℕ) → bytes_eq a b ≡ true → bytes_eq b a ≡ true
eq_flip a b e = subst (λ (x : List ℕ). bytes_eq x a ≡ true) (same_text a b (sym e)) (bytes_eq_self a)

-- two texts are the same either way
pub bytes_eq_sym : (a b : List ℕ) → bytes_eq a b ≡ bytes_eq b a
bytes_eq_sym a b = grind (arith, eq_flip)

-- two texts have the same bytes exactly if they have the same characters
pub bytes_eq-chars : (a b : List ℕ) → IsUtf8 a → IsUtf8 b → bytes_eq (chars a) (chars b) ≡ bytes_eq a b
bytes_eq-chars a b u v = by (bytes_eq (chars a) (chars b)) (bytes_eq a b) refl refl
  where
    by : (x y : Bool) → bytes_eq (chars a) (chars b) ≡ x → bytes_eq a b ≡ y → x ≡ y
    by true y e f =
        let s : a ≡ b = sym (encodes-chars a u) ∙ (ap encodes (same_text (chars a) (chars b) (sym e)) ∙ encodes-chars b v) in
        sym (sym f ∙ subst (λ (x : List ℕ). bytes_eq a x ≡ true) s (bytes_eq_self a))
    by false true e f = sym e ∙ subst (λ (x : List ℕ). bytes_eq (chars a) (chars x) ≡ true) (same_text a b (sym f)) (bytes_eq_self (chars a))
    by false false e f = refl

-- words of ASCII are texts, and their own characters
pub chars-annotation : chars (codes "annotation") ≡ codes "annotation"
unfolding chars
chars-annotation = refl

utf8-annotation : is_utf8 (codes "annotation") ≡ true
unfolding is_utf8 chars encode
utf8-annotation = refl

pub chars-nabc_lines : chars (codes "nabc-lines") ≡ codes "nabc-lines"
unfolding chars
chars-nabc_lines = refl

utf8-nabc_lines : is_utf8 (codes "nabc-lines") ≡ true
unfolding is_utf8 chars encode
utf8-nabc_lines = refl

pub chars-name : chars (codes "name") ≡ codes "name"
unfolding chars
chars-name = refl

-- a text whose characters are known
pub bytes_eq-text : (a b : List ℕ) → IsUtf8 a → IsUtf8 b → chars b ≡ b → bytes_eq (chars a) b ≡ bytes_eq a b
bytes_eq-text a b u v e = ap (λ (x : List ℕ). bytes_eq (chars a) x) (sym e) ∙ bytes_eq-chars a b u v

pub annotation-chars : (a : List ℕ) → IsUtf8 a → bytes_eq (chars a) (codes "annotation") ≡ bytes_eq a (codes "annotation")
annotation-chars a u = bytes_eq-text a (codes "annotation") u (IsUtf8-from_is_utf8 (codes "annotation") utf8-annotation) chars-annotation

pub nabc_lines-chars : (a : List ℕ) → IsUtf8 a → bytes_eq (chars a) (codes "nabc-lines") ≡ bytes_eq a (codes "nabc-lines")
nabc_lines-chars a u = bytes_eq-text a (codes "nabc-lines") u (IsUtf8-from_is_utf8 (codes "nabc-lines") utf8-nabc_lines) chars-nabc_lines

-- the bytes of texts one after the other
pub bytes_len-append : (a b : List ℕ) → bytes_len (a ++ b) ≡ bytes_len a + bytes_len b
bytes_len-append a b = sum_by-append len_utf8 a b

pub bytes_len-cons : (c : ℕ) (cs : List ℕ) → bytes_len (c ∷ cs) ≡ len_utf8 c + bytes_len cs
bytes_len-cons c cs = sum_by-append len_utf8 (c ∷ []) cs ∙ ap (λ (n : ℕ). n + bytes_len cs) (zero-add (len_utf8 c))

-- the bytes of characters
pub length-encodes : (cs : List ℕ) → length (encodes cs) ≡ bytes_len cs
length-encodes [] = refl
length-encodes (c ∷ cs) = length-append (encode c) (encodes cs) ∙ (ap (λ (n : ℕ). n + length (encodes cs)) (length-encode c) ∙ (ap (λ (n : ℕ). len_utf8 c + n) (length-encodes cs) ∙ sym (bytes_len-cons c cs)))

-- a text's bytes are those of its characters
pub bytes_len-chars : (bs : List ℕ) → IsUtf8 bs → bytes_len (chars bs) ≡ length bs
bytes_len-chars bs u = sym (length-encodes (chars bs)) ∙ ap length (encodes-chars bs u)

-- the name of a macro's header is ASCII
macro_ascii : (d : ℕ) → d < 10 → IsAscii (macro_name d)
macro_ascii d h k = grind arith

pub chars-macro : (d : ℕ) → d < 10 → chars (macro_name d) ≡ macro_name d
chars-macro d h = chars-IsAscii (macro_name d) (macro_ascii d h)
