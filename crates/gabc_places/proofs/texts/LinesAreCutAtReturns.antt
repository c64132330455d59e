-- Bytes up to a CR byte are characters up to a CR.
use Rattle.std.proofs.Common.{◌≡◌, ℕ, ◌+◌, ◌<◌, ◌≤◌, Bool, true, false, cond, List, [], ◌∷◌, ◌++◌, filter, length, take, drop, slice_index, refl, ap, sym, ◌∙◌, arith, append_assoc, length-append, ◌==◌, IsUtf8}
use Rattle.std.specs.Str.{chars, IsCharBoundary, NonePass}
use Rattle.std.proofs.lemmas.Bool.Decides.{nat_tests}
use Rattle.std.proofs.lemmas.List.{take-append-drop, drop_more, get_or-append-add, get_or-take, length-take-le}
use Rattle.std.proofs.lemmas.Str.{encodes-chars, encode_ascii, IsCharBoundary-after_ascii}
use Rattle.memchr.specs.Find.{Nowhere, NoneBefore, Passes, is_byte}
use Rattle.gabc_places.specs.Text.{is_shown, text_of_characters}
use Rattle.gabc_places.proofs.texts.CharactersOfStrings.{chars-split}
use Rattle.gabc_places.proofs.texts.TextIsReadLineByLine.{text_after, line-shown, line-last, after-return}
use lib.Utf8.{encode, encodes}
use Rattle.gabc_places.proofs.NumbersByTests.{same_eqb}

-- no byte is this one
abbrev pub LacksByte : ℕ → List ℕ → Type 0
LacksByte d bs = (k : ℕ) → k < length bs → ¬ ((slice_index bs k == d) ≡ true)

first_is : (d : ℕ) → d < 128 → (b : Bool) (c : ℕ) (bs : List ℕ) → (c == d) ≡ b → LacksByte d (encode c ++ bs) → b ≡ false
first_is d low true c bs e none =
    let same : c ≡ d = grind (arith, nat_tests) in
    let at : encode c ++ bs ≡ d ∷ bs = rw (same, encode_ascii d low) refl in
    absurd (none 0 (omega (arith, ap length at)) (rw at (same_eqb d)))
first_is d low false c bs e none = refl

-- where no byte is one of ASCII, no character is it
none_of : (d : ℕ) → d < 128 → (cs : List ℕ) → LacksByte d (encodes cs) → NonePass (λ c. c == d) cs
none_of d low [] none = tt
none_of d low (c ∷ cs) none = (
  first_is d low (c == d) c (encodes cs) refl none,
  none_of d low cs (λ k less is. none (length (encode c) + k) (omega (arith, length-append (encode c) (encodes cs))) (rw (get_or-append-add (encode c) (encodes cs) k 0) is)),
)

-- without the byte there is no such character
pub no_byte : (d : ℕ) → d < 128 → (bs : List ℕ) → IsUtf8 bs → LacksByte d bs → NonePass (λ c. c == d) (chars bs)
no_byte d low bs u none = grind (arith, none_of, encodes-chars)

pub no-return : (bs : List ℕ) → IsUtf8 bs → Nowhere (Passes (is_byte 13) bs) 0 (length bs) → NonePass (λ c. c == 13) (chars bs)
no-return bs u none = no_byte 13 (omega arith) bs u (λ k less is. none k (omega arith) less is)

no-return-prefix : (bs prefix : List ℕ) (at : ℕ) → prefix ≡ take at bs → at ≤ length bs → IsUtf8 prefix → Nowhere (Passes (is_byte 13) bs) 0 at → NonePass (λ c. c == 13) (chars prefix)
no-return-prefix bs prefix at e le u none = grind (arith, no-return, length-take-le, get_or-take)

-- the characters around a CR byte
chars-cut : (bs prefix after : List ℕ) (at : ℕ) → at < length bs → (slice_index bs at == 13) ≡ true → prefix ≡ take at bs → after ≡ drop (at + 1) bs → IsUtf8 prefix → IsUtf8 after → chars bs ≡ chars prefix ++ 13 ∷ chars after
chars-cut bs prefix after at less is e f u v =
    let same : slice_index bs at ≡ 13 = grind (arith, nat_tests) in
    let ascii : encode 13 ≡ 13 ∷ [] = encode_ascii 13 (omega arith) in
    let whole : bs ≡ prefix ++ (encode 13 ++ after) = sym (take-append-drop at bs) ∙ ap (λ l. take at bs ++ l) (drop_more bs at 0 less) ∙ rw (same, ← e, ← f, ascii) refl in
    chars-split bs prefix after 13 refl u v whole

-- the text of bytes is the line before the first CR byte, an LF, and the text of what follows, where an LF directly after the CR is left out
pub line-read : (bs prefix after next : List ℕ) (at : ℕ) → IsUtf8 prefix → IsUtf8 after → prefix ≡ take at bs → after ≡ drop (at + 1) bs
    → NoneBefore (Passes (is_byte 13) bs) 0 (length bs) at → (slice_index bs at == 13) ≡ true
    → chars next ≡ cond (slice_index (chars after) 0 == 10) (drop 1 (chars after)) (chars after)
    → text_of_characters (chars bs) ≡ filter is_shown (chars prefix) ++ 10 ∷ text_of_characters (chars next)
line-read bs prefix after next at u v e f first is n =
    ap (text_after 0) (chars-cut bs prefix after at first.high is e f u v)
    ∙ line-shown 0 (chars prefix) (chars after) refl (no-return-prefix bs prefix at e (omega arith) u first.before)
    ∙ ap (λ l. filter is_shown (chars prefix) ++ 10 ∷ l) (after-return (chars after) (chars next) n)

-- the text of bytes without CR
pub last-read : (bs : List ℕ) → IsUtf8 bs → Nowhere (Passes (is_byte 13) bs) 0 (length bs) → text_of_characters (chars bs) ≡ filter is_shown (chars bs)
last-read bs u none = line-last 0 (chars bs) refl (no-return bs u none)

-- a line and an LF are added to the text so far
pub line-added : (text shown rest before : List ℕ) → before ≡ shown ++ 10 ∷ rest → ((text ++ shown) ++ 10 ∷ []) ++ rest ≡ text ++ before
line-added text shown rest before e = append_assoc (text ++ shown) (10 ∷ []) rest ∙ append_assoc text shown (10 ∷ rest) ∙ ap (λ l. text ++ l) (sym e)

-- bytes may be cut after a CR byte
pub cut-after : (bs : List ℕ) (at : ℕ) → IsUtf8 bs → at < length bs → (slice_index bs at == 13) ≡ true → IsCharBoundary bs (at + 1)
cut-after bs at u less is = IsCharBoundary-after_ascii bs at u less (let same : slice_index bs at ≡ 13 = grind (arith, nat_tests) in omega arith)
