-- The prefix of a text: its first character, and what stands before its first `<`.
use Rattle.std.proofs.Common.{◌≡◌, ℕ, ◌+◌, ◌-◌, ◌<◌, ◌≤◌, ◌==◌, List, [], ◌∷◌, ◌++◌, true, refl, sym, ap, ◌∙◌, subst, length, take, drop, slice_index, take-append-drop, arith, IsUtf8, ne_eqb}
use Rattle.std.specs.Str.{chars, NonePass, IsCharBoundary}
use Rattle.std.specs.Char.{len_utf8}
use Rattle.std.proofs.lemmas.Bool.Decides.{nat_tests}
use Rattle.std.proofs.lemmas.List.{drop_more, get_or-take, length-take, length-take-le}
use Rattle.std.proofs.lemmas.Str.{encode_ascii, chars-append, chars_past_char, chars-nil, IsUtf8-take, IsUtf8-drop, IsCharBoundary-before_ascii, IsCharBoundary-from_take, IsCharBoundary-past_char, drop_past_char}
use Rattle.memchr.specs.Find.{Nowhere, NoneBefore, Passes, is_byte}
use lib.Utf8.{encode}
use Rattle.gabc_text.specs.Token.{before_first}
use Rattle.gabc_text.proofs.tokens.TokensByCharacter.{lacks, before_lacks, before_all}
use Rattle.gabc_text.specs.View.{bytes_of}
use Rattle.gabc_text.proofs.machine.TokenStateByCharacter.{turned}
use Rattle.gabc_text.proofs.machine.LoopOverText.{bytes_chars}
use Rattle.gabc_places.proofs.texts.LinesAreCutAtReturns.{no_byte}

lacks_none : (cs : List ℕ) → NonePass (λ c. c == 60) cs → lacks 60 cs ≡ true
lacks_none [] h = refl
lacks_none (c ∷ cs) h = rw (turned 60 c h.0, lacks_none cs h.1) refl

-- no `<` stands before the first
pub none_before : (cs : List ℕ) → NonePass (λ c. c == 60) (before_first 60 cs)
none_before [] = tt
none_before (c ∷ cs) = grind (arith, turned, none_before cs)

-- ---- what stands before the first `<`

pub prefix_none : (bs : List ℕ) → IsUtf8 bs → Nowhere (Passes (is_byte 60) bs) 0 (length bs) → chars bs ≡ before_first 60 (chars bs)
prefix_none bs u none = sym (before_all 60 (chars bs) (lacks_none (chars bs) (no_byte 60 (omega arith) bs u (λ k less is. none k (omega arith) less is))))

pub prefix_some : (bs prefix : List ℕ) (at : ℕ) → IsUtf8 bs → NoneBefore (Passes (is_byte 60) bs) 0 (length bs) at → (slice_index bs at == 60) ≡ true → prefix ≡ take at bs → chars prefix ≡ before_first 60 (chars bs)
prefix_some bs prefix at u first is f =
    let same : slice_index bs at ≡ 60 = grind (arith, nat_tests) in
    let here : IsCharBoundary bs at = IsCharBoundary-before_ascii bs at first.high (omega arith) in
    let v : IsUtf8 (take at bs) = IsUtf8-take bs at u here in
    let w : IsUtf8 (drop at bs) = IsUtf8-drop bs at u here in
    let tag : drop at bs ≡ encode 60 ++ drop (at + 1) bs = drop_more bs at 0 first.high ∙ rw (same, encode_ascii 60 (omega arith)) refl in
    let back : chars (drop at bs) ≡ 60 ∷ chars (drop (at + 1) bs) = chars_past_char (drop at bs) (drop (at + 1) bs) 60 w tag in
    let whole : chars bs ≡ chars (take at bs) ++ chars (drop at bs) = ap chars (sym (take-append-drop at bs)) ∙ chars-append (take at bs) (drop at bs) v in
    let none : NonePass (λ c. c == 60) (chars (take at bs)) = no_byte 60 (omega arith) (take at bs) v (λ k less is.
    let short : k < at = omega (arith, length-take-le at bs (omega arith)) in
    first.before k (omega arith) short (rw (get_or-take at bs k 0 short) at is)) in
    ap chars f ∙ sym (ap (before_first 60) (whole ∙ ap (λ (x : List ℕ). chars (take at bs) ++ x) back) ∙ before_lacks 60 (chars (take at bs)) (chars (drop (at + 1) bs)) (lacks_none (chars (take at bs)) none))

-- ---- a text that is cut after a prefix

shorter : (bs prefix : List ℕ) → prefix ≡ take (length prefix) bs → length prefix ≤ length bs
shorter bs prefix f = omega (arith, ap (length {A = ℕ}) f, length-take (length prefix) bs)

pub prefix_boundary : (bs prefix : List ℕ) → IsUtf8 bs → IsUtf8 prefix → prefix ≡ take (length prefix) bs → IsCharBoundary bs (length prefix)
prefix_boundary bs prefix u v f = IsCharBoundary-from_take bs (length prefix) u (shorter bs prefix f) (subst IsUtf8 f v)

pub prefix_chars : (bs prefix back : List ℕ) → IsUtf8 prefix → prefix ≡ take (length prefix) bs → back ≡ drop (length prefix) bs → chars bs ≡ chars prefix ++ chars back
prefix_chars bs prefix back v f g =
    ap chars (sym (take-append-drop (length prefix) bs) ∙ ap (λ (x : List ℕ). x ++ drop (length prefix) bs) (sym f) ∙ ap (λ (x : List ℕ). prefix ++ x) (sym g)) ∙ chars-append prefix back v

-- a text that begins with another character has such a prefix
pub some_prefix : (bs prefix cs : List ℕ) (c : ℕ) → chars bs ≡ c ∷ cs → ¬ (c ≡ 60) → chars prefix ≡ before_first 60 (chars bs) → 0 < length prefix
some_prefix bs [] cs c e n f = grind (arith, chars-nil, ne_eqb)
some_prefix bs (b ∷ prefix) cs c e n f = omega arith

-- ---- a text that is cut after its first character

pub no_more : (n : ℕ) → 0 + n ≡ n
no_more n = omega arith

pub first_boundary : (bs more : List ℕ) (c : ℕ) → IsUtf8 bs → bs ≡ encode c ++ more → IsCharBoundary bs (len_utf8 c)
first_boundary bs more c u e = subst (IsCharBoundary bs) (no_more (len_utf8 c)) (IsCharBoundary-past_char bs more 0 c (omega arith) u e)

pub first_chars : (bs more after : List ℕ) (c : ℕ) → IsUtf8 bs → bs ≡ encode c ++ more → after ≡ drop (len_utf8 c) bs → chars bs ≡ c ∷ chars after
first_chars bs more after c u e f =
    chars_past_char bs more c u e ∙ ap (λ (x : List ℕ). c ∷ chars x) (sym (drop_past_char bs more 0 c e) ∙ ap (λ (n : ℕ). drop n bs) (no_more (len_utf8 c)) ∙ sym f)

-- ---- how many bytes stand before the rest of a text

pub bytes_before : (body rest : List ℕ) (index : ℕ) → IsUtf8 body → IsUtf8 rest → length rest ≤ length body → index ≡ length body - length rest → index + bytes_of (chars rest) ≡ bytes_of (chars body)
bytes_before body rest index u v h e = omega (arith, bytes_chars body u, bytes_chars rest v)
