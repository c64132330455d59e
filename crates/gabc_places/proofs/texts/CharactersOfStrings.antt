-- The characters of a text that grows or is cut by a character.
use Rattle.std.proofs.Common.{subst, take, ◌+◌, ◌<◌, ◌≤◌, ◌≡◌, ◌≢◌, ℕ, Bool, true, false, cond, List, [], ◌∷◌, ◌++◌, filter, length, drop, slice_index, Result, OnOk, is_ok, ap, ◌∙◌, sym, refl, append-nil, append_assoc, arith, IsUtf8}
use Rattle.std.specs.Str.{chars}
use Rattle.std.specs.Str.Pattern.{HasTextAt, LacksTextAt}
use Rattle.std.specs.Bool.{◌==◌}
use Rattle.std.specs.Char.{IsScalar}
use Rattle.std.proofs.lemmas.Bool.{and_parts}
use Rattle.std.proofs.lemmas.Bool.Decides.{nat_tests}
use Rattle.std.proofs.lemmas.List.Elements.{filter-append}
use Rattle.std.proofs.lemmas.Str.{chars-nil, chars-append, chars_past_char, encodes-chars, IsUtf8-append, IsUtf8-encode, IsUtf8-take, IsUtf8-drop, IsCharBoundary-from_drop}
use Rattle.std.proofs.lemmas.List.{take-append-drop, drop_at, length-take-le, length-append}
use Rattle.gabc_places.specs.Text.{is_shown}
use lib.Utf8.{encode, encodes, scalar, scalars}

-- the one character of its own bytes
pub chars-encode : (c : ℕ) → IsScalar c → chars (encode c) ≡ c ∷ []
chars-encode c s = chars_past_char (encode c) [] c (IsUtf8-encode c s) (sym (append-nil (encode c))) ∙ ap (λ l. c ∷ l) chars-nil

-- a character is pushed after a text, if there is memory
pub chars-pushed : {E : Type 0} (r : Result (Unit {0}) E) (bs more text : List ℕ) (c : ℕ) → IsUtf8 bs → IsScalar c → chars bs ≡ text
    → more ≡ cond (is_ok r) (bs ++ encode c) bs → OnOk r (chars more ≡ text ++ c ∷ [])
chars-pushed r bs more text c u s v e = grind (arith, chars-append, chars-encode)

-- no characters are left at the end
pub chars-none : (bs : List ℕ) → length bs ≡ 0 → chars bs ≡ []
chars-none [] e = chars-nil
chars-none (x ∷ xs) e = absurd (omega arith)

-- the characters of both parts of a text are scalar values
pub scalars_split : (a b : List ℕ) → scalars (a ++ b) ≡ true → (scalars a ≡ true) × (scalars b ≡ true)
scalars_split [] b e = (refl, e)
scalars_split (c ∷ a) b e =
    let f = and_parts (scalar c) (scalars (a ++ b)) e in
    let g = scalars_split a b f.1 in
    (rw (f.0, g.0) refl, g.1)

-- a text is added after a text, if there is memory
pub chars-added : {E : Type 0} (r : Result (Unit {0}) E) (bs more text part : List ℕ) → IsUtf8 bs → chars bs ≡ text → more ≡ cond (is_ok r) (bs ++ part) bs → OnOk r (chars more ≡ text ++ chars part)
chars-added r bs more text part u v e = grind (arith, chars-append)

-- the characters around a character
pub chars-split : (bs prefix after : List ℕ) (c : ℕ) → IsScalar c → IsUtf8 prefix → IsUtf8 after → bs ≡ prefix ++ (encode c ++ after) → chars bs ≡ chars prefix ++ c ∷ chars after
chars-split bs prefix after c s u v e =
    ap chars e ∙ chars-append prefix (encode c ++ after) u ∙ ap (λ l. chars prefix ++ l) (chars_past_char (encode c ++ after) after c (IsUtf8-append (encode c) after (IsUtf8-encode c s) v) refl)

-- nowhere among these bytes stand those of U+FEFF
abbrev LacksMark : List ℕ → Type 0
LacksMark bs = (before after : List ℕ) → bs ≢ before ++ (encode 0xFEFF ++ after)

hidden_by : (b : Bool) (c : ℕ) (cs : List ℕ) → (c == 0xFEFF) ≡ b → LacksMark (encode c ++ encodes cs) → filter is_shown cs ≡ cs → filter is_shown (c ∷ cs) ≡ c ∷ cs
hidden_by true c cs e none shown = absurd (none [] (encodes cs) (let same : c ≡ 0xFEFF = grind (arith, nat_tests) in ap (λ d. encode d ++ encodes cs) same))
hidden_by false c cs e none shown = rw (e, shown) refl

none_hidden : (cs : List ℕ) → LacksMark (encodes cs) → filter is_shown cs ≡ cs
none_hidden [] none = refl
none_hidden (c ∷ cs) none =
    hidden_by (c == 0xFEFF) c cs refl none (none_hidden cs (λ before after e. none (encode c ++ before) after (ap (λ l. encode c ++ l) e ∙ sym (append_assoc (encode c) before (encode 0xFEFF ++ after)))))

-- bytes without U+FEFF are shown whole
all-shown : (bs : List ℕ) → IsUtf8 bs → LacksMark bs → filter is_shown (chars bs) ≡ chars bs
all-shown bs u none = none_hidden (chars bs) (subst LacksMark (sym (encodes-chars bs u)) none)

-- the bytes of U+FEFF
abbrev mark : List ℕ
mark = 0xEF ∷ 0xBB ∷ 0xBF ∷ []

-- a text in which U+FEFF is sought in vain is shown whole
pub none-found : (bs : List ℕ) → IsUtf8 bs → ((i : ℕ) → i ≤ length bs → LacksTextAt mark bs i) → filter is_shown (chars bs) ≡ chars bs
unfolding encode
none-found bs u none =
    all-shown bs u (λ before after e. none (length before) (omega (arith, ap length e, length-append before (encode 0xFEFF ++ after)))
    after (ap (drop (length before)) e ∙ drop_at before (encode 0xFEFF ++ after) (length before) refl))

-- no U+FEFF stands before the first
lacks_before : (bs : List ℕ) (i : ℕ) → i ≤ length bs → ((k : ℕ) → k < i → LacksTextAt (encode 0xFEFF) bs k) → LacksMark (take i bs)
unfolding encode
lacks_before bs i le none before after e =
    let longer : length before < i = omega (arith, ap length e, length-take-le i bs le, length-append before (encode 0xFEFF ++ after), length-append (encode 0xFEFF) after) in
    let whole : bs ≡ before ++ ((encode 0xFEFF ++ after) ++ drop i bs) = sym (take-append-drop i bs) ∙ ap (λ l. l ++ drop i bs) e ∙ append_assoc before (encode 0xFEFF ++ after) (drop i bs) in
    none (length before) longer (after ++ drop i bs) (ap (drop (length before)) whole ∙ drop_at before ((encode 0xFEFF ++ after) ++ drop i bs) (length before) refl ∙ append_assoc (encode 0xFEFF) after (drop i bs))

-- what stands before the first U+FEFF is shown, and then what is shown of the rest
shown-split : (bs prefix after : List ℕ) → IsUtf8 prefix → IsUtf8 after → bs ≡ prefix ++ (encode 0xFEFF ++ after) → LacksMark prefix
    → filter is_shown (chars bs) ≡ chars prefix ++ filter is_shown (chars after)
shown-split bs prefix after u v e none =
    ap (filter is_shown) (chars-split bs prefix after 0xFEFF refl u v e)
    ∙ filter-append is_shown (chars prefix) (0xFEFF ∷ chars after)
    ∙ ap (λ l. l ++ filter is_shown (chars after)) (all-shown prefix u none)

-- a text that is split at its first U+FEFF
pub shown-cut : (bs prefix after : List ℕ) (i j : ℕ) → IsUtf8 bs → HasTextAt mark bs i j → ((k : ℕ) → k < i → LacksTextAt mark bs k) → i ≤ length bs
    → prefix ≡ take i bs → after ≡ drop j bs → IsUtf8 after × (filter is_shown (chars bs) ≡ chars prefix ++ filter is_shown (chars after))
unfolding encode
shown-cut bs prefix after i j u at none le e f =
    let v : IsUtf8 after = rw (f, at.ends) (IsUtf8-drop bs (i + 3) u at.after) in
    let rest : drop i bs ≡ encode 0xFEFF ++ after = at.split ∙ ap (λ l. mark ++ l) (sym f) in
    let w : IsUtf8 (drop i bs) = subst IsUtf8 (sym rest) (IsUtf8-append (encode 0xFEFF) after (IsUtf8-encode 0xFEFF refl) v) in
    let x : IsUtf8 prefix = subst IsUtf8 (sym e) (IsUtf8-take bs i u (IsCharBoundary-from_drop bs i le w)) in
    let whole : bs ≡ prefix ++ (encode 0xFEFF ++ after) = sym (take-append-drop i bs) ∙ ap (λ l. l ++ drop i bs) (sym e) ∙ ap (λ l. prefix ++ l) rest in
    (v, shown-split bs prefix after x v whole (subst LacksMark (sym e) (lacks_before bs i le none)))

feed_by : (b : Bool) (bs cs : List ℕ) (c : ℕ) → (c == 10) ≡ b → ((rest : List ℕ) → bs ≢ encode 10 ++ rest) → encode c ++ encodes cs ≡ bs → c ∷ cs ≡ cond b cs (c ∷ cs)
feed_by b bs cs c e none is = grind arith

no_feed : (bs cs : List ℕ) → ((rest : List ℕ) → bs ≢ encode 10 ++ rest) → encodes cs ≡ bs → cs ≡ cond (slice_index cs 0 == 10) (drop 1 cs) cs
no_feed bs cs none is = grind (arith, feed_by)

-- no LF stands at the start of the bytes, and so none at the start of the characters
pub chars-no_feed : (bs : List ℕ) → IsUtf8 bs → ((rest : List ℕ) → bs ≢ encode 10 ++ rest) → chars bs ≡ cond (slice_index (chars bs) 0 == 10) (drop 1 (chars bs)) (chars bs)
chars-no_feed bs u none = no_feed bs (chars bs) none (encodes-chars bs u)

-- an LF stands at the start
pub chars-feed : (bs rest : List ℕ) → IsUtf8 bs → bs ≡ encode 10 ++ rest → chars rest ≡ cond (slice_index (chars bs) 0 == 10) (drop 1 (chars bs)) (chars bs)
chars-feed bs rest u e = rw (chars_past_char bs rest 10 u e) refl
