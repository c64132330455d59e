-- Bytes of letters and of runs, one after another.
use Rattle.std.proofs.Common.{◌≡◌, ◌≢◌, ℕ, slice_index, ◌<◌, List, [], ◌∷◌, ◌++◌, Bool, true, false, not, ◌||◌, ◌&&◌, ◌==◌, length, refl, sym, ap, ap₂, subst, ◌∙◌, arith, ◌+◌, ◌-◌, ◌≤◌, take, drop, get_or, append-nil, take_all, length-drop, drop-cons, ◌*◌, ◌/◌, ◌%◌, nat_lt, mod-lt, Some}
use Rattle.std.specs.List.{All, list_all}
use Rattle.std.specs.Str.{chars, all_scalars}
use Rattle.std.proofs.lemmas.List.Elements.{All-append, All-from_recursion}
use Rattle.std.proofs.lemmas.List.Folds.{list_all-append}
use Rattle.std.proofs.lemmas.Bool.{eqb-true, eqb-false, ltb-true, lt-ltb, true≢false, and_parts, le-ltb, not-true}
use Rattle.std.proofs.Math.Nat.{div-add-mod}
use Rattle.std.proofs.Math.Seq.{take-add}
use Rattle.std.proofs.lemmas.List.{length-take-le}
use Rattle.std.proofs.lemmas.Str.{encodes-append, chars-encodes}
use Rattle.std.proofs.lemmas.Grind.{common_steps}
use lib.Utf8.{encode, low_scalar}
use Rattle.gabc_places.proofs.NumbersByTests.{below_eqb}
use Rattle.gabc_places.specs.TextOfAnInput.{IsPlain, IsText}
use Rattle.gabc_text.specs.declared.view.PieceKind.{PieceKind}
use Rattle.gabc_text.specs.declared.view.PieceKind.TheVariants as piece
use Rattle.gabc_text.specs.Token.{is_blank, is_special, spelling}
use Rattle.gabc_text.specs.View.{PieceFacts, is_word_kind, is_blank_piece}
use Rattle.gabc_text.specs.ViewFacts.{is_mark, tags_among}
use Rattle.gabc_text.specs.Printed.{printed_piece}
use Rattle.gabc_text.specs.RegularText.{is_letter_byte, is_continuation, is_first_of_two, is_first_of_three}
use Rattle.gabc_text.specs.machine.PrintedPieces.{Good, Says}
use Rattle.gabc_text.specs.machine.RegularBytes.{is_low, is_plain_byte, word_after, blank_after, printed_text, IsSpelled, IsWord, IsInner, IsRun}
use Rattle.gabc_text.proofs.printing.TokensAreReadAgain.{letter_stable}
use Rattle.gabc_text.proofs.printing.PiecesPrintWell.{letter_emits, special_no_blank}
use Rattle.gabc_text.proofs.printing.PrintedPiecesAreJoined.{printed_join, good_join, known_join, tags_join, word_join, blank_join}
use Rattle.gabc_text.proofs.tokens.CasesOfCharacters.{no_special, special_is_low}

-- ---- spelled characters

scalars_join : (t u : List ℕ) → all_scalars t ≡ true → all_scalars u ≡ true → all_scalars (t ++ u) ≡ true
scalars_join [] u h g = g
scalars_join (c ∷ t) u h g = let f = and_parts _ (all_scalars t) h in rw (f.0) (scalars_join t u f.1 g)

pub spelled_join : (t u bs more : List ℕ) → IsSpelled t bs → IsSpelled u more → IsSpelled (t ++ u) (bs ++ more)
spelled_join t u bs more s r = record {
  spelled = ap₂ (λ (xs ys : List ℕ). xs ++ ys) s.spelled r.spelled ∙ sym (encodes-append t u);
  scalars = scalars_join t u s.scalars r.scalars;
  plain = All-append IsPlain t u s.plain r.plain;
}

pub none_spelled : IsSpelled [] []
none_spelled = record { spelled = refl; scalars = refl; plain = λ k d less. absurd (omega arith) }

one_plain : (c : ℕ) → IsPlain c → All IsPlain (c ∷ [])
one_plain c h = All-from_recursion IsPlain (c ∷ []) (h, tt)

-- a character of one byte
pub one_spelled : (b : ℕ) → b < 128 → (b ≡ 13 → ⊥) → IsSpelled (b ∷ []) (b ∷ [])
unfolding encode
one_spelled b less n = grind arith

-- characters of one byte
pub ascii_spelled : (t : List ℕ) → list_all is_low t ≡ true → IsSpelled t t
ascii_spelled [] h = none_spelled
ascii_spelled (b ∷ t) h =
    let f = and_parts (is_low b) (list_all is_low t) h in
    let g = and_parts (nat_lt b 128) (not (b == 13)) f.0 in
    spelled_join (b ∷ []) t (b ∷ []) t (one_spelled b (ltb-true b 128 g.0) (eqb-false b 13 (not-true (b == 13) g.1))) (ascii_spelled t f.1)

-- ---- pieces and runs

no_blank_kind : (k : PieceKind) (t : List ℕ) → ((w b : Bool) → Says k t w b) → is_blank_piece k ≡ false
no_blank_kind piece.Blank t h = absurd (true≢false (h true true).2)
no_blank_kind _ t h = refl

abbrev plain_piece : (bytes : List ℕ) → IsWord bytes → PieceFacts
plain_piece bytes p = record { kind = p.kind; styles = []; text = p.text }

word_good : (bytes : List ℕ) (p : IsWord bytes) (w b : Bool) → Good (plain_piece bytes p) w b
word_good bytes p w b = record { test = λ s. false; styles_are = refl; stable = p.stable; reads_so = p.says w b }

abbrev pub blank : PieceFacts
blank = record { kind = piece.Blank; styles = []; text = [] }

pub blank_good : Good blank true false
blank_good = record { test = λ s. false; styles_are = refl; stable = λ u. refl; reads_so = (refl, refl, refl) }

-- a word is no mark
no_mark_in : (k : PieceKind) → is_word_kind (Some k) ≡ true → is_mark k ≡ false
no_mark_in k e = grind arith

no_mark_with : (bytes : List ℕ) (p : IsWord bytes) → tags_among (plain_piece bytes p ∷ []) ≡ []
no_mark_with bytes p = rw (no_mark_in p.kind p.word) refl

after_word : (bs : List ℕ) (p : IsWord bs) (w : Bool) → (is_word_kind (Some p.kind) || w) ≡ true
after_word bs p w = rw (p.word) refl

pub run_more : (bs more : List ℕ) → IsWord more → IsRun bs → IsRun (bs ++ more)
run_more bs more p r =
    let q = plain_piece more p in
    record {
      pieces = r.pieces ++ q ∷ [];
      spells = subst (λ (t : List ℕ). IsSpelled t (bs ++ more)) (sym (printed_join r.pieces (q ∷ []) ∙ ap (λ (t : List ℕ). printed_text r.pieces ++ t) (append-nil (spelling (printed_piece p.kind p.text)))))
          (spelled_join (printed_text r.pieces) (spelling (printed_piece p.kind p.text)) bs more r.spells p.spells);
      good = good_join false false r.pieces (q ∷ []) r.good (word_good more p (word_after false r.pieces) (blank_after false r.pieces), tt);
      known = known_join r.pieces (q ∷ []) r.known (p.known, tt);
      no_blank = blank_join false r.pieces (q ∷ []) ∙ no_blank_kind p.kind p.text p.says;
      no_mark = tags_join r.pieces (q ∷ []) ∙ ap₂ (λ (a b : List (List ℕ)). a ++ b) r.no_mark (no_mark_with more p);
      word = λ _. word_join false r.pieces (q ∷ []) ∙ after_word more p (word_after false r.pieces);
    }

-- with a blank between
pub run_blank : (bs more : List ℕ) → 0 < length bs → IsWord more → IsRun bs → IsRun (bs ++ 32 ∷ more)
run_blank bs more some p r =
    let q = plain_piece more p in
    let w = r.word some in
    record {
      pieces = r.pieces ++ blank ∷ q ∷ [];
      spells = subst (λ (t : List ℕ). IsSpelled t (bs ++ 32 ∷ more)) (sym (printed_join r.pieces (blank ∷ q ∷ []) ∙ ap (λ (t : List ℕ). printed_text r.pieces ++ 32 ∷ t) (append-nil (spelling (printed_piece p.kind p.text)))))
          (spelled_join (printed_text r.pieces) (32 ∷ spelling (printed_piece p.kind p.text)) bs (32 ∷ more) r.spells
          (spelled_join (32 ∷ []) (spelling (printed_piece p.kind p.text)) (32 ∷ []) more (one_spelled 32 (omega arith) (λ e. omega arith)) p.spells));
      good = good_join false false r.pieces (blank ∷ q ∷ []) r.good (
        subst (λ (x : Bool). Good blank x (blank_after false r.pieces)) (sym w) (subst (λ (x : Bool). Good blank true x) (sym r.no_blank) blank_good),
        (word_good more p true true, tt),
      );
      known = known_join r.pieces (blank ∷ q ∷ []) r.known (refl, (p.known, tt));
      no_blank = blank_join false r.pieces (blank ∷ q ∷ []) ∙ no_blank_kind p.kind p.text p.says;
      no_mark = tags_join r.pieces (blank ∷ q ∷ []) ∙ ap₂ (λ (a b : List (List ℕ)). a ++ b) r.no_mark (no_mark_with more p);
      word = λ _. word_join false r.pieces (blank ∷ q ∷ []) ∙ after_word more p true;
    }

-- ---- letters

-- a letter that no `$` stands before
bare_word : (c : ℕ) (bytes : List ℕ) → is_special c ≡ false → is_blank c ≡ false → IsSpelled (c ∷ []) bytes → IsWord bytes
bare_word c bytes plain b s = record {
  kind = piece.Char;
  text = c ∷ [];
  spells = rw plain s;
  stable = letter_stable c b;
  says = λ w x. letter_emits c w x;
  word = refl;
  known = refl;
}

-- and one that a `$` stands before
escaped_word : (c : ℕ) (bytes : List ℕ) → is_special c ≡ true → IsSpelled (36 ∷ c ∷ []) bytes → IsWord bytes
escaped_word c bytes special s = record {
  kind = piece.Char;
  text = c ∷ [];
  spells = rw special s;
  stable = letter_stable c (special_no_blank c special);
  says = λ w x. letter_emits c w x;
  word = refl;
  known = refl;
}

no_blank_past : (c : ℕ) → 32 < c → is_blank c ≡ false
no_blank_past c h = rw (below_eqb 32 c (omega arith), below_eqb 9 c (omega arith), below_eqb 10 c (omega arith)) refl

digits : (q r d m : ℕ) → r < 64 → m < 64 → 64 * d + m ≡ q * 64 + r → (d ≡ q) × (m ≡ r)
digits q r d m less small e = (omega arith, omega arith)

last_of : (q r c : ℕ) → r < 64 → c ≡ q * 64 + r → (c / 64 ≡ q) × (c % 64 ≡ r)
last_of q r c less e = digits q r (c / 64) (c % 64) less (mod-lt c {m = 64} (omega arith)) (div-add-mod c 64 ∙ e)

-- a letter beyond ASCII
pub record IsBeyond (bytes : List ℕ) : Type 0 where
  pub c : ℕ
  pub high : 128 ≤ c
  pub spells : IsSpelled (c ∷ []) bytes

pub beyond_word : (bytes : List ℕ) → IsBeyond bytes → IsWord bytes
beyond_word bytes b = bare_word b.c bytes (no_special b.c b.high) (no_blank_past b.c (let high = b.high in omega arith)) b.spells

-- those of two and three bytes by their digits
two : (q r : ℕ) → 2 ≤ q → q < 32 → r < 64 → IsBeyond ((192 + q) ∷ (128 + r) ∷ [])
unfolding encode
two q r h g k =
    let d = last_of q r (q * 64 + r) k refl in
    let no_one : nat_lt (q * 64 + r) 128 ≡ false = le-ltb (q * 64 + r) 128 (omega arith) in
    let at_two : nat_lt (q * 64 + r) 2048 ≡ true = lt-ltb (q * 64 + r) 2048 (omega arith) in
    record {
      c = q * 64 + r;
      high = omega arith;
      spells = record {
        spelled = rw (no_one, at_two, d.0, d.1) refl;
        scalars = rw (low_scalar (q * 64 + r) (omega arith)) refl;
        plain = one_plain (q * 64 + r) ((λ e. omega arith), (λ e. omega arith));
      };
    }

three : (q s r : ℕ) → 1 ≤ q → q < 13 → s < 64 → r < 64 → IsBeyond ((224 + q) ∷ (128 + s) ∷ (128 + r) ∷ [])
unfolding encode
three q s r h g k l =
    let c = (q * 64 + s) * 64 + r in
    let d = last_of (q * 64 + s) r ((q * 64 + s) * 64 + r) l refl in
    let f = last_of q s (q * 64 + s) k refl in
    let top : ((q * 64 + s) * 64 + r) / 4096 ≡ q = omega (arith, div-add-mod ((q * 64 + s) * 64 + r) 4096, mod-lt ((q * 64 + s) * 64 + r) {m = 4096} (omega arith)) in
    let no_one : nat_lt ((q * 64 + s) * 64 + r) 128 ≡ false = le-ltb ((q * 64 + s) * 64 + r) 128 (omega arith) in
    let no_two : nat_lt ((q * 64 + s) * 64 + r) 2048 ≡ false = le-ltb ((q * 64 + s) * 64 + r) 2048 (omega arith) in
    let at_three : nat_lt ((q * 64 + s) * 64 + r) 65536 ≡ true = lt-ltb ((q * 64 + s) * 64 + r) 65536 (omega arith) in
    record {
      c = (q * 64 + s) * 64 + r;
      high = omega arith;
      spells = record {
        spelled = rw (no_one, no_two, at_three, top, d.0, d.1, f.1) refl;
        scalars = rw (low_scalar ((q * 64 + s) * 64 + r) (omega arith)) refl;
        plain = one_plain ((q * 64 + s) * 64 + r) ((λ e. omega arith), (λ e. omega arith));
      };
    }

within_bounds : (lo hi b : ℕ) → (nat_lt lo b && nat_lt b hi) ≡ true → (lo < b) × (b < hi)
within_bounds lo hi b h = let f = and_parts (nat_lt lo b) (nat_lt b hi) h in (ltb-true lo b f.0, ltb-true b hi f.1)

pair_is : (a b : ℕ) → is_first_of_two a ≡ true → is_continuation b ≡ true → IsBeyond (a ∷ b ∷ [])
pair_is a b h g =
    let x = within_bounds 193 224 a h in
    let y = within_bounds 127 192 b g in
    let ea : 192 + (a - 192) ≡ a = omega (arith, x.0) in
    let eb : 128 + (b - 128) ≡ b = omega (arith, y.0) in
    subst (λ (u : ℕ). IsBeyond (u ∷ b ∷ [])) ea (subst (λ (v : ℕ). IsBeyond ((192 + (a - 192)) ∷ v ∷ [])) eb
    (two (a - 192) (b - 128) (omega (arith, x.0)) (omega (arith, x.1)) (omega (arith, y.1))))

triple_is : (a b d : ℕ) → is_first_of_three a ≡ true → is_continuation b ≡ true → is_continuation d ≡ true → IsBeyond (a ∷ b ∷ d ∷ [])
triple_is a b d h g k =
    let x = within_bounds 224 237 a h in
    let y = within_bounds 127 192 b g in
    let z = within_bounds 127 192 d k in
    let ea : 224 + (a - 224) ≡ a = omega (arith, x.0) in
    let eb : 128 + (b - 128) ≡ b = omega (arith, y.0) in
    let ed : 128 + (d - 128) ≡ d = omega (arith, z.0) in
    subst (λ (u : ℕ). IsBeyond (u ∷ b ∷ d ∷ [])) ea (subst (λ (v : ℕ). IsBeyond ((224 + (a - 224)) ∷ v ∷ d ∷ [])) eb
    (subst (λ (w : ℕ). IsBeyond ((224 + (a - 224)) ∷ (128 + (b - 128)) ∷ w ∷ [])) ed
    (three (a - 224) (b - 128) (d - 128) (omega (arith, x.0)) (omega (arith, x.1)) (omega (arith, y.1)) (omega (arith, z.1)))))

letter_is : (a : ℕ) → is_letter_byte a ≡ true → IsWord (a ∷ [])
letter_is a h = grind (arith, and_parts, within_bounds, bare_word, not-true, no_blank_past, one_spelled)

escaped_is : (b : ℕ) → is_special b ≡ true → IsWord (36 ∷ b ∷ [])
escaped_is b h =
    escaped_word b (36 ∷ b ∷ []) h (spelled_join (36 ∷ []) (b ∷ []) (36 ∷ []) (b ∷ []) (one_spelled 36 (omega arith) (λ e. omega arith))
    (one_spelled b (special_is_low b h) (λ e. absurd (true≢false (sym h ∙ ap is_special e)))))

-- ---- characters other than one of ASCII

inner_join : (stop : ℕ) (bs more : List ℕ) → IsInner stop bs → IsInner stop more → IsInner stop (bs ++ more)
inner_join stop bs more s r = record {
  text = s.text ++ r.text;
  spells = spelled_join s.text r.text bs more s.spells r.spells;
  without = list_all-append (λ c. not (stop == c)) s.text r.text ∙ rw (s.without) r.without;
}

pub none_inner : (stop : ℕ) → IsInner stop []
none_inner stop = record { text = []; spells = none_spelled; without = refl }

pub beyond_inner : (stop : ℕ) (bytes : List ℕ) → stop < 128 → IsBeyond bytes → IsInner stop bytes
beyond_inner stop bytes less b = grind arith

plain_is : (stop b : ℕ) → is_plain_byte stop b ≡ true → IsInner stop (b ∷ [])
plain_is stop b h =
    let f = and_parts (nat_lt 31 b && nat_lt b 127) (not (stop == b)) h in
    let x = within_bounds 31 127 b f.0 in
    record { text = b ∷ []; spells = one_spelled b (omega (arith, x.1)) (λ e. omega (arith, x.0)); without = rw (f.1) refl }

-- ---- where they stand

plain_at : (stop : ℕ) (l : List ℕ) → is_plain_byte stop (get_or l 0 0) ≡ true → IsInner stop (take 1 l)
plain_at stop l h = grind (arith, plain_is)

one_at : (l : List ℕ) → is_letter_byte (get_or l 0 0) ≡ true → IsWord (take 1 l)
one_at l h = grind (arith, letter_is)

escaped_at : (l : List ℕ) → (get_or l 0 0 == 36 && is_special (get_or l 1 0)) ≡ true → IsWord (take 2 l)
escaped_at l h = grind (arith, and_parts, eqb-true, escaped_is)

two_at : (l : List ℕ) → (is_first_of_two (get_or l 0 0) && is_continuation (get_or l 1 0)) ≡ true → IsBeyond (take 2 l)
two_at l h = grind (arith, and_parts, pair_is)

three_at : (l : List ℕ) → (is_first_of_three (get_or l 0 0) && (is_continuation (get_or l 1 0) && is_continuation (get_or l 2 0))) ≡ true → IsBeyond (take 3 l)
three_at l h = grind (arith, and_parts, triple_is)

-- by the bytes that were read
module _ (l : List ℕ) (a b : ℕ) (first : a ≡ get_or l 0 0) (second : b ≡ get_or l 1 0) where
  pub one_read : is_letter_byte a ≡ true → IsWord (take 1 l)
  one_read h = one_at l (ap is_letter_byte (sym first) ∙ h)

  pub plain_read : (stop : ℕ) → is_plain_byte stop a ≡ true → IsInner stop (take 1 l)
  plain_read stop h = plain_at stop l (ap (is_plain_byte stop) (sym first) ∙ h)

  pub escape_read : (a == 36 && is_special b) ≡ true → IsWord (take 2 l)
  escape_read h = escaped_at l (ap₂ (λ (x y : ℕ). x == 36 && is_special y) (sym first) (sym second) ∙ h)

  pub pair_read : (is_first_of_two a && is_continuation b) ≡ true → IsBeyond (take 2 l)
  pair_read h = two_at l (ap₂ (λ (x y : ℕ). is_first_of_two x && is_continuation y) (sym first) (sym second) ∙ h)

  pub triple_read : (d : ℕ) → d ≡ get_or l 2 0 → (is_first_of_three a && (is_continuation b && is_continuation d)) ≡ true → IsBeyond (take 3 l)
  triple_read d third h = grind (arith, three_at)

-- all that is after n bytes
pub after_is : (l : List ℕ) (n : ℕ) → take (length l - n) (drop n l) ≡ drop n l
after_is l n = take_all (length l - n) (drop n l) (omega (arith, length-drop n l))

-- the first byte is no `<`, if that of what follows n bytes is none where n is 0
pub first_stays : (l : List ℕ) (n : ℕ) → (0 < n → slice_index l 0 ≢ 60) → slice_index (take (length l - n) (drop n l)) 0 ≢ 60 → slice_index l 0 ≢ 60
first_stays l n h g = grind (arith, slice_index, after_is)

pub word_step : (l : List ℕ) (n r : ℕ) → IsWord (take r (take (length l - n) (drop n l))) → IsRun (take n l) → IsRun (take (n + r) l)
word_step l n r h s = grind (arith, take-add, run_more, after_is)

pub inner_step : (stop : ℕ) (l : List ℕ) (n r : ℕ) → IsInner stop (take r (take (length l - n) (drop n l))) → IsInner stop (take n l) → IsInner stop (take (n + r) l)
inner_step stop l n r h s = grind (arith, take-add, inner_join, after_is)

-- from where a blank stands
pub at_blank : (l : List ℕ) (n r : ℕ) → n < length l → get_or l n 0 ≡ 32 → take (r + 1) (drop n l) ≡ 32 ∷ take r (drop (n + 1) l)
at_blank l n r less e = grind (arith, common_steps, drop-cons)

pub blank_step : (l : List ℕ) (n r : ℕ) → 0 < n → n < length l → get_or l n 0 ≡ 32 → IsWord (take r (take (length l - (n + 1)) (drop (n + 1) l)))
    → IsRun (take n l) → IsRun (take (n + (r + 1)) l)
blank_step l n r some less e h s = grind (arith, at_blank, take-add, run_blank, length-take-le, after_is)

-- ---- what they are

pub chars_of : (t bs : List ℕ) → IsSpelled t bs → chars bs ≡ t
chars_of t bs s = ap chars s.spelled ∙ chars-encodes t s.scalars

pub is_text : (t bs : List ℕ) → IsSpelled t bs → IsText bs
is_text t bs s = record { utf8 = (t, (s.scalars, sym s.spelled)); plain = subst (All IsPlain) (sym (chars_of t bs s)) s.plain }
