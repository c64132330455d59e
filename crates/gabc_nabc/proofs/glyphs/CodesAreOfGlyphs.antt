-- The codes of a descriptor are those of the glyphs that the table spells.
use Rattle.std.proofs.Common.{◌≡◌, ℕ, suc, ◌+◌, ◌-◌, List, [], ◌∷◌, ◌++◌, length, map, drop, get_or, Bool, true, false, cond, not, ◌&&◌, ◌||◌, ◌==◌, ◌≢◌, refl, sym, ap, ◌∙◌, codes, arith, append_assoc, append-nil, inl, inr, slice_index}
use Rattle.std.proofs.lemmas.Bool.{and_parts}
use Rattle.std.specs.List.{flat_map, range_with_len, concat}
use Rattle.std.proofs.lemmas.List.{get_or-drop, drop-drop}
use Rattle.std.proofs.lemmas.List.Folds.{list_any-append}
use Rattle.gabc_patterns.specs.Pattern.{Pattern, never, nothing, one_of, any_but, ◌·◌, ◌or◌, many, text, Each, Spells, is_in}
use Rattle.gabc_nabc.specs.Table.{code, glyph, points, letters, descriptor}
use Rattle.gabc_nabc.specs.Codes.{code_at, codes_in, glyphs_joined, code_of_glyph, HasCodesOfGlyphs}
use Rattle.gabc_nabc.proofs.glyphs.CodesAreTwoLetters.{same_in, firsts, letters as all_letters, after_s, after_p, after_l}
use Rattle.gabc_nabc.specs.declared.code.GlyphCode.{GlyphCode}

-- ---- from left to right

-- the codes of a text, where the first may begin at its start
abbrev scan : Bool → List ℕ → List GlyphCode
scan b [] = []
scan b (c ∷ []) = []
scan b (c ∷ d ∷ t) = cond b (record { first = c; second = d } ∷ []) [] ++ scan (c == 33) (d ∷ t)

-- a code may begin at this place of the text
abbrev begins_at : List ℕ → ℕ → Bool
begins_at t k = (k + 1 == 1) || (slice_index t (k + 1 - 2) == 33)

at_prefix : (t u : List ℕ) (k c : ℕ) → drop k t ≡ c ∷ u → slice_index t k ≡ c
at_prefix t u k c e =
    let n : k ≡ k + 0 = omega arith in
    ap (λ (m : ℕ). get_or t m 0) n ∙ (sym (get_or-drop k t 0 0) ∙ ap (λ (v : List ℕ). get_or v 0 0) e)

one_further : (t u : List ℕ) (k c : ℕ) → drop k t ≡ c ∷ u → drop (k + 1) t ≡ u
one_further t u k c e = sym (drop-drop 1 k t) ∙ ap (drop 1) e

begins_next : (t : List ℕ) (k c : ℕ) → slice_index t k ≡ c → begins_at t (k + 1) ≡ (c == 33)
begins_next t k c e = grind arith

-- the code whose first letter stands there
here_code : (t : List ℕ) (k c d : ℕ) → slice_index t k ≡ c → slice_index t (k + 1) ≡ d → code_at t (k + 1) ≡ cond (begins_at t k) (record { first = c; second = d } ∷ []) []
here_code t k c d e f = grind arith

scanned : (t u : List ℕ) (k : ℕ) → drop k t ≡ u → flat_map (code_at t) (range_with_len (k + 1) (length u - 1)) ≡ scan (begins_at t k) u
scanned t [] k e = refl
scanned t (c ∷ []) k e = refl
scanned t (c ∷ d ∷ u) k e =
    let here = at_prefix t (d ∷ u) k c e in
    let next = one_further t (d ∷ u) k c e in
    let there = at_prefix t u (k + 1) d next in
    let n : length (c ∷ d ∷ u) - 1 ≡ suc (length u) = omega arith in
    let m : length (d ∷ u) - 1 ≡ length u = omega arith in
    let rest : flat_map (code_at t) (range_with_len (k + 1 + 1) (length u)) ≡ scan (c == 33) (d ∷ u) =
    ap (λ (l : ℕ). flat_map (code_at t) (range_with_len (k + 1 + 1) l)) (sym m) ∙ (scanned t (d ∷ u) (k + 1) next ∙ ap (λ (b : Bool). scan b (d ∷ u)) (begins_next t k c here)) in
    let one = here_code t k c d here there in
    ap (λ (l : ℕ). flat_map (code_at t) (range_with_len (k + 1) l)) n
    ∙ (ap (λ (l : List GlyphCode). code_at t (k + 1) ++ l) rest ∙ ap (λ (l : List GlyphCode). l ++ scan (c == 33) (d ∷ u)) one)

codes_scanned : (t : List ℕ) → codes_in t ≡ scan true t
codes_scanned t = scanned t t 0 refl

-- ---- texts without `!`

free_tail : (c : ℕ) (t : List ℕ) → is_in 33 (c ∷ t) ≡ false → ((c == 33) ≡ false) × (is_in 33 t ≡ false)
free_tail c t e = grind arith

-- no code is in one, but at its start
scan_free : (t : List ℕ) → is_in 33 t ≡ false → scan false t ≡ []
scan_free [] e = refl
scan_free (c ∷ []) e = refl
scan_free (c ∷ d ∷ t) e =
    let f = free_tail c (d ∷ t) e in
    ap (λ (b : Bool). scan b (d ∷ t)) f.0 ∙ scan_free (d ∷ t) f.1

-- a `!` after one lets a code begin
scan_bang : (t u : List ℕ) → is_in 33 t ≡ false → scan false (t ++ 33 ∷ u) ≡ scan true u
scan_bang [] [] e = refl
scan_bang [] (d ∷ u) e = refl
scan_bang (c ∷ []) u e = grind (arith, free_tail, scan_bang [] u refl)
scan_bang (c ∷ d ∷ t) u e =
    let f = free_tail c (d ∷ t) e in
    ap (λ (b : Bool). scan b (d ∷ (t ++ 33 ∷ u))) f.0 ∙ scan_bang (d ∷ t) u f.1

-- the pattern spells no text with the character
abbrev avoids : ℕ → Pattern → Bool
avoids n never = true
avoids n nothing = true
avoids n (one_of cs) = not (is_in n cs)
avoids n (any_but x) = x == n
avoids n (p · q) = avoids n p && avoids n q
avoids n (p or q) = avoids n p && avoids n q
avoids n (many p) = avoids n p

none_in_parts : (n : ℕ) (P : List ℕ → Type 0) → ((u : List ℕ) → P u → is_in n u ≡ false) → (parts : List (List ℕ)) → Each P parts → is_in n (concat parts) ≡ false
none_in_parts n P h [] e = refl
none_in_parts n P h (x ∷ xs) e = list_any-append (λ (d : ℕ). d == n) x (concat xs) ∙ rw (h x e.0, none_in_parts n P h xs e.1) refl

not_same : (c n : ℕ) (cs : List ℕ) → is_in c cs ≡ true → not (is_in n cs) ≡ true → (c == n) || false ≡ false
not_same c n cs i e = grind arith

other_than : (c n x : ℕ) → c ≢ x → (x == n) ≡ true → (c == n) || false ≡ false
other_than c n x h e = grind arith

spells_none : (n : ℕ) (p : Pattern) (t : List ℕ) → Spells p t → avoids n p ≡ true → is_in n t ≡ false
spells_none n never t h e = absurd h
spells_none n nothing t h e = rw h refl
spells_none n (one_of cs) t (c, i, f) e = rw f (not_same c n cs i e)
spells_none n (any_but x) t (c, h, f) e = rw f (other_than c n x h e)
spells_none n (p · q) t (a, b, h, i, f) e =
    let both = and_parts (avoids n p) (avoids n q) e in
    ap (is_in n) f ∙ (list_any-append (λ (d : ℕ). d == n) a b ∙ rw (spells_none n p a h both.0, spells_none n q b i both.1) refl)
spells_none n (p or q) t (inl h) e = spells_none n p t h (and_parts (avoids n p) (avoids n q) e).0
spells_none n (p or q) t (inr h) e = spells_none n q t h (and_parts (avoids n p) (avoids n q) e).1
spells_none n (many p) t (parts, h, f) e = ap (is_in n) f ∙ none_in_parts n (Spells p) (λ u i. spells_none n p u i e) parts h

-- ---- glyphs

-- A text of two letters and more.
abbrev Two : List ℕ → Type 0
Two t = (a c : ℕ) × (w : List ℕ) × (t ≡ a ∷ c ∷ w)

pair_two : (cs ds t : List ℕ) → Spells (one_of cs · one_of ds) t → Two t
pair_two cs ds t (x, y, (k, h, e), (l, i, f), g) = (k, l, [], g ∙ (ap (λ (u : List ℕ). u ++ y) e ∙ ap (λ (u : List ℕ). k ∷ u) f))

code_two : (t : List ℕ) → Spells code t → Two t
code_two t (inl h) = pair_two firsts all_letters t h
code_two t (inr (inl h)) = pair_two (115 ∷ []) after_s t h
code_two t (inr (inr (inl h))) = pair_two (112 ∷ []) after_p t h
code_two t (inr (inr (inr h))) = pair_two (108 ∷ []) after_l t h

glyph_two : (t : List ℕ) → Spells glyph t → Two t
glyph_two t (a, b, h, i, e) =
    let x = code_two a h in
    (x.0, x.1, x.2 ++ b, e ∙ ap (λ (u : List ℕ). u ++ b) x.3)

scan_glyph : (g u : List ℕ) → Two g → is_in 33 g ≡ false → scan true (g ++ 33 ∷ u) ≡ code_of_glyph g ∷ scan true u
scan_glyph g u e f = grind (arith, free_tail, scan_bang)

scan_last : (g tail : List ℕ) → Two g → is_in 33 g ≡ false → is_in 33 tail ≡ false → scan true (g ++ tail) ≡ code_of_glyph g ∷ []
scan_last g tail e f h = grind (arith, free_tail, list_any-append, scan_free)

scan_joined : (gs : List (List ℕ)) (g tail : List ℕ) → Spells glyph g → Each (Spells glyph) gs → is_in 33 tail ≡ false
    → scan true (glyphs_joined (g ∷ gs) ++ tail) ≡ map code_of_glyph (g ∷ gs)
scan_joined [] g tail h e f = scan_last g tail (glyph_two g h) (spells_none 33 glyph g h refl) f
scan_joined (k ∷ gs) g tail h e f =
    ap (scan true) (append_assoc g (33 ∷ glyphs_joined (k ∷ gs)) tail)
    ∙ (scan_glyph g (glyphs_joined (k ∷ gs) ++ tail) (glyph_two g h) (spells_none 33 glyph g h refl)
    ∙ ap (λ (l : List GlyphCode). code_of_glyph g ∷ l) (scan_joined gs k tail e.0 e.1 f))

-- the glyphs after the first
abbrev Others : List (List ℕ) → Type 0
Others parts = (gs : List (List ℕ)) × Each (Spells glyph) gs × ((g : List ℕ) → g ++ concat parts ≡ glyphs_joined (g ∷ gs))

other_glyph : (part : List ℕ) (parts : List (List ℕ)) → Spells (text (codes "!") · glyph) part → Others parts → Others (part ∷ parts)
other_glyph part parts (x, y, (c, i, e), h, f) o =
    let bang : c ≡ 33 = same_in 33 c i in
    let whole : part ≡ 33 ∷ y = f ∙ ap (λ (u : List ℕ). u ++ y) (e ∙ ap (λ (n : ℕ). n ∷ []) bang) in (
      y ∷ o.0,
      (h, o.1),
      λ g. ap (λ (u : List ℕ). g ++ (u ++ concat parts)) whole ∙ ap (λ (u : List ℕ). g ++ 33 ∷ u) (o.2 y),
    )

others : (parts : List (List ℕ)) → Each (Spells (text (codes "!") · glyph)) parts → Others parts
others [] e = ([], tt, λ g. append-nil g)
others (part ∷ parts) e = other_glyph part parts e.0 (others parts e.1)

-- the codes of a descriptor are those of its glyphs
pub codes_are : (t : List ℕ) → Spells descriptor t → HasCodesOfGlyphs t
codes_are t (a, tail, (g, b, h, (parts, each, e), f), i, k) =
    let o = others parts each in
    let prefix : a ≡ glyphs_joined (g ∷ o.0) = f ∙ (ap (λ (u : List ℕ). g ++ u) e ∙ o.2 g) in
    let whole : t ≡ glyphs_joined (g ∷ o.0) ++ tail = k ∙ ap (λ (u : List ℕ). u ++ tail) prefix in
    let free : is_in 33 tail ≡ false = spells_none 33 (many (points or letters)) tail i refl in
    record {
      glyphs = g ∷ o.0;
      tail = tail;
      each = (h, o.1);
      spelled = i;
      cut = whole;
      codes = codes_scanned t ∙ (ap (scan true) whole ∙ scan_joined o.0 g tail h o.1 free);
    }
