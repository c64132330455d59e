-- A tag's name as its characters come: its first ones show what the tag does.
use Rattle.std.proofs.Common.{◌≡◌, ℕ, List, [], ◌∷◌, ◌++◌, length, map, nat_lt, Bool, true, false, not, cond, ◌&&◌, ◌||◌, ◌==◌, refl, sym, ap, ◌∙◌, arith, append_assoc, append-nil, length-append, codes}
use Rattle.std.specs.List.{list_all, zip}
use Rattle.std.proofs.lemmas.Bool.{eqb-true, ltb-false, le-ltb, and_parts, false_from_ne_true}
use Rattle.std.proofs.Math.Bool.{and-false}
use Rattle.gabc_text.specs.declared.token.TagEffect.{TagEffect}
use Rattle.gabc_text.specs.declared.token.TagEffect.TheVariants.{Other}
use Rattle.gabc_text.specs.declared.tags.TheConstants.{KEPT}
use Rattle.gabc_text.specs.Token.{tag_names, is_text, is_one_of, effect_in, effect_of}
use Rattle.gabc_text.specs.machine.TagPrefix.{next_name}
use Rattle.gabc_text.specs.ExampleTexts.{name_so_far}
use Rattle.gabc_text.proofs.tokens.TokensByCharacter.{lacks}

abbrev pub Rows : Type 0
Rows = List (List ℕ × TagEffect)

-- ---- a tag by its name

same_ends : (r s : List ℕ) → is_text (r ++ 62 ∷ []) (s ++ 62 ∷ []) ≡ is_text r s
same_ends [] [] = refl
same_ends [] (d ∷ []) = and-false (d == 62)
same_ends [] (d ∷ e ∷ s) = and-false (d == 62)
same_ends (c ∷ []) [] = and-false (62 == c)
same_ends (c ∷ d ∷ r) [] = and-false (62 == c)
same_ends (c ∷ r) (d ∷ s) = ap (λ (b : Bool). (d == c) && b) (same_ends r s)

-- a tag does what the row of its name says
pub effect-named : (s : List ℕ) → effect_of (60 ∷ s ++ 62 ∷ []) ≡ effect_in tag_names s
effect-named s = by tag_names
  where
    by : (rows : Rows) → effect_in (map (λ row. (60 ∷ row.0 ++ 62 ∷ [], row.1)) rows) (60 ∷ s ++ 62 ∷ []) ≡ effect_in rows s
    by [] = refl
    by (row ∷ rows) = rw (same_ends row.0 s, by rows) refl

-- ---- a text as another

text_is : (r s : List ℕ) → is_text r s ≡ true → r ≡ s
text_is [] [] e = refl
text_is [] (d ∷ s) e = absurd (cc)
text_is (c ∷ r) [] e = absurd (cc)
text_is (c ∷ r) (d ∷ s) e =
    let both = and_parts (d == c) (is_text r s) e in
    let f : d ≡ c = eqb-true d c both.0 in
    let g : r ≡ s = text_is r s both.1 in cc

-- one as long is compared character by character
pub text_by_characters : (r s : List ℕ) → length r ≡ length s → list_all (λ (p : ℕ × ℕ). p.1 == p.0) (zip r s) ≡ is_text r s
text_by_characters [] [] e = refl
text_by_characters [] (d ∷ s) e = absurd (omega (arith, e))
text_by_characters (c ∷ r) [] e = absurd (omega (arith, e))
text_by_characters (c ∷ r) (d ∷ s) e = ap (λ (b : Bool). (d == c) && b) (text_by_characters r s (omega (arith, e)))

pub other_length : (r s : List ℕ) → (length r ≡ length s → ⊥) → is_text r s ≡ false
other_length r s h = false_from_ne_true (is_text r s) (λ e. h (ap length (text_is r s e)))

-- ---- names that no row has

-- a text of which a test does not hold that holds of each row
no_row : (p : List ℕ → Bool) (rows : Rows) (s : List ℕ) → list_all (λ (row : List ℕ × TagEffect). p row.0) rows ≡ true → p s ≡ false → effect_in rows s ≡ Other
no_row p [] s h e = refl
no_row p (row ∷ rows) s h e =
    let both = and_parts (p row.0) (list_all (λ (r : List ℕ × TagEffect). p r.0) rows) h in
    by both.0 (no_row p rows s both.1 e) (is_text row.0 s) refl
  where
    by : p row.0 ≡ true → effect_in rows s ≡ Other → (b : Bool) → is_text row.0 s ≡ b → cond b row.1 (effect_in rows s) ≡ Other
    by g i b f = grind (arith, text_is)

-- more characters than a name has
too_long : (s : List ℕ) → nat_lt (length s) KEPT ≡ false → effect_in tag_names s ≡ Other
too_long s e = no_row (λ (t : List ℕ). nat_lt (length t) KEPT) tag_names s refl e

-- ---- a name's characters so far

-- what the tag does whose name begins with s depends on these characters and the rest of it alone
abbrev pub IsName : List ℕ → List ℕ → Type 0
IsName name s = (t : List ℕ) → effect_in tag_names (s ++ t) ≡ effect_in tag_names (name ++ t)

-- a character more
pub name_more : (name s : List ℕ) (c : ℕ) → IsName name s → IsName (next_name name c) (s ++ c ∷ [])
name_more name s c f t = ap (effect_in tag_names) (append_assoc s (c ∷ []) t) ∙ f (c ∷ t) ∙ by (nat_lt (length name) KEPT) refl
  where
    longer : (u : List ℕ) → nat_lt (length name) KEPT ≡ false → nat_lt (length (name ++ u)) KEPT ≡ false
    longer u e = le-ltb (length (name ++ u)) KEPT (let l = ltb-false (length name) KEPT e in omega (arith, l, length-append name u))

    by : (b : Bool) → nat_lt (length name) KEPT ≡ b → effect_in tag_names (name ++ c ∷ t) ≡ effect_in tag_names (cond b (name ++ c ∷ []) name ++ t)
    by b e = grind (arith, append_assoc, too_long, longer)

-- the `>`
pub name_ends : (name s : List ℕ) → IsName name s → effect_of (60 ∷ s ++ 62 ∷ []) ≡ effect_of (60 ∷ name ++ 62 ∷ [])
name_ends name s f =
    effect-named s ∙ ap (effect_in tag_names) (sym (append-nil s)) ∙ f [] ∙ ap (effect_in tag_names) (append-nil name) ∙ sym (effect-named name)

-- ---- any characters

one_of_append : (s t : List ℕ) → is_one_of s 62 ≡ true → is_one_of (s ++ t) 62 ≡ true
one_of_append [] t e = absurd (cc)
one_of_append (c ∷ s) t e = grind (arith, one_of_append s t)

pub is_name : (name : List ℕ) → IsName name (name_so_far name)
is_name name t = by (is_one_of name 62) refl
  where
    by : (b : Bool) → is_one_of name 62 ≡ b → effect_in tag_names (cond b (codes "x") name ++ t) ≡ effect_in tag_names (name ++ t)
    by true e = sym (no_row (λ (u : List ℕ). not (is_one_of u 62)) tag_names (name ++ t) refl (ap not (one_of_append name t e)))
    by false e = refl

pub name_lacks : (name : List ℕ) → lacks 62 (name_so_far name) ≡ true
name_lacks name = by (is_one_of name 62) refl
  where
    none : (s : List ℕ) → is_one_of s 62 ≡ false → lacks 62 s ≡ true
    none [] e = refl
    none (c ∷ s) e = here (none s) (c == 62) refl e
      where
        here : (is_one_of s 62 ≡ false → lacks 62 s ≡ true) → (b : Bool) → c == 62 ≡ b → (b || is_one_of s 62) ≡ false → lacks 62 (c ∷ s) ≡ true
        here h b f g = grind arith

    by : (b : Bool) → is_one_of name 62 ≡ b → lacks 62 (cond b (codes "x") name) ≡ true
    by b e = grind (arith, none)
