-- Putting the entries in turn gives those that stand.
use Rattle.std.proofs.Common.{◌≡◌, ℕ, List, [], ◌∷◌, ◌++◌, Bool, true, false, cond, not, ◌&&◌, ◌||◌, refl, sym, ap, ◌∙◌, subst, append_assoc, append-nil, bytes_eq, arith}
use Rattle.std.proofs.lemmas.Bool.{or_parts, false_from_ne_true}
use Rattle.std.specs.Cmp.Lexicographic.{same_text}
use Rattle.gabc_headers.specs.Book.{is_one_of, repeats, unless, last_value, value_of, standing_entries}
use Rattle.gabc_headers.specs.EntryMap.{is_annotation, with_value, put_all}
use Rattle.gabc_headers.specs.machine.EntryMap.{names}
use Rattle.gabc_headers.proofs.entries.TextsAsBytes.{bytes_eq_sym}

-- the entries so far, with what comes
abbrev pub merged : {X : Type 0} → List (List ℕ × X) → List (List ℕ × X) → List (List ℕ × X)
merged [] es = []
merged (d ∷ ds) es = (d.0, value_of d.0 d.1 es) ∷ merged ds es

-- no name but `annotation` comes again
abbrev pub Distinct : {X : Type 0} → List (List ℕ × X) → Type 0
Distinct [] = Unit {0}
Distinct (d ∷ ds) = (is_annotation d.0 ≡ false → is_one_of d.0 (names ds) ≡ false) × Distinct ds

or_swap : (a b c : Bool) → (a || (b || c)) ≡ (b || (a || c))
or_swap a b c = grind arith

pub is_one_of-push : (n m : List ℕ) (ns : List (List ℕ)) → is_one_of n (ns ++ m ∷ []) ≡ is_one_of n (m ∷ ns)
is_one_of-push n m [] = refl
is_one_of-push n m (x ∷ ns) = ap (λ (b : Bool). bytes_eq n x || b) (is_one_of-push n m ns) ∙ or_swap (bytes_eq n x) (bytes_eq n m) (is_one_of n ns)

-- a name that was seen, seen again
pub seen_again : (m : List ℕ) (s : List (List ℕ)) → is_one_of m s ≡ true → (n : List ℕ) → is_one_of n (m ∷ s) ≡ is_one_of n s
seen_again m s h n = by (bytes_eq n m) refl
  where
    by : (b : Bool) → bytes_eq n m ≡ b → (b || is_one_of n s) ≡ is_one_of n s
    by true e = sym (subst (λ (x : List ℕ). is_one_of x s ≡ true) (sym (same_text n m (sym e))) h)
    by false e = refl

apart : (a b : List ℕ) → is_annotation a ≡ false → is_annotation b ≡ true → bytes_eq a b ≡ false
apart a b h k = false_from_ne_true (bytes_eq a b) (λ e. let f = ap is_annotation (same_text a b (sym e)) in cc)

module _ {X : Type 0} where
  pub with_value-new : (ds : List (List ℕ × X)) (name : List ℕ) (v : X) → is_one_of name (names ds) ≡ false → with_value ds name v ≡ ds ++ (name, v) ∷ []
  with_value-new [] name v h = refl
  with_value-new (d ∷ ds) name v h =
      let o = or_parts (bytes_eq name d.0) (is_one_of name (names ds)) h in rw o.0 (ap (λ (x : List (List ℕ × X)). d ∷ x) (with_value-new ds name v o.1))

  pub names-with_value : (ds : List (List ℕ × X)) (name : List ℕ) (v : X) → is_one_of name (names ds) ≡ true → names (with_value ds name v) ≡ names ds
  names-with_value [] name v h = absurd (cc)
  names-with_value (d ∷ ds) name v h = grind (arith, names-with_value ds name v)

  pub names-push : (ds : List (List ℕ × X)) (e : List ℕ × X) → names (ds ++ e ∷ []) ≡ names ds ++ e.0 ∷ []
  names-push [] e = refl
  names-push (d ∷ ds) e = ap (λ (x : List (List ℕ)). d.0 ∷ x) (names-push ds e)

  merged-push : (ds : List (List ℕ × X)) (e : List ℕ × X) (es : List (List ℕ × X)) → merged (ds ++ e ∷ []) es ≡ merged ds es ++ (e.0, value_of e.0 e.1 es) ∷ []
  merged-push [] e es = refl
  merged-push (d ∷ ds) e es = ap (λ (x : List (List ℕ × X)). (d.0, value_of d.0 d.1 es) ∷ x) (merged-push ds e es)

  -- an entry of another name changes nothing
  value-other : (name : List ℕ) (v : X) (e : List ℕ × X) (es : List (List ℕ × X)) → (is_annotation name ≡ false → bytes_eq name e.0 ≡ false) → value_of name v (e ∷ es) ≡ value_of name v es
  value-other name v e es h = grind arith

  standing-same : (s t : List (List ℕ)) → ((n : List ℕ) → is_one_of n s ≡ is_one_of n t) → (es : List (List ℕ × X)) → standing_entries s es ≡ standing_entries t es
  standing-same s t h [] = refl
  standing-same s t h (e ∷ es) =
      ap (λ (b : Bool). unless (not (is_annotation e.0) && b) (e.0, value_of e.0 e.1 es) (standing_entries (e.0 ∷ s) es)) (h e.0)
      ∙ ap (λ (x : List (List ℕ × X)). unless (repeats t e.0) (e.0, value_of e.0 e.1 es) x) (standing-same (e.0 ∷ s) (e.0 ∷ t) (λ n. ap (λ (b : Bool). bytes_eq n e.0 || b) (h n)) es)

  -- ---- one entry more

  merged-absent : (ds : List (List ℕ × X)) (e : List ℕ × X) (es : List (List ℕ × X)) → is_one_of e.0 (names ds) ≡ false → merged ds (e ∷ es) ≡ merged ds es
  merged-absent [] e es h = refl
  merged-absent (d ∷ ds) e es h =
      ap (λ (v : X). (d.0, v) ∷ merged ds (e ∷ es)) (value-other d.0 d.1 e es (λ a. bytes_eq_sym d.0 e.0 ∙ (or_parts (bytes_eq e.0 d.0) (is_one_of e.0 (names ds)) h).0))
      ∙ ap (λ (x : List (List ℕ × X)). (d.0, value_of d.0 d.1 es) ∷ x) (merged-absent ds e es (or_parts (bytes_eq e.0 d.0) (is_one_of e.0 (names ds)) h).1)

  merged-annotation : (ds : List (List ℕ × X)) (e : List ℕ × X) (es : List (List ℕ × X)) → is_annotation e.0 ≡ true → merged ds (e ∷ es) ≡ merged ds es
  merged-annotation [] e es h = refl
  merged-annotation (d ∷ ds) e es h = grind (arith, merged-annotation ds e es h, value-other, apart)

  merged-with_value : (ds : List (List ℕ × X)) (e : List ℕ × X) (es : List (List ℕ × X)) → Distinct ds → is_annotation e.0 ≡ false
      → merged (with_value ds e.0 e.1) es ≡ cond (is_one_of e.0 (names ds)) (merged ds (e ∷ es)) (merged ds es ++ (e.0, value_of e.0 e.1 es) ∷ [])
  merged-with_value [] e es u a = refl
  merged-with_value (d ∷ ds) e es u a = by (bytes_eq e.0 d.0) refl (merged-with_value ds e es u.1 a)
    where
      by : (b : Bool) → bytes_eq e.0 d.0 ≡ b → merged (with_value ds e.0 e.1) es ≡ cond (is_one_of e.0 (names ds)) (merged ds (e ∷ es)) (merged ds es ++ (e.0, value_of e.0 e.1 es) ∷ [])
          → merged (cond b ((d.0, e.1) ∷ ds) (d ∷ with_value ds e.0 e.1)) es
          ≡ cond (b || is_one_of e.0 (names ds)) ((d.0, value_of d.0 d.1 (e ∷ es)) ∷ merged ds (e ∷ es)) ((d.0, value_of d.0 d.1 es) ∷ (merged ds es ++ (e.0, value_of e.0 e.1 es) ∷ []))
      by true q r =
          let s : e.0 ≡ d.0 = same_text e.0 d.0 (sym q) in
          let f : is_annotation d.0 ≡ false = sym (ap is_annotation s) ∙ a in
          let g : is_one_of e.0 (names ds) ≡ false = ap (λ (x : List ℕ). is_one_of x (names ds)) s ∙ u.0 f in
          let v : value_of d.0 d.1 (e ∷ es) ≡ value_of d.0 e.1 es = ap (λ (b : Bool). cond (is_annotation d.0) d.1 (last_value d.0 (cond b e.1 d.1) es)) (bytes_eq_sym d.0 e.0 ∙ q)
          ∙ (ap (λ (b : Bool). cond b d.1 (last_value d.0 e.1 es)) f ∙ sym (ap (λ (b : Bool). cond b e.1 (last_value d.0 e.1 es)) f)) in
          sym (ap (λ (x : X). (d.0, x) ∷ merged ds (e ∷ es)) v ∙ ap (λ (x : List (List ℕ × X)). (d.0, value_of d.0 e.1 es) ∷ x) (merged-absent ds e es g))
      by false q r = ap (λ (x : List (List ℕ × X)). (d.0, value_of d.0 d.1 es) ∷ x) r ∙ of (is_one_of e.0 (names ds))
        where
          of : (b : Bool) → (d.0, value_of d.0 d.1 es) ∷ cond b (merged ds (e ∷ es)) (merged ds es ++ (e.0, value_of e.0 e.1 es) ∷ [])
              ≡ cond b ((d.0, value_of d.0 d.1 (e ∷ es)) ∷ merged ds (e ∷ es)) ((d.0, value_of d.0 d.1 es) ∷ (merged ds es ++ (e.0, value_of e.0 e.1 es) ∷ []))
          of true = sym (ap (λ (x : X). (d.0, x) ∷ merged ds (e ∷ es)) (value-other d.0 d.1 e es (λ z. bytes_eq_sym d.0 e.0 ∙ q)))
          of false = refl

  Distinct-push : (ds : List (List ℕ × X)) (e : List ℕ × X) → Distinct ds → (is_annotation e.0 ≡ false → is_one_of e.0 (names ds) ≡ false) → Distinct (ds ++ e ∷ [])
  Distinct-push [] e u h = ((λ a. refl), tt)
  Distinct-push (d ∷ ds) e u h = (
    (λ a. ap (is_one_of d.0) (names-push ds e) ∙ (is_one_of-push d.0 e.0 (names ds) ∙ by (bytes_eq d.0 e.0) refl a)),
    Distinct-push ds e u.1 (λ a. (or_parts (bytes_eq e.0 d.0) (is_one_of e.0 (names ds)) (h a)).1),
  )
    where
      by : (b : Bool) → bytes_eq d.0 e.0 ≡ b → is_annotation d.0 ≡ false → (b || is_one_of d.0 (names ds)) ≡ false
      by true q a =
          let s : d.0 ≡ e.0 = same_text d.0 e.0 (sym q) in
          let k = (or_parts (bytes_eq e.0 d.0) (is_one_of e.0 (names ds)) (h (sym (ap is_annotation s) ∙ a))).0 in
          let m = bytes_eq_sym d.0 e.0 in absurd (cc)
      by false q a = u.0 a

  Distinct-with_value : (ds : List (List ℕ × X)) (name : List ℕ) (v : X) → Distinct ds → is_one_of name (names ds) ≡ true → Distinct (with_value ds name v)
  Distinct-with_value [] name v u h = absurd (cc)
  Distinct-with_value (d ∷ ds) name v u h = grind (arith, Distinct-with_value ds name v u.1, names-with_value)

  -- ---- all of them

  pub put-standing : (ds es : List (List ℕ × X)) → Distinct ds → put_all ds es ≡ merged ds es ++ standing_entries (names ds) es
  put-standing ds [] u = sym (append-nil (merged ds []) ∙ merged-nil ds)
    where
      merged-nil : (ds : List (List ℕ × X)) → merged ds [] ≡ ds
      merged-nil [] = refl
      merged-nil (d ∷ ds) = ap (λ (x : X). (d.0, x) ∷ merged ds []) (same (is_annotation d.0)) ∙ ap (λ (x : List (List ℕ × X)). d ∷ x) (merged-nil ds)
        where
          same : (b : Bool) → cond b d.1 d.1 ≡ d.1
          same true = refl
          same false = refl
  put-standing ds (e ∷ es) u = by (is_annotation e.0) (is_one_of e.0 (names ds)) refl refl (λ d. put-standing d es)
    where
      pushed : ((d : List (List ℕ × X)) → Distinct d → put_all d es ≡ merged d es ++ standing_entries (names d) es) → (is_annotation e.0 ≡ false → is_one_of e.0 (names ds) ≡ false)
          → put_all (ds ++ e ∷ []) es ≡ merged ds es ++ (e.0, value_of e.0 e.1 es) ∷ standing_entries (e.0 ∷ names ds) es
      pushed r h = r (ds ++ e ∷ []) (Distinct-push ds e u h)
          ∙ (ap (λ (x : List (List ℕ × X)). x ++ standing_entries (names (ds ++ e ∷ [])) es) (merged-push ds e es)
          ∙ (append_assoc (merged ds es) ((e.0, value_of e.0 e.1 es) ∷ []) (standing_entries (names (ds ++ e ∷ [])) es)
          ∙ ap (λ (x : List (List ℕ × X)). merged ds es ++ (e.0, value_of e.0 e.1 es) ∷ x)
          (standing-same (names (ds ++ e ∷ [])) (e.0 ∷ names ds) (λ n. ap (is_one_of n) (names-push ds e) ∙ is_one_of-push n e.0 (names ds)) es)))

      by : (a b : Bool) → is_annotation e.0 ≡ a → is_one_of e.0 (names ds) ≡ b → ((d : List (List ℕ × X)) → Distinct d → put_all d es ≡ merged d es ++ standing_entries (names d) es)
          → put_all (cond a (ds ++ e ∷ []) (with_value ds e.0 e.1)) es ≡ merged ds (e ∷ es) ++ unless (not a && b) (e.0, value_of e.0 e.1 es) (standing_entries (e.0 ∷ names ds) es)
      by true b f g r = pushed r (λ z. absurd (cc)) ∙ ap (λ (x : List (List ℕ × X)). x ++ (e.0, value_of e.0 e.1 es) ∷ standing_entries (e.0 ∷ names ds) es) (sym (merged-annotation ds e es f))
      by false true f g r = r (with_value ds e.0 e.1) (Distinct-with_value ds e.0 e.1 u g)
          ∙ (ap (λ (x : List (List ℕ)). merged (with_value ds e.0 e.1) es ++ standing_entries x es) (names-with_value ds e.0 e.1 g)
          ∙ (ap (λ (x : List (List ℕ × X)). x ++ standing_entries (names ds) es) (merged-with_value ds e es u f ∙ ap (λ (b : Bool). cond b (merged ds (e ∷ es)) (merged ds es ++ (e.0, value_of e.0 e.1 es) ∷ [])) g)
          ∙ ap (λ (x : List (List ℕ × X)). merged ds (e ∷ es) ++ x) (sym (standing-same (e.0 ∷ names ds) (names ds) (seen_again e.0 (names ds) g) es))))
      by false false f g r = ap (λ (x : List (List ℕ × X)). put_all x es) (with_value-new ds e.0 e.1 g)
          ∙ (pushed r (λ z. g) ∙ ap (λ (x : List (List ℕ × X)). x ++ (e.0, value_of e.0 e.1 es) ∷ standing_entries (e.0 ∷ names ds) es) (sym (merged-absent ds e es g)))

  -- the book of the entries, put in turn
  pub put-book : (es : List (List ℕ × X)) → put_all [] es ≡ standing_entries [] es
  put-book es = put-standing [] es tt
