-- The item that ends with a character, by the states before and after it.
use Rattle.std.proofs.Common.{◌≡◌, ℕ, ◌⊎◌, inl, inr, List, [], ◌∷◌, ◌++◌, Bool, false, cond, ◌||◌, refl, sym, ap, ◌∙◌, subst, codes, Some, None, append-nil, append_assoc, ne_eqb, arith}
use Rattle.std.proofs.lemmas.List.{same_from_push}
use Rattle.std.specs.List.{concat}
use Rattle.gabc_patterns.specs.Pattern.{Spells, Each, is_in, any_but}
use Rattle.gabc_patterns.specs.LongestItems.{IsItemOf, IsReading, IsSnippet}
use Rattle.gabc_patterns.specs.Derivative.{Munch, start, nowhere, within, run, is_snippet}
use Rattle.gabc_patterns.specs.Function.{items}
use Rattle.gabc_patterns.proofs.ItemsFunctionReads.{items_only}
use Rattle.gabc_patterns.proofs.LongestMunchByCharacter.{snippet_to}
use Rattle.gabc_notes.specs.Table.{gabc}
use Rattle.gabc_notes.specs.witness.StageEvents.{kind_at}
use Rattle.gabc_notes.specs.Events.{ItemText, last_of, last_item}
use Rattle.gabc_notes.specs.declared.item.ItemKind.{ItemKind}
use Rattle.gabc_notes.specs.declared.item.ItemKind.TheVariants.{Attribute, Fusion}
use Rattle.gabc_notes.proofs.grammar.LawsOfKeptTexts.{kinds_are_one}
use Rattle.gabc_notes.proofs.items_of_text.LastItemByState.{last_is, ReadsOn, shrink, cut_reading, join_reading}

-- ---- the last of a list

pub last_pushed : (is : List ItemText) (i : ItemText) → last_of (is ++ i ∷ []) ≡ Some i
last_pushed [] i = refl
last_pushed (j ∷ []) i = refl
last_pushed (j ∷ k ∷ is) i = last_pushed (k ∷ is) i

-- a list is empty, or has a last element
pub pushed : {X : Type 0} (t : List X) → (t ≡ []) ⊎ ((a : List X) × (x : X) × (t ≡ a ++ x ∷ []))
pushed [] = inl refl
pushed {X} (c ∷ t) = elim (pushed t) [
  | inl e ↦ inr ([], c, ap (λ (u : List X). c ∷ u) e)
  | inr h ↦ inr (c ∷ h.0, h.1, ap (λ (u : List X). c ∷ u) h.2)
]

-- ---- the last item

pub one_items : (is : List ItemText) (t : List ℕ) → IsReading gabc is t → items gabc t ≡ is
one_items is t h = sym (items_only gabc refl kinds_are_one t is h)

pub last_item_is : (is : List ItemText) (i : ItemText) (t : List ℕ) → IsReading gabc (is ++ i ∷ []) t → last_item t ≡ Some i
last_item_is is i t h = grind (arith, snippet_to, one_items, last_pushed)

pub last_item_none : (t : List ℕ) → is_snippet gabc t ≡ false → last_item t ≡ None
last_item_none t e = ap (λ (b : Bool). cond b (last_of (items gabc t)) None) e

-- the items before the last one, and its text
pub record Ends (i : ItemText) (t : List ℕ) : Type 0 where
  pub before : List ItemText
  pub prefix : List ℕ
  pub cut : t ≡ prefix ++ i.1
  pub reads : ReadsOn gabc before prefix i.1
  pub has : IsItemOf gabc i.0 i.1

pub ends_of : (is : List ItemText) (i : ItemText) (t : List ℕ) → IsReading gabc (is ++ i ∷ []) t → Ends i t
ends_of is i t h =
    let y = cut_reading gabc is (i ∷ []) t h in
    let all : y.1 ≡ i.1 = y.4.1 ∙ (ap (λ (u : List ℕ). i.1 ++ u) y.4.4 ∙ append-nil i.1) in
    record {
      before = is;
      prefix = y.0;
      cut = y.2 ∙ ap (λ (u : List ℕ). y.0 ++ u) all;
      reads = subst (λ (u : List ℕ). ReadsOn gabc is y.0 u) all y.3;
      has = y.4.2;
    }

-- what is read is a snippet
pub prefix_snippet : (is : List ItemText) (a b : List ℕ) → ReadsOn gabc is a b → IsSnippet gabc a
prefix_snippet is a b h =
    (is, subst (λ (js : List ItemText). IsReading gabc js a) (append-nil is) (subst (IsReading gabc (is ++ [])) (append-nil a) (join_reading gabc is [] a [] (shrink gabc is a [] b h) refl)))

-- by where the reading stands
pub ends_with : (t : List ℕ) (k : ItemKind) → kind_at (run gabc start t) ≡ Some k → (u : List ℕ) × Ends (k, u) t × (last_item t ≡ Some (k, u))
ends_with t k e = go (run gabc start t) refl e
  where
    go : (m : Munch ItemKind) → run gabc start t ≡ m → kind_at m ≡ Some k → (u : List ℕ) × Ends (k, u) t × (last_item t ≡ Some (k, u))
    go start f e = absurd (cc)
    go nowhere f e = absurd (cc)
    go (within rows back) f e =
        let h = last_is gabc k rows back t f e in
        (h.last, ends_of h.before (k, h.last) t h.reads, last_item_is h.before (k, h.last) t h.reads)

-- ---- the texts of items

-- a fusion mark
pub fusion_texts : (t : List ℕ) → IsItemOf gabc Fusion t → (t ≡ codes "@") ⊎ ((t ≡ codes "@[") ⊎ (t ≡ codes "]"))
fusion_texts t h = grind arith

-- what a bracket holds has no `]`
no_close : (parts : List (List ℕ)) → Each (Spells (any_but 93)) parts → is_in 93 (concat parts) ≡ false
no_close [] h = refl
no_close (p ∷ parts) h = (let x = h.0 in ap (λ (t : List ℕ). is_in 93 (t ++ concat parts)) x.2 ∙ (ap (λ (b : Bool). b || is_in 93 (concat parts)) (ne_eqb x.0 93 x.1) ∙ no_close parts h.1))

-- an attribute
pub attribute_text : (t : List ℕ) → IsItemOf gabc Attribute t → (r : List ℕ) × (t ≡ 91 ∷ r ++ 93 ∷ []) × (is_in 93 r ≡ false)
attribute_text t h = grind (arith, no_close)

-- a fusion mark by its last character
pub fusion_open : (k u : List ℕ) → Ends (Fusion, u) (k ++ 91 ∷ []) → u ≡ codes "@["
fusion_open k u h = grind (arith, same_from_push)

pub fusion_close : (k u : List ℕ) → Ends (Fusion, u) (k ++ 93 ∷ []) → u ≡ codes "]"
fusion_close k u h = elim (fusion_texts u h.has) [
  | inl e ↦ absurd (let f = same_from_push k h.prefix 93 64 (h.cut ∙ ap (λ (v : List ℕ). h.prefix ++ v) e) in omega (arith, f.1))
  | inr y ↦ elim y [
    | inl e ↦ absurd (let f = same_from_push k (h.prefix ++ 64 ∷ []) 93 91 (h.cut ∙ (ap (λ (v : List ℕ). h.prefix ++ v) e ∙ sym (append_assoc h.prefix (64 ∷ []) (91 ∷ [])))) in omega (arith, f.1))
    | inr e ↦ e
  ]
]
