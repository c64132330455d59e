-- The item that ends with a character, by the states of the machine before and after it.
use Rattle.std.proofs.Common.{◌≡◌, ℕ, ◌⊎◌, inl, inr, List, [], ◌∷◌, ◌++◌, Bool, true, false, cond, not, ◌&&◌, ◌||◌, ◌==◌, refl, sym, ap, ◌∙◌, subst, codes, Option, Some, None, append_assoc, eqb-true, arith}
use Rattle.std.proofs.Math.Bool.{and-false, and-true}
use Rattle.std.proofs.lemmas.List.{same_from_push}
use Rattle.gabc_patterns.specs.Pattern.{is_in}
use Rattle.gabc_patterns.specs.LongestItems.{IsItemOf, IsReading, IsSnippet}
use Rattle.gabc_patterns.specs.Derivative.{start, run, is_snippet, is_whole, same_texts}
use Rattle.gabc_patterns.proofs.AutomatonsByTests.{reading}
use Rattle.gabc_patterns.proofs.LongestPrefixIsOne.{compare}
use Rattle.gabc_patterns.proofs.LongestMunchByCharacter.{snippet_to, snippet_from}
use Rattle.gabc_patterns.proofs.StatesAfterTexts.{Stands, after_char}
use Rattle.gabc_notes.specs.Table.{gabc}
use Rattle.gabc_notes.specs.Notes.{is_digit}
use Rattle.gabc_notes.specs.witness.StageEvents.{kind_at, macro_digit}
use Rattle.gabc_notes.specs.Events.{in_raw, digit_if, ItemText, last_item, opens_fusion, closes_fusion, macro_in, macro_of}
use Rattle.gabc_notes.specs.machine.ItemMachine.{whole_at, raw_state, attribute_state}
use Rattle.gabc_notes.specs.declared.item.ItemKind.{ItemKind}
use Rattle.gabc_notes.specs.declared.item.ItemKind.TheVariants.{Spacing, Attribute, Fusion}
use Rattle.gabc_notes.specs.declared.state.ItemState.{ItemState}
use Rattle.gabc_notes.specs.declared.state.ItemState.TheVariants.{Done}
use Rattle.gabc_notes.specs.declared.state.FullItem.TheVariants.{Spacing as FullSpacing, Attribute as FullAttribute, Fusion as FullFusion}
use Rattle.gabc_notes.proofs.machine.MachineReadsTable.{machine, snippets_read}
use Rattle.gabc_notes.proofs.grammar.LawsOfKeptTexts.{none_empty}
use Rattle.gabc_notes.proofs.grammar.InsideRawIsAnOpenBracket.{OpenBy, on, is_raw, step_on, open_from}
use Rattle.gabc_notes.proofs.items_of_text.LastItemByState.{ReadsOn, shrink, prefix_read}
use Rattle.gabc_notes.proofs.items_of_text.ItemAtCharacter.{pushed, last_item_is, last_item_none, Ends, ends_of, ends_with, prefix_snippet, fusion_open, fusion_close, attribute_text}

abbrev pub is_fusion : ItemState → Bool
is_fusion (Done FullFusion) = true
is_fusion _ = false

abbrev pub is_spacing : ItemState → Bool
is_spacing (Done FullSpacing) = true
is_spacing _ = false

-- after a `[` the text lies inside raw, or ends with a fusion mark; before the latter it did not
abbrev pub opened_at : ItemState → Option ItemState → Bool
opened_at s None = true
opened_at s (Some z) = raw_state z || (is_fusion z && not (raw_state s))

-- after a `]` the text ends with an attribute or a spacing where it lay inside raw, else with a fusion mark
abbrev pub closed_at : ItemState → Option ItemState → Bool
closed_at s None = true
closed_at s (Some z) = cond (raw_state s) (attribute_state z || is_spacing z) (is_fusion z)

-- after a `@` of a snippet a `[` ends a fusion mark
abbrev pub joined_at : Option ItemState → Bool
joined_at None = true
joined_at (Some z) = elim (on z 91) as (λ _. Bool) [ None ↦ false | Some y ↦ whole_at y ]

abbrev pub mark_test : ItemState → Bool
mark_test s = opened_at s (on s 91) && (closed_at s (on s 93) && cond (whole_at s) (joined_at (on s 64)) true)

pub marks_tested : (s : ItemState) → mark_test s ≡ true
marks_tested s = grind arith

-- a raw state is neither whole nor an attribute
pub raw_alone : (s : ItemState) → raw_state s ≡ true → (whole_at s ≡ false) × (attribute_state s ≡ false)
raw_alone s e = grind arith

pub opened_by : (s z : ItemState) → on s 91 ≡ Some z → (raw_state z ≡ true) ⊎ ((z ≡ Done FullFusion) × (raw_state s ≡ false))
opened_by s z e = grind arith

pub closed_by : (s z : ItemState) → on s 93 ≡ Some z
    → ((raw_state s ≡ true) × ((z ≡ Done FullAttribute) ⊎ (z ≡ Done FullSpacing))) ⊎ ((raw_state s ≡ false) × (z ≡ Done FullFusion))
closed_by s z e = grind arith

-- ---- the item by the states

-- the machine is in s after k, and in z after k and c
pub record Steps (k : List ℕ) (c : ℕ) (s z : ItemState) : Type 0 where
  pub here : Stands gabc machine s k
  pub next : on s c ≡ Some z

pub stands : (k : List ℕ) (c : ℕ) (s z : ItemState) → Steps k c s z → run gabc start (k ++ c ∷ []) ≡ reading gabc machine z
stands k c s z h = after_char gabc machine snippets_read s k c (Some z) h.here h.next

no_snippet_at : (k : List ℕ) (c : ℕ) (s z : ItemState) → Steps k c s z → whole_at z ≡ false → last_item (k ++ c ∷ []) ≡ None
no_snippet_at k c s z h w = last_item_none (k ++ c ∷ []) (ap is_whole (stands k c s z h) ∙ (snippets_read.whole z ∙ w))

-- an item of that kind ends there
pub kind_ends : (k : List ℕ) (c : ℕ) (s z : ItemState) (i : ItemKind) → Steps k c s z → kind_at (reading gabc machine z) ≡ Some i
    → (u : List ℕ) × Ends (i, u) (k ++ c ∷ []) × (last_item (k ++ c ∷ []) ≡ Some (i, u))
kind_ends k c s z i h e = ends_with (k ++ c ∷ []) i (ap kind_at (stands k c s z h) ∙ e)

-- the item after a `[`
pub item_opened : (k : List ℕ) (s z : ItemState) → Steps k 91 s z
    → ((raw_state z ≡ true) × (last_item (k ++ 91 ∷ []) ≡ None)) ⊎ ((raw_state z ≡ false) × (raw_state s ≡ false) × (last_item (k ++ 91 ∷ []) ≡ Some (Fusion, codes "@[")))
item_opened k s z h = elim (opened_by s z h.next) [
  | inl x ↦ inl (x, no_snippet_at k 91 s z h (raw_alone z x).0)
  | inr x ↦ (let y = kind_ends k 91 s z Fusion h (ap (λ (q : ItemState). kind_at (reading gabc machine q)) x.0) in
      inr (ap raw_state x.0, x.1, y.2 ∙ ap (λ (u : List ℕ). Some (Fusion, u)) (fusion_open k y.0 y.1)))
]

-- the item after a `]` outside raw
pub item_closed : (k : List ℕ) (s z : ItemState) → Steps k 93 s z → raw_state s ≡ false → last_item (k ++ 93 ∷ []) ≡ Some (Fusion, codes "]")
item_closed k s z h r = elim (closed_by s z h.next) [
  | inl x ↦ absurd (let f = x.0 in cc)
  | inr x ↦ (let y = kind_ends k 93 s z Fusion h (ap (λ (q : ItemState). kind_at (reading gabc machine q)) x.1) in
      y.2 ∙ ap (λ (u : List ℕ). Some (Fusion, u)) (fusion_close k y.0 y.1))
]

-- ---- inside raw

-- The text is one outside raw, and then the raw: a bracket from which on each prefix lies inside raw.
pub record RawFrom (k raw : List ℕ) : Type 0 where
  pub before : List ℕ
  pub after : List ℕ
  pub cut : k ≡ before ++ 91 ∷ after
  pub raw_is : raw ≡ 91 ∷ after
  pub outside : in_raw before ≡ false
  pub inside : (a b : List ℕ) → after ≡ a ++ b → in_raw (before ++ 91 ∷ a) ≡ true

-- a snippet lies outside raw
pub snippet_outside : (t : List ℕ) → IsSnippet gabc t → in_raw t ≡ false
snippet_outside t h = ap (λ (b : Bool). is_snippet gabc (t ++ codes "]") && not b) (snippet_to gabc refl t h) ∙ and-false (is_snippet gabc (t ++ codes "]"))

-- the text before an attribute, with a `[`, is no snippet
not_joined : (before : List ItemText) (prefix r : List ℕ) → ReadsOn gabc before prefix (91 ∷ r) → ¬ IsSnippet gabc (prefix ++ 91 ∷ [])
not_joined before prefix r h i =
    let f = prefix_read gabc before i.0 prefix (91 ∷ []) (shrink gabc before prefix (91 ∷ []) r h) i.1 in
    absurd (let g : false ≡ true = snippet_to gabc refl (91 ∷ []) f in cc)

-- the bracket of an attribute that ends with the text is where raw began
attribute_raw : (k raw u : List ℕ) → RawFrom k raw → Ends (Attribute, u) (k ++ 93 ∷ []) → u ≡ raw ++ 93 ∷ []
attribute_raw k raw u h e =
    let t = attribute_text u e.has in
    let same : k ≡ e.prefix ++ 91 ∷ t.0 = (same_from_push k (e.prefix ++ 91 ∷ t.0) 93 93 (e.cut ∙ (ap (λ (v : List ℕ). e.prefix ++ v) t.1 ∙ sym (append_assoc e.prefix (91 ∷ t.0) (93 ∷ []))))).0 in
    let on : ReadsOn gabc e.before e.prefix (91 ∷ (t.0 ++ 93 ∷ [])) = subst (λ (v : List ℕ). ReadsOn gabc e.before e.prefix v) t.1 e.reads in
    let equal : t.0 ≡ h.after → u ≡ raw ++ 93 ∷ [] = λ f. t.1 ∙ (ap (λ (v : List ℕ). 91 ∷ v ++ 93 ∷ []) f ∙ ap (λ (v : List ℕ). v ++ 93 ∷ []) (sym h.raw_is)) in
    elim (compare e.prefix h.before (91 ∷ t.0) (91 ∷ h.after) (sym same ∙ h.cut)) [
      | inl x ↦ shorter x.0 x.1 x.2 equal t.2 on
      | inr x ↦ longer x.0 x.1 x.2 equal
    ]
  where
    shorter : (m : List ℕ) {r : List ℕ} → h.before ≡ e.prefix ++ m → 91 ∷ r ≡ m ++ 91 ∷ h.after → (r ≡ h.after → u ≡ raw ++ 93 ∷ []) → is_in 93 r ≡ false
        → ReadsOn gabc e.before e.prefix (91 ∷ (r ++ 93 ∷ [])) → u ≡ raw ++ 93 ∷ []
    shorter [] f g E n o = E (cc)
    shorter (d ∷ m) {r} f g E n o =
        let first : d ≡ 91 = cc in
        let rest : r ≡ m ++ 91 ∷ h.after = cc in
        let opened : OpenBy h.before = record {
          before = e.prefix;
          after = m;
          cut = f ∙ ap (λ (c : ℕ). e.prefix ++ c ∷ m) first;
          snippet = prefix_snippet e.before e.prefix _ o;
          opens = not_joined e.before e.prefix _ o;
          unclosed = none m (91 ∷ h.after) (ap (is_in 93) (sym rest) ∙ n);
        } in
        absurd (let v : true ≡ false = sym (open_from h.before opened) ∙ h.outside in cc)
      where
        none : (a b : List ℕ) → is_in 93 (a ++ b) ≡ false → is_in 93 a ≡ false
        none [] b e = refl
        none (c ∷ a) b e = go (c == 93) e (λ f. none a b f)
          where
            go : (x : Bool) → (x || is_in 93 (a ++ b)) ≡ false → (is_in 93 (a ++ b) ≡ false → is_in 93 a ≡ false) → (x || is_in 93 a) ≡ false
            go x e F = grind arith

    longer : (m : List ℕ) {r : List ℕ} → e.prefix ≡ h.before ++ m → 91 ∷ h.after ≡ m ++ 91 ∷ r → (r ≡ h.after → u ≡ raw ++ 93 ∷ []) → u ≡ raw ++ 93 ∷ []
    longer [] f g E = E (cc)
    longer (d ∷ m) {r} f g E =
        let first : d ≡ 91 = cc in
        let rest : h.after ≡ m ++ 91 ∷ r = cc in
        let inside : in_raw e.prefix ≡ true = ap in_raw (f ∙ ap (λ (c : ℕ). h.before ++ c ∷ m) first) ∙ h.inside m (91 ∷ r) rest in
        let outside : in_raw e.prefix ≡ false = snippet_outside e.prefix (prefix_snippet e.before e.prefix u e.reads) in
        absurd (let v : true ≡ false = sym inside ∙ outside in cc)

-- the digit of a macro after the closing bracket
macro_closed : (r : List ℕ) → macro_in (r ++ 93 ∷ []) ≡ macro_digit r
macro_closed [] = refl
macro_closed (a ∷ []) = refl
macro_closed (a ∷ l ∷ []) = refl
macro_closed (a ∷ l ∷ m ∷ []) = refl
macro_closed (a ∷ l ∷ m ∷ d ∷ []) = ap (λ (b : Bool). digit_if ((a == 91) && (is_in l (codes "nge") && ((m == 109) && b))) d) (and-true (is_digit d))
macro_closed (a ∷ l ∷ m ∷ d ∷ b ∷ []) = refl
macro_closed (a ∷ l ∷ m ∷ d ∷ b ∷ c ∷ r) = refl

-- What is emitted of the item that ends with a character.
pub record ItemIs (raw : List ℕ) (c : ℕ) (s z : ItemState) (item : Option ItemText) : Type 0 where
  pub opens : opens_fusion item ≡ ((c == 91) && (not (raw_state s) && not (raw_state z)))
  pub closes : closes_fusion item ≡ ((c == 93) && not (raw_state s))
  pub macro : macro_of item ≡ cond (raw_state s && attribute_state z) (macro_digit raw) None

-- after a `]` inside raw
item_closed_raw : (k raw : List ℕ) (s z : ItemState) → Steps k 93 s z → raw_state s ≡ true → RawFrom k raw → ItemIs raw 93 s z (last_item (k ++ 93 ∷ []))
item_closed_raw k raw s z h r f = elim (closed_by s z h.next) [
  | inl x ↦ elim x.1 [
    | inl e ↦ (let y = kind_ends k 93 s z Attribute h (ap (λ (q : ItemState). kind_at (reading gabc machine q)) e) in
        record {
          opens = ap opens_fusion y.2;
          closes = ap closes_fusion y.2 ∙ sym (ap not r);
          macro = ap macro_of y.2 ∙ (ap macro_in (attribute_raw k raw y.0 f y.1) ∙ (macro_closed raw ∙ sym (rw (r, e) refl)));
        })
    | inr e ↦ (let y = kind_ends k 93 s z Spacing h (ap (λ (q : ItemState). kind_at (reading gabc machine q)) e) in
        record {
          opens = ap opens_fusion y.2;
          closes = ap closes_fusion y.2 ∙ sym (ap not r);
          macro = ap macro_of y.2 ∙ sym (rw (r, e) refl);
        })
  ]
  | inr x ↦ absurd (let g = x.0 in cc)
]

-- ---- after another character

same_open : (v : List ℕ) (c : ℕ) → c == 91 ≡ false → same_texts (v ++ c ∷ []) (codes "@[") ≡ false
same_open [] c e = and-false (c == 64)
same_open (a ∷ []) c e = rw e (and-false (a == 64))
same_open (a ∷ b ∷ []) c e = rw (and-false (b == 91)) (and-false (a == 64))
same_open (a ∷ b ∷ d ∷ v) c e = rw (and-false (b == 91)) (and-false (a == 64))

same_close : (v : List ℕ) (c : ℕ) → c == 93 ≡ false → same_texts (v ++ c ∷ []) (codes "]") ≡ false
same_close [] c e = rw e refl
same_close (a ∷ []) c e = and-false (a == 93)
same_close (a ∷ b ∷ v) c e = and-false (a == 93)

no_macro : (v : List ℕ) (c : ℕ) → c == 93 ≡ false → macro_in (v ++ c ∷ []) ≡ None
no_macro [] c e = refl
no_macro (a ∷ []) c e = refl
no_macro (a ∷ l ∷ []) c e = refl
no_macro (a ∷ l ∷ m ∷ []) c e = refl
no_macro (a ∷ l ∷ m ∷ d ∷ []) c e = grind (arith, and-false)
no_macro (a ∷ l ∷ m ∷ d ∷ b ∷ []) c e = refl
no_macro (a ∷ l ∷ m ∷ d ∷ b ∷ f ∷ r) c e = refl

-- an item that ends with another character is no such mark
other_item : (i : ItemKind) (v : List ℕ) (c : ℕ) → c == 91 ≡ false → c == 93 ≡ false
    → (opens_fusion (Some (i, v ++ c ∷ [])) ≡ false) × (closes_fusion (Some (i, v ++ c ∷ [])) ≡ false) × (macro_of (Some (i, v ++ c ∷ [])) ≡ None)
other_item i v c e f = grind (arith, same_open, same_close, no_macro)

abbrev pub IsNone : Option ItemText → Type 0
IsNone item = (opens_fusion item ≡ false) × (closes_fusion item ≡ false) × (macro_of item ≡ None)

other_last : (k : List ℕ) (c : ℕ) → c == 91 ≡ false → c == 93 ≡ false → IsNone (last_item (k ++ c ∷ []))
other_last k c e f = go (is_snippet gabc (k ++ c ∷ [])) refl
  where
    item : (js : List ItemText) → IsReading gabc js (k ++ c ∷ []) → IsNone (last_item (k ++ c ∷ []))
    item js r = elim (pushed js) [
      | inl h ↦ absurd (let g : k ++ c ∷ [] ≡ [] = subst (λ (is : List ItemText). IsReading gabc is (k ++ c ∷ [])) h r in full k c g)
      | inr h ↦ (let r' : IsReading gabc (h.0 ++ h.1 ∷ []) (k ++ c ∷ []) = subst (λ (is : List ItemText). IsReading gabc is (k ++ c ∷ [])) h.2 r in
          let y = ends_of h.0 h.1 (k ++ c ∷ []) r' in
          elim (pushed h.1.1) [
            | inl n ↦ absurd (none_empty h.1.0 (subst (IsItemOf gabc h.1.0) n y.has))
            | inr p ↦ (let g : c ≡ p.1 = (same_from_push k (y.prefix ++ p.0) c p.1 (y.cut ∙ (ap (λ (v : List ℕ). y.prefix ++ v) p.2 ∙ sym (append_assoc y.prefix p.0 (p.1 ∷ []))))).1 in
                subst IsNone (sym (last_item_is h.0 h.1 (k ++ c ∷ []) r' ∙ ap (λ (v : List ℕ). Some (h.1.0, v)) (p.2 ∙ ap (λ (d : ℕ). p.0 ++ d ∷ []) (sym g))))
                (other_item h.1.0 p.0 c e f))
          ])
    ]
      where
        full : (k : List ℕ) (c : ℕ) → k ++ c ∷ [] ≡ [] → ⊥
        full [] c g = cc
        full (d ∷ k) c g = cc

    go : (b : Bool) → is_snippet gabc (k ++ c ∷ []) ≡ b → IsNone (last_item (k ++ c ∷ []))
    go true g = (let i = snippet_from gabc refl (k ++ c ∷ []) g in item i.0 i.1)
    go false g = subst IsNone (sym (last_item_none (k ++ c ∷ []) g)) (refl, refl, refl)

-- ---- so for each character

pub item_is : (k raw : List ℕ) (c : ℕ) (s z : ItemState) → Steps k c s z → (raw_state s ≡ true → RawFrom k raw) → ItemIs raw c s z (last_item (k ++ c ∷ []))
item_is k raw c s z h f = go (c == 91) refl (c == 93) refl
  where
    opened : c ≡ 91 → ItemIs raw c s z (last_item (k ++ c ∷ []))
    opened e = subst (λ (d : ℕ). ItemIs raw d s z (last_item (k ++ d ∷ []))) (sym e) (elim (item_opened k s z (subst (λ (d : ℕ). Steps k d s z) e h)) [
      | inl x ↦ record {
        opens = ap opens_fusion x.1 ∙ sym (rw x.0 (and-false (not (raw_state s))));
        closes = ap closes_fusion x.1;
        macro = ap macro_of x.1 ∙ sym (rw ((raw_alone z x.0).1, and-false (raw_state s)) refl);
      }
      | inr x ↦ record {
        opens = ap opens_fusion x.2 ∙ sym (rw (x.0, x.1) refl);
        closes = ap closes_fusion x.2;
        macro = ap macro_of x.2 ∙ sym (rw x.1 refl);
      }
    ])

    closed : c ≡ 93 → ItemIs raw c s z (last_item (k ++ c ∷ []))
    closed e = subst (λ (d : ℕ). ItemIs raw d s z (last_item (k ++ d ∷ []))) (sym e) (at_close (raw_state s) refl (subst (λ (d : ℕ). Steps k d s z) e h))
      where
        at_close : (b : Bool) → raw_state s ≡ b → Steps k 93 s z → ItemIs raw 93 s z (last_item (k ++ 93 ∷ []))
        at_close true r g = item_closed_raw k raw s z g r (f r)
        at_close false r g = (let y = item_closed k s z g r in record {
          opens = ap opens_fusion y;
          closes = ap closes_fusion y ∙ sym (ap not r);
          macro = ap macro_of y ∙ sym (rw r refl);
        })

    other : c == 91 ≡ false → c == 93 ≡ false → ItemIs raw c s z (last_item (k ++ c ∷ []))
    other e g = (let y = other_last k c e g in record {
      opens = y.0 ∙ sym (rw e refl);
      closes = y.1 ∙ sym (rw g refl);
      macro = y.2 ∙ sym (at_state (raw_state s) refl);
    })
      where
        at_state : (b : Bool) → raw_state s ≡ b → cond (b && attribute_state z) (macro_digit raw) None ≡ None
        at_state true r = (let i : raw_state z ≡ true = ap is_raw (sym h.next) ∙ step_on s c r g in rw (raw_alone z i).1 refl)
        at_state false r = refl

    go : (a : Bool) → c == 91 ≡ a → (b : Bool) → c == 93 ≡ b → ItemIs raw c s z (last_item (k ++ c ∷ []))
    go true e b g = opened (eqb-true c 91 e)
    go false e true g = closed (eqb-true c 93 g)
    go false e false g = other e g
