-- A macro ends inside raw: what is kept before its `]` is no snippet, and is one with it.
use Rattle.std.proofs.Common.{◌≡◌, inl, inr, ℕ, List, [], ◌∷◌, ◌++◌, Bool, true, false, not, ◌&&◌, ◌||◌, ◌==◌, refl, sym, ap, ◌∙◌, subst, arith, eqb-true, codes, append_assoc, append-nil, Option, Some, None}
use Rattle.std.proofs.lemmas.Bool.{or_parts, and_parts}
use Rattle.std.proofs.lemmas.Bool.Decides.{nat_tests}
use Rattle.gabc_patterns.specs.Pattern.{is_in}
use Rattle.gabc_patterns.specs.LongestItems.{IsItemOf, IsReading}
use Rattle.gabc_patterns.specs.ItemsRead.{ReadsTo}
use Rattle.gabc_patterns.proofs.ItemsAsFarAsOneBegins.{one_read_on, reading_read_on}
use Rattle.gabc_patterns.proofs.OneReading.{no_empty}
use Rattle.gabc_notes.specs.Table.{gabc}
use Rattle.gabc_notes.specs.Events.{ItemText, macro_in, digit_if}
use Rattle.gabc_notes.specs.Notes.{is_digit}
use Rattle.gabc_notes.specs.machine.ItemMachine.{raw_state}
use Rattle.gabc_notes.specs.declared.item.ItemKind.{ItemKind}
use Rattle.gabc_notes.specs.declared.state.ItemState.{ItemState}
use Rattle.gabc_notes.specs.declared.state.ItemState.TheVariants.{Raw}
use Rattle.gabc_notes.proofs.grammar.LawsOfKeptTexts.{kinds_are_one}
use Rattle.gabc_notes.specs.KeptNotes.{is_snippet, in_raw}
use Rattle.gabc_patterns.proofs.ItemsOneMore.{one_more, last_off}
use Rattle.gabc_notes.proofs.by_kept.NotesWalk.{goes_to, walk_on, nothing_walks, item_walks, raw_after}
use Rattle.gabc_patterns.proofs.ReadDecides.{read_to, read_from}

raw_walks : (u : List ℕ) (s z : ItemState) → raw_state s ≡ true → is_in 93 u ≡ false → walk_on (Some s) u ≡ Some z → raw_state z ≡ true
raw_walks [] s z r n e = let f : s ≡ z = cc in subst (λ (x : ItemState). raw_state x ≡ true) f r
raw_walks (c ∷ u) s z r n e = go (goes_to s c) refl e (λ y h g. raw_walks u y z h (or_parts (c == 93) (is_in 93 u) n).1 g)
  where
    go : (o : Option ItemState) → goes_to s c ≡ o → walk_on o u ≡ Some z → ((y : ItemState) → raw_state y ≡ true → walk_on (Some y) u ≡ Some z → raw_state z ≡ true) → raw_state z ≡ true
    go None f g F = absurd (let j = sym (nothing_walks u) ∙ g in cc)
    go (Some y) f g F = F y (raw_after s y c f r (or_parts (c == 93) (is_in 93 u) n).0) g

-- no item begins with a `[` without a `]`
bracket : (k : ItemKind) (u : List ℕ) → IsItemOf gabc k (91 ∷ u) → is_in 93 u ≡ false → ⊥
bracket k u i n =
    let w = item_walks k (91 ∷ u) i in
    let r = raw_walks u Raw w.0 refl n w.1 in
    absurd (let j : true ≡ false = sym r ∙ w.2 in cc)

prefix_free : (u v w : List ℕ) → u ≡ v ++ w → is_in 93 u ≡ false → is_in 93 v ≡ false
prefix_free u [] w e n = refl
prefix_free [] (d ∷ v) w e n = absurd (cc)
prefix_free (c ∷ u) (d ∷ v) w e n =
    let f : d ≡ c = cc in
    let g : u ≡ v ++ w = cc in
    let p = or_parts (c == 93) (is_in 93 u) n in
    ap (λ (x : ℕ). (x == 93) || is_in 93 v) f ∙ (ap (λ (b : Bool). b || is_in 93 v) p.0 ∙ prefix_free u v w g p.1)

nothing_left : (is : List ItemText) (u : List ℕ) → is_in 93 u ≡ false → ReadsTo gabc is (91 ∷ u) [] → ⊥
nothing_left [] u n h = absurd (let e = h.0 in cc)
nothing_left ((k, []) ∷ is) u n (more, e, i, l, g) = no_empty gabc refl k i
nothing_left ((k, d ∷ v) ∷ is) u n (more, e, i, l, g) =
    let f : d ≡ 91 = cc in
    let c : u ≡ v ++ more = cc in
    bracket k v (subst (λ (x : ℕ). IsItemOf gabc k (x ∷ v)) f i) (prefix_free u v more c n)

-- it is a bracket with no `]` inside
pub record IsMacro (t : List ℕ) : Type 0 where
  pub inside : List ℕ
  pub free : is_in 93 inside ≡ false
  pub cut : t ≡ (91 ∷ inside) ++ 93 ∷ []

inside_free : (l m d : ℕ) → is_in l (codes "nge") ≡ true → (m == 109) ≡ true → is_digit d ≡ true → is_in 93 (l ∷ m ∷ d ∷ []) ≡ false
inside_free l m d e f g = grind (arith, nat_tests)

macro_shape : (t : List ℕ) (digit : ℕ) → macro_in t ≡ Some digit → IsMacro t
macro_shape [] digit e = absurd (cc)
macro_shape (a ∷ []) digit e = absurd (cc)
macro_shape (a ∷ l ∷ []) digit e = absurd (cc)
macro_shape (a ∷ l ∷ m ∷ []) digit e = absurd (cc)
macro_shape (a ∷ l ∷ m ∷ d ∷ []) digit e = absurd (cc)
macro_shape (a ∷ l ∷ m ∷ d ∷ b ∷ x ∷ u) digit e = absurd (cc)
macro_shape (a ∷ l ∷ m ∷ d ∷ b ∷ []) digit e = go ((a == 91) && (is_in l (codes "nge") && ((m == 109) && (is_digit d && (b == 93))))) refl e
  where
    go : (v : Bool) → ((a == 91) && (is_in l (codes "nge") && ((m == 109) && (is_digit d && (b == 93))))) ≡ v → digit_if v d ≡ Some digit → IsMacro (a ∷ l ∷ m ∷ d ∷ b ∷ [])
    go false f g = absurd (cc)
    go true f g =
        let p = and_parts (a == 91) (is_in l (codes "nge") && ((m == 109) && (is_digit d && (b == 93)))) f in
        let q = and_parts (is_in l (codes "nge")) ((m == 109) && (is_digit d && (b == 93))) p.1 in
        let r = and_parts (m == 109) (is_digit d && (b == 93)) q.1 in
        let s = and_parts (is_digit d) (b == 93) r.1 in
        let x : a ≡ 91 = eqb-true a 91 p.0 in
        let y : b ≡ 93 = eqb-true b 93 s.1 in
        record { inside = l ∷ m ∷ d ∷ []; free = inside_free l m d q.0 r.0 s.0; cut = ap (λ (z : ℕ). z ∷ l ∷ m ∷ d ∷ b ∷ []) x ∙ ap (λ (z : ℕ). 91 ∷ l ∷ m ∷ d ∷ z ∷ []) y }

no_snippet_before : (front : List ItemText) (i : ItemText) (t : List ℕ) (c : ℕ) → IsReading gabc (front ++ i ∷ []) (t ++ c ∷ []) → IsMacro i.1 → is_snippet t ≡ true → ⊥
no_snippet_before front i t c h m s =
    let z = read_to gabc refl kinds_are_one t s in
    elim (one_more gabc refl z.0 t [] c (reading_read_on gabc refl z.0 t z.1)) [
      | inl x ↦ absurd (let f : c ∷ [] ≡ [] = (one_read_on gabc refl kinds_are_one z.0 (front ++ i ∷ []) (t ++ c ∷ []) (c ∷ []) [] x.0 (reading_read_on gabc refl (front ++ i ∷ []) (t ++ c ∷ []) h)).1 in cc)
      | inr x ↦ (
          let one = (one_read_on gabc refl kinds_are_one (x.front ++ (x.kind, x.from ++ c ∷ []) ∷ []) (front ++ i ∷ []) (t ++ c ∷ []) [] [] x.reads (reading_read_on gabc refl (front ++ i ∷ []) (t ++ c ∷ []) h)).0 in
          let same : (x.kind, x.from ++ c ∷ []) ≡ i = (last_off x.front front (x.kind, x.from ++ c ∷ []) i one).1 in
          let from : x.from ≡ 91 ∷ m.inside = (last_off x.from (91 ∷ m.inside) c 93 (ap (λ (j : ItemText). j.1) same ∙ m.cut)).0 in
          nothing_left x.back m.inside m.free (subst (λ (u : List ℕ). ReadsTo gabc x.back u []) from x.gone)
          )
    ]

-- a text ends with its last item
last_ends : (is : List ItemText) (i : ItemText) (t : List ℕ) → IsReading gabc (is ++ i ∷ []) t → (u : List ℕ) × (t ≡ u ++ i.1)
last_ends [] i t (rest, e, has, l, g) = ([], e ∙ (ap (λ (w : List ℕ). i.1 ++ w) g ∙ append-nil i.1))
last_ends (j ∷ is) i t (rest, e, has, l, g) =
    let f = last_ends is i rest g in
    (j.1 ++ f.0, e ∙ (ap (λ (w : List ℕ). j.1 ++ w) f.1 ∙ sym (append_assoc j.1 f.0 i.1)))

decided : (a b : Bool) → a ≡ true → (b ≡ true → ⊥) → a && not b ≡ true
decided true true e n = absurd (n refl)
decided true false e n = refl
decided false b e n = absurd (cc)

pub macro_in_raw : (front : List ItemText) (i : ItemText) (t : List ℕ) (c digit : ℕ) → IsReading gabc (front ++ i ∷ []) (t ++ c ∷ []) → macro_in i.1 ≡ Some digit → in_raw t ≡ true
macro_in_raw front i t c digit h e =
    let m = macro_shape i.1 digit e in
    let f = last_ends front i (t ++ c ∷ []) h in
    let z : c ≡ 93 = (last_off t (f.0 ++ 91 ∷ m.inside) c 93 (f.1 ∙ (ap (λ (w : List ℕ). f.0 ++ w) m.cut ∙ sym (append_assoc f.0 (91 ∷ m.inside) (93 ∷ []))))).1 in
    let s : is_snippet (t ++ 93 ∷ []) ≡ true = read_from gabc refl kinds_are_one (t ++ 93 ∷ []) (front ++ i ∷ [], subst (λ (d : ℕ). IsReading gabc (front ++ i ∷ []) (t ++ d ∷ [])) z h) in
    decided (is_snippet (t ++ 93 ∷ [])) (is_snippet t) s (no_snippet_before front i t c h m)
