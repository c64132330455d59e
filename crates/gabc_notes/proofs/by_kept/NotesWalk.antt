-- An item of notes that goes on past others has no fusion mark among these.
use Rattle.std.proofs.Common.{◌≡◌, ◌⊎◌, inl, inr, ℕ, ◌≤◌, List, [], ◌∷◌, ◌++◌, Bool, true, false, cond, not, ◌&&◌, ◌||◌, ◌==◌, refl, sym, ap, ◌∙◌, subst, append_assoc, arith, eqb-true, ne_eqb, Option, Some, None}
use Rattle.std.proofs.lemmas.Bool.{not-true, and_parts, or_cases}
use native.Mathlib.Decide.{dec_lt}
use Rattle.gabc_patterns.specs.LongestItems.{IsItemOf}
use Rattle.gabc_patterns.specs.ItemsRead.{ReadsTo}
use Rattle.gabc_patterns.specs.Derivative.{rows_run, end_kind}
use Rattle.gabc_patterns.proofs.AutomatonsByTests.{rows_at, below, below_at}
use Rattle.gabc_patterns.proofs.RowsRun.{no_item_at_end}
use Rattle.gabc_notes.specs.Table.{gabc}
use Rattle.gabc_notes.specs.Events.{ItemText, opens_fusion, closes_fusion}
use Rattle.gabc_notes.specs.machine.ItemMachine.{raw_state}
use Rattle.gabc_notes.specs.declared.item.ItemKind.{ItemKind}
use Rattle.gabc_notes.specs.declared.state.ItemState.{ItemState}
use Rattle.gabc_notes.specs.declared.state.ItemState.TheVariants.{Start, Slash, At, Done}
use Rattle.gabc_notes.proofs.machine.MachineReadsTable.{machine, items_read, far}
use Rattle.gabc_notes.proofs.grammar.CharactersByRelations.{opens_some, closes_some}

-- the state of an item after a character, and after a text
abbrev pub goes_to : ItemState → ℕ → Option ItemState
goes_to s c = machine.goes_on s (machine.class_of c)

abbrev pub walk_on : Option ItemState → List ℕ → Option ItemState
walk_on o [] = o
walk_on None (c ∷ u) = None
walk_on (Some s) (c ∷ u) = walk_on (goes_to s c) u

pub nothing_walks : (u : List ℕ) → walk_on None u ≡ None
nothing_walks [] = refl
nothing_walks (c ∷ u) = refl

walk_on_append : (o : Option ItemState) (t u : List ℕ) → walk_on o (t ++ u) ≡ walk_on (walk_on o t) u
walk_on_append o [] u = refl
walk_on_append None (c ∷ t) u = sym (nothing_walks u)
walk_on_append (Some s) (c ∷ t) u = walk_on_append (goes_to s c) t u

no_rows : (u : List ℕ) → rows_run {K = ItemKind} [] u ≡ []
no_rows [] = refl
no_rows (c ∷ u) = no_rows u

rows_walk : (o : Option ItemState) (u : List ℕ) → rows_run (rows_at gabc machine o) u ≡ rows_at gabc machine (walk_on o u)
rows_walk o [] = refl
rows_walk None (c ∷ u) = no_rows u
rows_walk (Some s) (c ∷ u) = ap (λ r. rows_run r u) (items_read.goes_on s c) ∙ rows_walk (goes_to s c) u

rows_walked : (t : List ℕ) → rows_run gabc t ≡ rows_at gabc machine (walk_on (Some Start) t)
rows_walked t = ap (λ (e : List ℕ). rows_run (rows_run gabc e) t) (sym items_read.begins) ∙ rows_walk (Some Start) t

raw_ends_not : (s : ItemState) → raw_state s ≡ true → machine.ends s ≡ None
raw_ends_not s e = grind arith

abbrev is_raw : Option ItemState → Bool
is_raw None = false
is_raw (Some s) = raw_state s

-- an item walks, and ends outside raw
pub item_walks : (k : ItemKind) (t : List ℕ) → IsItemOf gabc k t → (s : ItemState) × (walk_on (Some Start) t ≡ Some s) × (raw_state s ≡ false)
item_walks k t i = go (walk_on (Some Start) t) refl
  where
    go : (o : Option ItemState) → walk_on (Some Start) t ≡ o → (s : ItemState) × (walk_on (Some Start) t ≡ Some s) × (raw_state s ≡ false)
    go None e = absurd (no_item_at_end gabc t (ap end_kind (rows_walked t) ∙ ap (λ (o : Option ItemState). end_kind (rows_at gabc machine o)) e) (k, i))
    go (Some s) e = at (raw_state s) refl
      where
        at : (b : Bool) → raw_state s ≡ b → (s : ItemState) × (walk_on (Some Start) t ≡ Some s) × (raw_state s ≡ false)
        at false f = (s, e, f)
        at true f = absurd (no_item_at_end gabc t (ap end_kind (rows_walked t) ∙ (ap (λ (o : Option ItemState). end_kind (rows_at gabc machine o)) e ∙ (items_read.ends s ∙ raw_ends_not s f))) (k, i))

-- ---- two walks over one text

abbrev early : ItemState → Bool
early Start = true
early Slash = true
early _ = false

abbrev is_at : ItemState → Bool
is_at At = true
is_at _ = false

abbrev is_at_some : Option ItemState → Bool
is_at_some None = false
is_at_some (Some s) = is_at s

abbrev none_or_raw : Option ItemState → Bool
none_or_raw None = true
none_or_raw (Some s) = raw_state s

abbrev test : ItemState → ℕ → Bool
test s c =
    cond (is_raw (goes_to s c)) ((raw_state s && not (c == 93)) || ((c == 91) && early s)) true
    && (cond (raw_state s && not (c == 93)) (none_or_raw (goes_to s c)) true && cond (is_at_some (goes_to s c)) (c == 64) true)

tested : (s : ItemState) → below 129 (test s) ≡ true
tested s = grind arith

test_at : (s : ItemState) (c : ℕ) → test s c ≡ true
test_at s c = elim (dec_lt c 128) [
  | yes l ↦ below_at 129 (test s) c (tested s) (omega arith)
  | no n ↦ (let l : 128 ≤ c = omega arith in
      let a : c == 93 ≡ false = ne_eqb c 93 (λ e. omega arith) in
      let b : c == 91 ≡ false = ne_eqb c 91 (λ e. omega arith) in
      let d : c == 64 ≡ false = ne_eqb c 64 (λ e. omega arith) in
      rw (far c l, a, b, d) (below_at 129 (test s) 128 (tested s) (omega arith)))
]

then_holds : (a b : Bool) → a ≡ true → cond a b true ≡ true → b ≡ true
then_holds a b e f = cc

raw_before : (a y : ItemState) (c : ℕ) → goes_to a c ≡ Some y → raw_state y ≡ true → ((raw_state a ≡ true) × (c == 93 ≡ false)) ⊎ ((c ≡ 91) × (early a ≡ true))
raw_before a y c e h =
    let t = and_parts (cond (is_raw (goes_to a c)) ((raw_state a && not (c == 93)) || ((c == 91) && early a)) true) (cond (raw_state a && not (c == 93)) (none_or_raw (goes_to a c)) true && cond (is_at_some (goes_to a c)) (c == 64) true) (test_at a c) in
    let f = then_holds (is_raw (goes_to a c)) ((raw_state a && not (c == 93)) || ((c == 91) && early a)) (ap is_raw e ∙ h) t.0 in
    elim (or_cases (raw_state a && not (c == 93)) ((c == 91) && early a) f) [
      | inl x ↦ (let g = and_parts (raw_state a) (not (c == 93)) x in inl (g.0, not-true (c == 93) g.1))
      | inr x ↦ (let g = and_parts (c == 91) (early a) x in inr (eqb-true c 91 g.0, g.1))
    ]

pub raw_after : (b x : ItemState) (c : ℕ) → goes_to b c ≡ Some x → raw_state b ≡ true → c == 93 ≡ false → raw_state x ≡ true
raw_after b x c e h n =
    let t = and_parts (cond (is_raw (goes_to b c)) ((raw_state b && not (c == 93)) || ((c == 91) && early b)) true) (cond (raw_state b && not (c == 93)) (none_or_raw (goes_to b c)) true && cond (is_at_some (goes_to b c)) (c == 64) true) (test_at b c) in
    let u = and_parts (cond (raw_state b && not (c == 93)) (none_or_raw (goes_to b c)) true) (cond (is_at_some (goes_to b c)) (c == 64) true) t.1 in
    ap none_or_raw (sym e) ∙ then_holds (raw_state b && not (c == 93)) (none_or_raw (goes_to b c)) (ap (λ (v : Bool). v && not (c == 93)) h ∙ ap not n) u.0

at_after : (b x : ItemState) (c : ℕ) → goes_to b c ≡ Some x → is_at x ≡ true → c ≡ 64
at_after b x c e h =
    let t = and_parts (cond (is_raw (goes_to b c)) ((raw_state b && not (c == 93)) || ((c == 91) && early b)) true) (cond (raw_state b && not (c == 93)) (none_or_raw (goes_to b c)) true && cond (is_at_some (goes_to b c)) (c == 64) true) (test_at b c) in
    let u = and_parts (cond (raw_state b && not (c == 93)) (none_or_raw (goes_to b c)) true) (cond (is_at_some (goes_to b c)) (c == 64) true) t.1 in
    eqb-true c 64 (then_holds (is_at_some (goes_to b c)) (c == 64) (ap is_at_some e ∙ h) u.1)

opens_raw : (b : ItemState) → is_at b ≡ false → none_or_raw (goes_to b 91) ≡ true
opens_raw b e = grind arith

abbrev late_or_none : Option ItemState → Bool
late_or_none None = true
late_or_none (Some s) = not (early s)

past_at : (a : ItemState) → late_or_none (goes_to a 64) ≡ true
past_at a = grind arith

-- if the one is inside raw, so is the other; after the other's `@` the one opens no raw
pub record Follows (a b : ItemState) : Type 0 where
  pub raw : raw_state a ≡ true → raw_state b ≡ true
  pub at : is_at b ≡ true → early a ≡ false

follows_on : (a b y x : ItemState) (c : ℕ) → Follows a b → goes_to a c ≡ Some y → goes_to b c ≡ Some x → Follows y x
follows_on a b y x c h e f = record { raw = raw; at = at }
  where
    no_at : early a ≡ true → is_at b ≡ false
    no_at g = go (is_at b) refl
      where
        go : (v : Bool) → is_at b ≡ v → v ≡ false
        go false i = refl
        go true i = let j = h.at i in absurd (cc)

    raw : raw_state y ≡ true → raw_state x ≡ true
    raw r = elim (raw_before a y c e r) [
      | inl g ↦ raw_after b x c f (h.raw g.0) g.1
      | inr g ↦ ap none_or_raw (sym (subst (λ (d : ℕ). goes_to b d ≡ Some x) g.0 f)) ∙ opens_raw b (no_at g.1)
    ]

    at : is_at x ≡ true → early y ≡ false
    at g =
        let s = at_after b x c f g in
        not-true (early y) (ap late_or_none (sym (subst (λ (d : ℕ). goes_to a d ≡ Some y) s e)) ∙ past_at a)

pub follows_walk : (u : List ℕ) (a b y x : ItemState) → Follows a b → walk_on (Some a) u ≡ Some y → walk_on (Some b) u ≡ Some x → Follows y x
follows_walk [] a b y x h e f = let g : a ≡ y = cc in let i : b ≡ x = cc in subst (λ (s : ItemState). Follows s x) g (subst (Follows a) i h)
follows_walk (c ∷ u) a b y x h e f = go (goes_to a c) refl (goes_to b c) refl e f (λ p q g i j. follows_walk u p q y x g i j)
  where
    go : (o : Option ItemState) → goes_to a c ≡ o → (w : Option ItemState) → goes_to b c ≡ w → walk_on o u ≡ Some y → walk_on w u ≡ Some x
        → ((p q : ItemState) → Follows p q → walk_on (Some p) u ≡ Some y → walk_on (Some q) u ≡ Some x → Follows y x) → Follows y x
    go None e w f g i F = absurd (let j = sym (nothing_walks u) ∙ g in cc)
    go (Some p) e None f g i F = absurd (let j = sym (nothing_walks u) ∙ i in cc)
    go (Some p) e (Some q) f g i F = F p q (follows_on a b p q c h e f) g i

-- ---- fusion marks

abbrev done_or_none : Option ItemState → Bool
done_or_none None = true
done_or_none (Some (Done f)) = true
done_or_none (Some _) = false

after_close : (s : ItemState) → raw_state s ≡ false → done_or_none (goes_to s 93) ≡ true
after_close s e = grind arith

after_open : (s : ItemState) → raw_state s ≡ false → done_or_none (walk_on (goes_to s 64) (91 ∷ [])) ≡ true
after_open s e = grind arith

done_stops : (o : Option ItemState) (c : ℕ) (u : List ℕ) → done_or_none o ≡ true → walk_on o (c ∷ u) ≡ None
done_stops None c u e = refl
done_stops (Some (Done f)) c u e = nothing_walks u
done_stops (Some s) c u e = grind (arith, nothing_walks)

stops_at : (o : Option ItemState) (t : List ℕ) (c : ℕ) (z : ItemState) → done_or_none o ≡ true → walk_on o (t ++ c ∷ []) ≡ Some z → ⊥
stops_at o [] c z e f = absurd (let g = sym (done_stops o c [] e) ∙ f in cc)
stops_at o (d ∷ t) c z e f = absurd (let g = sym (done_stops o d (t ++ c ∷ []) e) ∙ f in cc)

abbrev pub NoFusion : List ItemText → Type 0
NoFusion [] = Unit {0}
NoFusion (i ∷ is) = (opens_fusion (Some i) ≡ false) × (closes_fusion (Some i) ≡ false) × NoFusion is

never : (b : Bool) → (b ≡ true → ⊥) → b ≡ false
never false F = refl
never true F = absurd (F refl)

abbrev text_in : Option ItemText → List ℕ
text_in None = []
text_in (Some j) = j.1

pub gone_plain : (is : List ItemText) (w r : List ℕ) (c : ℕ) (s z : ItemState) → ReadsTo gabc is w r → walk_on (Some s) (w ++ c ∷ []) ≡ Some z → raw_state s ≡ false → NoFusion is
gone_plain [] w r c s z h e n = tt
gone_plain (i ∷ is) w r c s z (more, cut, has, l, g) e n = (
  never (opens_fusion (Some i)) (λ o. stops_at (walk_on (Some s) i.1) more c z (ap (λ (v : Option ItemText). done_or_none (walk_on (Some s) (text_in v))) (opens_some (Some i) o) ∙ after_open s n) walk),
  never (closes_fusion (Some i)) (λ o. stops_at (walk_on (Some s) i.1) more c z (ap (λ (v : Option ItemText). done_or_none (walk_on (Some s) (text_in v))) (closes_some (Some i) o) ∙ after_close s n) walk),
  rest (walk_on (Some s) i.1) refl (λ y k m. gone_plain is more r c y z g k m),
)
  where
    walk : walk_on (walk_on (Some s) i.1) (more ++ c ∷ []) ≡ Some z
    walk = sym (walk_on_append (Some s) i.1 (more ++ c ∷ [])) ∙ (ap (walk_on (Some s)) (sym (append_assoc i.1 more (c ∷ [])) ∙ ap (λ (l : List ℕ). l ++ c ∷ []) (sym cut)) ∙ e)

    rest : (o : Option ItemState) → walk_on (Some s) i.1 ≡ o → ((y : ItemState) → walk_on (Some y) (more ++ c ∷ []) ≡ Some z → raw_state y ≡ false → NoFusion is) → NoFusion is
    rest None f F = absurd (let j = sym (nothing_walks (more ++ c ∷ [])) ∙ (ap (λ (o : Option ItemState). walk_on o (more ++ c ∷ [])) (sym f) ∙ walk) in cc)
    rest (Some y) f F =
        let x = item_walks i.0 i.1 has in
        let v = follows_walk i.1 s Start y x.0 (record { raw = λ t. absurd (let j : true ≡ false = sym t ∙ n in cc); at = λ t. absurd (cc) }) f x.1 in
        F y (ap (λ (o : Option ItemState). walk_on o (more ++ c ∷ [])) (sym f) ∙ walk) (never (raw_state y) (λ t. let j : true ≡ false = sym (v.raw t) ∙ x.2 in absurd (cc)))
