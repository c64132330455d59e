-- A text lies inside raw exactly where a bracket is open.
use Rattle.std.proofs.Common.{◌≡◌, ℕ, ◌≤◌, List, [], ◌∷◌, ◌++◌, Bool, true, false, cond, not, ◌&&◌, ◌||◌, ◌==◌, ◌⊎◌, inl, inr, refl, sym, ap, ◌∙◌, subst, Option, Some, None, arith, eqb-true, ne_eqb}
use Rattle.std.proofs.lemmas.Bool.{or_parts, not-true, and_parts, or_cases}
use native.Mathlib.Decide.{dec_lt}
use Rattle.gabc_patterns.specs.Pattern.{is_in}
use Rattle.gabc_patterns.specs.LongestItems.{IsSnippet}
use Rattle.gabc_patterns.specs.Derivative.{Munch, start, nowhere, run, is_whole, is_snippet}
use Rattle.gabc_patterns.proofs.AutomatonsByTests.{reading_of, below, below_at}
use Rattle.gabc_patterns.proofs.LongestMunchByCharacter.{snippet_to, snippet_from}
use Rattle.gabc_notes.specs.Table.{gabc}
use Rattle.gabc_notes.specs.machine.CharClass.{class_of_character}
use Rattle.gabc_notes.specs.Events.{in_raw}
use Rattle.gabc_notes.specs.machine.ItemMachine.{next_state, whole_at, raw_state}
use Rattle.gabc_notes.specs.declared.item.ItemKind.{ItemKind}
use Rattle.gabc_notes.specs.declared.class.CharClass.{CharClass}
use Rattle.gabc_notes.specs.declared.state.ItemState.{ItemState}
use Rattle.gabc_notes.specs.declared.state.ItemState.TheVariants.{Start, Raw, SlashRaw}
use Rattle.gabc_notes.proofs.machine.MachineReadsTable.{machine, snippets_read, far}
use Rattle.gabc_notes.proofs.machine.EventsDependOnState.{raw_at, raw_by}

-- The text is a snippet, a `[` with which it is none, and no `]` from there on.
pub record OpenBy (t : List ℕ) : Type 0 where
  pub before : List ℕ
  pub after : List ℕ
  pub cut : t ≡ before ++ 91 ∷ after
  pub snippet : IsSnippet gabc before
  pub opens : ¬ IsSnippet gabc (before ++ 91 ∷ [])
  pub unclosed : is_in 93 after ≡ false

-- the state after a character, and after a text
abbrev pub on : ItemState → ℕ → Option ItemState
on s c = next_state s (class_of_character c)

abbrev pub walk_from : Option ItemState → List ℕ → Option ItemState
walk_from o [] = o
walk_from None (c ∷ u) = None
walk_from (Some s) (c ∷ u) = walk_from (on s c) u

abbrev pub is_raw : Option ItemState → Bool
is_raw None = false
is_raw (Some s) = raw_state s

abbrev pub whole_or_raw : Option ItemState → Bool
whole_or_raw None = false
whole_or_raw (Some s) = whole_at s || raw_state s

pub none_walks : (u : List ℕ) → walk_from None u ≡ None
none_walks [] = refl
none_walks (c ∷ u) = refl

run_nowhere : (u : List ℕ) → run gabc nowhere u ≡ nowhere
run_nowhere [] = refl
run_nowhere (c ∷ u) = run_nowhere u

-- the walk is the reading
walk_reads : (o : Option ItemState) (u : List ℕ) → run gabc (reading_of gabc machine o) u ≡ reading_of gabc machine (walk_from o u)
walk_reads o [] = refl
walk_reads None (c ∷ u) = run_nowhere u
walk_reads (Some s) (c ∷ u) = ap (λ (m : Munch ItemKind). run gabc m u) (snippets_read.steps s c) ∙ walk_reads (on s c) u

pub walked : (t : List ℕ) → run gabc start t ≡ reading_of gabc machine (walk_from (Some Start) t)
walked t = walk_reads (Some Start) t

raw_walk : (o : Option ItemState) → raw_at (reading_of gabc machine o) ≡ is_raw o
raw_walk o = grind arith

-- inside raw by the walk
pub raw_emitted : (t : List ℕ) → in_raw t ≡ is_raw (walk_from (Some Start) t)
raw_emitted t = raw_by t ∙ (ap raw_at (walked t) ∙ raw_walk (walk_from (Some Start) t))

abbrev pub is_whole_state : Option ItemState → Bool
is_whole_state None = false
is_whole_state (Some s) = whole_at s

whole_walk : (o : Option ItemState) → is_whole (reading_of gabc machine o) ≡ is_whole_state o
whole_walk o = grind arith

whole_emitted : (t : List ℕ) → is_snippet gabc t ≡ is_whole_state (walk_from (Some Start) t)
whole_emitted t = ap is_whole (walked t) ∙ whole_walk (walk_from (Some Start) t)

pub walk_append : (o : Option ItemState) (t u : List ℕ) → walk_from o (t ++ u) ≡ walk_from (walk_from o t) u
walk_append o [] u = refl
walk_append None (c ∷ t) u = sym (none_walks u)
walk_append (Some s) (c ∷ t) u = walk_append (on s c) t u

-- raw is entered by a `[` after a snippet, and left by a `]`
abbrev pub test : ItemState → ℕ → Bool
test s c = cond (is_raw (on s c)) ((raw_state s && not (c == 93)) || ((c == 91) && (whole_at s && not (raw_state s)))) (not (raw_state s) || (c == 93))

tested : (s : ItemState) → below 129 (test s) ≡ true
tested s = grind arith

-- a `[` after a snippet opens raw or makes a snippet
opened : (s : ItemState) → cond (whole_at s) (whole_or_raw (on s 91)) true ≡ true
opened s = grind arith

test_at : (s : ItemState) (c : ℕ) → test s c ≡ true
test_at s c = elim (dec_lt c 128) [
  | yes l ↦ below_at 129 (test s) c (tested s) (omega arith)
  | no n ↦ (let l : 128 ≤ c = omega arith in
      let a : c == 93 ≡ false = ne_eqb c 93 (λ e. omega arith) in
      let b : c == 91 ≡ false = ne_eqb c 91 (λ e. omega arith) in
      rw (far c l, a, b) (below_at 129 (test s) 128 (tested s) (omega arith)))
]

raw_then : (a b d : Bool) → a ≡ true → cond a b d ≡ true → b ≡ true
raw_then a b d e f = cc

-- a character after which the text lies inside raw
pub step_in : (s z : ItemState) (c : ℕ) → on s c ≡ Some z → raw_state z ≡ true → ((raw_state s ≡ true) × (c == 93 ≡ false)) ⊎ ((c ≡ 91) × (whole_at s ≡ true))
step_in s z c e h =
    let r : is_raw (on s c) ≡ true = ap is_raw e ∙ h in
    let f = raw_then (is_raw (on s c)) ((raw_state s && not (c == 93)) || ((c == 91) && (whole_at s && not (raw_state s)))) (not (raw_state s) || (c == 93)) r (test_at s c) in
    elim (or_cases (raw_state s && not (c == 93)) ((c == 91) && (whole_at s && not (raw_state s))) f) [
      | inl x ↦ (let g = and_parts (raw_state s) (not (c == 93)) x in inl (g.0, not-true (c == 93) g.1))
      | inr x ↦ (let g = and_parts (c == 91) (whole_at s && not (raw_state s)) x in inr (eqb-true c 91 g.0, (and_parts (whole_at s) (not (raw_state s)) g.1).0))
    ]

-- inside raw only a `]` leads out
pub step_on : (s : ItemState) (c : ℕ) → raw_state s ≡ true → c == 93 ≡ false → is_raw (on s c) ≡ true
step_on s c h e = go (is_raw (on s c)) (test_at s c)
  where
    go : (b : Bool) → cond b ((raw_state s && not (c == 93)) || ((c == 91) && (whole_at s && not (raw_state s)))) (not (raw_state s) || (c == 93)) ≡ true → b ≡ true
    go b f = grind arith

-- and raw goes on with any other character
pub raw_stays : (s : ItemState) (c : ℕ) → raw_state s ≡ true → c == 93 ≡ false → on s c ≡ Some s
raw_stays s c h e = by s h (step_on s c h e)
  where
    in_raw : (k : CharClass) → is_raw (next_state Raw k) ≡ true → next_state Raw k ≡ Some Raw
    in_raw k f = grind arith

    in_slash : (k : CharClass) → is_raw (next_state SlashRaw k) ≡ true → next_state SlashRaw k ≡ Some SlashRaw
    in_slash k f = grind arith

    by : (s : ItemState) → raw_state s ≡ true → is_raw (on s c) ≡ true → on s c ≡ Some s
    by s f g = grind (arith, in_raw, in_slash)

-- where a bracket was opened on the way to raw
abbrev pub OpenedIn : ItemState → List ℕ → Type 0
OpenedIn s u = (q r : List ℕ) × (y : ItemState) × (u ≡ q ++ 91 ∷ r) × (walk_from (Some s) q ≡ Some y) × (whole_at y ≡ true) × (is_raw (on y 91) ≡ true) × (is_in 93 r ≡ false)

find : (s : ItemState) (u : List ℕ) → is_raw (walk_from (Some s) u) ≡ true → ((raw_state s ≡ true) × (is_in 93 u ≡ false)) ⊎ OpenedIn s u
find s [] h = inl (h, refl)
find s (c ∷ u) h = go (on s c) refl (λ z. find z u)
  where
    go : (o : Option ItemState) → on s c ≡ o → ((z : ItemState) → is_raw (walk_from (Some z) u) ≡ true → ((raw_state z ≡ true) × (is_in 93 u ≡ false)) ⊎ OpenedIn z u)
        → ((raw_state s ≡ true) × (is_in 93 (c ∷ u) ≡ false)) ⊎ OpenedIn s (c ∷ u)
    go None e F = absurd (let f : is_raw (walk_from (on s c) u) ≡ false = ap (λ (o : Option ItemState). is_raw (walk_from o u)) e ∙ ap is_raw (none_walks u) in cc)
    go (Some z) e F = elim (F z (ap (λ (o : Option ItemState). is_raw (walk_from o u)) (sym e) ∙ h)) [
      | inl x ↦ elim (step_in s z c e x.0) [
        | inl y ↦ inl (y.0, rw y.1 x.1)
        | inr y ↦ inr ([], u, s, ap (λ (d : ℕ). d ∷ u) y.0, refl, y.1, subst (λ (d : ℕ). is_raw (on s d) ≡ true) y.0 (ap is_raw e ∙ x.0), x.1)
      ]
      | inr x ↦ inr (c ∷ x.0, x.1, x.2, ap (λ (l : List ℕ). c ∷ l) x.3, ap (λ (o : Option ItemState). walk_from o x.0) e ∙ x.4, x.5, x.6, x.7)
    ]

pub raw_not_whole : (s : ItemState) → raw_state s ≡ true → whole_at s ≡ false
raw_not_whole s e = grind arith

raw_no_snippet : (o : Option ItemState) → is_raw o ≡ true → is_whole_state o ≡ false
raw_no_snippet o e = grind arith

-- inside raw a bracket is open
pub open_to : (t : List ℕ) → in_raw t ≡ true → OpenBy t
open_to t h = elim (find Start t (sym (raw_emitted t) ∙ h)) [
  | inl x ↦ absurd (let f : false ≡ true = x.0 in cc)
  | inr x ↦ record {
    before = x.0;
    after = x.1;
    cut = x.3;
    snippet = snippet_from gabc refl x.0 (whole_emitted x.0 ∙ (ap is_whole_state x.4 ∙ x.5));
    opens = λ i. (
        let f = snippet_to gabc refl (x.0 ++ 91 ∷ []) i in
        let g : is_snippet gabc (x.0 ++ 91 ∷ []) ≡ is_whole_state (on x.2 91) = whole_emitted (x.0 ++ 91 ∷ []) ∙ ap is_whole_state (walk_append (Some Start) x.0 (91 ∷ []) ∙ ap (λ (o : Option ItemState). walk_from o (91 ∷ [])) x.4) in
        let k = raw_no_snippet (on x.2 91) x.6 in
        absurd (let w : true ≡ false = sym f ∙ (g ∙ k) in cc)
        );
    unclosed = x.7;
  }
]

stays : (s : ItemState) (r : List ℕ) → raw_state s ≡ true → is_in 93 r ≡ false → is_raw (walk_from (Some s) r) ≡ true
stays s [] h e = h
stays s (c ∷ r) h e =
    let f = or_parts (c == 93) (is_in 93 r) e in
    go (on s c) (step_on s c h f.0) (λ z k. stays z r k f.1)
  where
    go : (o : Option ItemState) → is_raw o ≡ true → ((z : ItemState) → raw_state z ≡ true → is_raw (walk_from (Some z) r) ≡ true) → is_raw (walk_from o r) ≡ true
    go o k F = grind arith

-- where a bracket is open the text lies inside raw
pub open_from : (t : List ℕ) → OpenBy t → in_raw t ≡ true
open_from t h = raw_emitted t ∙ (ap (λ (u : List ℕ). is_raw (walk_from (Some Start) u)) h.cut ∙ (ap is_raw (walk_append (Some Start) h.before (91 ∷ h.after))
    ∙ go (walk_from (Some Start) h.before) (sym (whole_emitted h.before) ∙ snippet_to gabc refl h.before h.snippet) here))
  where
    here : is_whole_state (walk_from (walk_from (Some Start) h.before) (91 ∷ [])) ≡ true → ⊥
    here e = h.opens (snippet_from gabc refl (h.before ++ 91 ∷ []) (whole_emitted (h.before ++ 91 ∷ []) ∙ (ap is_whole_state (walk_append (Some Start) h.before (91 ∷ [])) ∙ e)))

    next : (z : Option ItemState) → whole_or_raw z ≡ true → (is_whole_state z ≡ true → ⊥) → is_raw (walk_from z h.after) ≡ true
    next z w n = grind (arith, or_cases, stays)

    go : (o : Option ItemState) → is_whole_state o ≡ true → (is_whole_state (walk_from o (91 ∷ [])) ≡ true → ⊥) → is_raw (walk_from o (91 ∷ h.after)) ≡ true
    go o w n = grind (arith, next, raw_then, opened)
