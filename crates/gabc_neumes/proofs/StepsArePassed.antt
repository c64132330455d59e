-- What is in force after steps, step by step.
use Rattle.std.proofs.Common.{◌≡◌, ℕ, ◌≤◌, ◌<◌, ◌==◌, List, [], ◌∷◌, ◌++◌, Bool, true, false, not, Option, Some, None, map, reverse, length, get_or, set, replicate, refl, sym, ap, ap₂, ◌∙◌, arith, subst, ne_eqb, eqb-true, if◌then◌else◌}
use Rattle.std.specs.Option.{option_or}
use Rattle.std.proofs.lemmas.List.{ext_get_or, reverse-append, length-set, get_or-set_same, get_or-set_other}
use Rattle.std.proofs.lemmas.Bool.{eqb-false}
use Rattle.std.proofs.lemmas.List.FromFn.{get_or-map-range_with_len, length-map-range_with_len}
use Rattle.gabc_notes.specs.Notes.{height_at}
use Rattle.gabc_notes.specs.declared.item.ItemKind.{ItemKind}
use Rattle.gabc_notes.specs.declared.item.ItemKind.TheVariants as kind
use Rattle.gabc_neumes.specs.Sound.{sign_of}
use Rattle.gabc_neumes.specs.InForce.{ScoreStep, AnItem, InForce, clef_of, clef_in_force, alter_of, is_virgula, ends_alterations, alter_in_force, heights, in_force_after, passed}
use Rattle.gabc_neumes.specs.declared.sound.Alter.{Alter}
use Rattle.gabc_neumes.specs.declared.sound.Alter.TheVariants as alter
use Rattle.gabc_neumes.specs.declared.sound.Clef.{Clef}

-- ---- a list over the heights

at_height : (f : ℕ → Alter) (h : ℕ) → h < 15 → get_or (map f heights) h alter.None ≡ f h
at_height f h l = get_or-map-range_with_len f 0 15 h h alter.None l (omega arith)

by_heights : (xs : List Alter) (f : ℕ → Alter) → length xs ≡ 15 → ((h : ℕ) → h < 15 → get_or xs h alter.None ≡ f h) → xs ≡ map f heights
by_heights xs f n e =
    ext_get_or alter.None xs (map f heights) (n ∙ sym (length-map-range_with_len f 0 15)) (λ h l. let m : h < 15 = omega arith in e h m ∙ sym (at_height f h m))

same_heights : (f g : ℕ → Alter) → ((h : ℕ) → h < 15 → f h ≡ g h) → map f heights ≡ map g heights
same_heights f g e = by_heights (map f heights) g (length-map-range_with_len f 0 15) (λ h l. at_height f h l ∙ e h l)

abbrev pub in_force : Option Clef → List Alter → InForce
in_force clef alters = record { clef = clef; alters = alters }

-- ---- steps are passed one by one

pub clef_there : (outset : InForce) (before : List ScoreStep) → (in_force_after outset before).clef ≡ clef_in_force outset before
clef_there outset before = grind arith

pub alter_there : (outset : InForce) (before : List ScoreStep) (h : ℕ) → h < 15 → get_or (in_force_after outset before).alters h alter.None ≡ alter_in_force outset before h
alter_there outset [] h l = refl
alter_there outset (s ∷ before) h l = at_height (alter_in_force outset (s ∷ before)) h l

clef_after : (outset : InForce) (before more : List ScoreStep) → clef_in_force (in_force_after outset before) more ≡ clef_in_force outset (more ++ before)
clef_after outset before [] = clef_there outset before
clef_after outset before (s ∷ more) = ap (option_or (clef_of s)) (clef_after outset before more)

-- the alteration of a step, else that in force before it
abbrev by_step : Option Alter → Bool → Alter → Alter
by_step own ends before = elim own as (λ _. Alter) [ Some a ↦ a | None ↦ if ends then alter.None else before ]

alter_after : (outset : InForce) (before more : List ScoreStep) (h : ℕ) → h < 15 → alter_in_force (in_force_after outset before) more h ≡ alter_in_force outset (more ++ before) h
alter_after outset before [] h l = alter_there outset before h l
alter_after outset before (s ∷ more) h l = ap (by_step (alter_of h s) (ends_alterations s)) (alter_after outset before more h l)

pub after_all : (outset : InForce) (before more : List ScoreStep) → in_force_after (in_force_after outset before) more ≡ in_force_after outset (more ++ before)
after_all outset before [] = refl
after_all outset before (s ∷ more) =
    ap₂ in_force (clef_after outset before (s ∷ more))
    (same_heights (alter_in_force (in_force_after outset before) (s ∷ more)) (alter_in_force outset (s ∷ (more ++ before))) (alter_after outset before (s ∷ more)))

pub passed_all : (outset : InForce) (steps more : List ScoreStep) → passed (passed outset steps) more ≡ passed outset (steps ++ more)
passed_all outset steps more = after_all outset (reverse steps) (reverse more) ∙ ap (in_force_after outset) (sym (reverse-append steps more))

-- ---- one step

-- a step that sets no clef, is no alteration and ends none changes nothing
pub nothing_changes : (v : InForce) (s : ScoreStep) → length v.alters ≡ 15 → clef_of s ≡ None → ((h : ℕ) → h < 15 → alter_of h s ≡ None) → ends_alterations s ≡ false
    → in_force_after v (s ∷ []) ≡ v
nothing_changes v s n c a e =
    ap₂ in_force (ap (λ (o : Option Clef). option_or o v.clef) c)
    (sym (by_heights v.alters (alter_in_force v (s ∷ [])) n (λ h l. sym (ap₂ (λ (o : Option Alter) (b : Bool). by_step o b (get_or v.alters h alter.None)) (a h l) e))))

-- so does an item of most kinds
pub item_changes_nothing : (v : InForce) (k : ItemKind) (t : List ℕ) → length v.alters ≡ 15 → (k ≡ kind.Clef → ⊥) → (k ≡ kind.Bar → ⊥) → (k ≡ kind.Alteration → ⊥)
    → in_force_after v (AnItem k t ∷ []) ≡ v
item_changes_nothing v kind.Note t n c b a = nothing_changes v (AnItem kind.Note t) n refl (λ h l. refl) refl
item_changes_nothing v kind.Alteration t n c b a = absurd (a refl)
item_changes_nothing v kind.Clef t n c b a = absurd (c refl)
item_changes_nothing v kind.Bar t n c b a = absurd (b refl)
item_changes_nothing v kind.Spacing t n c b a = nothing_changes v (AnItem kind.Spacing t) n refl (λ h l. refl) refl
item_changes_nothing v kind.Custos t n c b a = nothing_changes v (AnItem kind.Custos t) n refl (λ h l. refl) refl
item_changes_nothing v kind.Break t n c b a = nothing_changes v (AnItem kind.Break t) n refl (λ h l. refl) refl
item_changes_nothing v kind.Attribute t n c b a = nothing_changes v (AnItem kind.Attribute t) n refl (λ h l. refl) refl
item_changes_nothing v kind.Fusion t n c b a = nothing_changes v (AnItem kind.Fusion t) n refl (λ h l. refl) refl

pub virgula_changes_nothing : (v : InForce) (t : List ℕ) → length v.alters ≡ 15 → is_virgula t ≡ true → in_force_after v (AnItem kind.Bar t ∷ []) ≡ v
virgula_changes_nothing v t n e = nothing_changes v (AnItem kind.Bar t) n refl (λ h l. refl) (ap not e)

-- after another bar there is no alteration
pub bar_ends_all : (v : InForce) (t : List ℕ) → is_virgula t ≡ false → in_force v.clef (replicate 15 alter.None) ≡ in_force_after v (AnItem kind.Bar t ∷ [])
bar_ends_all v t e = ap (λ (b : Bool). in_force v.clef (map (λ h. if not b then alter.None else get_or v.alters h alter.None) heights)) (sym e)

-- an alteration of a height that no pitch has
pub past_the_heights : (v : InForce) (t : List ℕ) → length v.alters ≡ 15 → 15 ≤ height_at t → in_force_after v (AnItem kind.Alteration t ∷ []) ≡ v
past_the_heights v t n m =
    nothing_changes v (AnItem kind.Alteration t) n refl (λ h l. ap (λ (b : Bool). if b then Some (sign_of t) else None) (ne_eqb (height_at t) h (λ e. omega arith))) refl

pub altered : (v : InForce) (t : List ℕ) → length v.alters ≡ 15 → height_at t < 15
    → in_force v.clef (set v.alters (height_at t) (sign_of t)) ≡ in_force_after v (AnItem kind.Alteration t ∷ [])
altered v t n l =
    ap (in_force v.clef) (by_heights (set v.alters (height_at t) (sign_of t)) (alter_in_force v (AnItem kind.Alteration t ∷ []))
    (length-set v.alters (height_at t) (sign_of t) ∙ n) (λ h m. here h (height_at t == h) refl))
  where
    here : (h : ℕ) (b : Bool) → (height_at t == h) ≡ b
        → get_or (set v.alters (height_at t) (sign_of t)) h alter.None ≡ by_step (if b then Some (sign_of t) else None) false (get_or v.alters h alter.None)
    here h true e =
        subst (λ (k : ℕ). get_or (set v.alters (height_at t) (sign_of t)) k alter.None ≡ sign_of t) (eqb-true (height_at t) h e)
        (get_or-set_same v.alters (height_at t) (sign_of t) alter.None (omega arith))
    here h false e =
        get_or-set_other v.alters (height_at t) h (sign_of t) alter.None (λ f. eqb-false (height_at t) h e (sym f))
