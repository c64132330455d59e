-- What one character more changes of what is said of characters, and what a stage does by its role.
use Rattle.std.proofs.Common.{◌≡◌, ℕ, List, [], ◌∷◌, ◌++◌, Bool, true, false, cond, not, ◌&&◌, ◌||◌, ◌==◌, refl, sym, ap, ◌∙◌, Some, append-nil, append_assoc, arith}
use Rattle.std.specs.Prelude.{find}
use Rattle.std.specs.Option.{option_map_or}
use Rattle.std.proofs.lemmas.List.Sums.{sum_by-append}
use Rattle.gabc_places.specs.declared.place.Char.{Char}
use Rattle.gabc_patterns.specs.Derivative.{is_snippet, is_viable}
use Rattle.gabc_patterns.specs.Function.{keep, trim_from}
use Rattle.gabc_patterns.proofs.FunctionsMeetRelations.{keep_append}
use Rattle.gabc_notes.specs.Table.{gabc}
use Rattle.gabc_notes.specs.witness.StageEvents.{count_plus}
use Rattle.gabc_notes.specs.Events.{Point, points, outside_comments, with_comments, kept, is_comment, is_in_raw, kept_with, is_kept, item_at, opens_fusion, closes_fusion, is_fused, opener, bytes_of}
use Rattle.gabc_notes.specs.declared.stage.NoteEvent.{NoteEvent}
use Rattle.gabc_notes.specs.declared.stage.CharRole.{CharRole}
use Rattle.gabc_notes.specs.declared.stage.CharRole.TheVariants.{Silent, Comment, Ends, Keep, LeaveOut}

abbrev pub point : List Char → Char → Point
point back x = record { back = back; here = x }

-- ---- a character more

pub kept_more : (back : List Char) (x : Char) → is_comment (point back x) ≡ false → kept (x ∷ back) ≡ cond (is_viable gabc (kept_with (point back x))) (kept_with (point back x)) (kept back)
kept_more back x e = grind (arith, keep_append)

pub kept_same : (back : List Char) (x : Char) → is_comment (point back x) ≡ true → kept (x ∷ back) ≡ kept back
kept_same back x e = ap (λ (b : Bool). keep gabc (cond b (outside_comments (with_comments back)) (outside_comments (with_comments back) ++ x.c ∷ []))) e

pub fused_more : (back : List Char) (x : Char) → is_fused (x ∷ back)
    ≡ cond (opens_fusion (item_at (point back x))) true (cond (closes_fusion (item_at (point back x))) false (is_fused back))
fused_more back x = go (opens_fusion (item_at (point back x))) refl (closes_fusion (item_at (point back x)))
  where
    go : (a : Bool) → opens_fusion (item_at (point back x)) ≡ a → (l : Bool)
        → option_map_or (λ (p : Point). opens_fusion (item_at p)) (cond (a || l) (Some (point back x)) (find (λ (p : Point). opens_fusion (item_at p) || closes_fusion (item_at p)) (points back))) false
        ≡ cond a true (cond l false (is_fused back))
    go a e l = grind arith

pub opener_more : (back : List Char) (x : Char) → opener (x ∷ back) ≡ cond (is_kept (point back x) && not (is_in_raw (point back x))) x.place (opener back)
opener_more back x = go (is_kept (point back x) && not (is_in_raw (point back x)))
  where
    go : (a : Bool)
        → option_map_or (λ (p : Point). p.here.place) (cond a (Some (point back x)) (find (λ (p : Point). is_kept p && not (is_in_raw p)) (points back))) (record { line = 0; column = 0 })
        ≡ cond a x.place (opener back)
    go a = grind arith

pub bytes_more : (k : List ℕ) (c : ℕ) → bytes_of (k ++ c ∷ []) ≡ count_plus (bytes_of k) c
bytes_more k c = grind (arith, sum_by-append)

pub trim_more : (best before t : List ℕ) (c : ℕ) → trim_from gabc best before (t ++ c ∷ [])
    ≡ cond (is_snippet gabc ((before ++ t) ++ c ∷ [])) ((before ++ t) ++ c ∷ []) (trim_from gabc best before t)
trim_more best before [] c = ap (λ (u : List ℕ). cond (is_snippet gabc (u ++ c ∷ [])) (u ++ c ∷ []) best) (sym (append-nil before))
trim_more best before (d ∷ t) c =
    trim_more (cond (is_snippet gabc (before ++ d ∷ [])) (before ++ d ∷ []) best) (before ++ d ∷ []) t c
    ∙ ap (λ (u : List ℕ). cond (is_snippet gabc (u ++ c ∷ [])) (u ++ c ∷ []) (trim_from gabc best before (d ∷ t))) (append_assoc before (d ∷ []) t)

-- ---- roles

abbrev pub RoleIs : CharRole → Bool → Bool → Bool → Bool → Type 0
RoleIs Silent m C B V = (C ≡ true) × (m ≡ true)
RoleIs Comment m C B V = C ≡ true
RoleIs Ends m C B V = (C ≡ false) × (B ≡ true)
RoleIs Keep m C B V = (C ≡ false) × (B ≡ false) × (V ≡ true)
RoleIs LeaveOut m C B V = (C ≡ false) × (B ≡ false) × (V ≡ false)

pub role_is : (m n B D V : Bool) → (B ≡ true → D ≡ false) → (D ≡ true → n ≡ true)
    → RoleIs (cond (m && n) Silent (cond B Ends (cond D Comment (cond V Keep LeaveOut)))) m (n && (m || D)) B V
role_is m n B D V f g = grind arith

pub no_percent : (raw split : Bool) (c : ℕ) → (not raw && ((c == 41) || (split && (c == 124)))) ≡ true → (not raw && (c == 37)) ≡ false
no_percent raw split c e = grind arith

pub no_feed : (raw : Bool) (c : ℕ) → (not raw && (c == 37)) ≡ true → not (c == 10) ≡ true
no_feed raw c e = grind arith

pub pick_none : (o C B V : Bool) (A K L : List NoteEvent) → o ≡ false → C ≡ true → cond o [] (cond (not C && B) A (cond C [] (cond (not C && V) K L))) ≡ []
pick_none o C B V A K L e f = rw (e, f) refl

pub pick_end : (o C B V : Bool) (A K L : List NoteEvent) → o ≡ false → C ≡ false → B ≡ true → cond o [] (cond (not C && B) A (cond C [] (cond (not C && V) K L))) ≡ A
pick_end o C B V A K L e f g = rw (e, f, g) refl

pub pick_kept : (o C B V : Bool) (A K L : List NoteEvent) → o ≡ false → C ≡ false → B ≡ false → V ≡ true → cond o [] (cond (not C && B) A (cond C [] (cond (not C && V) K L))) ≡ K
pick_kept o C B V A K L e f g h = rw (e, f, g, h) refl

pub pick_left : (o C B V : Bool) (A K L : List NoteEvent) → o ≡ false → C ≡ false → B ≡ false → V ≡ false → cond o [] (cond (not C && B) A (cond C [] (cond (not C && V) K L))) ≡ L
pick_left o C B V A K L e f g h = rw (e, f, g, h) refl
