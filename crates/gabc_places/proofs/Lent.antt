-- `Shared::lent` at a call. Assumes `Logic`.
--     Lends, at_lent, lent_goes, lent_gives      its contract, what it is handed, and the allocator that it shows
use mathlib.Core.Path.{◌≡◌, refl, ap}
use mathlib.Core.List.{List, [], ◌∷◌}
use seplogic.Ra.Ura.{Ura}
use mir.Syntax.{Callee, a_type, named}
use mir.Val.{Val, vptr}
use base.Logic.{SProp, ent, sep, ex, guard, emp, id⊢}
use base.Fml.{Lft, Share, ftrue, fsep}
use prog.Memory.{Memory}
use prog.Routine.{Routine}
use types.Logic.{Logic, sem}
use contract.BorrowLft.{◌⊑◌}
use contract.Monad.{Fun, fact, fact_i}
use types.Kit.{‵, raw, ◌⊛◌, some, later, given, ◌$◌, ◌∵◌, !, qed, move, keep, use0, use1, split, join, pick, learn, fsplit, fjoin, feq_l, feq_i, check, show, await, updating, now as at_once, done}
use denote.RattleType.{RattleType}
use denote.Memory.{hidden_shr}
use denote.Param.{layouts, param}
use denote.Ref.{Bor, ShrRef, shr_vals}
use denote.Steps.{only, nothing}
use denote.Triple.Statement.{Contract}
use denote.Triple.Spec.{triple_of}
use Rattle.std.proofs.alloc.Calls.{Al, seen}
use Rattle.gabc_places.specs.contracts.memory.Shared as L
use Rattle.gabc_places.specs.contracts.memory.Shared.lent as F
use Rattle.gabc_places.specs.contracts.memory.Shared.lent.Key as key

abbrev pub shown_val : {X : Type 0} → Bor X → Val
shown_val b = vptr b.ref_ptr.0 b.ref_ptr.1

module _ (Z : Al) where
  abbrev pub lent_key : Callee
  lent_key = key.name (layouts (a_type ∷ []) (Z.row, tt))

  abbrev pub Owner : RattleType
  Owner = L.the_row (param 0 Z.row)

  abbrev pub Shown : Lft → RattleType
  Shown κ = ShrRef (named 0) κ (param 0 Z.row)

module _ (Z : Al) {M : Type 1} {𝓤 : Ura M} (𝓛 : Logic 𝓤) (at_mem : Memory → SProp 𝓤) (run : Routine → Fun 𝓤) where
  open 𝓛 use {H, A}

  abbrev pub Lends : Contract 𝓤
  Lends = triple_of 𝓛 (F.signature Z.row) (F.spec Z.row 𝓛 at_mem run)

  module _ (κ ρ : Lft) (q s : Share) (out : κ ⊑ ρ) (r : Bor (Owner Z).Denot) where
    abbrev pub at_lent : Lends.Ghost
    at_lent = (((κ, (ρ, tt)), (q, (s, tt)), (out, tt), (r, tt), (shr_vals r, tt)), tt)

    abbrev Tokens : SProp 𝓤
    Tokens = sep 𝓤 (A.lft κ q) (sep 𝓤 (A.lft ρ s) (emp 𝓤))

    pub lent_goes : ρ ⊑ Z.row.lives → ent 𝓤 (sep 𝓤 (sem 𝓛 (hidden_shr (Owner Z) κ r.now r.ref_ptr.0 r.ref_ptr.1)) Tokens) (Lends.pre at_lent)
    lent_goes le = qed 𝓛 (‵ (hidden_shr (Owner Z) κ r.now r.ref_ptr.0 r.ref_ptr.1) ∷ raw Tokens ∷ []) ∵
        feq_i ! (List Val) (shr_vals r) (shr_vals r) refl $ fjoin ! $ nothing ! $ move ! (1 ∷ 0 ∷ []) $ fjoin ! $ move ! (1 ∷ 0 ∷ []) $ join ! $
        nothing ! $ use0 𝓛 (raw (fact 𝓤 (ρ ⊑ Z.row.lives))) (fact_i 𝓤 (ρ ⊑ Z.row.lives) (emp 𝓤) le) $ join ! $ move ! (1 ∷ 0 ∷ []) $ done !

    opened : (b : Bor Z.row.Denot) (v : Val) → ent 𝓤 (sem 𝓛 ((Shown Z κ).own_val b (v ∷ []))) (guard 𝓤 (v ≡ shown_val b) (sem 𝓛 (seen Z κ b.ref_ptr b.now)))
    opened b v = qed 𝓛 (‵ ((Shown Z κ).own_val b (v ∷ [])) ∷ []) ∵ fsplit ! $ feq_l ! (λ e. check ! (ap only e) $ keep ! (0 ∷ []) $ done !)

    abbrev pub Found : Val → Bor Z.row.Denot → SProp 𝓤
    Found v b = guard 𝓤 ((v ≡ shown_val b) × (b.now ≡ r.now)) (sep 𝓤 (sem 𝓛 (seen Z κ b.ref_ptr b.now)) Tokens)

    pub lent_gives : (v : Val) → ent 𝓤 (Lends.post at_lent v) (H.⇛ (ex 𝓤 (Found v)))
    lent_gives v = qed 𝓛 (raw (Lends.post at_lent v) ∷ []) ∵ updating ! $
        use1 𝓛 (later (some (λ (b : Bor Z.row.Denot). (raw Tokens ⊛ ‵ ((Shown Z κ).own_val b (v ∷ []))) ⊛ some (λ (ws : Unit {0} × Unit {0}). ‵ (fsep ftrue ftrue) ⊛ given (b.now ≡ r.now) (‵ ftrue))))) (id⊢ 𝓤 _) $ await ! tt $ pick ! (λ b.
        split ! $ split ! $ move ! (1 ∷ []) $ use1 𝓛 (given (v ≡ shown_val b) (‵ (seen Z κ b.ref_ptr b.now))) (opened b v) $ learn ! (λ e. move ! (2 ∷ []) $ pick ! (λ ws. split ! $ move ! (1 ∷ []) $ learn ! (λ k.
        at_once ! $ show ! (Found v) b $ check ! (e, k) $ keep ! (2 ∷ 3 ∷ []) $ done !))))
