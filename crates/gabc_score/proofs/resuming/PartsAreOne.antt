-- A kept text is cut into its parts in one way.
use Rattle.std.proofs.Common.{◌≡◌, ◌⊎◌, inl, inr, ◌&&◌, not, ℕ, zero, suc, nat_lt, List, [], ◌∷◌, ◌++◌, Bool, true, false, refl, sym, ap, ◌∙◌, subst, append_assoc, codes, arith}
use Rattle.std.proofs.Math.Bool.{and-false}
use Rattle.std.proofs.lemmas.Bool.{true≢false}
use Rattle.gabc_patterns.specs.Derivative.{is_snippet}
use Rattle.gabc_patterns.specs.LongestItems.{IsSnippet}
use Rattle.gabc_patterns.proofs.FunctionsMeetRelations.{snippet_decides}
use Rattle.gabc_text.specs.declared.stage.TextStage.{TextStage}
use Rattle.gabc_text.specs.witness.Keeps as text
use Rattle.gabc_notes.specs.Events.{in_raw}
use Rattle.gabc_notes.specs.Table.{gabc}
use Rattle.gabc_notes.specs.declared.stage.NoteStage.{NoteStage}
use Rattle.gabc_notes.specs.witness.Keeps as notes
use Rattle.gabc_nabc.specs.declared.stage.NabcStage.{NabcStage}
use Rattle.gabc_nabc.specs.witness.Keeps as nabc
use Rattle.gabc_score.specs.declared.body_stage.BodyPart.{BodyPart}
use Rattle.gabc_body.specs.Events.{next_line}
use Rattle.gabc_score.specs.machine.StageLaws.{Again}
use Rattle.gabc_score.specs.machine.PartKeeps.{KeptParts, in_text, in_notes, barred, joined, line_after, IsEndedText, IsEndedOn, AreEnded, PartKeeps}

-- ---- two texts with a mark in them

abbrev pub Longer : ℕ → List ℕ → List ℕ → Type 0
Longer mark s t = (v : List ℕ) × (t ≡ s ++ mark ∷ v)

-- one of them is the other, or goes on after it with its mark
abbrev pub Split : ℕ → ℕ → List ℕ → List ℕ → List ℕ → List ℕ → Type 0
Split a b s t r u = ((s ≡ t) × (a ≡ b) × (r ≡ u)) ⊎ (Longer a s t ⊎ Longer b t s)

pub split_at : (a b : ℕ) (s t r u : List ℕ) → s ++ a ∷ r ≡ t ++ b ∷ u → Split a b s t r u
split_at a b [] [] r u e = inl (refl, (cc), (cc))
split_at a b [] (y ∷ t) r u e = inr (inl (t, (cc)))
split_at a b (x ∷ s) [] r u e = inr (inr (s, (cc)))
split_at a b (x ∷ s) (y ∷ t) r u e =
    let rest : s ++ a ∷ r ≡ t ++ b ∷ u = cc in
    elim (split_at a b s t r u rest) [
      | inl h ↦ inl (cc (h.0), h.1, h.2)
      | inr (inl h) ↦ inr (inl (h.0, cc (h.1)))
      | inr (inr h) ↦ inr (inr (h.0, cc (h.1)))
    ]

pub nothing_marked : {X : Type 0} (s r : List X) (mark : X) → [] ≡ s ++ mark ∷ r → ⊥
nothing_marked [] r mark e = cc
nothing_marked (x ∷ s) r mark e = cc

-- a snippet of GABC lies outside raw
pub outside : (t : List ℕ) → IsSnippet gabc t → in_raw t ≡ false
outside t h = ap (λ (b : Bool). is_snippet gabc (t ++ codes "]") && not b) ((snippet_decides gabc refl t).1 h) ∙ and-false (is_snippet gabc (t ++ codes "]"))

-- What stages keep is kept again: of a text, and of a snippet of GABC. A `(` that ends a text is
-- not.
module _ (again : Again) (lines macros : ℕ) where
  -- some stage keeps a snippet of that line
  abbrev pub IsKeptOn : ℕ → List ℕ → Type 0
  IsKeptOn zero k = (s : NoteStage) × notes.Keeps (nat_lt 0 lines) macros s k
  IsKeptOn (suc line) k = (s : NabcStage) × nabc.Keeps s k

  -- no stage keeps a `|` after a snippet that ends there
  pub no_bar : (line : ℕ) (s v : List ℕ) → IsEndedOn lines macros line s → IsKeptOn line (s ++ 124 ∷ v) → ⊥
  no_bar zero s v ended kept = true≢false (rw (ended.0, outside s ended.1.whole) at (again.gabc_kept (nat_lt 0 lines) macros kept.0 s v 124 kept.1).goes_on)
  no_bar (suc line) s v ended kept = true≢false (kept.1.whole s v 124 refl).goes_on

  pub part_of_whole : (line : ℕ) (s : List ℕ) → IsEndedOn lines macros line s → (rest : List ℕ) × IsKeptOn line (s ++ rest)
  part_of_whole line s e = grind arith

  -- nor does one that ends there go on after it
  pub no_longer : (line : ℕ) (s t : List ℕ) → IsEndedOn lines macros line s → IsEndedOn lines macros line t → Longer 124 s t → ⊥
  no_longer line s t ended other longer = grind (arith, part_of_whole, no_bar, append_assoc)

  pub bar_first : (s : List ℕ) (earlier : List (List ℕ)) (k : List ℕ) → barred (s ∷ earlier) ++ k ≡ s ++ 124 ∷ (barred earlier ++ k)
  bar_first s earlier k = append_assoc (s ++ 124 ∷ []) (barred earlier) k ∙ append_assoc s (124 ∷ []) (barred earlier ++ k)

  one_notes : (line : ℕ) (e f : List (List ℕ)) (k l : List ℕ) → AreEnded lines macros line e → AreEnded lines macros line f → IsKeptOn (line_after lines line e) k → IsKeptOn (line_after lines line f) l
      → barred e ++ k ≡ barred f ++ l → (e ≡ f) × (k ≡ l)
  one_notes line [] [] k l he hf hk hl same = (refl, same)
  one_notes line [] (t ∷ f) k l he hf hk hl same = absurd (no_bar line t (barred f ++ l) hf.0 (subst (IsKeptOn line) (same ∙ bar_first t f l) hk))
  one_notes line (s ∷ e) [] k l he hf hk hl same = absurd (no_bar line s (barred e ++ k) he.0 (subst (IsKeptOn line) (sym same ∙ bar_first s e k) hl))
  one_notes line (s ∷ e) (t ∷ f) k l he hf hk hl same = elim (split_at 124 124 s t (barred e ++ k) (barred f ++ l) (sym (bar_first s e k) ∙ same ∙ bar_first t f l)) [
    | inl h ↦ (let later = one_notes (next_line lines line) e f k l he.1 hf.1 hk hl h.2 in (cc (h.0, later.0), later.1))
    | inr (inl h) ↦ absurd (no_longer line s t he.0 hf.0 h)
    | inr (inr h) ↦ absurd (no_longer line t s hf.0 he.0 h)
  ]

  -- no stage keeps a `(` after a text that ends there
  pub no_notes : (s : TextStage) (t v : List ℕ) → text.ends_after_it t ≡ true → text.Keeps s (t ++ 40 ∷ v) → ⊥
  no_notes s t v ends keeps = absurd (let e : 40 ∷ [] ≡ [] = sym (again.text_kept s t v 40 keeps) ∙ again.text_ends t ends in cc)

  -- parts that stand
  abbrev pub AreKept : KeptParts → Type 0
  AreKept (in_text k) = (k ≡ []) ⊎ ((s : TextStage) × text.Keeps s k)
  AreKept (in_notes t earlier k) = IsEndedText t × (AreEnded lines macros 0 earlier × IsKeptOn (line_after lines 0 earlier) k)

  pub kept_by : (b : BodyPart) (p : KeptParts) → PartKeeps lines macros b p → AreKept p
  kept_by b p h = grind arith

  pub in_text_alone : (k t : List ℕ) (earlier : List (List ℕ)) (l : List ℕ) → AreKept (in_text k) → IsEndedText t → k ≡ (t ++ 40 ∷ barred earlier) ++ l → ⊥
  in_text_alone k t earlier l (inl none) ended same = nothing_marked t (barred earlier ++ l) 40 (sym none ∙ same ∙ append_assoc t (40 ∷ barred earlier) l)
  in_text_alone k t earlier l (inr kept) ended same = no_notes kept.0 t (barred earlier ++ l) ended.ends (subst (text.Keeps kept.0) (same ∙ append_assoc t (40 ∷ barred earlier) l) kept.1)

  parts_one : (p q : KeptParts) → AreKept p → AreKept q → joined p ≡ joined q → p ≡ q
  parts_one (in_text k) (in_text l) hp hq same = ap in_text same
  parts_one (in_text k) (in_notes t earlier l) hp hq same = absurd (in_text_alone k t earlier l hp hq.0 same)
  parts_one (in_notes t earlier k) (in_text l) hp hq same = absurd (in_text_alone l t earlier k hq hp.0 (sym same))
  parts_one (in_notes t e k) (in_notes u f l) hp hq same =
      elim (split_at 40 40 t u (barred e ++ k) (barred f ++ l) (sym (append_assoc t (40 ∷ barred e) k) ∙ same ∙ append_assoc u (40 ∷ barred f) l)) [
        | inl h ↦ (let n = one_notes 0 e f k l hp.1.0 hq.1.0 hp.1.1 hq.1.1 h.2 in cc (h.0, n.0, n.1))
        | inr (inl h) ↦ absurd (no_notes hq.0.stage t h.0 hp.0.ends (subst (text.Keeps hq.0.stage) h.1 hq.0.keeps))
        | inr (inr h) ↦ absurd (no_notes hp.0.stage u h.0 hq.0.ends (subst (text.Keeps hp.0.stage) h.1 hp.0.keeps))
      ]

  -- What two parts keep is the same if the whole kept texts are.
  pub parts_are_one : (a b : BodyPart) (p q : KeptParts) → PartKeeps lines macros a p → PartKeeps lines macros b q → joined p ≡ joined q → p ≡ q
  parts_are_one a b p q hp hq same = parts_one p q (kept_by a p hp) (kept_by b q hq) same
