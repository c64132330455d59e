-- If a part keeps the beginning of a kept text, the character after it is kept again, or ends what
-- is read.
use Rattle.std.proofs.Common.{◌≡◌, inl, inr, ◌==◌, ◌&&◌, ℕ, zero, suc, nat_lt, List, [], ◌∷◌, ◌++◌, true, false, refl, sym, ap, ◌∙◌, subst, append_assoc, arith}
use Rattle.std.proofs.lemmas.Bool.{eqb-true}
use Rattle.gabc_text.specs.declared.stage.TextStage.{TextStage}
use Rattle.gabc_text.specs.witness.Keeps as text
use Rattle.gabc_score.specs.declared.body_stage.BodyPart.{BodyPart}
use Rattle.gabc_body.specs.Events.{next_line}
use Rattle.gabc_score.specs.machine.PartKeeps.{KeptParts, in_text, in_notes, barred, joined, line_after, IsEndedText, IsEndedOn, AreEnded, PartKeeps}
use Rattle.gabc_score.specs.machine.ReadAgain.{IsNextIn, IsNext}
use Rattle.gabc_score.specs.machine.StageLaws.{Again}
use Rattle.gabc_score.proofs.resuming.PartsAreOne.{AreKept, IsKeptOn, Split, bar_first, in_text_alone, kept_by, no_bar, no_longer, no_notes, nothing_marked, part_of_whole, split_at}

-- a `%` that is kept begins no comment
no_comment : (c : ℕ) (k : List ℕ) → ((j : List ℕ) → text.begins_comment j ≡ true → text.kept_with j 37 ≡ []) → text.kept_with k c ≡ c ∷ [] → (c == 37 && text.begins_comment k) ≡ false
no_comment c k comments kept = grind (arith, eqb-true)

module _ (again : Again) (lines macros : ℕ) where
  -- of a snippet that is kept
  next_in : (line : ℕ) (k more : List ℕ) (c : ℕ) → IsKeptOn again lines macros line (k ++ c ∷ more) → IsNextIn lines line k c
  next_in zero k more c h = inl (again.gabc_kept (nat_lt 0 lines) macros h.0 k more c h.1)
  next_in (suc line) k more c h = inl (h.1.whole k more c refl)

  -- the `|` of one that ended
  bar_next : (line : ℕ) (s k : List ℕ) (c : ℕ) → IsEndedOn lines macros line s → k ≡ s → c ≡ 124 → IsNextIn lines line k c
  bar_next line s k c h same is = grind arith

  next_notes : (line : ℕ) (e f : List (List ℕ)) (k l : List ℕ) (c : ℕ) (rest : List ℕ) → AreEnded lines macros line e → AreEnded lines macros line f
      → IsKeptOn again lines macros (line_after lines line e) k → IsKeptOn again lines macros (line_after lines line f) l
      → barred e ++ (k ++ c ∷ rest) ≡ barred f ++ l → IsNextIn lines (line_after lines line e) k c
  next_notes line [] [] k l c rest he hf hk hl same = next_in line k rest c (subst (IsKeptOn again lines macros line) (sym same) hl)
  next_notes line [] (s ∷ f) k l c rest he hf hk hl same = elim (split_at c 124 k s rest (barred f ++ l) (same ∙ bar_first again lines macros s f l)) [
    | inl h ↦ bar_next line s k c hf.0 h.0 h.1
    | inr (inl h) ↦ (let whole = part_of_whole again lines macros line s hf.0 in
        next_in line k (h.0 ++ whole.0) c
        (subst (IsKeptOn again lines macros line) (ap (λ (u : List ℕ). u ++ whole.0) h.1 ∙ append_assoc k (c ∷ h.0) whole.0) whole.1))
    | inr (inr h) ↦ absurd (no_bar again lines macros line s h.0 hf.0 (subst (IsKeptOn again lines macros line) h.1 hk))
  ]
  next_notes line (s ∷ e) [] k l c rest he hf hk hl same =
      absurd (no_bar again lines macros line s (barred e ++ (k ++ c ∷ rest)) he.0
      (subst (IsKeptOn again lines macros line) (sym same ∙ bar_first again lines macros s e (k ++ c ∷ rest)) hl))
  next_notes line (s ∷ e) (t ∷ f) k l c rest he hf hk hl same =
      elim (split_at 124 124 s t (barred e ++ (k ++ c ∷ rest)) (barred f ++ l) (sym (bar_first again lines macros s e (k ++ c ∷ rest)) ∙ same ∙ bar_first again lines macros t f l)) [
        | inl h ↦ next_notes (next_line lines line) e f k l c rest he.1 hf.1 hk hl h.2
        | inr (inl h) ↦ absurd (no_longer again lines macros line s t he.0 hf.0 h)
        | inr (inr h) ↦ absurd (no_longer again lines macros line t s hf.0 he.0 h)
      ]

  text_next : (s : TextStage) (k more : List ℕ) (c : ℕ) → text.Keeps s (k ++ c ∷ more) → IsNext lines (in_text k) c
  text_next s k more c h = let e = again.text_kept s k more c h in inl (e, no_comment c k again.text_comments e)

  -- of a text
  next_of_text : (k l : List ℕ) (c : ℕ) (rest : List ℕ) → AreKept again lines macros (in_text l) → k ++ c ∷ rest ≡ l → IsNext lines (in_text k) c
  next_of_text k l c rest (inl none) same = absurd (nothing_marked k rest c (sym none ∙ sym same))
  next_of_text k l c rest (inr h) same = text_next h.0 k rest c (subst (text.Keeps h.0) (sym same) h.1)

  next_of_ended : (k t u : List ℕ) (c : ℕ) (rest : List ℕ) → AreKept again lines macros (in_text k) → IsEndedText t → k ++ c ∷ rest ≡ t ++ 40 ∷ u → IsNext lines (in_text k) c
  next_of_ended k t u c rest kept ended same = by (split_at c 40 k t rest u same) kept
    where
      by : Split c 40 k t rest u → AreKept again lines macros (in_text k) → IsNext lines (in_text k) c
      by (inl h) kept = inr (h.1, ap text.ends_after_it h.0 ∙ ended.ends)
      by (inr (inl h)) kept = text_next ended.stage k h.0 c (subst (text.Keeps ended.stage) h.1 ended.keeps)
      by (inr (inr h)) (inl none) = absurd (nothing_marked t h.0 40 (sym none ∙ h.1))
      by (inr (inr h)) (inr s) = absurd (no_notes again lines macros s.0 t h.0 ended.ends (subst (text.Keeps s.0) h.1 s.1))

  next_by : (q p : KeptParts) (c : ℕ) (rest : List ℕ) → AreKept again lines macros q → AreKept again lines macros p → joined q ++ c ∷ rest ≡ joined p → IsNext lines q c
  next_by (in_text k) (in_text l) c rest hq hp same = next_of_text k l c rest hp same
  next_by (in_text k) (in_notes t f l) c rest hq hp same = next_of_ended k t (barred f ++ l) c rest hq hp.0 (same ∙ append_assoc t (40 ∷ barred f) l)
  next_by (in_notes t e k) (in_text l) c rest hq hp same =
      absurd (in_text_alone again lines macros l t e (k ++ c ∷ rest) hp hq.0 (sym same ∙ append_assoc (t ++ 40 ∷ barred e) k (c ∷ rest)))
  next_by (in_notes t e k) (in_notes u f l) c rest hq hp same =
      elim (split_at 40 40 t u (barred e ++ (k ++ c ∷ rest)) (barred f ++ l)
      (sym (append_assoc (t ++ 40 ∷ barred e) k (c ∷ rest) ∙ append_assoc t (40 ∷ barred e) (k ++ c ∷ rest)) ∙ same ∙ append_assoc u (40 ∷ barred f) l)) [
        | inl h ↦ next_notes 0 e f k l c rest hq.1.0 hp.1.0 hq.1.1 hp.1.1 h.2
        | inr (inl h) ↦ absurd (no_notes again lines macros hp.0.stage t h.0 hq.0.ends (subst (text.Keeps hp.0.stage) h.1 hp.0.keeps))
        | inr (inr h) ↦ absurd (no_notes again lines macros hq.0.stage u h.0 hp.0.ends (subst (text.Keeps hq.0.stage) h.1 hq.0.keeps))
      ]

  -- After what the one part keeps the character c of the other's kept text comes next.
  pub next_is : (a b : BodyPart) (q p : KeptParts) (c : ℕ) (rest : List ℕ) → PartKeeps lines macros a q → PartKeeps lines macros b p → joined q ++ c ∷ rest ≡ joined p → IsNext lines q c
  next_is a b q p c rest hq hp same = next_by q p c rest (kept_by again lines macros a q hq) (kept_by again lines macros b p hp) same
