-- The machine's trim, one character after the other.
use Rattle.std.proofs.Common.{◌≡◌, ℕ, ◌+◌, ◌-◌, ◌≤◌, List, [], ◌∷◌, ◌++◌, length, take, drop, Bool, true, false, cond, ◌&&◌, refl, sym, ap, ◌∙◌, arith, length-append, length-drop, slice_range, drop-drop}
use Rattle.std.proofs.lemmas.List.{drop-append-le, take-append-le}
use Rattle.std.proofs.lemmas.Bool.{and_parts}
use Rattle.std.proofs.Math.Bool.{and-true, and_assoc}
use Rattle.gabc_headers.specs.Lines.{trim_start, trim_end}
use Rattle.gabc_headers.specs.declared.part_machine.Trim.{Trim}
use Rattle.gabc_headers.specs.machine.PartMachine.{next_trim}
use Rattle.gabc_headers.proofs.machines.TrimAsLoop.{all_out, lead_len, kept_len, trim_end-out, trim_end-kept, lead_len-more, lead_len-all, trim_both}

-- the trim is that of u, which begins at start
pub record TrimOf (lead last : ℕ → Bool) (start : ℕ) (u : List ℕ) (t : Trim) : Type 0 where
  pub from : t.from ≡ start + lead_len lead u
  pub to : t.to ≡ start + kept_len last u
  pub leading : t.leading ≡ all_out lead u

-- of nothing
pub begin_trim : (lead last : ℕ → Bool) (start : ℕ) → TrimOf lead last start [] (record { from = start; to = start; leading = true })
begin_trim lead last start = record { from = omega arith; to = omega arith; leading = refl }

-- whether all is left out, with one more
all_out-push : (out : ℕ → Bool) (u : List ℕ) (c : ℕ) → all_out out (u ++ c ∷ []) ≡ (all_out out u && out c)
all_out-push out [] c = and-true (out c)
all_out-push out (d ∷ u) c = ap (λ (b : Bool). out d && b) (all_out-push out u c) ∙ sym (and_assoc (out d) (all_out out u) (out c))

-- one more after what is all left out
lead_len-stop : (out : ℕ → Bool) (u : List ℕ) (c : ℕ) → all_out out u ≡ true → lead_len out (u ++ c ∷ []) ≡ length u + cond (out c) 1 0
lead_len-stop out [] c h = grind arith
lead_len-stop out (d ∷ u) c h =
    let f = and_parts (out d) (all_out out u) h in
    let e = lead_len-stop out u c f.1 in
    rw f.0 (omega arith)

-- with one character more
pub trim_push : (lead last : ℕ → Bool) (start : ℕ) (u : List ℕ) (t : Trim) (c at : ℕ) (a b : Bool) → TrimOf lead last start u t → lead c ≡ a → last c ≡ b → at ≡ start + length u
    → TrimOf lead last start (u ++ c ∷ []) (next_trim t (at + 1) a b)
trim_push lead last start u t c at a b h f g e = record {
  from = ap (λ (x : Bool). cond (x && a) (at + 1) t.from) h.leading ∙ by (all_out lead u) refl a f;
  to = to b g;
  leading = ap (λ (x : Bool). x && a) h.leading ∙ (ap (λ (x : Bool). all_out lead u && x) (sym f) ∙ sym (all_out-push lead u c));
}
  where
    by : (x : Bool) → all_out lead u ≡ x → (a : Bool) → lead c ≡ a → cond (x && a) (at + 1) t.from ≡ start + lead_len lead (u ++ c ∷ [])
    by true k true f = let s = lead_len-stop lead u c k in let z = ap (λ (y : Bool). cond {A = ℕ} y 1 0) f in omega arith
    by true k false f = let s = lead_len-stop lead u c k in let z = ap (λ (y : Bool). cond {A = ℕ} y 1 0) f in let w = lead_len-all lead u k in let v = h.from in omega arith
    by false k a f = h.from ∙ ap (λ (x : ℕ). start + x) (sym (lead_len-more lead u c k))

    to : (b : Bool) → last c ≡ b → cond b t.to (at + 1) ≡ start + kept_len last (u ++ c ∷ [])
    to true g = h.to ∙ ap (λ (x : List ℕ). start + length x) (sym (trim_end-out last u c g))
    to false g = let s = ap length (trim_end-kept last u c g) in let z = length-append u (c ∷ []) in omega arith

-- no more is kept than there is
kept_le : (last : ℕ → Bool) (u : List ℕ) → kept_len last u ≤ length u
kept_le last [] = omega arith
kept_le last (c ∷ u) = grind (arith, kept_le last u)

-- no more is left out than there is
lead_le : (lead : ℕ → Bool) (u : List ℕ) → lead_len lead u ≤ length u
lead_le lead [] = omega arith
lead_le lead (c ∷ u) = grind (arith, lead_le lead u)

-- what is trimmed is that part of the text
pub trim_slice : (lead last : ℕ → Bool) (start : ℕ) (u r text : List ℕ) (t : Trim) → TrimOf lead last start u t → drop start text ≡ u ++ r
    → slice_range text t.from t.to ≡ trim_start lead (trim_end last u)
trim_slice lead last start u r text t h e =
    let f = h.from in
    let g = h.to in
    let n : t.to - t.from ≡ kept_len last u - lead_len lead u = omega arith in
    let d : drop t.from text ≡ drop (lead_len lead u) u ++ r =
    ap (λ (x : ℕ). drop x text) f ∙ (sym (drop-drop (lead_len lead u) start text) ∙ (ap (drop (lead_len lead u)) e ∙ drop-append-le (lead_len lead u) u r (lead_le lead u))) in
    let m : kept_len last u - lead_len lead u ≤ length (drop (lead_len lead u) u) = omega (arith, length-drop (lead_len lead u) u, kept_le last u, lead_le lead u) in
    ap (λ (x : ℕ). take x (drop t.from text)) n ∙ (ap (take (kept_len last u - lead_len lead u)) d ∙ (take-append-le (kept_len last u - lead_len lead u) (drop (lead_len lead u) u) r m ∙ sym (trim_both lead last u)))
