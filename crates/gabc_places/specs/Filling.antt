-- A buffer that is filled from its front.
use Rattle.std.proofs.Common.{◌≡◌, ℕ, zero, suc, ◌+◌, ◌-◌, ◌≤◌, min, List, [], ◌∷◌, ◌++◌, length, take, drop, refl, sym, ap, ◌∙◌, inl, inr, arith, append_assoc, length-append}
use Rattle.std.proofs.lemmas.Bool.{cases_lt}
use Rattle.std.proofs.lemmas.List.{append-nil, take_at, drop_at, take_all, take-append-drop, length-take, length-drop, drop-drop}
use Rattle.std.proofs.Math.ListN.{drop_of_length-le}

-- the buffer with these items from `at` on, as many as fit
abbrev pub filled : {X : Type 0} → List X → ℕ → List X → List X
filled buf at items = take at buf ++ (take (length buf - at) items ++ drop (at + length items) buf)

-- the number of items that it has taken then
abbrev pub filled_len : {X : Type 0} → List X → ℕ → List X → ℕ
filled_len buf at items = at + min (length items) (length buf - at)

module _ {X : Type 0} where
  pub filled_nothing : (buf : List X) (at : ℕ) → filled buf at [] ≡ buf
  filled_nothing buf at =
      let short : length {A = X} [] ≤ length buf - at = omega arith in
      let none : take {A = X} (length buf - at) [] ≡ [] = take_all (length buf - at) [] short in
      let here : at + 0 ≡ at = omega arith in
      rw (none, here) (take-append-drop at buf)

  pub filled_length : (buf : List X) (at : ℕ) (a : List X) → length (filled buf at a) ≡ length buf
  filled_length buf at a =
      omega (
        arith,
        length-append (take at buf) (take (length buf - at) a ++ drop (at + length a) buf),
        length-append (take (length buf - at) a) (drop (at + length a) buf),
        length-take at buf,
        length-take (length buf - at) a,
        length-drop (at + length a) buf,
      )

  pub filled_len_both : (buf : List X) (at : ℕ) (a b : List X) → filled_len (filled buf at a) (filled_len buf at a) b ≡ filled_len buf at (a ++ b)
  filled_len_both buf at a b = omega (arith, filled_length buf at a, length-append a b)

  -- after its end it takes nothing
  past_end : (buf : List X) (at : ℕ) (a : List X) → length buf ≤ at → filled buf at a ≡ buf
  past_end buf at a le =
      let no_room : length buf - at ≡ 0 = omega arith in
      let front : take at buf ≡ buf = take_all at buf le in
      let rest : drop (at + length a) buf ≡ [] = drop_of_length-le buf (omega (arith, le)) in
      rw (no_room, front, rest) (append-nil buf)

  take_both : (n : ℕ) (a b : List X) → take n (a ++ b) ≡ take n a ++ take (n - length a) b
  take_both zero [] b = refl
  take_both (suc n) [] b = let all : suc n - 0 ≡ suc n = omega arith in rw all refl
  take_both zero (x ∷ a) b = let none : 0 - suc (length a) ≡ 0 = omega arith in rw none refl
  take_both (suc n) (x ∷ a) b = let less : suc n - suc (length a) ≡ n - length a = omega arith in rw less (ap (λ (l : List X). x ∷ l) (take_both n a b))

  within : (buf : List X) (at : ℕ) (a b : List X) → at ≤ length buf → filled (filled buf at a) (filled_len buf at a) b ≡ filled buf at (a ++ b)
  within buf at a b le = rw (front, after, room) (append_assoc f t (take (length r) b ++ drop (length b) r) ∙ ap (λ (l : List X). f ++ l) inner)
    where
      f : List X
      f = take at buf

      t : List X
      t = take (length buf - at) a

      r : List X
      r = drop (at + length a) buf

      joined : filled buf at a ≡ (f ++ t) ++ r
      joined = sym (append_assoc f t r)

      here : length (f ++ t) ≡ filled_len buf at a
      here = omega (arith, le, length-append f t, length-take at buf, length-take (length buf - at) a)

      front : take (filled_len buf at a) (filled buf at a) ≡ f ++ t
      front = ap (take (filled_len buf at a)) joined ∙ take_at (f ++ t) r (filled_len buf at a) here

      after : drop (filled_len buf at a + length b) (filled buf at a) ≡ drop (length b) r
      after = sym (drop-drop (length b) (filled_len buf at a) (filled buf at a)) ∙ ap (λ (l : List X). drop (length b) (drop (filled_len buf at a) l)) joined ∙ ap (drop (length b)) (drop_at (f ++ t) r (filled_len buf at a) here)

      room : length (filled buf at a) - filled_len buf at a ≡ length r
      room = omega (arith, le, filled_length buf at a, length-drop (at + length a) buf)

      less : length buf - at - length a ≡ length r
      less = omega (arith, length-drop (at + length a) buf)

      far : at + length a + length b ≡ at + length (a ++ b)
      far = omega (arith, length-append a b)

      inner : t ++ (take (length r) b ++ drop (length b) r) ≡ take (length buf - at) (a ++ b) ++ drop (at + length (a ++ b)) buf
      inner =
          sym (append_assoc t (take (length r) b) (drop (length b) r))
          ∙ ap (λ (l : List X). l ++ drop (length b) r) (ap (λ (n : ℕ). t ++ take n b) (sym less) ∙ sym (take_both (length buf - at) a b))
          ∙ ap (λ (l : List X). take (length buf - at) (a ++ b) ++ l) (drop-drop (length b) (at + length a) buf ∙ ap (λ (n : ℕ). drop n buf) far)

  pub filled_both : (buf : List X) (at : ℕ) (a b : List X) → filled (filled buf at a) (filled_len buf at a) b ≡ filled buf at (a ++ b)
  filled_both buf at a b =
      elim (cases_lt at (length buf)) [
        | inl lt ↦ within buf at a b (omega (arith, lt))
        | inr le ↦
            let here : filled_len buf at a ≡ at = omega (arith, le) in
            rw (past_end buf at a le, here) (past_end buf at b le ∙ sym (past_end buf at (a ++ b) le))
      ]

  -- from its first byte on, where there is room for all
  pub filled_whole : (buf items : List X) → length items ≤ length buf → filled buf 0 items ≡ items ++ drop (length items) buf
  filled_whole buf items le = let here : 0 + length items ≡ length items = omega arith in rw (take_all (length buf - 0) items (omega (arith, le)), here) refl
