-- A walk over a text goes past a character.
use Rattle.std.proofs.Common.{◌≡◌, ℕ, ◌+◌, Bool, true, false, true≢false, cond, ◌||◌, ◌&&◌, ◌==◌, nat_lt, List, [], ◌∷◌, refl, sym, ap, ◌∙◌, ◌⊎◌, inl, inr, arith}
use Rattle.std.specs.Char.{len_utf8}
use Rattle.std.specs.Str.{chars}
use Rattle.std.proofs.lemmas.Bool.Decides.{nat_tests}
use Rattle.gabc_places.specs.Place.{saturating_next_place}
use Rattle.gabc_places.specs.Text.{is_left_out, read_as}
use Rattle.gabc_places.specs.declared.place.Place.{Place}
use Rattle.gabc_tree.specs.InputPlaces.{byte_from}
use Rattle.gabc_tree.specs.NotKept.{is_before}
use Rattle.gabc_tree.specs.declared.place_reader.Walk.{Walk}
use Rattle.gabc_tree.specs.machine.Walk.{IsWithin, GoesPast, byte_by, here_past}
use Rattle.gabc_tree.proofs.fates.FoundLater.{before_next, before_trans}
use Rattle.gabc_tree.proofs.fates.Walk.{IsNear, next_near}

-- ---- places

between : (a b q : Place) → is_before a b ≡ true → is_before q b ≡ false → is_before a q ≡ true
between a b q h i = by a.line a.column b.line b.column q.line q.column h i
  where
    by : (a b c d e f : ℕ) → (nat_lt a c || ((a == c) && nat_lt b d)) ≡ true → (nat_lt e c || ((e == c) && nat_lt f d)) ≡ false → (nat_lt a e || ((a == e) && nat_lt b f)) ≡ true
    by a b c d e f h i = grind (arith, nat_tests)

not_earlier : (a b q : Place) → is_before a b ≡ true → is_before q b ≡ false → is_before q a ≡ false
not_earlier a b q h i = by (is_before q a) refl
  where
    by : (o : Bool) → is_before q a ≡ o → o ≡ false
    by true e = absurd (true≢false (sym (before_trans q a b e h) ∙ i))
    by false e = refl

-- if the numbers are small, the next place is later
later_place : (w : Walk) (c : ℕ) → IsWithin w → is_before w.here (saturating_next_place w.here c) ≡ true
later_place w c i = ap (is_before w.here) (next_near w.here c (c ∷ []) near) ∙ before_next w.here c
  where
    near : IsNear w.here (c ∷ c ∷ [])
    near = record { lines = let a = i.short in let b = i.line in omega (arith, a, b); columns = let a = i.short in let b = i.column in omega (arith, a, b) }

-- ---- a character

module _ (w next : Walk) (c : ℕ) (first : chars w.rest.now ≡ c ∷ chars next.rest.now) (previous : next.previous ≡ c) (byte : next.byte ≡ w.byte + len_utf8 c)
    (here : next.here ≡ here_past w.here c (is_left_out (w.previous, c))) (within : IsWithin w) where
  -- the byte of a place, one character further on
  abbrev then_by : Bool → Bool → Place → ℕ
  then_by o b q =
      cond o (byte_from q c (w.byte + len_utf8 c) w.here (chars next.rest.now)) (cond b (byte_from q c (w.byte + len_utf8 c) (saturating_next_place w.here (read_as c)) (chars next.rest.now)) w.byte)

  on_by : (q : Place) (o b : Bool) → is_left_out (w.previous, c) ≡ o → is_before w.here q ≡ b → byte_by w q ≡ then_by o b q
  on_by q o b e f = ap (λ (cs : List ℕ). byte_from q w.previous w.byte w.here cs) first ∙ (ap (λ (p : Bool). then_by p (is_before w.here q) q) e ∙ ap (λ (p : Bool). then_by o p q) f)

  next_by : (q : Place) → byte_by next q ≡ byte_from q c (w.byte + len_utf8 c) (here_past w.here c (is_left_out (w.previous, c))) (chars next.rest.now)
  next_by q = ap (λ (n : ℕ). byte_from q n next.byte next.here (chars next.rest.now)) previous ∙ (ap (λ (n : ℕ). byte_from q c n next.here (chars next.rest.now)) byte ∙ ap (λ (p : Place). byte_from q c (w.byte + len_utf8 c) p (chars next.rest.now)) here)

  same_by : (q : Place) → (is_left_out (w.previous, c) ≡ true) ⊎ (is_before w.here q ≡ true) → byte_by w q ≡ byte_by next q
  same_by q h = by (is_left_out (w.previous, c)) refl h
    where
      by : (o : Bool) → is_left_out (w.previous, c) ≡ o → (is_left_out (w.previous, c) ≡ true) ⊎ (is_before w.here q ≡ true) → byte_by w q ≡ byte_by next q
      by true e i = on_by q true (is_before w.here q) e refl ∙ sym (next_by q ∙ ap (λ (o : Bool). byte_from q c (w.byte + len_utf8 c) (here_past w.here c o) (chars next.rest.now)) e)
      by false e (inl f) = absurd (true≢false (sym f ∙ e))
      by false e (inr f) = on_by q false true e f ∙ sym (next_by q ∙ ap (λ (o : Bool). byte_from q c (w.byte + len_utf8 c) (here_past w.here c o) (chars next.rest.now)) e)

  pub goes : (p : Place) → (is_left_out (w.previous, c) ≡ true) ⊎ (is_before w.here p ≡ true) → GoesPast w next p
  goes p h = by (is_left_out (w.previous, c)) refl
    where
      by : (o : Bool) → is_left_out (w.previous, c) ≡ o → GoesPast w next p
      by true e = record {
        later = λ q i. ap (is_before q) (sym (here ∙ ap (here_past w.here c) e)) ∙ i;
        same = λ q i. same_by q (inl e);
        wanted = same_by p h;
      }
      by false e =
          let there : next.here ≡ saturating_next_place w.here (read_as c) = here ∙ ap (here_past w.here c) e in
          let up : is_before w.here next.here ≡ true = ap (is_before w.here) there ∙ later_place w (read_as c) within in
          record { later = λ q i. not_earlier w.here next.here q up i; same = λ q i. same_by q (inr (between w.here next.here q up i)); wanted = same_by p h }

-- there, no character is passed
pub stays : (w : Walk) (c : ℕ) (cs : List ℕ) (p : Place) → chars w.rest.now ≡ c ∷ cs → is_left_out (w.previous, c) ≡ false → is_before w.here p ≡ false → byte_by w p ≡ w.byte
stays w c cs p first e f =
    ap (λ (t : List ℕ). byte_from p w.previous w.byte w.here t) first
    ∙ (ap (λ (o : Bool). cond o (byte_from p c (w.byte + len_utf8 c) w.here cs) (cond (is_before w.here p) (byte_from p c (w.byte + len_utf8 c) (saturating_next_place w.here (read_as c)) cs) w.byte)) e
    ∙ ap (λ (b : Bool). cond b (byte_from p c (w.byte + len_utf8 c) (saturating_next_place w.here (read_as c)) cs) w.byte) f)
