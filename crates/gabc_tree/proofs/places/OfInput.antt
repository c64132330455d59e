-- A place of the text of an input stands at a byte of it.
use Rattle.std.proofs.Common.{◌≡◌, ℕ, ◌+◌, Bool, true, false, cond, List, [], ◌∷◌, ◌++◌, refl, ap, ◌∙◌, arith}
use Rattle.std.specs.Char.{len_utf8}
use Rattle.gabc_places.specs.Place.{next_place, saturating_next_place, place_past}
use Rattle.gabc_places.specs.Text.{is_left_out, read_as}
use Rattle.gabc_places.specs.declared.place.Place.{Place}
use Rattle.gabc_headers.proofs.entries.TextsAsBytes.{bytes_len-cons}
use Rattle.gabc_headers.specs.Lines.{bytes_len}
use Rattle.gabc_tree.specs.InputPlaces.{byte_from}
use Rattle.gabc_tree.specs.NotKept.{is_before}
use Rattle.gabc_tree.proofs.fates.FoundLater.{before_next, before_trans, not_before_itself}
use Rattle.gabc_tree.proofs.fates.Input.{shown}
use Rattle.gabc_tree.proofs.fates.Walk.{IsNear, near_next, next_near}

-- a place further on is later
pub before_past : (p : Place) (c : ℕ) (t : List ℕ) → is_before p (place_past p (c ∷ t)) ≡ true
before_past p c [] = before_next p c
before_past p c (d ∷ t) = before_trans p (next_place p c) (place_past (next_place p c) (d ∷ t)) (before_next p c) (before_past (next_place p c) d t)

-- these characters, which begin there, have `front` before the place p
pub record IsReached (p : Place) (previous byte : ℕ) (here : Place) (cs front : List ℕ) : Type 0 where
  pub before : List ℕ
  pub after : List ℕ
  pub parts : cs ≡ before ++ after
  pub front_is : shown previous before ≡ front
  pub byte_is : byte_from p previous byte here cs ≡ byte + bytes_len before

with_first : (p : Place) (previous byte c : ℕ) (here next : Place) (cs front all : List ℕ) → byte_from p previous byte here (c ∷ cs) ≡ byte_from p c (byte + len_utf8 c) next cs
    → ((before : List ℕ) → shown c before ≡ front → shown previous (c ∷ before) ≡ all) → IsReached p c (byte + len_utf8 c) next cs front → IsReached p previous byte here (c ∷ cs) all
with_first p previous byte c here next cs front all e more r = record {
  before = c ∷ r.before;
  after = r.after;
  parts = ap (λ (u : List ℕ). c ∷ u) r.parts;
  front_is = more r.before r.front_is;
  byte_is = let b = e ∙ r.byte_is in let n = bytes_len-cons c r.before in b ∙ omega (arith, n);
}

-- so it is of the rest, after the character c
abbrev AllReached : Place → ℕ → List ℕ → Type 0
AllReached p c cs = (byte : ℕ) (here : Place) (front back : List ℕ) → shown c cs ≡ front ++ back → p ≡ place_past here front → IsNear here (front ++ back) → IsReached p c byte here cs front

pub reached : (cs : List ℕ) (p : Place) (previous byte : ℕ) (here : Place) (front back : List ℕ) → shown previous cs ≡ front ++ back → p ≡ place_past here front → IsNear here (front ++ back)
    → IsReached p previous byte here cs front
reached [] p previous byte here [] back e f n = record { before = []; after = []; parts = refl; front_is = refl; byte_is = omega arith }
reached [] p previous byte here (x ∷ front) back e f n = absurd (cc)
reached (c ∷ cs) p previous byte here front back e f n = by (is_left_out (previous, c)) refl e (λ b h u v g k m. reached cs p c b h u v g k m)
  where
    left_byte : (o : Bool) → o ≡ true → cond o (byte_from p c (byte + len_utf8 c) here cs) (cond (is_before here p) (byte_from p c (byte + len_utf8 c) (saturating_next_place here (read_as c)) cs) byte) ≡ byte_from p c (byte + len_utf8 c) here cs
    left_byte true g = refl
    left_byte false g = absurd (cc)

    on_byte : (o b : Bool) → o ≡ false → b ≡ true → cond o (byte_from p c (byte + len_utf8 c) here cs) (cond b (byte_from p c (byte + len_utf8 c) (saturating_next_place here (read_as c)) cs) byte) ≡ byte_from p c (byte + len_utf8 c) (saturating_next_place here (read_as c)) cs
    on_byte true b g h = absurd (cc)
    on_byte false true g h = refl
    on_byte false false g h = absurd (cc)

    here_byte : (o b : Bool) → o ≡ false → b ≡ false → cond o (byte_from p c (byte + len_utf8 c) here cs) (cond b (byte_from p c (byte + len_utf8 c) (saturating_next_place here (read_as c)) cs) byte) ≡ byte
    here_byte true b g h = absurd (cc)
    here_byte false true g h = absurd (cc)
    here_byte false false g h = refl

    left_shown : (before : List ℕ) → is_left_out (previous, c) ≡ true → shown c before ≡ front → shown previous (c ∷ before) ≡ front
    left_shown before l g = ap (λ (o : Bool). cond o (shown c before) (read_as c ∷ shown c before)) l ∙ g

    loud : is_left_out (previous, c) ≡ false → AllReached p c cs → (front : List ℕ) → read_as c ∷ shown c cs ≡ front ++ back → p ≡ place_past here front → IsNear here (front ++ back) → IsReached p previous byte here (c ∷ cs) front
    loud l later [] g h m = record {
      before = [];
      after = c ∷ cs;
      parts = refl;
      front_is = refl;
      byte_is = let b = here_byte (is_left_out (previous, c)) (is_before here p) l (ap (is_before here) h ∙ not_before_itself here) in b ∙ omega arith;
    }
    loud l later (x ∷ front) g h m =
        let first : read_as c ≡ x = cc g in
        let rest : shown c cs ≡ front ++ back = cc g in
        let next : saturating_next_place here (read_as c) ≡ next_place here x = ap (saturating_next_place here) first ∙ next_near here x (front ++ back) m in
        let r = later (byte + len_utf8 c) (next_place here x) front back rest h (near_next here x (front ++ back) m) in
        let e = on_byte (is_left_out (previous, c)) (is_before here p) l (ap (is_before here) h ∙ before_past here x front) in
        with_first p previous byte c here (next_place here x) cs front (x ∷ front) (e ∙ ap (λ (q : Place). byte_from p c (byte + len_utf8 c) q cs) next)
        (λ before k. ap (λ (o : Bool). cond o (shown c before) (read_as c ∷ shown c before)) l ∙ (ap (λ (y : ℕ). y ∷ shown c before) first ∙ ap (λ (u : List ℕ). x ∷ u) k)) r

    by : (o : Bool) → is_left_out (previous, c) ≡ o → cond o (shown c cs) (read_as c ∷ shown c cs) ≡ front ++ back → AllReached p c cs → IsReached p previous byte here (c ∷ cs) front
    by true l g later =
        with_first p previous byte c here here cs front front (left_byte (is_left_out (previous, c)) l) (λ before k. left_shown before l k)
        (later (byte + len_utf8 c) here front back g f n)
    by false l g later = loud l later front g f n
