-- Where a raw part ends: how much of its ending the characters before have matched.
use Rattle.std.proofs.Common.{◌≡◌, ℕ, ◌<◌, ◌==◌, List, [], ◌∷◌, ◌++◌, Bool, true, false, cond, refl, sym, ap, ◌∙◌, eq-eqb, append_assoc, append-nil, length, Option, Some, None, option_map, arith}
use Rattle.std.proofs.Math.Bool.{and-false}
use Rattle.gabc_text.specs.Token.{through, begins_with}
use Rattle.gabc_text.proofs.tokens.TokensByCharacter.{lacks, not_and}

abbrev pub after_prefix : List ℕ → Option (List ℕ) → Option (List ℕ)
after_prefix q o = option_map (λ s. q ++ s) o

pub prefix_none : (o : Option (List ℕ)) → o ≡ after_prefix [] o
prefix_none o = grind arith

pub prefix_prefix : (q p : List ℕ) (o : Option (List ℕ)) → after_prefix q (after_prefix p o) ≡ after_prefix (q ++ p) o
prefix_prefix q p o = grind (arith, append_assoc)

pub prefix_cons : (c : ℕ) (q : List ℕ) (o : Option (List ℕ)) → option_map (λ s. c ∷ s) (after_prefix q o) ≡ after_prefix (c ∷ q) o
prefix_cons c q o = grind arith

module _ (x : ℕ) (e : List ℕ) where
  -- no ending begins where x does not stand
  pub skip : (r t : List ℕ) → lacks x r ≡ true → through (x ∷ e) (r ++ t) ≡ after_prefix r (through (x ∷ e) t)
  skip [] t h = prefix_none (through (x ∷ e) t)
  skip (c ∷ r) t h =
      let p = not_and (x == c) (lacks x r) h in
      rw (p.0, skip r t p.1) (prefix_cons c r (through (x ∷ e) t))

pub differs : (p : List ℕ) (x c : ℕ) (e t : List ℕ) → x == c ≡ false → begins_with (p ++ x ∷ e) (p ++ c ∷ t) ≡ false
differs [] x c e t h = rw h refl
differs (d ∷ p) x c e t h = rw (eq-eqb d d refl, differs p x c e t h) refl

pub begins_itself : (e t : List ℕ) → begins_with e (e ++ t) ≡ true
begins_itself [] t = refl
begins_itself (c ∷ e) t = rw (eq-eqb c c refl, begins_itself e t) refl

pub too_short : (e t : List ℕ) → length t < length e → begins_with e t ≡ false
too_short [] t h = absurd (omega arith)
too_short (d ∷ e) [] h = refl
too_short (d ∷ e) (c ∷ t) h = rw (too_short e t (omega arith)) (and-false (d == c))

pub through_short : (e t : List ℕ) → length t < length e → through e t ≡ None
through_short e [] h = refl
through_short e (c ∷ t) h = rw (too_short e (c ∷ t) h, through_short e t (omega arith)) refl

-- r is a prefix q, in which no ending begins, and then p, a prefix of the ending
pub record Matching (e r p : List ℕ) : Type 0 where
  pub q : List ℕ
  pub split : r ≡ q ++ p
  pub goes : (t : List ℕ) → through e (r ++ t) ≡ after_prefix q (through e (p ++ t))

pub match_none : (e : List ℕ) → Matching e [] []
match_none e = record { q = []; split = refl; goes = λ t. prefix_none (through e t) }

-- one more character of the ending
pub match_more : (e r p : List ℕ) (c : ℕ) → Matching e r p → Matching e (r ++ c ∷ []) (p ++ c ∷ [])
match_more e r p c m = grind (arith, append_assoc)

abbrev pub drop_one : List ℕ → List ℕ
drop_one [] = []
drop_one (c ∷ s) = s

-- a character that is not the next one of the ending: what was matched begins none
pub fails : (x : ℕ) (e p : List ℕ) (y c : ℕ) (rest t : List ℕ) → x ∷ e ≡ p ++ y ∷ rest → y == c ≡ false → lacks x (drop_one p) ≡ true
    → through (x ∷ e) (p ++ c ∷ t) ≡ after_prefix p (through (x ∷ e) (c ∷ t))
fails x e p y c rest t f ne h = grind (arith, prefix_none, differs, skip, prefix_cons)

pub match_fails : (x : ℕ) (e r p : List ℕ) (y c : ℕ) (rest : List ℕ) → x ∷ e ≡ p ++ y ∷ rest → y == c ≡ false → lacks x (drop_one p) ≡ true
    → Matching (x ∷ e) r p → Matching (x ∷ e) (r ++ c ∷ []) (cond (x == c) (c ∷ []) [])
match_fails x e r p y c rest f ne h m = begin_again (x == c) refl
  where
    moved : (t : List ℕ) → through (x ∷ e) ((r ++ c ∷ []) ++ t) ≡ after_prefix (m.q ++ p) (through (x ∷ e) (c ∷ t))
    moved t = grind (arith, append_assoc, fails, prefix_prefix)

    begin_again : (b : Bool) → x == c ≡ b → Matching (x ∷ e) (r ++ c ∷ []) (cond b (c ∷ []) [])
    begin_again true g = record { q = m.q ++ p; split = ap (λ (s : List ℕ). s ++ c ∷ []) m.split; goes = moved }
    begin_again false g = record {
      q = (m.q ++ p) ++ c ∷ [];
      split = ap (λ (s : List ℕ). s ++ c ∷ []) m.split ∙ sym (append-nil ((m.q ++ p) ++ c ∷ []));
      goes = λ t. moved t ∙ ap (after_prefix (m.q ++ p)) (past t) ∙ prefix_prefix (m.q ++ p) (c ∷ []) (through (x ∷ e) t);
    }
      where
        past : (t : List ℕ) → through (x ∷ e) (c ∷ t) ≡ after_prefix (c ∷ []) (through (x ∷ e) t)
        past t = rw g refl

-- the last character of the ending
pub match_ends : (x : ℕ) (e r p : List ℕ) (c : ℕ) (t : List ℕ) → x ∷ e ≡ p ++ c ∷ [] → Matching (x ∷ e) r p
    → through (x ∷ e) (r ++ c ∷ t) ≡ Some (r ++ c ∷ [])
match_ends x e r p c t f m =
    let whole : (p ++ c ∷ t) ≡ (x ∷ e) ++ t = sym (append_assoc p (c ∷ []) t) ∙ ap (λ (s : List ℕ). s ++ t) (sym f) in
    let found : through (x ∷ e) ((x ∷ e) ++ t) ≡ Some (x ∷ e) = rw (eq-eqb x x refl, begins_itself e t) refl in
    m.goes (c ∷ t) ∙ ap (λ (s : List ℕ). after_prefix m.q (through (x ∷ e) s)) whole ∙ ap (after_prefix m.q) found
    ∙ ap Some (ap (λ (s : List ℕ). m.q ++ s) f ∙ sym (append_assoc m.q p (c ∷ [])) ∙ ap (λ (s : List ℕ). s ++ c ∷ []) (sym m.split))

-- no ending
pub match_open : (e r p : List ℕ) → length p < length e → Matching e r p → through e r ≡ None
match_open e r p h m =
    ap (through e) (sym (append-nil r)) ∙ m.goes [] ∙ ap (λ (s : List ℕ). after_prefix m.q (through e s)) (append-nil p) ∙ ap (after_prefix m.q) (through_short e p h)
