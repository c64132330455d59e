-- Items of a list whose elements are read by letters, as notes are by where they stand.
use Rattle.std.proofs.Common.{◌≡◌, ℕ, List, [], ◌∷◌, ◌++◌, refl, sym, ap, ◌∙◌, subst, append_assoc, take, drop, length, ◌≤◌, ◌+◌, arith, length-append, length-take, length-drop, take-append-drop, take_at, drop-drop, ◌-◌, Some}
use Rattle.std.proofs.Math.Seq.{take-add}
use Rattle.gabc_patterns.specs.LongestItems.{Table, Longest, IsItemOf, IsItem, HasSome}
use Rattle.gabc_patterns.specs.Items.{IsTakenAt}
use Rattle.gabc_patterns.proofs.ItemSoFar.{IsBest, best_longest}

-- a row of that kind spells the letters of the list
abbrev pub HasLetters : {K X : Type 0} → Table K → (List X → List ℕ) → K → List X → Type 0
HasLetters rows letters k t = IsItemOf rows k (letters t)

-- The letters are one for each element, and those of a prefix are a prefix of them.
pub record AreLetters {X : Type 0} (letters : List X → List ℕ) : Type 0 where
  pub as_many : (t : List X) → length (letters t) ≡ length t
  pub prefix : (n : ℕ) (t : List X) → letters (take n t) ≡ take n (letters t)

module _ {K X : Type 0} (table : Table K) (letters : List X → List ℕ) (h : AreLetters letters) where
  -- the letters of a prefix and more
  letters_more : (t more after : List X) (e : ℕ) → e ≤ length t → drop e t ≡ more ++ after
      → letters (take e t ++ more) ≡ take e (letters t) ++ take (length more) (drop e (letters t))
  letters_more t more after e l f =
      let whole : t ≡ (take e t ++ more) ++ after = sym (take-append-drop e t) ∙ (ap (λ (u : List X). take e t ++ u) f ∙ sym (append_assoc (take e t) more after)) in
      let n : length (take e t ++ more) ≡ e + length more = omega (arith, length-append (take e t) more, length-take e t) in
      let prefix : take (e + length more) t ≡ take e t ++ more = ap (λ (u : List X). take (e + length more) u) whole ∙ take_at (take e t ++ more) after (e + length more) n in
      ap letters (sym prefix) ∙ (h.prefix (e + length more) t ∙ take-add e (length more) (letters t))

  -- nothing more where no letter is
  none_more : (t more after : List X) (e : ℕ) → drop e t ≡ more ++ after → take (length more) (drop e (letters t)) ≡ [] → more ≡ []
  none_more t [] after e f g = refl
  none_more t (x ∷ more) after e f g =
      let m : length (take (length (x ∷ more)) (drop e (letters t))) ≡ 0 = ap length g in
      let d : length (drop e t) ≡ length ((x ∷ more) ++ after) = ap length f in
      let s = h.as_many t in
      absurd (omega (arith, m, d, s, length-take (length (x ∷ more)) (drop e (letters t)), length-drop e (letters t), length-drop e t, length-append (x ∷ more) after))

  -- the longest item of the letters is that of the list
  pub longest_letters : (t : List X) (e : ℕ) → e ≤ length t → Longest (IsItem table) (take e (letters t)) (drop e (letters t))
      → Longest (HasSome (HasLetters table letters)) (take e t) (drop e t)
  longest_letters t e l long = record {
    has = (let i = long.has in (i.0, subst (IsItemOf table i.0) (sym (h.prefix e t)) i.1));
    longest = λ more after f i. none_more t more after e f
        (long.longest (take (length more) (drop e (letters t))) (drop (length more) (drop e (letters t)))
        (sym (take-append-drop (length more) (drop e (letters t))))
        (i.0, subst (IsItemOf table i.0) (letters_more t more after e l f) i.1));
  }

module _ {K X : Type 0} (table : Table K) (letters : List X → List ℕ) (h : AreLetters letters) where
  -- the longest item of the letters from a place on, which are taken anew there, is the one that the list has there
  pub taken_letters : (t : List X) (from : ℕ) (k : K) (e : ℕ) → from ≤ length t
      → IsBest table (letters (drop from t)) (length (letters (drop from t))) (Some (k, e)) → IsTakenAt (HasLetters table letters) t from k (from + e)
  taken_letters t from k e l b =
      let some = b.0 in
      let fits = b.1 in
      let many = h.as_many (drop from t) in
      let n : from + e - from ≡ e = omega arith in
      let s : e ≤ length (drop from t) = omega arith in
      let long = longest_letters table letters h (drop from t) e s (best_longest table (letters (drop from t)) k e b) in
      record {
        after = omega arith;
        within = omega (arith, length-drop from t);
        item = rw (n) (subst (IsItemOf table k) (sym (h.prefix e (drop from t))) b.2);
        longest = rw (n) (subst (λ u. Longest (HasSome (HasLetters table letters)) (take e (drop from t)) u) (drop-drop e from t) long);
      }
