-- The longest prefix of a text that is of some kind is found character by character.
use Rattle.std.proofs.Common.{◌≡◌, ◌≤◌, ◌⊎◌, inl, inr, ℕ, ◌+◌, List, [], ◌∷◌, ◌++◌, length, take, encode_utf8_all, refl, sym, ap, subst, ◌∙◌, arith, IsUtf8, append-nil, append_assoc, length-append, Bool, true, ◌&&◌}
use Rattle.std.proofs.lemmas.Bool.{and_parts}
use Rattle.std.specs.Char.{len_utf8}
use Rattle.std.specs.Str.{chars, IsCharBoundary}
use Rattle.std.specs.String.Boundary.{IsSplitPoint}
use Rattle.std.proofs.lemmas.List.{take_at}
use Rattle.std.proofs.lemmas.Str.{IsCharBoundary-at_seam, chars-encodes, encodes-append, length-encode, encodes-chars, scalars-chars}
use lib.Utf8.{encode, encodes, scalar, scalars}
use Rattle.gabc_patterns.specs.LongestPrefix.{IsLongestPrefix}
use Rattle.gabc_patterns.proofs.PartsOfNothing.{append_none}
use Rattle.gabc_patterns.proofs.LongestPrefixIsOne.{compare}

-- a text that begins another one ends before a character of it, or goes on after that
pub begins_or_goes_on : (t rest y : List ℕ) (c : ℕ) (m : List ℕ) → t ++ rest ≡ y ++ c ∷ m → ((q : List ℕ) × (y ≡ t ++ q)) ⊎ ((u : List ℕ) × (t ≡ y ++ c ∷ u) × (u ++ rest ≡ m))
begins_or_goes_on t rest y c m e = by (compare t y rest (c ∷ m) e)
  where
    by : ((q : List ℕ) × (y ≡ t ++ q) × (rest ≡ q ++ c ∷ m)) ⊎ ((q : List ℕ) × (t ≡ y ++ q) × (c ∷ m ≡ q ++ rest)) → ((q : List ℕ) × (y ≡ t ++ q)) ⊎ ((u : List ℕ) × (t ≡ y ++ c ∷ u) × (u ++ rest ≡ m))
    by (inl (q, f, g)) = inl (q, f)
    by (inr ([], f, g)) = inl ([], sym (append-nil t ∙ (f ∙ append-nil y)))
    by (inr (d ∷ u, f, g)) = (let h : c ≡ d = cc g in let k : u ++ rest ≡ m = cc g in inr (u, f ∙ ap (λ (x : ℕ). y ++ x ∷ u) (sym h), k))

bytes_append : (a b : List ℕ) → length (encode_utf8_all (a ++ b)) ≡ length (encode_utf8_all a) + length (encode_utf8_all b)
bytes_append a b = ap (λ (l : List ℕ). length l) (encodes-append a b) ∙ length-append (encodes a) (encodes b)

pub bytes_more : (y : List ℕ) (c : ℕ) → length (encode_utf8_all (y ++ c ∷ [])) ≡ length (encode_utf8_all y) + len_utf8 c
bytes_more y c = bytes_append y (c ∷ []) ∙ ap (λ (n : ℕ). length (encodes y) + n) (ap (λ (l : List ℕ). length l) (append-nil (encode c)) ∙ length-encode c)

pub scalars_parts : (a b : List ℕ) → scalars (a ++ b) ≡ true → (scalars a ≡ true) × (scalars b ≡ true)
scalars_parts [] b e = (refl, e)
scalars_parts (c ∷ a) b e = (let h = and_parts (scalar c) (scalars (a ++ b)) e in let g = scalars_parts a b h.1 in (ap (λ (s : Bool). s && scalars a) h.0 ∙ g.0, g.1))

module _ (P : List ℕ → Type 0) where
  -- Of what was read so far that many bytes are the longest prefix.
  pub record IsLongestSoFar (read : List ℕ) (n : ℕ) : Type 0 where
    pub prefix : List ℕ
    pub rest : List ℕ
    pub cut : read ≡ prefix ++ rest
    pub is : P prefix
    pub bytes : n ≡ length (encode_utf8_all prefix)
    pub longest : (t q : List ℕ) → read ≡ t ++ q → P t → length (encode_utf8_all t) ≤ n

  pub longest_first : P [] → IsLongestSoFar [] 0
  longest_first p = grind (arith, append_none)

  longest_at : (y : List ℕ) (c : ℕ) (n : ℕ) → IsLongestSoFar y n → (k : ℕ) → n ≤ k → (P (y ++ c ∷ []) → length (encode_utf8_all (y ++ c ∷ [])) ≤ k)
      → (t q : List ℕ) → y ++ c ∷ [] ≡ t ++ q → P t → length (encode_utf8_all t) ≤ k
  longest_at y c n h k more whole t q e p = grind (arith, begins_or_goes_on, append_none)

  -- with a character more the whole is one
  pub longest_whole : (y : List ℕ) (c : ℕ) (n : ℕ) → IsLongestSoFar y n → P (y ++ c ∷ []) → IsLongestSoFar (y ++ c ∷ []) (length (encode_utf8_all (y ++ c ∷ [])))
  longest_whole y c n h p = grind (arith, append-nil, longest_at, bytes_append)

  -- or is none
  pub longest_same : (y : List ℕ) (c : ℕ) (n : ℕ) → IsLongestSoFar y n → (P (y ++ c ∷ []) → ⊥) → IsLongestSoFar (y ++ c ∷ []) n
  longest_same y c n h none = record {
    prefix = h.prefix;
    rest = h.rest ++ c ∷ [];
    cut = ap (λ (l : List ℕ). l ++ c ∷ []) h.cut ∙ append_assoc h.prefix h.rest (c ∷ []);
    is = h.is;
    bytes = h.bytes;
    longest = longest_at y c n h n (omega arith) (λ p. absurd (none p));
  }

  -- Where the text is read to its end, or what follows is in no such prefix, that is the longest.
  pub longest_of : (text y m : List ℕ) (n : ℕ) → IsUtf8 text → y ++ m ≡ chars text → IsLongestSoFar y n → ((c : ℕ) (u : List ℕ) (v : List ℕ) → m ≡ c ∷ v → P (y ++ c ∷ u) → ⊥) → IsLongestPrefix P text n
  longest_of text y m n utf8 e h none = record {
    within = subst (IsSplitPoint text) (sym h.bytes) (seam.0, λ z w. seam.1 w);
    is = subst P (sym (ap chars (ap (λ (k : ℕ). take k text) h.bytes ∙ (ap (take (length (encodes h.prefix))) spelled ∙ take_at (encodes h.prefix) (encodes (h.rest ++ m)) (length (encodes h.prefix)) refl)) ∙ chars-encodes h.prefix parts.0)) h.is;
    longest = λ t rest f p. by m none e t rest f p;
  }
    where
      all : chars text ≡ h.prefix ++ (h.rest ++ m)
      all = sym e ∙ (ap (λ (l : List ℕ). l ++ m) h.cut ∙ append_assoc h.prefix h.rest m)

      spelled : text ≡ encodes h.prefix ++ encodes (h.rest ++ m)
      spelled = sym (encodes-chars text utf8) ∙ (ap encodes all ∙ encodes-append h.prefix (h.rest ++ m))

      parts : (scalars h.prefix ≡ true) × (scalars (h.rest ++ m) ≡ true)
      parts = scalars_parts h.prefix (h.rest ++ m) (ap scalars (sym all) ∙ scalars-chars text utf8)

      seam : IsCharBoundary text (length (encodes h.prefix))
      seam = IsCharBoundary-at_seam text (encodes h.prefix) (encodes (h.rest ++ m)) spelled (h.rest ++ m, (parts.1, refl))

      by : (m : List ℕ) → ((c : ℕ) (u : List ℕ) (v : List ℕ) → m ≡ c ∷ v → P (y ++ c ∷ u) → ⊥) → y ++ m ≡ chars text → (t rest : List ℕ) → chars text ≡ t ++ rest → P t → length (encode_utf8_all t) ≤ n
      by [] none e t rest f p = h.longest t rest (sym (append-nil y) ∙ (e ∙ f)) p
      by (c ∷ v) none e t rest f p = to (begins_or_goes_on t rest y c v (sym f ∙ sym e))
        where
          to : ((q : List ℕ) × (y ≡ t ++ q)) ⊎ ((u : List ℕ) × (t ≡ y ++ c ∷ u) × (u ++ rest ≡ v)) → length (encode_utf8_all t) ≤ n
          to (inl (q, g)) = h.longest t q g p
          to (inr (u, g, k)) = absurd (none c u v refl (subst P g p))
