-- How the items of a text change with a character after it: they stay, or one item reaches to the
-- end, in place of those from some place on.
use Rattle.std.proofs.Common.{◌≡◌, ◌⊎◌, inl, inr, ℕ, List, [], ◌∷◌, ◌++◌, false, refl, sym, ap, ◌∙◌, subst, append_assoc, append-nil, Option, Some, None}
use Rattle.gabc_patterns.specs.LongestItems.{Table, Longest, IsItemOf, IsItem}
use Rattle.gabc_patterns.specs.ItemsRead.{NoneBegins, ReadsTo}
use Rattle.gabc_patterns.specs.Derivative.{rows_end}
use Rattle.gabc_patterns.proofs.OneReading.{no_empty}
use Rattle.gabc_patterns.specs.Reads.{kind_of}
use Rattle.gabc_patterns.proofs.Spelled.{kind_is, none_is}

-- a text is empty or has a last character
abbrev pub EndsWith : {X : Type 0} → List X → Type 0
EndsWith {X} t = (t ≡ []) ⊎ ((u : List X) × (c : X) × (t ≡ u ++ c ∷ []))

pub ending : {X : Type 0} (t : List X) → EndsWith t
ending [] = inl refl
ending (c ∷ t) = elim (ending t) [
  | inl e ↦ inr ([], c, ap (λ l. c ∷ l) e)
  | inr h ↦ inr (c ∷ h.0, h.1, ap (λ l. c ∷ l) h.2)
]

-- the ends of two equal texts
pub last_off : {X : Type 0} (t u : List X) (c d : X) → t ++ c ∷ [] ≡ u ++ d ∷ [] → (t ≡ u) × (c ≡ d)
last_off [] [] c d e = (refl, (cc))
last_off [] (y ∷ []) c d e = absurd (cc)
last_off [] (y ∷ z ∷ u) c d e = absurd (cc)
last_off (x ∷ []) [] c d e = absurd (cc)
last_off (x ∷ y ∷ t) [] c d e = absurd (cc)
last_off (x ∷ t) (y ∷ u) c d e =
    let r = last_off t u c d (let f : t ++ c ∷ [] ≡ u ++ d ∷ [] = cc in f) in
    let g : x ≡ y = cc in
    (cc (r.0, g), r.1)

module _ {K : Type 0} (table : Table K) (none_empty : rows_end table ≡ false) where
  -- of the items of t those in front stay, and one reaches from there to the end in place of the others
  pub record Reaches (t : List ℕ) (c : ℕ) (is : List (K × List ℕ)) (r : List ℕ) : Type 0 where
    pub front : List (K × List ℕ)
    pub back : List (K × List ℕ)
    pub same : is ≡ front ++ back
    pub from : List ℕ
    pub kind : K
    pub item : IsItemOf table kind (from ++ c ∷ [])
    pub gone : ReadsTo table back from r
    pub reads : ReadsTo table (front ++ (kind, from ++ c ∷ []) ∷ []) (t ++ c ∷ []) []

  none_of_nothing : NoneBegins table []
  none_of_nothing [] rest e i = no_empty table none_empty i.0 i.1
  none_of_nothing (x ∷ front) rest e i = absurd (cc)

  whole_item : (k : K) (u : List ℕ) → IsItemOf table k u → ReadsTo table ((k, u) ∷ []) u []
  whole_item k u i = ([], sym (append-nil u), i, record { has = (k, i); longest = λ more after e h. first more after e }, (refl, none_of_nothing))
    where
      first : (more after : List ℕ) → [] ≡ more ++ after → more ≡ []
      first [] after e = refl
      first (x ∷ more) after e = absurd (cc)

  abbrev OneMore : List (K × List ℕ) → List ℕ → List ℕ → ℕ → Type 0
  OneMore is t r c = (ReadsTo table is (t ++ c ∷ []) (r ++ c ∷ []) × (¬ IsItem table (t ++ c ∷ []))) ⊎ Reaches t c is r

  none_begins : (t : List ℕ) (c : ℕ) → NoneBegins table t → ¬ IsItem table (t ++ c ∷ []) → NoneBegins table (t ++ c ∷ [])
  none_begins t c n nay front rest e i = elim (ending rest) [
    | inl f ↦ nay (subst (IsItem table) (sym (e ∙ (ap (λ (l : List ℕ). front ++ l) f ∙ append-nil front))) i)
    | inr f ↦ n front f.0 (last_off t (front ++ f.0) c f.1 (e ∙ (ap (λ (l : List ℕ). front ++ l) f.2 ∙ sym (append_assoc front f.0 (f.1 ∷ []))))).0 i
  ]

  stays_longest : (t : List ℕ) (c : ℕ) (u more : List ℕ) → t ≡ u ++ more → Longest (IsItem table) u more → ¬ IsItem table (t ++ c ∷ []) → Longest (IsItem table) u (more ++ c ∷ [])
  stays_longest t c u more e l nay = record { has = l.has; longest = longest }
    where
      longest : (m after : List ℕ) → more ++ c ∷ [] ≡ m ++ after → IsItem table (u ++ m) → m ≡ []
      longest m after f i = elim (ending after) [
        | inl g ↦ absurd (nay (subst (IsItem table) (ap (λ (l : List ℕ). u ++ l) (sym (f ∙ (ap (λ (l : List ℕ). m ++ l) g ∙ append-nil m))) ∙ (sym (append_assoc u more (c ∷ [])) ∙ ap (λ (l : List ℕ). l ++ c ∷ []) (sym e))) i))
        | inr g ↦ l.longest m g.0 (last_off more (m ++ g.0) c g.1 (f ∙ (ap (λ (l : List ℕ). m ++ l) g.2 ∙ sym (append_assoc m g.0 (g.1 ∷ []))))).0 i
      ]

  longer : (t r : List ℕ) (c : ℕ) (i : K × List ℕ) (ks : List (K × List ℕ)) (u : List ℕ) → t ≡ i.1 ++ u → IsItemOf table i.0 i.1 → Longest (IsItem table) i.1 (u ++ c ∷ [])
      → Reaches u c ks r → Reaches t c (i ∷ ks) r
  longer t r c i ks u e has l g = record {
    front = i ∷ g.front;
    back = g.back;
    same = ap (λ (l : List (K × List ℕ)). i ∷ l) g.same;
    from = g.from;
    kind = g.kind;
    item = g.item;
    gone = g.gone;
    reads = (u ++ c ∷ [], ap (λ (l : List ℕ). l ++ c ∷ []) e ∙ append_assoc i.1 u (c ∷ []), has, l, g.reads);
  }

  reaches_whole : (is : List (K × List ℕ)) (t r : List ℕ) (c : ℕ) (k : K) → ReadsTo table is t r → kind_of table (t ++ c ∷ []) ≡ Some k → Reaches t c is r
  reaches_whole is t r c k h e =
      let i = kind_is table (t ++ c ∷ []) k e in
      record { front = []; back = is; same = refl; from = t; kind = k; item = i; gone = h; reads = whole_item k (t ++ c ∷ []) i }

  -- the items stay and none ends with the character, or one reaches to the end
  pub one_more : (is : List (K × List ℕ)) (t r : List ℕ) (c : ℕ) → ReadsTo table is t r → OneMore is t r c
  one_more [] t r c h = go (kind_of table (t ++ c ∷ [])) refl
    where
      go : (o : Option K) → kind_of table (t ++ c ∷ []) ≡ o → OneMore [] t r c
      go (Some k) e = inr (reaches_whole [] t r c k h e)
      go None e =
          let nay : ¬ IsItem table (t ++ c ∷ []) = λ i. none_is table (t ++ c ∷ []) i.0 e i.1 in
          inl ((ap (λ (l : List ℕ). l ++ c ∷ []) h.0, none_begins t c h.1 nay), nay)
  one_more (i ∷ ks) t r c (u, f, has, l, g) = go (kind_of table (t ++ c ∷ [])) refl (one_more ks u r c g)
    where
      go : (o : Option K) → kind_of table (t ++ c ∷ []) ≡ o → OneMore ks u r c → OneMore (i ∷ ks) t r c
      go (Some k) e F = inr (reaches_whole (i ∷ ks) t r c k (u, f, has, l, g) e)
      go None e F =
          let nay : ¬ IsItem table (t ++ c ∷ []) = λ i. none_is table (t ++ c ∷ []) i.0 e i.1 in
          let stays = stays_longest t c i.1 u f l nay in
          elim F [
            | inl x ↦ inl ((u ++ c ∷ [], ap (λ (l : List ℕ). l ++ c ∷ []) f ∙ append_assoc i.1 u (c ∷ []), has, stays, x.0), nay)
            | inr x ↦ inr (longer t r c i ks u f has stays x)
          ]
