-- Lists of spans in order that hold the same spans are one.
use Rattle.std.proofs.Common.{◌≡◌, suc, List, [], ◌∷◌, Bool, refl, sym, ap, ◌∙◌, subst, ◌<◌, arith, ◌⊎◌, inl, inr}
use Rattle.std.specs.List.{Contains, AllPairs}
use Rattle.std.proofs.lemmas.List.Elements.{Contains-append_right}
use Rattle.gabc_places.specs.declared.place.Span.{Span}
use Rattle.gabc_neumes.specs.Runs.{AreRuns}

-- each ends before the next begins
abbrev pub Apart : List Span → Type 0
Apart spans = AllPairs (λ s t. s.to < t.from) spans

-- each holds at least one index
abbrev pub AreSome : List Span → Type 0
AreSome spans = (s : Span) → Contains spans s → s.from < s.to

head : (s : Span) (ss : List Span) → Contains (s ∷ ss) s
head s ss = (0, omega arith, refl)

tail : (s : Span) (ss : List Span) (t : Span) → Contains ss t → Contains (s ∷ ss) t
tail s ss t c = Contains-append_right (s ∷ []) ss t c

cases : (s : Span) (ss : List Span) (t : Span) → Contains (s ∷ ss) t → (s ≡ t) ⊎ Contains ss t
cases s ss t h = grind arith

apart_head : (s : Span) (ss : List Span) → Apart (s ∷ ss) → (t : Span) → Contains ss t → s.to < t.from
apart_head s ss a t (k, l, e) = subst (λ (x : Span). s.to < x.from) e (a 0 (suc k) t (omega arith) (omega arith))

apart_tail : (s : Span) (ss : List Span) → Apart (s ∷ ss) → Apart ss
apart_tail s ss a = λ i j d l m. a (suc i) (suc j) d (omega arith) (omega arith)

same_head : (s : Span) (ss : List Span) (t : Span) (ts : List Span) → Apart (s ∷ ss) → Apart (t ∷ ts) → s.from < s.to → t.from < t.to
    → Contains (t ∷ ts) s → Contains (s ∷ ss) t → s ≡ t
same_head s ss t ts a b p q c d = elim (cases t ts s c) [
  | inl e ↦ sym e
  | inr e ↦ elim (cases s ss t d) [
    | inl f ↦ f
    | inr f ↦ absurd (let x = apart_head t ts b s e in let y = apart_head s ss a t f in omega arith)
  ]
]

later : (s : Span) (ss : List Span) (t : Span) (ts : List Span) → Apart (s ∷ ss) → s.from < s.to → s ≡ t
    → ((x : Span) → Contains (s ∷ ss) x → Contains (t ∷ ts) x) → (x : Span) → Contains ss x → Contains ts x
later s ss t ts a p e f x c = elim (cases t ts x (f x (tail s ss x c))) [
  | inr d ↦ d
  | inl d ↦ absurd (let y = apart_head s ss a x c in let same : s.from ≡ x.from = ap (λ (z : Span). z.from) (e ∙ d) in omega arith)
]

pub spans_are_one : (ss ts : List Span) → Apart ss → Apart ts → AreSome ss → AreSome ts
    → ((x : Span) → Contains ss x → Contains ts x) → ((x : Span) → Contains ts x → Contains ss x) → ss ≡ ts
spans_are_one [] [] a b p q f g = refl
spans_are_one [] (t ∷ ts) a b p q f g = absurd (let l = (g t (head t ts)).1 in omega arith)
spans_are_one (s ∷ ss) [] a b p q f g = absurd (let l = (f s (head s ss)).1 in omega arith)
spans_are_one (s ∷ ss) (t ∷ ts) a b p q f g =
    let e : s ≡ t = same_head s ss t ts a b (p s (head s ss)) (q t (head t ts)) (f s (head s ss)) (g t (head t ts)) in
    ap (λ (x : Span). x ∷ ss) e ∙ ap (λ (x : List Span). t ∷ x)
    (spans_are_one ss ts (apart_tail s ss a) (apart_tail t ts b) (λ x c. p x (tail s ss x c)) (λ x c. q x (tail t ts x c))
    (later s ss t ts a (p s (head s ss)) e f) (later t ts s ss b (q t (head t ts)) (sym e) g))

-- the runs of a list are one
pub runs_are_one : {X : Type 0} (p : X → Bool) (xs : List X) (ss ts : List Span) → AreRuns p xs ss → AreRuns p xs ts → ss ≡ ts
runs_are_one p xs ss ts h i =
    spans_are_one ss ts h.order i.order (λ s c. ((h.each s).0 c).some) (λ s c. ((i.each s).0 c).some)
    (λ s c. (i.each s).1 ((h.each s).0 c)) (λ s c. (h.each s).1 ((i.each s).0 c))
