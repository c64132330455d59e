-- Lines are cut into groups in one way, and the groups report the parts.
use Rattle.std.proofs.Common.{◌≡◌, ℕ, List, [], ◌∷◌, ◌++◌, Bool, true, false, cond, Option, Some, None, refl, sym, ap, ◌∙◌, append_assoc, append-nil, arith}
use Rattle.gabc_headers.specs.Lines.{is_bare, has_mark, has_colon, after_colon}
use Rattle.gabc_headers.specs.Groups.{Group, skipped, colonless, valued, unfinished, EndAtMark, HaveNoMark, BeginsHeader, EndsValue, AreGroups}

-- the groups of these lines, in a value (its header's line and the lines below so far) or outside of one
pub cut : Option (List ℕ × List (List ℕ)) → List (List ℕ) → List Group
cut None [] = []
cut (Some o) [] = unfinished o.0 o.1 ∷ []
cut None (l ∷ ls) = cond (is_bare l) (skipped l ∷ cut None ls)
    (cond (has_colon l) (cond (has_mark 1 (after_colon l)) (valued l [] ∷ cut None ls) (cut (Some (l, [])) ls)) (colonless l ∷ cut None ls))
cut (Some o) (m ∷ ms) = cond (has_mark 2 m) (valued o.0 (o.1 ++ m ∷ []) ∷ cut None ms) (cut (Some (o.0, o.1 ++ m ∷ [])) ms)

no_mark-push : (b : List (List ℕ)) (m : List ℕ) → HaveNoMark b → has_mark 2 m ≡ false → HaveNoMark (b ++ m ∷ [])
no_mark-push [] m h e = (e, tt)
no_mark-push (l ∷ b) m h e = (h.0, no_mark-push b m h.1 e)

end_at-push : (b : List (List ℕ)) (m : List ℕ) → HaveNoMark b → has_mark 2 m ≡ true → EndAtMark (b ++ m ∷ [])
end_at-push [] m h e = e
end_at-push (l ∷ []) m h e = (h.0, e)
end_at-push (l ∷ k ∷ b) m h e = (h.0, end_at-push (k ∷ b) m h.1 e)

pub ends_value : (l : List ℕ) (b : List (List ℕ)) → has_mark 1 (after_colon l) ≡ false → EndAtMark b → EndsValue l b
ends_value l b e h = grind arith

-- a header's first line whose value goes on
pub record Opens (l : List ℕ) : Type 0 where
  pub begins : BeginsHeader l
  pub onward : has_mark 1 (after_colon l) ≡ false

-- these lines are cut so, outside of a value and in one
abbrev Cuts : List (List ℕ) → Type 0
Cuts ls = AreGroups ls (cut None ls) × ((l : List ℕ) (b : List (List ℕ)) → Opens l → HaveNoMark b → AreGroups (l ∷ (b ++ ls)) (cut (Some (l, b)) ls))

module _ (m : List ℕ) (ms : List (List ℕ)) (ih : Cuts ms) where
  by_value : (b : Bool) → has_mark 1 (after_colon m) ≡ b → BeginsHeader m → AreGroups (m ∷ ms) (cond b (valued m [] ∷ cut None ms) (cut (Some (m, [])) ms))
  by_value b e g = grind arith

  by_colon : (b : Bool) → has_colon m ≡ b → is_bare m ≡ false → AreGroups (m ∷ ms) (cond b (cond (has_mark 1 (after_colon m)) (valued m [] ∷ cut None ms) (cut (Some (m, [])) ms)) (colonless m ∷ cut None ms))
  by_colon b e s = grind (arith, by_value)

  by_bare : (b : Bool) → is_bare m ≡ b → AreGroups (m ∷ ms) (cond b (skipped m ∷ cut None ms)
      (cond (has_colon m) (cond (has_mark 1 (after_colon m)) (valued m [] ∷ cut None ms) (cut (Some (m, [])) ms)) (colonless m ∷ cut None ms)))
  by_bare b e = grind (arith, by_colon)

  by_mark : (l : List ℕ) (b : List (List ℕ)) → Opens l → HaveNoMark b → (t : Bool) → has_mark 2 m ≡ t
      → AreGroups (l ∷ (b ++ m ∷ ms)) (cond t (valued l (b ++ m ∷ []) ∷ cut None ms) (cut (Some (l, b ++ m ∷ [])) ms))
  by_mark l b o h t e = grind (arith, ends_value, end_at-push, append_assoc, no_mark-push)

  cut_more : Cuts (m ∷ ms)
  unfolding cut
  cut_more = (by_bare (is_bare m) refl, λ l b o h. by_mark l b o h (has_mark 2 m) refl)

pub cut_is_cut : (ls : List (List ℕ)) → Cuts ls
unfolding cut
cut_is_cut [] = (refl, λ l b o h. ((o.begins, o.onward, h), ap (λ (x : List (List ℕ)). l ∷ x) (append-nil b), refl))
cut_is_cut (m ∷ ms) = cut_more m ms (cut_is_cut ms)

pub some_groups : (ls : List (List ℕ)) → (gs : List Group) × AreGroups ls gs
some_groups ls = (cut None ls, (cut_is_cut ls).0)

-- ---- two cuttings are one

-- a value that ends is cut at its mark
value_cut : (l : List ℕ) (acc b rest : List (List ℕ)) → EndAtMark b → cut (Some (l, acc)) (b ++ rest) ≡ valued l (acc ++ b) ∷ cut None rest
unfolding cut
value_cut l acc [] rest h = absurd h
value_cut l acc (m ∷ []) rest h = ap (λ (x : Bool). cond x (valued l (acc ++ m ∷ []) ∷ cut None rest) (cut (Some (l, acc ++ m ∷ [])) rest)) h
value_cut l acc (m ∷ n ∷ b) rest h = grind (arith, value_cut l (acc ++ m ∷ []) (n ∷ b) rest h.1, append_assoc)

-- a value that does not end takes all
open_cut : (l : List ℕ) (acc b : List (List ℕ)) → HaveNoMark b → cut (Some (l, acc)) b ≡ unfinished l (acc ++ b) ∷ []
unfolding cut
open_cut l acc [] h = ap (λ (x : List (List ℕ)). unfinished l x ∷ []) (sym (append-nil acc))
open_cut l acc (m ∷ b) h = grind (arith, open_cut l (acc ++ m ∷ []) b h.1, append_assoc)

-- the cutting of lines that begin with a header
header_cut : (l : List ℕ) (ls : List (List ℕ)) → BeginsHeader l → cut None (l ∷ ls) ≡ cond (has_mark 1 (after_colon l)) (valued l [] ∷ cut None ls) (cut (Some (l, [])) ls)
unfolding cut
header_cut l ls g = rw (g.seen, g.colon) refl

valued_cut : (l : List ℕ) (b rest : List (List ℕ)) → BeginsHeader l → EndsValue l b → cut None (l ∷ (b ++ rest)) ≡ valued l b ∷ cut None rest
valued_cut l b rest g e = grind (arith, header_cut, value_cut)

unfinished_cut : (l : List ℕ) (b : List (List ℕ)) → BeginsHeader l → has_mark 1 (after_colon l) ≡ false → HaveNoMark b → cut None (l ∷ b) ≡ unfinished l b ∷ []
unfinished_cut l b g e h = header_cut l b g ∙ (ap (λ (x : Bool). cond x (valued l [] ∷ cut None b) (cut (Some (l, [])) b)) e ∙ open_cut l [] b h)

skipped_cut : (l : List ℕ) (rest : List (List ℕ)) → is_bare l ≡ true → cut None (l ∷ rest) ≡ skipped l ∷ cut None rest
unfolding cut
skipped_cut l rest e = rw e refl

colonless_cut : (l : List ℕ) (rest : List (List ℕ)) → is_bare l ≡ false → has_colon l ≡ false → cut None (l ∷ rest) ≡ colonless l ∷ cut None rest
unfolding cut
colonless_cut l rest e c = rw (e, c) refl

-- every cutting is that one
pub groups_are_cut : (gs : List Group) (ls : List (List ℕ)) → AreGroups ls gs → gs ≡ cut None ls
unfolding cut
groups_are_cut [] ls h = ap (cut None) (sym h)
groups_are_cut (unfinished l b ∷ gs) ls h = ap (λ (x : List Group). unfinished l b ∷ x) h.2 ∙ (sym (unfinished_cut l b h.0.0 h.0.1 h.0.2) ∙ ap (cut None) (sym h.1))
groups_are_cut (skipped l ∷ gs) ls h = ap (λ (x : List Group). skipped l ∷ x) (groups_are_cut gs h.1.0 h.1.2) ∙ (sym (skipped_cut l h.1.0 h.0) ∙ ap (cut None) (sym h.1.1))
groups_are_cut (colonless l ∷ gs) ls h = ap (λ (x : List Group). colonless l ∷ x) (groups_are_cut gs h.1.0 h.1.2) ∙ (sym (colonless_cut l h.1.0 h.0.0 h.0.1) ∙ ap (cut None) (sym h.1.1))
groups_are_cut (valued l b ∷ gs) ls h = ap (λ (x : List Group). valued l b ∷ x) (groups_are_cut gs h.1.0 h.1.2) ∙ (sym (valued_cut l b h.1.0 h.0.0 h.0.1) ∙ ap (cut None) (sym h.1.1))

pub one_cutting : (ls : List (List ℕ)) (gs hs : List Group) → AreGroups ls gs → AreGroups ls hs → gs ≡ hs
one_cutting ls gs hs g h = groups_are_cut gs ls g ∙ sym (groups_are_cut hs ls h)
