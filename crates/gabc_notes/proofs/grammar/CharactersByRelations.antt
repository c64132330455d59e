-- What is said of a snippet's characters by relations is what is computed of them.
use Rattle.std.proofs.Common.{arith, ◌≡◌, ℕ, List, [], ◌∷◌, ◌++◌, Bool, true, false, cond, not, ◌&&◌, ◌||◌, ◌==◌, inl, inr, refl, sym, ap, ◌∙◌, subst, codes, map, Option, Some, None}
use Rattle.std.proofs.lemmas.Bool.{false_from_ne_true, and_parts}
use Rattle.std.specs.Prelude.{◌↔◌, IsTrue}
use Rattle.std.specs.List.{list_any}
use Rattle.gabc_places.specs.declared.place.Char.{Char}
use Rattle.gabc_places.specs.declared.place.Place.{Place}
use Rattle.gabc_patterns.specs.LongestItems.{IsReading}
use Rattle.gabc_patterns.specs.Kept.{Keeps}
use Rattle.gabc_patterns.specs.Derivative.{is_snippet}
use Rattle.gabc_patterns.specs.Function.{items, keep}
use Rattle.gabc_patterns.proofs.EqualPatterns.{same_texts_equal}
use Rattle.gabc_patterns.proofs.FunctionsMeetRelations.{keep_keeps, keeps_is}
use Rattle.gabc_patterns.proofs.ItemsFunctionReads.{items_are}
use Rattle.gabc_patterns.proofs.LongestMunchByCharacter.{viable_to, viable_from, snippet_from}
use Rattle.gabc_notes.specs.Table.{gabc}
use Rattle.gabc_notes.specs.Raw.{IsOpen}
use Rattle.gabc_notes.specs.Events.{ItemText, in_raw, outside_comments, with_comments, kept, is_comment, is_in_raw, kept_with, is_kept, last_of, last_item, item_at, opens_fusion, closes_fusion, is_fused, opener}
use Rattle.gabc_notes.specs.NotesRead.{Marked, outside, IsKeptOf, IsInRaw, IsInComment, AreMarked, IsKeptWith, EndsItem, IsFused, IsKeptOutside, IsOpener}
use Rattle.gabc_notes.specs.declared.item.ItemKind.TheVariants.{Fusion}
use Rattle.gabc_notes.proofs.grammar.LawsOfEventsByPoint.{comment_decides}
use Rattle.gabc_notes.proofs.grammar.OpenBracketByLastItem.{open_decides}
use Rattle.gabc_notes.proofs.items_of_text.ItemAtCharacter.{last_item_is}
use Rattle.gabc_notes.proofs.machine.OneCharacterMore.{point, fused_more, opener_more}

-- the characters, each marked by what is computed
unfoldable pub marks : List Char → List Marked
marks [] = []
marks (x ∷ back) = (x, is_comment (point back x)) ∷ marks back

abbrev pub chars_of : List Marked → List Char
chars_of ms = map (λ (m : Marked). m.0) ms

pub chars_marks : (back : List Char) → chars_of (marks back) ≡ back
unfolding marks
chars_marks [] = refl
chars_marks (x ∷ back) = ap (λ (u : List Char). x ∷ u) (chars_marks back)

-- ---- the kept text

outside_is : (back : List Char) → outside (marks back) ≡ outside_comments (with_comments back)
unfolding marks
outside_is [] = refl
outside_is (x ∷ back) = ap (λ (u : List ℕ). cond (is_comment (point back x)) u (u ++ x.c ∷ [])) (outside_is back)

pub kept_keeps : (back : List Char) → IsKeptOf (marks back) (kept back)
kept_keeps back = subst (λ (u : List ℕ). Keeps gabc [] u (keep gabc (outside_comments (with_comments back)))) (sym (outside_is back)) (keep_keeps gabc refl [] (outside_comments (with_comments back)))

pub kept_only : (back : List Char) (k : List ℕ) → IsKeptOf (marks back) k → k ≡ kept back
kept_only back k h = keeps_is gabc refl [] (outside (marks back)) k h ∙ ap (keep gabc) (outside_is back)

pub raw_to : (back : List Char) → in_raw (kept back) ≡ true → IsInRaw (marks back)
raw_to back e = (kept back, kept_keeps back, (open_decides (kept back)).0 e)

pub raw_from : (back : List Char) → IsInRaw (marks back) → in_raw (kept back) ≡ true
raw_from back h = (open_decides (kept back)).1 (subst IsOpen (kept_only back h.0 h.1) h.2)

pub no_raw_to : (back : List Char) → in_raw (kept back) ≡ false → ¬ IsInRaw (marks back)
no_raw_to back e h = let f = raw_from back h in absurd (cc)

pub no_raw_from : (back : List Char) → (¬ IsInRaw (marks back)) → in_raw (kept back) ≡ false
no_raw_from back h = false_from_ne_true (in_raw (kept back)) (λ e. h (raw_to back e))

-- ---- comments

front : List Char → List Char → List Marked
front [] before = []
front (x ∷ line) before = (x, is_comment (point (line ++ before) x)) ∷ front line before

marks_append : (line before : List Char) → marks (line ++ before) ≡ front line before ++ marks before
unfolding marks front
marks_append [] before = refl
marks_append (x ∷ line) before = ap (λ (u : List Marked). (x, is_comment (point (line ++ before) x)) ∷ u) (marks_append line before)

front_feed : (line before : List Char) → list_any (λ (m : Marked). m.0.c == 10) (front line before) ≡ list_any (λ (x : Char). x.c == 10) line
unfolding front
front_feed [] before = refl
front_feed (x ∷ line) before = ap (λ (b : Bool). (x.c == 10) || b) (front_feed line before)

chars_feed : (line : List Marked) → list_any (λ (x : Char). x.c == 10) (chars_of line) ≡ list_any (λ (m : Marked). m.0.c == 10) line
chars_feed [] = refl
chars_feed (m ∷ line) = ap (λ (b : Bool). (m.0.c == 10) || b) (chars_feed line)

-- marked characters by their parts
pub marks_cut : (back : List Char) (line before : List Marked) → marks back ≡ line ++ before → (back ≡ chars_of line ++ chars_of before) × (before ≡ marks (chars_of before))
unfolding marks
marks_cut back [] before e = (sym (chars_marks back) ∙ ap chars_of e, sym e ∙ ap marks (sym (chars_marks back) ∙ ap chars_of e))
marks_cut [] (m ∷ line) before e = absurd (cc)
marks_cut (x ∷ back) (m ∷ line) before e =
    let f : marks back ≡ line ++ before = cc in
    let g : (x, is_comment (point back x)) ≡ m = cc in
    let h = marks_cut back line before f in
    (ap (λ (y : Marked). y.0 ∷ back) g ∙ ap (λ (u : List Char). m.0 ∷ u) h.0, h.1)

pub comment_to : (back : List Char) (x : Char) → is_comment (point back x) ≡ true → IsInComment (marks (x ∷ back))
unfolding marks
comment_to back x e =
    let h = (comment_decides back x).0 e in
    record {
      line = front h.line (h.mark ∷ h.before);
      mark = (h.mark, is_comment (point h.before h.mark));
      before = marks h.before;
      cut = ap marks h.cut ∙ marks_append h.line (h.mark ∷ h.before);
      percent = h.percent;
      no_raw = no_raw_to h.before h.outside;
      no_feed = front_feed h.line (h.mark ∷ h.before) ∙ h.no_feed;
    }

-- whatever the last one is marked
pub comment_from : (back : List Char) (x : Char) (b : Bool) → IsInComment ((x, b) ∷ marks back) → is_comment (point back x) ≡ true
unfolding marks
comment_from back x b h = go h.line h.cut h.no_feed
  where
    go : (line : List Marked) → (x, b) ∷ marks back ≡ line ++ h.mark ∷ h.before → list_any (λ (m : Marked). m.0.c == 10) line ≡ false → is_comment (point back x) ≡ true
    go [] cut no_feed =
        let e : (x, b) ≡ h.mark = cc in
        let f : marks back ≡ h.before = cc in
        (comment_decides back x).1 (record {
          line = [];
          mark = x;
          before = back;
          cut = refl;
          percent = ap (λ (m : Marked). m.0.c) e ∙ h.percent;
          outside = no_raw_from back (subst (λ (u : List Marked). ¬ IsInRaw u) (sym f) h.no_raw);
          no_feed = refl;
        })
    go (l ∷ line) cut no_feed =
        let e : (x, b) ≡ l = cc in
        let f : marks back ≡ line ++ h.mark ∷ h.before = cc in
        let i = marks_cut back line (h.mark ∷ h.before) f in
        let same : h.before ≡ marks (chars_of h.before) = cc (i.1) in
        (comment_decides back x).1 (record {
          line = x ∷ chars_of line;
          mark = h.mark.0;
          before = chars_of h.before;
          cut = ap (λ (u : List Char). x ∷ u) i.0;
          percent = h.percent;
          outside = no_raw_from (chars_of h.before) (subst (λ (u : List Marked). ¬ IsInRaw u) same h.no_raw);
          no_feed = ap (λ (y : Char). (y.c == 10) || list_any (λ (z : Char). z.c == 10) (chars_of line)) (ap (λ (m : Marked). m.0) e)
              ∙ (ap (λ (d : Bool). (l.0.c == 10) || d) (chars_feed line) ∙ no_feed);
        })

-- how the last one is marked does not matter
pub remark : (x : Char) (b d : Bool) (back : List Marked) → IsInComment ((x, b) ∷ back) → IsInComment ((x, d) ∷ back)
remark x b d back h = go h.line h.cut h.no_feed
  where
    go : (line : List Marked) → (x, b) ∷ back ≡ line ++ h.mark ∷ h.before → list_any (λ (m : Marked). m.0.c == 10) line ≡ false → IsInComment ((x, d) ∷ back)
    go [] cut no_feed =
        let e : (x, b) ≡ h.mark = cc in
        let f : back ≡ h.before = cc in
        record {
          line = [];
          mark = (x, d);
          before = h.before;
          cut = ap (λ (u : List Marked). (x, d) ∷ u) f;
          percent = ap (λ (m : Marked). m.0.c) e ∙ h.percent;
          no_raw = h.no_raw;
          no_feed = refl;
        }
    go (l ∷ line) cut no_feed =
        let e : (x, b) ≡ l = cc in
        let f : back ≡ line ++ h.mark ∷ h.before = cc in
        record {
          line = (x, d) ∷ line;
          mark = h.mark;
          before = h.before;
          cut = ap (λ (u : List Marked). (x, d) ∷ u) f;
          percent = h.percent;
          no_raw = h.no_raw;
          no_feed = ap (λ (m : Marked). (m.0.c == 10) || list_any (λ (n : Marked). n.0.c == 10) line) e ∙ no_feed;
        }

pub are_marked : (back : List Char) → AreMarked (marks back)
unfolding marks
are_marked [] = tt
are_marked (x ∷ back) = ((comment_to back x, comment_from back x (is_comment (point back x))), are_marked back)

-- a character that is marked so is marked by what is computed
pub mark_only : (back : List Char) (x : Char) (b : Bool) → (IsTrue b ↔ IsInComment ((x, b) ∷ marks back)) → b ≡ is_comment (point back x)
unfolding marks
mark_only back x b h =
    same b (is_comment (point back x)) (λ t. comment_from back x b (h.0 t)) (λ t. h.1 (remark x (is_comment (point back x)) b (marks back) (comment_to back x t)))
  where
    same : (a b : Bool) → (a ≡ true → b ≡ true) → (b ≡ true → a ≡ true) → a ≡ b
    same a b f g = grind arith

-- and so are all of them
pub marked_only : (ms : List Marked) → AreMarked ms → ms ≡ marks (chars_of ms)
unfolding marks
marked_only [] h = refl
marked_only (m ∷ ms) h = grind (arith, mark_only, marked_only ms h.1)

-- ---- what is kept with a character

pub kept_with_to : (back : List Char) (x : Char) → is_kept (point back x) ≡ true → IsKeptWith (marks (x ∷ back)) (kept_with (point back x))
unfolding marks
kept_with_to back x e = grind (arith, and_parts, kept_keeps, viable_from)

pub kept_with_from : (back : List Char) (x : Char) (t : List ℕ) → IsKeptWith (marks (x ∷ back)) t → (is_kept (point back x) ≡ true) × (t ≡ kept_with (point back x))
unfolding marks
kept_with_from back x t h = grind (arith, kept_only, viable_to)

-- ---- items

-- the last of a list stands at its end
last_ends : (is : List ItemText) (i : ItemText) → last_of is ≡ Some i → (before : List ItemText) × (is ≡ before ++ i ∷ [])
last_ends [] i e = absurd (cc)
last_ends (j ∷ []) i e = (let f : j ≡ i = cc in ([], ap (λ (k : ItemText). k ∷ []) f))
last_ends (j ∷ k ∷ is) i e = (let h = last_ends (k ∷ is) i e in (j ∷ h.0, ap (λ (u : List ItemText). j ∷ u) h.1))

pub item_to : (back : List Char) (x : Char) (i : ItemText) → item_at (point back x) ≡ Some i → EndsItem (marks (x ∷ back)) i
item_to back x i e = go (is_kept (point back x)) refl e
  where
    read : is_kept (point back x) ≡ true → (b : Bool) → is_snippet gabc (kept_with (point back x)) ≡ b → cond b (last_of (items gabc (kept_with (point back x)))) None ≡ Some i → EndsItem (marks (x ∷ back)) i
    read k false f g = absurd (cc)
    read k true f g =
        let l = last_ends (items gabc (kept_with (point back x))) i g in (
          kept_with (point back x),
          kept_with_to back x k,
          (l.0, subst (λ (u : List ItemText). IsReading gabc u (kept_with (point back x))) l.1 (items_are gabc refl (kept_with (point back x)) (snippet_from gabc refl (kept_with (point back x)) f))),
        )

    go : (b : Bool) → is_kept (point back x) ≡ b → cond b (last_item (kept_with (point back x))) None ≡ Some i → EndsItem (marks (x ∷ back)) i
    go false f g = absurd (cc)
    go true f g = read f (is_snippet gabc (kept_with (point back x))) refl g

pub item_from : (back : List Char) (x : Char) (i : ItemText) → EndsItem (marks (x ∷ back)) i → item_at (point back x) ≡ Some i
item_from back x i h = grind (arith, kept_with_from, last_item_is)

pub opens_some : (o : Option ItemText) → opens_fusion o ≡ true → o ≡ Some (Fusion, codes "@[")
opens_some (Some (Fusion, t)) e = ap (λ (u : List ℕ). Some (Fusion, u)) (same_texts_equal t (codes "@[") e)
opens_some _ e = absurd (cc)

pub closes_some : (o : Option ItemText) → closes_fusion o ≡ true → o ≡ Some (Fusion, codes "]")
closes_some (Some (Fusion, t)) e = ap (λ (u : List ℕ). Some (Fusion, u)) (same_texts_equal t (codes "]") e)
closes_some _ e = absurd (cc)

pub opens_to : (back : List Char) (x : Char) → opens_fusion (item_at (point back x)) ≡ true → EndsItem (marks (x ∷ back)) (Fusion, codes "@[")
opens_to back x e = item_to back x (Fusion, codes "@[") (opens_some (item_at (point back x)) e)

pub opens_from : (back : List Char) (x : Char) → EndsItem (marks (x ∷ back)) (Fusion, codes "@[") → opens_fusion (item_at (point back x)) ≡ true
opens_from back x h = ap opens_fusion (item_from back x (Fusion, codes "@[") h)

pub closes_to : (back : List Char) (x : Char) → closes_fusion (item_at (point back x)) ≡ true → EndsItem (marks (x ∷ back)) (Fusion, codes "]")
closes_to back x e = item_to back x (Fusion, codes "]") (closes_some (item_at (point back x)) e)

pub closes_from : (back : List Char) (x : Char) → EndsItem (marks (x ∷ back)) (Fusion, codes "]") → closes_fusion (item_at (point back x)) ≡ true
closes_from back x h = ap closes_fusion (item_from back x (Fusion, codes "]") h)

-- an `@[` is open
pub fused_to : (back : List Char) → is_fused back ≡ true → IsFused (marks back)
unfolding marks
fused_to [] e = absurd (cc)
fused_to (x ∷ back) e = go (opens_fusion (item_at (point back x))) refl (closes_fusion (item_at (point back x))) refl (sym (fused_more back x) ∙ e) (λ h. fused_to back h)
  where
    go : (a : Bool) → opens_fusion (item_at (point back x)) ≡ a → (l : Bool) → closes_fusion (item_at (point back x)) ≡ l → cond a true (cond l false (is_fused back)) ≡ true
        → (is_fused back ≡ true → IsFused (marks back)) → IsFused (marks (x ∷ back))
    go a f l g h F = grind (arith, opens_to, closes_from)

pub fused_from : (back : List Char) → IsFused (marks back) → is_fused back ≡ true
unfolding marks
fused_from [] h = absurd h
fused_from (x ∷ back) (inl o) = fused_more back x ∙ ap (λ (a : Bool). cond a true (cond (closes_fusion (item_at (point back x))) false (is_fused back))) (opens_from back x o)
fused_from (x ∷ back) (inr (n, h)) = fused_more back x ∙ go (opens_fusion (item_at (point back x))) (closes_fusion (item_at (point back x))) refl (fused_from back h)
  where
    go : (a l : Bool) → closes_fusion (item_at (point back x)) ≡ l → is_fused back ≡ true → cond a true (cond l false (is_fused back)) ≡ true
    go a l e f = grind (arith, closes_to)

-- ---- the bracket that is open

outside_to : (back : List Char) (x : Char) → (is_kept (point back x) && not (is_in_raw (point back x))) ≡ true → IsKeptOutside (marks (x ∷ back))
unfolding marks
outside_to back x e = grind (arith, and_parts, kept_with_to, no_raw_to)

outside_from : (back : List Char) (x : Char) → IsKeptOutside (marks (x ∷ back)) → (is_kept (point back x) && not (is_in_raw (point back x))) ≡ true
unfolding marks
outside_from back x h =
    ap (λ (b : Bool). b && not (is_in_raw (point back x))) (kept_with_from back x h.0.0 h.0.1).0
    ∙ ap not (no_raw_from back h.1)

pub opener_is : (back : List Char) → IsOpener (marks back) (opener back)
unfolding marks
opener_is [] = refl
opener_is (x ∷ back) = go (is_kept (point back x) && not (is_in_raw (point back x))) refl (opener_is back)
  where
    go : (b : Bool) → (is_kept (point back x) && not (is_in_raw (point back x))) ≡ b → IsOpener (marks back) (opener back) → IsOpener (marks (x ∷ back)) (opener (x ∷ back))
    go true e i = inl (outside_to back x e, opener_more back x ∙ ap (λ (b : Bool). cond b x.place (opener back)) e)
    go false e i =
        inr ((λ h. let f = outside_from back x h in absurd (cc)), subst (IsOpener (marks back)) (sym (opener_more back x ∙ ap (λ (b : Bool). cond b x.place (opener back)) e)) i)

pub opener_only : (back : List Char) (p : Place) → IsOpener (marks back) p → p ≡ opener back
unfolding marks
opener_only [] p h = h
opener_only (x ∷ back) p (inl h) = h.1 ∙ sym (opener_more back x ∙ ap (λ (b : Bool). cond b x.place (opener back)) (outside_from back x h.0))
opener_only (x ∷ back) p (inr h) =
    opener_only back p h.1
    ∙ sym (opener_more back x ∙ ap (λ (b : Bool). cond b x.place (opener back)) (false_from_ne_true (is_kept (point back x) && not (is_in_raw (point back x))) (λ e. h.0 (outside_to back x e))))
