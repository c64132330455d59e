-- What each header has that lines make known: a trimmed name, and a trimmed value in which no mark of two or more `;` begins.
use Rattle.std.proofs.Common.{◌≡◌, ℕ, ◌+◌, List, [], ◌∷◌, ◌++◌, Bool, true, false, cond, length, refl, sym, ap, subst, ◌∙◌, append-nil, Option, Some, None, arith}
use Rattle.std.proofs.lemmas.Bool.{eqb-true}
use Rattle.gabc_headers.specs.Lines.{lines, lines_len, head_of, is_blank, is_bare, has_colon, before_colon, after_colon, before_mark, is_blank_or_lf, ends_no_value, trim_start, trim_end, trim_name, trim_value, is_score_line}
use Rattle.gabc_headers.specs.Parts.{HeaderPart, left_out, header, unended, is_good_name, good_name, name_of, bad_name_parts, ended_parts}
use Rattle.gabc_headers.specs.Groups.{Group, skipped, colonless, valued, unfinished, EndAtMark, BeginsHeader, EndsValue, AreGroups, value_below, value_text, mark_point, parts_of_groups}
use Rattle.gabc_headers.proofs.machines.PartsAfterState.{lines_split}
use Rattle.gabc_headers.proofs.printing.LinesOfTexts.{has}
use Rattle.gabc_headers.proofs.printing.TrimmedTexts.{StartsWell, EndsWell, start_kept, end_kept, starts_well, ends_well, end_of_suffix, start_suffix, end_prefix, has_front, has_back, has_no_start, has_no_end, not_bare}
use Rattle.gabc_headers.proofs.printing.MarksInTexts.{Free, free_back, free_front, free_append, free_alone, free_line, free_before, mark_of_one, no_mark_of_one, NoScore, score_front, no_score_front, no_score_back, no_score_line}

pub record IsName (name : List ℕ) : Type 0 where
  pub one_line : has 10 name ≡ false
  pub no_colon : has 58 name ≡ false
  pub good : is_good_name name ≡ true
  pub trimmed : trim_name name ≡ name
  pub begins : (x : List ℕ) → is_bare (name ++ x) ≡ false

pub record IsValue (v : List ℕ) : Type 0 where
  pub starts : StartsWell is_blank_or_lf v
  pub ends : EndsWell ends_no_value v
  pub free : Free v []
  pub no_score : NoScore v

-- ---- the lines of the headers

-- lines without LF that do not begin with `%%`
abbrev pub AreHeadLines : List (List ℕ) → Type 0
AreHeadLines [] = Unit {0}
AreHeadLines (l ∷ ls) = ((has 10 l ≡ false) × (is_score_line l ≡ false)) × AreHeadLines ls

abbrev AreLines : List (List ℕ) → Type 0
AreLines [] = Unit {0}
AreLines (l ∷ ls) = (has 10 l ≡ false) × AreLines ls

lines_are : (t : List ℕ) → AreLines (lines t)
lines_are [] = (refl, tt)
lines_are (c ∷ t) = grind (arith, lines_are t, lines_split)

head_are : (ls : List (List ℕ)) → AreLines ls → AreHeadLines (head_of ls)
head_are [] h = tt
head_are (l ∷ ls) h = grind (arith, head_are ls h.1)

pub head_lines : (t : List ℕ) → AreHeadLines (head_of (lines t))
head_lines t = head_are (lines t) (lines_are t)

heads_back : (ls ms : List (List ℕ)) → AreHeadLines (ls ++ ms) → AreHeadLines ms
heads_back [] ms h = h
heads_back (l ∷ ls) ms h = heads_back ls ms h.1

heads_front : (ls ms : List (List ℕ)) → AreHeadLines (ls ++ ms) → AreHeadLines ls
heads_front [] ms h = tt
heads_front (l ∷ ls) ms h = (h.0, heads_front ls ms h.1)

-- ---- a name

colon_parts : (l : List ℕ) → has_colon l ≡ true → l ≡ before_colon l ++ 58 ∷ after_colon l
colon_parts [] h = absurd (cc)
colon_parts (c ∷ l) h = grind (arith, colon_parts l, eqb-true)

no_colon_before : (l : List ℕ) → has 58 (before_colon l) ≡ false
no_colon_before [] = refl
no_colon_before (c ∷ l) = grind (arith, no_colon_before l)

name_is : (l : List ℕ) → BeginsHeader l → has 10 l ≡ false → (m : List ℕ) → trim_name (before_colon l) ≡ m → is_good_name m ≡ true → IsName m
name_is l g h [] e good = absurd (cc)
name_is l g h (c ∷ n) e good =
    let u : List ℕ = before_colon l in
    let p : l ≡ u ++ 58 ∷ after_colon l = colon_parts l g.colon in
    let feed : has 10 u ≡ false = has_front 10 u (58 ∷ after_colon l) (sym (ap (has 10) p) ∙ h) in
    let starts : StartsWell is_blank (trim_name u) = starts_well is_blank (trim_end is_blank u) in
    let ends : EndsWell is_blank (trim_name u) = end_of_suffix is_blank is_blank (trim_end is_blank u) (ends_well is_blank u) in
    record {
      one_line = sym (ap (has 10) e) ∙ has_no_start 10 is_blank (trim_end is_blank u) (has_no_end 10 is_blank u feed);
      no_colon = sym (ap (has 58) e) ∙ has_no_start 58 is_blank (trim_end is_blank u) (has_no_end 58 is_blank u (no_colon_before l));
      good = good;
      trimmed = subst (λ (x : List ℕ). trim_name x ≡ x) e (ap (trim_start is_blank) (end_kept is_blank (trim_name u) ends) ∙ start_kept is_blank (trim_name u) starts);
      begins = λ x. not_bare u (58 ∷ after_colon l) x c n e (sym (ap is_bare p) ∙ g.seen);
    }

-- ---- a value

value_is : (w y : List ℕ) → Free w y → NoScore w → IsValue (trim_value w)
value_is w y f g =
    let u : List ℕ = trim_end ends_no_value w in
    let (back, e) = end_prefix ends_no_value w in
    let (front, k) = start_suffix is_blank_or_lf u in
    let v : List ℕ = trim_start is_blank_or_lf u in
    let alone : Free u [] = free_alone u (back ++ y) (ends_well ends_no_value w) (free_front u back y (subst (λ (x : List ℕ). Free x y) e f)) in
    record {
      starts = starts_well is_blank_or_lf u;
      ends = end_of_suffix ends_no_value is_blank_or_lf u (ends_well ends_no_value w);
      free = free_back front v [] (subst (λ (x : List ℕ). Free x []) k alone);
      no_score = no_score_back front v (subst NoScore k (no_score_front u back (subst NoScore e g)));
    }

no_feed : (a : List ℕ) → has 10 a ≡ false → NoScore a
no_feed a h = subst NoScore (append-nil a) (no_score_line a [] h tt)

-- an LF ends the line
score_feed : (l y : List ℕ) → is_score_line l ≡ false → is_score_line (l ++ 10 ∷ y) ≡ false
score_feed l y h = grind arith

-- the lines of a value below its first
record Below (ms : List (List ℕ)) : Type 0 where
  after : List ℕ
  tail : List ℕ
  starts : value_below ms ≡ 10 ∷ tail
  free : Free (value_below ms) after
  no_score : NoScore (value_below ms)

below_is : (ms : List (List ℕ)) → EndAtMark ms → AreHeadLines ms → Below ms
below_is [] h g = absurd h
below_is (l ∷ []) h g =
    let f = free_before 2 (λ x e. e) l g.0.0 in
    record {
      after = f.after;
      tail = before_mark 2 l;
      starts = refl;
      free = (refl, f.free);
      no_score = (λ e. score_front (before_mark 2 l) f.after (ap is_score_line f.parts ∙ g.0.1), no_feed (before_mark 2 l) (has_front 10 (before_mark 2 l) f.after (ap (has 10) f.parts ∙ g.0.0)));
    }
below_is (l ∷ m ∷ ms) h g =
    let b = below_is (m ∷ ms) h.1 g.1 in
    let onward : Free l (value_below (m ∷ ms) ++ b.after) = subst (λ (x : List ℕ). Free l (x ++ b.after)) (sym b.starts) (free_line l (b.tail ++ b.after) g.0.0 h.0) in
    record {
      after = b.after;
      tail = l ++ value_below (m ∷ ms);
      starts = refl;
      free = (refl, free_append l (value_below (m ∷ ms)) b.after onward b.free);
      no_score = (λ e. ap (λ (x : List ℕ). is_score_line (l ++ x)) b.starts ∙ score_feed l b.tail g.0.1, no_score_line l (value_below (m ∷ ms)) g.0.0 b.no_score);
    }

value_of_lines : (l : List ℕ) (below : List (List ℕ)) → BeginsHeader l → EndsValue l below → AreHeadLines (l ∷ below) → IsValue (trim_value (value_text l below))
value_of_lines l [] g e h =
    let p : l ≡ before_colon l ++ 58 ∷ after_colon l = colon_parts l g.colon in
    let feed : has 10 (after_colon l) ≡ false = has_back 10 (58 ∷ []) (after_colon l) (has_back 10 (before_colon l) (58 ∷ after_colon l) (sym (ap (has 10) p) ∙ h.0.0)) in
    let f = free_before 1 mark_of_one (after_colon l) feed in
    value_is (before_mark 1 (after_colon l)) f.after f.free (no_feed (before_mark 1 (after_colon l)) (has_front 10 (before_mark 1 (after_colon l)) f.after (ap (has 10) f.parts ∙ feed)))
value_of_lines l (m ∷ ms) g e h =
    let p : l ≡ before_colon l ++ 58 ∷ after_colon l = colon_parts l g.colon in
    let feed : has 10 (after_colon l) ≡ false = has_back 10 (58 ∷ []) (after_colon l) (has_back 10 (before_colon l) (58 ∷ after_colon l) (sym (ap (has 10) p) ∙ h.0.0)) in
    let b = below_is (m ∷ ms) e.1 h.1 in
    let first : Free (after_colon l) (value_below (m ∷ ms) ++ b.after) = subst (λ (x : List ℕ). Free (after_colon l) (x ++ b.after)) (sym b.starts) (free_line (after_colon l) (b.tail ++ b.after) feed (no_mark_of_one (after_colon l) e.0)) in
    value_is (after_colon l ++ value_below (m ∷ ms)) b.after (free_append (after_colon l) (value_below (m ∷ ms)) b.after first b.free) (no_score_line (after_colon l) (value_below (m ∷ ms)) feed b.no_score)

-- ---- the parts

abbrev pub HaveGoodHeaders : List HeaderPart → Type 0
HaveGoodHeaders [] = Unit {0}
HaveGoodHeaders (left_out k p ∷ ps) = HaveGoodHeaders ps
HaveGoodHeaders (unended k ∷ ps) = HaveGoodHeaders ps
HaveGoodHeaders (header k name v p ∷ ps) = (IsName name × IsValue v) × HaveGoodHeaders ps

good_append : (ps qs : List HeaderPart) → HaveGoodHeaders ps → HaveGoodHeaders qs → HaveGoodHeaders (ps ++ qs)
good_append [] qs h g = g
good_append (left_out k p ∷ ps) qs h g = good_append ps qs h g
good_append (unended k ∷ ps) qs h g = good_append ps qs h g
good_append (header k name v p ∷ ps) qs h g = (h.0, good_append ps qs h.1 g)

bad_good : (k : ℕ) (o : Option (List ℕ)) (p : ℕ) → HaveGoodHeaders (bad_name_parts k o p)
bad_good k o p = grind arith

ended_good : (k : ℕ) (l : List ℕ) (w : List ℕ) (p : ℕ) → BeginsHeader l → has 10 l ≡ false → IsValue (trim_value w) → HaveGoodHeaders (ended_parts k (name_of l) w p)
ended_good k l w p g h v = by (trim_name (before_colon l)) refl
  where
    by : (m : List ℕ) → trim_name (before_colon l) ≡ m → HaveGoodHeaders (ended_parts k (good_name m) w p)
    by m e = at (is_good_name m) refl
      where
        at : (b : Bool) → is_good_name m ≡ b → HaveGoodHeaders (ended_parts k (cond b (Some m) None) w p)
        at true f = ((name_is l g h m e f, v), tt)
        at false f = tt

pub good_parts : (gs : List Group) (ls : List (List ℕ)) (k n : ℕ) → AreGroups ls gs → AreHeadLines ls → HaveGoodHeaders (parts_of_groups k n gs)
good_parts [] ls k n h g = tt
good_parts (unfinished l b ∷ gs) ls k n h g = grind (arith, good_append, bad_good)
good_parts (skipped l ∷ gs) ls k n h g =
    good_parts gs h.1.0 (k + 1) (n + lines_len (l ∷ [])) h.1.2 (heads_back (l ∷ []) h.1.0 (subst AreHeadLines h.1.1 g))
good_parts (colonless l ∷ gs) ls k n h g =
    good_parts gs h.1.0 (k + 1) (n + lines_len (l ∷ [])) h.1.2 (heads_back (l ∷ []) h.1.0 (subst AreHeadLines h.1.1 g))
good_parts (valued l b ∷ gs) ls k n h g =
    let all : AreHeadLines ((l ∷ b) ++ h.1.0) = subst AreHeadLines h.1.1 g in
    let here : AreHeadLines (l ∷ b) = heads_front (l ∷ b) h.1.0 all in
    let first : List HeaderPart = bad_name_parts k (name_of l) (n + length (before_colon l)) in
    let ended : List HeaderPart = ended_parts k (name_of l) (value_text l b) (mark_point n l b) in
    good_append (first ++ ended) (parts_of_groups (k + length (l ∷ b)) (n + lines_len (l ∷ b)) gs)
    (good_append first ended (bad_good k (name_of l) (n + length (before_colon l))) (ended_good k l (value_text l b) (mark_point n l b) h.0.0 here.0.0 (value_of_lines l b h.0.0 h.0.1 here)))
    (good_parts gs h.1.0 (k + length (l ∷ b)) (n + lines_len (l ∷ b)) h.1.2 (heads_back (l ∷ b) h.1.0 all))
