-- The printed lines of an entry are one group, which reports the entry.
use Rattle.std.proofs.Common.{◌≡◌, ℕ, List, [], ◌∷◌, ◌++◌, Bool, true, false, cond, codes, refl, sym, ap, subst, ◌∙◌, append_assoc, append-nil, Some, None, arith}
use Rattle.std.proofs.lemmas.Bool.{or_parts}
use Rattle.gabc_headers.specs.Lines.{lines, on_first, is_bare, has_mark, before_mark, has_colon, before_colon, after_colon, is_blank_or_lf, ends_no_value, trim_start, unless_last, trim_name, trim_value, is_score_line}
use Rattle.gabc_headers.specs.Parts.{good_name, name_of}
use Rattle.gabc_headers.specs.Groups.{EndAtMark, HaveNoMark, BeginsHeader, EndsValue, value_below, value_text}
use Rattle.gabc_headers.specs.Canonical.{wants_lines, header_line}
use Rattle.gabc_headers.proofs.machines.PartsAfterState.{first_line, later_lines, lines_split}
use Rattle.gabc_headers.proofs.marks_of_lines.PrefixOfMark.{mark_here}
use Rattle.gabc_headers.proofs.printing.LinesOfTexts.{has, has-append, lines_after, one_line, with_last, lines_with, below_text, lines_joined}
use Rattle.gabc_headers.proofs.printing.TrimmedTexts.{EndsWell, start_kept, end_kept}
use Rattle.gabc_headers.proofs.printing.MarksInTexts.{end_is, marks_passed, free_lines, AreNoScore, later_no_score}
use Rattle.gabc_headers.proofs.printing.EntriesAreTrimmed.{IsName, IsValue}
use Rattle.gabc_headers.proofs.groups.GroupsAreUnique.{ends_value}

-- the lines that are printed of an entry: those of a group that reports it, of which none begins with `%%`
pub record PrintedEntry (e : List ℕ × List ℕ) : Type 0 where
  pub first : List ℕ
  pub below : List (List ℕ)
  pub lines_are : (t : List ℕ) → lines (header_line e ++ t) ≡ (first ∷ below) ++ lines t
  pub begins : BeginsHeader first
  pub ends : EndsValue first below
  pub name_is : name_of first ≡ Some e.0
  pub value_is : trim_value (value_text first below) ≡ e.1
  pub no_score : AreNoScore (first ∷ below)

-- ---- a header's first line

colon_after : (name x : List ℕ) → has 58 name ≡ false
    → (has_colon (name ++ 58 ∷ x) ≡ true) × (before_colon (name ++ 58 ∷ x) ≡ name) × (after_colon (name ++ 58 ∷ x) ≡ x)
colon_after [] x h = (refl, refl, refl)
colon_after (c ∷ name) x h = grind (arith, colon_after name x)

-- what is not bare does not begin with `%`
bare_score : (l : List ℕ) → is_bare l ≡ false → is_score_line l ≡ false
bare_score l h = grind (arith, or_parts)

record FirstLine (name x : List ℕ) : Type 0 where
  begins : BeginsHeader (name ++ 58 ∷ x)
  name_is : name_of (name ++ 58 ∷ x) ≡ Some name
  after : after_colon (name ++ 58 ∷ x) ≡ x
  no_score : is_score_line (name ++ 58 ∷ x) ≡ false

first_is : (name x : List ℕ) → IsName name → FirstLine name x
first_is name x g =
    let q = colon_after name x g.no_colon in
    record {
      begins = record { seen = g.begins (58 ∷ x); colon = q.0 };
      name_is = ap (λ (y : List ℕ). good_name (trim_name y)) q.1 ∙ ap good_name g.trimmed ∙ ap (λ (b : Bool). cond b (Some name) None) g.good;
      after = q.2;
      no_score = bare_score (name ++ 58 ∷ x) (g.begins (58 ∷ x));
    }

-- ---- a value after its header's `:`

-- after an LF and a blank, or the blank alone, a value that is not empty is trimmed to itself
blank_first : (c : ℕ) (v : List ℕ) → IsValue (c ∷ v) → trim_value (32 ∷ c ∷ v) ≡ c ∷ v
blank_first c v w = ap (λ (y : List ℕ). trim_start is_blank_or_lf (unless_last true 32 y)) (end_kept ends_no_value (c ∷ v) w.ends) ∙ start_kept is_blank_or_lf (c ∷ v) w.starts

feed_first : (c : ℕ) (v : List ℕ) → IsValue (c ∷ v) → trim_value (10 ∷ 32 ∷ c ∷ v) ≡ c ∷ v
feed_first c v w = ap (λ (y : List ℕ). trim_start is_blank_or_lf (unless_last true 10 (unless_last true 32 y))) (end_kept ends_no_value (c ∷ v) w.ends) ∙ start_kept is_blank_or_lf (c ∷ v) w.starts

-- a text of one line with its LF
one_printed : (u l t : List ℕ) → u ≡ l ++ 10 ∷ [] → has 10 l ≡ false → lines (u ++ t) ≡ (l ∷ []) ++ lines t
one_printed u l t e h = grind (arith, append_assoc, lines_after, one_line)

-- the empty value
printed_empty : (name : List ℕ) → IsName name → PrintedEntry (name, [])
printed_empty name g =
    let l : List ℕ = name ++ 58 ∷ 59 ∷ [] in
    let f = first_is name (59 ∷ []) g in
    record {
      first = l;
      below = [];
      lines_are = λ t. one_printed (header_line (name, [])) l t (simp append_assoc) (has-append 10 name (58 ∷ 59 ∷ []) g.one_line refl);
      begins = f.begins;
      ends = ap (has_mark 1) f.after;
      name_is = f.name_is;
      value_is = ap (λ (x : List ℕ). trim_value (before_mark 1 x)) f.after;
      no_score = (f.no_score, tt);
    }

-- a value on its header's line
printed_one : (name v : List ℕ) (c : ℕ) → IsName name → IsValue (c ∷ v) → has 10 (c ∷ v) ≡ false → has_mark 1 (c ∷ v) ≡ false → wants_lines (lines (c ∷ v)) ≡ false → PrintedEntry (name, c ∷ v)
printed_one name v c g w feed none wants =
    let x : List ℕ = (32 ∷ c ∷ v) ++ 59 ∷ [] in
    let l : List ℕ = name ++ 58 ∷ x in
    let f = first_is name x g in
    let m = mark_here 1 (32 ∷ c ∷ v) (59 ∷ []) (marks_passed (59 ∷ []) 1 (32 ∷ c ∷ v) w.ends none) refl in
    let text : header_line (name, c ∷ v) ≡ l ++ 10 ∷ [] = ap (λ (b : Bool). name ++ codes ":" ++ cond b (codes "\n " ++ (c ∷ v) ++ codes ";;\n") (codes " " ++ (c ∷ v) ++ codes ";\n")) wants ∙ simp append_assoc in
    record {
      first = l;
      below = [];
      lines_are = λ t. one_printed (header_line (name, c ∷ v)) l t text (has-append 10 name (58 ∷ x) g.one_line (has-append 10 (c ∷ v) (59 ∷ []) feed refl));
      begins = f.begins;
      ends = ap (has_mark 1) f.after ∙ m.has;
      name_is = f.name_is;
      value_is = ap (λ (y : List ℕ). trim_value (before_mark 1 y)) f.after ∙ ap trim_value m.before ∙ blank_first c v w;
      no_score = (f.no_score, tt);
    }

-- ---- a value on lines of its own

-- the last line is not empty, and ends well
abbrev LastEnds : List (List ℕ) → Type 0
LastEnds [] = ⊥
LastEnds ([] ∷ []) = ⊥
LastEnds ((c ∷ l) ∷ []) = EndsWell ends_no_value (c ∷ l)
LastEnds (l ∷ m ∷ ls) = LastEnds (m ∷ ls)

last_more : (c : ℕ) (l : List ℕ) (ls : List (List ℕ)) → LastEnds (l ∷ ls) → LastEnds ((c ∷ l) ∷ ls)
last_more c l ls h = grind arith

last_ends : (c : ℕ) (v : List ℕ) → EndsWell ends_no_value (c ∷ v) → LastEnds (lines (c ∷ v))
last_ends c [] h = subst (λ (b : Bool). LastEnds (cond b ([] ∷ [] ∷ []) ((c ∷ []) ∷ []))) (sym (end_is c h).feed) h
last_ends c (d ∷ v) h = grind (arith, last_ends d v h, lines_split, last_more)

-- lines without a mark, with `;;` after the last
record Closed (ls : List (List ℕ)) : Type 0 where
  ends : EndAtMark (with_last (59 ∷ 59 ∷ []) ls)
  text : value_below (with_last (59 ∷ 59 ∷ []) ls) ≡ below_text ls

closed_lines : (l : List ℕ) (ls : List (List ℕ)) → HaveNoMark (l ∷ ls) → LastEnds (l ∷ ls) → Closed (l ∷ ls)
closed_lines [] [] h e = absurd e
closed_lines (c ∷ l) [] h e =
    let m = mark_here 2 (c ∷ l) (59 ∷ 59 ∷ []) (marks_passed (59 ∷ 59 ∷ []) 2 (c ∷ l) e h.0) refl in
    record { ends = m.has; text = ap (λ (x : List ℕ). 10 ∷ x) (m.before ∙ sym (append-nil (c ∷ l))) }
closed_lines l (m ∷ ls) h e = grind (arith, closed_lines m ls h.1 e)

-- none of them begins with `%%` for the `;;`
score_semis : (l : List ℕ) → is_score_line l ≡ false → is_score_line (l ++ 59 ∷ 59 ∷ []) ≡ false
score_semis l h = grind arith

last_no_score : (ls : List (List ℕ)) → AreNoScore ls → AreNoScore (with_last (59 ∷ 59 ∷ []) ls)
last_no_score [] h = tt
last_no_score (l ∷ []) h = (score_semis l h.0, tt)
last_no_score (l ∷ m ∷ ls) h = (h.0, last_no_score (m ∷ ls) h.1)

below_value : (l : List ℕ) (ls : List (List ℕ)) → EndAtMark ls → value_text l ls ≡ after_colon l ++ value_below ls
below_value l ls e = grind arith

printed_lined : (name v : List ℕ) (c : ℕ) → IsName name → IsValue (c ∷ v) → wants_lines (lines (c ∷ v)) ≡ true → PrintedEntry (name, c ∷ v)
printed_lined name v c g w wants =
    let first : List ℕ = name ++ 58 ∷ [] in
    let l : List ℕ = first_line (c ∷ v) in
    let later : List (List ℕ) = later_lines (c ∷ v) in
    let split : lines (c ∷ v) ≡ l ∷ later = lines_split (c ∷ v) in
    let blank : lines (32 ∷ c ∷ v) ≡ (32 ∷ l) ∷ later = ap (on_first 32) split in
    let below : List (List ℕ) = with_last (59 ∷ 59 ∷ []) ((32 ∷ l) ∷ later) in
    let f = first_is name [] g in
    let closed = closed_lines (32 ∷ l) later (subst HaveNoMark split (free_lines (c ∷ v) w.free)) (last_more 32 l later (subst LastEnds split (last_ends c v w.ends))) in
    let text : header_line (name, c ∷ v) ≡ first ++ 10 ∷ (((32 ∷ c ∷ v) ++ 59 ∷ 59 ∷ []) ++ 10 ∷ []) =
    ap (λ (b : Bool). name ++ codes ":" ++ cond b (codes "\n " ++ (c ∷ v) ++ codes ";;\n") (codes " " ++ (c ∷ v) ++ codes ";\n")) wants ∙ simp append_assoc in
    let value : below_text ((32 ∷ l) ∷ later) ≡ 10 ∷ 32 ∷ c ∷ v = sym (ap below_text blank) ∙ lines_joined (32 ∷ c ∷ v) in
    record {
      first = first;
      below = below;
      lines_are = λ t. ap (λ (x : List ℕ). lines (x ++ t)) text
          ∙ ap lines (append_assoc first (10 ∷ (((32 ∷ c ∷ v) ++ 59 ∷ 59 ∷ []) ++ 10 ∷ [])) t)
          ∙ lines_after first ((((32 ∷ c ∷ v) ++ 59 ∷ 59 ∷ []) ++ 10 ∷ []) ++ t)
          ∙ ap (λ (x : List (List ℕ)). x ++ lines ((((32 ∷ c ∷ v) ++ 59 ∷ 59 ∷ []) ++ 10 ∷ []) ++ t)) (one_line first (has-append 10 name (58 ∷ []) g.one_line refl))
          ∙ ap (λ (x : List ℕ). first ∷ lines x) (append_assoc ((32 ∷ c ∷ v) ++ 59 ∷ 59 ∷ []) (10 ∷ []) t)
          ∙ ap (λ (x : List (List ℕ)). first ∷ x) (lines_after ((32 ∷ c ∷ v) ++ 59 ∷ 59 ∷ []) t
          ∙ ap (λ (x : List (List ℕ)). x ++ lines t) (lines_with (32 ∷ c ∷ v) (59 ∷ 59 ∷ []) refl ∙ ap (with_last (59 ∷ 59 ∷ [])) blank));
      begins = f.begins;
      ends = ends_value first below (ap (has_mark 1) f.after) closed.ends;
      name_is = f.name_is;
      value_is = ap trim_value (below_value first below closed.ends ∙ ap (λ (x : List ℕ). x ++ value_below below) f.after ∙ closed.text ∙ value) ∙ feed_first c v w;
      no_score = (f.no_score, last_no_score ((32 ∷ l) ∷ later) (refl, later_no_score (c ∷ v) w.no_score));
    }

-- ---- each entry

-- one line that is the text has no LF
single_line : (v : List ℕ) → lines v ≡ v ∷ [] → has 10 v ≡ false
single_line [] h = refl
single_line (c ∷ v) h = grind (arith, single_line v, lines_split)

-- a value that wants no lines of its own is one line without a mark
record OneLine (v : List ℕ) : Type 0 where
  feed : has 10 v ≡ false
  none : has_mark 1 v ≡ false

one_of : (v l : List ℕ) (ls : List (List ℕ)) → lines v ≡ l ∷ ls → wants_lines (l ∷ ls) ≡ false → OneLine v
one_of v l [] s h =
    let same : l ≡ v = cc (sym (append-nil (10 ∷ l)) ∙ sym (ap below_text s) ∙ lines_joined v) in
    record { feed = single_line v (s ∙ ap (λ (x : List ℕ). x ∷ []) same); none = sym (ap (has_mark 1) same) ∙ h }
one_of v l (m ∷ ls) s h = absurd (cc)

pub printed_entry : (name v : List ℕ) → IsName name → IsValue v → PrintedEntry (name, v)
printed_entry name [] g w = printed_empty name g
printed_entry name (c ∷ v) g w = by (wants_lines (lines (c ∷ v))) refl
  where
    by : (b : Bool) → wants_lines (lines (c ∷ v)) ≡ b → PrintedEntry (name, c ∷ v)
    by true e = printed_lined name v c g w e
    by false e =
        let o = one_of (c ∷ v) (first_line (c ∷ v)) (later_lines (c ∷ v)) (lines_split (c ∷ v)) (sym (ap wants_lines (lines_split (c ∷ v))) ∙ e) in
        printed_one name v c g w o.feed o.none e
