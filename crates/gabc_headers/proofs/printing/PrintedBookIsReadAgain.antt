-- The canonical lines of a book are read again as the book.
use Rattle.std.proofs.Common.{◌≡◌, ℕ, ◌+◌, ◌<◌, ◌≤◌, List, [], ◌∷◌, ◌++◌, Bool, true, false, cond, not, codes, length, length-append, take, nat_lt, refl, sym, ap, subst, ◌∙◌, append_assoc, append-nil, arith, Option, None, Ok}
use Rattle.std.proofs.Math.Seq.{take-append_seam, take-append-add}
use Rattle.gabc_places.proofs.NothingAfterAnEnd.{both_empty}
use Rattle.gabc_places.specs.declared.limits.Limits.{Limits}
use Rattle.gabc_places.specs.LargerLimits.{AreNoLess}
use Rattle.gabc_places.specs.declared.code.Finding.{Finding}
use Rattle.gabc_places.specs.Findings.{Stop, findings_before}
use Rattle.gabc_headers.specs.declared.heads.Heads.{Heads}
use Rattle.gabc_headers.specs.Lines.{bytes_len, lines, lines_len, head_of, has_score, before_colon}
use Rattle.gabc_headers.specs.Parts.{HeaderPart, bad_name_parts, ended_parts}
use Rattle.gabc_headers.specs.witness.Parts.{outside, parts, head_parts}
use Rattle.gabc_headers.specs.Book.{entries, standing_entries, book_of, has_header}
use Rattle.gabc_headers.specs.Groups.{Group, valued, AreGroups, value_text, mark_point, parts_of_groups}
use Rattle.gabc_headers.specs.Canonical.{header_line, header_lines, canonical_heads}
use Rattle.gabc_headers.specs.Heads.{head_len, open_line, text_stops, open_stops, body_byte, heads_of}
use Rattle.gabc_headers.specs.witness.Heads.{head_findings, score_stops, head_stops}
use Rattle.gabc_headers.specs.HeadsAgain.{nameless, heads_again}
use Rattle.gabc_headers.proofs.canonical_form.HeadersEndInTwoPercents.{heads_len}
use Rattle.gabc_headers.proofs.machines.PartsAfterState.{lines_split}
use Rattle.gabc_headers.proofs.groups.GroupsAreUnique.{some_groups}
use Rattle.gabc_headers.proofs.groups.GroupsTellParts.{groups_tell}
use Rattle.gabc_headers.proofs.stops.PointsOfStops.{lines_all}
use Rattle.gabc_headers.proofs.stops.TextTooLong.{take_head, stops_none}
use Rattle.gabc_headers.proofs.PrefixHasTheSameHeaders.{none_apart}
use Rattle.gabc_headers.proofs.printing.MarksInTexts.{AreNoScore}
use Rattle.gabc_headers.proofs.printing.EntriesAreTrimmed.{head_lines, good_parts}
use Rattle.gabc_headers.proofs.printing.BookIsThatOfItsEntries.{AreEntries, entries_good, standing_good, NoneAgain, book_once, stands_again, AreHeaders, headers_entries, headers_found, headers_closed}
use Rattle.gabc_headers.proofs.printing.PrintedLinesAreGroups.{PrintedEntry, printed_entry}

-- ---- the lines of a book

-- the lines that are printed of entries, in front of a line `%%`: those of groups that report the entries
record PrintedBook (es : List (List ℕ × List ℕ)) (more : List ℕ) : Type 0 where
  groups : List Group
  heads : List (List ℕ)
  text : lines (header_lines es ++ 37 ∷ 37 ∷ more) ≡ heads ++ lines (37 ∷ 37 ∷ more)
  no_score : AreNoScore heads
  cut : AreGroups heads groups
  headers_are : (k n : ℕ) → AreHeaders (parts_of_groups k n groups) es

no_score_append : (ls ms : List (List ℕ)) → AreNoScore ls → AreNoScore ms → AreNoScore (ls ++ ms)
no_score_append [] ms h g = g
no_score_append (l ∷ ls) ms h g = (h.0, no_score_append ls ms h.1 g)

printed_book : (es : List (List ℕ × List ℕ)) → AreEntries es → (more : List ℕ) → PrintedBook es more
printed_book [] h more = record { groups = []; heads = []; text = refl; no_score = tt; cut = refl; headers_are = λ k n. tt }
printed_book (e ∷ es) h more =
    let p : PrintedEntry e = printed_entry e.0 e.1 h.0.name h.0.value in
    let r = printed_book es h.1 more in
    let own : List (List ℕ) = p.first ∷ p.below in
    record {
      groups = valued p.first p.below ∷ r.groups;
      heads = own ++ r.heads;
      text = ap lines (append_assoc (header_line e) (header_lines es) (37 ∷ 37 ∷ more)) ∙ p.lines_are (header_lines es ++ 37 ∷ 37 ∷ more)
          ∙ ap (λ (x : List (List ℕ)). own ++ x) r.text ∙ sym (append_assoc own r.heads (lines (37 ∷ 37 ∷ more)));
      no_score = no_score_append own r.heads p.no_score r.no_score;
      cut = ((p.begins, p.ends), (r.heads, refl, r.cut));
      headers_are = λ k n. subst (λ (o : Option (List ℕ)). AreHeaders ((bad_name_parts k o (n + length (before_colon p.first)) ++ ended_parts k o (value_text p.first p.below) (mark_point n p.first p.below))
          ++ parts_of_groups (k + length own) (n + lines_len own) r.groups) (e ∷ es)) (sym p.name_is) ((refl, p.value_is), r.headers_are (k + length own) (n + lines_len own));
    }

-- lines in front of the line `%%`
head_after : (ls ms : List (List ℕ)) → AreNoScore ls → (head_of (ls ++ ms) ≡ ls ++ head_of ms) × (has_score (ls ++ ms) ≡ has_score ms)
head_after [] ms h = (refl, refl)
head_after (l ∷ ls) ms h = grind (arith, head_after ls ms h.1)

score_first_line : (more : List ℕ) → (head_of (lines (37 ∷ 37 ∷ more)) ≡ []) × (has_score (lines (37 ∷ 37 ∷ more)) ≡ true)
score_first_line more = grind (arith, lines_split)

lines_len-append : (ls ms : List (List ℕ)) → lines_len (ls ++ ms) ≡ lines_len ls + lines_len ms
lines_len-append [] ms = omega arith
lines_len-append (l ∷ ls) ms = let h = lines_len-append ls ms in omega arith

-- ---- what is found, and what stops

-- no limit is passed by the lines
within : (limit n : ℕ) (s : Stop) → cond (nat_lt limit n) (s ∷ []) [] ≡ [] → nat_lt limit n ≡ false
within limit n s h = grind arith

-- one finding at most, and its point is early
one_found : (b : Bool) (f : Finding) (p stop : ℕ) → p < stop → findings_before stop (cond b (record { point = p; finding = f } ∷ []) []) ≡ cond b (f ∷ []) []
one_found b f p stop h = grind arith

not_cond : {X : Type 0} (b : Bool) (x : X) → cond (not b) (x ∷ []) [] ≡ cond b [] (x ∷ [])
not_cond b x = grind arith

-- ---- the book is read again

-- a book within the limits
record IsWithinLimits (limits : Limits) (book : List (List ℕ × List ℕ)) : Type 0 where
  entries : AreEntries book
  once : NoneAgain [] book
  header : nat_lt limits.header (bytes_len (header_lines book)) ≡ false
  input : nat_lt limits.input (bytes_len (header_lines book) + 3) ≡ false

module _ (limits : Limits) (book : List (List ℕ × List ℕ)) (w : IsWithinLimits limits book) (more : List ℕ) where
  abbrev again : List ℕ
  again = canonical_heads book ++ more

  abbrev printed : PrintedBook book more
  printed = printed_book book w.entries more

  again_is : again ≡ header_lines book ++ 37 ∷ 37 ∷ more
  again_is = append_assoc (header_lines book) (37 ∷ 37 ∷ []) more

  lines_are : lines again ≡ printed.heads ++ lines (37 ∷ 37 ∷ more)
  lines_are = ap lines again_is ∙ printed.text

  head_is : head_of (lines again) ≡ printed.heads
  head_is = grind (arith, lines_are, head_after, score_first_line, append-nil)

  score_is : has_score (lines again) ≡ true
  score_is = ap has_score lines_are ∙ (head_after printed.heads (lines (37 ∷ 37 ∷ more)) printed.no_score).1 ∙ (score_first_line more).1

  len_is : head_len again ≡ length (header_lines book)
  len_is =
      let own : head_len again ≡ lines_len printed.heads = ap (λ (b : Bool). cond b (lines_len (head_of (lines again))) (length again)) score_is ∙ ap lines_len head_is in
      let all : length again + 1 ≡ lines_len printed.heads + lines_len (lines (37 ∷ 37 ∷ more)) = sym (lines_all again) ∙ ap lines_len lines_are ∙ lines_len-append printed.heads (lines (37 ∷ 37 ∷ more)) in
      let after : lines_len (lines (37 ∷ 37 ∷ more)) ≡ length (37 ∷ 37 ∷ more) + 1 = lines_all (37 ∷ 37 ∷ more) in
      let both : length again ≡ length (header_lines book) + length (37 ∷ 37 ∷ more) = ap (length {A = ℕ}) again_is ∙ length-append (header_lines book) (37 ∷ 37 ∷ more) in
      own ∙ (let h : lines_len printed.heads ≡ length (header_lines book) = omega (arith, all, after, both) in h)

  text_is : take (head_len again) again ≡ header_lines book
  text_is = ap (λ (n : ℕ). take n again) len_is ∙ ap (take (length (header_lines book))) again_is ∙ take-append_seam (header_lines book) (37 ∷ 37 ∷ more)

  abbrev parts_at_end : List HeaderPart
  parts_at_end = parts_of_groups 1 0 printed.groups

  parts_are : head_parts again ≡ parts_at_end
  parts_are = ap (parts outside 1 0) head_is ∙ groups_tell printed.groups 1 0 printed.heads printed.cut

  book_is : book_of (head_parts again) ≡ book
  book_is = ap book_of parts_are ∙ ap (standing_entries []) (headers_entries parts_at_end book (printed.headers_are 1 0) w.entries) ∙ stands_again [] book w.once

  none_long : text_stops limits.header again ≡ []
  none_long = grind (arith, stops_none, take_head, text_is)

  none_open : open_line (head_parts again) ≡ None
  none_open = ap open_line parts_are ∙ headers_closed parts_at_end book (printed.headers_are 1 0)

  none_above : score_stops limits again ≡ []
  none_above = grind (arith, book_is)

  none_stops : head_stops limits again ≡ []
  none_stops = grind (arith, none_long, score_is, none_open, none_above)

  body_is : body_byte again ≡ bytes_len (canonical_heads book)
  body_is = grind (arith, len_is, again_is, take-append-add)

  found_is : head_findings again ≡ cond (not (has_header (codes "name") book)) (record { point = head_len again + 1; finding = nameless book } ∷ []) []
  found_is = grind (arith, parts_are, headers_found, score_is, book_is, text_is)

  findings_are : findings_before (length again + 1) (head_findings again) ≡ cond (has_header (codes "name") book) [] (nameless book ∷ [])
  findings_are = grind (arith, again_is, length-append, len_is, found_is, one_found, not_cond)

  heads_are : heads_of limits again ≡ Ok (heads_again book)
  heads_are = grind (arith, none_stops, book_is, body_is, findings_are)

-- ---- the book of a text

pub own_book : (limits : Limits) (t : List ℕ) (heads : Heads) → heads_of limits t ≡ Ok heads → heads.book ≡ book_of (head_parts t)
own_book limits t heads ok = grind arith

-- headers that are read whole have a book within the limits
within_limits : (limits : Limits) (t : List ℕ) (heads : Heads) → heads_of limits t ≡ Ok heads → IsWithinLimits limits heads.book
within_limits limits t heads ok =
    let (groups, cut) = some_groups (head_of (lines t)) in
    let none = none_apart limits t [] heads ok in
    let above = both_empty _ _ (both_empty (open_stops (head_len t + 1) (open_line (head_parts t))) (score_stops limits t) none.1).1 in
    let all : AreEntries (entries (head_parts t)) = subst (λ (x : List HeaderPart). AreEntries (entries x)) (sym (groups_tell groups 1 0 (head_of (lines t)) cut))
    (entries_good (parts_of_groups 1 0 groups) (good_parts groups (head_of (lines t)) 1 0 cut (head_lines t))) in
    subst (IsWithinLimits limits) (sym (own_book limits t heads ok)) (record {
      entries = standing_good [] (entries (head_parts t)) all;
      once = book_once (entries (head_parts t));
      header = within limits.header (bytes_len (header_lines (book_of (head_parts t)))) _ above.0;
      input = within limits.input (bytes_len (header_lines (book_of (head_parts t))) + 3) _ above.1;
    })

within_larger : (limits larger : Limits) (book : List (List ℕ × List ℕ)) → AreNoLess limits larger → IsWithinLimits limits book → IsWithinLimits larger book
within_larger limits larger book no_less w = grind arith

pub book_read : (limits larger : Limits) (t more : List ℕ) (heads : Heads) → AreNoLess limits larger → heads_of limits t ≡ Ok heads → heads_of larger (canonical_heads heads.book ++ more) ≡ Ok (heads_again heads.book)
book_read limits larger t more heads no_less ok = heads_are larger heads.book (within_larger limits larger heads.book no_less (within_limits limits t heads ok)) more

pub book_ends : (limits : Limits) (t more : List ℕ) (heads : Heads) → heads_of limits t ≡ Ok heads → head_len (canonical_heads heads.book ++ more) ≡ length (header_lines heads.book)
book_ends limits t more heads ok = len_is limits heads.book (within_limits limits t heads ok) more

-- the canonical lines of the book are within the limits, and so is its canonical file without syllables
pub book_is_short : (limits : Limits) (t : List ℕ) (heads : Heads) → heads_of limits t ≡ Ok heads → (bytes_len (header_lines heads.book) ≤ limits.header) × (bytes_len (canonical_heads heads.book) + 1 ≤ limits.input)
book_is_short limits t heads ok = grind (arith, within_limits, heads_len)
