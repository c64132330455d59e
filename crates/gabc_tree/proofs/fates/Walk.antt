-- A character of a body that is gone past beside what is kept is what the reading makes of it.
use Rattle.std.proofs.Common.{◌≡◌, ℕ, ◌+◌, ◌≤◌, ◌<◌, ◌^◌, ◌-◌, Bool, true, false, true≢false, cond, not, ◌&&◌, ◌||◌, ◌==◌, List, [], ◌∷◌, ◌++◌, length, length-append, reverse, codes, Option, Some, None, is_some, nat_le, nat_lt, min, refl, sym, ap, subst, ◌∙◌, ◌⊎◌, inl, inr, arith, if◌then◌else◌}
use Rattle.std.specs.Option.{option_map}
use Rattle.std.proofs.lemmas.Bool.{eqb-true, leb-true}
use Rattle.std.proofs.lemmas.Bool.Decides.{nat_tests}
use Rattle.gabc_places.specs.Fate.{Fate, Keep, Comment, Ends, LeaveOut}
use Rattle.gabc_places.specs.Place.{is_line_feed, next_place, saturating_next_place, place_past, placed_characters_from}
use Rattle.gabc_places.specs.declared.code.Code.{Code}
use Rattle.gabc_places.specs.declared.code.Code.TheVariants.{E1, E2, E3, W4}
use Rattle.gabc_places.specs.declared.code.Finding.{Finding}
use Rattle.gabc_places.specs.declared.limits.Limits.{Limits}
use Rattle.gabc_places.specs.declared.place.Char.{Char}
use Rattle.gabc_places.specs.declared.place.Place.{Place}
use Rattle.gabc_patterns.specs.Pattern.{is_in}
use Rattle.gabc_text.specs.KeptText.{belongs, is_unmatched, ends_blank}
use Rattle.gabc_text.specs.Token.{tokens, is_blank, is_one_of}
use Rattle.gabc_notes.specs.KeptNotes.{is_viable, in_raw, fate_in_notes}
use Rattle.gabc_nabc.specs.KeptNabc as nabc_text
use Rattle.gabc_nabc.specs.KeptNabc.{fate_in_nabc}
use Rattle.gabc_body.specs.Reading.{Part, InText, InNotes, Reading, BodyRead, fate_by, kept_as, whole_of, past, code_now}
use Rattle.gabc_body.specs.declared.ending.InputEnding.{InputEnding}
use Rattle.gabc_nodes.specs.declared.kind.Kind.{Kind}
use Rattle.gabc_nodes.specs.declared.kind.Kind.TheVariants as kind
use Rattle.gabc_tree.specs.CodeNumber.{number_of_code}
use Rattle.gabc_tree.specs.Fates.{fate_at, kept_at_end, is_cut_by, is_cut, out_by_fate, out_by_reading}
use Rattle.gabc_tree.specs.NotKept.{Reached, leaves_out, from_here, code_at, comes_next, out_by_code, out_in_body, is_comment, but_first, past_shown}
use Rattle.gabc_tree.proofs.fates.Steps.{AreMild, Step, comments, leaves, keeps, opens, splits, closes, left_found, step}
use Rattle.gabc_tree.proofs.fates.Coming.{or_none, coming}
use Rattle.gabc_tree.proofs.fates.NextKept.{none_holds, is_shown, not_next, text_ends}
use Rattle.gabc_tree.proofs.fates.CutEnds.{is_mark, is_raw_in, mark_ends}
use Rattle.gabc_tree.proofs.fates.NextComes.{some_is, map_is, fate_here, all_is, with_fate, with_part, cut_ends, cut_outside, cut_no_blank, next_may}
use Rattle.gabc_tree.proofs.fates.FoundLater.{before_next, past_here, from_later, none_here, mild_past, one_here, now_of, now_here, found_later, later_from}

-- ---- what a fate says of the character

abbrev Said : Fate → ℕ → Type 0
Said Keep c = Unit {0}
Said Comment c = (c == 37) ≡ true
Said Ends c = Unit {0}
Said (LeaveOut None) c = ((c == 37) ≡ false) × (is_blank c ≡ true)
Said (LeaveOut (Some code)) c = ((c == 37) ≡ false) × (leaves_out code ≡ true)

text_says : (c : ℕ) (b o p : Bool) → (c == 37) ≡ p → (s u e l : Bool) → is_blank c ≡ e
    → Said (cond b Keep (cond o Ends (cond p Comment (cond s (LeaveOut (Some E2)) (cond u (LeaveOut (Some W4)) (cond (e && l) (LeaveOut None) Keep)))))) c
text_says c true o p f s u e l g = tt
text_says c false true p f s u e l g = tt
text_says c false false true f s u e l g = f
text_says c false false false f true u e l g = (f, refl)
text_says c false false false f false true e l g = (f, refl)
text_says c false false false f false false true true g = (f, g)
text_says c false false false f false false true false g = tt
text_says c false false false f false false false l g = tt

notes_say : (c : ℕ) (r p : Bool) → (c == 37) ≡ p → (m v : Bool) → Said (cond r Keep (cond p Comment (cond m Ends (cond v Keep (LeaveOut (Some E1)))))) c
notes_say c true p f m v = tt
notes_say c false true f m v = f
notes_say c false false f true v = tt
notes_say c false false f false true = tt
notes_say c false false f false false = (f, refl)

nabc_says : (c : ℕ) (p : Bool) → (c == 37) ≡ p → (m e : Bool) → is_blank c ≡ e → (v : Bool) → Said (cond p Comment (cond m Ends (cond e (LeaveOut None) (cond v Keep (LeaveOut (Some E3)))))) c
nabc_says c true f m e g v = f
nabc_says c false f true e g v = tt
nabc_says c false f false true g v = (f, g)
nabc_says c false f false false g true = tt
nabc_says c false f false false g false = (f, refl)

said : (lines : ℕ) (part : Part) (kept : List ℕ) (c : ℕ) → Said (fate_by lines part kept c) c
said lines InText kept c =
    let before = reverse (tokens kept) in
    text_says c (belongs before c) (c == 40) (c == 37) refl (is_one_of (codes ")]>") c) (is_unmatched before c) (is_blank c) (ends_blank before) refl
said lines (InNotes line) kept c = by (line == 0)
  where
    by : (o : Bool) → Said (cond o (fate_in_notes (nat_lt 0 lines) kept c) (fate_in_nabc kept c)) c
    by true = notes_say c (in_raw kept) (c == 37) refl ((c == 41) || (nat_lt 0 lines && (c == 124))) (is_viable (kept ++ c ∷ []))
    by false = nabc_says c (c == 37) refl ((c == 41) || (c == 124)) (is_in c (32 ∷ 9 ∷ 10 ∷ [])) refl (nabc_text.is_viable (kept ++ c ∷ []))

-- outside raw what is kept is no `%`
keeps_none : (lines line : ℕ) (kept : List ℕ) (c : ℕ) → is_raw_in line kept ≡ false → fate_by lines (InNotes line) kept c ≡ Keep → (c == 37) ≡ false
keeps_none lines line kept c r h = none_holds (c == 37) (λ e. by (line == 0) e r h)
  where
    by : (o : Bool) → (c == 37) ≡ true → (o && in_raw kept) ≡ false → cond o (fate_in_notes (nat_lt 0 lines) kept c) (fate_in_nabc kept c) ≡ Keep → ⊥
    by true e r h =
        let f : fate_in_notes (nat_lt 0 lines) kept c ≡ Comment = rw (r, e) refl in cc (f, h)
    by false e r h =
        let f : fate_in_nabc kept c ≡ Comment = rw e refl in cc (f, h)

-- and no mark
keeps_no_mark : (lines line : ℕ) (kept : List ℕ) (c : ℕ) → is_raw_in line kept ≡ false → fate_by lines (InNotes line) kept c ≡ Keep → is_mark lines line c ≡ false
keeps_no_mark lines line kept c r h = none_holds (is_mark lines line c) (λ e. (let f = mark_ends lines line kept c r e in cc (f, h)))

mark_not_next : (lines line m c : ℕ) (ks : List ℕ) → is_mark lines line m ≡ true → is_mark lines line c ≡ false → comes_next (m ∷ ks) c ≡ false
mark_not_next lines line m c ks h n = none_holds ((c == m) || ((m == 32) && is_blank c)) (λ e. by (c == m) refl (m == 32) refl e)
  where
    no_space : (o : Bool) → ((32 == 41) || (o && (32 == 124))) ≡ false
    no_space true = refl
    no_space false = refl

    by : (o : Bool) → (c == m) ≡ o → (p : Bool) → (m == 32) ≡ p → (o || (p && is_blank c)) ≡ true → ⊥
    by true f p g e = true≢false (sym h ∙ (ap (is_mark lines line) (sym (eqb-true c m f)) ∙ n))
    by false f true g e = true≢false (sym h ∙ (ap (is_mark lines line) (eqb-true m 32 g) ∙ no_space (cond (line == 0) (nat_lt 0 lines) true)))
    by false f false g e = true≢false (sym e)

-- what is kept now comes next
as_next : (part : Part) (kept ks : List ℕ) (c : ℕ) → comes_next (kept_as part kept c ∷ ks) c ≡ true
as_next (InNotes line) kept ks c = same c (is_blank c)
  where
    same : (c : ℕ) (b : Bool) → ((c == c) || ((c == 32) && b)) ≡ true
    same c b = grind (arith, nat_tests)
as_next InText kept ks c = by (belongs (reverse (tokens kept)) c) (is_blank c) refl
  where
    same : (c : ℕ) (b : Bool) → ((c == c) || ((c == 32) && b)) ≡ true
    same c b = grind (arith, nat_tests)

    or_true : (o : Bool) → (o || true) ≡ true
    or_true true = refl
    or_true false = refl

    by : (o p : Bool) → is_blank c ≡ p → ((c == cond o c (cond p 32 c)) || ((cond o c (cond p 32 c) == 32) && is_blank c)) ≡ true
    by true p e = same c (is_blank c)
    by false true e = ap (λ (b : Bool). (c == 32) || b) e ∙ or_true (c == 32)
    by false false e = same c (is_blank c)

-- ---- beside what is kept

-- at this place of the body, with these characters and findings to come
abbrev pub at : ℕ → ℕ → Place → Bool → List ℕ → List Finding → Reached
at previous byte p comment kept findings = record { previous = previous; byte = byte; place = p; heads = 0; comment = comment; kept = kept; findings = findings }

-- places are counted up to the end of these characters
pub record IsNear (p : Place) (t : List ℕ) : Type 0 where
  pub lines : p.line + length t < 2 ^ 64
  pub columns : p.column + length t < 2 ^ 64

pub near_next : (p : Place) (c : ℕ) (t : List ℕ) → IsNear p (c ∷ t) → IsNear (next_place p c) t
near_next p c t n = by (is_line_feed c)
  where
    by : (o : Bool) → IsNear (if o then record { line = p.line + 1; column = 1 } else record { line = p.line; column = p.column + 1 }) t
    by true = record { lines = let l = n.lines in omega (arith, l); columns = let l = n.lines in omega (arith, l) }
    by false = record { lines = let l = n.lines in omega (arith, l); columns = let l = n.columns in omega (arith, l) }

pub next_near : (p : Place) (c : ℕ) (t : List ℕ) → IsNear p (c ∷ t) → saturating_next_place p c ≡ next_place p c
next_near p c t n = by (is_line_feed c)
  where
    line : min (p.line + 1) (2 ^ 64 - 1) ≡ p.line + 1
    line = let l = n.lines in omega (arith, l)

    column : min (p.column + 1) (2 ^ 64 - 1) ≡ p.column + 1
    column = let l = n.columns in omega (arith, l)

    by : (o : Bool) → (let q : Place = if o then record { line = min (p.line + 1) (2 ^ 64 - 1); column = 1 } else record { line = p.line; column = min (p.column + 1) (2 ^ 64 - 1) } in q)
        ≡ (let q : Place = if o then record { line = p.line + 1; column = 1 } else record { line = p.line; column = p.column + 1 } in q)
    by true = ap (λ (n : ℕ). let q : Place = record { line = n; column = 1 } in q) line
    by false = ap (λ (n : ℕ). let q : Place = record { line = p.line; column = n } in q) column

module _ (limits : Limits) (head lines macros : ℕ) (at_end : Place) (ending : InputEnding) where
  abbrev Coming : BodyRead → List Char → Option (List ℕ)
  Coming b xs = coming limits head lines macros at_end ending b xs

  abbrev Later : BodyRead → List Char → List Finding
  Later b xs = found_later limits head lines macros at_end ending b xs

  -- the syllable that is read becomes one, and these are to come
  pub record Follows (b : BodyRead) (p : Place) (t : List ℕ) (comment : Bool) (kept : List ℕ) (findings : List Finding) : Type 0 where
    pub coming_is : Coming b (placed_characters_from p t) ≡ Some kept
    pub comment_is : comment ≡ b.reading.comment
    pub findings_are : findings ≡ from_here p (Later b (placed_characters_from p t))

  -- nothing is to come, or what the reading says
  abbrev pub Beside : BodyRead → Place → List ℕ → Bool → List ℕ → List Finding → Type 0
  Beside b p t comment kept findings = (kept ≡ []) ⊎ Follows b p t comment kept findings

  -- what is gone past with the character
  pub record Goes (previous byte : ℕ) (b : BodyRead) (p : Place) (c : ℕ) (t : List ℕ) (comment : Bool) (kept : List ℕ) (findings : List Finding) : Type 0 where
    pub comment_then : Bool
    pub kept_then : List ℕ
    pub findings_then : List Finding
    pub is : past_shown (at previous byte p comment kept findings) c ≡ at previous byte (next_place p c) comment_then kept_then findings_then
    pub beside : Beside (past lines macros b (record { c = c; place = p })) (next_place p c) t comment_then kept_then findings_then

  -- from what the character is: what is to come then
  then_is : (previous byte : ℕ) (p : Place) (c : ℕ) (t : List ℕ) (comment : Bool) (kept : List ℕ) (findings : List Finding) (out : Option (Kind × ℕ)) → IsNear p (c ∷ t)
      → out_in_body (at previous byte p comment kept findings) c ≡ out
      → past_shown (at previous byte p comment kept findings) c ≡ at previous byte (next_place p c) (is_comment out) (cond (is_some out) kept (but_first kept)) (from_here (next_place p c) findings)
  then_is previous byte p c t comment kept findings out n e =
      ap (λ (o : Option (Kind × ℕ)). at previous byte (saturating_next_place p c) (is_comment o) (cond (is_some o) kept (but_first kept)) (from_here (saturating_next_place p c) findings)) e
      ∙ ap (λ (q : Place). at previous byte q (is_comment out) (cond (is_some out) kept (but_first kept)) (from_here q findings)) (next_near p c t n)

  -- nothing is to come
  pub goes_past : (previous byte : ℕ) (b : BodyRead) (p : Place) (c : ℕ) (t : List ℕ) (comment : Bool) (kept : List ℕ) (findings : List Finding) → IsNear p (c ∷ t) → kept ≡ []
      → Goes previous byte b p c t comment kept findings
  goes_past previous byte b p c t comment kept findings n e =
      let out = out_in_body (at previous byte p comment kept findings) c in
      record {
        comment_then = is_comment out;
        kept_then = cond (is_some out) kept (but_first kept);
        findings_then = from_here (next_place p c) findings;
        is = then_is previous byte p c t comment kept findings out n refl;
        beside = inl (subst (λ (u : List ℕ). cond (is_some out) u (but_first u) ≡ []) (sym e) (none (is_some out)));
      }
    where
      none : (o : Bool) → cond o [] (but_first []) ≡ []
      none true = refl
      none false = refl

  -- ---- something is to come

  module _ (previous byte : ℕ) (b : BodyRead) (p : Place) (c : ℕ) (t : List ℕ) (comment : Bool) (d : ℕ) (ks : List ℕ) (findings : List Finding)
      (near : IsNear p (c ∷ t)) (to_end : at_end ≡ place_past p (c ∷ t)) (follows : Follows b p (c ∷ t) comment (d ∷ ks) findings) where
    abbrev x : Char
    x = record { c = c; place = p }

    abbrev xs : List Char
    xs = placed_characters_from (next_place p c) t

    abbrev next : BodyRead
    next = past lines macros b x

    abbrev out_here : Option (Kind × ℕ)
    out_here = out_in_body (at previous byte p comment (d ∷ ks) findings) c

    -- what the character is, and what is gone past with it
    pub record Gone : Type 0 where
      pub out_is : out_here ≡ out_by_reading lines macros b x xs
      pub goes : Goes previous byte b p c t comment (d ∷ ks) findings

    unstopped : is_some (code_now limits head next) ≡ false
    unstopped = (some_is (is_some (code_now limits head next)) _ (d ∷ ks) follows.coming_is).0

    found_now : findings ≡ from_here p (now_of (step lines macros b x) ++ Later next xs)
    found_now = follows.findings_are ∙ ap (λ (o : Bool). from_here p (cond o [] (now_of (step lines macros b x) ++ Later next xs))) unstopped

    found_then : from_here (next_place p c) findings ≡ from_here (next_place p c) (Later next xs)
    found_then =
        ap (from_here (next_place p c)) found_now
        ∙ (from_later p (next_place p c) (now_of (step lines macros b x) ++ Later next xs) (before_next p c)
        ∙ past_here p (next_place p c) (now_of (step lines macros b x)) (Later next xs) (before_next p c) (now_here lines b x next (step lines macros b x)))

    gone : (out : Option (Kind × ℕ)) (kept' : List ℕ) → out_here ≡ out → out_by_reading lines macros b x xs ≡ out → cond (is_some out) (d ∷ ks) ks ≡ kept'
        → (kept' ≡ []) ⊎ (Coming next xs ≡ Some kept') → is_comment out ≡ next.reading.comment → Gone
    gone out kept' here says kept_is comes comment_is = record {
      out_is = here ∙ sym says;
      goes = record {
        comment_then = is_comment out;
        kept_then = kept';
        findings_then = from_here (next_place p c) findings;
        is = then_is previous byte p c t comment (d ∷ ks) findings out near here ∙ ap (λ (u : List ℕ). at previous byte (next_place p c) (is_comment out) u (from_here (next_place p c) findings)) kept_is;
        beside = elim comes [ inl e ↦ inl e | inr e ↦ inr (record { coming_is = e; comment_is = comment_is; findings_are = found_then }) ];
      };
    }

    out_when : (a n q : Bool) (code : Option Code) → (comment && not (c == 10)) ≡ a → comes_next (d ∷ ks) c ≡ n → (c == 37) ≡ q → code_at p findings ≡ code
        → out_here ≡ cond a (Some (kind.Comment, 0)) (cond n None (cond q (Some (kind.Comment, 0)) (out_by_code (d ∷ ks) c code)))
    out_when a n q code ae ne qe ce =
        ap (λ (o : Bool). cond o (Some (kind.Comment, 0)) (cond (comes_next (d ∷ ks) c) None (cond (c == 37) (Some (kind.Comment, 0)) (out_by_code (d ∷ ks) c (code_at p findings))))) ae
        ∙ (ap (λ (o : Bool). cond a (Some (kind.Comment, 0)) (cond o None (cond (c == 37) (Some (kind.Comment, 0)) (out_by_code (d ∷ ks) c (code_at p findings))))) ne
        ∙ (ap (λ (o : Bool). cond a (Some (kind.Comment, 0)) (cond n None (cond o (Some (kind.Comment, 0)) (out_by_code (d ∷ ks) c (code_at p findings))))) qe
        ∙ ap (λ (k : Option Code). cond a (Some (kind.Comment, 0)) (cond n None (cond q (Some (kind.Comment, 0)) (out_by_code (d ∷ ks) c k)))) ce))

    shut : (o : Bool) → (b.reading.comment && not (c == 10)) ≡ o → (comment && not (c == 10)) ≡ o
    shut o e = ap (λ (a : Bool). a && not (c == 10)) follows.comment_is ∙ e

    by_fate : (f : Fate) → fate_at lines b x ≡ f → out_by_reading lines macros b x xs ≡ out_by_fate (is_cut lines macros b x xs) f
    by_fate f e = ap (out_by_fate (is_cut lines macros b x xs)) e

    -- what the fate by what is kept says
    says : (f : Fate) → (b.reading.comment && not (c == 10)) ≡ false → fate_at lines b x ≡ f → Said f c
    says f n e = subst (λ (g : Fate). Said g c) (sym (fate_here lines b x n) ∙ e) (said lines b.reading.part b.reading.kept c)

    hidden : (f : Fate) → is_shown f ≡ false → (b.reading.comment && not (c == 10)) ≡ false → fate_at lines b x ≡ f → comes_next (d ∷ ks) c ≡ false
    hidden f h n e = not_next lines b.reading.part b.reading.kept c d ks (next_may limits head lines macros at_end ending (x ∷ xs) b d ks follows.coming_is) (ap is_shown (sym (fate_here lines b x n) ∙ e) ∙ h)

    -- nothing that leaves out a character is found with it
    no_code : (now : List Finding) → findings ≡ from_here p (now ++ Later next xs) → AreMild now → code_at p findings ≡ None
    no_code now is m =
        ap (code_at p) (is ∙ mild_past p now (Later next xs) m)
        ∙ none_here p (next_place p c) (Later next xs) (before_next p c) (later_from limits head lines macros at_end ending t (next_place p c) next to_end)

    comments_gone : fate_at lines b x ≡ Comment → next.reading.comment ≡ true → Gone
    comments_gone e i = gone (Some (kind.Comment, 0)) (d ∷ ks) (by (b.reading.comment && not (c == 10)) refl) (by_fate Comment e) refl (inr (with_fate limits head lines macros at_end ending b x xs (d ∷ ks) Comment e follows.coming_is)) (sym i)
      where
        by : (o : Bool) → (b.reading.comment && not (c == 10)) ≡ o → out_here ≡ Some (kind.Comment, 0)
        by true n = out_when true (comes_next (d ∷ ks) c) (c == 37) (code_at p findings) (shut true n) refl refl refl
        by false n = out_when false false true (code_at p findings) (shut false n) (hidden Comment refl n e) (says Comment n e) refl

    leaves_gone : (code : Option Code) → (b.reading.comment && not (c == 10)) ≡ false → fate_at lines b x ≡ LeaveOut code → next.reading.comment ≡ false → findings ≡ from_here p (left_found code p ++ Later next xs) → Gone
    leaves_gone None n e i is =
        let said_here = says (LeaveOut None) n e in
        gone (Some (kind.FurtherBlank, 0)) (d ∷ ks)
        (out_when false false false None (shut false n) (hidden (LeaveOut None) refl n e) said_here.0 (no_code [] is tt) ∙ ap (λ (o : Bool). cond o (Some (kind.FurtherBlank, 0)) (Some (kind.LeftOut, 106))) said_here.1)
        (by_fate (LeaveOut None) e) refl (inr (with_fate limits head lines macros at_end ending b x xs (d ∷ ks) (LeaveOut None) e follows.coming_is)) (sym i)
    leaves_gone (Some code) n e i is =
        let said_here = says (LeaveOut (Some code)) n e in
        gone (Some (kind.LeftOut, number_of_code code)) (d ∷ ks)
        (out_when false false false (Some code) (shut false n) (hidden (LeaveOut (Some code)) refl n e) said_here.0 (ap (code_at p) is ∙ one_here p code (Later next xs) said_here.1))
        (by_fate (LeaveOut (Some code)) e) refl (inr (with_fate limits head lines macros at_end ending b x xs (d ∷ ks) (LeaveOut (Some code)) e follows.coming_is)) (sym i)

    -- the character is the next one
    next_gone : (f : Fate) → (b.reading.comment && not (c == 10)) ≡ false → out_by_reading lines macros b x xs ≡ None → comes_next (d ∷ ks) c ≡ true → next.reading.comment ≡ false
        → (ks ≡ []) ⊎ (Coming next xs ≡ Some ks) → Gone
    next_gone f n out comes i more = gone None ks (out_when false true (c == 37) (code_at p findings) (shut false n) comes refl refl) out refl more (sym i)

    keeps_gone : (b.reading.comment && not (c == 10)) ≡ false → fate_at lines b x ≡ Keep → next.reading.comment ≡ false → next.reading.part ≡ b.reading.part → next.reading.kept ≡ b.reading.kept ++ kept_as b.reading.part b.reading.kept c ∷ []
        → (now : List Finding) → AreMild now → findings ≡ from_here p (now ++ Later next xs) → Gone
    keeps_gone n e i q kept now m is =
        let j = map_is _ (Coming next xs) (d ∷ ks) (with_fate limits head lines macros at_end ending b x xs (d ∷ ks) Keep e follows.coming_is) in
        by b.reading.part refl (is_cut lines macros b x xs) refl j.0 j.1 j.2
      where
        plain : (part : Part) (js : List ℕ) → b.reading.part ≡ part → is_cut lines macros b x xs ≡ false → Coming next xs ≡ Some js → kept_as part b.reading.kept c ∷ js ≡ d ∷ ks → Gone
        plain part js r cut j g =
            let same : js ≡ ks = cc g in
            let first : kept_as part b.reading.kept c ≡ d = cc g in
            next_gone Keep n (by_fate Keep e ∙ ap (λ (o : Bool). cond o (Some (kind.LeftOut, 106)) None) cut)
            (subst (λ (u : ℕ). comes_next (u ∷ ks) c ≡ true) first (as_next part b.reading.kept ks c)) i (inr (j ∙ ap Some same))

        cut_gone : (line : ℕ) (js : List ℕ) → b.reading.part ≡ InNotes line → is_cut lines macros b x xs ≡ true → Coming next xs ≡ Some js → js ≡ d ∷ ks → Gone
        cut_gone line js r cut j g =
            let over : nat_le (length (whole_of line (kept_at_end lines macros b (x ∷ xs)))) (length b.reading.kept) ≡ true = ap (λ (u : Part). is_cut_by u b.reading.kept (kept_at_end lines macros b (x ∷ xs))) (sym r) ∙ cut in
            let outside = cut_outside limits head lines macros at_end ending b x xs line (d ∷ ks) r follows.coming_is over in
            let less = leb-true _ _ over in
            let small : length (whole_of line (kept_at_end lines macros next xs)) ≤ length b.reading.kept = subst (λ (u : List ℕ). length (whole_of line u) ≤ length b.reading.kept) (all_is lines macros b x xs Keep e) less in
            let one : length next.reading.kept ≡ length b.reading.kept + 1 = ap length kept ∙ length-append b.reading.kept (kept_as b.reading.part b.reading.kept c ∷ []) in
            let mark = cut_ends limits head lines macros at_end ending xs next line js (q ∙ r) (omega (arith, small, one)) j in
            let first : d ≡ mark.mark = cc (g, mark.is) in
            let fate : fate_by lines (InNotes line) b.reading.kept c ≡ Keep = ap (λ (u : Part). fate_by lines u b.reading.kept c) (sym r) ∙ (sym (fate_here lines b x n) ∙ e) in
            let hidden_here : comes_next (d ∷ ks) c ≡ false = mark_not_next lines line d c ks (ap (is_mark lines line) first ∙ mark.marks) (keeps_no_mark lines line b.reading.kept c outside fate) in
            let plain = cut_no_blank lines macros line next xs b.reading.kept c fate outside (kept ∙ ap (λ (u : Part). b.reading.kept ++ kept_as u b.reading.kept c ∷ []) r) small in
            gone (Some (kind.LeftOut, 106)) (d ∷ ks)
            (◌∙◌ {c = Some (kind.LeftOut, 106)} (out_when false false false None (shut false n) hidden_here (keeps_none lines line b.reading.kept c outside fate) (no_code now is m)) (ap (λ (o : Bool). cond o (Some (kind.FurtherBlank, 0)) (Some (kind.LeftOut, 106))) plain))
            (◌∙◌ {c = Some (kind.LeftOut, 106)} (by_fate Keep e) (ap (λ (o : Bool). cond o (Some (kind.LeftOut, 106)) None) cut)) refl (inr (j ∙ ap Some g)) (sym i)

        by : (part : Part) → b.reading.part ≡ part → (o : Bool) → is_cut lines macros b x xs ≡ o → (js : List ℕ) → Coming next xs ≡ Some js
            → cond (is_cut lines macros b x xs) js (kept_as b.reading.part b.reading.kept c ∷ js) ≡ d ∷ ks → Gone
        by part r false cut js j g = plain part js r cut j (ap (λ (u : Part). kept_as u b.reading.kept c ∷ js) (sym r) ∙ (sym (ap (λ (o : Bool). cond o js (kept_as b.reading.part b.reading.kept c ∷ js)) cut) ∙ g))
        by InText r true cut js j g = absurd (true≢false (sym cut ∙ ap (λ (u : Part). is_cut_by u b.reading.kept (kept_at_end lines macros b (x ∷ xs))) r))
        by (InNotes line) r true cut js j g = cut_gone line js r cut j (sym (ap (λ (o : Bool). cond o js (kept_as b.reading.part b.reading.kept c ∷ js)) cut) ∙ g)

    ends_gone : (b.reading.comment && not (c == 10)) ≡ false → fate_at lines b x ≡ Ends → next.reading.comment ≡ false → d ≡ c → (ks ≡ []) ⊎ (Coming next xs ≡ Some ks) → Gone
    ends_gone n e i g more = next_gone Ends n (by_fate Ends e) (subst (λ (u : ℕ). comes_next (u ∷ ks) c ≡ true) (sym g) (as_next (InNotes 0) [] ks c)) i more

    opens_gone : (b.reading.comment && not (c == 10)) ≡ false → fate_at lines b x ≡ Ends → b.reading.part ≡ InText → next.reading.comment ≡ false → Gone
    opens_gone n e r i =
        let j = map_is _ (Coming next xs) (d ∷ ks) (with_part limits head lines macros at_end ending b x xs (d ∷ ks) Ends InText r e follows.coming_is) in
        let is_40 : c ≡ 40 = text_ends (reverse (tokens b.reading.kept)) c (ap (λ (u : Part). fate_by lines u b.reading.kept c) (sym r) ∙ (sym (fate_here lines b x n) ∙ e)) in
        let g = j.2 in
        let first : d ≡ 40 = cc g in
        let same : j.0 ≡ ks = cc g in
        ends_gone n e i (first ∙ sym is_40) (inr (j.1 ∙ ap Some same))

    snippet_gone : (line : ℕ) → (b.reading.comment && not (c == 10)) ≡ false → fate_at lines b x ≡ Ends → b.reading.part ≡ InNotes line → next.reading.comment ≡ false → Gone
    snippet_gone line n e r i = by (c == 124) (Coming next xs) refl (with_part limits head lines macros at_end ending b x xs (d ∷ ks) Ends (InNotes line) r e follows.coming_is)
      where
        by : (m : Bool) (o : Option (List ℕ)) → Coming next xs ≡ o → cond m (option_map (λ (us : List ℕ). c ∷ us) o) (Some (c ∷ or_none o)) ≡ Some (d ∷ ks) → Gone
        by true None f g = absurd (cc)
        by true (Some js) f g = let first : d ≡ c = cc g in let same : js ≡ ks = cc g in ends_gone n e i first (inr (f ∙ ap Some same))
        by false None f g = let first : d ≡ c = cc g in let same : ks ≡ [] = cc g in ends_gone n e i first (inl same)
        by false (Some js) f g = let first : d ≡ c = cc g in let same : js ≡ ks = cc g in ends_gone n e i first (inr (f ∙ ap Some same))

    by_step : (s : Step lines b x next) → findings ≡ from_here p (now_of s ++ Later next xs) → Gone
    by_step (comments e s) is = comments_gone e s.comment_is
    by_step (leaves code n e s) is = leaves_gone code n e s.comment_is is
    by_step (keeps n e s) is = keeps_gone n e s.comment_is s.part_is s.kept_is s.now s.mild is
    by_step (opens n e r s) is = opens_gone n e r s.comment_is
    by_step (splits line n e r m s) is = snippet_gone line n e r s.comment_is
    by_step (closes line n e r m s) is = snippet_gone line n e r (ap (λ (r : Reading). r.comment) s.reading_is)

    pub gone_past : Gone
    gone_past = by_step (step lines macros b x) found_now
