-- One character that the reading by what is kept goes past.
use Rattle.std.proofs.Common.{◌≡◌, ℕ, Bool, true, false, true≢false, cond, not, ◌&&◌, ◌||◌, ◌==◌, List, [], ◌∷◌, ◌++◌, reverse, length, codes, encode_utf8_all, Option, Some, None, refl, sym, ap, append_assoc, append-nil, ◌⊎◌, inl, inr}
use Rattle.std.specs.List.{list_any}
use Rattle.gabc_places.specs.Fate.{Fate, Keep, Comment, Ends, LeaveOut}
use Rattle.gabc_places.specs.declared.code.Code.{Code}
use Rattle.gabc_places.specs.declared.code.Code.TheVariants.{E1, E2, E3, E6, W4, W7, W8, W10, W3, W5}
use Rattle.gabc_places.specs.declared.code.Finding.{Finding}
use Rattle.gabc_places.specs.declared.place.Char.{Char}
use Rattle.gabc_places.specs.declared.place.Place.{Place}
use Rattle.gabc_text.specs.declared.styles.Style.{Style}
use Rattle.gabc_text.specs.declared.token.TagEffect.{TagEffect}
use Rattle.gabc_text.specs.declared.token.TagEffect.TheVariants as does
use Rattle.gabc_text.specs.declared.token.TokenKind.{TokenKind}
use Rattle.gabc_text.specs.declared.token.TokenKind.TheVariants.{Tag, OpenTranslation}
use Rattle.gabc_text.specs.Token.{Token, tokens}
use Rattle.gabc_text.specs.TagNames.{all_styles}
use Rattle.gabc_text.specs.View.{effect, is_open, has_begin, has_end, codes_at_end, tag_codes_by}
use Rattle.gabc_text.specs.KeptText.{view_of_kept, codes_by, codes_with}
use Rattle.gabc_notes.specs.Events.{ItemText, opens_fusion, closes_fusion, macro_of, is_missing}
use Rattle.gabc_notes.specs.FirstSound.{first_sound}
use Rattle.gabc_notes.specs.KeptNotes as notes
use Rattle.gabc_notes.specs.Table.{gabc}
use Rattle.gabc_nabc.specs.KeptNabc as nabc_text
use Rattle.gabc_nabc.specs.Events.{last_of, before_last}
use Rattle.gabc_patterns.specs.Reads.{whole_front, items_by}
use Rattle.gabc_body.specs.Reading.{Part, InText, InNotes, Reading, BodyRead, at_start, fate_by, kept_as, inner_by, found_at, found_within, found_by, with_found, with_sound, sound_codes, whole_of, with_snippet_ended, past_snippet, with_end, with_fate, past}
use Rattle.gabc_body.specs.Syllable.{UnplacedSyllable, snippet_at}
use Rattle.gabc_body.specs.SpansPast.{open_past}
use Rattle.gabc_body.specs.declared.snippets.Snippet.{Snippet}
use Rattle.gabc_tree.specs.Fates.{fate_at, is_error}
use Rattle.gabc_tree.specs.NotKept.{leaves_out}

-- ---- findings

-- none of these leaves out a character
abbrev pub AreMild : List Finding → Type 0
AreMild [] = Unit {0}
AreMild (f ∷ fs) = (leaves_out f.code ≡ false) × AreMild fs

abbrev pub AreMildCodes : List Code → Type 0
AreMildCodes [] = Unit {0}
AreMildCodes (c ∷ cs) = (leaves_out c ≡ false) × AreMildCodes cs

-- what leaves out a character stands here
abbrev pub AreHere : Place → List Finding → Type 0
AreHere here [] = Unit {0}
AreHere here (f ∷ fs) = ((leaves_out f.code ≡ false) ⊎ (f.place ≡ here)) × AreHere here fs

-- none of these is found if a character is left out
abbrev pub AreOthers : List Finding → Type 0
AreOthers [] = Unit {0}
AreOthers (f ∷ fs) = (is_error f.code ≡ false) × AreOthers fs

abbrev pub AreOtherCodes : List Code → Type 0
AreOtherCodes [] = Unit {0}
AreOtherCodes (c ∷ cs) = (is_error c ≡ false) × AreOtherCodes cs

error_leaves : (c : Code) → leaves_out c ≡ false → is_error c ≡ false
error_leaves E1 h = absurd (true≢false h)
error_leaves E2 h = absurd (true≢false h)
error_leaves E3 h = absurd (true≢false h)
error_leaves _ h = refl

pub mild_others : (fs : List Finding) → AreMild fs → AreOthers fs
mild_others [] h = tt
mild_others (f ∷ fs) h = (error_leaves f.code h.0, mild_others fs h.1)

pub codes_others : (here : Place) (cs : List Code) → AreOtherCodes cs → AreOthers (found_at cs here)
codes_others here [] h = tt
codes_others here (c ∷ cs) h = (h.0, codes_others here cs h.1)

pub both_others : (fs gs : List Finding) → AreOthers fs → AreOthers gs → AreOthers (fs ++ gs)
both_others [] gs h i = i
both_others (f ∷ fs) gs h i = (h.0, both_others fs gs h.1 i)

two_codes : (a b : Bool) (c d : Code) → is_error c ≡ false → is_error d ≡ false → AreOtherCodes (cond a (c ∷ []) [] ++ cond b (d ∷ []) [])
two_codes true true c d h i = (h, (i, tt))
two_codes true false c d h i = (h, tt)
two_codes false true c d h i = (i, tt)
two_codes false false c d h i = tt

pub text_end_others : (before : List Token) → AreOtherCodes (codes_at_end before)
text_end_others before = two_codes (list_any (λ (s : Style). is_open s before) all_styles) (has_begin before && not (has_end before)) W3 W4 refl refl

notes_end_others : (kept : List ℕ) → AreOtherCodes (notes.found_at_end kept)
notes_end_others kept = by (notes.is_snippet kept) (notes.is_fused (notes.items_back kept))
  where
    by : (a b : Bool) → AreOtherCodes (cond a [] (E6 ∷ []) ++ cond b (W10 ∷ []) [])
    by true b = two_codes false b E6 W10 refl refl
    by false b = two_codes true b E6 W10 refl refl

nabc_end_others : (kept : List ℕ) → AreOtherCodes (nabc_text.found_at_end kept)
nabc_end_others kept = by (nabc_text.is_snippet kept)
  where
    by : (a : Bool) → AreOtherCodes (cond a [] (E6 ∷ []))
    by true = tt
    by false = (refl, tt)

sound_others : (sounded : Bool) (first : Option Bool) → AreOtherCodes (sound_codes sounded first)
sound_others true first = tt
sound_others false None = tt
sound_others false (Some true) = (refl, tt)
sound_others false (Some false) = tt

pub mild_here : (here : Place) (fs : List Finding) → AreMild fs → AreHere here fs
mild_here here [] h = tt
mild_here here (f ∷ fs) h = (inl h.0, mild_here here fs h.1)

pub both_here : (here : Place) (fs gs : List Finding) → AreHere here fs → AreHere here gs → AreHere here (fs ++ gs)
both_here here [] gs h i = i
both_here here (f ∷ fs) gs h i = (h.0, both_here here fs gs h.1 i)

pub codes_here : (here : Place) (cs : List Code) → AreHere here (found_at cs here)
codes_here here [] = tt
codes_here here (c ∷ cs) = (inr refl, codes_here here cs)

codes_mild : (here : Place) (cs : List Code) → AreMildCodes cs → AreMild (found_at cs here)
codes_mild here [] h = tt
codes_mild here (c ∷ cs) h = (h.0, codes_mild here cs h.1)

within_mild : (inner here : Place) (cs : List Code) → AreMildCodes cs → AreMild (found_within cs inner here)
within_mild inner here [] h = tt
within_mild inner here (c ∷ cs) h = (h.0, within_mild inner here cs h.1)

one_mild : (c : Code) (o : Bool) → leaves_out c ≡ false → AreMildCodes (cond o (c ∷ []) [])
one_mild c true h = (h, tt)
one_mild c false h = tt

none_or_mild : (c : Code) (o : Bool) → leaves_out c ≡ false → AreMildCodes (cond o [] (c ∷ []))
none_or_mild c true h = tt
none_or_mild c false h = (h, tt)

tags_mild : (opened : Style → Bool) (e : TagEffect) → AreMildCodes (tag_codes_by opened e)
tags_mild opened (does.Opens s) = one_mild W3 (opened s) refl
tags_mild opened (does.Closes s) = none_or_mild W3 (opened s) refl
tags_mild opened does.Other = (refl, tt)
tags_mild opened _ = tt

text_mild_by : (before : List Token) (k : TokenKind) (more : List ℕ) (s : TagEffect) → AreMildCodes (codes_by before k more s)
text_mild_by before Tag more s = tags_mild _ s
text_mild_by before OpenTranslation [] s = one_mild W5 _ refl
text_mild_by before OpenTranslation (c ∷ more) s = tt
text_mild_by before _ more s = tt

text_mild : (before : List Token) → AreMildCodes (codes_with before)
text_mild [] = tt
text_mild (k ∷ before) = text_mild_by before k.kind k.more (effect k)

item_mild : (macros : ℕ) (before : List ItemText) → AreMildCodes (notes.found_of_item macros before)
item_mild macros [] = tt
item_mild macros (i ∷ before) = by ((opens_fusion (Some i) && notes.is_fused before) || (closes_fusion (Some i) && not (notes.is_fused before))) (is_missing macros (macro_of (Some i)))
  where
    by : (o p : Bool) → AreMildCodes (cond o (W10 ∷ []) [] ++ cond p (W8 ∷ []) [])
    by true true = (refl, (refl, tt))
    by true false = (refl, tt)
    by false true = (refl, tt)
    by false false = tt

notes_mild : (macros : ℕ) (kept : List ℕ) → AreMildCodes (notes.found_in_notes macros kept)
notes_mild macros kept = by (notes.is_snippet kept)
  where
    by : (o : Bool) → AreMildCodes (cond o (notes.found_of_item macros (notes.items_back kept)) [])
    by true = item_mild macros (notes.items_back kept)
    by false = tt

code_mild : (before last : List ℕ) (c : ℕ) → AreMildCodes (nabc_text.found_of_code before last c)
code_mild before [] c = tt
code_mild before (a ∷ []) c = one_mild W7 _ refl
code_mild before (a ∷ d ∷ t) c = tt

found_mild : (macros : ℕ) (part : Part) (kept : List ℕ) (inner : Place) (x : Char) → AreMild (found_by macros part kept inner x)
found_mild macros InText kept inner x =
    let ks = reverse (tokens (kept ++ kept_as InText kept x.c ∷ [])) in codes_mild (inner_by InText kept inner x) (codes_with ks) (text_mild ks)
found_mild macros (InNotes line) kept inner x = by (line == 0)
  where
    by : (o : Bool) → AreMild (cond o (found_within (notes.found_in_notes macros (kept ++ x.c ∷ [])) inner x.place) (found_at (nabc_text.found_in_nabc kept x.c) x.place))
    by true = within_mild inner x.place (notes.found_in_notes macros (kept ++ x.c ∷ [])) (notes_mild macros (kept ++ x.c ∷ []))
    by false = codes_mild x.place (nabc_text.found_in_nabc kept x.c) (code_mild (before_last kept) (last_of kept) x.c)

-- ---- what a step leaves

-- nothing more is kept, and this is found
pub record Stays (b next : BodyRead) (comment : Bool) (now : List Finding) : Type 0 where
  pub made_is : next.made ≡ b.made
  pub part_is : next.reading.part ≡ b.reading.part
  pub kept_is : next.reading.kept ≡ b.reading.kept
  pub before_is : next.reading.before ≡ b.reading.before
  pub comment_is : next.reading.comment ≡ comment
  pub found_is : next.found ≡ b.found ++ now

-- the character is kept
pub record Keeps (b : BodyRead) (x : Char) (next : BodyRead) : Type 0 where
  pub made_is : next.made ≡ b.made
  pub part_is : next.reading.part ≡ b.reading.part
  pub kept_is : next.reading.kept ≡ b.reading.kept ++ kept_as b.reading.part b.reading.kept x.c ∷ []
  pub before_is : next.reading.before ≡ b.reading.before
  pub comment_is : next.reading.comment ≡ false
  pub now : List Finding
  pub mild : AreMild now
  pub found_is : next.found ≡ b.found ++ now

-- a text ends, or a snippet and not the syllable: this part begins, before which all that is kept
pub record Parts (b : BodyRead) (x : Char) (next : BodyRead) (before : List ℕ) : Type 0 where
  pub made_is : next.made ≡ b.made
  pub line : ℕ
  pub part_is : next.reading.part ≡ InNotes line
  pub kept_is : next.reading.kept ≡ []
  pub before_is : next.reading.before ≡ before
  pub comment_is : next.reading.comment ≡ false
  pub now : List Finding
  pub here : AreHere x.place now
  pub others : AreOthers now
  pub found_is : next.found ≡ b.found ++ now

-- the syllable ends, of which this is kept
pub record Closes (b : BodyRead) (x : Char) (next : BodyRead) (all : List ℕ) : Type 0 where
  pub syllable : UnplacedSyllable
  pub all_is : syllable.kept ≡ encode_utf8_all all
  pub made_is : next.made ≡ b.made ++ syllable ∷ []
  pub reading_is : next.reading ≡ at_start false
  pub now : List Finding
  pub here : AreHere x.place now
  pub others : AreOthers now
  pub found_is : next.found ≡ b.found ++ now

abbrev pub left_found : Option Code → Place → List Finding
left_found None here = []
left_found (Some code) here = record { place = here; code = code } ∷ []

pub data Step (lines : ℕ) (b : BodyRead) (x : Char) (next : BodyRead) : Type 0 where
  comments : fate_at lines b x ≡ Comment → Stays b next true [] → Step lines b x next
  leaves : (code : Option Code) → (b.reading.comment && not (x.c == 10)) ≡ false → fate_at lines b x ≡ LeaveOut code → Stays b next false (left_found code x.place) → Step lines b x next
  keeps : (b.reading.comment && not (x.c == 10)) ≡ false → fate_at lines b x ≡ Keep → Keeps b x next → Step lines b x next
  opens : (b.reading.comment && not (x.c == 10)) ≡ false → fate_at lines b x ≡ Ends → b.reading.part ≡ InText → Parts b x next (b.reading.kept ++ 40 ∷ []) → Step lines b x next
  splits : (line : ℕ) → (b.reading.comment && not (x.c == 10)) ≡ false → fate_at lines b x ≡ Ends → b.reading.part ≡ InNotes line → (x.c == 124) ≡ true
      → Parts b x next (b.reading.before ++ (whole_of line b.reading.kept ++ x.c ∷ [])) → Step lines b x next
  closes : (line : ℕ) → (b.reading.comment && not (x.c == 10)) ≡ false → fate_at lines b x ≡ Ends → b.reading.part ≡ InNotes line → (x.c == 124) ≡ false
      → Closes b x next (b.reading.before ++ (whole_of line b.reading.kept ++ x.c ∷ [])) → Step lines b x next

-- ---- the end of a snippet

-- the body read with this found at the end of a snippet
record Ended (b e : BodyRead) (here : Place) : Type 0 where
  made_is : e.made ≡ b.made
  reading_is : e.reading ≡ b.reading
  now : List Finding
  all_here : AreHere here now
  others : AreOthers now
  found_is : e.found ≡ b.found ++ now

ended : (line : ℕ) (here : Place) (b : BodyRead) → Ended b (with_snippet_ended line here b) here
ended line here b = by (line == 0)
  where
    by : (o : Bool) → Ended b (cond o (with_sound (first_sound (items_by gabc (whole_front gabc b.reading.kept))) here (with_found (found_at (notes.found_at_end b.reading.kept) here) b)) (with_found (found_at (nabc_text.found_at_end b.reading.kept) here) b)) here
    by true =
        let found = found_at (notes.found_at_end b.reading.kept) here in
        let sounds = found_at (sound_codes b.sounded (first_sound (items_by gabc (whole_front gabc b.reading.kept)))) here in
        record {
          made_is = refl;
          reading_is = refl;
          now = found ++ sounds;
          all_here = both_here here found sounds (codes_here here (notes.found_at_end b.reading.kept)) (codes_here here (sound_codes b.sounded (first_sound (items_by gabc (whole_front gabc b.reading.kept)))));
          others = both_others found sounds (codes_others here (notes.found_at_end b.reading.kept) (notes_end_others b.reading.kept)) (codes_others here (sound_codes b.sounded (first_sound (items_by gabc (whole_front gabc b.reading.kept)))) (sound_others b.sounded (first_sound (items_by gabc (whole_front gabc b.reading.kept)))));
          found_is = append_assoc b.found found sounds;
        }
    by false = record { made_is = refl; reading_is = refl; now = found_at (nabc_text.found_at_end b.reading.kept) here; all_here = codes_here here (nabc_text.found_at_end b.reading.kept); others = codes_others here (nabc_text.found_at_end b.reading.kept) (nabc_end_others b.reading.kept); found_is = refl }

abbrev pub syllable_of : List ℕ → List ℕ → List Snippet → BodyRead → UnplacedSyllable
syllable_of kept t snippets b = record {
  text = view_of_kept t;
  kept = kept;
  snippets = snippets;
  eu = open_past (codes "<eu>") (codes "</eu>") kept (view_of_kept t).pieces b.eu;
  nlba = open_past (codes "<nlba>") (codes "</nlba>") kept (view_of_kept t).pieces b.nlba;
}

snippet_step : (lines line : ℕ) (b e : BodyRead) (x : Char) → Ended b e x.place → (b.reading.comment && not (x.c == 10)) ≡ false → fate_at lines b x ≡ Ends → b.reading.part ≡ InNotes line
    → Step lines b x (past_snippet lines line x.c e)
snippet_step lines line b e x h o fate part = by (x.c == 124) refl
  where
    before_is : e.reading.before ++ (whole_of line e.reading.kept ++ x.c ∷ []) ≡ b.reading.before ++ (whole_of line b.reading.kept ++ x.c ∷ [])
    before_is = ap (λ (r : Reading). r.before ++ (whole_of line r.kept ++ x.c ∷ [])) h.reading_is

    last : UnplacedSyllable
    last =
        let whole = whole_of line e.reading.kept in
        syllable_of (encode_utf8_all (e.reading.before ++ (whole ++ x.c ∷ []))) e.reading.text (e.reading.snippets ++ snippet_at line (length (encode_utf8_all e.reading.before)) (encode_utf8_all whole) ∷ []) e

    by : (mark : Bool) → (x.c == 124) ≡ mark → Step lines b x (past_snippet lines line x.c e)
    by true m = splits line o fate part m (rw m (record { made_is = h.made_is; line = _; part_is = refl; kept_is = refl; before_is = before_is; comment_is = refl; now = h.now; here = h.all_here; others = h.others; found_is = h.found_is }))
    by false m = closes line o fate part m (rw m (record { syllable = last; all_is = ap encode_utf8_all before_is; made_is = ap (λ (ms : List UnplacedSyllable). ms ++ last ∷ []) h.made_is; reading_is = refl; now = h.now; here = h.all_here; others = h.others; found_is = h.found_is }))

-- ---- a character

module _ (lines macros : ℕ) (b : BodyRead) (x : Char) where
  end_step : (b.reading.comment && not (x.c == 10)) ≡ false → fate_at lines b x ≡ Ends → (part : Part) → b.reading.part ≡ part → Step lines b x (with_end lines part b x)
  end_step o fate InText p = opens o fate p (record { made_is = refl; line = 0; part_is = refl; kept_is = refl; before_is = refl; comment_is = refl; now = found_at (codes_at_end (reverse (tokens b.reading.kept))) x.place; here = codes_here x.place (codes_at_end (reverse (tokens b.reading.kept))); others = codes_others x.place (codes_at_end (reverse (tokens b.reading.kept))) (text_end_others (reverse (tokens b.reading.kept))); found_is = refl })
  end_step o fate (InNotes line) p = snippet_step lines line b (with_snippet_ended line x.place b) x (ended line x.place b) o fate p

  fate_step : (b.reading.comment && not (x.c == 10)) ≡ false → (f : Fate) → fate_at lines b x ≡ f → Step lines b x (with_fate lines macros b x f)
  fate_step o Keep e = keeps o e (record { made_is = refl; part_is = refl; kept_is = refl; before_is = refl; comment_is = refl; now = found_by macros b.reading.part b.reading.kept b.reading.inner x; mild = found_mild macros b.reading.part b.reading.kept b.reading.inner x; found_is = refl })
  fate_step o Comment e = comments e (record { made_is = refl; part_is = refl; kept_is = refl; before_is = refl; comment_is = refl; found_is = sym (append-nil b.found) })
  fate_step o (LeaveOut None) e = leaves None o e (record { made_is = refl; part_is = refl; kept_is = refl; before_is = refl; comment_is = refl; found_is = sym (append-nil b.found) })
  fate_step o (LeaveOut (Some code)) e = leaves (Some code) o e (record { made_is = refl; part_is = refl; kept_is = refl; before_is = refl; comment_is = refl; found_is = refl })
  fate_step o Ends e = end_step o e b.reading.part refl

  by_comment : (o : Bool) → (b.reading.comment && not (x.c == 10)) ≡ o → Step lines b x (cond o b (with_fate lines macros b x (fate_by lines b.reading.part b.reading.kept x.c)))
  by_comment true e = comments (ap (λ (o : Bool). cond o Comment (fate_by lines b.reading.part b.reading.kept x.c)) e)
      (record { made_is = refl; part_is = refl; kept_is = refl; before_is = refl; comment_is = is_open b.reading.comment (not (x.c == 10)) e; found_is = sym (append-nil b.found) })
    where
      is_open : (c n : Bool) → (c && n) ≡ true → c ≡ true
      is_open true n e = refl
      is_open false n e = e
  by_comment false e = fate_step e (fate_by lines b.reading.part b.reading.kept x.c) (ap (λ (o : Bool). cond o Comment (fate_by lines b.reading.part b.reading.kept x.c)) e)

  pub step : Step lines b x (past lines macros b x)
  step = by_comment (b.reading.comment && not (x.c == 10)) refl
