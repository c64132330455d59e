-- Blanks in front of a regular text begin a word, with comments among them or without, and all else is as without them.
use Rattle.std.proofs.Common.{arith, ◌≡◌, ◌≢◌, ◌⊎◌, inl, inr, ℕ, ◌==◌, List, [], ◌∷◌, ◌++◌, Bool, true, false, not, ◌&&◌, if◌then◌else◌, Option, Some, None, is_some, refl, sym, ap, ap₂, ◌∙◌, append-nil, append_assoc, map, reverse, length, drop, encode_utf8_all}
use Rattle.std.proofs.lemmas.Bool.{true≢false, eqb-true, and_parts}
use Rattle.std.proofs.Math.Seq.{drop-append_seam}
use Rattle.gabc_places.specs.declared.place.Place.{Place}
use Rattle.gabc_places.specs.declared.code.Code.{Code}
use Rattle.gabc_places.specs.declared.code.Finding.{Finding}
use Rattle.gabc_text.specs.declared.token.TokenKind.{TokenKind}
use Rattle.gabc_text.specs.declared.token.TagEffect.{TagEffect}
use Rattle.gabc_text.specs.Token.{Token, tokens, is_blank}
use Rattle.gabc_text.specs.View.{along, effect, findings, findings_at, findings_at_end, early_codes, late_codes, found_at, place_of, is_cut, kept, kept_at, has_begin, has_end, follows_space}
use Rattle.gabc_text.specs.Events.{after_tokens}
use Rattle.gabc_text.specs.ViewFacts.{ViewFacts, view_facts, view_facts_by, StandsForView}
use Rattle.gabc_text.specs.TextRead.{view_in}
use Rattle.gabc_text.specs.Canonical.{canonical_text}
use Rattle.gabc_text.specs.Printed.{print, print_tokens, text_of_tokens, text_tokens, translation_tokens, word_break}
use Rattle.gabc_text.specs.PrintedView.{printed_view}
use Rattle.gabc_text.specs.RegularText.{IsRegularText, is_gap, is_gap_after}
use Rattle.gabc_text.proofs.tokens.CasesOfCharacters.{by_case}
use Rattle.gabc_text.proofs.machine.TokenStateByCharacter.{turned}
use Rattle.gabc_text.proofs.machine.TokensOneAfterAnother.{size, after_is, onto}
use Rattle.gabc_text.proofs.tokens.TokensByCharacter.{tokens_first, lacks, lacks_more, before_lacks}
use Rattle.gabc_text.proofs.printing.PrintedTextEndsBeforeNotes.{size_written}
use Rattle.gabc_text.proofs.printing.PrintedTagsOpenStyles.{push_append, along_append}
use Rattle.gabc_text.proofs.printing.LineFeedBeginsWord.{gap, remark, Alike, alike_more, alike_onto, gap_alike, remark_alike, none_alike, gap_begins_word, remark_says_nothing}
use Rattle.gabc_text.proofs.printing.ViewFromFirstToken.{view}
use Rattle.gabc_text.proofs.printing.ViewForwardIsViewBackward.{facts_is}
use Rattle.gabc_text.proofs.printing.PrintedTextIsReadAgain.{Sound, view_sound, reverse_push}
use Rattle.gabc_text.proofs.printing.PrintedTextIsKept.{view_kept, written_append}
use Rattle.gabc_text.proofs.printing.PrintedViewIsReadAgain.{printed_is}
use Rattle.gabc_text.proofs.printing.CanonicalTextIsPrinted.{canonical_is}
use Rattle.gabc_places.proofs.NothingAfterAnEnd.{both_empty}
use Rattle.gabc_text.proofs.printing.RegularTextIsPrinted.{own_form, own_tokens, same_tokens, text_alone}

-- ---- the tokens of a gap

-- a blank, or a comment
abbrev GapToken : Type 0
GapToken = ℕ ⊎ List ℕ

abbrev token_of : GapToken → Token
token_of (inl b) = gap b
token_of (inr u) = remark u

abbrev front : List GapToken → List Token
front ps = map token_of ps

abbrev has_blank : List GapToken → Bool
has_blank [] = false
has_blank (inl b ∷ ps) = true
has_blank (inr u ∷ ps) = has_blank ps

-- the tokens of a gap: one of them is a blank
record Gap (g : List ℕ) : Type 0 where
  pub parts : List GapToken
  pub spelled : text_of_tokens (front parts) ≡ g
  pub first : (t : List ℕ) → tokens (g ++ t) ≡ front parts ++ tokens t
  pub blank : g ≢ [] → has_blank parts ≡ true

one_gap : (b : ℕ) (t : List ℕ) → is_blank b ≡ true → tokens (b ∷ t) ≡ gap b ∷ tokens t
one_gap b t h = by_case 32 b (λ x. is_blank x ≡ true → tokens (x ∷ t) ≡ gap x ∷ tokens t) (λ _. refl)
    (λ n. by_case 9 b (λ x. is_blank x ≡ true → tokens (x ∷ t) ≡ gap x ∷ tokens t) (λ _. refl)
    (λ m. by_case 10 b (λ x. is_blank x ≡ true → tokens (x ∷ t) ≡ gap x ∷ tokens t) (λ _. refl)
    (λ l e. absurd (let f : is_blank b ≡ false = rw (turned 32 b n, turned 9 b m, turned 10 b l) refl in true≢false (sym e ∙ f))))) h

one_remark : (u t : List ℕ) → lacks 10 u ≡ true → tokens (37 ∷ (u ++ 10 ∷ t)) ≡ remark u ∷ gap 10 ∷ tokens t
one_remark u t h =
    tokens_first 37 (u ++ 10 ∷ t) (10 ∷ t) (remark u) refl (ap remark (before_lacks 10 u t h)) refl
    ∙ ap (λ (ks : List Token). remark u ∷ ks) (one_gap 10 t refl)

-- what was read of a comment that is open
abbrev opened : Option (List ℕ) → List ℕ
opened None = []
opened (Some u) = 37 ∷ u

abbrev IsOpened : Option (List ℕ) → Type 0
IsOpened None = Unit {0}
IsOpened (Some u) = lacks 10 u ≡ true

blank_before : (c : ℕ) (g : List ℕ) → is_blank c ≡ true → Gap g → Gap (c ∷ g)
blank_before c g e f = record {
  parts = inl c ∷ f.parts;
  spelled = ap (λ (t : List ℕ). c ∷ t) f.spelled;
  first = λ t. one_gap c (g ++ t) e ∙ ap (λ (ks : List Token). gap c ∷ ks) (f.first t);
  blank = λ _. refl;
}

remark_before : (u g : List ℕ) → lacks 10 u ≡ true → Gap g → Gap (37 ∷ u ++ 10 ∷ g)
remark_before u g l f = record {
  parts = inr u ∷ inl 10 ∷ f.parts;
  spelled = ap (λ (t : List ℕ). 37 ∷ u ++ 10 ∷ t) f.spelled;
  first = λ t. ap (λ (x : List ℕ). tokens (37 ∷ x)) (append_assoc u (10 ∷ g) t) ∙ one_remark u (g ++ t) l ∙ ap (λ (ks : List Token). remark u ∷ gap 10 ∷ ks) (f.first t);
  blank = λ _. refl;
}

gap_after : (o : Option (List ℕ)) (g : List ℕ) → IsOpened o → is_gap_after (is_some o) g ≡ true → Gap (opened o ++ g)
gap_after None [] l h = record { parts = []; spelled = refl; first = λ t. refl; blank = λ n. absurd (n refl) }
gap_after (Some u) [] l h = absurd (cc h)
gap_after None (c ∷ g) l h = by (is_blank c) refl h (λ k. gap_after None g tt k) (λ k. gap_after (Some []) g refl k)
  where
    by : (b : Bool) → is_blank c ≡ b → (if b then is_gap_after false g else ((37 == c) && is_gap_after true g)) ≡ true → (is_gap_after false g ≡ true → Gap g) → (is_gap_after true g ≡ true → Gap (37 ∷ g)) → Gap (c ∷ g)
    by b e h blank comment = grind (arith, blank_before, and_parts, eqb-true)
gap_after (Some u) (c ∷ g) l h = by (10 == c) refl h (λ k. gap_after None g tt k) (λ e k. gap_after (Some (u ++ c ∷ [])) g (lacks_more 10 u c l e) k)
  where
    by : (b : Bool) → (10 == c) ≡ b → is_gap_after (not b) g ≡ true → (is_gap_after false g ≡ true → Gap g) → ((10 == c) ≡ false → is_gap_after true g ≡ true → Gap (37 ∷ (u ++ c ∷ []) ++ g)) → Gap (37 ∷ u ++ c ∷ g)
    by b e h ended more = grind (arith, eqb-true, remark_before, append_assoc)

gap_of : (g : List ℕ) → is_gap g ≡ true → Gap g
gap_of g h = gap_after None g tt h

all_tokens : (g t rest : List ℕ) (f : Gap g) → IsRegularText t → tokens (g ++ (t ++ 40 ∷ rest)) ≡ front f.parts ++ tokens t
all_tokens g t rest f r = f.first (t ++ 40 ∷ rest) ∙ ap (λ (ks : List Token). front f.parts ++ ks) (same_tokens t rest r)

some : (b : ℕ) (g : List ℕ) → b ∷ g ≢ []
some b g e = cc e

-- ---- what is said

front_says : (ps : List GapToken) (ks : List Token) → view_facts_by (front ps ++ ks) ≡ (if has_blank ps then record (view_facts_by ks) { word_start = true } else view_facts_by ks)
front_says [] ks = refl
front_says (inr u ∷ ps) ks = remark_says_nothing u (front ps ++ ks) ∙ front_says ps ks
front_says (inl b ∷ ps) ks = grind (arith, gap_begins_word, front_says ps ks)

pub says_after : (b : ℕ) (g t rest : List ℕ) → is_gap (b ∷ g) ≡ true → IsRegularText t → view_facts (b ∷ g ++ (t ++ 40 ∷ rest)) ≡ record (view_facts t) { word_start = true }
says_after b g t rest h r =
    let f = gap_of (b ∷ g) h in
    ap view_facts_by (all_tokens (b ∷ g) t rest f r) ∙ front_says f.parts (tokens t) ∙ rw (f.blank (some b g)) refl

-- ---- where it ends

pub ends_after_it : (g t rest : List ℕ) → is_gap g ≡ true → IsRegularText t → after_tokens (g ++ (t ++ 40 ∷ rest)) ≡ 40 ∷ rest
ends_after_it g t rest h r =
    let f = gap_of g h in
    let text : text_of_tokens (front f.parts ++ tokens t) ≡ g ++ t =
    written_append (front f.parts) (tokens t) ∙ ap₂ (λ (x y : List ℕ). x ++ y) f.spelled (ap text_of_tokens (own_tokens t r) ∙ own_form t r) in
    after_is (g ++ (t ++ 40 ∷ rest)) ∙ ap (λ (ks : List Token). drop (size ks) (g ++ (t ++ 40 ∷ rest))) (all_tokens g t rest f r)
    ∙ ap (λ (n : ℕ). drop n (g ++ (t ++ 40 ∷ rest))) (size_written (front f.parts ++ tokens t) ∙ ap (λ (x : List ℕ). length x) text)
    ∙ ap (drop (length (g ++ t))) (sym (append_assoc g t (40 ∷ rest))) ∙ drop-append_seam (g ++ t) (40 ∷ rest)

-- ---- what is found

codes_alike : (b c : List Token) (d : TokenKind) (so : TagEffect) → Alike b c → early_codes b d ++ late_codes b d so ≡ early_codes c d ++ late_codes c d so
codes_alike b c d so h = grind arith

no_codes : (p : Place) (cs : List Code) → map (found_at p) cs ≡ [] → cs ≡ []
no_codes p [] e = refl
no_codes p (c ∷ cs) e = absurd (cc)

none_moved : (at to : Place) (b c ks : List Token) → Alike b c → along (findings_at at) c ks ≡ [] → along (findings_at to) b ks ≡ []
none_moved at to b c [] h e = refl
none_moved at to b c (k ∷ ks) h e =
    let f = both_empty (findings_at at c k) (along (findings_at at) (k ∷ c) ks) e in
    ap₂ (λ (xs ys : List Finding). xs ++ ys)
    (ap (map (found_at (place_of to b))) (codes_alike b c k.kind (effect k) h ∙ no_codes (place_of at c) (early_codes c k.kind ++ late_codes c k.kind (effect k)) f.0))
    (none_moved at to (k ∷ b) (k ∷ c) ks (alike_more b c k h) f.1)

cut_alike : (ks b c : List Token) → is_cut b ≡ is_cut c → is_cut (onto ks b) ≡ is_cut (onto ks c)
cut_alike [] b c e = e
cut_alike (k ∷ ks) b c e = cut_alike ks (k ∷ b) (k ∷ c) refl

end_moved : (at to : Place) (b c : List Token) → Alike b c → is_cut b ≡ is_cut c → findings_at_end at c ≡ [] → findings_at_end to b ≡ []
end_moved at to b c h e f = grind arith

front_alike : (ps : List GapToken) (before : List Token) → Alike before [] → Alike (onto (front ps) before) []
front_alike [] before h = h
front_alike (inl b ∷ ps) before h = front_alike ps (gap b ∷ before) (gap_alike b before h)
front_alike (inr u ∷ ps) before h = front_alike ps (remark u ∷ before) (remark_alike u before h)

front_whole : (ps : List GapToken) (before : List Token) → is_cut before ≡ false → is_cut (onto (front ps) before) ≡ false
front_whole [] before h = h
front_whole (inl b ∷ ps) before h = front_whole ps (gap b ∷ before) refl
front_whole (inr u ∷ ps) before h = front_whole ps (remark u ∷ before) refl

none_in_front : (at : Place) (ps : List GapToken) (before : List Token) → along (findings_at at) before (front ps) ≡ []
none_in_front at [] before = refl
none_in_front at (inl b ∷ ps) before = none_in_front at ps (gap b ∷ before)
none_in_front at (inr u ∷ ps) before = none_in_front at ps (remark u ∷ before)

reversed : (ks : List Token) → reverse ks ≡ onto ks []
reversed ks = sym (append-nil (reverse ks)) ∙ reverse_push ks []

pub nothing_after : (at : Place) (g t rest : List ℕ) → is_gap g ≡ true → IsRegularText t → findings at (g ++ (t ++ 40 ∷ rest)) ≡ []
nothing_after at g t rest h r =
    let p = gap_of g h in
    let gs = front p.parts in
    let f = both_empty (along (findings_at at) [] (tokens t)) (findings_at_end at (reverse (tokens t))) (r.nothing at) in
    let alike = front_alike p.parts [] none_alike in
    let last : findings_at_end at (onto (tokens t) []) ≡ [] = ap (findings_at_end at) (sym (reversed (tokens t))) ∙ f.1 in
    ap (λ (ls : List Token). along (findings_at at) [] ls ++ findings_at_end at (reverse ls)) (all_tokens g t rest p r)
    ∙ ap₂ (λ (xs ys : List Finding). xs ++ ys)
    (along_append (findings_at at) [] (gs) (tokens t) ∙ ap₂ (λ (xs ys : List Finding). xs ++ ys) (none_in_front at p.parts []) (none_moved at at (onto (gs) []) [] (tokens t) alike f.0))
    (ap (findings_at_end at) (reversed (gs ++ tokens t) ∙ push_append (gs) (tokens t) [])
    ∙ end_moved at at (onto (tokens t) (onto (gs) [])) (onto (tokens t) []) (alike_onto (tokens t) (onto (gs) []) [] alike) (cut_alike (tokens t) (onto (gs) []) [] (front_whole p.parts [] refl)) last)

-- ---- what is kept

kept_alike : (b c ks : List Token) → has_begin b ≡ has_begin c → has_end b ≡ has_end c → follows_space b ≡ follows_space c → along kept_at b ks ≡ along kept_at c ks
kept_alike b c [] e f g = refl
kept_alike b c (k ∷ ks) e f g = cc (kept_alike (k ∷ b) (k ∷ c) ks (rw e refl) (rw (e, f) refl) (rw (e, f, g) refl))

more_blanks : (ps : List GapToken) (before : List Token) → follows_space before ≡ true → along kept_at before (front ps) ≡ []
more_blanks [] before h = refl
more_blanks (inl b ∷ ps) before h = rw h (more_blanks ps (gap b ∷ before) refl)
more_blanks (inr u ∷ ps) before h = more_blanks ps (remark u ∷ before) h

front_space : (ps : List GapToken) (before : List Token) → follows_space before ≡ true → follows_space (onto (front ps) before) ≡ true
front_space [] before h = h
front_space (inl b ∷ ps) before h = front_space ps (gap b ∷ before) refl
front_space (inr u ∷ ps) before h = front_space ps (remark u ∷ before) h

-- of the first blank one U+0020 is kept, and of all others nothing
one_blank : (ps : List GapToken) (before : List Token) → follows_space before ≡ false → has_blank ps ≡ true → along kept_at before (front ps) ≡ 32 ∷ []
one_blank [] before h e = absurd (cc e)
one_blank (inl b ∷ ps) before h e = rw h (ap (λ (x : List ℕ). 32 ∷ x) (more_blanks ps (gap b ∷ before) refl))
one_blank (inr u ∷ ps) before h e = one_blank ps (remark u ∷ before) h e

last_space : (ps : List GapToken) (before : List Token) → has_blank ps ≡ true → follows_space (onto (front ps) before) ≡ true
last_space [] before e = absurd (cc e)
last_space (inl b ∷ ps) before e = front_space ps (gap b ∷ before) refl
last_space (inr u ∷ ps) before e = last_space ps (remark u ∷ before) e

tail : {xs ys : List ℕ} → 32 ∷ xs ≡ 32 ∷ ys → xs ≡ ys
tail e = cc

-- what is kept after an LF
after_line_feed : (t : List ℕ) → IsRegularText t → along kept_at (gap 10 ∷ []) (tokens t) ≡ t
after_line_feed t r = by (view t) (view_sound t) (ap (λ (v : ViewFacts). v.word_start) (sym (facts_is t)) ∙ r.no_start) (own_tokens t r) (own_form t r)
  where
    by : (v : ViewFacts) → Sound v → v.word_start ≡ false → tokens t ≡ print_tokens v → print v ≡ t → along kept_at (gap 10 ∷ []) (tokens t) ≡ t
    by v s e f g =
        let ks = text_tokens v ++ translation_tokens v.translation in
        let none : word_break v.word_start ≡ [] = ap word_break e in
        let all : tokens t ≡ text_tokens v ++ translation_tokens v.translation = f ∙ ap (λ (x : List Token). x ++ text_tokens v ++ translation_tokens v.translation) none in
        let text : text_of_tokens (text_tokens v ++ translation_tokens v.translation) ≡ t = ap (λ (x : List Token). text_of_tokens (x ++ text_tokens v ++ translation_tokens v.translation)) (sym none) ∙ g in
        let kept : 32 ∷ along kept_at (gap 10 ∷ []) (text_tokens v ++ translation_tokens v.translation) ≡ 32 ∷ text_of_tokens (text_tokens v ++ translation_tokens v.translation) =
        view_kept (record v { word_start = true }) (record { good = s.good; no_last = s.no_last; centre_in = s.centre_in; translation_in = s.translation_in }) in
        ap (along kept_at (gap 10 ∷ [])) all ∙ tail kept ∙ text

pub kept_after : (b : ℕ) (g t rest : List ℕ) → is_gap (b ∷ g) ≡ true → IsRegularText t → kept (b ∷ g ++ (t ++ 40 ∷ rest)) ≡ 32 ∷ t
kept_after b g t rest h r =
    let p = gap_of (b ∷ g) h in
    let blank = p.blank (some b g) in
    let alike = front_alike p.parts [] none_alike in
    ap (along kept_at []) (all_tokens (b ∷ g) t rest p r)
    ∙ along_append kept_at [] (front p.parts) (tokens t)
    ∙ ap₂ (λ (x y : List ℕ). x ++ y) (one_blank p.parts [] refl blank)
    (kept_alike (onto (front p.parts) []) (gap 10 ∷ []) (tokens t) alike.begun alike.ended (last_space p.parts [] blank) ∙ after_line_feed t r)

-- ---- what is printed

printed_so : (v : ViewFacts) → v.word_start ≡ false → print (record v { word_start = true }) ≡ 10 ∷ print v
printed_so v e = cc

pub printed_after : (whole : List ℕ) (b : ℕ) (g t rest : List ℕ) → is_gap (b ∷ g) ≡ true → IsRegularText t → StandsForView whole (view_in (b ∷ g ++ (t ++ 40 ∷ rest))) (b ∷ g ++ (t ++ 40 ∷ rest))
    → printed_view (view_in (b ∷ g ++ (t ++ 40 ∷ rest))) (encode_utf8_all whole) ≡ encode_utf8_all (10 ∷ t)
printed_after whole b g t rest h r s =
    printed_is whole (b ∷ g ++ (t ++ 40 ∷ rest)) s ∙ ap (λ (v : ViewFacts). encode_utf8_all (print v)) (says_after b g t rest h r)
    ∙ ap encode_utf8_all (printed_so (view_facts t) r.no_start ∙ ap (λ (u : List ℕ). 10 ∷ u) r.printed)

pub canonical_after : (whole : List ℕ) (b : ℕ) (g t rest : List ℕ) → is_gap (b ∷ g) ≡ true → IsRegularText t → (view_facts t).translation ≡ None
    → StandsForView whole (view_in (b ∷ g ++ (t ++ 40 ∷ rest))) (b ∷ g ++ (t ++ 40 ∷ rest))
    → canonical_text (view_in (b ∷ g ++ (t ++ 40 ∷ rest))) (encode_utf8_all whole) ≡ encode_utf8_all t
canonical_after whole b g t rest h r n s =
    canonical_is whole (b ∷ g ++ (t ++ 40 ∷ rest)) s ∙ ap (λ (v : ViewFacts). encode_utf8_all (text_of_tokens (text_tokens v))) (says_after b g t rest h r)
    ∙ ap encode_utf8_all (text_alone (view_facts t).word_start (text_tokens (view_facts t)) (view_facts t).translation r.no_start n ∙ r.printed)
