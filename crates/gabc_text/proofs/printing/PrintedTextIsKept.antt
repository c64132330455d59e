-- All of a printed text is kept.
use Rattle.std.proofs.Common.{arith, ◌≡◌, ℕ, ◌+◌, ◌==◌, List, [], ◌∷◌, ◌++◌, Bool, true, ◌||◌, cond, refl, sym, ap, ◌∙◌, map, reverse, append_assoc, Some, None, length}
use Rattle.gabc_places.specs.declared.place.Span.{Span}
use Rattle.gabc_text.specs.declared.styles.Style.{Style}
use Rattle.gabc_text.specs.Token.{Token, spelling}
use Rattle.gabc_text.specs.View.{along, PieceFacts, is_word_kind, has_word, follows_blank, is_blank_piece, has_begin, has_end, count_pieces, kept, kept_at}
use Rattle.gabc_text.specs.Canonical.{after_common}
use Rattle.gabc_text.specs.ViewFacts.{ViewFacts, view_facts}
use Rattle.gabc_text.specs.Printed.{print_from, printed_piece, tokens_between, brace_tokens, opening_tag, closing_tag, text_of_tokens, text_tokens, translation_tokens, print_tokens, print}
use Rattle.gabc_text.proofs.printing.PrintedTagsOpenStyles.{along_append}
use Rattle.gabc_text.proofs.printing.PrintedPiecesAreReadAgain.{does, printed_by, silent_word, silent_blank}
use Rattle.gabc_text.proofs.printing.PrintedBracesGiveCentre.{Phase, Allowed, allowed, at_start, gap_by, next_phase, gap_silent, closing_marks, piece_marks, braces_by}
use Rattle.gabc_text.proofs.spans.ViewSpansGiveItsContent.{no_space, kept_spelled}
use Rattle.gabc_text.proofs.printing.ViewFromFirstToken.{view}
use Rattle.gabc_text.proofs.printing.PrintedTextIsReadAgain.{Sound, view_sound, tokens_printed}
use Rattle.gabc_text.proofs.printing.ViewForwardIsViewBackward.{facts_is}
use Rattle.gabc_text.proofs.machine.TokensOneAfterAnother.{onto}
use Rattle.gabc_text.specs.machine.PrintedPieces.{AllGood, Good}
use Rattle.gabc_text.proofs.printing.LineFeedBeginsWord.{break_alike}

pub written_append : (ks ls : List Token) → text_of_tokens (ks ++ ls) ≡ text_of_tokens ks ++ text_of_tokens ls
written_append [] ls = refl
written_append (k ∷ ks) ls = ap (λ (x : List ℕ). spelling k ++ x) (written_append ks ls) ∙ sym (append_assoc (spelling k) (text_of_tokens ks) (text_of_tokens ls))

-- all of these is kept
abbrev Kept : List Token → List Token → Type 0
Kept before ks = along kept_at before ks ≡ text_of_tokens ks

both_kept : (before ks ls : List Token) → Kept before ks → Kept (onto ks before) ls → Kept before (ks ++ ls)
both_kept before ks ls h g = along_append kept_at before ks ls ∙ ap (λ (x : List ℕ). x ++ along kept_at (onto ks before) ls) h ∙ ap (λ (x : List ℕ). text_of_tokens ks ++ x) g ∙ sym (written_append ks ls)

openings : (ss : List Style) (before : List Token) → Kept before (map opening_tag ss)
openings [] before = refl
openings (s ∷ ss) before = ap (λ (x : List ℕ). spelling (opening_tag s) ++ x) (openings ss (opening_tag s ∷ before))

closings : (ss : List Style) (before : List Token) → Kept before (map closing_tag ss)
closings [] before = refl
closings (s ∷ ss) before = ap (λ (x : List ℕ). spelling (closing_tag s) ++ x) (closings ss (closing_tag s ∷ before))

braces_kept : (x y begun ended : Bool) (at : List Token) → Allowed x y begun ended → has_begin at ≡ begun → has_end at ≡ ended → Kept at (braces_by x y)
braces_kept x y begun ended at h1 e f = grind arith

gap_kept : (old new : List Style) (before ms : List Token) → ((at : List Token) → has_begin at ≡ has_begin before → has_end at ≡ has_end before → Kept at ms) → Kept before (tokens_between old new ms)
gap_kept old new before ms h =
    let left = after_common old new in
    let cs = map closing_tag (reverse (after_common old new).0) in
    let m = closing_marks (reverse (after_common old new).0) before in
    both_kept before (map closing_tag (reverse (after_common old new).0) ++ ms) (map opening_tag (after_common old new).1)
    (both_kept before (map closing_tag (reverse (after_common old new).0)) ms (closings (reverse (after_common old new).0) before) (h (onto (map closing_tag (reverse (after_common old new).0)) before) m.begun_is m.ended_is))
    (openings (after_common old new).1 (onto (map closing_tag (reverse (after_common old new).0) ++ ms) before))

piece_kept : (p : PieceFacts) (w b : Bool) (now : List Token) → Good p w b → (w ≡ true → follows_blank now ≡ b) → kept_at now (printed_piece p.kind p.text) ≡ spelling (printed_piece p.kind p.text)
piece_kept p w b now g f = grind (arith, printed_by, no_space, kept_spelled)

one_kept : (now : List Token) (k : Token) (ks : List Token) → kept_at now k ≡ spelling k → Kept (k ∷ now) ks → Kept now (k ∷ ks)
one_kept now k ks e h = ap (λ (x : List ℕ). x ++ along kept_at (k ∷ now) ks) e ∙ ap (λ (x : List ℕ). spelling k ++ x) h

-- the pieces with a centre
kept_from : (c : Span) (i : ℕ) (old : List Style) (ps : List PieceFacts) (w b0 : Bool) (before : List Token) (begun ended : Bool)
    → has_word before ≡ w → (w ≡ true → follows_blank before ≡ b0) → AllGood w b0 ps → count_pieces before ≡ i
    → Phase begun ended c.from c.to i (length ps) → has_begin before ≡ begun → has_end before ≡ ended → Kept before (print_from (Some c) i old ps)
kept_from c i old [] w b0 before begun ended e f g count ph hb he = grind (arith, gap_kept, braces_kept, allowed)
kept_from c i old (p ∷ ps) w b0 before begun ended e f g count ph hb he =
    let gap = tokens_between old p.styles (brace_tokens (Some c) i) in
    let k = printed_piece p.kind p.text in
    let more = print_from (Some c) (i + 1) p.styles ps in
    let silent = gap_silent (Some c) i old p.styles in
    let d = does p w b0 (onto gap before) g.0 (silent_word before gap silent ∙ e) (λ x. silent_blank before gap silent ∙ f x) in
    let q = gap_by old p.styles before c.from c.to i (length (p ∷ ps)) (c.from == i) (c.to == i) begun ended refl refl ph count hb he in
    let m = piece_marks p w b0 (onto gap before) g.0 d in
    both_kept before (tokens_between old p.styles (brace_tokens (Some c) i)) (printed_piece p.kind p.text ∷ print_from (Some c) (i + 1) p.styles ps)
    (gap_kept old p.styles before (brace_tokens (Some c) i) (λ at u v. braces_kept (c.from == i) (c.to == i) begun ended at (allowed (c.from == i) (c.to == i) begun ended c.from c.to i (length (p ∷ ps)) refl refl ph) (u ∙ hb) (v ∙ he)))
    (one_kept (onto gap before) k more (piece_kept p w b0 (onto gap before) g.0 (λ x. silent_blank before gap silent ∙ f x))
    (kept_from c (i + 1) p.styles ps (is_word_kind (Some p.kind) || w) (is_blank_piece p.kind) (k ∷ onto gap before) ((c.from == i) || begun) ((c.to == i) || ended)
    d.word (λ x. d.blank) g.1 (m.count_is ∙ ap (λ (n : ℕ). n + 1) (q.marks).count_is) (next_phase q ph)
    (m.begun_is ∙ (q.marks).begun_is) (m.ended_is ∙ (q.marks).ended_is)))

-- and without one
kept_none : (i : ℕ) (old : List Style) (ps : List PieceFacts) (w b0 : Bool) (before : List Token)
    → has_word before ≡ w → (w ≡ true → follows_blank before ≡ b0) → AllGood w b0 ps → Kept before (print_from None i old ps)
kept_none i old [] w b0 before e f g = gap_kept old [] before [] (λ at u v. refl)
kept_none i old (p ∷ ps) w b0 before e f g =
    let gap = tokens_between old p.styles [] in
    let k = printed_piece p.kind p.text in
    let silent = gap_silent None i old p.styles in
    let d = does p w b0 (onto gap before) g.0 (silent_word before gap silent ∙ e) (λ x. silent_blank before gap silent ∙ f x) in
    both_kept before (tokens_between old p.styles []) (printed_piece p.kind p.text ∷ print_from None (i + 1) p.styles ps)
    (gap_kept old p.styles before [] (λ at u v. refl))
    (one_kept (onto gap before) k (print_from None (i + 1) p.styles ps) (piece_kept p w b0 (onto gap before) g.0 (λ x. silent_blank before gap silent ∙ f x))
    (kept_none (i + 1) p.styles ps (is_word_kind (Some p.kind) || w) (is_blank_piece p.kind) (k ∷ onto gap before) d.word (λ x. d.blank) g.1))

-- the blank before a word, as it is kept
abbrev pub word_kept : Bool → List ℕ
word_kept b = cond b (32 ∷ []) []

pub view_kept : (v : ViewFacts) → Sound v → along kept_at [] (print_tokens v) ≡ word_kept v.word_start ++ text_of_tokens (text_tokens v ++ translation_tokens v.translation)
view_kept v s = grind (arith, append_assoc, along_append, both_kept, kept_none, break_alike, kept_from, at_start)

pub printed_kept : (t rest : List ℕ) → kept (print (view_facts t) ++ 40 ∷ rest) ≡ word_kept (view_facts t).word_start ++ text_of_tokens (text_tokens (view_facts t) ++ translation_tokens (view_facts t).translation)
printed_kept t rest =
    ap (λ (v : ViewFacts). kept (print v ++ 40 ∷ rest)) (facts_is t) ∙ ap (along kept_at []) (tokens_printed t rest) ∙ view_kept (view t) (view_sound t)
    ∙ ap (λ (v : ViewFacts). word_kept v.word_start ++ text_of_tokens (text_tokens v ++ translation_tokens v.translation)) (sym (facts_is t))
