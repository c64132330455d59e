-- A printed text is read as it was.
use Rattle.std.proofs.lemmas.List.{reverse-append}
use Rattle.std.proofs.Common.{◌≡◌, ℕ, zero, suc, ◌+◌, ◌-◌, ◌≤◌, ◌==◌, List, [], ◌∷◌, ◌++◌, Bool, true, false, ◌||◌, ◌&&◌, not, cond, refl, sym, ap, ◌∙◌, reverse, append_assoc, append-nil, Option, Some, None, length, length-append, take, arith, codes, option_map, min}
use Rattle.std.proofs.Math.Bool.{and-false}
use Rattle.gabc_places.specs.declared.place.Span.{Span}
use Rattle.gabc_text.specs.declared.styles.Style.{Style}
use Rattle.gabc_text.specs.declared.token.TokenKind.{TokenKind}
use Rattle.gabc_text.specs.declared.token.TokenKind.TheVariants as kind
use Rattle.gabc_text.specs.Token.{Token, tokens, tokens_after, token_at, tag_at, token_of_tag, ended_token, through, single, dollar_at, is_blank, is_one_of}
use Rattle.gabc_text.specs.View.{along, is_word_kind, has_word, follows_blank, starts_word, pieces_at, PieceFacts, is_blank_piece, is_translation, is_end, has_begin, has_end, count_pieces}
use Rattle.gabc_text.proofs.printing.ViewFromFirstToken.{pieces_of, view, view_by, translation_by, translation_from, begin_at, end_at, centre_by}
use Rattle.gabc_text.specs.ViewFacts.{ViewFacts, but_blank, LiesAmong}
use Rattle.gabc_text.specs.Printed.{print_tokens, print_from, translation_tokens, word_break, printed_piece, tokens_between, brace_tokens, print}
use Rattle.gabc_text.specs.declared.token.TagEffect.{TagEffect}
use Rattle.gabc_text.proofs.tokens.CasesOfCharacters.{by_case}
use Rattle.gabc_text.proofs.printing.PrintedBracesGiveCentre.{at_start, centre_from, no_centre, gap_silent}
use Rattle.gabc_text.proofs.printing.TokensAreReadAgain.{AllStable, written_stable, IsReadAgain, token_again}
use Rattle.gabc_text.proofs.printing.PrintedTagsOpenStyles.{push_append, along_append}
use Rattle.gabc_text.proofs.printing.PrintedPiecesAreReadAgain.{AllSilent, silent_word, silent_blank, silent_starts, does, printed_kind, pieces_again}
use Rattle.gabc_text.proofs.printing.PiecesPrintWell.{pieces_good, good_along, tokens_fine}
use Rattle.gabc_text.proofs.machine.TokensOneAfterAnother.{onto}
use Rattle.gabc_text.specs.machine.PrintedPieces.{AllGood, Good, Stable}
use Rattle.gabc_text.proofs.printing.LineFeedBeginsWord.{Alike}

-- ---- all that is printed is stable

silent_stable : (ks : List Token) → AllSilent ks → AllStable ks
silent_stable [] h = tt
silent_stable (k ∷ ks) h = ((h.0).stable, silent_stable ks h.1)

stable_append : (ks ls : List Token) → AllStable ks → AllStable ls → AllStable (ks ++ ls)
stable_append [] ls h g = g
stable_append (k ∷ ks) ls h g = (h.0, stable_append ks ls h.1 g)

stable_from : (centre : Option Span) (i : ℕ) (old : List Style) (ps : List PieceFacts) (w b : Bool) → AllGood w b ps → AllStable (print_from centre i old ps)
stable_from centre i old [] w b g = silent_stable (tokens_between old [] (brace_tokens centre i)) (gap_silent centre i old [])
stable_from centre i old (p ∷ ps) w b g =
    stable_append (tokens_between old p.styles (brace_tokens centre i)) (printed_piece p.kind p.text ∷ print_from centre (i + 1) p.styles ps)
    (silent_stable (tokens_between old p.styles (brace_tokens centre i)) (gap_silent centre i old p.styles))
    ((g.0).stable, stable_from centre (i + 1) p.styles ps (is_word_kind (Some p.kind) || w) (is_blank_piece p.kind) g.1)

-- ---- no blank at the end

no_blank_after : (w b : Bool) (q : PieceFacts) → Good q w b → is_blank_piece q.kind ≡ true → b ≡ false
no_blank_after w b q g e = grind arith

last_once : (w b : Bool) (ps : List PieceFacts) → AllGood w b ps → but_blank (but_blank ps) ≡ but_blank ps
last_once w b [] g = refl
last_once w b (p ∷ []) g = grind arith
last_once w b (p ∷ q ∷ []) g = grind (arith, no_blank_after)
last_once w b (p ∷ q ∷ r ∷ ps) g = ap (λ (x : List PieceFacts). p ∷ x) (last_once (is_word_kind (Some p.kind) || w) (is_blank_piece p.kind) (q ∷ r ∷ ps) g.1)

-- ---- the word start

starts_from : (centre : Option Span) (i : ℕ) (old : List Style) (ps : List PieceFacts) (w b : Bool) (before : List Token) → has_word before ≡ w → (w ≡ true → follows_blank before ≡ b) → AllGood w b ps
    → starts_word (onto (print_from centre i old ps) before) ≡ starts_word before
starts_from centre i old [] w b before e f g = silent_starts before (tokens_between old [] (brace_tokens centre i)) (gap_silent centre i old [])
starts_from centre i old (p ∷ ps) w b before e f g =
    let gap = tokens_between old p.styles (brace_tokens centre i) in
    let silent = gap_silent centre i old p.styles in
    let d = does p w b (onto gap before) g.0 (silent_word before gap silent ∙ e) (λ x. silent_blank before gap silent ∙ f x) in
    ap starts_word (push_append gap (printed_piece p.kind p.text ∷ print_from centre (i + 1) p.styles ps) before)
    ∙ starts_from centre (i + 1) p.styles ps (is_word_kind (Some p.kind) || w) (is_blank_piece p.kind) (printed_piece p.kind p.text ∷ onto gap before) d.word (λ x. d.blank) g.1
    ∙ d.starts ∙ silent_starts before gap silent

-- ---- the translation

no_translation : (k : Token) (ks : List Token) → is_translation k.kind ≡ false → translation_from (k ∷ ks) ≡ translation_from ks
no_translation k ks e = grind arith

silent_translation : (ks ls : List Token) → AllSilent ks → translation_from (ks ++ ls) ≡ translation_from ls
silent_translation [] ls h = refl
silent_translation (k ∷ ks) ls h = no_translation k (ks ++ ls) (h.0).no_translation ∙ silent_translation ks ls h.1

translation_after : (centre : Option Span) (i : ℕ) (old : List Style) (ps : List PieceFacts) (w b : Bool) (ls : List Token) → AllGood w b ps
    → translation_from (print_from centre i old ps ++ ls) ≡ translation_from ls
translation_after centre i old [] w b ls g = silent_translation (tokens_between old [] (brace_tokens centre i)) ls (gap_silent centre i old [])
translation_after centre i old (p ∷ ps) w b ls g =
    let gap = tokens_between old p.styles (brace_tokens centre i) in
    let more = print_from centre (i + 1) p.styles ps in
    ap translation_from (append_assoc gap (printed_piece p.kind p.text ∷ more) ls)
    ∙ silent_translation gap (printed_piece p.kind p.text ∷ more ++ ls) (gap_silent centre i old p.styles)
    ∙ no_translation (printed_piece p.kind p.text) (more ++ ls) (printed_kind (λ (d : TokenKind). is_translation d ≡ false) refl refl refl refl p w b g.0)
    ∙ translation_after centre (i + 1) p.styles ps (is_word_kind (Some p.kind) || w) (is_blank_piece p.kind) ls g.1

-- ---- the translation of a text

-- a translation that is read again
abbrev pub IsTranslated : Option (List ℕ) → Type 0
IsTranslated None = Unit {0}
IsTranslated (Some s) = Stable (record { kind = kind.Translation; first = 91; more = s ++ 93 ∷ [] })

-- a translation's token
record Bracketed (k : Token) : Type 0 where
  s : List ℕ
  first_is : k.first ≡ 91
  more_is : k.more ≡ s ++ 93 ∷ []

through_ends : (x : ℕ) (t y : List ℕ) → through (x ∷ []) t ≡ Some y → (s : List ℕ) × (y ≡ s ++ x ∷ [])
through_ends x [] y e = absurd (cc)
through_ends x (c ∷ t) y e = by (x == c && true) (through (x ∷ []) t) e (λ z f. through_ends x t z f) refl
  where
    by : (b : Bool) (o : Option (List ℕ)) → cond b (Some (x ∷ [])) (option_map (λ s. c ∷ s) o) ≡ Some y
        → ((z : List ℕ) → through (x ∷ []) t ≡ Some z → (s : List ℕ) × (z ≡ s ++ x ∷ [])) → through (x ∷ []) t ≡ o → (s : List ℕ) × (y ≡ s ++ x ∷ [])
    by true o e f g = ([], (let h : y ≡ x ∷ [] = cc in h))
    by false None e f g = absurd (cc)
    by false (Some z) e f g =
        let r = f z g in
        (c ∷ r.0, (let h : y ≡ c ∷ z = cc in h ∙ ap (λ (u : List ℕ). c ∷ u) r.1))

abbrev BracketAt : List ℕ → ℕ → Type 0
BracketAt t c = (token_at c t).kind ≡ kind.Translation → Bracketed (token_at c t)

token_bracket : (c : ℕ) (t : List ℕ) → BracketAt t c
token_bracket c t =
    by_case 36 c (BracketAt t) (λ e. absurd (dollar t e)) (λ e36.
    by_case 37 c (BracketAt t) (λ e. absurd (cc)) (λ e37.
    by_case 60 c (BracketAt t) (λ e. absurd (tag t (through (codes ">") t) e)) (λ e60.
    by_case 91 c (BracketAt t) (bracket t (through (codes "]") t) refl) (λ e91.
    λ e. absurd (let f : single c ≡ kind.Translation = rw (e36, e37, e60, e91) at e in one (is_blank c) (is_one_of (codes ")]>") c) (c == 123) (c == 125) f)))))
  where
    dollar : (t : List ℕ) → (dollar_at t).kind ≡ kind.Translation → ⊥
    dollar t e = grind arith

    tag_by : (name v : List ℕ) (s : TagEffect) → (token_of_tag name v s).kind ≡ kind.Translation → ⊥
    tag_by name v s e = grind arith

    tag : (t : List ℕ) (o : Option (List ℕ)) → (tag_at t o).kind ≡ kind.Translation → ⊥
    tag t o e = grind (arith, tag_by)

    bracket : (t : List ℕ) (o : Option (List ℕ)) → through (93 ∷ []) t ≡ o → (ended_token kind.Translation kind.OpenTranslation 91 [] t o).kind ≡ kind.Translation
        → Bracketed (ended_token kind.Translation kind.OpenTranslation 91 [] t o)
    bracket t o g e = grind (arith, through_ends)

    one : (a b d e : Bool) → cond a kind.Blank (cond b kind.Stray (cond d kind.Begin (cond e kind.End kind.Letter))) ≡ kind.Translation → ⊥
    one a b d e f = grind arith

but_last : (s : List ℕ) → take (length (s ++ 93 ∷ []) - 1) (s ++ 93 ∷ []) ≡ s
but_last s =
    let e : length (s ++ 93 ∷ []) - 1 ≡ length s = omega (arith, length-append s (93 ∷ [])) in
    rw e (prefix s)
  where
    prefix : (s : List ℕ) → take (length s) (s ++ 93 ∷ []) ≡ s
    prefix [] = refl
    prefix (c ∷ s) = ap (λ (u : List ℕ). c ∷ u) (prefix s)

translation_one : (k : Token) (others : Option (List ℕ)) → IsReadAgain k → (k.kind ≡ kind.Translation → Bracketed k) → IsTranslated others → IsTranslated (translation_by k.kind k.more others)
translation_one k others f g h = grind (arith, but_last)

translation_fine : (n : ℕ) (t : List ℕ) → IsTranslated (translation_from (tokens_after n t))
translation_fine n [] = tt
translation_fine (suc n) (c ∷ t) = translation_fine n t
translation_fine zero (c ∷ t) = by (c == 40) (translation_fine (length (token_at c t).more) t)
  where
    by : (b : Bool) → IsTranslated (translation_from (tokens_after (length (token_at c t).more) t)) → IsTranslated (translation_from (cond b [] (token_at c t ∷ tokens_after (length (token_at c t).more) t)))
    by true f = tt
    by false f = translation_one (token_at c t) (translation_from (tokens_after (length (token_at c t).more) t)) (token_again c t) (token_bracket c t) f

-- ---- the centre of a text

-- the first of the ends is no less
abbrev FirstAtLeast : ℕ → List ℕ → Type 0
FirstAtLeast n [] = Unit {0}
FirstAtLeast n (x ∷ xs) = n ≤ x

ends_later : (n : ℕ) (before ks : List Token) → n ≤ count_pieces before → FirstAtLeast n (along end_at before ks)
ends_later n before [] h = tt
ends_later n before (k ∷ ks) h =
    by (is_end k.kind && has_begin before && not (has_end before)) (ends_later n (k ∷ before) ks (let e : count_pieces (k ∷ before) ≡ count_pieces before + length (pieces_at before k) = refl in omega arith))
  where
    by : (b : Bool) → FirstAtLeast n (along end_at (k ∷ before) ks) → FirstAtLeast n (cond b (count_pieces before ∷ []) [] ++ along end_at (k ∷ before) ks)
    by b f = grind arith

abbrev Ordered : List ℕ → List ℕ → Type 0
Ordered [] ys = Unit {0}
Ordered (x ∷ xs) ys = FirstAtLeast x ys

in_order : (before ks : List Token) → has_begin before ≡ false → Ordered (along begin_at before ks) (along end_at before ks)
in_order before [] h = tt
in_order before (k ∷ ks) h = grind (arith, and-false, begin_at, end_at, ends_later, in_order (k ∷ before) ks)

centre_fine : (n : ℕ) (xs ys : List ℕ) → Ordered xs ys → LiesAmong n (centre_by n xs ys)
centre_fine n xs ys h = grind arith

-- ---- a view that is printed and read

-- what a text's view is
pub record Sound (v : ViewFacts) : Type 0 where
  pub good : AllGood false false v.pieces
  pub no_last : but_blank v.pieces ≡ v.pieces
  pub centre_in : LiesAmong (length v.pieces) v.centre
  pub translation_in : IsTranslated v.translation

pub view_sound : (t : List ℕ) → Sound (view t)
view_sound t = record {
  good = pieces_good t;
  no_last = last_once false false (along pieces_at [] (tokens t)) (good_along [] (tokens t) (tokens_fine 0 t));
  centre_in = centre_fine (length (pieces_of (tokens t))) (along begin_at [] (tokens t)) (along end_at [] (tokens t)) (in_order [] (tokens t) refl);
  translation_in = translation_fine 0 t;
}

-- the tokens of the word start give nothing but it
record Opening (ks : List Token) (starts : Bool) : Type 0 where
  alike : Alike (onto ks []) []
  stable : AllStable ks
  pieces : along pieces_at [] ks ≡ []
  begins : along begin_at [] ks ≡ []
  ends : along end_at [] ks ≡ []
  starts_are : starts_word (onto ks []) ≡ starts
  translation : (ls : List Token) → translation_from (ks ++ ls) ≡ translation_from ls

opening_of : (b : Bool) → Opening (word_break b) b
opening_of b = grind arith

-- the translation gives nothing but itself
record Closing (ks : List Token) (tr : Option (List ℕ)) : Type 0 where
  stable : AllStable ks
  pieces : (before : List Token) → along pieces_at before ks ≡ []
  begins : (before : List Token) → along begin_at before ks ≡ []
  ends : (before : List Token) → along end_at before ks ≡ []
  starts : (before : List Token) → starts_word (onto ks before) ≡ starts_word before
  translation : translation_from ks ≡ tr

closing_of : (tr : Option (List ℕ)) → IsTranslated tr → Closing (translation_tokens tr) tr
closing_of tr h = grind (arith, but_last)

same_view : (a b : Bool) (ps qs : List PieceFacts) (c d : Option Span) (x y : Option (List ℕ)) → a ≡ b → ps ≡ qs → c ≡ d → x ≡ y
    → ◌≡◌ {A = ViewFacts} (record { word_start = a; pieces = ps; centre = c; translation = x }) (record { word_start = b; pieces = qs; centre = d; translation = y })
same_view a b ps qs c d x y e f g h = cc

pub reverse_push : (ks before : List Token) → reverse ks ++ before ≡ onto ks before
reverse_push [] before = refl
reverse_push (k ∷ ks) before = ap (λ (x : List Token). x ++ before) (reverse-append (k ∷ []) ks) ∙ append_assoc (reverse ks) (k ∷ []) before ∙ reverse_push ks (k ∷ before)

-- what stands in the middle gives all of it
middle : {X : Type 0} (at : List Token → Token → List X) (ks ms ls : List Token) → along at [] ks ≡ [] → along at (onto (ks ++ ms) []) ls ≡ []
    → along at [] (ks ++ ms ++ ls) ≡ along at (onto ks []) ms
middle at ks ms ls e f = grind (arith, along_append, append-nil)

min_same : (a n : ℕ) → a ≤ n → min a n ≡ a
min_same a n h = omega arith

centre_read : (n : ℕ) (c : Span) (xs ys : List ℕ) → xs ≡ c.from ∷ [] → ys ≡ c.to ∷ [] → c.from ≤ c.to → c.to ≤ n → centre_by n xs ys ≡ Some c
centre_read n c xs ys e f h g = rw (e, f, min_same c.from n (omega arith), min_same c.to n g) refl

pub printed_view : (v : ViewFacts) → Sound v → view_by (print_tokens v) ≡ v
printed_view v s =
    let o = opening_of v.word_start in
    let z = closing_of v.translation s.translation_in in
    let wb = word_break v.word_start in
    let ms = print_from v.centre 0 [] v.pieces in
    let ls = translation_tokens v.translation in
    let pieces : along pieces_at [] (wb ++ ms ++ ls) ≡ v.pieces =
    middle pieces_at wb ms ls o.pieces (z.pieces (onto (wb ++ ms) []))
    ∙ pieces_again v.centre 0 [] v.pieces false false (onto wb []) tt o.alike.styles o.alike.word (λ e. absurd (cc)) s.good in
    let kept : pieces_of (wb ++ ms ++ ls) ≡ v.pieces = ap but_blank pieces ∙ s.no_last in
    let starts : starts_word (reverse (wb ++ ms ++ ls)) ≡ v.word_start =
    ap starts_word (sym (append-nil (reverse (wb ++ ms ++ ls))) ∙ reverse_push (wb ++ ms ++ ls) [] ∙ push_append (wb ++ ms) ls [])
    ∙ z.starts (onto (wb ++ ms) []) ∙ ap starts_word (push_append wb ms [])
    ∙ starts_from v.centre 0 [] v.pieces false false (onto wb []) o.alike.word (λ e. absurd (cc)) s.good ∙ o.starts_are in
    let tr : translation_from (wb ++ ms ++ ls) ≡ v.translation =
    ap translation_from (append_assoc wb ms ls) ∙ o.translation (ms ++ ls)
    ∙ translation_after v.centre 0 [] v.pieces false false ls s.good ∙ z.translation in
    same_view (starts_word (reverse (wb ++ ms ++ ls))) v.word_start (pieces_of (wb ++ ms ++ ls)) v.pieces
    (centre_by (length (pieces_of (wb ++ ms ++ ls))) (along begin_at [] (wb ++ ms ++ ls)) (along end_at [] (wb ++ ms ++ ls))) v.centre
    (translation_from (wb ++ ms ++ ls)) v.translation starts kept
    (ap (λ (x : List PieceFacts). centre_by (length x) (along begin_at [] (wb ++ ms ++ ls)) (along end_at [] (wb ++ ms ++ ls))) kept
    ∙ by v.centre (opening_of v.word_start) (closing_of v.translation s.translation_in) s.centre_in)
    tr
  where
    by : (c : Option Span) → Opening (word_break v.word_start) v.word_start → Closing (translation_tokens v.translation) v.translation → LiesAmong (length v.pieces) c
        → centre_by (length v.pieces) (along begin_at [] (word_break v.word_start ++ print_from c 0 [] v.pieces ++ translation_tokens v.translation))
        (along end_at [] (word_break v.word_start ++ print_from c 0 [] v.pieces ++ translation_tokens v.translation)) ≡ c
    by c o z h = grind (arith, middle, begin_at, no_centre, centre_from, at_start, centre_read, end_at)

-- ---- the law

stable_printed : (v : ViewFacts) → Sound v → AllStable (print_tokens v)
stable_printed v s = grind (arith, stable_append, opening_of, stable_from, closing_of)

-- in front of a text without tokens
pub tokens_before : (v : ViewFacts) → Sound v → (u : List ℕ) → tokens u ≡ [] → tokens (print v ++ u) ≡ print_tokens v
tokens_before v s u e = written_stable (print_tokens v) u (stable_printed v s) ∙ ap (λ (ks : List Token). print_tokens v ++ ks) e ∙ append-nil (print_tokens v)

pub tokens_printed : (t rest : List ℕ) → tokens (print (view t) ++ 40 ∷ rest) ≡ print_tokens (view t)
tokens_printed t rest = tokens_before (view t) (view_sound t) (40 ∷ rest) refl

pub forward_again : (t rest : List ℕ) → view (print (view t) ++ 40 ∷ rest) ≡ view t
forward_again t rest = ap view_by (tokens_printed t rest) ∙ printed_view (view t) (view_sound t)
