-- Raw parts, span marks and translations of a regular text.
use Rattle.std.proofs.Common.{◌≡◌, ◌≢◌, ℕ, ◌<◌, ◌+◌, ◌-◌, ◌==◌, List, [], ◌∷◌, ◌++◌, Bool, true, false, not, cond, length, refl, sym, ap, ap₂, subst, ◌∙◌, arith, take, drop, get_or, append-nil, append_assoc, length-append, length-drop, ◌≤◌, take_all, slice_index, encode_utf8_all, IsUtf8, Option, Some, None, codes, suc, zero, eq-eqb}
use Rattle.std.specs.Str.{chars}
use Rattle.std.specs.List.{list_all}
use Rattle.std.specs.Cmp.Lexicographic.{pointwise}
use Rattle.std.proofs.lemmas.Bool.{and_parts, not-true, true≢false}
use Rattle.std.proofs.lemmas.Str.{encodes-append, encodes-chars}
use Rattle.gabc_places.specs.TextOfAnInput.{IsText}
use Rattle.gabc_text.specs.declared.span_mark.SpanMark.{SpanMark}
use Rattle.gabc_text.specs.declared.span_mark.SpanMark.TheVariants.{OpensEu, ClosesEu, OpensNlba, ClosesNlba}
use Rattle.gabc_text.specs.declared.regular.Before.{Before}
use Rattle.gabc_text.specs.declared.token.TokenKind.TheVariants as kind
use Rattle.gabc_text.specs.declared.token.RawKind.{RawKind}
use Rattle.gabc_text.specs.declared.token.RawKind.TheVariants.{V, Sp, Alt}
use Rattle.gabc_text.specs.declared.view.PieceKind.TheVariants as piece
use Rattle.gabc_text.specs.Token.{spelling, through, ended_token, ending_of}
use Rattle.gabc_text.specs.ExampleTexts.{beginning_of}
use Rattle.gabc_text.specs.ViewFacts.{ViewFacts, view_facts, span_tags, tags_among}
use Rattle.gabc_text.specs.Printed.{print, print_from, text_of_tokens, text_tokens, printed_piece, translation_tokens}
use Rattle.gabc_text.specs.RegularText.{IsRegularText, has_letter_at, begins_with, mark_at, tag_of, tags_of, text_part, translation_part}
use Rattle.gabc_text.specs.machine.PrintedPieces.{Says, Stable}
use Rattle.gabc_text.specs.machine.RegularBytes.{is_low, IsSpelled, IsWord, IsInner, IsBracketed, IsRun, IsBegun, mark_length, nothing_before}
use Rattle.gabc_text.proofs.RegularBytes.{ascii_spelled, none_spelled, spelled_join, chars_of, is_text, after_is}
use Rattle.gabc_text.proofs.RegularParts.{between_is, nothing_begun, run_begun}
use Rattle.std.proofs.Math.Seq.{take-add, take-append_seam, take-append-add, get_or-append_seam}
use Rattle.std.proofs.lemmas.List.{get_or-drop, take-append-drop}
use Rattle.std.proofs.lemmas.Bool.Decides.{Decides-eqb}
use Rattle.std.proofs.lemmas.Slice.Eq.{starts_is}
use Rattle.gabc_text.proofs.tokens.RawEndingIsMatched.{begins_itself}
use Rattle.gabc_text.proofs.printing.TokensAreReadAgain.{again_by}
use Rattle.gabc_text.proofs.printing.PrintedTextIsKept.{written_append}
use Rattle.gabc_text.proofs.printing.PrintedPiecesAreJoined.{none_taken}
use Rattle.gabc_text.proofs.printing.PrintedTextIsReadAgain.{IsTranslated, Sound}
use Rattle.gabc_text.proofs.printing.RegularTextIsPrinted.{parts_join}
use Rattle.gabc_text.proofs.printing.PrintedViewIsRegular.{read_again, regular_is}

-- ---- what is in brackets

-- what characters without this one end at
through_inner : (x : ℕ) (e inner u : List ℕ) → list_all (λ c. not (x == c)) inner ≡ true → through (x ∷ e) ((inner ++ x ∷ e) ++ u) ≡ Some (inner ++ x ∷ e)
through_inner x e [] u h = rw (eq-eqb x x refl, begins_itself e u) refl
through_inner x e (c ∷ inner) u h =
    let f = and_parts (not (x == c)) (list_all (λ c. not (x == c)) inner) h in
    rw (not-true (x == c) f.0, through_inner x e inner u f.1) refl

bracketed_spelled : (opening closing bytes inner : List ℕ) → list_all is_low opening ≡ true → list_all is_low closing ≡ true → IsSpelled inner bytes → IsSpelled (opening ++ (inner ++ closing)) (opening ++ (bytes ++ closing))
bracketed_spelled opening closing bytes inner h g s =
    spelled_join opening (inner ++ closing) opening (bytes ++ closing) (ascii_spelled opening h) (spelled_join inner closing bytes closing s (ascii_spelled closing g))

-- ---- raw parts

raw_name : RawKind → List ℕ
raw_name V = codes "v>"
raw_name Sp = codes "sp>"
raw_name Alt = codes "alt>"

raw_stable : (raw : RawKind) (inner : List ℕ) → list_all (λ c. not (60 == c)) inner ≡ true → Stable (record { kind = kind.Raw; first = 60; more = raw_name raw ++ (inner ++ ending_of raw) })
unfolding raw_name
raw_stable V inner h = again_by (record { kind = kind.Raw; first = 60; more = codes "v>" ++ (inner ++ codes "</v>") }) refl
    (λ u. ap (ended_token kind.Raw kind.OpenTag 60 (codes "v>") ((inner ++ codes "</v>") ++ u)) (through_inner 60 (codes "/v>") inner u h))
raw_stable Sp inner h = again_by (record { kind = kind.Raw; first = 60; more = codes "sp>" ++ (inner ++ codes "</sp>") }) refl
    (λ u. ap (ended_token kind.Raw kind.OpenTag 60 (codes "sp>") ((inner ++ codes "</sp>") ++ u)) (through_inner 60 (codes "/sp>") inner u h))
raw_stable Alt inner h = again_by (record { kind = kind.Raw; first = 60; more = codes "alt>" ++ (inner ++ codes "</alt>") }) refl
    (λ u. ap (ended_token kind.Raw kind.OpenTag 60 (codes "alt>") ((inner ++ codes "</alt>") ++ u)) (through_inner 60 (codes "/alt>") inner u h))

raw_spelled : (raw : RawKind) (bytes inner : List ℕ) → IsSpelled inner bytes → IsSpelled (60 ∷ raw_name raw ++ (inner ++ ending_of raw)) (60 ∷ raw_name raw ++ (bytes ++ ending_of raw))
unfolding raw_name
raw_spelled V bytes inner s = bracketed_spelled (codes "<v>") (codes "</v>") bytes inner refl refl s
raw_spelled Sp bytes inner s = bracketed_spelled (codes "<sp>") (codes "</sp>") bytes inner refl refl s
raw_spelled Alt bytes inner s = bracketed_spelled (codes "<alt>") (codes "</alt>") bytes inner refl refl s

begins_so : (raw : RawKind) → beginning_of raw ≡ 60 ∷ raw_name raw
unfolding raw_name
begins_so raw = grind arith

pub raw_word : (raw : RawKind) (a b bytes : List ℕ) → a ≡ beginning_of raw → b ≡ ending_of raw → IsBracketed a 60 b bytes → IsWord bytes
raw_word raw a b bytes e f x =
    let same : bytes ≡ 60 ∷ raw_name raw ++ (x.inner ++ ending_of raw) = x.parts ∙ ap₂ (λ (u v : List ℕ). u ++ (x.inner ++ v)) (e ∙ begins_so raw) f in
    record {
      kind = piece.Raw;
      text = 60 ∷ raw_name raw ++ ((x.within).text ++ ending_of raw);
      spells = subst (λ (u : List ℕ). IsSpelled (60 ∷ raw_name raw ++ ((x.within).text ++ ending_of raw)) u) (sym same) (raw_spelled raw x.inner (x.within).text (x.within).spells);
      stable = raw_stable raw (x.within).text (x.within).without;
      says = λ w b. (refl, refl, refl);
      word = refl;
      known = refl;
    }

-- ---- marks

begun_by : (x : SpanMark) → list_all is_low (tag_of x) ≡ true → spelling (printed_piece piece.Mark (tag_of x)) ≡ tag_of x → Stable (printed_piece piece.Mark (tag_of x)) → Says piece.Mark (tag_of x) false false
    → IsBegun (Some x) nothing_before (tag_of x)
begun_by x low same stable says = record {
  pieces = record { kind = piece.Mark; styles = []; text = tag_of x } ∷ [];
  middle = None;
  spells = subst (λ (u : List ℕ). IsSpelled u (tag_of x)) (sym (append-nil (spelling (printed_piece piece.Mark (tag_of x))) ∙ same)) (ascii_spelled (tag_of x) low);
  good = (record { test = λ s. false; styles_are = refl; stable = stable; reads_so = says }, tt);
  known = (refl, tt);
  no_blank = refl;
  last_are = refl;
  marks_are = refl;
  word_is = λ e. absurd (true≢false (sym e));
  middle_in = tt;
  no_middle = λ _. refl;
}

mark_begun : (x : SpanMark) → IsBegun (Some x) nothing_before (tag_of x)
mark_begun x = grind (arith, begun_by)

-- a mark that bytes begin with
pub marked : (x : SpanMark) (l : List ℕ) → mark_at (tag_of x ++ l) ≡ Some x
marked x l = grind arith

starts_so : (x : SpanMark) (l : List ℕ) → begins_with x l ≡ true → l ≡ tag_of x ++ drop (length (tag_of x)) l
starts_so x l e = (starts_is Decides-eqb l (tag_of x) (begins_with x l) refl).0 e

pub begun_with : (x : SpanMark) (l : List ℕ) → mark_at l ≡ Some x → l ≡ tag_of x ++ drop (length (tag_of x)) l
begun_with x l e = by (begins_with OpensEu l) (begins_with ClosesEu l) (begins_with OpensNlba l) (begins_with ClosesNlba l) refl refl refl refl e
  where
    by : (a b c d : Bool) → begins_with OpensEu l ≡ a → begins_with ClosesEu l ≡ b → begins_with OpensNlba l ≡ c → begins_with ClosesNlba l ≡ d
        → cond a (Some OpensEu) (cond b (Some ClosesEu) (cond c (Some OpensNlba) (cond d (Some ClosesNlba) None))) ≡ Some x → l ≡ tag_of x ++ drop (length (tag_of x)) l
    by a b c d f g h i e = grind (arith, starts_so)

-- the first bytes begin with the mark that all begin with
pub mark_stays : (l : List ℕ) (n : ℕ) → mark_length (mark_at l) ≤ n → mark_at (take n l) ≡ mark_at l
mark_stays l n less = by (mark_at l) (mark_at (take n l)) refl refl less
  where
    by : (o p : Option SpanMark) → mark_at l ≡ o → mark_at (take n l) ≡ p → mark_length o ≤ n → mark_at (take n l) ≡ mark_at l
    by None None e f less = f ∙ sym e
    by None (Some x) e f less =
        let whole : l ≡ tag_of x ++ (drop (length (tag_of x)) (take n l) ++ drop n l) =
        sym (take-append-drop n l) ∙ ap (λ (t : List ℕ). t ++ drop n l) (begun_with x (take n l) f) ∙ append_assoc (tag_of x) (drop (length (tag_of x)) (take n l)) (drop n l) in
        absurd (let g = sym e ∙ ap mark_at whole ∙ marked x (drop (length (tag_of x)) (take n l) ++ drop n l) in cc)
    by (Some x) p e f less =
        let front : take n l ≡ tag_of x ++ take (n - length (tag_of x)) (drop (length (tag_of x)) l) =
        ap₂ (λ (k : ℕ) (t : List ℕ). take k t) (let same : n ≡ length (tag_of x) + (n - length (tag_of x)) = omega (arith, less) in same) (begun_with x l e)
        ∙ take-append-add (tag_of x) (drop (length (tag_of x)) l) (n - length (tag_of x)) in
        ap mark_at front ∙ marked x (take (n - length (tag_of x)) (drop (length (tag_of x)) l)) ∙ sym e

pub mark_before_notes : (t rest : List ℕ) → mark_at (t ++ 40 ∷ rest) ≡ mark_at t
mark_before_notes t rest = grind arith

-- the mark that a text begins with
pub mark_is_begun : (l : List ℕ) (o : Option SpanMark) → mark_at l ≡ o → IsBegun o nothing_before (take (mark_length o) l)
mark_is_begun l None e = nothing_begun
mark_is_begun l (Some x) e = subst (IsBegun (Some x) nothing_before) (sym (ap (take (length (tag_of x))) (begun_with x l e) ∙ take-append_seam (tag_of x) (drop (length (tag_of x)) l))) (mark_begun x)

-- ---- translations

translation_stable : (inner : List ℕ) → list_all (λ c. not (93 == c)) inner ≡ true → Stable (record { kind = kind.Translation; first = 91; more = inner ++ 93 ∷ [] })
translation_stable inner h = again_by (record { kind = kind.Translation; first = 91; more = inner ++ 93 ∷ [] }) refl
    (λ u. ap (ended_token kind.Translation kind.OpenTranslation 91 [] ((inner ++ 93 ∷ []) ++ u)) (through_inner 93 [] inner u h))

-- a text and its translation
pub record IsTranslatedText (mark : Option SpanMark) (bytes bs more : List ℕ) : Type 0 where
  pub text : IsText bytes
  pub regular : IsRegularText (chars bytes)
  pub marks : span_tags (chars bytes) ≡ tags_of mark
  pub text_is : bs ≡ encode_utf8_all (text_part (chars bytes))
  pub translation_is : more ≡ encode_utf8_all (translation_part (chars bytes))

module _ (mark : Option SpanMark) (b : Before) (bs more : List ℕ) (x : IsBegun mark b bs) (o : Option (List ℕ)) (stable : IsTranslated o) (spells : IsSpelled (text_of_tokens (translation_tokens o)) more) where
  abbrev v : ViewFacts
  v = record { word_start = false; pieces = x.pieces; centre = x.middle; translation = o }

  sound : Sound v
  sound = grind (arith, none_taken)

  spelled : IsSpelled (print v) (bs ++ more)
  spelled = subst (λ (t : List ℕ). IsSpelled t (bs ++ more)) (sym (written_append (print_from x.middle 0 [] x.pieces) (translation_tokens o)))
      (spelled_join (text_of_tokens (print_from x.middle 0 [] x.pieces)) (text_of_tokens (translation_tokens o)) bs more x.spells spells)

  says : view_facts (chars (bs ++ more)) ≡ v
  says = ap view_facts (chars_of (print v) (bs ++ more) spelled) ∙ read_again v sound

  translated : IsTranslatedText mark (bs ++ more) bs more
  translated = record {
    text = is_text (print v) (bs ++ more) spelled;
    regular = subst IsRegularText (sym (chars_of (print v) (bs ++ more) spelled)) (regular_is v sound x.known refl);
    marks = ap (λ (u : ViewFacts). tags_among u.pieces) says ∙ x.marks_are;
    text_is = x.spells.spelled ∙ ap (λ (u : ViewFacts). encode_utf8_all (text_of_tokens (text_tokens u))) (sym says);
    translation_is = spells.spelled ∙ ap (λ (u : ViewFacts). encode_utf8_all (text_of_tokens (translation_tokens u.translation))) (sym says);
  }

pub untranslated : (mark : Option SpanMark) (b : Before) (bs : List ℕ) → IsBegun mark b bs → IsTranslatedText mark bs bs []
untranslated mark b bs x = subst (λ (u : List ℕ). IsTranslatedText mark u bs []) (append-nil bs) (translated mark b bs [] x None tt none_spelled)

-- letters alone
pub letters : (l : List ℕ) (n : ℕ) → n ≤ length l → IsRun (take n l) → (0 < n → slice_index l 0 ≢ 60) → IsTranslatedText (mark_at (take n l)) (take n l) (take n l) []
letters l n within run first =
    let b = run_begun l n within run in subst (λ (o : Option SpanMark). IsTranslatedText o (take n l) (take n l) []) (sym (none n l first)) (untranslated None b.0 (take n l) b.1)
  where
    none : (n : ℕ) (l : List ℕ) → (0 < n → slice_index l 0 ≢ 60) → mark_at (take n l) ≡ None
    none n l first = grind arith

bracketed_text : (mark : Option SpanMark) (b : Before) (bs more : List ℕ) → IsBegun mark b bs → IsBracketed (91 ∷ []) 93 (93 ∷ []) more → IsTranslatedText mark (bs ++ more) bs more
bracketed_text mark b bs more x y =
    translated mark b bs more x (Some (y.within).text) (translation_stable (y.within).text (y.within).without)
    (subst (λ (t : List ℕ). IsSpelled t more) (sym (append-nil (91 ∷ ((y.within).text ++ 93 ∷ []))))
    (subst (λ (u : List ℕ). IsSpelled (91 ∷ ((y.within).text ++ 93 ∷ [])) u) (sym y.parts) (bracketed_spelled (91 ∷ []) (93 ∷ []) y.inner (y.within).text refl refl (y.within).spells)))

-- ---- where they stand

pub bracketed_is : (l a b : List ℕ) (stop n : ℕ) (x y : Bool) → x ≡ pointwise (λ u v. u == v) a (take (length a) l) → x ≡ true
    → y ≡ pointwise (λ u v. u == v) b (take (length b) (take (length l - (length a + n)) (drop (length a + n) l))) → y ≡ true
    → IsInner stop (take n (take (length l - length a) (drop (length a) l))) → IsBracketed a stop b (take (length a + n + length b) l)
bracketed_is l a b stop n x y e f g h p = grind (arith, after_is, between_is)

-- a text with its translation, if it has one
pub whole : (mark : Option SpanMark) (b : Before) (l : List ℕ) (n r : ℕ) → IsBegun mark b (take n l) → (0 < r → IsBracketed (91 ∷ []) 93 (93 ∷ []) (take r (take (length l - n) (drop n l))))
    → IsTranslatedText mark (take (n + r) l) (take n l) (take r (drop n l))
whole mark b l n r x h = subst (λ (u : List ℕ). IsTranslatedText mark u (take n l) (take r (drop n l))) (sym (take-add n r l)) (by r h)
  where
    by : (r : ℕ) → (0 < r → IsBracketed (91 ∷ []) 93 (93 ∷ []) (take r (take (length l - n) (drop n l)))) → IsTranslatedText mark (take n l ++ take r (drop n l)) (take n l) (take r (drop n l))
    by zero h = translated mark b (take n l) [] x None tt none_spelled
    by (suc r) h =
        bracketed_text mark b (take n l) (take (suc r) (drop n l)) x (subst (λ (u : List ℕ). IsBracketed (91 ∷ []) 93 (93 ∷ []) (take (suc r) u)) (after_is l n) (h (omega arith)))

-- that is all of these bytes
pub parted : (mark : Option SpanMark) (l : List ℕ) (n r : ℕ) → n + r ≡ length l → IsTranslatedText mark (take (n + r) l) (take n l) (take r (drop n l)) → IsTranslatedText mark l (take n l) (drop n l)
parted mark l n r e x = grind (arith, take_all, length-drop)

-- no letter comes next
pub whole_stops : (l : List ℕ) (n r : ℕ) → (n < length l → has_letter_at l n ≡ false) → (0 < r → get_or (take (length l - n) (drop n l)) r 0 ≡ 40) → n + r < length l → has_letter_at l (n + r) ≡ false
whole_stops l n zero h g less = let same : n ≡ n + 0 = omega arith in subst (λ (m : ℕ). has_letter_at l m ≡ false) same (h (omega arith))
whole_stops l n (suc r) h g less = grind (arith, get_or-drop, after_is)

-- ---- no translation

bracket_last : (t prefix : List ℕ) → t ≡ prefix ++ 93 ∷ [] → slice_index t (length t - 1) ≡ 93
bracket_last t prefix e =
    let n = ap (λ (l : List ℕ). length l) e ∙ length-append prefix (93 ∷ []) in
    let at : length t - 1 ≡ length prefix = omega (arith, n) in
    ap (λ (k : ℕ). slice_index t k) at ∙ ap (λ (l : List ℕ). slice_index l (length prefix)) e ∙ get_or-append_seam prefix 93 [] 0

none_there : (a bytes : List ℕ) (o : Option (List ℕ)) → a ++ encode_utf8_all (text_of_tokens (translation_tokens o)) ≡ bytes → (slice_index bytes (length bytes - 1) ≡ 93 → ⊥)
    → encode_utf8_all (text_of_tokens (translation_tokens o)) ≡ []
none_there a bytes None e plain = refl
none_there a bytes (Some t) e plain =
    let last : encode_utf8_all ((91 ∷ (t ++ 93 ∷ [])) ++ []) ≡ encode_utf8_all (91 ∷ t) ++ 93 ∷ [] =
    ap encode_utf8_all (append-nil (91 ∷ (t ++ 93 ∷ []))) ∙ encodes-append (91 ∷ t) (93 ∷ []) ∙ ap (λ (u : List ℕ). encode_utf8_all (91 ∷ t) ++ u) (sym (ascii_spelled (93 ∷ []) refl).spelled) in
    absurd (plain (bracket_last bytes (a ++ encode_utf8_all (91 ∷ t)) (sym e ∙ ap (λ (u : List ℕ). a ++ u) last ∙ sym (append_assoc a (encode_utf8_all (91 ∷ t)) (93 ∷ [])))))

-- a text that does not end with a bracket
pub unbracketed : (bytes : List ℕ) → IsUtf8 bytes → IsRegularText (chars bytes) → (slice_index bytes (length bytes - 1) ≡ 93 → ⊥) → (bytes ≡ encode_utf8_all (text_part (chars bytes))) × ([] ≡ encode_utf8_all (translation_part (chars bytes)))
unbracketed bytes utf8 r plain =
    let joined : encode_utf8_all (text_part (chars bytes)) ++ encode_utf8_all (translation_part (chars bytes)) ≡ bytes =
    sym (encodes-append (text_part (chars bytes)) (translation_part (chars bytes))) ∙ ap encode_utf8_all (parts_join (chars bytes) r) ∙ encodes-chars bytes utf8 in
    let none = none_there (encode_utf8_all (text_part (chars bytes))) bytes (view_facts (chars bytes)).translation joined plain in
    (sym joined ∙ ap (λ (u : List ℕ). encode_utf8_all (text_part (chars bytes)) ++ u) none ∙ append-nil (encode_utf8_all (text_part (chars bytes))), sym none)
