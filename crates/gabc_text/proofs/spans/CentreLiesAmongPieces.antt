-- The centre lies among the pieces, and the translation's span stands for what is between its brackets.
use Rattle.std.proofs.Common.{◌≡◌, ℕ, zero, suc, ◌+◌, ◌-◌, ◌≤◌, ◌==◌, ◌&&◌, not, List, [], ◌∷◌, ◌++◌, Bool, true, false, cond, refl, sym, ap, ◌∙◌, append_assoc, append-nil, length, length-append, reverse, Option, Some, None, option_map, arith, slice_range, subst}
use Rattle.std.proofs.lemmas.Bool.{le-ltb, or_parts}
use Rattle.std.proofs.lemmas.Str.{encodes-append}
use Rattle.std.proofs.Math.Seq.{drop-append_seam, take-append_seam}
use lib.Utf8.{encodes}
use Rattle.gabc_places.specs.declared.place.Span.{Span}
use Rattle.gabc_text.specs.declared.token.TokenKind.{TokenKind}
use Rattle.gabc_text.specs.Token.{Token, spelling, tokens, tokens_after, token_at, through}
use Rattle.gabc_text.specs.View.{is_begin, is_end, has_begin, has_end, count_pieces, begin_of, end_of, centre_by, has_translation, is_left_out, is_space, follows_space, kept, kept_at, bytes_of, is_translation}
use Rattle.gabc_text.specs.Events.{kept_of, but_last, is_whole_translation, translation_at}
use Rattle.gabc_text.specs.TextRead.{pieces_in, translation_of, view_in}
use Rattle.gabc_text.specs.Canonical.{span_bytes}
use Rattle.gabc_text.specs.ViewFacts.{StandsFor, LiesAmong, IsTranslation, translation_text, but_end, StandsForView}
use Rattle.gabc_text.proofs.tokens.CasesOfCharacters.{translation_first}
use Rattle.gabc_text.proofs.tokens.CountsOfTexts.{bytes_append}
use Rattle.gabc_text.proofs.machine.LoopOverText.{bytes_encodes}
use Rattle.gabc_text.proofs.machine.TokensOneAfterAnother.{onto}
use Rattle.gabc_text.proofs.events.EventsBuildText.{kept_so, along_onto}
use Rattle.gabc_text.proofs.spans.ViewSpansGiveItsContent.{pieces_facts}
use Rattle.gabc_text.proofs.machine.EventsFromAnyState.{but_end_is}

-- ---- the centre

-- without a `{` no `}` ends a centre
no_end : (before : List Token) → has_begin before ≡ false → end_of before ≡ None
no_end [] e = refl
no_end (k ∷ before) e =
    let h = or_parts (is_begin k.kind) (has_begin before) e in
    rw h.1 (by (is_end k.kind) (no_end before h.1))
  where
    by : (b : Bool) → end_of before ≡ None → cond (b && (false && not (has_end before))) (Some (count_pieces before)) (end_of before) ≡ None
    by b ih = grind arith

begins_within : (before : List Token) (n : ℕ) → begin_of before ≡ Some n → n ≤ count_pieces before
begins_within [] n e = absurd (cc)
begins_within (k ∷ before) n e = grind (arith, begins_within before n)

-- the first `{` stands before its `}`
in_order : (before : List Token) (n m : ℕ) → begin_of before ≡ Some n → end_of before ≡ Some m → n ≤ m
in_order [] n m e f = absurd (cc)
in_order (k ∷ before) n m e f = grind (arith, begins_within, no_end, in_order before n m)

centre_lies : (before : List Token) (count : ℕ) → LiesAmong count (centre_by count (begin_of before) (end_of before))
centre_lies before count = grind (arith, in_order)

-- ---- the translation

-- a translation begins with `[` and ends with `]`
abbrev Bracketed : Token → Type 0
Bracketed k = is_whole_translation k.kind ≡ true → (s : List ℕ) × (k.first ≡ 91) × (k.more ≡ s ++ 93 ∷ [])

through_ends : (t y : List ℕ) → through (93 ∷ []) t ≡ Some y → (s : List ℕ) × (y ≡ s ++ 93 ∷ [])
through_ends [] y e = absurd (cc)
through_ends (c ∷ t) y e = by ((93 == c) && true) (through (93 ∷ []) t) refl e (λ z f. through_ends t z f)
  where
    by : (b : Bool) (o : Option (List ℕ)) → through (93 ∷ []) t ≡ o → cond b (Some (93 ∷ [])) (option_map (λ s. c ∷ s) o) ≡ Some y
        → ((z : List ℕ) → through (93 ∷ []) t ≡ Some z → (s : List ℕ) × (z ≡ s ++ 93 ∷ [])) → (s : List ℕ) × (y ≡ s ++ 93 ∷ [])
    by true o f g ih = ([], (let h : 93 ∷ [] ≡ y = cc in sym h))
    by false None f g ih = absurd (cc)
    by false (Some z) f g ih =
        let r = ih z f in
        let h : c ∷ z ≡ y = cc in
        (c ∷ r.0, sym h ∙ ap (λ (x : List ℕ). c ∷ x) r.1)

at_bracket : (t : List ℕ) → Bracketed (token_at 91 t)
at_bracket t = grind (arith, through_ends)

bracketed : (c : ℕ) (t : List ℕ) → Bracketed (token_at c t)
bracketed c t h = subst (λ (x : ℕ). Bracketed (token_at x t)) (sym (translation_first c t (by (token_at c t).kind h))) (at_bracket t) h
  where
    by : (d : TokenKind) → is_whole_translation d ≡ true → is_translation d ≡ true
    by d h = grind arith

abbrev AllBracketed : List Token → Type 0
AllBracketed [] = Unit {0}
AllBracketed (k ∷ ks) = Bracketed k × AllBracketed ks

all_bracketed : (n : ℕ) (t : List ℕ) → AllBracketed (tokens_after n t)
all_bracketed n [] = tt
all_bracketed (suc n) (c ∷ t) = all_bracketed n t
all_bracketed zero (c ∷ t) = grind (arith, bracketed, all_bracketed (length (token_at c t).more) t)

onto_bracketed : (ks before : List Token) → AllBracketed ks → AllBracketed before → AllBracketed (onto ks before)
onto_bracketed [] before h g = g
onto_bracketed (k ∷ ks) before h g = onto_bracketed ks (k ∷ before) h.1 (h.0, g)

but_last_end : (c : ℕ) (s : List ℕ) (d : ℕ) → but_last c (s ++ d ∷ []) ≡ c ∷ s
but_last_end c [] d = refl
but_last_end c (x ∷ s) d = ap (λ (t : List ℕ). c ∷ t) (but_last_end x s d)

module _ (K : List ℕ) where
  span_stands : (before : List Token) (k : Token) (rest : List ℕ) → is_whole_translation k.kind ≡ true → Bracketed k → K ≡ kept_of before ++ (kept_at before k ++ rest)
      → StandsFor K (translation_at before k) (but_end k.more)
  span_stands before k rest e ok whole =
      let (s, first, more) = ok e in
      let spelled : kept_at before k ≡ k.first ∷ k.more = by k.kind e in
      let inner : but_end k.more ≡ s = ap but_end more ∙ but_end_is s 93 in
      let cut : but_last k.first k.more ≡ 91 ∷ s = ap (but_last k.first) more ∙ but_last_end k.first s 93 ∙ ap (λ (x : ℕ). x ∷ s) first in
      record {
        prefix = kept_of before ++ 91 ∷ [];
        back = 93 ∷ rest;
        parts = whole ∙ ap (λ (x : List ℕ). kept_of before ++ (x ++ rest)) (spelled ∙ ap (λ (x : ℕ). x ∷ k.more) first ∙ ap (λ (x : List ℕ). 91 ∷ x) more) ∙ rw inner (simp append_assoc);
        from_is = sym (bytes_append (kept_of before) (91 ∷ []));
        to_is = ap (λ (x : List ℕ). bytes_of (kept_of before ++ x)) cut ∙ rw inner (ap bytes_of (sym (append_assoc (kept_of before) (91 ∷ []) s)));
      }
    where
      by : (d : TokenKind) → is_whole_translation d ≡ true → cond (is_left_out before d) [] (cond (is_space d) (cond (follows_space before) [] (32 ∷ [])) (spelling k)) ≡ spelling k
      by d f = grind arith

  translation_stands : (before : List Token) (rest : List ℕ) → AllBracketed before → K ≡ kept_of before ++ rest → IsTranslation K (translation_of before) (translation_text before)
  translation_stands [] rest h e = tt
  translation_stands (k ∷ before) rest h e =
      let whole : K ≡ kept_of before ++ (kept_at before k ++ rest) = e ∙ append_assoc (kept_of before) (kept_at before k) rest in
      by (is_whole_translation k.kind) (has_translation before) refl whole (translation_stands before (kept_at before k ++ rest) h.1 whole)
    where
      by : (a b : Bool) → is_whole_translation k.kind ≡ a → K ≡ kept_of before ++ (kept_at before k ++ rest) → IsTranslation K (translation_of before) (translation_text before)
          → IsTranslation K (cond (a && not b) (Some (translation_at before k)) (translation_of before)) (cond (a && not b) (Some (but_end k.more)) (translation_text before))
      by a b f w ih = grind (arith, span_stands)

-- ---- the view

pub view_stands : (t : List ℕ) → StandsForView (kept t) (view_in t) t
view_stands t = record {
  pieces = pieces_facts t;
  centre = centre_lies (reverse (tokens t)) (length (pieces_in t));
  translation = translation_stands (kept t) (onto (tokens t) []) [] (onto_bracketed (tokens t) [] (all_bracketed 0 t) tt) (sym (kept_so (onto (tokens t) []) ∙ along_onto kept_at (tokens t) []) ∙ sym (append-nil (kept_of (onto (tokens t) []))));
}

-- ---- the bytes of a span

middle_of : (f m b : List ℕ) → slice_range (f ++ (m ++ b)) (length f) (length f + length m) ≡ m
middle_of f m b =
    let n : (length f + length m) - length f ≡ length m = omega arith in
    rw (n, drop-append_seam f (m ++ b)) (take-append_seam m b)

pub spanned_is : (K : List ℕ) (s : Span) (m : List ℕ) → StandsFor K s m → span_bytes (encodes K) s ≡ encodes m
spanned_is K s m h = grind (arith, encodes-append, bytes_encodes, length-append, le-ltb, middle_of)
