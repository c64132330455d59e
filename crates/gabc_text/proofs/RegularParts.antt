-- Parts of a regular text, one after another.
use Rattle.std.proofs.Common.{◌≡◌, ℕ, ◌<◌, ◌≤◌, ◌+◌, ◌-◌, ◌==◌, List, [], ◌∷◌, ◌++◌, Bool, true, false, not, length, refl, sym, ap, ap₂, subst, ◌∙◌, arith, take, drop, get_or, map, append_assoc, length-append, Option, Some, None, zero, suc, filter, append-nil, codes}
use Rattle.std.specs.Cmp.Lexicographic.{pointwise}
use Rattle.std.proofs.lemmas.Bool.{true≢false, not-false}
use Rattle.std.proofs.lemmas.Bool.Decides.{Decides-eqb}
use Rattle.std.proofs.lemmas.Slice.Eq.{starts_is}
use Rattle.std.proofs.Math.Seq.{take-add, take-append_seam}
use Rattle.std.proofs.lemmas.List.{length-take-le, length-map}
use Rattle.std.specs.List.{list_all}
use Rattle.gabc_places.specs.declared.place.Span.{Span}
use Rattle.gabc_text.specs.declared.styles.Style.{Style}
use Rattle.gabc_text.specs.declared.span_mark.SpanMark.{SpanMark}
use Rattle.gabc_text.specs.declared.regular.Before.{Before}
use Rattle.gabc_text.specs.Token.{spelling}
use Rattle.gabc_text.specs.TagNames.{all_styles, style_name}
use Rattle.gabc_text.specs.View.{PieceFacts, is_same}
use Rattle.gabc_text.specs.ViewFacts.{tags_among}
use Rattle.gabc_text.specs.RegularText.{tags_of}
use Rattle.gabc_text.specs.Printed.{print_from, text_of_tokens, opening_tag, closing_tag}
use Rattle.gabc_text.specs.machine.PrintedPieces.{Good, AllGood}
use Rattle.gabc_text.specs.machine.RegularBytes.{in_style, is_style, word_after, blank_after, first_styles, last_styles, AreApart, printed_text, IsSpelled, IsRun, IsEnclosed, IsPart, IsBegun, nothing_before, is_low}
use Rattle.gabc_text.proofs.printing.PiecesPrintWell.{good_after}
use Rattle.gabc_text.proofs.RegularBytes.{ascii_spelled, spelled_join, one_spelled, none_spelled, after_is, at_blank, blank, blank_good}
use Rattle.gabc_text.proofs.printing.PrintedPiecesAreJoined.{in_styles, good_in, known_in, blank_in, word_in, first_in, last_in, plain_printed, styled_printed, text_join, good_join, known_join, tags_in, tags_join, word_join, word_stays, blank_join, among_more, centre_text, last_join, after_blank, some_blank, apart_none}

-- ---- styles

-- a style is the one that is kept of all
listed_alone : (s : Style) → s ∷ [] ≡ filter (is_same s) all_styles
listed_alone s = grind arith

-- a style that is not the last one
pub apart_style : (last : Option Style) (s : Style) → is_style last s ≡ false → AreApart (in_style last) (s ∷ [])
apart_style last s e = grind arith

-- ---- parts

some_pieces : (ps : List PieceFacts) → blank_after false ps ≡ false → word_after false ps ≡ true → blank_after true ps ≡ false
some_pieces [] e f = absurd (cc)
some_pieces (p ∷ ps) e f = e

run_some : (bs : List ℕ) (r : IsRun bs) → 0 < length bs → blank_after true r.pieces ≡ false
run_some bs r some = some_pieces r.pieces r.no_blank (r.word some)

part_of : (style : Option Style) (test : Style → Bool) (bs inner : List ℕ) (r : IsRun inner) → 0 < length inner → in_style style ≡ filter test all_styles
    → IsSpelled (text_of_tokens (print_from None 0 [] (map (in_styles (in_style style)) r.pieces))) bs → IsPart style bs
part_of style test bs inner r some listed spells =
    let f = run_some inner r some in
    record {
      pieces = map (in_styles (in_style style)) r.pieces;
      spells = spells;
      good = good_in (in_style style) test false false r.pieces listed r.good;
      known = known_in (in_style style) r.pieces r.known;
      some = blank_in (in_style style) true r.pieces ∙ f;
      first_are = first_in (in_style style) r.pieces f;
      last_are = last_in (in_style style) r.pieces f;
      no_mark = tags_in (in_style style) r.pieces ∙ r.no_mark;
      word = word_in (in_style style) false r.pieces ∙ r.word some;
    }

pub plain_part : (bs : List ℕ) → IsRun bs → 0 < length bs → IsPart None bs
plain_part bs r some = part_of None (λ s. false) bs bs r some refl (subst (λ (t : List ℕ). IsSpelled t bs) (sym (plain_printed r.pieces)) r.spells)

-- tags are of ASCII
name_low : (s : Style) → list_all is_low (style_name s ++ codes ">") ≡ true
name_low s = grind arith

opening_spelled : (s : Style) → IsSpelled (spelling (opening_tag s)) (spelling (opening_tag s))
opening_spelled s = ascii_spelled (spelling (opening_tag s)) (name_low s)

closing_spelled : (s : Style) → IsSpelled (spelling (closing_tag s)) (spelling (closing_tag s))
closing_spelled s = ascii_spelled (spelling (closing_tag s)) (name_low s)

pub styled_part : (s : Style) (bs : List ℕ) → IsEnclosed (spelling (opening_tag s)) (spelling (closing_tag s)) bs → IsPart (Some s) bs
styled_part s bs x =
    let r = x.run in
    part_of (Some s) (is_same s) bs x.inner r x.some (listed_alone s)
    (subst (λ (t : List ℕ). IsSpelled t bs) (sym (styled_printed s r.pieces (run_some x.inner r x.some)))
    (subst (λ (u : List ℕ). IsSpelled (spelling (opening_tag s) ++ (printed_text r.pieces ++ spelling (closing_tag s))) u) (sym x.parts)
    (spelled_join (spelling (opening_tag s)) (printed_text r.pieces ++ spelling (closing_tag s)) (spelling (opening_tag s)) (x.inner ++ spelling (closing_tag s)) (opening_spelled s)
    (spelled_join (printed_text r.pieces) (spelling (closing_tag s)) x.inner (spelling (closing_tag s)) r.spells (closing_spelled s)))))

pub styled_so : (s : Style) (a b bs : List ℕ) → a ≡ spelling (opening_tag s) → b ≡ spelling (closing_tag s) → IsEnclosed a b bs → IsPart (Some s) bs
styled_so s a b bs f g x = styled_part s bs (subst (λ (u : List ℕ). IsEnclosed u (spelling (closing_tag s)) bs) f (subst (λ (v : List ℕ). IsEnclosed a v bs) g x))

-- what stands between two texts that are found
pub starts_so : (l a : List ℕ) (r : Bool) → r ≡ pointwise (λ x y. x == y) a (take (length a) l) → r ≡ true → l ≡ a ++ drop (length a) l
starts_so l a r e f = (starts_is Decides-eqb l a r e).0 f

pub taken_first : (l a : List ℕ) → l ≡ a ++ drop (length a) l → take (length a) l ≡ a
taken_first l a e = ap (take (length a)) e ∙ take-append_seam a (drop (length a) l)

pub between_is : (l a b : List ℕ) (n : ℕ) (x y : Bool) → x ≡ pointwise (λ u v. u == v) a (take (length a) l) → x ≡ true
    → y ≡ pointwise (λ u v. u == v) b (take (length b) (take (length l - (length a + n)) (drop (length a + n) l))) → y ≡ true
    → take (length a + n + length b) l ≡ a ++ (take n (drop (length a) l) ++ b)
between_is l a b n x y e f g h = grind (arith, taken_first, starts_so, after_is, take-add, append_assoc)

pub enclosed_is : (l a b : List ℕ) (n : ℕ) (x y : Bool) → x ≡ pointwise (λ u v. u == v) a (take (length a) l) → x ≡ true
    → y ≡ pointwise (λ u v. u == v) b (take (length b) (take (length l - (length a + n)) (drop (length a + n) l))) → y ≡ true
    → 0 < n → n ≤ length (take (length l - length a) (drop (length a) l)) → IsRun (take n (take (length l - length a) (drop (length a) l))) → IsEnclosed a b (take (length a + n + length b) l)
enclosed_is l a b n x y e f g h some less r = grind (arith, after_is, length-take-le, between_is)

-- ---- a part after others

-- where a word stands among pieces, it stands among them after others
word_up : (z : Bool) (ps : List PieceFacts) → word_after false ps ≡ true → word_after z ps ≡ true
word_up z ps e = grind (arith, word_stays)

-- pieces without a mark after others
tags_more : (ps qs : List PieceFacts) (mark : Option SpanMark) → tags_among ps ≡ tags_of mark → tags_among qs ≡ [] → tags_among (ps ++ qs) ≡ tags_of mark
tags_more ps qs mark e f = tags_join ps qs ∙ ap₂ (λ (a b : List (List ℕ)). a ++ b) e f ∙ append-nil (tags_of mark)

module _ (mark : Option SpanMark) (b : Before) (style : Option Style) (bs more : List ℕ) (x : IsBegun mark b bs) (p : IsPart style more) where
  abbrev after : Before
  after = record { style = style; word = true; centre = b.centre }

  pub more_begun : AreApart (in_style b.style) (in_style style) → IsBegun mark after (bs ++ more)
  more_begun h =
      let apart : AreApart (last_styles [] x.pieces) (first_styles p.pieces) = subst (λ (u : List Style). AreApart u (first_styles p.pieces)) (sym x.last_are) (subst (λ (u : List Style). AreApart (in_style b.style) u) (sym p.first_are) h) in
      record {
        pieces = x.pieces ++ p.pieces;
        middle = x.middle;
        spells = subst (λ (t : List ℕ). IsSpelled t (bs ++ more)) (sym (text_join x.middle x.pieces p.pieces x.middle_in p.some apart))
            (spelled_join (text_of_tokens (print_from x.middle 0 [] x.pieces)) (text_of_tokens (print_from None 0 [] p.pieces)) bs more x.spells p.spells);
        good = good_join false false x.pieces p.pieces x.good (subst (λ (z : Bool). AllGood (word_after false x.pieces) z p.pieces) (sym x.no_blank) (good_after false (word_after false x.pieces) false false p.pieces p.good (λ e. absurd (cc))));
        known = known_join x.pieces p.pieces x.known p.known;
        no_blank = blank_join false x.pieces p.pieces ∙ some_blank (blank_after false x.pieces) p.pieces p.some;
        last_are = last_join [] x.pieces p.pieces p.some ∙ p.last_are;
        marks_are = tags_more x.pieces p.pieces mark x.marks_are p.no_mark;
        word_is = λ e. word_join false x.pieces p.pieces ∙ word_up (word_after false x.pieces) p.pieces p.word;
        middle_in = among_more x.middle x.pieces p.pieces x.middle_in;
        no_middle = x.no_middle;
      }

  pub blank_begun : b.word ≡ true → IsBegun mark after (bs ++ 32 ∷ more)
  blank_begun e =
      let word = x.word_is e in
      record {
        pieces = x.pieces ++ blank ∷ p.pieces;
        middle = x.middle;
        spells = subst (λ (t : List ℕ). IsSpelled t (bs ++ 32 ∷ more))
            (sym (text_join x.middle x.pieces (blank ∷ p.pieces) x.middle_in (some_blank true p.pieces p.some) (apart_none (last_styles [] x.pieces)) ∙ ap (λ (t : List ℕ). text_of_tokens (print_from x.middle 0 [] x.pieces) ++ t) (after_blank p.pieces)))
            (spelled_join (text_of_tokens (print_from x.middle 0 [] x.pieces)) (32 ∷ text_of_tokens (print_from None 0 [] p.pieces)) bs (32 ∷ more) x.spells
            (spelled_join (32 ∷ []) (text_of_tokens (print_from None 0 [] p.pieces)) (32 ∷ []) more (one_spelled 32 (omega arith) (λ e. omega arith)) p.spells));
        good = good_join false false x.pieces (blank ∷ p.pieces) x.good (
          subst (λ (z : Bool). Good blank z (blank_after false x.pieces)) (sym word) (subst (λ (z : Bool). Good blank true z) (sym x.no_blank) blank_good),
          good_after false true false true p.pieces p.good (λ e. absurd (cc)),
        );
        known = known_join x.pieces (blank ∷ p.pieces) x.known (refl, p.known);
        no_blank = blank_join false x.pieces (blank ∷ p.pieces) ∙ some_blank true p.pieces p.some;
        last_are = last_join [] x.pieces (blank ∷ p.pieces) (some_blank true p.pieces p.some) ∙ p.last_are;
        marks_are = tags_more x.pieces (blank ∷ p.pieces) mark x.marks_are p.no_mark;
        word_is = λ _. word_join false x.pieces (blank ∷ p.pieces) ∙ word_stays p.pieces;
        middle_in = among_more x.middle x.pieces (blank ∷ p.pieces) x.middle_in;
        no_middle = x.no_middle;
      }

-- nothing is begun
pub nothing_begun : IsBegun None nothing_before []
nothing_begun = record {
  pieces = [];
  middle = None;
  spells = none_spelled;
  good = tt;
  known = tt;
  no_blank = refl;
  last_are = refl;
  marks_are = refl;
  word_is = λ g. absurd (true≢false (sym g));
  middle_in = tt;
  no_middle = λ g. refl;
}

-- a run is a text
pub run_begun : (l : List ℕ) (n : ℕ) → n ≤ length l → IsRun (take n l) → (b : Before) × IsBegun None b (take n l)
run_begun l zero within run = (nothing_before, nothing_begun)
run_begun l (suc n) within run = (_, more_begun None nothing_before None [] (take (suc n) l) nothing_begun (plain_part (take (suc n) l) run (omega (arith, length-take-le (suc n) l within))) refl)

-- the centre, whose pieces have no style
centre_begun : (mark : Option SpanMark) (b : Before) (bs more : List ℕ) → IsBegun mark b bs → b.centre ≡ false → IsEnclosed (123 ∷ []) (125 ∷ []) more → IsBegun mark (record { style = None; word = true; centre = true }) (bs ++ more)
centre_begun mark b bs more x h m =
    let r = m.run in
    let some = run_some m.inner m.run m.some in
    let c : Span = record { from = length x.pieces; to = length x.pieces + length r.pieces } in
    let none = x.no_middle h in
    let qs = map (in_styles []) r.pieces in
    let before : IsSpelled (text_of_tokens (print_from None 0 [] x.pieces)) bs = subst (λ (o : Option Span). IsSpelled (text_of_tokens (print_from o 0 [] x.pieces)) bs) none x.spells in
    let inner = printed_text r.pieces in
    record {
      pieces = x.pieces ++ qs;
      middle = Some c;
      spells = subst (λ (t : List ℕ). IsSpelled t (bs ++ more)) (sym (centre_text c x.pieces r.pieces some refl refl))
          (subst (λ (u : List ℕ). IsSpelled (text_of_tokens (print_from None 0 [] x.pieces) ++ 123 ∷ (printed_text r.pieces ++ 125 ∷ [])) (bs ++ u)) (sym m.parts)
          (spelled_join (text_of_tokens (print_from None 0 [] x.pieces)) (123 ∷ (inner ++ 125 ∷ [])) bs (123 ∷ (m.inner ++ 125 ∷ [])) before
          (spelled_join (123 ∷ []) (inner ++ 125 ∷ []) (123 ∷ []) (m.inner ++ 125 ∷ []) (ascii_spelled (123 ∷ []) refl)
          (spelled_join inner (125 ∷ []) m.inner (125 ∷ []) r.spells (ascii_spelled (125 ∷ []) refl)))));
      good = good_join false false x.pieces qs x.good (subst (λ (z : Bool). AllGood (word_after false x.pieces) z qs) (sym x.no_blank)
          (good_after false (word_after false x.pieces) false false qs (good_in [] (λ s. false) false false r.pieces refl r.good) (λ g. absurd (cc))));
      known = known_join x.pieces qs x.known (known_in [] r.pieces r.known);
      no_blank = blank_join false x.pieces qs ∙ some_blank (blank_after false x.pieces) qs (blank_in [] true r.pieces ∙ some);
      last_are = last_join [] x.pieces qs (blank_in [] true r.pieces ∙ some) ∙ last_in [] r.pieces some;
      marks_are = tags_more x.pieces qs mark x.marks_are (tags_in [] r.pieces ∙ r.no_mark);
      word_is = λ _. word_join false x.pieces qs ∙ word_up (word_after false x.pieces) qs (word_in [] false r.pieces ∙ r.word m.some);
      middle_in = (omega arith, omega (arith, length-append x.pieces qs, length-map r.pieces (in_styles [])));
      no_middle = λ g. absurd (true≢false g);
    }

-- ---- where they stand

module _ (mark : Option SpanMark) (b : Before) (l : List ℕ) (n r : ℕ) where
  pub more_step : (style : Option Style) → IsPart style (take r (take (length l - n) (drop n l))) → AreApart (in_style b.style) (in_style style) → IsBegun mark b (take n l)
      → IsBegun mark (record { style = style; word = true; centre = b.centre }) (take (n + r) l)
  more_step style h g x = grind (arith, take-add, more_begun, after_is)

  pub centre_step : IsEnclosed (123 ∷ []) (125 ∷ []) (take r (take (length l - n) (drop n l))) → b.centre ≡ false → IsBegun mark b (take n l)
      → IsBegun mark (record { style = None; word = true; centre = true }) (take (n + r) l)
  centre_step h g x = grind (arith, take-add, centre_begun, after_is)

  pub blank_more_step : (style : Option Style) → not b.word ≡ false → n < length l → get_or l n 0 ≡ 32 → IsPart style (take r (take (length l - (n + 1)) (drop (n + 1) l)))
      → IsBegun mark b (take n l) → IsBegun mark (record { style = style; word = true; centre = b.centre }) (take (n + (r + 1)) l)
  blank_more_step style some less e h x = grind (arith, at_blank, take-add, blank_begun, after_is, not-false)
