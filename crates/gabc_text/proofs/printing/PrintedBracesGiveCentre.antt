-- Printed braces stand where the centre begins and ends.
use Rattle.std.proofs.Common.{◌≡◌, ℕ, suc, ◌+◌, ◌<◌, ◌≤◌, ◌==◌, List, [], ◌∷◌, ◌++◌, Bool, true, false, ◌||◌, cond, refl, ap, ◌∙◌, map, reverse, append-nil, Option, Some, None, length, arith}
use Rattle.gabc_places.specs.declared.place.Span.{Span}
use Rattle.gabc_text.specs.declared.styles.Style.{Style}
use Rattle.gabc_text.specs.declared.token.TokenKind.TheVariants as kind
use Rattle.gabc_text.specs.Token.{Token}
use Rattle.gabc_text.specs.View.{along, PieceFacts, is_word_kind, has_word, follows_blank, is_blank_piece, has_begin, has_end, count_pieces}
use Rattle.gabc_text.proofs.printing.ViewFromFirstToken.{begin_at, end_at}
use Rattle.gabc_text.specs.Canonical.{after_common}
use Rattle.gabc_text.specs.Printed.{print_from, printed_piece, tokens_between, brace_tokens, opening_tag, closing_tag, begin_brace, end_brace}
use Rattle.gabc_text.proofs.printing.PrintedTagsOpenStyles.{push_append, along_append}
use Rattle.gabc_text.proofs.printing.PrintedPiecesAreReadAgain.{AllSilent, Does, does, no_pieces, opening_silent, closing_silent, silent_word, silent_blank, between_silent, are_braces}
use Rattle.gabc_text.proofs.machine.TokensOneAfterAnother.{onto}
use Rattle.gabc_text.specs.machine.PrintedPieces.{AllGood, Good}
use Rattle.gabc_text.specs.ViewFacts.{LiesAmong}

-- what the tokens ks give of the centre, and what stands after them
pub record Marks (before ks : List Token) (begins ends : List ℕ) (begun ended : Bool) (n : ℕ) : Type 0 where
  pub begins_are : along begin_at before ks ≡ begins
  pub ends_are : along end_at before ks ≡ ends
  pub begun_is : has_begin (onto ks before) ≡ begun
  pub ended_is : has_end (onto ks before) ≡ ended
  pub count_is : count_pieces (onto ks before) ≡ n

pub marks_append : (before ks ls : List Token) (b1 e1 b2 e2 : List ℕ) (x1 y1 x2 y2 : Bool) (n1 n2 : ℕ) → Marks before ks b1 e1 x1 y1 n1 → Marks (onto ks before) ls b2 e2 x2 y2 n2
    → Marks before (ks ++ ls) (b1 ++ b2) (e1 ++ e2) x2 y2 n2
marks_append before ks ls b1 e1 b2 e2 x1 y1 x2 y2 n1 n2 m k = grind (arith, along_append, begin_at, end_at, push_append)

-- a token that gives nothing
pass : (at : List Token → Token → List ℕ) (now : List Token) (k : Token) (ks : List Token) → along at now (k ∷ []) ≡ [] → along at now (k ∷ ks) ≡ along at (k ∷ now) ks
pass at now k ks e = along_append at now (k ∷ []) ks ∙ rw e refl

-- a tag of a style
one_more : (before : List Token) → count_pieces before + 0 ≡ count_pieces before
one_more before = omega arith

tags_marks : (tag : Style → Token) → ((s : Style) → (tag s).kind ≡ kind.Tag) → (ss : List Style) (before : List Token) → AllSilent (map tag ss)
    → Marks before (map tag ss) [] [] (has_begin before) (has_end before) (count_pieces before)
tags_marks tag e [] before h = record { begins_are = refl; ends_are = refl; begun_is = refl; ended_is = refl; count_is = refl }
tags_marks tag e (s ∷ ss) before h = grind (arith, tags_marks tag e ss (tag s ∷ before) h.1, pass, no_pieces, one_more)

pub closing_marks : (ss : List Style) (before : List Token) → Marks before (map closing_tag ss) [] [] (has_begin before) (has_end before) (count_pieces before)
closing_marks ss before = tags_marks closing_tag (λ s. refl) ss before (closing_silent ss)

-- a boundary has the marks of its braces
between_marks : (old new : List Style) (middle before : List Token) (bs es : List ℕ) (x y : Bool) (n : ℕ)
    → ((at : List Token) → has_begin at ≡ has_begin before → has_end at ≡ has_end before → count_pieces at ≡ count_pieces before → Marks at middle bs es x y n)
    → Marks before (tokens_between old new middle) bs es x y n
between_marks old new middle before bs es x y n f =
    let left = after_common old new in
    let c = closing_marks (reverse left.0) before in
    let m = f (onto (map closing_tag (reverse left.0)) before) c.begun_is c.ended_is c.count_is in
    let cm = marks_append before (map closing_tag (reverse left.0)) middle [] [] bs es (has_begin before) (has_end before) x y (count_pieces before) n c m in
    let o = tags_marks opening_tag (λ s. refl) left.1 (onto (map closing_tag (reverse left.0) ++ middle) before) (opening_silent left.1) in
    let all = marks_append before (map closing_tag (reverse left.0) ++ middle) (map opening_tag left.1) bs es [] []
    x y (has_begin (onto (map closing_tag (reverse left.0) ++ middle) before)) (has_end (onto (map closing_tag (reverse left.0) ++ middle) before)) n
    (count_pieces (onto (map closing_tag (reverse left.0) ++ middle) before)) cm o in
    record {
      begins_are = all.begins_are ∙ append-nil bs;
      ends_are = all.ends_are ∙ append-nil es;
      begun_is = all.begun_is ∙ cm.begun_is;
      ended_is = all.ended_is ∙ cm.ended_is;
      count_is = all.count_is ∙ cm.count_is;
    }

-- the braces at a position, by what was printed before: where they may stand
abbrev pub braces_by : Bool → Bool → List Token
braces_by x y = cond x (cond y (begin_brace ∷ end_brace ∷ []) (begin_brace ∷ [])) (cond y (end_brace ∷ []) [])

abbrev pub Allowed : Bool → Bool → Bool → Bool → Type 0
Allowed true y begun ended = (begun ≡ false) × (ended ≡ false)
Allowed false true begun ended = (begun ≡ true) × (ended ≡ false)
Allowed false false begun ended = Unit {0}

abbrev here : Bool → ℕ → List ℕ
here x i = cond x (i ∷ []) []

braces_marks : (x y begun ended : Bool) (at : List Token) (n : ℕ) → Allowed x y begun ended → has_begin at ≡ begun → has_end at ≡ ended → count_pieces at ≡ n
    → Marks at (braces_by x y) (here x n) (here y n) (x || begun) (y || ended) n
braces_marks x y begun ended at n h1 e f g = grind arith

-- ---- what is still to come of the centre

-- from the position i on, where n pieces are to come
pub record Phase (begun ended : Bool) (a b i n : ℕ) : Type 0 where
  pub order : a ≤ b
  pub last : b ≤ i + n
  pub to_begin : begun ≡ false → i ≤ a
  pub has_begun : begun ≡ true → a < i
  pub to_end : ended ≡ false → i ≤ b
  pub has_ended : ended ≡ true → b < i

pub at_start : (c : Span) (n : ℕ) → LiesAmong n (Some c) → Phase false false c.from c.to 0 n
at_start c n h = record { order = h.0; last = omega (arith, h.1); to_begin = λ _. omega arith; has_begun = λ e. absurd (cc); to_end = λ _. omega arith; has_ended = λ e. absurd (cc) }

pub allowed : (x y begun ended : Bool) (a b i n : ℕ) → a == i ≡ x → b == i ≡ y → Phase begun ended a b i n → Allowed x y begun ended
allowed x y begun ended a b i n e f p = grind arith

abbrev pub to_come : Bool → ℕ → List ℕ
to_come done a = cond done [] (a ∷ [])

-- one end of the centre, at a: whether its brace stands here, and whether it stood before
record Side (x done : Bool) (a i : ℕ) : Type 0 where
  shown : here x i ++ to_come (x || done) a ≡ to_come done a
  after : (x || done) ≡ false → i < a
  past : (x || done) ≡ true → a ≤ i

side : (x done : Bool) (a i : ℕ) → a == i ≡ x → (done ≡ false → i ≤ a) → (done ≡ true → a < i) → Side x done a i
side x done a i e f g = grind arith

-- what a boundary leaves
pub record Gap (before ks : List Token) (x y begun ended : Bool) (a b i : ℕ) : Type 0 where
  pub marks : Marks before ks (here x i) (here y i) (x || begun) (y || ended) i
  begins : Side x begun a i
  ends : Side y ended b i

pub gap_by : (old new : List Style) (before : List Token) (a b i n : ℕ) (x y begun ended : Bool) → a == i ≡ x → b == i ≡ y → Phase begun ended a b i n
    → count_pieces before ≡ i → has_begin before ≡ begun → has_end before ≡ ended → Gap before (tokens_between old new (braces_by x y)) x y begun ended a b i
gap_by old new before a b i n x y begun ended e f p count g h = record {
  marks = between_marks old new (braces_by x y) before (here x i) (here y i) (x || begun) (y || ended) i
      (λ at u v w. braces_marks x y begun ended at i (allowed x y begun ended a b i n e f p) (u ∙ g) (v ∙ h) (w ∙ count));
  begins = side x begun a i e p.to_begin p.has_begun;
  ends = side y ended b i f p.to_end p.has_ended;
}

pub next_phase : {before ks : List Token} {x y begun ended : Bool} {a b i n : ℕ} → Gap before ks x y begun ended a b i → Phase begun ended a b i (suc n) → Phase (x || begun) (y || ended) a b (i + 1) n
next_phase q p = grind arith

-- ---- the whole

-- a printed piece has no marks, and counts one
pub piece_marks : (p : PieceFacts) (w b : Bool) (now : List Token) → Good p w b → Does p w b now
    → Marks now (printed_piece p.kind p.text ∷ []) [] [] (has_begin now) (has_end now) (count_pieces now + 1)
piece_marks p w b now g d = grind arith

pub gap_silent : (centre : Option Span) (i : ℕ) (old new : List Style) → AllSilent (tokens_between old new (brace_tokens centre i))
gap_silent centre i old new = between_silent old new (brace_tokens centre i) (are_braces centre i).silent

-- the positions at which the printed braces stand
pub centre_from : (c : Span) (i : ℕ) (old : List Style) (ps : List PieceFacts) (w b0 : Bool) (before : List Token) (begun ended : Bool)
    → has_word before ≡ w → (w ≡ true → follows_blank before ≡ b0) → AllGood w b0 ps → count_pieces before ≡ i
    → Phase begun ended c.from c.to i (length ps) → has_begin before ≡ begun → has_end before ≡ ended
    → (along begin_at before (print_from (Some c) i old ps) ≡ to_come begun c.from) × (along end_at before (print_from (Some c) i old ps) ≡ to_come ended c.to)
centre_from c i old [] w b0 before begun ended e f g count p hb he =
    let q = gap_by old [] before c.from c.to i 0 (c.from == i) (c.to == i) begun ended refl refl p count hb he in (
      (q.marks).begins_are ∙ finish (here (c.from == i) i) ((c.from == i) || begun) begun c.from (q.begins).shown (λ z. let u = (q.begins).after z in omega (arith, p.order, p.last)),
      (q.marks).ends_are ∙ finish (here (c.to == i) i) ((c.to == i) || ended) ended c.to (q.ends).shown (λ z. let u = (q.ends).after z in omega (arith, p.last)),
    )
  where
    finish : (xs : List ℕ) (done was : Bool) (a : ℕ) → xs ++ to_come done a ≡ to_come was a → (done ≡ false → ⊥) → xs ≡ to_come was a
    finish xs done was a e f = grind (arith, append-nil)
centre_from c i old (p ∷ ps) w b0 before begun ended e f g count ph hb he =
    let gap = tokens_between old p.styles (brace_tokens (Some c) i) in
    let k = printed_piece p.kind p.text in
    let more = print_from (Some c) (i + 1) p.styles ps in
    let silent = gap_silent (Some c) i old p.styles in
    let d = does p w b0 (onto gap before) g.0 (silent_word before gap silent ∙ e) (λ x. silent_blank before gap silent ∙ f x) in
    let q = gap_by old p.styles before c.from c.to i (length (p ∷ ps)) (c.from == i) (c.to == i) begun ended refl refl ph count hb he in
    let m = piece_marks p w b0 (onto gap before) g.0 d in
    let r = centre_from c (i + 1) p.styles ps (is_word_kind (Some p.kind) || w) (is_blank_piece p.kind) (k ∷ onto gap before) ((c.from == i) || begun) ((c.to == i) || ended)
    d.word (λ x. d.blank) g.1 (m.count_is ∙ ap (λ (n : ℕ). n + 1) (q.marks).count_is) (next_phase q ph)
    (m.begun_is ∙ (q.marks).begun_is) (m.ended_is ∙ (q.marks).ended_is) in (
      along_append begin_at before gap (k ∷ more) ∙ rw ((q.marks).begins_are) (ap (λ (x : List ℕ). here (c.from == i) i ++ x) (pass begin_at (onto gap before) k more m.begins_are ∙ r.0) ∙ (q.begins).shown),
      along_append end_at before gap (k ∷ more) ∙ rw ((q.marks).ends_are) (ap (λ (x : List ℕ). here (c.to == i) i ++ x) (pass end_at (onto gap before) k more m.ends_are ∙ r.1) ∙ (q.ends).shown),
    )

-- no centre, no braces
no_gap : (old new : List Style) (before : List Token) → Marks before (tokens_between old new []) [] [] (has_begin before) (has_end before) (count_pieces before)
no_gap old new before =
    between_marks old new [] before [] [] (has_begin before) (has_end before) (count_pieces before) (λ at. braces_marks false false (has_begin before) (has_end before) at (count_pieces before) tt)

pub no_centre : (i : ℕ) (old : List Style) (ps : List PieceFacts) (w b0 : Bool) (before : List Token)
    → has_word before ≡ w → (w ≡ true → follows_blank before ≡ b0) → AllGood w b0 ps
    → along begin_at before (print_from None i old ps) ≡ []
no_centre i old [] w b0 before e f g = grind (arith, no_gap)
no_centre i old (p ∷ ps) w b0 before e f g =
    let gap = tokens_between old p.styles [] in
    let k = printed_piece p.kind p.text in
    let more = print_from None (i + 1) p.styles ps in
    let silent = gap_silent None i old p.styles in
    let d = does p w b0 (onto gap before) g.0 (silent_word before gap silent ∙ e) (λ x. silent_blank before gap silent ∙ f x) in
    let m = piece_marks p w b0 (onto gap before) g.0 d in
    along_append begin_at before gap (k ∷ more) ∙ rw (no_gap old p.styles before).begins_are
    (pass begin_at (onto gap before) k more m.begins_are
    ∙ no_centre (i + 1) p.styles ps (is_word_kind (Some p.kind) || w) (is_blank_piece p.kind) (k ∷ onto gap before) d.word (λ x. d.blank) g.1)
