-- The bytes of a regular syllable: a gap, a text, a `(`, and snippets with their marks.
use Rattle.std.proofs.Common.{◌≡◌, ◌≢◌, ℕ, ◌+◌, ◌<◌, ◌≤◌, List, [], ◌∷◌, ◌++◌, length, take, drop, get_or, encode_utf8_all, refl, sym, ap, ap₂, subst, ◌∙◌, arith, append_assoc, append-nil, length-drop, IsUtf8}
use Rattle.std.specs.List.{All}
use Rattle.std.specs.Str.{chars, IsAscii, IsCharBoundary}
use Rattle.std.specs.String.Boundary.{IsSplitPoint}
use Rattle.std.proofs.Math.Seq.{take-add}
use Rattle.std.proofs.lemmas.List.{take_more, drop_at, length-take-le}
use Rattle.std.proofs.lemmas.List.Elements.{All-append, All-drop, All-head, All-tail, All-cons, All-nil}
use Rattle.std.proofs.lemmas.Str.{IsUtf8-append, IsUtf8-take, IsUtf8-drop, IsUtf8-nil, IsUtf8-from_ascii, IsCharBoundary-from_take, IsCharBoundary-start, chars-append, chars-IsAscii, chars-nil, encodes-chars, encodes-append, encodes-IsAscii}
use lib.Utf8.{encode}
use Rattle.gabc_places.specs.TextOfAnInput.{IsPlain, IsText}
use Rattle.gabc_text.specs.RegularText.{IsRegularText, mark_at, tags_of}
use Rattle.gabc_text.specs.ViewFacts.{span_tags}
use Rattle.gabc_body.specs.Events.{next_line}
use Rattle.gabc_score.specs.RegularSyllable.{SyllableParts, IsRegularOn, AreRegularFrom, spelled, notes_spelled}
use Rattle.gabc_score.specs.machine.RegularLen.{IsPlainByte, with_bars_after, SnippetsBefore, BeginsWithSnippets, BeginsRegularly, IsPlainGap}
use Rattle.gabc_text.proofs.RegularRawParts.{mark_before_notes}
use Rattle.gabc_score.proofs.regular_syllables.RegularSyllableIsMade.{one_byte}

pub ascii_one : (c : ℕ) → c < 128 → IsAscii (c ∷ [])
ascii_one c less i = grind arith

-- ---- plain bytes

-- of bytes without a CR and without the first byte of U+FEFF the characters are plain
plain_spelled : (t : List ℕ) → All IsPlainByte (encode_utf8_all t) → All IsPlain t
unfolding encode
plain_spelled [] h = All-nil IsPlain
plain_spelled (c ∷ t) h = All-cons IsPlain c t (no_cr, no_mark) (plain_spelled t rest)
  where
    no_cr : c ≢ 13
    no_cr e = (All-head IsPlainByte 13 (encode_utf8_all t) (subst (λ (x : ℕ). All IsPlainByte (encode x ++ encode_utf8_all t)) e h)).0 refl

    no_mark : c ≢ 0xFEFF
    no_mark e = (All-head IsPlainByte 0xEF (0xBB ∷ 0xBF ∷ encode_utf8_all t) (subst (λ (x : ℕ). All IsPlainByte (encode x ++ encode_utf8_all t)) e h)).1 refl

    rest : All IsPlainByte (encode_utf8_all t)
    rest = after (encode c) h
      where
        after : (bs : List ℕ) → All IsPlainByte (bs ++ encode_utf8_all t) → All IsPlainByte (encode_utf8_all t)
        after [] g = g
        after (b ∷ bs) g = after bs (All-tail IsPlainByte b (bs ++ encode_utf8_all t) g)

-- ---- cuts

rest_utf8 : (text : List ℕ) (n : ℕ) → IsUtf8 text → n ≤ length text → IsUtf8 (take n text) → IsUtf8 (drop n text)
rest_utf8 text n u le v = IsUtf8-drop text n u (IsCharBoundary-from_take text n u le v)

pub split_boundary : (text : List ℕ) (n : ℕ) → IsUtf8 text → IsSplitPoint text n → IsCharBoundary text n
split_boundary text n u cut = grind (arith, IsCharBoundary-start)

pub split_utf8 : (text : List ℕ) (n : ℕ) → IsUtf8 text → IsSplitPoint text n → IsUtf8 (take n text)
split_utf8 text n u cut = IsUtf8-take text n u (split_boundary text n u cut)

split_at : (text : List ℕ) (n : ℕ) → IsCharBoundary text n → IsSplitPoint text n
split_at text n cut = (cut.0, λ some. cut.1)

pub one_utf8 : (c : ℕ) → c < 128 → IsUtf8 (c ∷ [])
one_utf8 c less = IsUtf8-from_ascii (c ∷ []) (ascii_one c less)

one_chars : (c : ℕ) → c < 128 → chars (c ∷ []) ≡ c ∷ []
one_chars c less = chars-IsAscii (c ∷ []) (ascii_one c less)

-- bytes, some more and a character of ASCII
module _ (text : List ℕ) (n k c : ℕ) (first : IsUtf8 (take n text)) (middle : IsUtf8 (take k (drop n text))) (less : n + k < length text) (at : get_or text (n + k) 0 ≡ c) (low : c < 128) where
  parts_are : take (n + k + 1) text ≡ (take n text ++ take k (drop n text)) ++ c ∷ []
  parts_are = take_more text (n + k) 0 less ∙ ap₂ (λ (t : List ℕ) (x : ℕ). t ++ x ∷ []) (take-add n k text) at

  parts_utf8 : IsUtf8 (take (n + k + 1) text)
  parts_utf8 = subst IsUtf8 (sym parts_are) (IsUtf8-append (take n text ++ take k (drop n text)) (c ∷ []) (IsUtf8-append (take n text) (take k (drop n text)) first middle) (one_utf8 c low))

  parts_chars : chars (take (n + k + 1) text) ≡ (chars (take n text) ++ chars (take k (drop n text))) ++ c ∷ []
  parts_chars = grind (arith, parts_are, chars-append, IsUtf8-append, middle, one_chars)

-- ---- snippets

with_bar : (before : List (List ℕ)) (s : List ℕ) → with_bars_after (before ++ s ∷ []) ≡ (with_bars_after before ++ s) ++ 124 ∷ []
with_bar [] s = refl
with_bar (b ∷ before) s = ap (λ (t : List ℕ). b ++ 124 ∷ t) (with_bar before s) ∙ simp append_assoc

with_close : (before : List (List ℕ)) (s : List ℕ) → notes_spelled before s ≡ (with_bars_after before ++ s) ++ 41 ∷ []
with_close [] s = refl
with_close (b ∷ before) s = ap (λ (t : List ℕ). b ++ 124 ∷ t) (with_close before s) ∙ simp append_assoc

pub no_snippets : (lines : ℕ) (text : List ℕ) → SnippetsBefore lines text 0 0
no_snippets lines text = grind (arith, IsUtf8-nil, chars-nil)

pub begun_cut : (lines : ℕ) (text : List ℕ) (n line : ℕ) → IsUtf8 text → SnippetsBefore lines text n line → IsCharBoundary text n
begun_cut lines text n line utf8 s = IsCharBoundary-from_take text n utf8 s.within s.utf8

-- one snippet more, of which this is known
module _ (lines : ℕ) (text : List ℕ) (n line k : ℕ) (utf8 : IsUtf8 text) (s : SnippetsBefore lines text n line) (cut : IsSplitPoint (drop n text) k)
    (regular : IsRegularOn line (chars (take k (drop n text)))) (less : n + k < length text) where
  middle : IsUtf8 (take k (drop n text))
  middle = split_utf8 (drop n text) k (rest_utf8 text n utf8 s.within s.utf8) cut

  pub more_snippets : get_or text (n + k) 0 ≡ 124 → 0 < lines → SnippetsBefore lines text (n + k + 1) (next_line lines line)
  more_snippets at some = record {
    before = s.before ++ chars (take k (drop n text)) ∷ [];
    within = omega arith;
    utf8 = parts_utf8 text n k 124 s.utf8 middle less at (omega arith);
    spelled_are = parts_chars text n k 124 s.utf8 middle less at (omega arith)
        ∙ (ap (λ (t : List ℕ). (t ++ chars (take k (drop n text))) ++ 124 ∷ []) s.spelled_are ∙ sym (with_bar s.before (chars (take k (drop n text)))));
    goes_on = λ nexts final h.
        subst (λ (all : List (List ℕ)). AreRegularFrom lines 0 all final) (sym (append_assoc s.before (chars (take k (drop n text)) ∷ []) nexts))
        (s.goes_on (chars (take k (drop n text)) ∷ nexts) final (regular, h));
    single = λ e. absurd (omega arith);
  }

  pub last_snippet : get_or text (n + k) 0 ≡ 41 → BeginsWithSnippets lines text (n + k + 1)
  last_snippet at = record {
    nexts = s.before;
    final = chars (take k (drop n text));
    within = omega arith;
    utf8 = parts_utf8 text n k 41 s.utf8 middle less at (omega arith);
    spelled_are = parts_chars text n k 41 s.utf8 middle less at (omega arith)
        ∙ (ap (λ (t : List ℕ). (t ++ chars (take k (drop n text))) ++ 41 ∷ []) s.spelled_are ∙ sym (with_close s.before (chars (take k (drop n text)))));
    regular = subst (λ (all : List (List ℕ)). AreRegularFrom lines 0 all (chars (take k (drop n text)))) (append-nil s.before)
        (s.goes_on [] (chars (take k (drop n text))) regular);
    single = s.single;
  }

-- ---- the syllable

-- A gap, a regular text, a `(` and snippets are a regular syllable of these bytes, if the bytes
-- after the gap are plain.
module _ (lines : ℕ) (text : List ℕ) (gap k : ℕ) (utf8 : IsUtf8 text) (within : gap ≤ length text) (blanks : IsPlainGap (take gap text))
    (word : IsText (take k (drop gap text))) (regular : IsRegularText (chars (take k (drop gap text))))
    (less : gap + k < length text) (at : get_or text (gap + k) 0 ≡ 40) where
  gap_ascii : IsAscii (take gap text)
  gap_ascii = blanks.ascii

  gap_utf8 : IsUtf8 (take gap text)
  gap_utf8 = IsUtf8-from_ascii (take gap text) gap_ascii

  begun_utf8 : IsUtf8 (take (gap + k + 1) text)
  begun_utf8 = parts_utf8 text gap k 40 gap_utf8 word.utf8 less at (omega arith)

  begun_chars : chars (take (gap + k + 1) text) ≡ (take gap text ++ chars (take k (drop gap text))) ++ 40 ∷ []
  begun_chars =
      parts_chars text gap k 40 gap_utf8 word.utf8 less at (omega arith)
      ∙ ap (λ (t : List ℕ). (t ++ chars (take k (drop gap text))) ++ 40 ∷ []) (chars-IsAscii (take gap text) gap_ascii)

  pub notes_cut : IsCharBoundary text (gap + k + 1)
  notes_cut = IsCharBoundary-from_take text (gap + k + 1) utf8 (omega arith) begun_utf8

  module _ (m : ℕ) (notes : BeginsWithSnippets lines (drop (gap + k + 1) text) m) where
    abbrev made : SyllableParts
    made = record { gap = take gap text; text = chars (take k (drop gap text)); nexts = notes.nexts; final = notes.final }

    all_are : take (gap + k + 1 + m) text ≡ take (gap + k + 1) text ++ take m (drop (gap + k + 1) text)
    all_are = take-add (gap + k + 1) m text

    all_utf8 : IsUtf8 (take (gap + k + 1 + m) text)
    all_utf8 = subst IsUtf8 (sym all_are) (IsUtf8-append (take (gap + k + 1) text) (take m (drop (gap + k + 1) text)) begun_utf8 notes.utf8)

    all_chars : chars (take (gap + k + 1 + m) text) ≡ spelled made
    all_chars = grind (arith, all_are, chars-append, begun_utf8, begun_chars, append_assoc)

    fits : gap + k + 1 + m ≤ length text
    fits = omega (arith, notes.within, length-drop (gap + k + 1) text)

    abbrev rest : List ℕ
    rest = made.text ++ 40 ∷ notes_spelled notes.nexts notes.final

    spelled_is : spelled made ≡ take gap text ++ rest
    spelled_is = append_assoc (take gap text) made.text (40 ∷ notes_spelled notes.nexts notes.final)

    bytes_are : take (gap + k + 1 + m) text ≡ take gap text ++ encode_utf8_all rest
    bytes_are =
        sym (encodes-chars (take (gap + k + 1 + m) text) all_utf8) ∙ (ap encode_utf8_all (all_chars ∙ spelled_is)
        ∙ (encodes-append (take gap text) rest ∙ ap (λ (t : List ℕ). t ++ encode_utf8_all rest) (encodes-IsAscii (take gap text) gap_ascii)))

    rest_are : drop gap (take (gap + k + 1 + m) text) ≡ encode_utf8_all rest
    rest_are = ap (drop gap) bytes_are ∙ drop_at (take gap text) (encode_utf8_all rest) gap (length-take-le gap text within)

    word_is : encode_utf8_all rest ≡ take k (drop gap text) ++ 40 ∷ encode_utf8_all (notes_spelled notes.nexts notes.final)
    word_is = grind (arith, encodes-append, encodes-chars, one_byte)

    pub syllable_here : All IsPlainByte (take (gap + k + 1 + m) text) → span_tags made.text ≡ tags_of (mark_at (take k (drop gap text)))
        → BeginsRegularly lines text (record { gap = gap; opening = gap + k; len = gap + k + 1 + m })
    syllable_here plain mark = record {
      syllable = made;
      is_regular = record { blanks = blanks.is; text = regular; notes = notes.regular; single = notes.single };
      some = omega arith;
      cut = split_at text (gap + k + 1 + m) (IsCharBoundary-from_take text (gap + k + 1 + m) utf8 fits all_utf8);
      cut_gap = split_at text gap (IsCharBoundary-from_take text gap utf8 within gap_utf8);
      is_text = record {
        utf8 = all_utf8;
        plain = subst (All IsPlain) (sym (all_chars ∙ spelled_is))
            (All-append IsPlain (take gap text) rest (blanks.plain) (plain_spelled rest (subst (All IsPlainByte) rest_are (All-drop IsPlainByte gap (take (gap + k + 1 + m) text) plain))));
      };
      characters_are = all_chars;
      gap_is = sym (length-take-le gap text within);
      opening_is = (let e = ap (λ (l : List ℕ). length l) (encodes-chars (take k (drop gap text)) word.utf8) in let n = length-take-le k (drop gap text) (let l = length-drop gap text in omega (arith, l, less)) in omega (arith, e, n));
      rest_is = rest_are;
      mark_is = mark ∙ ap tags_of (sym (ap mark_at (rest_are ∙ word_is) ∙ mark_before_notes (take k (drop gap text)) (encode_utf8_all (notes_spelled notes.nexts notes.final))));
    }
