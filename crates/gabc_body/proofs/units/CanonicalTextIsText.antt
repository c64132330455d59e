-- The canonical text of a syllable that holds a unit is a text of an input, if its kept text is one.
use Rattle.std.proofs.Common.{◌≡◌, ℕ, ◌+◌, ◌<◌, ◌==◌, ◌&&◌, not, nat_lt, Bool, true, cond, List, [], ◌∷◌, ◌++◌, map, codes, reverse, Option, Some, None, encode_utf8, encode_utf8_all, refl, sym, ap, subst, ◌∙◌, arith, append_assoc, append-nil}
use Rattle.std.proofs.lemmas.Bool.{and_parts, cond_both}
use Rattle.std.proofs.lemmas.Bool.Decides.{nat_tests}
use Rattle.std.specs.List.{All, flat_map, list_all}
use Rattle.std.specs.Char.{IsScalar}
use Rattle.std.specs.Str.{IsUtf8, chars}
use Rattle.std.proofs.lemmas.List.Concat.{flat_map-cons}
use Rattle.std.proofs.lemmas.List.Elements.{All-nil, All-cons, All-head, All-tail, All-append}
use Rattle.std.proofs.lemmas.Str.{IsUtf8-nil, IsUtf8-append, IsUtf8-encode, chars-append, chars-nil, chars_past_char, chars_from_encodes, encode_ascii, encodes_same, scalars-chars}
use lib.Utf8.{scalar, scalars}
use Rattle.gabc_places.specs.declared.place.Char.{Char}
use Rattle.gabc_places.specs.declared.place.Span.{Span}
use Rattle.gabc_text.specs.Canonical.{after_common, boundary, braces, canonical_text, listed_styles, needs_dollar, piece_text, piece_text_by, span_bytes, style_closing, style_opening, text_from}
use Rattle.gabc_text.specs.ViewFacts.{ArePiecesOf, IsTranslation, StandsFor}
use Rattle.gabc_text.specs.View.{PieceFacts}
use Rattle.gabc_text.specs.declared.styles.Style.{Style}
use Rattle.gabc_text.specs.declared.styles.Style.TheVariants.{B, C, E, I, Sc, Tt, Ul}
use Rattle.gabc_text.specs.declared.view.Piece.{Piece}
use Rattle.gabc_text.specs.declared.view.PieceKind.{PieceKind}
use Rattle.gabc_text.specs.declared.view.PieceKind.TheVariants as piece
use Rattle.gabc_body.specs.declared.snippets.Snippet.{Snippet}
use Rattle.gabc_body.specs.Canonical.{canonical, translation_text, with_bars}
use Rattle.gabc_body.specs.Holding.{ReadSnippet}
use Rattle.gabc_body.specs.Syllable.{UnplacedSyllable, slice}
use Rattle.gabc_body.specs.SyllablesOfUnits.{NotesAre}
use Rattle.gabc_places.specs.TextOfAnInput.{IsPlain, IsText, IsTextCharacter}
use Rattle.gabc_body.specs.UnitRead.{HoldsSomeUnit}
use Rattle.gabc_body.proofs.holding.SnippetsLieInKeptText.{bytes_stand}

-- ---- a text, a character at a time

pub nothing_plain : IsText []
nothing_plain = record { utf8 = IsUtf8-nil; plain = subst (All IsPlain) (sym chars-nil) (All-nil IsPlain) }

one_character : (c : ℕ) → IsScalar c → chars (encode_utf8 c) ≡ c ∷ []
one_character c s = chars_past_char (encode_utf8 c) [] c (IsUtf8-encode c s) (sym (append-nil (encode_utf8 c))) ∙ ap (λ (cs : List ℕ). c ∷ cs) chars-nil

pub plain_more : (bytes : List ℕ) (c : ℕ) → IsTextCharacter c → IsText bytes → IsText (bytes ++ encode_utf8 c)
plain_more bytes c is h = record {
  utf8 = IsUtf8-append bytes (encode_utf8 c) h.utf8 (IsUtf8-encode c is.scalar);
  plain = subst (All IsPlain) (sym (chars-append bytes (encode_utf8 c) h.utf8 ∙ ap (λ (cs : List ℕ). chars bytes ++ cs) (one_character c is.scalar)))
      (All-append IsPlain (chars bytes) (c ∷ []) h.plain (All-cons IsPlain c [] is.plain (All-nil IsPlain)));
}

-- ---- texts of an input

plain_append : (a b : List ℕ) → IsText a → IsText b → IsText (a ++ b)
plain_append a b h k = record {
  utf8 = IsUtf8-append a b h.utf8 k.utf8;
  plain = subst (All IsPlain) (sym (chars-append a b h.utf8)) (All-append IsPlain (chars a) (chars b) h.plain k.plain);
}

plain_codes : (cs : List ℕ) → All IsTextCharacter cs → IsText (encode_utf8_all cs)
plain_codes [] h = nothing_plain
plain_codes (c ∷ cs) h = plain_append (encode_utf8 c) (encode_utf8_all cs) (plain_more [] c (All-head IsTextCharacter c cs h) nothing_plain) (plain_codes cs (All-tail IsTextCharacter c cs h))

pub characters : (cs : List ℕ) → scalars cs ≡ true → All IsPlain cs → All IsTextCharacter cs
characters [] s h = All-nil IsTextCharacter
characters (c ∷ cs) s h =
    let both = and_parts _ (scalars cs) s in
    All-cons IsTextCharacter c cs (record { scalar = both.0; plain = All-head IsPlain c cs h }) (characters cs both.1 (All-tail IsPlain c cs h))

characters_of : (whole : List ℕ) → IsText (encode_utf8_all whole) → All IsTextCharacter whole
characters_of whole h =
    subst (All IsTextCharacter) (sym (chars_from_encodes whole (encode_utf8_all whole) h.utf8 refl))
    (characters (chars (encode_utf8_all whole)) (scalars-chars (encode_utf8_all whole) h.utf8) h.plain)

middle : (a b c : List ℕ) → All IsTextCharacter (a ++ (b ++ c)) → All IsTextCharacter b
middle (x ∷ a) b c h = middle a b c (All-tail IsTextCharacter x (a ++ (b ++ c)) h)
middle [] [] c h = All-nil IsTextCharacter
middle [] (x ∷ b) c h = All-cons IsTextCharacter x b (All-head IsTextCharacter x (b ++ c) h) (middle [] b c (All-tail IsTextCharacter x (b ++ c) h))

-- printable characters of ASCII and LF
abbrev is_low : ℕ → Bool
is_low b = nat_lt b 127 && not (b == 13)

low_text : (bs : List ℕ) → list_all is_low bs ≡ true → IsText bs
low_text [] h = nothing_plain
low_text (b ∷ bs) h =
    let both = and_parts (is_low b) (list_all is_low bs) h in
    let low = and_parts (nat_lt b 127) (not (b == 13)) both.0 in
    let small : b < 127 = let e = low.0 in grind (arith, nat_tests, e) in
    let one : IsText ([] ++ encode_utf8 b) = plain_more [] b (record { scalar = grind (arith, nat_tests, small); plain = (λ e. let f = low.1 in grind (arith, nat_tests, e, f), λ e. absurd (omega (arith, e, small))) }) nothing_plain in
    plain_append (b ∷ []) bs (subst IsText (encode_ascii b (omega (arith, small))) one) (low_text bs both.1)

cut_text : (whole a b c : List ℕ) → whole ≡ a ++ (b ++ c) → IsText (encode_utf8_all whole) → IsText (encode_utf8_all b)
cut_text whole a b c e h = plain_codes b (middle a b c (subst (All IsTextCharacter) e (characters_of whole h)))

-- ---- texts in UTF-8

low_utf8 : (bs : List ℕ) → list_all is_low bs ≡ true → IsUtf8 bs
low_utf8 [] h = IsUtf8-nil
low_utf8 (b ∷ bs) h =
    let both = and_parts (is_low b) (list_all is_low bs) h in
    let low = and_parts (nat_lt b 127) (not (b == 13)) both.0 in
    let small : b < 127 = let e = low.0 in grind (arith, nat_tests, e) in
    IsUtf8-append (b ∷ []) bs (subst IsUtf8 (encode_ascii b (omega (arith, small))) (IsUtf8-encode b (grind (arith, nat_tests, small)))) (low_utf8 bs both.1)

scalars_middle : (a b c : List ℕ) → scalars (a ++ (b ++ c)) ≡ true → scalars b ≡ true
scalars_middle (x ∷ a) b c h = scalars_middle a b c (and_parts (scalar x) (scalars (a ++ (b ++ c))) h).1
scalars_middle [] [] c h = refl
scalars_middle [] (x ∷ b) c h = let s = and_parts (scalar x) (scalars (b ++ c)) h in rw (s.0, scalars_middle [] b c s.1) refl

pub scalars_of : (t : List ℕ) → IsUtf8 (encode_utf8_all t) → scalars t ≡ true
scalars_of t u = ap scalars (encodes_same t u.0 (sym u.1.1)) ∙ u.1.0

cut_utf8 : (whole a b c : List ℕ) → whole ≡ a ++ (b ++ c) → IsUtf8 (encode_utf8_all whole) → IsUtf8 (encode_utf8_all b)
cut_utf8 whole a b c e u = (b, (scalars_middle a b c (ap scalars (sym e) ∙ scalars_of whole u), refl))

-- ---- what holds of the kept text of a syllable, and of parts of it

module _ (T : List ℕ → Type 0) (nothing : T []) (append : (a b : List ℕ) → T a → T b → T (a ++ b)) (low : (bs : List ℕ) → list_all is_low bs ≡ true → T bs)
    (cut : (whole a b c : List ℕ) → whole ≡ a ++ (b ++ c) → T (encode_utf8_all whole) → T (encode_utf8_all b)) where
  all_plain : {X : Type 0} (f : X → List ℕ) → ((x : X) → T (f x)) → (xs : List X) → T (flat_map f xs)
  all_plain f each [] = nothing
  all_plain f each (x ∷ xs) = subst T (sym (flat_map-cons f x xs)) (append (f x) (flat_map f xs) (each x) (all_plain f each xs))

  -- ---- the parts of a canonical text

  tags_low : (s : Style) → T (style_closing s) × T (style_opening s)
  tags_low B = (low (codes "</b>") refl, low (codes "<b>") refl)
  tags_low C = (low (codes "</c>") refl, low (codes "<c>") refl)
  tags_low E = (low (codes "</e>") refl, low (codes "<e>") refl)
  tags_low I = (low (codes "</i>") refl, low (codes "<i>") refl)
  tags_low Sc = (low (codes "</sc>") refl, low (codes "<sc>") refl)
  tags_low Tt = (low (codes "</tt>") refl, low (codes "<tt>") refl)
  tags_low Ul = (low (codes "</ul>") refl, low (codes "<ul>") refl)

  braces_low : (centre : Option Span) (i : ℕ) → T (braces centre i)
  braces_low None i = nothing
  braces_low (Some c) i =
      cond_both (c.from == i) _ _ T (λ e. cond_both (c.to == i) (codes "{}") (codes "{") T (λ f. low (codes "{}") refl) (λ f. low (codes "{") refl))
      (λ e. cond_both (c.to == i) (codes "}") [] T (λ f. low (codes "}") refl) (λ f. nothing))

  boundary_plain : (old new : List Style) (middle : List ℕ) → T middle → T (boundary old new middle)
  boundary_plain old new middle h =
      append (flat_map style_closing (reverse (after_common old new).0)) (middle ++ flat_map style_opening (after_common old new).1) (all_plain style_closing (λ s. (tags_low s).0) (reverse (after_common old new).0))
      (append middle (flat_map style_opening (after_common old new).1) h (all_plain style_opening (λ s. (tags_low s).1) (after_common old new).1))

  dollar_plain : (b : Bool) (t : List ℕ) → T t → T (cond b (codes "$") [] ++ t)
  dollar_plain b t h = append (cond b (codes "$") []) t (cond_both b (codes "$") [] T (λ e. low (codes "$") refl) (λ e. nothing)) h

  piece_plain : (k : PieceKind) (t : List ℕ) → T t → T (piece_text_by k t)
  piece_plain piece.Char t h = dollar_plain (needs_dollar t) t h
  piece_plain piece.Blank t h = low (codes " ") refl
  piece_plain _ t h = h

  bars_plain : (kept : List ℕ) (ss : List Snippet) → All (λ (s : Snippet). T (slice s.span kept)) ss → T (with_bars kept ss)
  bars_plain kept [] h = nothing
  bars_plain kept (s ∷ []) h = All-head (λ (s : Snippet). T (slice s.span kept)) s [] h
  bars_plain kept (s ∷ t ∷ rest) h =
      append (slice s.span kept) (codes "|" ++ with_bars kept (t ∷ rest)) (All-head (λ (s : Snippet). T (slice s.span kept)) s (t ∷ rest) h)
      (append (codes "|") (with_bars kept (t ∷ rest)) (low (codes "|") refl) (bars_plain kept (t ∷ rest) (All-tail (λ (s : Snippet). T (slice s.span kept)) s (t ∷ rest) h)))

  module _ (spanned : (text : List ℕ) (span : Span) (part : List ℕ) → StandsFor text span part → span_bytes (encode_utf8_all text) span ≡ encode_utf8_all part) (whole : List ℕ) (plain : T (encode_utf8_all whole)) where
    part_plain : (span : Span) (part : List ℕ) → StandsFor whole span part → T (encode_utf8_all part)
    part_plain span part h = cut whole h.prefix part h.back h.parts plain

    text_plain : (centre : Option Span) (i : ℕ) (old : List Style) (ps : List Piece) (qs : List PieceFacts) → ArePiecesOf whole ps qs → T (text_from centre (encode_utf8_all whole) i old ps)
    text_plain centre i old [] qs h = boundary_plain old [] (braces centre i) (braces_low centre i)
    text_plain centre i old (p ∷ ps) [] h = absurd h
    text_plain centre i old (p ∷ ps) (q ∷ qs) h =
        append (boundary old (listed_styles p.styles) (braces centre i)) (piece_text (encode_utf8_all whole) p ++ text_from centre (encode_utf8_all whole) (i + 1) (listed_styles p.styles) ps)
        (boundary_plain old (listed_styles p.styles) (braces centre i) (braces_low centre i))
        (append (piece_text (encode_utf8_all whole) p) (text_from centre (encode_utf8_all whole) (i + 1) (listed_styles p.styles) ps)
        (piece_plain p.kind (span_bytes (encode_utf8_all whole) p.span) (subst T (sym (spanned whole p.span _ h.0.stands)) (part_plain p.span _ h.0.stands)))
        (text_plain centre (i + 1) (listed_styles p.styles) ps qs h.1))

    translation_plain : (o : Option Span) (t : Option (List ℕ)) → IsTranslation whole o t → T (translation_text (encode_utf8_all whole) o)
    translation_plain None t h = nothing
    translation_plain (Some span) None h = absurd h
    translation_plain (Some span) (Some t) h =
        append (codes "[") (slice span (encode_utf8_all whole) ++ codes "]") (low (codes "[") refl)
        (append (slice span (encode_utf8_all whole)) (codes "]") (subst T (sym (bytes_stand whole span t h)) (part_plain span t h)) (low (codes "]") refl))

    snippets_plain : (before xs : List ReadSnippet) → ((a b : List ReadSnippet) (s : ReadSnippet) → before ++ xs ≡ a ++ s ∷ b → StandsFor whole s.snippet.span s.kept)
        → All (λ (s : Snippet). T (slice s.span (encode_utf8_all whole))) (map (λ (s : ReadSnippet). s.snippet) xs)
    snippets_plain before [] h = All-nil (λ (s : Snippet). T (slice s.span (encode_utf8_all whole)))
    snippets_plain before (x ∷ xs) h =
        let stands = h before xs x refl in
        All-cons (λ (s : Snippet). T (slice s.span (encode_utf8_all whole))) x.snippet (map (λ (s : ReadSnippet). s.snippet) xs) (subst T (sym (bytes_stand whole x.snippet.span x.kept stands)) (part_plain x.snippet.span x.kept stands))
        (snippets_plain (before ++ x ∷ []) xs (λ a b s e. h a b s (sym (append_assoc before (x ∷ []) xs) ∙ e)))

  start_plain : (b : Bool) → T (cond b (10 ∷ []) [])
  start_plain b = cond_both b (10 ∷ []) [] T (λ e. low (10 ∷ []) refl) (λ e. nothing)

  pub canonical_is : ((text : List ℕ) (span : Span) (part : List ℕ) → StandsFor text span part → span_bytes (encode_utf8_all text) span ≡ encode_utf8_all part)
      → (lines : ℕ) (m : UnplacedSyllable) → HoldsSomeUnit lines m → T m.kept → (starts : Bool) → T (canonical starts m)
  canonical_is spanned lines m h kept starts =
      let u = h.holds in
      let text = canonical_text m.text m.kept in
      let translation = translation_text m.kept m.text.translation in
      let bars = with_bars m.kept m.snippets in
      let plain : T (encode_utf8_all u.whole) = subst T u.kept_is kept in
      let snippets = subst (λ (k : List ℕ). All (λ (s : Snippet). T (slice s.span k)) m.snippets) (sym u.kept_is) (by plain h.unit.snippets refl u.notes) in
      append (cond starts (10 ∷ []) []) (text ++ (translation ++ (codes "(" ++ (bars ++ codes ")")))) (start_plain starts)
      (append text (translation ++ (codes "(" ++ (bars ++ codes ")"))) (subst (λ (k : List ℕ). T (canonical_text m.text k)) (sym u.kept_is) (text_plain spanned u.whole plain m.text.centre 0 [] m.text.pieces _ u.stands.pieces))
      (append translation (codes "(" ++ (bars ++ codes ")")) (subst (λ (k : List ℕ). T (translation_text k m.text.translation)) (sym u.kept_is) (translation_plain spanned u.whole plain m.text.translation _ u.stands.translation))
      (append (codes "(") (bars ++ codes ")") (low (codes "(") refl) (append bars (codes ")") (bars_plain m.kept m.snippets snippets) (low (codes ")") refl)))))
    where
      by : T (encode_utf8_all h.holds.whole) → (xss : List (List Char)) → h.unit.snippets ≡ xss → NotesAre lines h.unit xss h.holds.whole m.snippets → All (λ (s : Snippet). T (slice s.span (encode_utf8_all h.holds.whole))) m.snippets
      by plain [] e n = absurd (h.noted e)
      by plain (xs ∷ xss) e n =
          let k = n.holds in
          subst (All (λ (s : Snippet). T (slice s.span (encode_utf8_all h.holds.whole)))) (sym k.snippets_are) (snippets_plain spanned h.holds.whole plain [] (k.earlier ++ k.last ∷ []) (λ a b s e. (k.each a b s e).stands))

pub canonical_is_text : ((text : List ℕ) (span : Span) (part : List ℕ) → StandsFor text span part → span_bytes (encode_utf8_all text) span ≡ encode_utf8_all part)
    → (lines : ℕ) (m : UnplacedSyllable) → HoldsSomeUnit lines m → IsText m.kept → (starts : Bool) → IsText (canonical starts m)
canonical_is_text = canonical_is IsText nothing_plain plain_append low_text cut_text

pub canonical_is_utf8 : ((text : List ℕ) (span : Span) (part : List ℕ) → StandsFor text span part → span_bytes (encode_utf8_all text) span ≡ encode_utf8_all part)
    → (lines : ℕ) (m : UnplacedSyllable) → HoldsSomeUnit lines m → IsUtf8 m.kept → (starts : Bool) → IsUtf8 (canonical starts m)
canonical_is_utf8 = canonical_is IsUtf8 IsUtf8-nil IsUtf8-append low_utf8 cut_utf8
