-- Syllables of units that say the same, say the same.
use Rattle.std.proofs.Common.{◌≡◌, ℕ, suc, ◌+◌, ◌%◌, List, [], ◌∷◌, ◌++◌, map, filter, length, length-append, Bool, true, IsTrue, ◌↔◌, Option, Some, None, codes, refl, sym, ap, ap₂, subst, ◌∙◌, append_assoc, arith}
use Rattle.std.specs.List.{flat_map}
use Rattle.std.specs.Option.{option_map}
use Rattle.std.proofs.lemmas.Grind.{flat_map-append}
use lib.Utf8.{encodes}
use Rattle.gabc_places.specs.declared.place.Span.{Span}
use Rattle.gabc_places.specs.declared.place.Char.{Char}
use Rattle.gabc_text.specs.declared.view.Piece.{Piece}
use Rattle.gabc_text.specs.TextView.{ViewContent}
use Rattle.gabc_text.specs.Canonical.{canonical_text}
use Rattle.gabc_text.specs.Printed.{text_tokens, text_of_tokens}
use Rattle.gabc_text.specs.TextRead.{view_in}
use Rattle.gabc_text.specs.View.{PieceFacts}
use Rattle.gabc_text.specs.ViewFacts.{ViewFacts, view_facts, StandsFor, StandsForView, kept_of_piece, ArePiecesOf, IsTranslation, span_tags, is_mark}
use Rattle.gabc_body.specs.declared.snippets.Snippet.{Snippet}
use Rattle.gabc_body.specs.declared.syllable.Position.{Position}
use Rattle.gabc_body.specs.Canonical.{position_by}
use Rattle.gabc_body.specs.Holding.{ReadSnippet}
use Rattle.gabc_body.specs.Syllable.{PlacedSyllable, slice}
use Rattle.gabc_body.specs.SyllablesOfUnits.{ScoreUnit, NotesAre, HoldsUnit, IsLeftOpen, AreSyllablesOf, begins_word, next_begins_word, tags_in}
use Rattle.gabc_write.specs.BodyAgain.{SyllableFacts, FirstBeginsWord, FirstTextBeginsWord, AreFactsOf}
use Rattle.gabc_write.specs.SyllableMeaning.{PieceMeaning, meaning_of_piece, SyllableMeaning, meaning_of, AreSame}
use Rattle.gabc_body.proofs.holding.SyllableHoldsPartByPart.{first_turn}

-- ---- what facts say

abbrev pub piece_of_facts : PieceFacts → PieceMeaning
piece_of_facts p = record { kind = p.kind; styles = p.styles; text = encodes (kept_of_piece p) }

-- snippets from that one on, with their lines
abbrev pub lined : ℕ → ℕ → List (List ℕ) → List (ℕ × List ℕ)
lined lines i [] = []
lined lines i (s ∷ ss) = (i % (lines + 1), s) ∷ lined lines (suc i) ss

-- at the end of the facts a word begins
abbrev next_begins : List SyllableFacts → Bool
next_begins [] = true
next_begins (f ∷ facts) = f.view.word_start

abbrev tags_of : SyllableFacts → List (List ℕ)
tags_of f = map (λ (p : PieceFacts). p.text) (filter (λ (p : PieceFacts). is_mark p.kind) f.view.pieces)

abbrev all_tags : List SyllableFacts → List (List ℕ)
all_tags facts = flat_map tags_of facts

abbrev pub said_by : ℕ → SyllableFacts → Position → Bool → Bool → SyllableMeaning
said_by lines f position eu nlba = record {
  text = encodes (text_of_tokens (text_tokens f.view));
  word_start = f.view.word_start;
  pieces = map piece_of_facts f.view.pieces;
  centre = f.view.centre;
  translation = option_map encodes f.view.translation;
  snippets = lined lines 0 (map encodes f.snippets);
  position = position;
  eu = eu;
  nlba = nlba;
}

-- ---- one syllable

-- from that one on, the snippets stand on the lines whose turn it is
abbrev AreLined : ℕ → ℕ → List Snippet → Type 0
AreLined lines i [] = Unit {0}
AreLined lines i (x ∷ xs) = (x.line ≡ i % (lines + 1)) × AreLined lines (suc i) xs

read_lined : (lines : ℕ) (before rs : List ReadSnippet) → ((earlier later : List ReadSnippet) (s : ReadSnippet) → before ++ rs ≡ earlier ++ s ∷ later → s.snippet.line ≡ length earlier % (lines + 1))
    → AreLined lines (length before) (map (λ (s : ReadSnippet). s.snippet) rs)
read_lined lines before [] h = tt
read_lined lines before (r ∷ rs) h =
    let more : length (before ++ r ∷ []) ≡ suc (length before) = omega (arith, length-append before (r ∷ [])) in (
      h before rs r refl,
      subst (λ (n : ℕ). AreLined lines n (map (λ (s : ReadSnippet). s.snippet) rs)) more
          (read_lined lines (before ++ r ∷ []) rs (λ earlier later s e. h earlier later s (sym (append_assoc before (r ∷ []) rs) ∙ e))),
    )

notes_lined : (lines : ℕ) (u : ScoreUnit) (xss : List (List Char)) (whole : List ℕ) (snippets : List Snippet) → NotesAre lines u xss whole snippets → AreLined lines 0 snippets
notes_lined lines u [] whole snippets h = subst (AreLined lines 0) (sym h.snippets_are) (first_turn lines, tt)
notes_lined lines u (xs ∷ xss) whole snippets h =
    let n = h.holds in
    subst (AreLined lines 0) (sym n.snippets_are) (read_lined lines [] (n.earlier ++ n.last ∷ []) (λ earlier later s e. (n.each earlier later s e).line_is))

lined_is : (lines i : ℕ) (bytes : List ℕ) (xs : List Snippet) → AreLined lines i xs
    → map (λ (x : Snippet). (x.line, slice x.span bytes)) xs ≡ lined lines i (map (λ (x : Snippet). slice x.span bytes) xs)
lined_is lines i bytes [] h = refl
lined_is lines i bytes (x ∷ xs) h = grind (arith, lined_is lines (suc i) bytes xs h.1)

module _ (starts : (t : List ℕ) → (view_in t).word_start ≡ (view_facts t).word_start) (centres : (t : List ℕ) → (view_in t).centre ≡ (view_facts t).centre)
    (canonical : (whole t : List ℕ) → StandsForView whole (view_in t) t → canonical_text (view_in t) (encodes whole) ≡ encodes (text_of_tokens (text_tokens (view_facts t))))
    (bytes : (text : List ℕ) (span : Span) (part : List ℕ) → StandsFor text span part → slice span (encodes text) ≡ encodes part) (lines : ℕ) where
  pieces_said : (whole : List ℕ) (ps : List Piece) (qs : List PieceFacts) → ArePiecesOf whole ps qs → map (meaning_of_piece (encodes whole)) ps ≡ map piece_of_facts qs
  pieces_said whole [] [] h = refl
  pieces_said whole (p ∷ ps) (q ∷ qs) h =
      let one : meaning_of_piece (encodes whole) p ≡ piece_of_facts q = λ i. record { kind = h.0.kind_is i; styles = h.0.styles_are i; text = bytes whole p.span (kept_of_piece q) h.0.stands i } in
      ap₂ (λ (x : PieceMeaning) (xs : List PieceMeaning). x ∷ xs) one (pieces_said whole ps qs h.1)
  pieces_said whole _ _ h = absurd h

  translation_said : (whole : List ℕ) (o : Option Span) (q : Option (List ℕ)) → IsTranslation whole o q → option_map (λ (s : Span). slice s (encodes whole)) o ≡ option_map encodes q
  translation_said whole None None h = refl
  translation_said whole (Some s) (Some t) h = ap (λ (b : List ℕ). Some b) (bytes whole s t h)
  translation_said whole _ _ h = absurd h

  pub one_said : (u : ScoreUnit) (s : PlacedSyllable) (f : SyllableFacts) → HoldsUnit lines u s.made → f.view ≡ view_facts u.text
      → map (λ (x : Snippet). slice x.span s.made.kept) s.made.snippets ≡ map encodes f.snippets → meaning_of s ≡ said_by lines f s.position s.made.eu s.made.nlba
  one_said u s f h view texts =
      let position = s.position in
      let eu = s.made.eu in
      let nlba = s.made.nlba in
      let words : s.made.text.word_start ≡ f.view.word_start = ap (λ (v : ViewContent). v.word_start) h.view_is ∙ starts u.text ∙ sym (ap (λ (v : ViewFacts). v.word_start) view) in
      let centre : s.made.text.centre ≡ f.view.centre = ap (λ (v : ViewContent). v.centre) h.view_is ∙ centres u.text ∙ sym (ap (λ (v : ViewFacts). v.centre) view) in
      let pieces : map (meaning_of_piece s.made.kept) s.made.text.pieces ≡ map piece_of_facts f.view.pieces =
      ap (λ (k : List ℕ). map (meaning_of_piece k) s.made.text.pieces) h.kept_is
      ∙ pieces_said h.whole s.made.text.pieces (view_facts u.text).pieces h.stands.pieces
      ∙ sym (ap (λ (v : ViewFacts). map piece_of_facts v.pieces) view) in
      let translation : option_map (λ (span : Span). slice span s.made.kept) s.made.text.translation ≡ option_map encodes f.view.translation =
      ap (λ (k : List ℕ). option_map (λ (span : Span). slice span k) s.made.text.translation) h.kept_is
      ∙ translation_said h.whole s.made.text.translation (view_facts u.text).translation h.stands.translation
      ∙ sym (ap (λ (v : ViewFacts). option_map encodes v.translation) view) in
      let snippets : map (λ (x : Snippet). (x.line, slice x.span s.made.kept)) s.made.snippets ≡ lined lines 0 (map encodes f.snippets) =
      lined_is lines 0 s.made.kept s.made.snippets (notes_lined lines u u.snippets h.whole s.made.snippets h.notes) ∙ ap (lined lines 0) texts in
      let text : canonical_text s.made.text s.made.kept ≡ encodes (text_of_tokens (text_tokens f.view)) =
      ap₂ canonical_text h.view_is h.kept_is ∙ canonical h.whole u.text (subst (λ (v : ViewContent). StandsForView h.whole v u.text) h.view_is h.stands)
      ∙ sym (ap (λ (v : ViewFacts). encodes (text_of_tokens (text_tokens v))) view) in
      all s.position s.made.eu s.made.nlba text words pieces centre translation snippets
    where
      all : (position : Position) (eu nlba : Bool) {b b' : List ℕ} {w w' : Bool} {ps ps' : List PieceMeaning} {c c' : Option Span} {t t' : Option (List ℕ)} {ss ss' : List (ℕ × List ℕ)} → b ≡ b' → w ≡ w' → ps ≡ ps' → c ≡ c' → t ≡ t' → ss ≡ ss'
          → (let one : SyllableMeaning = record { text = b; word_start = w; pieces = ps; centre = c; translation = t; snippets = ss; position = position; eu = eu; nlba = nlba } in
          let other : SyllableMeaning = record { text = b'; word_start = w'; pieces = ps'; centre = c'; translation = t'; snippets = ss'; position = position; eu = eu; nlba = nlba } in one ≡ other)
      all position eu nlba d e f g h i = rw (d, e, f, g, h, i) refl

  -- ---- all syllables

  -- by the facts before it and after it
  record IsSaid (before : List SyllableFacts) (f : SyllableFacts) (after : List SyllableFacts) (s : PlacedSyllable) : Type 0 where
    said_is : meaning_of s ≡ said_by lines f (position_by f.view.word_start (next_begins after)) s.made.eu s.made.nlba
    eu_is : IsTrue s.made.eu ↔ IsLeftOpen (codes "<eu>") (codes "</eu>") (all_tags (before ++ f ∷ []))
    nlba_is : IsTrue s.made.nlba ↔ IsLeftOpen (codes "<nlba>") (codes "</nlba>") (all_tags (before ++ f ∷ []))

  abbrev AreSaid : List SyllableFacts → List SyllableFacts → List PlacedSyllable → Type 0
  AreSaid before [] [] = Unit {0}
  AreSaid before (f ∷ facts) (s ∷ ss) = IsSaid before f facts s × AreSaid (before ++ f ∷ []) facts ss
  AreSaid before _ _ = ⊥

  next_is : (units : List ScoreUnit) (ss : List PlacedSyllable) (facts : List SyllableFacts) → AreFactsOf units ss facts → next_begins_word units ≡ next_begins facts
  next_is [] [] [] h = refl
  next_is (u ∷ units) (s ∷ ss) (f ∷ facts) h = starts u.text ∙ sym (ap (λ (v : ViewFacts). v.word_start) h.0.0)
  next_is _ _ _ h = absurd h

  module _ (all : List ScoreUnit) (made : List PlacedSyllable) (syllables : AreSyllablesOf lines all made) (first : FirstTextBeginsWord all) where
    begins_as : (before after : List ScoreUnit) (u : ScoreUnit) → all ≡ before ++ u ∷ after → begins_word before u ≡ (view_facts u.text).word_start
    begins_as before after u e = grind arith

    are_said : (before units : List ScoreUnit) (earlier ss : List PlacedSyllable) (seen facts : List SyllableFacts) → all ≡ before ++ units → made ≡ earlier ++ ss → length earlier ≡ length before
        → tags_in before ≡ all_tags seen → AreFactsOf units ss facts → AreSaid seen facts ss
    are_said before [] earlier [] seen [] e f n t h = tt
    are_said before (u ∷ units) earlier (s ∷ ss) seen (g ∷ facts) e f n t h =
        let k = syllables.each before units u earlier ss s e f n in
        let tags : tags_in (before ++ u ∷ []) ≡ all_tags (seen ++ g ∷ []) =
        flat_map-append (λ (v : ScoreUnit). span_tags v.text) before (u ∷ [])
        ∙ ap₂ (λ (x y : List (List ℕ)). x ++ (y ++ [])) t (sym (ap (λ (v : ViewFacts). map (λ (p : PieceFacts). p.text) (filter (λ (p : PieceFacts). is_mark p.kind) v.pieces)) h.0.0))
        ∙ sym (flat_map-append tags_of seen (g ∷ [])) in
        let position : s.position ≡ position_by g.view.word_start (next_begins facts) =
        k.position_is ∙ ap₂ position_by (begins_as before units u e ∙ sym (ap (λ (v : ViewFacts). v.word_start) h.0.0)) (next_is units ss facts h.1) in (
          record {
            said_is = one_said u s g k.holds h.0.0 h.0.1 ∙ ap (λ (p : Position). said_by lines g p s.made.eu s.made.nlba) position;
            eu_is = subst (λ (ts : List (List ℕ)). IsTrue s.made.eu ↔ IsLeftOpen (codes "<eu>") (codes "</eu>") ts) tags k.eu_is;
            nlba_is = subst (λ (ts : List (List ℕ)). IsTrue s.made.nlba ↔ IsLeftOpen (codes "<nlba>") (codes "</nlba>") ts) tags k.nlba_is;
          },
          are_said (before ++ u ∷ []) units (earlier ++ s ∷ []) ss (seen ++ g ∷ []) facts (e ∙ sym (append_assoc before (u ∷ []) units)) (f ∙ sym (append_assoc earlier (s ∷ []) ss))
              (omega (arith, length-append before (u ∷ []), length-append earlier (s ∷ []), n)) tags h.1,
        )
    are_said before _ earlier _ seen _ e f n t h = absurd h

  -- ---- two readings

  same_bool : (P : Type 0) (a b : Bool) → IsTrue a ↔ P → IsTrue b ↔ P → a ≡ b
  same_bool P a b h k = grind arith

  same_said : (before facts : List SyllableFacts) (ss ts : List PlacedSyllable) → AreSaid before facts ss → AreSaid before facts ts → AreSame ss ts
  same_said before [] [] [] h k = refl
  same_said before [] [] (t ∷ ts) h k = absurd k
  same_said before [] (s ∷ ss) ts h k = absurd h
  same_said before (f ∷ facts) [] ts h k = absurd h
  same_said before (f ∷ facts) (s ∷ ss) [] h k = absurd k
  same_said before (f ∷ facts) (s ∷ ss) (t ∷ ts) h k = grind (arith, same_said (before ++ f ∷ []) facts ss ts h.1 k.1, same_bool)

  first_text : (units : List ScoreUnit) (ss : List PlacedSyllable) (facts : List SyllableFacts) → AreFactsOf units ss facts → FirstBeginsWord facts → FirstTextBeginsWord units
  first_text units ss facts h g = grind arith

  -- syllables of which the same is said
  pub are_same : (units others : List ScoreUnit) (ss ts : List PlacedSyllable) (facts : List SyllableFacts) → AreSyllablesOf lines units ss → AreSyllablesOf lines others ts
      → AreFactsOf units ss facts → AreFactsOf others ts facts → FirstBeginsWord facts → AreSame ss ts
  are_same units others ss ts facts h k f g first =
      same_said [] facts ss ts (are_said units ss h (first_text units ss facts f first) [] units [] ss [] facts refl refl refl refl f)
      (are_said others ts k (first_text others ts facts g first) [] others [] ts [] facts refl refl refl refl g)
