-- The canonical text of a syllable is the printed syllable of what its unit says.
use Rattle.std.proofs.Common.{◌≡◌, ◌≢◌, ℕ, suc, ◌+◌, ◌%◌, ◌≤◌, List, [], ◌∷◌, ◌++◌, map, length, length-append, cond, Option, refl, sym, ap, subst, ◌∙◌, append_assoc, arith, codes}
use Rattle.std.proofs.lemmas.List.{length-map}
use Rattle.std.proofs.lemmas.Str.{encodes-append}
use Rattle.std.proofs.Math.Nat.{zero-mod}
use lib.Utf8.{encode, encodes}
use Rattle.gabc_notes.proofs.machine.LoopOverBody.{parts}
use Rattle.gabc_body.proofs.holding.SnippetsLieInKeptText.{next_turn}
use Rattle.gabc_places.specs.declared.place.Span.{Span}
use Rattle.gabc_places.specs.declared.place.Char.{Char}
use Rattle.gabc_text.specs.TextView.{ViewContent}
use Rattle.gabc_text.specs.View.{kept}
use Rattle.gabc_text.specs.ViewFacts.{view_facts, StandsFor, StandsForView, IsTranslation}
use Rattle.gabc_text.specs.Canonical.{span_bytes, canonical_text}
use Rattle.gabc_text.specs.Printed.{print}
use Rattle.gabc_text.specs.PrintedView.{printed_translation, printed_view}
use Rattle.gabc_text.specs.TextRead.{view_in}
use Rattle.gabc_body.specs.declared.snippets.Snippet.{Snippet}
use Rattle.gabc_body.specs.Syllable.{UnplacedSyllable, slice}
use Rattle.gabc_body.specs.Canonical as score
use Rattle.gabc_body.specs.Canonical.{with_bars, canonical}
use Rattle.gabc_body.specs.Events.{next_line}
use Rattle.gabc_body.specs.Holding.{ReadSnippet, IsSnippetOf, IsHeld, HoldsNoNotes, kept_on_line}
use Rattle.gabc_body.specs.SyllablesOfUnits.{ScoreUnit, HasNotes, HoldsUnit}
use Rattle.gabc_write.specs.SyllableAgain.{barred, printed_syllable, kept_snippets, AreSnippetsFrom, IsPrinted}
use Rattle.gabc_write.proofs.plain.PrintedSyllableIsPlain.{syllable_plain, snippets_plain}

-- ---- the bytes

opening : codes "(" ≡ encodes (40 ∷ [])
unfolding encode
opening = refl

closing : codes ")" ≡ encodes (41 ∷ [])
unfolding encode
closing = refl

bar : codes "|" ≡ encodes (124 ∷ [])
unfolding encode
bar = refl

bars_are : (K : List ℕ) (snippets : List Snippet) (ss : List (List ℕ)) → map (λ (s : Snippet). slice s.span K) snippets ≡ map encodes ss → with_bars K snippets ≡ encodes (barred ss)
bars_are K [] [] e = refl
bars_are K (s ∷ []) (t ∷ []) e = (parts (slice s.span K) (encodes t) [] [] e).0
bars_are K (s ∷ []) (t ∷ u ∷ ss) e = absurd (let g = (parts (slice s.span K) (encodes t) [] (encodes u ∷ map encodes ss) e).1 in cc)
bars_are K (s ∷ r ∷ snippets) (t ∷ []) e = absurd (let g = (parts (slice s.span K) (encodes t) (slice r.span K ∷ map (λ (s : Snippet). slice s.span K) snippets) [] e).1 in cc)
bars_are K (s ∷ r ∷ snippets) (t ∷ u ∷ ss) e =
    let h = parts (slice s.span K) (encodes t) (slice r.span K ∷ map (λ (s : Snippet). slice s.span K) snippets) (encodes u ∷ map encodes ss) e in
    (λ i. h.0 i ++ (bar i ++ bars_are K (r ∷ snippets) (u ∷ ss) h.1 i))
    ∙ ap (λ (x : List ℕ). encodes t ++ x) (sym (encodes-append (124 ∷ []) (barred (u ∷ ss))))
    ∙ sym (encodes-append t (124 ∷ barred (u ∷ ss)))
bars_are K _ _ e = absurd (cc)

module _ (printed : (whole t : List ℕ) → StandsForView whole (view_in t) t → printed_view (view_in t) (encodes whole) ≡ encodes (print (view_facts t)))
    (spanned : (text : List ℕ) (span : Span) (part : List ℕ) → StandsFor text span part → span_bytes (encodes text) span ≡ encodes part)
    (sliced : (text : List ℕ) (span : Span) (part : List ℕ) → StandsFor text span part → slice span (encodes text) ≡ encodes part) where
  translation_is : (K : List ℕ) (o : Option Span) (s : Option (List ℕ)) → IsTranslation K o s → score.translation_text (encodes K) o ≡ printed_translation (encodes K) o
  translation_is K o s h = grind arith

  -- the text of a syllable, and what stands after it
  bytes_are : (m : UnplacedSyllable) (K t : List ℕ) (ss : List (List ℕ)) → m.kept ≡ encodes K → m.text ≡ view_in t → StandsForView K m.text t
      → map (λ (s : Snippet). slice s.span m.kept) m.snippets ≡ map encodes ss → canonical m.text.word_start m ≡ encodes (printed_syllable (view_facts t) ss)
  bytes_are m K t ss kept_is view_is stands texts =
      let view : StandsForView K (view_in t) t = subst (λ (v : ViewContent). StandsForView K v t) view_is stands in
      let start : List ℕ = cond m.text.word_start (10 ∷ []) [] in
      let notes : List ℕ = codes "(" ++ (with_bars m.kept m.snippets ++ codes ")") in
      let own : score.translation_text m.kept m.text.translation ≡ printed_translation m.kept m.text.translation =
      ap (λ (k : List ℕ). score.translation_text k m.text.translation) kept_is
      ∙ translation_is K m.text.translation _ stands.translation ∙ sym (ap (λ (k : List ℕ). printed_translation k m.text.translation) kept_is) in
      let text : printed_view m.text m.kept ≡ encodes (print (view_facts t)) = ap (printed_view m.text) kept_is ∙ ap (λ (v : ViewContent). printed_view v (encodes K)) view_is ∙ printed K t view in
      let bracketed : notes ≡ encodes (40 ∷ (barred ss ++ 41 ∷ [])) =
      (λ i. opening i ++ (bars_are m.kept m.snippets ss texts i ++ closing i))
      ∙ ap (λ (x : List ℕ). encodes (40 ∷ []) ++ x) (sym (encodes-append (barred ss) (41 ∷ [])))
      ∙ sym (encodes-append (40 ∷ []) (barred ss ++ 41 ∷ [])) in
      ap (λ (x : List ℕ). start ++ (canonical_text m.text m.kept ++ (x ++ notes))) own
      ∙ ap (λ (x : List ℕ). start ++ x) (sym (append_assoc (canonical_text m.text m.kept) (printed_translation m.kept m.text.translation) notes))
      ∙ sym (append_assoc start (canonical_text m.text m.kept ++ printed_translation m.kept m.text.translation) notes)
      ∙ (λ i. text i ++ bracketed i)
      ∙ sym (encodes-append (print (view_facts t)) (40 ∷ (barred ss ++ 41 ∷ [])))

  -- ---- the snippets

  module _ (lines : ℕ) (K text : List ℕ) (all : List ReadSnippet)
      (each : (before after : List ReadSnippet) (s : ReadSnippet) → all ≡ before ++ s ∷ after → IsHeld lines K text before s) where
    -- n stand before these
    held_texts : (before rs : List ReadSnippet) → all ≡ before ++ rs
        → (map (λ (s : Snippet). slice s.span (encodes K)) (map (λ (s : ReadSnippet). s.snippet) rs) ≡ map encodes (map (λ (s : ReadSnippet). s.kept) rs))
        × AreSnippetsFrom lines (length before % (lines + 1)) (map (λ (s : ReadSnippet). s.kept) rs)
    held_texts before [] e = (refl, tt)
    held_texts before (r ∷ rs) e =
        let h = each before rs r e in
        let later = held_texts (before ++ r ∷ []) rs (e ∙ sym (append_assoc before (r ∷ []) rs)) in
        let here : slice r.snippet.span (encodes K) ≡ encodes r.kept = sliced K r.snippet.span r.kept h.stands in
        let longer : length (before ++ r ∷ []) ≡ suc (length before) = omega (arith, length-append before (r ∷ [])) in
        let turn : length (before ++ r ∷ []) % (lines + 1) ≡ next_line lines (length before % (lines + 1)) = ap (λ (n : ℕ). n % (lines + 1)) longer ∙ sym (next_turn lines (length before)) in (
          ap (λ (x : List ℕ). x ∷ map (λ (s : Snippet). slice s.span (encodes K)) (map (λ (s : ReadSnippet). s.snippet) rs)) here ∙ ap (λ (x : List (List ℕ)). encodes r.kept ∷ x) later.0,
          (subst (λ (n : ℕ). IsSnippetOf n r.kept) h.line_is h.is_snippet, subst (λ (n : ℕ). AreSnippetsFrom lines n (map (λ (s : ReadSnippet). s.kept) rs)) turn later.1),
        )

    -- what each keeps of its characters
    held_kept : (before rs : List ReadSnippet) → all ≡ before ++ rs → map (λ (s : ReadSnippet). s.kept) rs ≡ kept_snippets lines (length before % (lines + 1)) (map (λ (s : ReadSnippet). s.characters) rs)
    held_kept before [] e = refl
    held_kept before (r ∷ rs) e =
        let h = each before rs r e in
        let later = held_kept (before ++ r ∷ []) rs (e ∙ sym (append_assoc before (r ∷ []) rs)) in
        let longer : length (before ++ r ∷ []) ≡ suc (length before) = omega (arith, length-append before (r ∷ [])) in
        let turn : length (before ++ r ∷ []) % (lines + 1) ≡ next_line lines (length before % (lines + 1)) = ap (λ (n : ℕ). n % (lines + 1)) longer ∙ sym (next_turn lines (length before)) in
        ap (λ (x : List ℕ). x ∷ map (λ (s : ReadSnippet). s.kept) rs) (h.kept_is ∙ ap (λ (n : ℕ). kept_on_line n r.characters) h.line_is)
        ∙ ap (λ (x : List (List ℕ)). kept_on_line (length before % (lines + 1)) r.characters ∷ x) (later ∙ ap (λ (n : ℕ). kept_snippets lines n (map (λ (s : ReadSnippet). s.characters) rs)) turn)

  some_last : (earlier : List ReadSnippet) (last : ReadSnippet) → map (λ (s : ReadSnippet). s.kept) (earlier ++ last ∷ []) ≢ []
  some_last [] last e = absurd (cc)
  some_last (s ∷ earlier) last e = absurd (cc)

  with_notes : (lines : ℕ) (u : ScoreUnit) (m : UnplacedSyllable) (K : List ℕ) → m.kept ≡ encodes K → m.text ≡ view_in u.text → StandsForView K m.text u.text
      → HasNotes lines u K m.snippets → (lines ≡ 0 → length u.snippets ≤ 1) → IsPrinted lines u m
  with_notes lines u m K kept_is view_is stands notes single =
      let h = notes.holds in
      let all : List ReadSnippet = h.earlier ++ h.last ∷ [] in
      let ss : List (List ℕ) = map (λ (s : ReadSnippet). s.kept) all in
      let held = held_texts lines K (kept u.text) all h.each [] all refl in
      let texts : map (λ (s : Snippet). slice s.span m.kept) m.snippets ≡ map encodes ss =
      ap (λ (k : List ℕ). map (λ (s : Snippet). slice s.span k) m.snippets) kept_is ∙ ap (map (λ (s : Snippet). slice s.span (encodes K))) h.snippets_are ∙ held.0 in
      let many : length ss ≡ length u.snippets =
      length-map all (λ (s : ReadSnippet). s.kept) ∙ sym (length-map all (λ (s : ReadSnippet). s.characters)) ∙ ap (length {A = List Char}) notes.characters_are in
      let some : length ss ≡ length h.earlier + 1 = length-map all (λ (s : ReadSnippet). s.kept) ∙ length-append h.earlier (h.last ∷ []) in
      record {
        snippets = ss;
        are_snippets = record {
          some = some_last h.earlier h.last;
          single = λ e. let few = single e in omega (arith, many, some, few);
          each = subst (λ (n : ℕ). AreSnippetsFrom lines n ss) (zero-mod (lines + 1)) held.1;
        };
        bytes = bytes_are m K u.text ss kept_is view_is stands texts;
        texts = texts;
        own = λ some. held_kept lines K (kept u.text) all h.each [] all refl ∙ ap (λ (n : ℕ). kept_snippets lines n (map (λ (s : ReadSnippet). s.characters) all)) (zero-mod (lines + 1))
            ∙ ap (kept_snippets lines 0) notes.characters_are;
        plain = λ text characters. syllable_plain u.text ss text (snippets_plain lines K (kept u.text) u.notes h.earlier h.last h.characters_are h.each characters);
      }

  empty_slice : (K : List ℕ) → slice (record { from = length K; to = length K }) K ≡ []
  unfolding slice
  empty_slice K = grind arith

  without_notes : (lines : ℕ) (u : ScoreUnit) (m : UnplacedSyllable) (K : List ℕ) → m.kept ≡ encodes K → m.text ≡ view_in u.text → StandsForView K m.text u.text
      → HoldsNoNotes u.notes K (kept u.text) m.snippets → u.snippets ≡ [] → IsPrinted lines u m
  without_notes lines u m K kept_is view_is stands notes none =
      let texts : map (λ (s : Snippet). slice s.span m.kept) m.snippets ≡ map encodes ([] ∷ []) =
      ap (λ (k : List ℕ). map (λ (s : Snippet). slice s.span k) m.snippets) kept_is ∙ ap (map (λ (s : Snippet). slice s.span (encodes K))) notes.snippets_are ∙ ap (λ (x : List ℕ). x ∷ []) (empty_slice (encodes K)) in
      record {
        snippets = [] ∷ [];
        are_snippets = record { some = λ e. absurd (cc); single = λ e. refl; each = (([], refl), tt) };
        bytes = bytes_are m K u.text ([] ∷ []) kept_is view_is stands texts;
        texts = texts;
        own = λ some. absurd (some none);
        plain = λ text characters. syllable_plain u.text ([] ∷ []) text refl;
      }

  pub is_printed : (lines : ℕ) (u : ScoreUnit) (m : UnplacedSyllable) → HoldsUnit lines u m → (lines ≡ 0 → length u.snippets ≤ 1) → IsPrinted lines u m
  is_printed lines u m h single = grind (arith, without_notes, with_notes)
