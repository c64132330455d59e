-- A regular syllable makes its own spelling.
use Rattle.std.proofs.Common.{◌≡◌, ◌⊎◌, inr, ℕ, zero, suc, ◌+◌, ◌<◌, ◌^◌, ◌%◌, nat_lt, Bool, true, false, cond, List, [], ◌∷◌, ◌++◌, map, length, take, take_at, Option, Some, None, refl, sym, ap, ap₂, subst, ◌∙◌, arith, append_assoc, append-nil, codes}
use Rattle.std.specs.List.{flat_map}
use Rattle.std.proofs.Math.Nat.{mod-eq_of_lt}
use Rattle.std.proofs.lemmas.Str.{encodes-append, encode_ascii}
use lib.Utf8.{encodes}
use Rattle.gabc_text.proofs.KeptCharacters.{codes_placed}
use Rattle.gabc_text.proofs.printing.RegularTextIsPrinted.{parts_join}
use Rattle.gabc_places.specs.StageLaw.{concat_of}
use Rattle.gabc_places.specs.declared.code.Finding.{Finding}
use Rattle.gabc_places.specs.declared.place.Place.{Place}
use Rattle.gabc_places.specs.declared.place.Span.{Span}
use Rattle.gabc_places.specs.declared.place.Char.{Char}
use Rattle.gabc_places.specs.Place.{placed_characters_from}
use Rattle.gabc_patterns.specs.LongestItems.{IsSnippet}
use Rattle.gabc_patterns.specs.Function.{trim}
use Rattle.gabc_text.specs.RegularText.{IsRegularText, is_gap, text_part, translation_part}
use Rattle.gabc_text.specs.BuiltText.{with_events, empty_text, text_built_at, found_in}
use Rattle.gabc_text.specs.Canonical.{canonical_text}
use Rattle.gabc_text.specs.Ends.{EndsOnce}
use Rattle.gabc_text.specs.Events.{codes_of, events_of, events_by_point, after_tokens}
use Rattle.gabc_text.specs.Printed.{text_tokens, translation_tokens, text_of_tokens}
use Rattle.gabc_text.specs.TextRead.{view_in}
use Rattle.gabc_text.specs.TextView.{ViewContent}
use Rattle.gabc_text.specs.View.{kept, findings}
use Rattle.gabc_text.specs.ViewFacts.{ViewFacts, StandsForView, IsTranslation, view_facts}
use Rattle.gabc_notes.specs.Ends.{IsMarkOf}
use Rattle.gabc_notes.specs.Events.{note_events}
use Rattle.gabc_notes.specs.ReadAgain.{IsReadAgain}
use Rattle.gabc_notes.specs.Table.{gabc}
use Rattle.gabc_notes.specs.declared.stage.NoteEnd.{NoteEnd}
use Rattle.gabc_notes.specs.declared.stage.NoteEnd.TheVariants as note_end
use Rattle.gabc_nabc.specs.Events as nabc_read
use Rattle.gabc_nabc.specs.ReadAgain.{IsNabcReadAgain}
use Rattle.gabc_nabc.specs.Table.{nabc}
use Rattle.gabc_body.specs.declared.events.BodyEvent.{BodyEvent}
use Rattle.gabc_body.specs.declared.snippets.Snippet.{Snippet}
use Rattle.gabc_body.specs.Body.{findings_of}
use Rattle.gabc_body.specs.Canonical.{canonical, translation_text, with_bars}
use Rattle.gabc_body.specs.Events.{texts_by_definition, text_from, snippet_from, next_line}
use Rattle.gabc_body.specs.Holding.{ReadSnippet, kept_on_line, in_brackets, IsHeld}
use Rattle.gabc_score.specs.RegularSyllable.{SaysText, SyllableParts, line_and_text, snippet_texts, snippets_spelled, with_lines, IsRegularOn, AreRegularFrom, IsRegularSyllable, has_gap, gap_kept, kept_spelled, canonical_spelled, notes_spelled, spelled, after_part, nexts_at, final_at, unit_at}
use Rattle.gabc_body.specs.Syllable.{UnplacedSyllable, since_close, slice}
use Rattle.gabc_body.specs.SyllablesOfUnits.{HoldsUnit, NotesAre, ScoreUnit, score_unit, characters_in, characters_from}
use Rattle.gabc_body.specs.UnitRead.{GivesOneSyllable, first_events, emitted_through}
use Rattle.gabc_body.specs.Units.{Closes, EndedPart, BodyUnit, JustText, CutPart, Cuts, cut_part, whole, snippets_with, units_pieces}
use Rattle.gabc_body.proofs.holding.SnippetsLieInKeptText.{bytes_stand}
use Rattle.gabc_body.proofs.holding.SpansBetweenCharacters.{part_text}
use Rattle.gabc_body.proofs.order.FindingsOfParts.{found, found_onto}
use Rattle.gabc_body.proofs.holding.PartsAreAUnit.{none_left}
use Rattle.gabc_score.proofs.resuming.PartsAreOne.{nothing_marked}
use Rattle.gabc_score.proofs.regular_syllables.RegularPartsEnd.{head_same, tail_same, next_ends, close_ends}
use Rattle.gabc_score.proofs.regular_syllables.SnippetsInARow.{kept_texts, turn_after, in_a_row, first_byte}
use Rattle.gabc_score.proofs.regular_syllables.RegularSyllableIsRead.{notes_at, unit_placed, syllable_passes, text_there, split_of, splits}
use Rattle.gabc_body.proofs.syllables_of_units.UnitGivesOneSyllable.{one_syllable}
use Rattle.gabc_body.proofs.syllables_of_units.UnitsGiveSyllables.{units_whole}

-- ---- lists

pub one_byte : (c : ℕ) (t : List ℕ) → c < 128 → encodes (c ∷ t) ≡ c ∷ encodes t
one_byte c t h = ap (λ (bs : List ℕ). bs ++ encodes t) (encode_ascii c (omega (arith, h)))

with_byte : (a : List ℕ) (c : ℕ) (b : List ℕ) → c < 128 → encodes a ++ c ∷ encodes b ≡ encodes (a ++ c ∷ b)
with_byte a c b h = ap (λ (k : List ℕ). encodes a ++ k) (sym (one_byte c b h)) ∙ sym (encodes-append a (c ∷ b))

-- ---- notes as they stand

-- snippets in brackets, by their kept texts
brackets : (earlier : List ReadSnippet) (last : ReadSnippet) (nexts : List (List ℕ)) (final : List ℕ) → kept_texts (earlier ++ last ∷ []) ≡ nexts ++ final ∷ []
    → flat_map (λ (s : ReadSnippet). s.kept ++ codes "|") earlier ++ (last.kept ++ codes ")") ≡ notes_spelled nexts final
brackets [] last [] final e = ap (λ (t : List ℕ). t ++ 41 ∷ []) (head_same last.kept final [] [] e)
brackets [] last (t ∷ nexts) final e = absurd (nothing_marked nexts [] final (tail_same last.kept t [] (nexts ++ final ∷ []) e))
brackets (s ∷ earlier) last [] final e = absurd (none_left (λ (s : ReadSnippet). s.kept) earlier last (tail_same s.kept final (kept_texts (earlier ++ last ∷ [])) [] e))
brackets (s ∷ earlier) last (t ∷ nexts) final e =
    let tail : List ℕ = last.kept ++ codes ")" in
    let more : List ℕ = flat_map (λ (s : ReadSnippet). s.kept ++ codes "|") earlier in
    append_assoc (s.kept ++ codes "|") more tail ∙ append_assoc s.kept (codes "|") (more ++ tail)
    ∙ ap (λ (k : List ℕ). k ++ 124 ∷ (more ++ tail)) (head_same s.kept t (kept_texts (earlier ++ last ∷ [])) (nexts ++ final ∷ []) e)
    ∙ ap (λ (k : List ℕ). t ++ 124 ∷ k) (brackets earlier last nexts final (tail_same s.kept t (kept_texts (earlier ++ last ∷ [])) (nexts ++ final ∷ []) e))

-- each snippet has the bytes of its kept text
abbrev HaveBytes : List ℕ → List ReadSnippet → Type 0
HaveBytes bytes [] = Unit {0}
HaveBytes bytes (s ∷ ss) = (slice s.snippet.span bytes ≡ encodes s.kept) × HaveBytes bytes ss

bars : (bytes : List ℕ) (ss : List ReadSnippet) (nexts : List (List ℕ)) (final : List ℕ) → kept_texts ss ≡ nexts ++ final ∷ [] → HaveBytes bytes ss
    → with_bars bytes (map (λ (s : ReadSnippet). s.snippet) ss) ++ codes ")" ≡ encodes (notes_spelled nexts final)
bars bytes [] nexts final e h = absurd (nothing_marked nexts [] final e)
bars bytes (s ∷ []) [] final e h = ap (λ (t : List ℕ). t ++ codes ")") (h.0 ∙ ap encodes (head_same s.kept final [] [] e)) ∙ with_byte final 41 [] (omega arith)
bars bytes (s ∷ []) (t ∷ nexts) final e h = absurd (nothing_marked nexts [] final (tail_same s.kept t [] (nexts ++ final ∷ []) e))
bars bytes (s ∷ z ∷ ss) [] final e h = absurd (let k = tail_same s.kept final (kept_texts (z ∷ ss)) [] e in cc)
bars bytes (s ∷ z ∷ ss) (t ∷ nexts) final e h =
    let more : List ℕ = with_bars bytes (map (λ (s : ReadSnippet). s.snippet) (z ∷ ss)) in
    append_assoc (slice s.snippet.span bytes) (codes "|" ++ more) (codes ")")
    ∙ ap (λ (k : List ℕ). k ++ 124 ∷ (more ++ codes ")")) (h.0 ∙ ap encodes (head_same s.kept t (kept_texts (z ∷ ss)) (nexts ++ final ∷ []) e))
    ∙ ap (λ (k : List ℕ). encodes t ++ 124 ∷ k) (bars bytes (z ∷ ss) nexts final (tail_same s.kept t (kept_texts (z ∷ ss)) (nexts ++ final ∷ []) e) h.1)
    ∙ with_byte t 124 (notes_spelled nexts final) (omega arith)

have_bytes : (lines : ℕ) (all text : List ℕ) (before ss : List ReadSnippet) → ((b a : List ReadSnippet) (s : ReadSnippet) → before ++ ss ≡ b ++ s ∷ a → IsHeld lines all text b s) → HaveBytes (encodes all) ss
have_bytes lines all text before [] h = tt
have_bytes lines all text before (s ∷ ss) h =
    (bytes_stand all s.snippet.span s.kept (h before ss s refl).stands, have_bytes lines all text (before ++ s ∷ []) ss (λ b a z e. h b a z (sym (append_assoc before (s ∷ []) ss) ∙ e)))

on_line : (lines : ℕ) (all text : List ℕ) (before : List ReadSnippet) (s : ReadSnippet) (line : ℕ) (t : List ℕ) → line ≡ length before % (lines + 1) → IsHeld lines all text before s → s.kept ≡ t
    → line_and_text (encodes all) s.snippet ≡ (line, encodes t)
on_line lines all text before s line t l h e = grind (arith, part_text, bytes_stand)

-- each snippet stands on the line whose turn it is
on_lines : (lines : ℕ) (all text : List ℕ) (nexts : List (List ℕ)) (final : List ℕ) (line : ℕ) (before ss : List ReadSnippet) → line ≡ length before % (lines + 1) → kept_texts ss ≡ nexts ++ final ∷ []
    → ((b a : List ReadSnippet) (s : ReadSnippet) → before ++ ss ≡ b ++ s ∷ a → IsHeld lines all text b s)
    → map (line_and_text (encodes all)) (map (λ (s : ReadSnippet). s.snippet) ss) ≡ with_lines lines line nexts final
on_lines lines all text nexts final line before [] l e h = absurd (nothing_marked nexts [] final e)
on_lines lines all text [] final line before (s ∷ z ∷ ss) l e h = absurd (let k = tail_same s.kept final (kept_texts (z ∷ ss)) [] e in cc)
on_lines lines all text [] final line before (s ∷ []) l e h =
    ap (λ (t : ℕ × List ℕ). t ∷ []) (on_line lines all text before s line final l (h before [] s refl) (head_same s.kept final [] [] e))
on_lines lines all text (t ∷ nexts) final line before (s ∷ ss) l e h =
    ap₂ (λ (x : ℕ × List ℕ) (xs : List (ℕ × List ℕ)). x ∷ xs)
    (on_line lines all text before s line t l (h before ss s refl) (head_same s.kept t (kept_texts ss) (nexts ++ final ∷ []) e))
    (on_lines lines all text nexts final (next_line lines line) (before ++ s ∷ []) ss
    (turn_after lines line before s l)
    (tail_same s.kept t (kept_texts ss) (nexts ++ final ∷ []) e) (λ b a z k. h b a z (sym (append_assoc before (s ∷ []) ss) ∙ k)))

module _ (gabc_again : (split : Bool) (macros : ℕ) (at : Place) (how : NoteEnd) (t rest : List ℕ) (mark : ℕ) → IsSnippet gabc t → IsMarkOf split how mark → IsReadAgain split macros at t mark rest)
    (nabc_again : (at : Place) (how : NoteEnd) (t rest : List ℕ) (mark : ℕ) → IsSnippet nabc t → IsMarkOf true how mark → IsNabcReadAgain at t mark rest) (lines : ℕ) where
  -- a regular snippet is kept as it stands
  kept_regular : (line : ℕ) (at : Place) (t : List ℕ) → IsRegularOn line t → kept_on_line line (placed_characters_from at t) ≡ t
  kept_regular zero at t r = (gabc_again false 0 at note_end.Close t [] 41 r.snippet refl).kept
  kept_regular (suc line) at t r = ap (λ (cs : List ℕ). trim nabc (nabc_read.kept_of cs)) (codes_placed at t) ∙ (nabc_again at note_end.Close t [] 41 r.snippet refl).kept

  module _ (all text : List ℕ) where
    kept_here : (line : ℕ) (at : Place) (t : List ℕ) (before : List ReadSnippet) (s : ReadSnippet) → line ≡ length before % (lines + 1) → IsHeld lines all text before s
        → s.characters ≡ placed_characters_from at t → IsRegularOn line t → s.kept ≡ t
    kept_here line at t before s l h e r = grind (arith, kept_regular)

    kept_all : (nexts : List (List ℕ)) (final : List ℕ) (at : Place) (line : ℕ) (before ss : List ReadSnippet) → line ≡ length before % (lines + 1) → AreRegularFrom lines line nexts final
        → map (λ (s : ReadSnippet). s.characters) ss ≡ map (λ (e : EndedPart). e.characters) (notes_at at nexts final)
        → ((b a : List ReadSnippet) (s : ReadSnippet) → before ++ ss ≡ b ++ s ∷ a → IsHeld lines all text b s) → kept_texts ss ≡ nexts ++ final ∷ []
    kept_all [] final at line before [] l r e h = absurd (cc)
    kept_all [] final at line before (s ∷ z ∷ ss) l r e h = grind (arith, tail_same)
    kept_all [] final at line before (s ∷ []) l r e h =
        ap (λ (t : List ℕ). t ∷ []) (kept_here line at final before s l (h before [] s refl) (head_same s.characters (placed_characters_from at final) [] [] e) r)
    kept_all (t ∷ nexts) final at line before [] l r e h = absurd (cc)
    kept_all (t ∷ nexts) final at line before (s ∷ ss) l r e h =
        let rest = map (λ (e : EndedPart). e.characters) (notes_at (after_part at t 124) nexts final) in
        let own = map (λ (s : ReadSnippet). s.characters) ss in
        ap (λ (k : List ℕ). k ∷ kept_texts ss) (kept_here line at t before s l (h before ss s refl) (head_same s.characters (placed_characters_from at t) own rest e) r.0)
        ∙ ap (λ (ks : List (List ℕ)). t ∷ ks)
        (kept_all nexts final (after_part at t 124) (next_line lines line) (before ++ s ∷ []) ss
        (turn_after lines line before s l)
        r.1 (tail_same s.characters (placed_characters_from at t) own rest e) (λ b a z k. h b a z (sym (append_assoc before (s ∷ []) ss) ∙ k)))

-- ---- the text as it stands

module _ (kept_alone : (t rest : List ℕ) → IsRegularText t → kept (t ++ 40 ∷ rest) ≡ t)
    (kept_after : (b : ℕ) (gap t rest : List ℕ) → is_gap (b ∷ gap) ≡ true → IsRegularText t → kept (b ∷ gap ++ (t ++ 40 ∷ rest)) ≡ 32 ∷ t) where
  pub text_kept : (gap t rest : List ℕ) → is_gap gap ≡ true → IsRegularText t → kept ((gap ++ t) ++ 40 ∷ rest) ≡ gap_kept gap ++ t
  text_kept gap t rest b r = grind (arith, append_assoc)

-- ---- its text and its translation

-- together they are the text
whole_said : (m : UnplacedSyllable) (t : List ℕ) → IsRegularText t → SaysText m t → canonical_text m.text m.kept ++ translation_text m.kept m.text.translation ≡ encodes t
whole_said m t r s = ap₂ (λ (a b : List ℕ). a ++ b) s.text s.translation ∙ sym (encodes-append (text_part t) (translation_part t)) ∙ ap encodes (parts_join t r)

translation_said : (all : List ℕ) (o : Option Span) (t : Option (List ℕ)) → IsTranslation all o t → translation_text (encodes all) o ≡ encodes (text_of_tokens (translation_tokens t))
translation_said all None None h = refl
translation_said all None (Some part) h = absurd h
translation_said all (Some span) None h = absurd h
translation_said all (Some span) (Some part) h =
    ap (λ (bs : List ℕ). 91 ∷ (bs ++ 93 ∷ [])) (bytes_stand all span part h) ∙ ap (λ (bs : List ℕ). 91 ∷ bs) (with_byte part 93 [] (omega arith))
    ∙ sym (one_byte 91 (part ++ 93 ∷ []) (omega arith)) ∙ ap encodes (sym (append-nil (91 ∷ (part ++ 93 ∷ []))))

module _ (starts : (t : List ℕ) → (view_in t).word_start ≡ (view_facts t).word_start)
    (says_alone : (t rest : List ℕ) → IsRegularText t → view_facts (t ++ 40 ∷ rest) ≡ view_facts t)
    (says_after : (b : ℕ) (gap t rest : List ℕ) → is_gap (b ∷ gap) ≡ true → IsRegularText t → view_facts (b ∷ gap ++ (t ++ 40 ∷ rest)) ≡ record (view_facts t) { word_start = true })
    (kept_alone : (t rest : List ℕ) → IsRegularText t → kept (t ++ 40 ∷ rest) ≡ t)
    (kept_after : (b : ℕ) (gap t rest : List ℕ) → is_gap (b ∷ gap) ≡ true → IsRegularText t → kept (b ∷ gap ++ (t ++ 40 ∷ rest)) ≡ 32 ∷ t)
    (is_printed : (whole t : List ℕ) → StandsForView whole (view_in t) t → canonical_text (view_in t) (encodes whole) ≡ encodes (text_of_tokens (text_tokens (view_facts t)))) where
  text_says : (gap t rest : List ℕ) → is_gap gap ≡ true → IsRegularText t → view_facts ((gap ++ t) ++ 40 ∷ rest) ≡ record (view_facts t) { word_start = has_gap gap }
  text_says gap t rest b r = grind (arith, append_assoc)

  -- the canonical text of a syllable that has this text and these notes
  canonical_by : (w : Bool) (a b t notes bars : List ℕ) → a ++ b ≡ encodes t → bars ++ codes ")" ≡ encodes notes
      → cond w (10 ∷ []) [] ++ (a ++ (b ++ (codes "(" ++ (bars ++ codes ")")))) ≡ encodes (cond w (10 ∷ []) [] ++ (t ++ 40 ∷ notes))
  canonical_by w a b t notes bars h k =
      ap (λ (z : List ℕ). cond w (10 ∷ []) [] ++ z)
      (sym (append_assoc a b (codes "(" ++ (bars ++ codes ")"))) ∙ ap (λ (z : List ℕ). z ++ (codes "(" ++ (bars ++ codes ")"))) h ∙ ap (λ (z : List ℕ). encodes t ++ 40 ∷ z) k ∙ with_byte t 40 notes (omega arith))
      ∙ grind (arith, one_byte 10 (t ++ 40 ∷ notes) (omega arith))

  -- ---- a syllable that holds the unit

  module _ (gabc_again : (split : Bool) (macros : ℕ) (at : Place) (how : NoteEnd) (t rest : List ℕ) (mark : ℕ) → IsSnippet gabc t → IsMarkOf split how mark → IsReadAgain split macros at t mark rest)
      (nabc_again : (at : Place) (how : NoteEnd) (t rest : List ℕ) (mark : ℕ) → IsSnippet nabc t → IsMarkOf true how mark → IsNabcReadAgain at t mark rest) (lines : ℕ) (at : Place) (r : SyllableParts) (regular : IsRegularSyllable lines r) where
    abbrev u : ScoreUnit
    u = score_unit (unit_at at r) []

    abbrev notes : List ℕ
    notes = notes_spelled r.nexts r.final

    pub unit_text : u.text ≡ (r.gap ++ r.text) ++ 40 ∷ notes
    unit_text = ap codes_of (append-nil (characters_in (unit_at at r)) ∙ unit_placed at r) ∙ codes_placed at (spelled r)

    pub record Spelled (m : UnplacedSyllable) : Type 0 where
      pub kept_is : m.kept ≡ encodes (kept_spelled r)
      pub starts_is : m.text.word_start ≡ has_gap r.gap
      pub canonical_is : (w : Bool) → canonical w m ≡ encodes (canonical_spelled w r)
      pub text_is : SaysText m r.text
      pub snippets_are : snippet_texts m ≡ with_lines lines 0 r.nexts r.final
      pub spans_are : m.snippets ≡ snippets_spelled lines r

    pub held_spelled : (m : UnplacedSyllable) → HoldsUnit lines u m → Spelled m
    held_spelled m h = by u.snippets refl h.notes
      where
        text_is : m.text ≡ view_in ((r.gap ++ r.text) ++ 40 ∷ notes)
        text_is = h.view_is ∙ ap view_in unit_text

        stands : StandsForView h.whole (view_in ((r.gap ++ r.text) ++ 40 ∷ notes)) ((r.gap ++ r.text) ++ 40 ∷ notes)
        stands = subst (λ (v : ViewContent). StandsForView h.whole v ((r.gap ++ r.text) ++ 40 ∷ notes)) text_is (subst (λ (t : List ℕ). StandsForView h.whole m.text t) unit_text h.stands)

        by : (xss : List (List Char)) → u.snippets ≡ xss → NotesAre lines u xss h.whole m.snippets → Spelled m
        by [] e n = absurd (none_left (λ (e : EndedPart). e.characters) (unit_at at r).nexts (unit_at at r).final e)
        by (xs ∷ xss) e n =
            let k = n.holds in
            let ss = k.earlier ++ k.last ∷ [] in
            let turn : 0 ≡ 0 % (lines + 1) = sym (mod-eq_of_lt (let some : zero < lines + 1 = omega arith in some)) in
            let kepts : kept_texts ss ≡ r.nexts ++ r.final ∷ [] =
            kept_all gabc_again nabc_again lines h.whole (kept u.text) r.nexts r.final (after_part at (r.gap ++ r.text) 40) 0 [] ss turn regular.notes n.characters_are k.each in
            let front : kept u.text ≡ gap_kept r.gap ++ r.text = ap kept unit_text ∙ text_kept kept_alone kept_after r.gap r.text notes regular.blanks regular.text in
            let whole_is : h.whole ≡ kept_spelled r =
            k.whole_is ∙ ap (λ (t : List ℕ). t ++ in_brackets (λ (s : ReadSnippet). s.kept) k.earlier k.last) front
            ∙ ap (λ (t : List ℕ). (gap_kept r.gap ++ r.text) ++ 40 ∷ t) (brackets k.earlier k.last r.nexts r.final kepts) in
            let spelled_bars : with_bars m.kept m.snippets ++ codes ")" ≡ encodes notes =
            ap (λ (bytes : List ℕ). with_bars bytes m.snippets ++ codes ")") h.kept_is ∙ ap (λ (ps : List Snippet). with_bars (encodes h.whole) ps ++ codes ")") k.snippets_are
            ∙ bars (encodes h.whole) ss r.nexts r.final kepts (have_bytes lines h.whole (kept u.text) [] ss k.each) in
            let says = text_says r.gap r.text notes regular.blanks regular.text in
            let said : SaysText m r.text = record {
              text = ap (λ (v : ViewContent). canonical_text v m.kept) text_is ∙ ap (λ (bytes : List ℕ). canonical_text (view_in ((r.gap ++ r.text) ++ 40 ∷ notes)) bytes) h.kept_is
                  ∙ is_printed h.whole ((r.gap ++ r.text) ++ 40 ∷ notes) stands ∙ ap (λ (v : ViewFacts). encodes (text_of_tokens (text_tokens v))) says;
              translation = ap (λ (v : ViewContent). translation_text m.kept v.translation) text_is ∙ ap (λ (bytes : List ℕ). translation_text bytes (view_in ((r.gap ++ r.text) ++ 40 ∷ notes)).translation) h.kept_is
                  ∙ translation_said h.whole (view_in ((r.gap ++ r.text) ++ 40 ∷ notes)).translation _ stands.translation ∙ ap (λ (v : ViewFacts). encodes (text_of_tokens (translation_tokens v.translation))) says;
            } in
            record {
              kept_is = h.kept_is ∙ ap encodes whole_is;
              starts_is = ap (λ (v : ViewContent). v.word_start) text_is ∙ starts ((r.gap ++ r.text) ++ 40 ∷ notes) ∙ ap (λ (v : ViewFacts). v.word_start) says;
              text_is = said;
              snippets_are = ap (λ (bytes : List ℕ). map (line_and_text bytes) m.snippets) h.kept_is ∙ ap (map (line_and_text (encodes h.whole))) k.snippets_are
                  ∙ on_lines lines h.whole (kept u.text) r.nexts r.final 0 [] ss turn kepts k.each;
              spans_are = k.snippets_are ∙ in_a_row lines h.whole (kept u.text) r.nexts r.final 0 _ [] ss turn (first_byte (kept u.text) _ front) kepts k.each;
              canonical_is = λ w. canonical_by w (canonical_text m.text m.kept) (translation_text m.kept m.text.translation) r.text notes (with_bars m.kept m.snippets) (whole_said m r.text regular.text said) spelled_bars;
            }

-- ---- the unit is cut so

module _ (gabc_prefix : (split : Bool) (macros : ℕ) (xs ys zs : List Char) → take (length xs) (note_events split macros (xs ++ ys)) ≡ take (length xs) (note_events split macros (xs ++ zs)))
    (nabc_prefix : (xs ys zs : List Char) → take (length xs) (nabc_read.nabc_events (xs ++ ys)) ≡ take (length xs) (nabc_read.nabc_events (xs ++ zs))) (lines macros : ℕ) where
  notes_cut : (line : ℕ) (opened at : Place) (nexts : List (List ℕ)) (final : List ℕ) → AreRegularFrom lines line nexts final → (nexts ≡ []) ⊎ (nat_lt 0 lines ≡ true)
      → (let pieces = snippets_with lines line opened (nexts_at at nexts) (cut_part (final_at at nexts final) Closes ∷ []) in
      Cuts texts_by_definition lines macros (snippet_from lines macros line opened (whole pieces [])) pieces [])
  notes_cut line opened at [] final r s = ((close_ends gabc_prefix nabc_prefix lines macros line opened at final [] r).ends, tt)
  notes_cut line opened at (t ∷ nexts) final r s =
      let next = after_part at t 124 in
      let pieces = snippets_with lines (next_line lines line) opened (nexts_at next nexts) (cut_part (final_at next nexts final) Closes ∷ []) in
      ((next_ends gabc_prefix nabc_prefix lines macros line opened at t (whole pieces []) r.0 (splits t nexts lines s)).ends, notes_cut (next_line lines line) opened next nexts final r.1 (inr (splits t nexts lines s)))

  -- ---- what it gives

  module _ (ends : (at : Place) (t : List ℕ) → EndsOnce at t) (emits : (at : Place) (t : List ℕ) → with_events empty_text (concat_of (events_by_point at t)) ≡ text_built_at at t)
      (spans : (t : List ℕ) → StandsForView (kept t) (view_in t) t) (in_order : (at : Place) (t : List ℕ) → concat_of (events_by_point at t) ≡ events_of at t)
      (all_found : (at : Place) (t : List ℕ) → found_in (concat_of (events_by_point at t)) ≡ findings at t)
      (found_alone : (at : Place) (t rest : List ℕ) → IsRegularText t → findings at (t ++ 40 ∷ rest) ≡ [])
      (ends_alone : (t rest : List ℕ) → IsRegularText t → after_tokens (t ++ 40 ∷ rest) ≡ 40 ∷ rest)
      (found_after : (at : Place) (b : ℕ) (gap t rest : List ℕ) → is_gap (b ∷ gap) ≡ true → IsRegularText t → findings at (b ∷ gap ++ (t ++ 40 ∷ rest)) ≡ [])
      (ends_after_it : (b : ℕ) (gap t rest : List ℕ) → is_gap (b ∷ gap) ≡ true → IsRegularText t → after_tokens (b ∷ gap ++ (t ++ 40 ∷ rest)) ≡ 40 ∷ rest)
      (at : Place) (r : SyllableParts) (regular : IsRegularSyllable lines r) where
    abbrev unit : BodyUnit
    unit = unit_at at r

    abbrev pieces : List CutPart
    pieces = units_pieces lines (unit ∷ []) (JustText [])

    cuts : Cuts texts_by_definition lines macros (text_from texts_by_definition at (characters_from (unit ∷ []) (JustText []))) pieces []
    cuts =
        subst (λ (ys : List Char). Cuts texts_by_definition lines macros (text_from texts_by_definition at ys) pieces []) (units_whole lines (unit ∷ []) (JustText [])) (
          text_there lines macros gabc_prefix nabc_prefix ends all_found found_alone ends_alone found_after ends_after_it at r
              (whole (snippets_with lines 0 unit.text.end.place unit.nexts (cut_part unit.final Closes ∷ [])) []) regular,
          notes_cut 0 unit.text.end.place (after_part at (r.gap ++ r.text) 40) r.nexts r.final regular.notes
              (split_of lines macros gabc_prefix nabc_prefix ends all_found found_alone ends_alone found_after ends_after_it lines r.nexts regular.single),
        )

    pub given : length (encodes (codes_of (characters_in unit ++ []))) < 2 ^ 63 → (before : List BodyEvent) → since_close before ≡ [] → GivesOneSyllable lines macros at unit [] before
    given fits before since = one_syllable ends emits spans in_order all_found lines macros at unit [] (JustText []) fits cuts before since

    pub found_none : (before : List BodyEvent) → findings_of (emitted_through lines macros at unit [] before) ≡ findings_of before
    found_none before =
        let us = characters_in unit in
        let p = syllable_passes lines macros gabc_prefix nabc_prefix ends all_found found_alone ends_alone found_after ends_after_it at r [] regular in
        let first : first_events lines macros at (us ++ []) (length us) ≡ concat_of p.front =
        ap (λ (ls : List (List BodyEvent)). concat_of (take (length us) ls)) p.all_is ∙ ap concat_of (take_at p.front _ (length us) p.count) in
        found_onto (first_events lines macros at (us ++ []) (length us)) before
        ∙ ap (λ (fs : List Finding). findings_of before ++ fs) (ap found first ∙ p.nothing) ∙ append-nil (findings_of before)
