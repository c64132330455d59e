-- The canonical text of a syllable that holds a unit is read by itself as a syllable that says the same.
use Rattle.std.proofs.Common.{◌≡◌, ℕ, suc, ◌<◌, ◌≤◌, ◌^◌, List, [], ◌∷◌, ◌++◌, map, length, Bool, true, false, ◌||◌, codes, refl, sym, ap, ap₂, subst, ◌∙◌, append-nil, arith}
use Rattle.std.specs.List.{All}
use Rattle.std.proofs.lemmas.List.{length-map}
use lib.Utf8.{encode, encodes}
use Rattle.gabc_text.proofs.KeptCharacters.{codes_placed}
use Rattle.gabc_places.specs.declared.place.Place.{Place}
use Rattle.gabc_places.specs.declared.place.Char.{Char}
use Rattle.gabc_places.specs.declared.place.Span.{Span}
use Rattle.gabc_places.specs.Place.{placed_characters_from}
use Rattle.gabc_places.proofs.PlacesOfAText.{length_placed}
use Rattle.gabc_text.specs.declared.view.Piece.{Piece}
use Rattle.gabc_text.specs.Canonical.{canonical_text}
use Rattle.gabc_text.specs.Events.{codes_of}
use Rattle.gabc_text.specs.Printed.{text_tokens, text_of_tokens}
use Rattle.gabc_text.specs.TextRead.{view_in}
use Rattle.gabc_text.specs.TextView.{ViewContent}
use Rattle.gabc_text.specs.View.{findings}
use Rattle.gabc_text.specs.ViewFacts.{ViewFacts, view_facts, StandsFor, StandsForView, has_error}
use Rattle.gabc_notes.specs.ReadAgain.{IsWarning}
use Rattle.gabc_body.specs.declared.events.BodyEvent.{BodyEvent}
use Rattle.gabc_body.specs.declared.syllable.Position.TheVariants as position
use Rattle.gabc_body.specs.Body.{events_onto, findings_of}
use Rattle.gabc_body.specs.Canonical.{canonical}
use Rattle.gabc_body.specs.Events.{texts_by_definition, text_from, next_line}
use Rattle.gabc_body.specs.FoundInParts.{TextWarns, SnippetsWarn}
use Rattle.gabc_body.specs.SpansPast.{open_past}
use Rattle.gabc_body.specs.Syllable.{UnplacedSyllable, slice, since_close, kept_of, all_syllables, is_eu, is_nlba, is_open_after}
use Rattle.gabc_body.specs.SyllablesOfUnits.{ScoreUnit, HoldsUnit, characters_in, characters_from, score_unit, snippets_in}
use Rattle.gabc_body.specs.UnitRead.{HoldsSomeUnit, GivesOneSyllable, first_events}
use Rattle.gabc_body.specs.Units.{EndedPart, BodyUnit, LastUnit, JustText, Cuts, units_pieces, last_characters}
use Rattle.gabc_write.specs.SyllableAgain.{printed_syllable, AreSnippets, AreSnippetsAgain, AreUnitsFrom, SaysAgain, IsPrinted, IsOneUnit}
use Rattle.gabc_write.specs.BodyAgain.{SyllableFacts}
use Rattle.gabc_write.specs.SyllableMeaning.{PieceMeaning, meaning_of_piece, SyllableMeaning}
use Rattle.gabc_write.specs.SyllableRead.{as_it_stands, SaysTheSame, IsReadByItself, IsReadFromItsText}
use Rattle.gabc_write.proofs.reading_again.NoErrorIsFoundAgain.{snippets_warn}
use Rattle.gabc_body.specs.WithinLimits.{KeepsWithin}
use Rattle.gabc_write.proofs.reading_again.NoLimitIsPassedAgain.{one_keeps}
use Rattle.gabc_write.proofs.reading_again.ScoreReadAgainIsTheSame.{kept_again, some_parts}
use Rattle.gabc_write.proofs.reading_again.SyllablesSayTheSame.{one_said, said_by}

-- ---- spans, by what pieces say

abbrev open_over : List ℕ → List ℕ → List PieceMeaning → Bool → Bool
open_over opening closing [] was = was
open_over opening closing (p ∷ ps) was = open_over opening closing ps (is_open_after opening closing was p.kind p.text)

past_is_over : (opening closing kept : List ℕ) (ps : List Piece) (was : Bool) → open_past opening closing kept ps was ≡ open_over opening closing (map (meaning_of_piece kept) ps) was
past_is_over opening closing kept [] was = refl
past_is_over opening closing kept (p ∷ ps) was = past_is_over opening closing kept ps (is_open_after opening closing was p.kind (slice p.span kept))

-- syllables that say the same leave the same open
same_past : (opening closing : List ℕ) (n m : UnplacedSyllable) (was : Bool) → SaysTheSame n m → open_past opening closing n.kept n.text.pieces was ≡ open_past opening closing m.kept m.text.pieces was
same_past opening closing n m was h =
    past_is_over opening closing n.kept n.text.pieces was
    ∙ ap (λ (s : SyllableMeaning). open_over opening closing s.pieces was) (h position.One)
    ∙ sym (past_is_over opening closing m.kept m.text.pieces was)

-- ---- snippets

as_many : (lines macros line : ℕ) (es : List EndedPart) (after : List Char) (ss : List (List ℕ)) → AreSnippetsAgain lines macros line es after ss → length es ≡ length ss
as_many lines macros line [] after [] h = refl
as_many lines macros line (e ∷ es) after (s ∷ ss) h = ap suc (as_many lines macros (next_line lines line) es after ss h.1)
as_many lines macros line _ after _ h = absurd h

-- ---- the LF before a first syllable

-- a text, and the same with an LF before it
abbrev text_for : Bool → List ℕ → List ℕ
text_for false t = t
text_for true t = 10 ∷ t

-- a syllable of this view, whose text begins a word as it does itself, and its canonical text
record IsSaidBy (v : ViewFacts) (ss : List (List ℕ)) (m : UnplacedSyllable) : Type 0 where
  starts : m.text.word_start ≡ v.word_start
  bytes : canonical m.text.word_start m ≡ encodes (printed_syllable v ss)

with_line_feed : (v : ViewFacts) (ss : List (List ℕ)) → v.word_start ≡ false → encodes (printed_syllable (record v { word_start = true }) ss) ≡ 10 ∷ encodes (printed_syllable v ss)
unfolding encode
with_line_feed v ss e = rw e refl

said_as_first : (v : ViewFacts) (ss : List (List ℕ)) (m : UnplacedSyllable) → IsSaidBy v ss m → canonical true m ≡ encodes (printed_syllable (record v { word_start = true }) ss)
said_as_first v ss m h = grind (arith, with_line_feed)

said_where_it_stands : (first : Bool) (v : ViewFacts) (ss : List (List ℕ)) (m : UnplacedSyllable) → IsSaidBy v ss m
    → canonical (first || m.text.word_start) m ≡ encodes (printed_syllable (record v { word_start = first || m.text.word_start }) ss)
said_where_it_stands first v ss m h = grind (arith, said_as_first)

view_for : (begins : (t : List ℕ) → view_facts (10 ∷ t) ≡ record (view_facts t) { word_start = true }) (first : Bool) (t : List ℕ)
    → view_facts (text_for first t) ≡ record (view_facts t) { word_start = first || (view_facts t).word_start }
view_for begins first t = grind arith

module _ (starts : (t : List ℕ) → (view_in t).word_start ≡ (view_facts t).word_start) (centres : (t : List ℕ) → (view_in t).centre ≡ (view_facts t).centre)
    (printed_text : (whole t : List ℕ) → StandsForView whole (view_in t) t → canonical_text (view_in t) (encodes whole) ≡ encodes (text_of_tokens (text_tokens (view_facts t))))
    (bytes_stand : (text : List ℕ) (span : Span) (part : List ℕ) → StandsFor text span part → slice span (encodes text) ≡ encodes part)
    (text_warns : (at : Place) (t : List ℕ) → has_error (findings at t) ≡ false → All IsWarning (findings at t))
    (read_again : (lines macros : ℕ) (at : Place) (t : List ℕ) (snippets : List (List ℕ)) (rest : List ℕ) → AreSnippets lines snippets → IsOneUnit lines macros at (view_facts t) snippets rest)
    (printed : (lines : ℕ) (u : ScoreUnit) (m : UnplacedSyllable) → HoldsUnit lines u m → (lines ≡ 0 → length u.snippets ≤ 1) → IsPrinted lines u m)
    (gives : (lines macros : ℕ) (at : Place) (u : BodyUnit) (units : List BodyUnit) (last : LastUnit) (before : List BodyEvent) → (let xs = characters_from (u ∷ units) last in
    length (encodes (codes_of xs)) < 2 ^ 63 → Cuts texts_by_definition lines macros (text_from texts_by_definition at xs) (units_pieces lines (u ∷ units) last) (last_characters last)
    → since_close before ≡ [] → GivesOneSyllable lines macros at u (characters_from units last) before))
    (warns : (lines macros : ℕ) (at : Place) (u : BodyUnit) (units : List BodyUnit) (last : LastUnit) → (let xs = characters_from (u ∷ units) last in let after = characters_from units last in
    length (encodes (codes_of xs)) < 2 ^ 63 → Cuts texts_by_definition lines macros (text_from texts_by_definition at xs) (units_pieces lines (u ∷ units) last) (last_characters last)
    → TextWarns (score_unit u after).text → SnippetsWarn lines macros 0 (snippets_in u) after → All IsWarning (findings_of (events_onto (first_events lines macros at xs (length (characters_in u))) [])))) where
  module _ (begins : (t : List ℕ) → view_facts (10 ∷ t) ≡ record (view_facts t) { word_start = true }) (lines macros : ℕ) (first : Bool) (m : UnplacedSyllable) (h : HoldsSomeUnit lines m)
      (short : length (canonical (first || m.text.word_start) m) < 2 ^ 63) where
    own : IsPrinted lines h.unit m
    own = printed lines h.unit m h.holds h.single

    starts_so : m.text.word_start ≡ (view_facts h.unit.text).word_start
    starts_so = ap (λ (v : ViewContent). v.word_start) h.holds.view_is ∙ starts h.unit.text

    -- what is printed of the syllable where it stands
    abbrev said : ViewFacts
    said = view_facts (text_for first h.unit.text)

    said_is : said ≡ record (view_facts h.unit.text) { word_start = first || m.text.word_start }
    said_is = view_for begins first h.unit.text ∙ ap (λ (b : Bool). record (view_facts h.unit.text) { word_start = first || b }) (sym starts_so)

    abbrev text : List ℕ
    text = printed_syllable said own.snippets

    bytes_are : canonical (first || m.text.word_start) m ≡ encodes text
    bytes_are =
        said_where_it_stands first (view_facts h.unit.text) own.snippets m (record { starts = starts_so; bytes = own.bytes })
        ∙ ap (λ (v : ViewFacts). encodes (printed_syllable v own.snippets)) (sym said_is)

    module _ (at : Place) (before : List BodyEvent) (since : since_close before ≡ []) where
      o : IsOneUnit lines macros at said own.snippets []
      o = read_again lines macros at (text_for first h.unit.text) own.snippets [] own.are_snippets

      abbrev unit : BodyUnit
      unit = o.unit

      abbrev read_unit : ScoreUnit
      read_unit = score_unit unit []

      abbrev xs : List Char
      xs = characters_in unit ++ []

      says_again : SaysAgain lines macros unit [] said own.snippets
      says_again = subst (λ (ys : List Char). SaysAgain lines macros unit ys said own.snippets) o.after_is o.again

      alone : AreUnitsFrom lines macros at (placed_characters_from at (text ++ [])) (unit ∷ []) (JustText [])
      alone = o.one_more at [] (JustText []) (record { characters = o.after_is; cut = tt })

      xs_are : xs ≡ placed_characters_from at text
      xs_are = sym alone.characters ∙ ap (placed_characters_from at) (append-nil text)

      size_is : length (characters_in unit) ≡ length text
      size_is = ap (length {A = Char}) (sym (append-nil (characters_in unit)) ∙ xs_are) ∙ length_placed at text

      cuts : Cuts texts_by_definition lines macros (text_from texts_by_definition at xs) (units_pieces lines (unit ∷ []) (JustText [])) []
      cuts = subst (λ (ys : List Char). Cuts texts_by_definition lines macros (text_from texts_by_definition at ys) (units_pieces lines (unit ∷ []) (JustText [])) []) alone.characters alone.cut

      fits : length (encodes (codes_of xs)) < 2 ^ 63
      fits = subst (λ (t : List ℕ). length t < 2 ^ 63) (bytes_are ∙ ap encodes (sym (ap codes_of xs_are ∙ codes_placed at text))) short

      g : GivesOneSyllable lines macros at unit [] before
      g = gives lines macros at unit [] (JustText []) before fits cuts since

      single : lines ≡ 0 → length read_unit.snippets ≤ 1
      single e =
          let many : length (snippets_in unit) ≡ length own.snippets = as_many lines macros 0 (snippets_in unit) [] own.snippets says_again.snippets in
          let mapped : length read_unit.snippets ≡ length (snippets_in unit) = length-map (snippets_in unit) (λ (e : EndedPart). e.characters) in
          let one : length own.snippets ≡ 1 = own.are_snippets.single e in
          omega (arith, many, mapped, one)

      -- what is read is printed alike
      again_printed : IsPrinted lines read_unit g.made
      again_printed = printed lines read_unit g.made g.holds single

      snippets_are : again_printed.snippets ≡ own.snippets
      snippets_are = again_printed.own (some_parts lines macros unit.nexts unit.final) ∙ kept_again lines macros 0 (snippets_in unit) [] own.snippets says_again.snippets

      keeps : KeepsWithin (length (encodes text)) read_unit
      keeps = one_keeps lines macros (length (encodes text)) unit [] said own.snippets says_again (omega arith)

      says : SaysTheSame g.made (as_it_stands first m)
      says position =
          let here : SyllableFacts = record { view = said; snippets = own.snippets } in
          let facts : SyllableFacts = record { view = view_facts h.unit.text; snippets = own.snippets } in
          one_said starts centres printed_text bytes_stand lines read_unit (record { made = g.made; position = position }) here g.holds (sym says_again.view_stays) (again_printed.texts ∙ ap (map encodes) snippets_are)
          ∙ ap (λ (v : ViewFacts). said_by lines (record { view = v; snippets = own.snippets }) position g.made.eu g.made.nlba) said_is
          ∙ sym (ap (λ (s : SyllableMeaning). record s { word_start = first || m.text.word_start })
          (one_said starts centres printed_text bytes_stand lines h.unit (record { made = record m { eu = g.made.eu; nlba = g.made.nlba }; position = position }) facts
          (record { whole = h.holds.whole; kept_is = h.holds.kept_is; view_is = h.holds.view_is; stands = h.holds.stands; notes = h.holds.notes }) refl own.texts))

      read_by_itself : IsReadByItself lines macros (as_it_stands first m) text at before
      read_by_itself =
          record {
            again = g.made;
            none_earlier = λ n few. ap (λ (ys : List Char). all_syllables (events_onto (first_events lines macros at ys n) before)) (sym xs_are) ∙ g.none_earlier n (subst (λ (k : ℕ). n < k) (sym size_is) few);
            one = ap₂ (λ (ys : List Char) (n : ℕ). all_syllables (events_onto (first_events lines macros at ys n) before)) (sym xs_are) (sym size_is) ∙ g.given;
            nothing_after = ap₂ (λ (ys : List Char) (n : ℕ). since_close (events_onto (first_events lines macros at ys n) before)) (sym xs_are) (sym size_is) ∙ g.nothing_after;
            warnings = subst (All IsWarning) (ap₂ (λ (ys : List Char) (n : ℕ). findings_of (events_onto (first_events lines macros at ys n) [])) xs_are size_is)
                (warns lines macros at unit [] (JustText []) fits cuts (λ place. text_warns place read_unit.text (says_again.errors place)) (snippets_warn text_warns lines macros 0 (snippets_in unit) [] own.snippets says_again.snippets));
            few_on_the_way = λ n small. subst (λ (ys : List Char). length (kept_of (since_close (events_onto (first_events lines macros at ys n) before))) ≤ length (encodes text)) xs_are
                (g.few_on_the_way (length (encodes text)) n keeps (subst (λ (k : ℕ). n ≤ k) (sym size_is) small));
            few = g.few (length (encodes text)) keeps;
            holds = record { unit = read_unit; noted = some_parts lines macros unit.nexts unit.final; single = single; holds = g.holds };
            says = says;
            eu_is = g.eu_is ∙ same_past (codes "<eu>") (codes "</eu>") g.made (as_it_stands first m) (is_eu before) says;
            nlba_is = g.nlba_is ∙ same_past (codes "<nlba>") (codes "</nlba>") g.made (as_it_stands first m) (is_nlba before) says;
            open_eu = ap₂ (λ (ys : List Char) (n : ℕ). is_eu (events_onto (first_events lines macros at ys n) before)) (sym xs_are) (sym size_is) ∙ g.open_eu;
            open_nlba = ap₂ (λ (ys : List Char) (n : ℕ). is_nlba (events_onto (first_events lines macros at ys n) before)) (sym xs_are) (sym size_is) ∙ g.open_nlba;
            same_text = again_printed.bytes ∙ ap₂ (λ (v : ViewFacts) (ss : List (List ℕ)). encodes (printed_syllable v ss)) says_again.view_stays snippets_are ∙ sym bytes_are;
          }

    pub read_from_its_text : IsReadFromItsText lines macros (as_it_stands first m)
    read_from_its_text = record { text = text; bytes = bytes_are; read = read_by_itself }
