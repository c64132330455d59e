-- The characters of the kept text by relations are those that are computed.
use Rattle.std.proofs.Common.{arith, ◌≡◌, ℕ, List, [], ◌∷◌, ◌++◌, Bool, true, false, cond, refl, sym, ap, ◌∙◌, subst, append-nil, chars, length, take, drop}
use Rattle.std.specs.Prelude.{map, string_bytes}
use Rattle.std.proofs.Math.Seq.{take-append_seam}
use Rattle.std.proofs.lemmas.List.{take-append-drop, length-map}
use Rattle.std.proofs.lemmas.Str.{chars_from_encodes, IsUtf8-string_bytes}
use Rattle.gabc_places.specs.declared.place.Char.{Char}
use Rattle.gabc_places.specs.declared.place.Place.{Place}
use Rattle.gabc_places.specs.Place.{next_place, placed_characters_from}
use Rattle.gabc_places.specs.StageLaw.{concat_of}
use Rattle.gabc_notes.specs.SnippetRead.{kept_chars_of}
use Rattle.gabc_notes.specs.declared.snippet_read.SnippetRead.{SnippetRead}
use Rattle.gabc_notes.specs.declared.stage.NoteEvent.{NoteEvent}
use Rattle.gabc_notes.proofs.KeptChars.{kept_chars-append}
use Rattle.gabc_notes.proofs.grammar.KeptByRelations.{none_found}
use Rattle.gabc_nabc.specs.Events.{is_end, has_end, kept_of, end_events, events_at, nabc_events_after, nabc_events}
use Rattle.gabc_nabc.specs.NabcRead.{AreKept, AreKeptChars, IsNabcRead}
use Rattle.gabc_nabc.specs.SnippetRead.{before_end_after, before_end, from_end, kept_before, kept_chars_in}
use Rattle.gabc_nabc.proofs.KeptText.{AreText, text_is}
use Rattle.gabc_nabc.proofs.grammar.EmittedByRelations.{kept_event, kept_here, parted, at_mark, more, cut_is}
use Rattle.gabc_nabc.proofs.grammar.LawsOfEvents.{silent}
use Rattle.gabc_nabc.proofs.grammar.ReadByRelations.{front_is, relations_are_computed}

-- what is emitted of a character, without what is found
kept_of_one : (t : List ℕ) (x : Char) → has_end t ≡ false → is_end t x.c ≡ false → kept_chars_of (events_at t x) ≡ kept_chars_of (kept_event t x)
kept_of_one t x o e = grind (arith, kept_chars-append, none_found, append-nil, parted)

none_at_end : (t : List ℕ) (x : Char) → kept_chars_of (end_events (kept_of t) x) ≡ []
none_at_end t x = grind arith

-- one character more
one_more : (t : List ℕ) (x : Char) (xs later : List Char) → AreKept (t ++ x.c ∷ []) xs later → AreKept t (x ∷ xs) (kept_chars_of (kept_event t x) ++ later)
one_more t x xs later h = grind (arith, kept_here)

-- what is kept of the characters before the end, after the text
kept_on : (t cs : List ℕ) (at : Place) → has_end t ≡ false
    → AreKept t (placed_characters_from at (before_end_after t cs)) (kept_chars_of (concat_of (nabc_events_after t (placed_characters_from at cs))))
kept_on t [] at o = ap (λ (es : List NoteEvent). kept_chars_of (es ++ [])) (cut_is t o)
kept_on t (c ∷ cs) at o = go (is_end t c) refl (λ p. kept_on (t ++ c ∷ []) cs (next_place at c) p)
  where
    x : Char
    x = record { c = c; place = at }

    later : List NoteEvent
    later = concat_of (nabc_events_after (t ++ c ∷ []) (placed_characters_from (next_place at c) cs))

    Goal : Bool → Type 0
    Goal b = AreKept t (placed_characters_from at (cond b [] (c ∷ before_end_after (t ++ c ∷ []) cs))) (kept_chars_of (events_at t x ++ later))

    go : (b : Bool) → is_end t c ≡ b
        → (has_end (t ++ c ∷ []) ≡ false → AreKept (t ++ c ∷ []) (placed_characters_from (next_place at c) (before_end_after (t ++ c ∷ []) cs)) (kept_chars_of later))
        → AreKept t (placed_characters_from at (before_end_after t (c ∷ cs))) (kept_chars_of (events_at t x ++ later))
    go false e F =
        let same : kept_chars_of (events_at t x ++ later) ≡ kept_chars_of (kept_event t x) ++ kept_chars_of later =
        kept_chars-append (events_at t x) later ∙ ap (λ (l : List Char). l ++ kept_chars_of later) (kept_of_one t x o e) in
        subst Goal (sym e) (subst (AreKept t (placed_characters_from at (c ∷ before_end_after (t ++ c ∷ []) cs))) (sym same)
        (one_more t x (placed_characters_from (next_place at c) (before_end_after (t ++ c ∷ []) cs)) (kept_chars_of later) (F (more t c false o e))))
    go true e F =
        let none : kept_chars_of (events_at t x ++ later) ≡ [] =
        ap (λ (es : List NoteEvent). kept_chars_of (events_at t x ++ es)) (silent (t ++ c ∷ []) (placed_characters_from (next_place at c) cs) (more t c true o e))
        ∙ (ap kept_chars_of (append-nil (events_at t x) ∙ at_mark t x o e) ∙ none_at_end t x) in
        subst Goal (sym e) none

-- the characters that are kept are one list
kept_once : (t : List ℕ) (xs cs ds : List Char) → AreKept t xs cs → AreKept t xs ds → cs ≡ ds
kept_once t [] cs ds h k = h ∙ sym k
kept_once t (x ∷ xs) cs ds (a, h, e) (b, k, f) = grind (arith, kept_once (t ++ x.c ∷ []) xs a b h k)

all_kept : (at : Place) (t : List ℕ) (r : SnippetRead) (h : IsNabcRead at t r) → AreKept [] (placed_characters_from at h.front) (kept_chars_of (concat_of (nabc_events (placed_characters_from at t))))
all_kept at t r h =
    subst (λ (u : List ℕ). AreKept [] (placed_characters_from at u) (kept_chars_of (concat_of (nabc_events (placed_characters_from at t))))) (front_is at t r h) (kept_on [] t at refl)

text_read : (at : Place) (t : List ℕ) (r : SnippetRead) → IsNabcRead at t r → kept_before (before_end t) (from_end t) ≡ chars (string_bytes r.kept)
text_read at t r h = chars_from_encodes (kept_before (before_end t) (from_end t)) (string_bytes r.kept) (IsUtf8-string_bytes r.kept) (sym (relations_are_computed at t r h).kept_is)

pub chars_by_relations : AreText → (at : Place) (t : List ℕ) (r : SnippetRead) (cs : List Char) → IsNabcRead at t r → cs ≡ kept_chars_in at t → AreKeptChars at t cs
chars_by_relations are_text at t r cs h e =
    let n : ℕ = length (kept_before (before_end t) (from_end t)) in
    let all : List Char = kept_chars_of (concat_of (nabc_events (placed_characters_from at t))) in
    record {
      read = r;
      is_read = h;
      kept = all;
      are_kept = all_kept at t r h;
      rest = drop n all;
      cut = sym (ap (λ (l : List Char). l ++ drop n all) e ∙ take-append-drop n all);
      same = ap (map (λ (x : Char). x.c)) e ∙ (text_is are_text at t ∙ text_read at t r h);
    }

pub chars_computed : (at : Place) (t : List ℕ) (cs : List Char) → AreKeptChars at t cs → cs ≡ kept_chars_in at t
chars_computed at t cs h =
    let all : List Char = kept_chars_of (concat_of (nabc_events (placed_characters_from at t))) in
    let same : h.kept ≡ all = kept_once [] (placed_characters_from at h.is_read.front) h.kept all h.are_kept (all_kept at t h.read h.is_read) in
    let size : length cs ≡ length (kept_before (before_end t) (from_end t)) = sym (length-map cs (λ (x : Char). x.c)) ∙ ap (λ (l : List ℕ). length l) (h.same ∙ sym (text_read at t h.read h.is_read)) in
    sym (take-append_seam cs h.rest) ∙ (ap (take (length cs)) (sym h.cut ∙ same) ∙ ap (λ (n : ℕ). take n all) size)
