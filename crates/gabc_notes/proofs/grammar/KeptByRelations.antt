-- The characters of the kept text by relations are those that are computed.
use Rattle.std.proofs.Common.{arith, ◌≡◌, ℕ, List, [], ◌∷◌, ◌++◌, Bool, true, false, cond, ◌⊎◌, inl, inr, refl, sym, ap, ◌∙◌, subst, append-nil, append_assoc, chars, length, take, drop, Some}
use Rattle.std.specs.Prelude.{map, string_bytes}
use Rattle.std.proofs.Math.Seq.{take-append_seam}
use Rattle.std.proofs.lemmas.List.{take-append-drop, length-map}
use Rattle.std.proofs.lemmas.Str.{chars_from_encodes, IsUtf8-string_bytes}
use Rattle.gabc_places.specs.declared.code.Finding.{Finding}
use Rattle.gabc_places.specs.declared.place.Char.{Char}
use Rattle.gabc_places.specs.declared.place.Place.{Place}
use Rattle.gabc_places.specs.Place.{placed_characters_from}
use Rattle.gabc_places.specs.StageLaw.{concat_of}
use Rattle.gabc_notes.specs.Events.{is_kept, kept_with, is_end, is_over, at_end, events_at, note_events_after, note_events}
use Rattle.gabc_notes.specs.SnippetRead.{kept_chars_of, kept_chars_in, stop_after, kept_by}
use Rattle.gabc_notes.specs.NotesRead.{Marked, AreKept, AreKeptChars, IsSnippetRead}
use Rattle.gabc_notes.specs.declared.snippet_read.SnippetRead.{SnippetRead}
use Rattle.gabc_notes.specs.declared.stage.NoteEvent.{NoteEvent}
use Rattle.gabc_notes.specs.declared.stage.NoteEvent.TheVariants.{Kept, Found}
use Rattle.gabc_notes.proofs.KeptChars.{kept_chars-append}
use Rattle.gabc_notes.proofs.KeptText.{text_is}
use Rattle.gabc_notes.proofs.grammar.CharactersByRelations.{marks, kept_with_to, kept_with_from}
use Rattle.gabc_notes.proofs.grammar.EmittedByRelations.{kept_event, parted}
use Rattle.gabc_notes.proofs.grammar.LawsOfEventsByPoint.{more_over, over_joined, cut_outs}
use Rattle.gabc_notes.proofs.grammar.ReadByRelations.{back_is, relations_are_computed}
use Rattle.gabc_notes.proofs.machine.LoopOverBody.{is_emitted}
use Rattle.gabc_notes.proofs.machine.OneCharacterMore.{point}

-- a character more
one_more : (back : List Char) (x : Char) (before : List Char) → AreKept (marks back) before → AreKept (marks (x ∷ back)) (before ++ cond (is_kept (point back x)) (x ∷ []) [])
unfolding marks
one_more back x before h = go (is_kept (point back x)) refl
  where
    go : (b : Bool) → is_kept (point back x) ≡ b → AreKept (marks (x ∷ back)) (before ++ cond b (x ∷ []) [])
    go true e = (before, h, inl ((kept_with (point back x), kept_with_to back x e), refl))
    go false e = (before, h, inr ((λ k. let f = (kept_with_from back x k.0 k.1).0 in absurd (cc)), append-nil before))

pub none_found : (fs : List Finding) → kept_chars_of (map Found fs) ≡ []
none_found [] = refl
none_found (f ∷ fs) = none_found fs

of_event : (back : List Char) (x : Char) → kept_chars_of (kept_event back x) ≡ cond (is_kept (point back x)) (x ∷ []) []
of_event back x = go (is_kept (point back x))
  where
    go : (b : Bool) → kept_chars_of (cond b (Kept x ∷ []) []) ≡ cond b (x ∷ []) []
    go b = grind arith

-- one at most is kept of what is emitted of it
kept_here : (split : Bool) (macros : ℕ) (back : List Char) (x : Char) → is_over split back ≡ false → is_end split (point back x) ≡ false
    → kept_chars_of (events_at split macros (point back x)) ≡ cond (is_kept (point back x)) (x ∷ []) []
kept_here split macros back x o e = grind (arith, kept_chars-append, none_found, append-nil, of_event, parted)

none_at_end : (split : Bool) (back : List Char) (x : Char) → is_end split (point back x) ≡ true → kept_chars_of (at_end (point back x)) ≡ []
none_at_end split back x e = grind arith

-- what is kept of the characters before the end, after those
kept_on : (split : Bool) (macros : ℕ) (back xs : List Char) → is_over split back ≡ false → (before : List Char) → AreKept (marks back) before
    → AreKept (marks (stop_after split back xs).back) (before ++ kept_chars_of (concat_of (note_events_after split macros back xs)))
kept_on split macros back [] o before h = grind (arith, marks, cut_outs, append-nil)
kept_on split macros back (x ∷ xs) o before h = go (is_emitted split macros back x o) (λ p b k. kept_on split macros (x ∷ back) xs p b k)
  where
    later : List NoteEvent
    later = concat_of (note_events_after split macros (x ∷ back) xs)

    go : (is_end split (point back x) ≡ false) ⊎ ((is_end split (point back x) ≡ true) × (events_at split macros (point back x) ≡ at_end (point back x)))
        → (is_over split (x ∷ back) ≡ false → (b : List Char) → AreKept (marks (x ∷ back)) b → AreKept (marks (stop_after split (x ∷ back) xs).back) (b ++ kept_chars_of later))
        → AreKept (marks (stop_after split back (x ∷ xs)).back) (before ++ kept_chars_of (events_at split macros (point back x) ++ later))
    go (inl n) F =
        let one : List Char = cond (is_kept (point back x)) (x ∷ []) [] in
        let same : before ++ kept_chars_of (events_at split macros (point back x) ++ later) ≡ (before ++ one) ++ kept_chars_of later =
        ap (λ (l : List Char). before ++ l) (kept_chars-append (events_at split macros (point back x)) later ∙ ap (λ (l : List Char). l ++ kept_chars_of later) (kept_here split macros back x o n))
        ∙ sym (append_assoc before one (kept_chars_of later)) in
        subst (λ (b : Bool). AreKept (marks (cond b (record { back = back; mark = Some x.c }) (stop_after split (x ∷ back) xs)).back) (before ++ kept_chars_of (events_at split macros (point back x) ++ later))) (sym n)
        (subst (AreKept (marks (stop_after split (x ∷ back) xs).back)) (sym same) (F (more_over split back x false o n) (before ++ one) (one_more back x before h)))
    go (inr n) F =
        let none : kept_chars_of (events_at split macros (point back x) ++ later) ≡ [] =
        kept_chars-append (events_at split macros (point back x)) later
        ∙ (ap (λ (es : List NoteEvent). kept_chars_of (events_at split macros (point back x)) ++ kept_chars_of es) (over_joined split macros (x ∷ back) xs (more_over split back x true o n.0))
        ∙ (append-nil (kept_chars_of (events_at split macros (point back x))) ∙ (ap kept_chars_of n.1 ∙ none_at_end split back x n.0))) in
        subst (λ (b : Bool). AreKept (marks (cond b (record { back = back; mark = Some x.c }) (stop_after split (x ∷ back) xs)).back) (before ++ kept_chars_of (events_at split macros (point back x) ++ later))) (sym n.0)
        (subst (AreKept (marks back)) (sym (ap (λ (l : List Char). before ++ l) none ∙ append-nil before)) h)

-- the characters that are kept are one list
kept_once : (back : List Marked) (cs ds : List Char) → AreKept back cs → AreKept back ds → cs ≡ ds
kept_once [] cs ds h k = h ∙ sym k
kept_once (m ∷ back) cs ds (a, h, e) (b, k, f) = grind (arith, kept_once back a b h k)

all_kept : (at : Place) (split : Bool) (macros : ℕ) (t : List ℕ) (r : SnippetRead) (h : IsSnippetRead at split macros t r)
    → AreKept h.back (kept_chars_of (concat_of (note_events split macros (placed_characters_from at t))))
unfolding marks note_events
all_kept at split macros t r h =
    subst (λ (u : List Marked). AreKept u (kept_chars_of (concat_of (note_events split macros (placed_characters_from at t))))) (sym (back_is at split macros t r h))
    (kept_on split macros [] (placed_characters_from at t) refl [] refl)

text_read : (at : Place) (split : Bool) (macros : ℕ) (t : List ℕ) (r : SnippetRead) → IsSnippetRead at split macros t r
    → (let s = stop_after split [] (placed_characters_from at t) in kept_by s.mark s.back) ≡ chars (string_bytes r.kept)
text_read at split macros t r h =
    let s = stop_after split [] (placed_characters_from at t) in
    chars_from_encodes (kept_by s.mark s.back) (string_bytes r.kept) (IsUtf8-string_bytes r.kept) (sym (relations_are_computed at split macros t r h).kept_is)

pub chars_by_relations : (at : Place) (split : Bool) (macros : ℕ) (t : List ℕ) (r : SnippetRead) (cs : List Char) → IsSnippetRead at split macros t r
    → cs ≡ kept_chars_in split macros (placed_characters_from at t) → AreKeptChars at split macros t cs
chars_by_relations at split macros t r cs h e =
    let xs = placed_characters_from at t in
    let s = stop_after split [] xs in
    let n : ℕ = length (kept_by s.mark s.back) in
    let all : List Char = kept_chars_of (concat_of (note_events split macros xs)) in
    record {
      read = r;
      is_read = h;
      kept = all;
      are_kept = all_kept at split macros t r h;
      rest = drop n all;
      cut = sym (ap (λ (l : List Char). l ++ drop n all) e ∙ take-append-drop n all);
      same = ap (map (λ (x : Char). x.c)) e ∙ (text_is split macros xs ∙ text_read at split macros t r h);
    }

pub chars_computed : (at : Place) (split : Bool) (macros : ℕ) (t : List ℕ) (cs : List Char) → AreKeptChars at split macros t cs
    → cs ≡ kept_chars_in split macros (placed_characters_from at t)
chars_computed at split macros t cs h =
    let xs = placed_characters_from at t in
    let s = stop_after split [] xs in
    let all : List Char = kept_chars_of (concat_of (note_events split macros xs)) in
    let same : h.kept ≡ all = kept_once h.is_read.back h.kept all h.are_kept (all_kept at split macros t h.read h.is_read) in
    let size : length cs ≡ length (kept_by s.mark s.back) = sym (length-map cs (λ (x : Char). x.c)) ∙ ap (λ (l : List ℕ). length l) (h.same ∙ sym (text_read at split macros t h.read h.is_read)) in
    sym (take-append_seam cs h.rest) ∙ (ap (take (length cs)) (sym h.cut ∙ same) ∙ ap (λ (n : ℕ). take n all) size)
