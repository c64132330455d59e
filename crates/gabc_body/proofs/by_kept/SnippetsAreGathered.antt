-- What is gathered of the events of a snippet.
use Rattle.std.proofs.Common.{◌≡◌, ℕ, ◌+◌, ◌<◌, ◌^◌, ◌&&◌, ◌||◌, ◌==◌, Bool, true, false, cond, List, [], ◌∷◌, ◌++◌, map, length, take, drop, encode_utf8, encode_utf8_all, Option, Some, None, is_some, refl, sym, ap, subst, ◌∙◌, append_assoc, append-nil, arith}
use Rattle.std.specs.Option.{option_map_or}
use Rattle.std.proofs.lemmas.List.{take-append-drop}
use Rattle.std.proofs.lemmas.Str.{encodes-append, chars-encodes}
use lib.Utf8.{scalar, scalars}
use Rattle.gabc_places.specs.declared.code.Finding.{Finding}
use Rattle.gabc_places.specs.declared.place.Place.{Place}
use Rattle.gabc_patterns.specs.Reads.{longest, is_read, items_by, whole_front}
use Rattle.gabc_notes.specs.FirstNoteOrClef.{is_note_or_clef, first_note_or_clef}
use Rattle.gabc_notes.specs.FirstSound.{first_sound, is_note}
use Rattle.gabc_notes.specs.Items.{items_of}
use Rattle.gabc_notes.specs.Table.{gabc}
use Rattle.gabc_notes.specs.Events.{bytes_of}
use Rattle.gabc_notes.specs.declared.item.Item.{Item}
use Rattle.gabc_notes.specs.declared.item.ItemKind.{ItemKind}
use Rattle.gabc_notes.specs.declared.item.ItemKind.TheVariants as kind
use Rattle.gabc_notes.specs.declared.stage.NoteEvent.{NoteEvent}
use Rattle.gabc_notes.specs.declared.stage.NoteEvent.TheVariants as note
use Rattle.gabc_notes.proofs.by_kept.NotesSound.{sound_is as note_is}
use Rattle.gabc_nabc.specs.Events.{bytes_in}
use Rattle.gabc_nabc.specs.Table.{nabc}
use Rattle.gabc_body.specs.declared.events.BodyEvent.{BodyEvent}
use Rattle.gabc_body.specs.declared.snippets.Snippet.{Snippet}
use Rattle.gabc_body.specs.Events.{note_event}
use Rattle.gabc_body.specs.NoteBeforeClef.{found_first}
use Rattle.gabc_body.specs.Reading.{sound_codes, found_at, whole_of}
use Rattle.gabc_body.specs.Syllable.{is_seam, prefix_of, snippet_at, text_at}
use Rattle.gabc_body.specs.witness.BodyBuilder.{with_all}
use Rattle.gabc_body.specs.witness.Gatherer.{Gathered, awaits, first_past, span_of}
use Rattle.gabc_body.specs.witness.SyllableBuilder.{OpenSyllable, past_snippet}
use Rattle.gabc_body.proofs.gathering.FirstKinds.{snippet_text}
use Rattle.gabc_body.proofs.texts_of_body.SeamsOfCharacters.{cut_is}
use Rattle.gabc_body.proofs.order.FindingsOfParts.{found}
use Rattle.gabc_body.proofs.texts_of_body.SeamsOfCharacters.{size, size_is_sum, size_append, texts_begin}

-- ---- the whole front

front_of : (t : List ℕ) (o : Option (Bool × ℕ)) → (rest : List ℕ) × (t ≡ option_map_or (λ (i : Bool × ℕ). take i.1 t) o [] ++ rest)
front_of t None = (t, refl)
front_of t (Some i) = (drop i.1 t, sym (take-append-drop i.1 t))

pub whole_is_front : (line : ℕ) (t : List ℕ) → (rest : List ℕ) × (t ≡ whole_of line t ++ rest)
whole_is_front line t = by (line == 0)
  where
    by : (b : Bool) → (rest : List ℕ) × (t ≡ cond b (whole_front gabc t) (whole_front nabc t) ++ rest)
    by true = front_of t (longest (λ p. cond (is_read gabc p) (Some true) None) (length t) t)
    by false = front_of t (longest (λ p. cond (is_read nabc p) (Some true) None) (length t) t)

both : (a b : Bool) → (a && b) ≡ true → (a ≡ true) × (b ≡ true)
both true b h = (refl, h)
both false b h = absurd (cc)

pub scalars_front : (a b : List ℕ) → scalars (a ++ b) ≡ true → scalars a ≡ true
scalars_front [] b h = refl
scalars_front (c ∷ a) b h = let s = both (scalar c) (scalars (a ++ b)) h in rw (s.0, scalars_front a b s.1) refl

pub scalars_push : (a : List ℕ) (c : ℕ) → scalars a ≡ true → scalar c ≡ true → scalars (a ++ c ∷ []) ≡ true
scalars_push [] c h s = rw s refl
scalars_push (d ∷ a) c h s = let k = both (scalar d) (scalars a) h in rw (k.0, scalars_push a c k.1 s) refl

-- its bytes, where a count holds them
pub count_notes : (w : List ℕ) → size w < 2 ^ 64 → bytes_of w ≡ size w
count_notes w h = omega (arith, size_is_sum w, h)

pub count_nabc : (w : List ℕ) → size w < 2 ^ 64 → bytes_in w ≡ size w
count_nabc w h = omega (arith, h)

-- ---- findings

abbrev pub of_findings : List Finding → List NoteEvent
of_findings fs = map (λ (f : Finding). note.Found f) fs

module _ (line : ℕ) (opened : Place) where
  abbrev pub of_notes : List NoteEvent → List BodyEvent
  of_notes es = map (note_event line opened) es

  -- findings are not gathered
  pub findings_pass : (fs : List Finding) (g : Gathered) (es : List NoteEvent) → with_all g (of_notes (of_findings fs ++ es)) ≡ with_all g (of_notes es)
  findings_pass [] g es = refl
  findings_pass (f ∷ fs) g es = findings_pass fs g es

  pub findings_stay : (fs : List Finding) (g : Gathered) → with_all g (of_notes (of_findings fs)) ≡ g
  findings_stay [] g = refl
  findings_stay (f ∷ fs) g = findings_stay fs g

  pub findings_found : (fs : List Finding) → found (of_notes (of_findings fs)) ≡ fs
  findings_found [] = refl
  findings_found (f ∷ fs) = ap (λ (gs : List Finding). f ∷ gs) (findings_found fs)

  pub ended_found : (fs : List Finding) (e : NoteEvent) → found (of_notes (e ∷ [])) ≡ [] → found (of_notes (of_findings fs ++ e ∷ [])) ≡ fs
  ended_found [] e h = h
  ended_found (f ∷ fs) e h = ap (λ (gs : List Finding). f ∷ gs) (ended_found fs e h)

-- ---- a snippet that ends

-- what is gathered of the snippet of that line, kept as w, with the mark that ends it
pub record SnippetEnds (line mark : ℕ) (w before : List ℕ) (g : Gathered) (o : OpenSyllable) (first : Option ItemKind) : Type 0 where
  pub kept_is : o.kept ≡ encode_utf8_all (before ++ (w ++ mark ∷ []))
  pub from_is : o.from ≡ length (encode_utf8_all (before ++ (w ++ mark ∷ [])))
  pub view_is : o.view ≡ g.builder.view
  pub snippets_are : o.snippets ≡ g.builder.snippets ++ snippet_at line (length (encode_utf8_all before)) (encode_utf8_all w) ∷ []
  pub first_is : first ≡ cond (awaits g.first_kind line) (first_note_or_clef (items_of (encode_utf8_all w))) g.first_kind

pub snippet_ends : (line mark n : ℕ) (w rest before : List ℕ) (g : Gathered) → g.builder.kept ≡ encode_utf8_all (before ++ (w ++ rest)) → g.builder.from ≡ size before → n ≡ size w
    → SnippetEnds line mark w before g (past_snippet g.builder line n mark) (first_past g.first_kind line (span_of g.builder line n) (past_snippet g.builder line n mark).kept)
snippet_ends line mark n w rest before g k f c = record {
  kept_is = all_is;
  from_is = ap length all_is;
  view_is = refl;
  snippets_are = ap (λ (s : Snippet). g.builder.snippets ++ s ∷ []) (ap (λ (from : ℕ). record { line = line; span = record { from = from; to = length (prefix_of (g.builder.from + n) g.builder.kept) } }) f ∙ ap (λ (to : ℕ). record { line = line; span = record { from = size before; to = to } }) (ap length cut ∙ size_append before w));
  first_is = ap (λ (t : List ℕ). cond (awaits g.first_kind line) (first_note_or_clef (items_of t)) g.first_kind) text_is;
}
  where
    seam : is_seam (encode_utf8 mark) ≡ true
    seam = subst (λ (u : List ℕ). is_seam u ≡ true) (append-nil (encode_utf8 mark)) (texts_begin (mark ∷ []))

    cut : prefix_of (g.builder.from + n) g.builder.kept ≡ encode_utf8_all (before ++ w)
    cut = cut_is g.builder.from n g.builder.kept before w rest k f c

    all_is : prefix_of (g.builder.from + n) g.builder.kept ++ encode_utf8 mark ≡ encode_utf8_all (before ++ (w ++ mark ∷ []))
    all_is = ap (λ (t : List ℕ). t ++ encode_utf8 mark) cut ∙ ap (λ (t : List ℕ). encode_utf8_all (before ++ w) ++ t) (sym (append-nil (encode_utf8 mark))) ∙ sym (encodes-append (before ++ w) (mark ∷ [])) ∙ ap encode_utf8_all (append_assoc before w (mark ∷ []))

    parts : prefix_of (g.builder.from + n) g.builder.kept ≡ encode_utf8_all before ++ encode_utf8_all w
    parts = cut ∙ encodes-append before w

    text_is : text_at (span_of g.builder line n) (prefix_of (g.builder.from + n) g.builder.kept ++ encode_utf8 mark) ≡ encode_utf8_all w
    text_is =
        ap (λ (from : ℕ). text_at (record { from = from; to = length (prefix_of (g.builder.from + n) g.builder.kept) }) (prefix_of (g.builder.from + n) g.builder.kept ++ encode_utf8 mark)) f
        ∙ ap (λ (t : List ℕ). text_at (record { from = size before; to = length t }) (t ++ encode_utf8 mark)) parts
        ∙ snippet_text (encode_utf8_all before) (encode_utf8_all w) (encode_utf8 mark) (texts_begin w) seam

-- ---- the first note or clef

sound_is : (w : List ℕ) → scalars w ≡ true → first_sound (items_by gabc w) ≡ is_note (first_note_or_clef (items_of (encode_utf8_all w)))
sound_is w s =
    ap (λ (t : List ℕ). first_sound (items_by gabc t)) (sym (chars-encodes w s))
    ∙ note_is (encode_utf8_all w)

some_note : (is : List Item) → is_some (is_note (first_note_or_clef is)) ≡ is_some (first_note_or_clef is)
some_note [] = refl
some_note (i ∷ is) = by i.kind (some_note is)
  where
    by : (k : ItemKind) → is_some (is_note (first_note_or_clef is)) ≡ is_some (first_note_or_clef is) → is_some (is_note (cond (is_note_or_clef k) (Some k) (first_note_or_clef is))) ≡ is_some (cond (is_note_or_clef k) (Some k) (first_note_or_clef is))
    by kind.Note h = refl
    by kind.Clef h = refl
    by kind.Alteration h = h
    by kind.Bar h = h
    by kind.Spacing h = h
    by kind.Custos h = h
    by kind.Break h = h
    by kind.Attribute h = h
    by kind.Fusion h = h

-- what the reading says of it, by what was gathered before and is gathered with this snippet
pub record Sounds (was now : Option ItemKind) (first : Option Bool) (place : Place) : Type 0 where
  pub some : is_some now ≡ (is_some was || is_some first)
  pub found : found_first was now place ≡ found_at (sound_codes (is_some was) first) place

warned : (this : Option ItemKind) (place : Place) → found_first None this place ≡ found_at (sound_codes false (is_note this)) place
warned None place = refl
warned (Some kind.Note) place = refl
warned (Some kind.Clef) place = refl
warned (Some kind.Alteration) place = refl
warned (Some kind.Bar) place = refl
warned (Some kind.Spacing) place = refl
warned (Some kind.Custos) place = refl
warned (Some kind.Break) place = refl
warned (Some kind.Attribute) place = refl
warned (Some kind.Fusion) place = refl

pub sounds : (was : Option ItemKind) (line : ℕ) (w : List ℕ) (place : Place) → scalars w ≡ true → line == 0 ≡ true
    → Sounds was (cond (awaits was line) (first_note_or_clef (items_of (encode_utf8_all w))) was) (first_sound (items_by gabc w)) place
sounds None line w place s z =
    let now : cond (awaits None line) (first_note_or_clef (items_of (encode_utf8_all w))) None ≡ first_note_or_clef (items_of (encode_utf8_all w)) = rw z refl in
    record {
      some = ap is_some now ∙ sym (ap is_some (sound_is w s) ∙ some_note (items_of (encode_utf8_all w)));
      found = ap (λ (k : Option ItemKind). found_first None k place) now ∙ warned (first_note_or_clef (items_of (encode_utf8_all w))) place ∙ ap (λ (k : Option Bool). found_at (sound_codes false k) place) (sym (sound_is w s));
    }
sounds (Some k) line w place s z =
    let now : cond (awaits (Some k) line) (first_note_or_clef (items_of (encode_utf8_all w))) (Some k) ≡ Some k = rw z refl in
    record {
      some = ap is_some now;
      found = ap (λ (o : Option ItemKind). found_first (Some k) o place) now;
    }

pub silent : (was : Option ItemKind) (place : Place) → found_first was was place ≡ []
silent None place = refl
silent (Some k) place = refl

pub unsounded : (was : Option ItemKind) (line : ℕ) (this : Option ItemKind) → line == 0 ≡ false → cond (awaits was line) this was ≡ was
unsounded was line this z = rw z refl
