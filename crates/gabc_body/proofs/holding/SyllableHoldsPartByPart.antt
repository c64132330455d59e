-- What a syllable holds after each of its parts.
use Rattle.std.proofs.Common.{◌≡◌, ℕ, ◌+◌, ◌<◌, ◌%◌, Bool, Some, List, [], ◌∷◌, ◌++◌, length, map, refl, sym, ap, subst, ◌∙◌, arith, append_assoc, append-nil, length-append, codes}
use Rattle.std.proofs.lemmas.Str.{encodes-append, encode_ascii}
use Rattle.std.proofs.lemmas.List.{map-append}
use lib.Utf8.{encode, encodes}
use Rattle.gabc_places.specs.declared.place.Place.{Place}
use Rattle.gabc_text.specs.declared.text_event.TextEnd.{TextEnd}
use Rattle.gabc_text.specs.declared.text_event.TextEnd.TheVariants as text_end
use Rattle.gabc_text.specs.declared.text_event.TextEvent.TheVariants as text
use Rattle.gabc_text.specs.View.{kept}
use Rattle.gabc_text.specs.TextRead.{view_in}
use Rattle.gabc_notes.specs.declared.stage.NoteEnd.TheVariants as note_end
use Rattle.gabc_notes.specs.declared.stage.NoteEvent.TheVariants as note
use Rattle.gabc_notes.specs.SnippetRead.{kept_of as kept_in_notes}
use Rattle.gabc_body.specs.declared.events.BodyEvent.{BodyEvent}
use Rattle.gabc_body.specs.declared.events.BodyEvent.TheVariants.{Text, Notes}
use Rattle.gabc_body.specs.Syllable.{view_of, kept_of, UnplacedSyllable, prefix_of, since_close, all_syllables, syllable_by, view_with, ended_parts_with, part_with, snippets_with, snippet_at, is_eu, is_nlba}
use Rattle.gabc_body.specs.Body.{empty_snippet, events_onto, last_syllable, cut_of}
use Rattle.gabc_body.specs.Events.{note_event, next_line}
use Rattle.gabc_body.specs.Holding.{ReadSnippet, bracket_with, in_brackets, IsHeld, HoldsNotes, HoldsNoNotes, Holds, HoldsWithNotes}
use Rattle.gabc_body.specs.SyllablesOfUnits.{ScoreUnit, NotesAre, HoldsUnit}
use Rattle.gabc_body.specs.Units.{Mark}
use Rattle.gabc_body.specs.witness.TextEvents.{text_events}
use Rattle.std.proofs.Math.Nat.{mod-eq_of_lt}
use Rattle.std.proofs.Math.Numerals.{add-one}
use Rattle.gabc_body.proofs.texts_of_body.SeamsOfCharacters.{size, size_append, cut_between}
use Rattle.gabc_body.proofs.emitted.EventsOfSyllableParts.{Sum, sum_of, keeping, onto_append, notes_keep, notes_within, text_gathers, text_within}
use Rattle.gabc_body.proofs.snippets_of_body.GrammarEmitsThroughEnd.{CutEmitted}
use Rattle.gabc_places.specs.declared.place.Char.{Char}
use Rattle.gabc_text.specs.Events.{codes_of}
use Rattle.gabc_body.proofs.texts_of_body.TextEmitsThroughEnd.{codes_append, TextEmitted, IsOpenEnd}
use Rattle.gabc_text.specs.ViewFacts.{StandsForView}
use Rattle.gabc_body.proofs.texts_of_body.LongerTextKeepsView.{view_more}
use Rattle.gabc_body.proofs.holding.SnippetsLieInKeptText.{whole_of, Placed, PlacedFrom, placed_push, all_held, next_turn, bracket_more}
use Rattle.gabc_body.proofs.snippets_of_body.SnippetEmitsThroughEnd.{LineEmitted}

-- one thing more is emitted
abbrev with_event : Sum → BodyEvent → Sum
with_event s t = record { view = view_with s.view t; ended = ended_parts_with s.ended s.part t; part = part_with s.part t; snippets = snippets_with s.snippets s.ended s.part t }

abbrev made_from : Sum → Bool → Bool → UnplacedSyllable
made_from s eu nlba = record { text = s.view; kept = s.ended ++ s.part; snippets = s.snippets; eu = eu; nlba = nlba }

-- ---- a text

abbrev pub text_sum : List ℕ → Sum
text_sum t = record { view = view_in t; ended = []; part = encodes (kept t); snippets = [] }

-- what the events of a text come to before its end, after a `)` or at the beginning
text_gathered : (t : List ℕ) (how : TextEnd) (emitted : List BodyEvent) (g : TextEmitted t how emitted) (before : List BodyEvent) → since_close before ≡ [] → sum_of (since_close (events_onto (text_events g.mids) before)) ≡ text_sum t
text_gathered t how emitted g before h = grind (arith, text_within, text_gathers)

text_onto : (t : List ℕ) (how : TextEnd) (emitted : List BodyEvent) (g : TextEmitted t how emitted) (before : List BodyEvent) → events_onto emitted before ≡ Text (text.Ended how) ∷ events_onto (text_events g.mids) before
text_onto t how emitted g before = ap (λ ts. events_onto ts before) g.emitted_are ∙ onto_append (text_events g.mids) (Text (text.Ended how) ∷ []) before

-- these characters stand in the input from some place on
abbrev pub IsBack : List ℕ → List ℕ → Type 0
IsBack input text = (before : List ℕ) × (input ≡ before ++ text)

abbrev pub codes_in : ReadSnippet → List ℕ
codes_in s = codes_of s.characters

abbrev kept_in : ReadSnippet → List ℕ
kept_in s = s.kept

-- what the notes hold so far, before a snippet of that line that begins with the characters `rest`
pub record SoFar (input : List ℕ) (lines line : ℕ) (rest : List Char) (events : List BodyEvent) : Type 0 where
  pub text : List ℕ
  pub back : IsBack input text
  pub characters : List ℕ
  pub earlier : List ReadSnippet
  pub text_is : text ≡ characters ++ (bracket_with codes_in earlier ++ codes_of rest)
  pub sum_is : sum_of events ≡ record { view = view_in text; ended = encodes (kept text ++ bracket_with kept_in earlier); part = []; snippets = map (λ (s : ReadSnippet). s.snippet) earlier }
  pub placed : PlacedFrom lines (kept text) [] earlier
  pub line_is : line ≡ length earlier % (lines + 1)

opening : (t : List ℕ) → encodes (kept t) ++ codes "(" ≡ encodes (kept t ++ bracket_with kept_in [])
unfolding encode
opening t = sym (encodes-append (kept t) (codes "("))

pub first_turn : (lines : ℕ) → 0 ≡ 0 % (lines + 1)
first_turn lines = let some : 0 < lines + 1 = omega arith in sym (mod-eq_of_lt some)

pub text_opens : (input : List ℕ) (lines : ℕ) (front : List Char) (end : Char) (rest : List Char) → (let t = codes_of (front ++ end ∷ rest) in (emitted : List BodyEvent) → IsBack input t → end.c ≡ 40
    → TextEmitted t text_end.Notes emitted → (before : List BodyEvent) → since_close before ≡ [] → SoFar input lines 0 rest (since_close (events_onto emitted before)) × (all_syllables (events_onto emitted before) ≡ all_syllables before))
text_opens input lines front end rest emitted b m g before h = let t = codes_of (front ++ end ∷ rest) in (
  record {
    text = t;
    back = b;
    characters = codes_of front;
    earlier = [];
    text_is = codes_append front (end ∷ rest) ∙ ap (λ c. codes_of front ++ c ∷ codes_of rest) m;
    sum_is = ap (λ b. sum_of (since_close b)) (text_onto t text_end.Notes emitted g before)
        ∙ ap (λ s. with_event s (Text (text.Ended text_end.Notes))) (text_gathered t text_end.Notes emitted g before h)
        ∙ ap (λ e. record { view = view_in t; ended = e; part = []; snippets = [] }) (opening t);
    placed = tt;
    line_is = first_turn lines;
  },
  ap all_syllables (text_onto t text_end.Notes emitted g before) ∙ (text_within g.mids before).made,
)

-- the notes that the text opens are those after it, and have no snippet yet
pub text_opens_is : (input : List ℕ) (lines : ℕ) (front : List Char) (end : Char) (rest : List Char) → (let t = codes_of (front ++ end ∷ rest) in (emitted : List BodyEvent) (b : IsBack input t) (m : end.c ≡ 40)
    (g : TextEmitted t text_end.Notes emitted) (before : List BodyEvent) (h : since_close before ≡ [])
    → (let far = (text_opens input lines front end rest emitted b m g before h).0 in (far.text ≡ t) × (far.characters ≡ codes_of front) × (far.earlier ≡ [])))
unfolding text_opens
text_opens_is input lines front end rest emitted b m g before h = (refl, refl, refl)

open_ends : (how : TextEnd) → IsOpenEnd how → (s : Sum) → with_event s (Text (text.Ended how)) ≡ s
open_ends how o s = grind arith

pub last_text_sum : (t : List ℕ) (how : TextEnd) (emitted : List BodyEvent) → TextEmitted t how emitted → IsOpenEnd how → (before : List BodyEvent) → since_close before ≡ [] → sum_of (since_close (events_onto emitted before)) ≡ text_sum t
last_text_sum t how emitted g o before h =
    ap (λ b. sum_of (since_close b)) (text_onto t how emitted g before)
    ∙ ap (λ s. with_event s (Text (text.Ended how))) (text_gathered t how emitted g before h)
    ∙ open_ends how o (text_sum t)

-- a last text, which has no notes
pub last_text : (input : List ℕ) (t : List ℕ) (how : TextEnd) (emitted : List BodyEvent) → IsBack input t → StandsForView (kept t) (view_in t) t → TextEmitted t how emitted → IsOpenEnd how
    → (before : List BodyEvent) → since_close before ≡ [] → Holds HoldsNoNotes input (last_syllable (events_onto emitted before)) × (all_syllables (events_onto emitted before) ≡ all_syllables before)
last_text input t how emitted b stands g o before h =
    let whole : sum_of (since_close (events_onto emitted before)) ≡ text_sum t = last_text_sum t how emitted g o before h in
    let view : view_of (since_close (events_onto emitted before)) ≡ view_in t = ap (λ (s : Sum). s.view) whole in
    let kept_text : kept_of (since_close (events_onto emitted before)) ≡ encodes (kept t) = ap (λ (s : Sum). s.ended ++ s.part) whole in (
      record {
        before = b.0;
        text = t;
        input_is = b.1;
        of_text = t;
        of_notes = [];
        after = [];
        text_is = sym (append-nil t);
        whole = kept t;
        view_is = view;
        stands = subst (λ v. StandsForView (kept t) v t) (sym view) stands;
        kept_is = kept_text;
        notes = record { characters_are = refl; whole_is = refl; snippets_are = ap (λ k. empty_snippet k ∷ []) kept_text };
      },
      ap all_syllables (text_onto t how emitted g before) ∙ (text_within g.mids before).made,
    )

-- ---- a snippet

module _ (input : List ℕ) (lines line : ℕ) (opened_at : Place) (from : List Char) (end : Char) (rest : List Char) (mark : Mark) (emitted : List BodyEvent) (l : LineEmitted lines line opened_at from end mark emitted) (before : List BodyEvent)
    (far : SoFar input lines line (from ++ end ∷ rest) (since_close before)) (stands : StandsForView (kept far.text) (view_in far.text) far.text) where
  abbrev prefix : List ℕ
  prefix = kept far.text ++ bracket_with kept_in far.earlier

  abbrev pub new : ReadSnippet
  new = record { snippet = snippet_at line (size prefix) (encodes l.kept); characters = from; kept = l.kept }

  abbrev pub before_end : List BodyEvent
  before_end = events_onto (map (note_event line opened_at) l.mids) before

  line_onto : events_onto emitted before ≡ Notes line (note.Ended l.how (size l.kept)) ∷ before_end
  line_onto = ap (λ ts. events_onto ts before) l.emitted_are ∙ onto_append (map (note_event line opened_at) l.mids) (Notes line (note.Ended l.how (size l.kept)) ∷ []) before

  -- before the mark
  gathered : sum_of (since_close before_end) ≡ record { view = view_in far.text; ended = encodes prefix; part = encodes (l.kept ++ l.rest); snippets = map (λ (s : ReadSnippet). s.snippet) far.earlier }
  gathered =
      ap sum_of (notes_within line opened_at l.mids before l.silent).since
      ∙ notes_keep line opened_at l.mids (since_close before) l.silent
      ∙ ap (keeping (encodes (kept_in_notes l.mids))) far.sum_is
      ∙ ap (λ ks. record { view = view_in far.text; ended = encodes prefix; part = encodes ks; snippets = map (λ (s : ReadSnippet). s.snippet) far.earlier }) l.kept_is

  new_placed : Placed lines (kept far.text) far.earlier new
  new_placed = grind (arith, size_append)

  all_placed : PlacedFrom lines (kept far.text) [] (far.earlier ++ new ∷ [])
  all_placed = placed_push lines (kept far.text) [] far.earlier new far.placed new_placed

  -- the sum after the mark
  abbrev later : ℕ → Sum
  later c = record {
    view = view_in far.text;
    ended = encodes (prefix ++ (l.kept ++ c ∷ []));
    part = [];
    snippets = map (λ (s : ReadSnippet). s.snippet) (far.earlier ++ new ∷ []);
  }

  after_by : (c : ℕ) (part : List ℕ) → Sum
  after_by c part = record {
    view = view_in far.text;
    ended = encodes prefix ++ (part ++ c ∷ []);
    part = [];
    snippets = map (λ (s : ReadSnippet). s.snippet) far.earlier ++ snippet_at line (size prefix) part ∷ [];
  }

  marked : (c : ℕ) → encode c ≡ c ∷ [] → encodes prefix ++ (encodes l.kept ++ c ∷ []) ≡ encodes (prefix ++ (l.kept ++ c ∷ []))
  marked c h = sym (encodes-append prefix (l.kept ++ c ∷ []) ∙ ap (λ e. encodes prefix ++ e) (encodes-append l.kept (c ∷ []) ∙ ap (λ e. encodes l.kept ++ e) (append-nil (encode c) ∙ h)))

  after_is : (c : ℕ) → encode c ≡ c ∷ [] → after_by c (prefix_of (size l.kept) (encodes (l.kept ++ l.rest))) ≡ later c
  unfolding after_by
  after_is c h = grind (arith, cut_between, marked, map-append)

  next_sum : l.how ≡ note_end.Next → sum_of (since_close (events_onto emitted before)) ≡ later 124
  unfolding after_by
  next_sum h =
      ap (λ b. sum_of (since_close b)) line_onto
      ∙ ap (λ how. sum_of (since_close (Notes line (note.Ended how (size l.kept)) ∷ before_end))) h
      ∙ ap (λ s. with_event s (Notes line (note.Ended note_end.Next (size l.kept)))) gathered
      ∙ after_is 124 (encode_ascii 124 (omega arith))

  abbrev close_event : BodyEvent
  close_event = Notes line (note.Ended note_end.Close (size l.kept))

  close_onto : l.how ≡ note_end.Close → events_onto emitted before ≡ close_event ∷ before_end
  close_onto h = line_onto ∙ ap (λ how. Notes line (note.Ended how (size l.kept)) ∷ before_end) h

  close_sum : with_event (sum_of (since_close before_end)) close_event ≡ later 41
  unfolding after_by
  close_sum = ap (λ s. with_event s close_event) gathered ∙ after_is 41 (encode_ascii 41 (omega arith))

  -- what the text and the notes after it were read from, with this snippet
  text_more : (c : ℕ) → end.c ≡ c → far.text ≡ far.characters ++ ((bracket_with codes_in far.earlier ++ (codes_of from ++ c ∷ [])) ++ codes_of rest)
  text_more c e = grind (arith, codes_append, append_assoc)

  holds_after : end.c ≡ 41 → (eu nlba : Bool) → HoldsWithNotes input lines (made_from (later 41) eu nlba)
  holds_after e eu nlba = record {
    before = far.back.0;
    text = far.text;
    input_is = far.back.1;
    of_text = far.characters;
    of_notes = in_brackets codes_in far.earlier new;
    after = codes_of rest;
    text_is = text_more 41 e;
    whole = whole_of (kept far.text) far.earlier new;
    kept_is = append-nil (encodes (prefix ++ (l.kept ++ codes ")"))) ∙ ap encodes (append_assoc (kept far.text) (bracket_with kept_in far.earlier) (l.kept ++ codes ")"));
    view_is = refl;
    stands = view_more (kept far.text) (in_brackets kept_in far.earlier new) (view_in far.text) far.text stands;
    notes = record {
      earlier = far.earlier;
      last = new;
      characters_are = refl;
      whole_is = refl;
      snippets_are = refl;
      each = all_held lines (kept far.text) far.earlier new all_placed;
    };
  }

  -- after the `)` the syllable holds the unit of this text, whose snippets are these
  holds_unit : (u : ScoreUnit) → u.text ≡ far.text → u.notes ≡ in_brackets codes_in far.earlier new → (xs : List Char) (xss : List (List Char)) → u.snippets ≡ xs ∷ xss
      → map (λ (s : ReadSnippet). s.characters) (far.earlier ++ new ∷ []) ≡ u.snippets → (eu nlba : Bool) → HoldsUnit lines u (made_from (later 41) eu nlba)
  holds_unit u t n xs xss some c eu nlba =
      let whole = whole_of (kept far.text) far.earlier new in
      let read : HoldsNotes lines u.notes whole (kept u.text) (later 41).snippets = record {
        earlier = far.earlier;
        last = new;
        characters_are = n;
        whole_is = ap (λ v. kept v ++ in_brackets kept_in far.earlier new) (sym t);
        snippets_are = refl;
        each = subst (λ v. (before after : List ReadSnippet) (s : ReadSnippet) → far.earlier ++ new ∷ [] ≡ before ++ s ∷ after → IsHeld lines whole (kept v) before s) (sym t) (all_held lines (kept far.text) far.earlier new all_placed);
      } in
      record {
        whole = whole;
        kept_is = append-nil (encodes (prefix ++ (l.kept ++ codes ")"))) ∙ ap encodes (append_assoc (kept far.text) (bracket_with kept_in far.earlier) (l.kept ++ codes ")"));
        view_is = ap view_in (sym t);
        stands = subst (λ v. StandsForView whole (view_in far.text) v) (sym t) (view_more (kept far.text) (in_brackets kept_in far.earlier new) (view_in far.text) far.text stands);
        notes = subst (λ yss. NotesAre lines u yss whole (later 41).snippets) (sym some) (record { holds = read; characters_are = c });
      }

  pub close_unit : l.how ≡ note_end.Close → end.c ≡ 41 → (u : ScoreUnit) → u.text ≡ far.text → u.notes ≡ in_brackets codes_in far.earlier new → (xs : List Char) (xss : List (List Char)) → u.snippets ≡ xs ∷ xss
      → map (λ (s : ReadSnippet). s.characters) (far.earlier ++ new ∷ []) ≡ u.snippets
      → (m : UnplacedSyllable) × (all_syllables (events_onto emitted before) ≡ all_syllables before ++ m ∷ []) × HoldsUnit lines u m × ((m.eu ≡ is_eu before_end) × (m.nlba ≡ is_nlba before_end)) × (since_close (events_onto emitted before) ≡ [])
  close_unit h e u t n xs xss some c =
      let eu = is_eu before_end in
      let nlba = is_nlba before_end in
      let m = syllable_by (close_event ∷ since_close before_end) eu nlba in (
        m,
        ap all_syllables (close_onto h) ∙ ap (λ (ms : List UnplacedSyllable). ms ++ m ∷ []) (notes_within line opened_at l.mids before l.silent).made,
        subst (HoldsUnit lines u) (sym (ap (λ s. made_from s eu nlba) close_sum)) (holds_unit u t n xs xss some c eu nlba),
        (refl, refl),
        ap since_close (close_onto h),
      )

  pub close_made : l.how ≡ note_end.Close → end.c ≡ 41 → (m : UnplacedSyllable) × (all_syllables (events_onto emitted before) ≡ all_syllables before ++ m ∷ []) × HoldsWithNotes input lines m × (since_close (events_onto emitted before) ≡ [])
  close_made h e =
      let eu = is_eu before_end in
      let nlba = is_nlba before_end in
      let m = syllable_by (close_event ∷ since_close before_end) eu nlba in (
        m,
        ap all_syllables (close_onto h) ∙ ap (λ (ms : List UnplacedSyllable). ms ++ m ∷ []) (notes_within line opened_at l.mids before l.silent).made,
        subst (HoldsWithNotes input lines) (sym (ap (λ s. made_from s eu nlba) close_sum)) (holds_after e eu nlba),
        ap since_close (close_onto h),
      )

  pub next_far : l.how ≡ note_end.Next → end.c ≡ 124 → SoFar input lines (next_line lines line) rest (since_close (events_onto emitted before))
  next_far h e = record {
    text = far.text;
    back = far.back;
    characters = far.characters;
    earlier = far.earlier ++ new ∷ [];
    text_is = text_more 124 e ∙ ap (λ t. far.characters ++ (t ++ codes_of rest)) (bracket_more codes_in far.earlier new);
    sum_is = next_sum h ∙ ap (λ t. record (later 124) { ended = encodes t }) (append_assoc (kept far.text) (bracket_with kept_in far.earlier) (l.kept ++ codes "|") ∙ ap (λ t. kept far.text ++ t) (bracket_more kept_in far.earlier new));
    placed = all_placed;
    line_is = ap (next_line lines) far.line_is ∙ next_turn lines (length far.earlier)
        ∙ ap (λ n. n % (lines + 1)) (sym (length-append far.earlier (new ∷ []) ∙ add-one (length far.earlier)));
  }

  -- the text stays, and the snippet is one more
  pub next_far_is : (h : l.how ≡ note_end.Next) (e : end.c ≡ 124) → ((next_far h e).text ≡ far.text) × ((next_far h e).characters ≡ far.characters) × ((next_far h e).earlier ≡ far.earlier ++ new ∷ [])
  unfolding next_far
  next_far_is h e = (refl, refl, refl)

  pub next_made : l.how ≡ note_end.Next → all_syllables (events_onto emitted before) ≡ all_syllables before
  next_made h = ap all_syllables (line_onto ∙ ap (λ how. Notes line (note.Ended how (size l.kept)) ∷ before_end) h) ∙ (notes_within line opened_at l.mids before l.silent).made

-- a snippet that the end of the input cuts
pub cut_is : (line : ℕ) (opened_at : Place) (emitted : List BodyEvent) (t : CutEmitted line opened_at emitted) (before : List BodyEvent)
    → (cut_of (events_onto emitted before) ≡ Some t.place) × (all_syllables (events_onto emitted before) ≡ all_syllables before)
cut_is line opened_at emitted t before =
    let all : events_onto emitted before ≡ Notes line (note.Ended (note_end.Cut t.place) t.count) ∷ events_onto (map (note_event line opened_at) t.mids) before =
    ap (λ ts. events_onto ts before) t.emitted_are ∙ onto_append (map (note_event line opened_at) t.mids) (Notes line (note.Ended (note_end.Cut t.place) t.count) ∷ []) before in
    (ap cut_of all, ap all_syllables all ∙ (notes_within line opened_at t.mids before t.silent).made)
