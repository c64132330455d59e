-- What was read by what is kept stands to what was gathered of the events.
use Rattle.std.proofs.Common.{◌≡◌, ℕ, ◌+◌, ◌<◌, ◌≤◌, ◌^◌, ◌&&◌, ◌==◌, Bool, true, false, cond, List, [], ◌∷◌, ◌++◌, length, encode_utf8_all, None, is_some, refl, sym, ap, ◌∙◌, append_assoc, arith}
use Rattle.std.proofs.lemmas.Bool.{and_parts}
use Rattle.std.proofs.lemmas.Str.{len_utf8_bounds, len_utf8_ascii}
use lib.Utf8.{scalar, scalars}
use Rattle.gabc_places.specs.Place.{is_line_feed, next_place, place_past, placed_characters_from}
use Rattle.gabc_places.specs.declared.code.Finding.{Finding}
use Rattle.gabc_places.specs.declared.place.Place.{Place}
use Rattle.gabc_text.specs.Events.{CountsFit, codes_of}
use Rattle.gabc_text.specs.KeptText.{view_of_kept}
use Rattle.gabc_text.specs.declared.text_event.TextEvent.{TextEvent}
use Rattle.gabc_notes.specs.KeptNotes.{in_raw}
use Rattle.gabc_body.specs.declared.events.BodyEvent.{BodyEvent}
use Rattle.gabc_body.specs.Events.{after_mark}
use Rattle.gabc_body.specs.NoteBeforeClef.{found_first}
use Rattle.gabc_body.specs.Reading.{Reading, BodyRead, at_start}
use Rattle.gabc_body.specs.Reading as read
use Rattle.gabc_body.specs.witness.BodyBuilder.{with_all}
use Rattle.gabc_body.specs.witness.Gatherer.{Gathered}
use Rattle.gabc_body.specs.witness.SyllableBuilder.{nothing_open}
use Rattle.gabc_body.specs.witness.PartsByKept.{SnippetState, PartRead, InComment, InText, InNotes}
use Rattle.gabc_body.specs.witness.TextsByKept.{GoesByKept}
use Rattle.gabc_body.proofs.by_kept.TextsAreGathered as texts
use Rattle.gabc_body.proofs.by_kept.TextsAreGathered.{SpansStand}
use Rattle.gabc_body.proofs.order.FindingsOfParts.{found}
use Rattle.gabc_body.proofs.texts_of_body.SeamsOfCharacters.{size, size_append, size_of_one}
use Rattle.gabc_body.proofs.texts_of_body.BodyFits.{bytes_encodes}

-- ---- room for what is to come

-- The text t is to come at this place, where n bytes are kept: no count reaches its last value.
pub record Fits (p : Place) (t : List ℕ) (n : ℕ) : Type 0 where
  pub line : 1 ≤ p.line
  pub lines : p.line + length t < 2 ^ 64
  pub column : p.column + length t < 2 ^ 64
  pub bytes : n + size t < 2 ^ 64
  pub scalar : scalars t ≡ true

size_first : (c : ℕ) (t : List ℕ) → size (c ∷ t) ≡ size (c ∷ []) + size t
size_first c t = size_append (c ∷ []) t

pub fits_next : (p : Place) (c : ℕ) (t : List ℕ) (n m : ℕ) → m ≤ n + size (c ∷ []) → Fits p (c ∷ t) n → Fits (next_place p c) t m
fits_next p c t n m h f = by (is_line_feed c)
  where
    bytes : m + size t < 2 ^ 64
    bytes = let s = size_first c t in let b = f.bytes in omega (arith, h, s, b)

    rest : scalars t ≡ true
    rest = (and_parts (scalar c) (scalars t) f.scalar).1

    by : (b : Bool) → Fits (cond b (record { line = p.line + 1; column = 1 }) (record { line = p.line; column = p.column + 1 })) t m
    by true = record { line = let l = f.line in omega (arith, l); lines = let l = f.lines in omega (arith, l); column = let k = f.column in omega (arith, k); bytes = bytes; scalar = rest }
    by false = record { line = f.line; lines = let l = f.lines in omega (arith, l); column = let k = f.column in omega (arith, k); bytes = bytes; scalar = rest }

pub counts_fit : (p : Place) (t : List ℕ) (n : ℕ) → Fits p t n → CountsFit p t
counts_fit p t n f = record { line = f.lines; column = f.column; bytes = let b = f.bytes in let e = bytes_encodes t in omega (arith, b, e) }

pub codes_placed : (p : Place) (t : List ℕ) → codes_of (placed_characters_from p t) ≡ t
codes_placed p [] = refl
codes_placed p (c ∷ t) = ap (λ (cs : List ℕ). c ∷ cs) (codes_placed (next_place p c) t)

-- ---- the parts

-- a text is read, with these lists to come
pub record ReadsText (p : Place) (t : List ℕ) (lists : List (List TextEvent)) (b : BodyRead) (g : Gathered) : Type 0 where
  pub part_is : b.reading.part ≡ read.InText
  pub before_is : b.reading.before ≡ []
  pub snippets_are : b.reading.snippets ≡ []
  pub no_snippets : g.builder.snippets ≡ []
  pub from_is : g.builder.from ≡ 0
  pub within : texts.InText b.eu b.nlba b.reading.kept g
  pub goes : GoesByKept (place_past p t) (placed_characters_from p t) b.reading.kept b.reading.inner b.reading.comment g.builder.view lists

abbrev pub state_of : Reading → SnippetState
state_of r = record { kept = r.kept; inner = r.inner; comment = r.comment }

-- what was gathered while a snippet is read
pub record InSnippet (b : BodyRead) (g : Gathered) : Type 0 where
  pub kept_is : g.builder.kept ≡ encode_utf8_all (b.reading.before ++ b.reading.kept)
  pub from_is : g.builder.from ≡ size b.reading.before
  pub view_is : g.builder.view ≡ view_of_kept b.reading.text
  pub snippets_are : g.builder.snippets ≡ b.reading.snippets
  pub more : List ℕ
  pub before_is : b.reading.before ≡ b.reading.text ++ more
  pub spans : SpansStand b.eu b.nlba (encode_utf8_all b.reading.text) (view_of_kept b.reading.text).pieces g

-- a snippet of this line is read, after the `(` at this place
pub record ReadsNotes (line : ℕ) (opened : Place) (s : SnippetState) (b : BodyRead) (g : Gathered) : Type 0 where
  pub part_is : b.reading.part ≡ read.InNotes line
  pub state_is : s ≡ state_of b.reading
  pub paren_is : opened ≡ b.reading.paren
  pub within : InSnippet b g
  pub scalar : scalars b.reading.kept ≡ true
  pub inner_line : ((line == 0) && in_raw b.reading.kept) ≡ true → (b.reading.inner.line == 0) ≡ false

-- nothing is read yet
pub record ReadsNothing (b : BodyRead) (g : Gathered) : Type 0 where
  pub reading_is : b.reading ≡ at_start true
  pub nothing : g.builder ≡ nothing_open
  pub eu_is : g.eu ≡ b.eu
  pub nlba_is : g.nlba ≡ b.nlba

abbrev pub Reads : PartRead → Place → List ℕ → BodyRead → Gathered → Type 0
Reads InComment p t b g = ReadsNothing b g
Reads (InText lists) p t b g = ReadsText p t lists b g
Reads (InNotes line opened s) p t b g = ReadsNotes line opened s b g

-- The body read stands to what was gathered and found so far, where this text is to come.
pub record Stands (part : PartRead) (p : Place) (t : List ℕ) (b : BodyRead) (g : Gathered) (fs : List Finding) : Type 0 where
  pub made_is : g.made ≡ b.made
  pub uncut : g.cut ≡ None
  pub sounded_is : is_some g.first_kind ≡ b.sounded
  pub found_is : fs ≡ b.found
  pub fits : Fits p t (size (b.reading.before ++ b.reading.kept))
  pub reads : Reads part p t b g

-- so it does after these events of a character that stands at this place
abbrev pub StandsAfter : PartRead → Place → List ℕ → BodyRead → Gathered → List Finding → Place → List BodyEvent → Type 0
StandsAfter part p t b g fs here now = Stands part p t b (with_all g now) (fs ++ (found now ++ found_first g.first_kind (with_all g now).first_kind here))

-- what is kept of one character more
pub size_push : (before kept : List ℕ) (c d : ℕ) → size (c ∷ []) ≤ size (d ∷ []) → size (before ++ (kept ++ c ∷ [])) ≤ size (before ++ kept) + size (d ∷ [])
size_push before kept c d h =
    let e : size (before ++ (kept ++ c ∷ [])) ≡ size (before ++ kept) + size (c ∷ []) = ap size (sym (append_assoc before kept (c ∷ []))) ∙ size_append (before ++ kept) (c ∷ []) in
    omega (arith, e, h)

pub size_of_ascii : (d c : ℕ) → d < 128 → size (d ∷ []) ≤ size (c ∷ [])
size_of_ascii d c h = let a = size_of_one d in let b = size_of_one c in let l = (len_utf8_bounds c).0 in let s = len_utf8_ascii d h in omega (arith, a, b, l, s)

-- the place after a mark
pub after_mark_is : (p : Place) → p.column + 1 < 2 ^ 64 → after_mark p ≡ next_place p 41
after_mark_is p h = ap (λ (n : ℕ). let q : Place = record { line = p.line; column = n } in q) (let e : p.column + 1 ≡ p.column + 1 = refl in omega (arith, h))
