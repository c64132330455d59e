-- What is found in a body that is cut into parts stands in order.
use Rattle.std.proofs.Common.{◌<◌, ◌≡◌, ℕ, suc, ◌+◌, ◌-◌, ◌≤◌, ◌^◌, nat_lt, List, [], ◌∷◌, ◌++◌, refl, sym, ap, subst, ◌∙◌, length, append-nil, Option, arith, inl, inr, ◌⊎◌}
use Rattle.gabc_places.proofs.PlacesInOrder.{up_to_self, before_up_to, up_to_then, before_then, before_next, up_to_past}
use Rattle.gabc_places.proofs.PlacesOfAText.{place_append}
use Rattle.gabc_places.specs.declared.place.Place.{Place}
use Rattle.gabc_places.specs.declared.place.Char.{Char}
use Rattle.gabc_places.specs.declared.code.Code.TheVariants.{W12, W9}
use Rattle.gabc_places.specs.declared.code.Finding.{Finding}
use Rattle.gabc_places.specs.Code.{rank_of}
use Rattle.gabc_places.specs.Findings.{ComesBefore, IsUpTo}
use Rattle.gabc_places.specs.StageLaw.{concat_of}
use Rattle.gabc_places.specs.Place.{next_place, place_past, placed_characters_from}
use Rattle.gabc_places.specs.PlacesInOrder.{IsEarlier}
use Rattle.gabc_notes.specs.declared.item.ItemKind.{ItemKind}
use Rattle.gabc_notes.specs.Events as notes
use Rattle.gabc_nabc.specs.Events as nabc
use Rattle.gabc_body.specs.Events.{PartAhead, texts_by_definition, text_from, snippet_from, after_mark}
use Rattle.gabc_body.specs.NoteBeforeClef.{found_first, with_first_each}
use Rattle.gabc_body.specs.declared.events.BodyEvent.{BodyEvent}
use Rattle.gabc_body.specs.Units.{Mark, Opens, Next, Closes, CutPart, whole, events_through, EndsAfter, part_following, Cuts, events_of_cutting}
use Rattle.gabc_body.proofs.units.BodyHasOneCutting.{text_mark}
use Rattle.gabc_body.proofs.order.FindingsOneAfterAnother.{AllBelow, from_earlier, below_before, order_append, order_then, all_before, no_notes, all_append}
use Rattle.gabc_body.proofs.order.FindingsOfParts.{found, joined_found, TextsLie, SnippetsLie, Lie, LieLast, text_lies, text_codes, text_lies_last, snippet_lies, snippet_codes, snippet_lies_last}
use Rattle.gabc_body.proofs.order.FirstNotesOfParts.{through_end, to_the_end}
use Rattle.gabc_text.specs.BuiltText.{found_in}
use Rattle.gabc_text.specs.Events.{events_by_point}

-- ---- the characters of a part and those after it

record Split (xs : List Char) (x : Char) (ys : List Char) (p : Place) (cs : List ℕ) : Type 0 where
  prefix : List ℕ
  c : ℕ
  rest : List ℕ
  all : cs ≡ prefix ++ c ∷ rest
  size : length xs ≡ length prefix
  here : x ≡ record { c = c; place = place_past p prefix }
  after : ys ≡ placed_characters_from (next_place (place_past p prefix) c) rest

split : (xs : List Char) (x : Char) (ys : List Char) (p : Place) (cs : List ℕ) → xs ++ x ∷ ys ≡ placed_characters_from p cs → Split xs x ys p cs
split [] x ys p [] e = absurd (cc)
split [] x ys p (c ∷ cs) e = record { prefix = []; c = c; rest = cs; all = refl; size = refl; here = cc; after = cc }
split (z ∷ xs) x ys p [] e = absurd (cc)
split (z ∷ xs) x ys p (c ∷ cs) e =
    let f : xs ++ x ∷ ys ≡ placed_characters_from (next_place p c) cs = cc in
    let s = split xs x ys (next_place p c) cs f in
    record { prefix = c ∷ s.prefix; c = s.c; rest = s.rest; all = ap (λ ds. c ∷ ds) s.all; size = ap suc s.size; here = s.here; after = s.after }

-- ---- no column reaches its last value

pub record Short (p : Place) (cs : List ℕ) : Type 0 where
  pub here : p.column + length cs ≤ 2 ^ 64 - 1
  pub begun : 1 + length cs ≤ 2 ^ 64 - 1

short_next : (p : Place) (c : ℕ) (cs : List ℕ) → Short p (c ∷ cs) → Short (next_place p c) cs
short_next p c cs h = grind arith

pub short_past : (p : Place) (prefix rest : List ℕ) → Short p (prefix ++ rest) → Short (place_past p prefix) rest
short_past p [] rest h = h
short_past p (c ∷ prefix) rest h = short_past (next_place p c) prefix rest (short_next p c (prefix ++ rest) h)

-- after a `)`
after_is : (q : Place) (c : ℕ) (rest : List ℕ) → c ≡ 41 → Short q (c ∷ rest) → after_mark q ≡ next_place q c
after_is q c rest e h = grind arith

module _ (lines macros : ℕ) where
  -- the part begins here with these characters
  abbrev pub Begins : PartAhead → Place → List Char → Type 0
  Begins part p xs = (part ≡ text_from texts_by_definition p xs) ⊎ ((line : ℕ) × (opened : Place) × (part ≡ snippet_from lines macros line opened xs))

  -- the codes of what is found in a part through some of its characters
  module _ (below : (at : Place) (t : List ℕ) → AllBelow W9 (found_in (concat_of (events_by_point at t)))) where
    begun_codes : (part : PartAhead) (p : Place) (xs ys : List Char) → Begins part p ys → AllBelow W12 (found (concat_of (events_through part xs)))
    begun_codes part p xs ys (inl f) = rw f (text_codes below p ys xs)
    begun_codes part p xs ys (inr h) = rw h.2 (snippet_codes lines macros h.0 h.1 ys xs)

    -- and in all parts
    pub pieces_low : (pieces : List CutPart) (last : List Char) (part : PartAhead) (p : Place) → Begins part p (whole pieces last)
        → AllBelow W12 (found (concat_of (events_of_cutting texts_by_definition lines macros part pieces last)))
    pieces_low [] last part p b = begun_codes part p last last b
    pieces_low (q ∷ pieces) last part p b =
        let n = following q.mark in
        subst (AllBelow W12) (sym (joined_found (events_through part q.characters) _))
        (all_append (λ f. rank_of f.code < rank_of W12) (found (concat_of (events_through part q.characters))) _ (begun_codes part p q.characters (whole (q ∷ pieces) last) b)
        (pieces_low pieces last (part_following texts_by_definition lines macros q.mark q.end (whole pieces last)) n.0 n.1))
      where
        following : (mark : Mark) → (r : Place) × Begins (part_following texts_by_definition lines macros mark q.end (whole pieces last)) r (whole pieces last)
        following Opens = (p, inr (0, q.end.place, refl))
        following (Next line opened) = (p, inr (line, opened, refl))
        following Closes = (after_mark q.end.place, inl refl)

module _ (lines macros : ℕ) (texts : TextsLie) (gabc : SnippetsLie (λ xs. notes.note_events (nat_lt 0 lines) macros xs)) (marks : SnippetsLie (λ xs. nabc.nabc_events xs))
    (closes : (line : ℕ) (opened : Place) (prefix : List Char) (x : Char) (rest : List Char) → EndsAfter lines (snippet_from lines macros line opened (prefix ++ x ∷ rest)) prefix Closes → x.c ≡ 41) where
  -- a note before any clef stands at the mark, after all that the snippet finds
  lies_with_first : (p q : Place) (fs : List Finding) (was now : Option ItemKind) → IsUpTo p q → Lie p q fs → AllBelow W12 fs → Lie p q (fs ++ found_first was now q)
  lies_with_first p q fs was now u l h = grind (arith, order_then, below_before, all_append, up_to_self, append-nil)

  last_lies : (part : PartAhead) (p : Place) (cs : List ℕ) (last : List Char) → last ≡ placed_characters_from p cs → Begins lines macros part p last → LieLast p (place_past p cs) (found (concat_of (events_through part last)))
  last_lies part p cs last e h = grind (arith, text_lies_last, snippet_lies_last)

  through_lies : (part : PartAhead) (p : Place) (cs : List ℕ) (xs : List Char) (x : Char) (ys : List Char) (s : Split xs x ys p cs) → xs ++ x ∷ ys ≡ placed_characters_from p cs → Begins lines macros part p (xs ++ x ∷ ys)
      → Lie p (place_past p s.prefix) (found (concat_of (events_through part xs)))
  through_lies part p cs xs x ys s e h = grind (arith, text_lies, snippet_lies)

  closes_at : (part : PartAhead) (p : Place) (xs : List Char) (x : Char) (ys : List Char) → Begins lines macros part p (xs ++ x ∷ ys) → EndsAfter lines part xs Closes → x.c ≡ 41
  closes_at part p xs x ys (inl f) h = absurd (cc (text_mark texts_by_definition lines macros _ xs Closes (subst (λ q. EndsAfter lines q xs Closes) f h)))
  closes_at part p xs x ys (inr b) h = closes b.0 b.1 xs x ys (subst (λ q. EndsAfter lines q xs Closes) b.2 h)

  next_begins : (part : PartAhead) (p : Place) (cs : List ℕ) (xs : List Char) (x : Char) (ys : List Char) (mark : Mark) (s : Split xs x ys p cs) → Short p cs
      → Begins lines macros part p (xs ++ x ∷ ys) → EndsAfter lines part xs mark
      → Begins lines macros (part_following texts_by_definition lines macros mark x ys) (next_place (place_past p s.prefix) s.c) ys
  next_begins part p cs xs x ys Opens s short b h = inr (0, x.place, refl)
  next_begins part p cs xs x ys (Next line opened) s short b h = inr (line, opened, refl)
  next_begins part p cs xs x ys Closes s short b h =
      let at = ap (λ (y : Char). y.place) s.here in
      let c : s.c ≡ 41 = sym (ap (λ (y : Char). y.c) s.here) ∙ closes_at part p xs x ys b h in
      inl (ap (λ q. text_from texts_by_definition q ys)
      (ap after_mark at ∙ after_is (place_past p s.prefix) s.c s.rest c (short_past p s.prefix (s.c ∷ s.rest) (subst (Short p) s.all short))))

  both_lie : (p q r e : Place) (fs gs : List Finding) → IsUpTo p r → IsEarlier q r → IsUpTo r e → Lie p q fs → LieLast r e gs → LieLast p e (fs ++ gs)
  both_lie p q r e fs gs u l m f g = record {
    order = order_append fs gs q r f.order f.up_to l g.order g.from;
    from = all_append (λ f. IsUpTo p f.place) fs gs f.from (from_earlier p r gs u g.from);
    before = all_append (λ f. ComesBefore f (no_notes e)) fs gs (all_before q (no_notes e) fs f.up_to (before_then q r e l m)) g.before;
  }

  -- ---- all parts

  pub pieces_lie : (pieces : List CutPart) (last : List Char) (part : PartAhead) (p : Place) (cs : List ℕ) → whole pieces last ≡ placed_characters_from p cs → Short p cs
      → Begins lines macros part p (whole pieces last) → Cuts texts_by_definition lines macros part pieces last
      → (before : List BodyEvent) → LieLast p (place_past p cs) (found (concat_of (with_first_each before (whole pieces last) (events_of_cutting texts_by_definition lines macros part pieces last))))
  pieces_lie [] last part p cs e short b h before = subst (LieLast p (place_past p cs)) (sym (to_the_end lines part last before h)) (last_lies part p cs last e b)
  pieces_lie (q ∷ pieces) last part p cs e short b h before =
      let s = split q.characters q.end (whole pieces last) p cs e in
      let lists = events_of_cutting texts_by_definition lines macros (part_following texts_by_definition lines macros q.mark q.end (whole pieces last)) pieces last in
      let w = through_end lines part q.characters q.end (whole pieces last) q.mark before lists h.0 in
      let at : q.end.place ≡ place_past p s.prefix = ap (λ (y : Char). y.place) s.here in
      let f = lies_with_first p (place_past p s.prefix) (found (concat_of (events_through part q.characters))) w.0 w.1 (up_to_past p s.prefix)
      (through_lies part p cs q.characters q.end (whole pieces last) s e b) (begun_codes lines macros texts.below part p q.characters (q.characters ++ q.end ∷ whole pieces last) b) in
      let g = pieces_lie pieces last (part_following texts_by_definition lines macros q.mark q.end (whole pieces last)) (next_place (place_past p s.prefix) s.c) s.rest s.after
      (short_next (place_past p s.prefix) s.c s.rest (short_past p s.prefix (s.c ∷ s.rest) (subst (Short p) s.all short)))
      (next_begins part p cs q.characters q.end (whole pieces last) q.mark s short b h.0) h.1 w.2 in
      let end : place_past (next_place (place_past p s.prefix) s.c) s.rest ≡ place_past p cs = sym (place_append p s.prefix (s.c ∷ s.rest)) ∙ ap (place_past p) (sym s.all) in
      let l = before_next (place_past p s.prefix) s.c in
      subst (LieLast p (place_past p cs))
      (sym (w.3 ∙ ap (λ place. (found (concat_of (events_through part q.characters)) ++ found_first w.0 w.1 place) ++ found (concat_of (with_first_each w.2 (whole pieces last) lists))) at))
      (subst (λ o. LieLast p o ((found (concat_of (events_through part q.characters)) ++ found_first w.0 w.1 (place_past p s.prefix)) ++ found (concat_of (with_first_each w.2 (whole pieces last) lists)))) end
      (both_lie p (place_past p s.prefix) (next_place (place_past p s.prefix) s.c) (place_past (next_place (place_past p s.prefix) s.c) s.rest) _ _
      (up_to_then p (place_past p s.prefix) (next_place (place_past p s.prefix) s.c) (up_to_past p s.prefix) (before_up_to (place_past p s.prefix) (next_place (place_past p s.prefix) s.c) l)) l
      (up_to_past (next_place (place_past p s.prefix) s.c) s.rest) f g))
