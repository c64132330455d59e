-- What is read of a text by relations over the whole of it is what is computed character by character.
use Rattle.std.proofs.Common.{arith, ◌≡◌, ℕ, List, [], ◌∷◌, ◌++◌, Bool, true, false, cond, ◌&&◌, ◌||◌, ◌==◌, not, Option, Some, None, refl, sym, ap, ◌∙◌, subst, append_assoc, append-nil, ◌⊎◌, inl, inr}
use Rattle.std.proofs.Math.Seq.{drop-append_seam}
use Rattle.std.proofs.Math.Bool.{or-true}
use Rattle.std.proofs.lemmas.Bool.{and_parts, or_parts, not-true}
use Rattle.std.specs.Prelude.{string_bytes}
use lib.Utf8.{encodes}
use Rattle.gabc_places.specs.declared.code.Code.{Code}
use Rattle.gabc_places.specs.declared.code.Code.TheVariants.{E3, W7}
use Rattle.gabc_places.specs.declared.code.Finding.{Finding}
use Rattle.gabc_places.specs.declared.place.Char.{Char}
use Rattle.gabc_places.specs.declared.place.Place.{Place}
use Rattle.gabc_places.specs.Place.{next_place, place_past, placed_characters_from}
use Rattle.gabc_places.specs.StageLaw.{concat_of}
use Rattle.gabc_patterns.specs.LongestItems.{IsSnippet, IsViable}
use Rattle.gabc_patterns.specs.Pattern.{is_in}
use Rattle.gabc_patterns.specs.Derivative.{is_snippet, is_viable}
use Rattle.gabc_patterns.specs.Function.{trim}
use Rattle.gabc_patterns.proofs.FunctionsMeetRelations.{keep_keeps, keeps_is, not_viable, no_snippet, trim_trims, trims_is}
use Rattle.gabc_patterns.proofs.LongestMunchByCharacter.{viable_from, snippet_to, snippet_from}
use Rattle.gabc_notes.specs.FoundAt.{AreThoseFound}
use Rattle.gabc_notes.proofs.FoundOnce.{same_finding, found_once}
use Rattle.gabc_notes.proofs.machine.LoopOverBody.{findings_append}
use Rattle.gabc_notes.proofs.items_of_text.ItemAtCharacter.{pushed}
use Rattle.gabc_notes.specs.Events.{finding_event}
use Rattle.gabc_notes.specs.SnippetRead.{findings_of}
use Rattle.gabc_notes.specs.declared.stage.NoteEvent.{NoteEvent}
use Rattle.gabc_notes.specs.declared.stage.NoteEvent.TheVariants.{Kept}
use Rattle.gabc_nabc.specs.Table.{nabc}
use Rattle.gabc_nabc.specs.Names.{is_known}
use Rattle.gabc_nabc.specs.Events.{is_character, is_end, has_end_after, has_end, kept_of, begins_code, is_code, last_of, before_last, joins, takes_code, first_after, first_of, is_missing, end_events, character_events, events_at, nabc_events_after}
use Rattle.gabc_nabc.specs.NabcRead.{IsKeptOf, EndsUnknownCode, IsFound, IsFoundAfter, AreFound, IsUnfinished, IsRead, IsNabcRead}
use Rattle.gabc_nabc.specs.SnippetRead.{before_end_after, before_end, from_end, kept_before, ending_past, IsComputed}
use Rattle.gabc_notes.specs.declared.snippet_read.SnippetRead.{SnippetRead}
use Rattle.gabc_nabc.proofs.grammar.LawsOfEvents.{silent}
use Rattle.gabc_nabc.proofs.order.FindingsAreInOrder.{cut_quiet}
use Rattle.gabc_nabc.proofs.glyphs.CodesAreTwoLetters.{letters_spell}
use Rattle.gabc_nabc.proofs.machine.TextWithACharacterMore.{last_is, before_last_is, end_more}

-- ---- codes without a name

first_is : (before : List ℕ) (a : ℕ) → first_of (before ++ a ∷ []) ≡ cond (takes_code before && begins_code a) (Some a) None
first_is before a = ap (λ (t : List ℕ). first_after (before_last (before ++ a ∷ [])) t) (last_is before a) ∙ ap (λ (t : List ℕ). cond (takes_code t && begins_code a) (Some a) None) (before_last_is before a)

one_of_one : (d e : ℕ) → ((e == d) || false) ≡ true → e ≡ d
one_of_one d e h = grind arith

begins_to : (before : List ℕ) → takes_code before ≡ true → IsSnippet nabc before ⊎ ((joined : List ℕ) × (before ≡ joined ++ 33 ∷ []))
begins_to before e = go (is_snippet nabc before) refl e
  where
    ends : (joins before) ≡ true → (joined : List ℕ) × (before ≡ joined ++ 33 ∷ [])
    ends f = elim (pushed before) [
      | inl g ↦ absurd (let h = sym f ∙ ap joins g in cc)
      | inr h ↦ (
        h.0,
        h.2 ∙ ap (λ (d : ℕ). h.0 ++ d ∷ []) (one_of_one 33 h.1 (sym (ap (is_in 33) (ap last_of h.2 ∙ last_is h.0 h.1)) ∙ f)),
      )
    ]

    go : (b : Bool) → is_snippet nabc before ≡ b → (b || joins before) ≡ true → IsSnippet nabc before ⊎ ((joined : List ℕ) × (before ≡ joined ++ 33 ∷ []))
    go b f g = grind (arith, snippet_from, ends)

begins_from : (before : List ℕ) → IsSnippet nabc before ⊎ ((joined : List ℕ) × (before ≡ joined ++ 33 ∷ [])) → takes_code before ≡ true
begins_from before h = grind (arith, snippet_to, last_is, or-true)

missing_to : (kept : List ℕ) (c : ℕ) → is_missing (first_of kept) c ≡ true → EndsUnknownCode kept c
missing_to kept c e = elim (pushed kept) [
  | inl f ↦ absurd (let g = sym e ∙ ap (λ (t : List ℕ). is_missing (first_of t) c) f in cc)
  | inr h ↦ at_last h.0 h.1 h.2 (takes_code h.0 && begins_code h.1) refl (sym (ap (λ (o : Option ℕ). is_missing o c) (ap first_of h.2 ∙ first_is h.0 h.1)) ∙ e)
]
  where
    at_last : (before : List ℕ) (a : ℕ) → kept ≡ before ++ a ∷ [] → (b : Bool) → (takes_code before && begins_code a) ≡ b → is_missing (cond b (Some a) None) c ≡ true → EndsUnknownCode kept c
    at_last before a f false g h = absurd (cc)
    at_last before a f true g h =
        let is = and_parts (is_code a c) (not (is_known a c)) h in
        record {
          before = before;
          first = a;
          cut = f;
          begins = begins_to before (and_parts (takes_code before) (begins_code a) g).0;
          is_code = (letters_spell a c).0 is.0;
          unknown = not-true (is_known a c) is.1;
        }

missing_from : (kept : List ℕ) (c : ℕ) → EndsUnknownCode kept c → is_missing (first_of kept) c ≡ true
missing_from kept c h =
    let is : is_code h.first c ≡ true = (letters_spell h.first c).1 h.is_code in
    let begins : begins_code h.first ≡ true = (and_parts (begins_code h.first) _ is).0 in
    let takes : takes_code h.before ≡ true = begins_from h.before h.begins in
    ap (λ (o : Option ℕ). is_missing o c)
    (ap first_of h.cut ∙ (first_is h.before h.first ∙ (ap (λ (b : Bool). cond (b && begins_code h.first) (Some h.first) None) takes ∙ ap (λ (b : Bool). cond b (Some h.first) None) begins)))
    ∙ (ap (λ (b : Bool). b && not (is_known h.first c)) is ∙ ap not h.unknown)

-- ---- what is found at a character

pub kept_is : (t kept : List ℕ) → IsKeptOf t kept → kept ≡ kept_of t
kept_is t kept h = keeps_is nabc refl [] _ kept h

pub kept_keeps : (t : List ℕ) → IsKeptOf t (kept_of t)
kept_keeps t = keep_keeps nabc refl [] _

found_only : (kept : List ℕ) (c : ℕ) (found : Code) → IsFound kept c found
    → ((found ≡ E3) × (¬ IsViable nabc (kept ++ c ∷ []))) ⊎ ((found ≡ W7) × IsViable nabc (kept ++ c ∷ []) × EndsUnknownCode kept c)
found_only kept c found h = grind arith

-- what the events at a character report
pub found_here : (t : List ℕ) (x : Char) → has_end t ≡ false → is_end t x.c ≡ false → AreThoseFound (IsFoundAfter t x) (findings_of (events_at t x))
found_here t x running no_mark =
    subst (λ (es : List NoteEvent). AreThoseFound (IsFoundAfter t x) (findings_of es)) (sym same) (at_character (is_character t x.c) refl)
  where
    same : events_at t x ≡ cond (is_character t x.c) (character_events (kept_of t) x) []
    same = cc

    named : is_viable nabc (kept_of t ++ x.c ∷ []) ≡ true → is_missing (first_of (kept_of t)) x.c ≡ false → (found : Code) (kept : List ℕ) → IsKeptOf t kept → IsFound kept x.c found → ⊥
    named f g found kept k h = grind (arith, found_only, kept_is, viable_from, missing_from)

    at_code : is_character t x.c ≡ true → is_viable nabc (kept_of t ++ x.c ∷ []) ≡ true → (b : Bool) → is_missing (first_of (kept_of t)) x.c ≡ b
        → AreThoseFound (IsFoundAfter t x) (findings_of (Kept x ∷ cond b (finding_event x.place W7 ∷ []) []))
    at_code e f true g = inl (record { place = x.place; code = W7 }, (refl, e, (kept_of t, kept_keeps t, (viable_from nabc refl (kept_of t ++ x.c ∷ []) f, missing_to (kept_of t) x.c g))), refl)
    at_code e f false g = inr ((λ found h. named f g found.code h.2.0 h.2.1 h.2.2), refl)

    at_viable : is_character t x.c ≡ true → (b : Bool) → is_viable nabc (kept_of t ++ x.c ∷ []) ≡ b
        → AreThoseFound (IsFoundAfter t x) (findings_of (cond b (Kept x ∷ cond (is_missing (first_of (kept_of t)) x.c) (finding_event x.place W7 ∷ []) []) (finding_event x.place E3 ∷ [])))
    at_viable e true f = at_code e f (is_missing (first_of (kept_of t)) x.c) refl
    at_viable e false f = inl (record { place = x.place; code = E3 }, (refl, e, (kept_of t, kept_keeps t, not_viable nabc refl (kept_of t ++ x.c ∷ []) f)), refl)

    at_character : (b : Bool) → is_character t x.c ≡ b → AreThoseFound (IsFoundAfter t x) (findings_of (cond b (character_events (kept_of t) x) []))
    at_character b e = grind (arith, at_viable)

-- what the events at a mark report
pub unfinished_at : (k : List ℕ) (x : Char) → AreThoseFound (IsUnfinished k x.place) (findings_of (end_events k x))
unfinished_at k x = grind (arith, snippet_from, no_snippet)

pub unfinished_only : (k : List ℕ) (x : Char) (fs : List Finding) → AreThoseFound (IsUnfinished k x.place) fs → fs ≡ findings_of (end_events k x)
unfinished_only k x fs h = found_once (IsUnfinished k x.place) (λ f g u v. u.0 ∙ sym v.0) fs (findings_of (end_events k x)) h (unfinished_at k x)

-- ---- nothing else is so found

pub one_code : (t : List ℕ) (x : Char) (f g : Finding) → IsFoundAfter t x f → IsFoundAfter t x g → f ≡ g
one_code t x f g h k = grind (arith, same_finding, found_only, kept_is)

one_found : (t : List ℕ) (xs : List Char) (fs gs : List Finding) → AreFound t xs fs → AreFound t xs gs → fs ≡ gs
one_found t [] fs gs h k = h ∙ sym k
one_found t (x ∷ xs) fs gs (a, b, e, here, later) (c, d, f, there, more) =
    let p = found_once (IsFoundAfter t x) (one_code t x) a c here there in
    let q = one_found (t ++ x.c ∷ []) xs b d later more in
    e ∙ (ap (λ (u : List Finding). u ++ b) p ∙ (ap (λ (u : List Finding). c ++ u) q ∙ sym f))

-- ---- the snippet and what follows it

-- what is found at the mark with which the rest begins
endings : List ℕ → List ℕ → Place → List Finding
endings t [] p = []
endings t (c ∷ rest) p = findings_of (end_events (kept_of t) (record { c = c; place = p }))

-- the rest begins with a mark that ends the text
StopsAt : List ℕ → List ℕ → Type 0
StopsAt t [] = Unit {0}
StopsAt t (c ∷ rest) = is_end t c ≡ true

-- The characters cs after the text t, up to the mark that ends the snippet.
record Split (t cs : List ℕ) (at : Place) : Type 0 where
  before : List ℕ
  rest : List ℕ
  found : List Finding
  is_before : before_end_after t cs ≡ before
  cut : cs ≡ before ++ rest
  unended : has_end (t ++ before) ≡ false
  finds : AreFound t (placed_characters_from at before) found
  all : findings_of (concat_of (nabc_events_after t (placed_characters_from at cs))) ≡ found ++ endings (t ++ before) rest (place_past at before)
  mark : StopsAt (t ++ before) rest

split : (t cs : List ℕ) (at : Place) → has_end t ≡ false → Split t cs at
unfolding endings StopsAt
split t [] at running = grind (arith, append-nil, cut_quiet)
split t (c ∷ cs) at running = go (is_end t c) refl (λ r. split (t ++ c ∷ []) cs (next_place at c) r)
  where
    go : (b : Bool) → is_end t c ≡ b → (has_end (t ++ c ∷ []) ≡ false → Split (t ++ c ∷ []) cs (next_place at c)) → Split t (c ∷ cs) at
    go true e F =
        let x : Char = record { c = c; place = at } in
        let over : has_end (t ++ c ∷ []) ≡ true = end_more t c ∙ (ap (λ (b : Bool). b || is_end t c) running ∙ e) in
        let events : events_at t x ≡ end_events (kept_of t) x =
        ap (λ (b : Bool). cond b [] (cond (is_end t c) (end_events (kept_of t) x) (cond (is_character t c) (character_events (kept_of t) x) []))) running
        ∙ ap (λ (b : Bool). cond b (end_events (kept_of t) x) (cond (is_character t c) (character_events (kept_of t) x) [])) e in
        record {
          before = [];
          rest = c ∷ cs;
          found = [];
          is_before = ap (λ (b : Bool). cond b [] (c ∷ before_end_after (t ++ c ∷ []) cs)) e;
          cut = refl;
          unended = ap has_end (append-nil t) ∙ running;
          finds = refl;
          all = ap (λ (l : List NoteEvent). findings_of (events_at t x ++ l)) (silent (t ++ c ∷ []) (placed_characters_from (next_place at c) cs) over)
              ∙ (ap findings_of (append-nil (events_at t x) ∙ events) ∙ ap (λ (u : List ℕ). findings_of (end_events (kept_of u) x)) (sym (append-nil t)));
          mark = ap (λ (u : List ℕ). is_end u c) (append-nil t) ∙ e;
        }
    go false e F =
        let x : Char = record { c = c; place = at } in
        let s = F (end_more t c ∙ (ap (λ (b : Bool). b || is_end t c) running ∙ e)) in
        let joined : (t ++ c ∷ []) ++ s.before ≡ t ++ c ∷ s.before = append_assoc t (c ∷ []) s.before in
        record {
          before = c ∷ s.before;
          rest = s.rest;
          found = findings_of (events_at t x) ++ s.found;
          is_before = ap (λ (b : Bool). cond b [] (c ∷ before_end_after (t ++ c ∷ []) cs)) e ∙ ap (λ (u : List ℕ). c ∷ u) s.is_before;
          cut = ap (λ (u : List ℕ). c ∷ u) s.cut;
          unended = ap has_end (sym joined) ∙ s.unended;
          finds = (findings_of (events_at t x), s.found, refl, found_here t x running e, s.finds);
          all = findings_append (events_at t x) (concat_of (nabc_events_after (t ++ c ∷ []) (placed_characters_from (next_place at c) cs)))
              ∙ (ap (λ (u : List Finding). findings_of (events_at t x) ++ u) s.all
              ∙ (sym (append_assoc (findings_of (events_at t x)) s.found (endings ((t ++ c ∷ []) ++ s.before) s.rest (place_past (next_place at c) s.before)))
              ∙ ap (λ (u : List ℕ). (findings_of (events_at t x) ++ s.found) ++ endings u s.rest (place_past (next_place at c) s.before)) joined));
          mark = subst (λ (u : List ℕ). StopsAt u s.rest) joined s.mark;
        }

-- a text without an end, by its characters
none_ends : (t front before after : List ℕ) (c : ℕ) → has_end_after t front ≡ false → front ≡ before ++ c ∷ after → is_end (t ++ before) c ≡ false
none_ends t [] [] after c e f = absurd (cc)
none_ends t [] (d ∷ before) after c e f = absurd (cc)
none_ends t (d ∷ front) [] after c e f = grind (arith, append-nil, or_parts)
none_ends t (d ∷ front) (b ∷ before) after c e f =
    let g : b ≡ d = cc in
    let h : front ≡ before ++ c ∷ after = cc in
    ap (λ (u : List ℕ). is_end u c) (sym (append_assoc t (b ∷ []) before)) ∙ (ap (λ (a : ℕ). is_end ((t ++ a ∷ []) ++ before) c) g
    ∙ none_ends (t ++ d ∷ []) front before after c (or_parts (is_end t d) (has_end_after (t ++ d ∷ []) front) e).1 h)

none_end : (t front : List ℕ) → ((before after : List ℕ) (c : ℕ) → front ≡ before ++ c ∷ after → is_end (t ++ before) c ≡ false) → has_end_after t front ≡ false
none_end t [] h = refl
none_end t (d ∷ front) h =
    ap (λ (b : Bool). b || has_end_after (t ++ d ∷ []) front) (ap (λ (u : List ℕ). is_end u d) (sym (append-nil t)) ∙ h [] front d refl)
    ∙ none_end (t ++ d ∷ []) front (λ before after c e. ap (λ (u : List ℕ). is_end u c) (append_assoc t (d ∷ []) before) ∙ h (d ∷ before) after c (ap (λ (u : List ℕ). d ∷ u) e))

-- what stands before the first mark
before_is : (t front rest : List ℕ) → has_end_after t front ≡ false → StopsAt (t ++ front) rest → before_end_after t (front ++ rest) ≡ front
unfolding StopsAt
before_is t [] [] e m = refl
before_is t [] (c ∷ rest) e m = ap (λ (b : Bool). cond b [] (c ∷ before_end_after (t ++ c ∷ []) rest)) (ap (λ (u : List ℕ). is_end u c) (sym (append-nil t)) ∙ m)
before_is t (c ∷ front) rest e m =
    let f = or_parts (is_end t c) (has_end_after (t ++ c ∷ []) front) e in
    ap (λ (b : Bool). cond b [] (c ∷ before_end_after (t ++ c ∷ []) (front ++ rest))) f.0
    ∙ ap (λ (u : List ℕ). c ∷ u) (before_is (t ++ c ∷ []) front rest f.1 (subst (λ (u : List ℕ). StopsAt u rest) (sym (append_assoc t (c ∷ []) front)) m))

rest_is : (t front rest : List ℕ) → before_end t ≡ front → t ≡ front ++ rest → from_end t ≡ rest
rest_is t front rest e f = grind (arith, drop-append_seam)

-- ---- both ways

pub read_by_relations : (at : Place) (t : List ℕ) (r : SnippetRead) → IsComputed at t r → IsNabcRead at t r
unfolding endings StopsAt
read_by_relations at t r h =
    let s = split [] t at refl in
    let rest = rest_is t s.before s.rest s.is_before s.cut in
    record {
      front = s.before;
      rest = s.rest;
      cut = s.cut;
      unended = λ before after c. none_ends [] s.before before after c s.unended;
      kept = kept_of s.before;
      keeps = kept_keeps s.before;
      found = s.found;
      finds = s.finds;
      is_read = go s.before s.found s.rest s.mark
          (h.kept_is ∙ (ap (λ (u : List ℕ). encodes (kept_before u (from_end t))) s.is_before ∙ ap (λ (u : List ℕ). encodes (kept_before s.before u)) rest))
          (h.findings_are ∙ s.all)
          (h.how_is ∙ (ap (λ (u : List ℕ). ending_past u (from_end t)) s.is_before ∙ ap (ending_past s.before) rest));
    }
  where
    go : (front : List ℕ) (found : List Finding) (rest : List ℕ) → StopsAt front rest → string_bytes r.kept ≡ encodes (kept_before front rest)
        → r.findings ≡ found ++ endings front rest (place_past at front) → r.how ≡ ending_past front rest → IsRead at front (kept_of front) found rest r
    go front found [] m k f w = (k, f ∙ append-nil found, w)
    go front found (c ∷ rest) m k f w = record {
      mark = m;
      whole = trim nabc (kept_of front);
      trims = trim_trims nabc refl (kept_of front);
      last = findings_of (end_events (kept_of front) (record { c = c; place = place_past at front }));
      unfinished = unfinished_at (kept_of front) (record { c = c; place = place_past at front });
      kept_is = k;
      findings_are = f;
      how_is = w;
    }

-- what stands before the mark is what is read
pub front_is : (at : Place) (t : List ℕ) (r : SnippetRead) (h : IsNabcRead at t r) → before_end t ≡ h.front
unfolding StopsAt
front_is at t r h = grind (arith, before_is, none_end)

pub relations_are_computed : (at : Place) (t : List ℕ) (r : SnippetRead) → IsNabcRead at t r → IsComputed at t r
unfolding endings StopsAt
relations_are_computed at t r h = go h.rest h.cut h.is_read
  where
    kept : h.kept ≡ kept_of h.front
    kept = kept_is h.front h.kept h.keeps

    at_end : (rest : List ℕ) → IsRead at h.front h.kept h.found rest r → r.findings ≡ h.found ++ endings h.front rest (place_past at h.front)
    at_end [] i = i.1 ∙ sym (append-nil h.found)
    at_end (c ∷ rest) i =
        let x : Char = record { c = c; place = place_past at h.front } in
        i.findings_are
        ∙ ap (λ (u : List Finding). h.found ++ u)
        (unfinished_only h.kept x i.last i.unfinished
        ∙ ap (λ (u : List ℕ). findings_of (end_events u x)) kept)

    text : (rest : List ℕ) → IsRead at h.front h.kept h.found rest r → string_bytes r.kept ≡ encodes (kept_before h.front rest)
    text [] i = i.0 ∙ ap encodes kept
    text (c ∷ rest) i = i.kept_is ∙ ap encodes (trims_is nabc refl h.kept i.whole i.trims ∙ ap (trim nabc) kept)

    how : (rest : List ℕ) → IsRead at h.front h.kept h.found rest r → r.how ≡ ending_past h.front rest
    how rest i = grind arith

    go : (rest : List ℕ) → t ≡ h.front ++ rest → IsRead at h.front h.kept h.found rest r → IsComputed at t r
    go rest cut i =
        let front : before_end t ≡ h.front = front_is at t r h in
        let later : from_end t ≡ rest = rest_is t h.front rest front cut in
        let s = split [] t at refl in
        let same : s.before ≡ h.front = sym s.is_before ∙ front in
        let after : s.rest ≡ rest = sym (rest_is t s.before s.rest s.is_before s.cut) ∙ later in
        let found : h.found ≡ s.found =
        one_found [] (placed_characters_from at h.front) h.found s.found h.finds (subst (λ (u : List ℕ). AreFound [] (placed_characters_from at u) s.found) same s.finds) in
        record {
          kept_is = text rest i ∙ (ap (λ (u : List ℕ). encodes (kept_before u rest)) (sym front) ∙ ap (λ (u : List ℕ). encodes (kept_before (before_end t) u)) (sym later));
          findings_are = at_end rest i ∙ (ap (λ (u : List Finding). u ++ endings h.front rest (place_past at h.front)) found
              ∙ (ap (λ (u : List ℕ). s.found ++ endings u rest (place_past at u)) (sym same) ∙ (ap (λ (u : List ℕ). s.found ++ endings s.before u (place_past at s.before)) (sym after) ∙ sym s.all)));
          how_is = how rest i ∙ (ap (λ (u : List ℕ). ending_past u rest) (sym front) ∙ ap (ending_past (before_end t)) (sym later));
        }
