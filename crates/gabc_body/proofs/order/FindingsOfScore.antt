-- The findings of a score stand in order.
use Rattle.std.proofs.Common.{◌≡◌, ℕ, ◌+◌, ◌<◌, ◌≤◌, ◌^◌, nat_lt, List, [], ◌∷◌, ◌++◌, Bool, cond, refl, sym, ap, subst, ◌∙◌, append_assoc, append-nil, length, map, take, get_or, arith, inl, Option, Some, None, Result, Ok, Err, take-append-drop}
use Rattle.std.proofs.lemmas.List.{take_more}
use Rattle.std.specs.Option.{option_map}
use Rattle.gabc_places.specs.declared.place.Place.{Place}
use Rattle.gabc_places.specs.declared.place.Char.{Char}
use Rattle.gabc_places.specs.declared.code.Code.{Code}
use Rattle.gabc_places.specs.declared.code.Code.TheVariants.{W9, W11}
use Rattle.gabc_places.specs.declared.code.Finding.{Finding}
use Rattle.gabc_places.specs.declared.code.Fault.{Fault}
use Rattle.gabc_places.specs.declared.limits.Limits.{Limits}
use Rattle.gabc_places.specs.Findings.{ComesBefore, AreInOrder, IsUpTo, LieBetween}
use Rattle.gabc_places.specs.StageLaw.{concat_of}
use Rattle.gabc_places.specs.Place.{place_after, placed_characters_after, next_place, place_past, placed_characters_from}
use Rattle.gabc_places.specs.PlacesInOrder.{IsEarlier}
use Rattle.gabc_headers.specs.declared.heads.Heads.{Heads}
use Rattle.gabc_headers.specs.declared.heads.HeadFault.{HeadFault}
use Rattle.gabc_headers.specs.Book.{nabc_lines_of, macros_of}
use Rattle.gabc_headers.specs.Heads.{head_len, heads_of, findings_of as heads_found}
use Rattle.gabc_notes.specs.Events as notes
use Rattle.gabc_nabc.specs.Events as nabc
use Rattle.gabc_body.specs.declared.events.BodyEvent.{BodyEvent}
use Rattle.gabc_body.specs.declared.body_result.BodyResult.{BodyResult}
use Rattle.gabc_body.specs.declared.ending.InputEnding.{InputEnding}
use Rattle.gabc_body.specs.declared.ending.InputEnding.TheVariants.{Whole, Broken, At}
use Rattle.gabc_body.specs.Events.{texts_by_definition, text_from, snippet_from}
use Rattle.gabc_body.specs.NoteBeforeClef.{with_first_each, score_events}
use Rattle.gabc_body.specs.Units.{Closes, Cutting, IsCutFrom, EndsAfter, whole, cutting_of, events_of_parts, first_text, BeginsWithLf, events_of_cutting}
use Rattle.gabc_body.specs.Body.{events_onto, findings_of, EventsToStop, events_to_stop, stopped_events, code_at, result_by, result_at_end, result_by_fault, result_whole, result_stopped, found_at_end, has_last, fault_of_end, cut_of}
use Rattle.gabc_body.specs.Score.{heads_text, after_heads}
use Rattle.gabc_body.specs.witness.EmittedScore.{emitted_score, emitted_score_by}
use Rattle.gabc_body.proofs.units.BodyHasOneCutting.{one, body_emits_all}
use Rattle.gabc_places.proofs.PlacesOfAText.{placed_after, after_joined, place_append}
use Rattle.gabc_places.proofs.PlacesInOrder.{before_then, before_next, up_to_past}
use Rattle.gabc_body.proofs.order.FindingsOneAfterAnother.{AllFrom, AllUpTo, AllBefore, from_earlier, order_append, order_then, order_prefix, all_before, lie_up_to, no_notes, all_prefix, all_append}
use Rattle.gabc_body.proofs.order.FindingsOfParts.{found, found_append, found_onto, TextsLie, SnippetsLie, LieLast}
use Rattle.gabc_body.proofs.order.FirstNotesOfParts.{after_comment}
use Rattle.gabc_body.proofs.order.FindingsOfCutParts.{Short, short_past, pieces_lie}
use Rattle.gabc_body.proofs.emitted.EventsOfSyllableParts.{onto_append}

-- ---- the body

record After (prefix : List Char) (ys : List Char) (p : Place) (cs : List ℕ) : Type 0 where
  before : List ℕ
  rest : List ℕ
  all : cs ≡ before ++ rest
  placed : ys ≡ placed_characters_from (place_past p before) rest

part_after_character : (prefix ys : List Char) (p : Place) (cs : List ℕ) → placed_characters_from p cs ≡ prefix ++ ys → After prefix ys p cs
part_after_character [] ys p cs e = record { before = []; rest = cs; all = refl; placed = sym e }
part_after_character (x ∷ prefix) ys p [] e = absurd (cc)
part_after_character (x ∷ prefix) ys p (c ∷ cs) e =
    let f : placed_characters_from (next_place p c) cs ≡ prefix ++ ys = cc in
    let b = part_after_character prefix ys (next_place p c) cs f in
    record { before = c ∷ b.before; rest = b.rest; all = ap (λ ds. c ∷ ds) b.all; placed = b.placed }

-- the first text begins at the LF
first_begins : (ys : List Char) (p : Place) (cs : List ℕ) → ys ≡ placed_characters_from p cs → BeginsWithLf ys → first_text texts_by_definition ys ≡ text_from texts_by_definition p ys
first_begins [] p cs e k = elim k [ ]
first_begins (y ∷ ys) p [] e k = absurd (cc)
first_begins (y ∷ ys) p (c ∷ cs) e k = grind arith

module _ (texts : TextsLie)
    (gabc : (lines macros : ℕ) → SnippetsLie (λ xs. notes.note_events (nat_lt 0 lines) macros xs)) (marks : SnippetsLie (λ xs. nabc.nabc_events xs))
    (closes : (lines macros line : ℕ) (opened : Place) (prefix : List Char) (x : Char) (rest : List Char) → EndsAfter lines (snippet_from lines macros line opened (prefix ++ x ∷ rest)) prefix Closes → x.c ≡ 41) where
  parts_lie : (lines macros : ℕ) (p : Place) (cs : List ℕ) (comment : List Char) (parts : Option Cutting) → Short p cs
      → IsCutFrom texts_by_definition lines macros (placed_characters_from p cs) comment parts
      → LieLast p (place_past p cs) (found (concat_of (with_first_each [] (placed_characters_from p cs) (map (λ (x : Char). []) comment ++ events_of_parts texts_by_definition lines macros parts))))
  parts_lie lines macros p cs comment None short h =
      rw (h.0 ∙ sym (append-nil comment), after_comment comment [] [] (events_of_parts texts_by_definition lines macros None)) (record { order = tt; from = tt; before = tt })
  parts_lie lines macros p cs comment (Some d) short h =
      let b = part_after_character comment (whole d.pieces d.last) p cs h.0 in
      let k = pieces_lie lines macros texts (gabc lines macros) marks (closes lines macros) d.pieces d.last (first_text texts_by_definition (whole d.pieces d.last)) (place_past p b.before) b.rest b.placed
      (short_past p b.before b.rest (subst (Short p) b.all short))
      (inl (first_begins (whole d.pieces d.last) (place_past p b.before) b.rest b.placed h.1.1.0)) h.1.1.1 [] in
      rw (h.0, after_comment comment (whole d.pieces d.last) [] (events_of_parts texts_by_definition lines macros (Some d)))
      (subst (λ e. LieLast p e (found (concat_of (with_first_each [] (whole d.pieces d.last) (events_of_cutting texts_by_definition lines macros (first_text texts_by_definition (whole d.pieces d.last)) d.pieces d.last)))))
      (sym (place_append p b.before b.rest) ∙ ap (place_past p) (sym b.all))
      (record { order = k.order; from = from_earlier p (place_past p b.before) _ (up_to_past p b.before) k.from; before = k.before }))

  body_lies : (lines macros : ℕ) (p : Place) (cs : List ℕ) → Short p cs → LieLast p (place_past p cs) (found (concat_of (score_events lines macros (placed_characters_from p cs))))
  body_lies lines macros p cs short =
      let o = one texts_by_definition lines macros (placed_characters_from p cs) in
      subst (λ ls. LieLast p (place_past p cs) (found (concat_of (with_first_each [] (placed_characters_from p cs) ls)))) (sym (body_emits_all texts_by_definition lines macros (placed_characters_from p cs) o.0 o.1))
      (parts_lie lines macros p cs o.0.comment (option_map (cutting_of lines) o.0.units) short o.1)

-- ---- the stop

-- what was emitted before the stop is a prefix of all that is emitted; without a fault, it is all
pub record IsFront (before : List BodyEvent) (ts : List BodyEvent) (r : EventsToStop) : Type 0 where
  pub prefix : List BodyEvent
  pub more : List BodyEvent
  pub all : ts ≡ prefix ++ more
  pub emitted : r.before ≡ events_onto prefix before
  pub last : r.fault ≡ None → events_onto r.last r.before ≡ events_onto ts before

pub reached_prefix : (limits : Limits) (head : ℕ) (before : List BodyEvent) (xs : List Char) (lists : List (List BodyEvent)) → IsFront before (concat_of lists) (events_to_stop limits head before xs lists)
reached_prefix limits head before [] lists = record { prefix = []; more = concat_of lists; all = refl; emitted = refl; last = λ e. refl }
reached_prefix limits head before (x ∷ xs) [] = record { prefix = []; more = []; all = refl; emitted = refl; last = λ e. refl }
reached_prefix limits head before (x ∷ xs) (now ∷ lists) = by (code_at limits head (events_onto now before)) (reached_prefix limits head (events_onto now before) xs lists)
  where
    by : (o : Option Code) → IsFront (events_onto now before) (concat_of lists) (events_to_stop limits head (events_onto now before) xs lists) → IsFront before (now ++ concat_of lists) (stopped_events o x.place before (events_to_stop limits head (events_onto now before) xs lists))
    by (Some code) r = record { prefix = []; more = now ++ concat_of lists; all = refl; emitted = refl; last = λ e. absurd (cc) }
    by None r = record {
      prefix = now ++ r.prefix;
      more = r.more;
      all = ap (λ ts. now ++ ts) r.all ∙ sym (append_assoc now r.prefix r.more);
      emitted = r.emitted ∙ sym (onto_append now r.prefix before);
      last = λ e. r.last e ∙ sym (onto_append now (concat_of lists) before);
    }

-- what holds of a body that stopped somewhere, and of the whole body, holds of each that is read
module _ (P : BodyResult → Type 0) (limits : Limits) (head : ℕ) (fs : List Finding) (at : Place) (ts : List BodyEvent)
    (stopped : (prefix more before : List BodyEvent) (fault : Option Fault) → ts ≡ prefix ++ more → before ≡ events_onto prefix [] → P (result_stopped fs before fault))
    (complete : (all : List BodyEvent) → all ≡ events_onto ts [] → P (result_whole fs at all)) where
  pub read_so : (ending : InputEnding) (r : EventsToStop) → IsFront [] ts r → P (result_by limits head fs at ending r.before r.last r.fault)
  read_so ending r i = by r.fault i.last
    where
      ended : (o : Option Fault) → events_onto r.last r.before ≡ events_onto ts [] → P (result_by_fault fs at r.before (events_onto r.last r.before) o)
      ended (Some fault) e = stopped i.prefix i.more r.before (Some fault) i.all i.emitted
      ended None e = complete (events_onto r.last r.before) e

      at_end : (how : InputEnding) → events_onto r.last r.before ≡ events_onto ts [] → P (result_at_end limits head fs at how r.before (events_onto r.last r.before))
      at_end Whole e = ended (fault_of_end limits head at (events_onto r.last r.before) (cut_of (events_onto r.last r.before))) e
      at_end Broken e = stopped i.prefix i.more r.before None i.all i.emitted
      at_end (At fault) e = stopped i.prefix i.more r.before (Some fault) i.all i.emitted

      by : (o : Option Fault) → (o ≡ None → events_onto r.last r.before ≡ events_onto ts []) → P (result_by limits head fs at ending r.before r.last o)
      by (Some fault) e = stopped i.prefix i.more r.before (Some fault) i.all i.emitted
      by None e = at_end ending (e refl)

-- ---- the end

eu_last : (p : Place) (f : Finding) → ComesBefore f (no_notes p) → ComesBefore f (record { place = p; code = W11 })
eu_last p f h = grind arith

eu_all : (p : Place) (fs : List Finding) → AllBefore (no_notes p) fs → AllBefore (record { place = p; code = W11 }) fs
eu_all p [] h = tt
eu_all p (f ∷ fs) h = (eu_last p f h.0, eu_all p fs h.1)

with_end : (at : Place) (fs : List Finding) (a b : Bool) → AreInOrder fs → AllBefore (no_notes at) fs
    → AreInOrder (fs ++ (cond a (record { place = at; code = W9 } ∷ []) [] ++ cond b (record { place = at; code = W11 } ∷ []) []))
with_end at fs a b h k = grind (arith, order_then, eu_all, append-nil)

module _ (limits : Limits) (head : ℕ) (fs : List Finding) (at q p : Place) (ts : List BodyEvent)
    (order : AreInOrder fs) (up : AllUpTo q fs) (next : IsEarlier q p) (end : IsUpTo p at) (all : LieLast p at (found ts)) where
  stopped_sorted : (prefix more before : List BodyEvent) (fault : Option Fault) → ts ≡ prefix ++ more → before ≡ events_onto prefix [] → AreInOrder (result_stopped fs before fault).findings
  stopped_sorted prefix more before fault e f =
      let same : found ts ≡ found prefix ++ found more = ap found e ∙ found_append prefix more in
      subst (λ gs. AreInOrder (fs ++ gs)) (sym (ap findings_of f ∙ found_onto prefix []))
      (order_append fs (found prefix) q p order up next (order_prefix (found prefix) (found more) (subst AreInOrder same all.order)) (all_prefix (λ f. IsUpTo p f.place) (found prefix) (found more) (subst (AllFrom p) same all.from)))

  whole_sorted : (emitted : List BodyEvent) → emitted ≡ events_onto ts [] → AreInOrder (result_whole fs at emitted).findings
  whole_sorted emitted e =
      let same : findings_of emitted ≡ found ts = ap findings_of e ∙ found_onto ts [] in
      subst (λ gs. AreInOrder (fs ++ (gs ++ found_at_end at emitted))) (sym same)
      (subst AreInOrder (append_assoc fs (found ts) (found_at_end at emitted))
      (with_end at (fs ++ found ts) (has_last emitted) _ (order_append fs (found ts) q p order up next all.order all.from)
      (all_append (λ f. ComesBefore f (no_notes at)) fs (found ts) (all_before q (no_notes at) fs up (before_then q p at next end)) all.before)))

  read_sorted : (ending : InputEnding) (r : EventsToStop) → IsFront [] ts r → AreInOrder (result_by limits head fs at ending r.before r.last r.fault).findings
  read_sorted = read_so (λ w. AreInOrder w.findings) limits head fs at ts stopped_sorted whole_sorted

-- ---- the score

-- what the headers say of their findings
pub record HeadsLie : Type 0 where
  pub order : (limits : Limits) (t : List ℕ) → AreInOrder (heads_found (heads_of limits t))
  pub within : (limits : Limits) (t : List ℕ) (heads : Heads) → heads_of limits t ≡ Ok heads → LieBetween (place_after []) (place_after (take (head_len t) t)) heads.findings
  pub after : (limits : Limits) (t : List ℕ) (heads : Heads) → heads_of limits t ≡ Ok heads → head_len t + 2 ≤ length t

-- the body begins after the line `%%`
body_after : (t : List ℕ) → head_len t + 2 ≤ length t → IsEarlier (place_after (take (head_len t) t)) (place_after (heads_text t))
body_after t h =
    let c = get_or t (head_len t) 0 in
    let d = get_or t (head_len t + 1) 0 in
    let one : head_len t < length t = omega (arith, h) in
    let two : head_len t + 1 < length t = omega (arith, h) in
    let same : take (head_len t + 1 + 1) t ≡ (take (head_len t) t ++ c ∷ []) ++ d ∷ [] = take_more t (head_len t + 1) 0 two ∙ ap (λ g. g ++ d ∷ []) (take_more t (head_len t) 0 one) in
    let count : head_len t + 1 + 1 ≡ head_len t + 2 = omega arith in
    let all : heads_text t ≡ take (head_len t) t ++ (c ∷ d ∷ []) = ap (λ m. take m t) (sym count) ∙ same ∙ append_assoc (take (head_len t) t) (c ∷ []) (d ∷ []) in
    subst (IsEarlier (place_after (take (head_len t) t))) (after_joined (take (head_len t) t) (c ∷ d ∷ []) ∙ ap place_after (sym all))
    (before_then (place_after (take (head_len t) t)) (next_place (place_after (take (head_len t) t)) c) _ (before_next (place_after (take (head_len t) t)) c)
    (up_to_past (next_place (place_after (take (head_len t) t)) c) (d ∷ [])))

short_body : (t : List ℕ) → length t < 2 ^ 63 → Short (place_after (heads_text t)) (after_heads t)
short_body t h =
    subst (λ p. Short p (after_heads t)) (after_joined [] (heads_text t))
    (short_past (place_after []) (heads_text t) (after_heads t)
    (subst (Short (place_after [])) (sym (take-append-drop (head_len t + 2) t)) (record { here = omega (arith, h); begun = omega (arith, h) })))

module _ (texts : TextsLie) (heads : HeadsLie)
    (gabc : (lines macros : ℕ) → SnippetsLie (λ xs. notes.note_events (nat_lt 0 lines) macros xs)) (marks : SnippetsLie (λ xs. nabc.nabc_events xs))
    (closes : (lines macros line : ℕ) (opened : Place) (prefix : List Char) (x : Char) (rest : List Char) → EndsAfter lines (snippet_from lines macros line opened (prefix ++ x ∷ rest)) prefix Closes → x.c ≡ 41) where
  after_sorted : (limits : Limits) (ending : InputEnding) (t : List ℕ) (h : Heads) → length t < 2 ^ 63 → heads_of limits t ≡ Ok h → AreInOrder (emitted_score_by limits ending t (Ok h)).findings
  after_sorted limits ending t h short e =
      let xs : placed_characters_from (place_after (heads_text t)) (after_heads t) ≡ placed_characters_after (heads_text t) (after_heads t) = placed_after (heads_text t) (after_heads t) in
      let end : place_past (place_after (heads_text t)) (after_heads t) ≡ place_after t = after_joined (heads_text t) (after_heads t) ∙ ap place_after (take-append-drop (head_len t + 2) t) in
      let lists = score_events (nabc_lines_of h.book) (macros_of h.book) (placed_characters_after (heads_text t) (after_heads t)) in
      let all = body_lies texts gabc marks closes (nabc_lines_of h.book) (macros_of h.book) (place_after (heads_text t)) (after_heads t) (short_body t short) in
      read_sorted limits _ h.findings (place_after t) (place_after (take (head_len t) t)) (place_after (heads_text t)) (concat_of lists)
      (subst (λ r. AreInOrder (heads_found r)) e (heads.order limits t))
      (lie_up_to (place_after []) (place_after (take (head_len t) t)) h.findings (heads.within limits t h e))
      (body_after t (heads.after limits t h e))
      (subst (IsUpTo (place_after (heads_text t))) end (up_to_past (place_after (heads_text t)) (after_heads t)))
      (subst (λ p. LieLast (place_after (heads_text t)) p (found (concat_of lists))) end
      (subst (λ ys. LieLast (place_after (heads_text t)) (place_past (place_after (heads_text t)) (after_heads t)) (found (concat_of (score_events (nabc_lines_of h.book) (macros_of h.book) ys)))) xs all))
      ending _ (reached_prefix limits _ [] (placed_characters_after (heads_text t) (after_heads t)) lists)

  pub score_sorted : (limits : Limits) (ending : InputEnding) (t : List ℕ) → length t < 2 ^ 63 → AreInOrder (emitted_score limits ending t).findings
  score_sorted limits ending t short = by (heads_of limits t) refl
    where
      by : (r : Result Heads HeadFault) → heads_of limits t ≡ r → AreInOrder (emitted_score_by limits ending t r).findings
      by (Ok h) e = after_sorted limits ending t h short e
      by (Err stop) e = subst (λ r. AreInOrder (heads_found r)) e (heads.order limits t)
