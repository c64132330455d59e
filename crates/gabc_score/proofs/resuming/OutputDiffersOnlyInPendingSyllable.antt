-- What a stage gives does not depend on its pending syllable, but for that syllable itself.
use Rattle.std.proofs.Math.Bool.{and-false, or-false}
use Rattle.std.proofs.Common.{◌≡◌, ℕ, zero, suc, ◌-◌, ◌||◌, nat_lt, List, [], ◌∷◌, ◌++◌, map, length, take, Bool, true, false, cond, Option, Some, None, is_some, refl, sym, ap, ◌∙◌, subst, arith}
use Rattle.gabc_places.specs.declared.code.Code.{Code}
use Rattle.gabc_places.specs.declared.code.Fault.{Fault}
use Rattle.gabc_places.specs.declared.code.Finding.{Finding}
use Rattle.gabc_places.specs.declared.limits.Limits.{Limits}
use Rattle.gabc_places.specs.declared.place.Char.{Char}
use Rattle.gabc_places.specs.declared.place.Place.{Place}
use Rattle.gabc_places.specs.declared.place.Span.{Span}
use Rattle.gabc_places.specs.StageLaw.{concat_of, silence}
use Rattle.gabc_headers.specs.declared.head_event.HeadEvent.{HeadEvent}
use Rattle.gabc_headers.specs.declared.head_event.HeadEvent.TheVariants as head_event
use Rattle.gabc_text.specs.declared.text_event.TextPart.TheVariants as part
use Rattle.gabc_text.specs.declared.text_event.TextEnd.TheVariants as text_end
use Rattle.gabc_text.specs.declared.text_event.TextEvent.TheVariants as text
use Rattle.gabc_notes.specs.declared.item.ItemKind.{ItemKind}
use Rattle.gabc_notes.specs.declared.stage.NoteEnd.TheVariants as note_end
use Rattle.gabc_notes.specs.declared.stage.NoteEvent.TheVariants as note
use Rattle.gabc_body.specs.declared.events.BodyEvent.{BodyEvent}
use Rattle.gabc_body.specs.declared.events.BodyEvent.TheVariants as event
use Rattle.gabc_body.specs.Body.{has_text, fault_at, is_none}
use Rattle.gabc_score.specs.HeldAside.{IsSameOutput, AreSameOutputs, AreSameLists}
use Rattle.gabc_body.specs.NoteBeforeClef.{found_first}
use Rattle.gabc_body.specs.ScoreEvents.{ScoreOutput, Stop, Syllable, End, outputs_of, findings_now}
use Rattle.gabc_body.specs.Syllable.{UnplacedSyllable, PlacedSyllable}
use Rattle.gabc_body.specs.witness.BodyBuilder.{with_all, code_in, end_fault, end_findings}
use Rattle.gabc_body.specs.witness.Gatherer.{Gathered, first_past, with_event, with_syllable, with_no_notes, with_last}
use Rattle.gabc_score.specs.machine.HeldAside.{AreInputsAlike, AreMadeAlike, IsEquivalentAside}
use Rattle.gabc_score.specs.machine.ScoreStage.{HeldScore, placed_after, held_outputs, stop_outputs, point_outputs, with_held, score_past, end_outputs_by, end_outputs, left_by, body_left}

-- ---- which came first, a note or a clef

-- one that has come stays
kind_stays : (first : Option ItemKind) (line : ℕ) (span : Span) (kept : List ℕ) → is_some first ≡ true → first_past first line span kept ≡ first
kind_stays first line span kept e = grind (arith, and-false)

event_stays : (g : Gathered) (e : BodyEvent) → is_some g.first_kind ≡ true → (with_event g e).first_kind ≡ g.first_kind
event_stays g e h = grind (arith, kind_stays)

pub all_stay : (now : List BodyEvent) (g : Gathered) → is_some g.first_kind ≡ true → (with_all g now).first_kind ≡ g.first_kind
all_stay [] g h = refl
all_stay (e ∷ now) g h = let s = event_stays g e h in all_stay now (with_event g e) (ap (λ (k : Option ItemKind). is_some k) s ∙ h) ∙ s

kind_comes : (a b : Option ItemKind) (line : ℕ) (span : Span) (kept : List ℕ) → AreInputsAlike a b → AreInputsAlike (first_past a line span kept) (first_past b line span kept)
kind_comes a b line span kept h = grind (arith, kind_stays)

not_first : (was now : Option ItemKind) (p : Place) → is_some was ≡ true → found_first was now p ≡ []
not_first was now p e = grind arith

-- it does not depend on what was made
event_but : (e : BodyEvent) (g : Gathered) (ms : List UnplacedSyllable) → (ns : List UnplacedSyllable) × (with_event (record g { made = ms }) e ≡ record (with_event g e) { made = ns })
event_but (event.Text (text.Part part.WordStart)) g ms = (ms, refl)
event_but (event.Text (text.Ended text_end.Notes)) g ms = (ms, refl)
event_but (event.Notes line (note.Ended note_end.Close n)) g ms = (_, refl)
event_but _ g ms = (ms, refl)

kind_but : (now : List BodyEvent) (g : Gathered) (ms : List UnplacedSyllable) → (with_all (record g { made = ms }) now).first_kind ≡ (with_all g now).first_kind
kind_but [] g ms = refl
kind_but (e ∷ now) g ms = let b = event_but e g ms in ap (λ (h : Gathered). (with_all h now).first_kind) b.1 ∙ kind_but now (with_event g e) b.0

module _ (m n : UnplacedSyllable) where
  -- ---- outputs that are the same

  output_same : (o : ScoreOutput) → IsSameOutput m n o o
  output_same o = grind arith

  outputs_same : (os : List ScoreOutput) → AreSameOutputs m n os os
  outputs_same [] = tt
  outputs_same (o ∷ os) = (output_same o, outputs_same os)

  lists_same : (lists : List (List ScoreOutput)) → AreSameLists m n lists lists
  lists_same [] = tt
  lists_same (os ∷ lists) = (outputs_same os, lists_same lists)

  same_append : (os ps qs rs : List ScoreOutput) → AreSameOutputs m n os ps → AreSameOutputs m n qs rs → AreSameOutputs m n (os ++ qs) (ps ++ rs)
  same_append [] [] qs rs h k = k
  same_append (o ∷ os) (p ∷ ps) qs rs h k = (h.0, same_append os ps qs rs h.1 k)
  same_append _ _ qs rs h k = absurd h

  -- ---- what is gathered

  made_more : (l : Bool) (ms ns : List UnplacedSyllable) (k : UnplacedSyllable) → AreMadeAlike m n l ms ns → AreMadeAlike m n l (ms ++ k ∷ []) (ns ++ k ∷ [])
  made_more l ms ns k h = grind arith

  event_at : (e : BodyEvent) (l : Bool) (a : Gathered) (ns : List UnplacedSyllable) (k : Option ItemKind) → AreInputsAlike a.first_kind k → AreMadeAlike m n l a.made ns → IsEquivalentAside m n l (with_event a e) (with_event (record a { made = ns; first_kind = k }) e)
  event_at e l a ns k c h = grind (arith, kind_comes, made_more)

  all_aside : (now : List BodyEvent) (l : Bool) (a b : Gathered) → IsEquivalentAside m n l a b → IsEquivalentAside m n l (with_all a now) (with_all b now)
  all_aside [] l a b h = h
  all_aside (e ∷ now) l a b h = all_aside now l (with_event a e) (with_event b e) (subst (λ (x : Gathered). IsEquivalentAside m n l (with_event a e) (with_event x e)) (sym h.same) (event_at e l a b.made b.first_kind h.comes h.made))

  -- the last text
  last_aside : (l : Bool) (a b : Gathered) → IsEquivalentAside m n l a b → IsEquivalentAside m n l (with_last a) (with_last b)
  last_aside l a b h = subst (λ (x : Gathered). IsEquivalentAside m n l (with_last a) (with_last x)) (sym h.same) (by b.made b.first_kind h.comes h.made (has_text a.builder.view))
    where
      by : (ns : List UnplacedSyllable) (k : Option ItemKind) → AreInputsAlike a.first_kind k → AreMadeAlike m n l a.made ns → (t : Bool)
          → IsEquivalentAside m n l (cond t (with_syllable (with_no_notes a)) a) (cond t (with_syllable (with_no_notes (record a { made = ns; first_kind = k }))) (record a { made = ns; first_kind = k }))
      by ns k c h true = record { comes = c; made = made_more l a.made ns _ h; same = refl }
      by ns k c h false = record { comes = c; made = h; same = refl }

  -- ---- what is given

  abbrev AreSamePlaced : List PlacedSyllable → List PlacedSyllable → Type 0
  AreSamePlaced os ps = AreSameOutputs m n (map (λ s. Syllable s) os) (map (λ s. Syllable s) ps)

  taken_same : (k : ℕ) (os ps : List PlacedSyllable) → AreSamePlaced os ps → AreSamePlaced (take k os) (take k ps)
  taken_same zero os ps h = tt
  taken_same (suc k) [] [] h = tt
  taken_same (suc k) (o ∷ os) (p ∷ ps) h = (h.0, taken_same k os ps h.1)
  taken_same (suc k) _ _ h = absurd h

  placed_same : (l : Bool) (ms ns : List UnplacedSyllable) → AreMadeAlike m n l ms ns → AreSamePlaced (placed_after l ms) (placed_after l ns)
  placed_same l ms ns h = grind (arith, outputs_same)

  after_found : (fs gs : List Finding) (os ps : List PlacedSyllable) → gs ≡ fs → AreSamePlaced os ps → AreSameOutputs m n (outputs_of fs os) (outputs_of gs ps)
  after_found fs gs os ps e h = grind (arith, same_append, outputs_same)

  length_same : (l : Bool) (ms ns : List UnplacedSyllable) → AreMadeAlike m n l ms ns → (length ns ≡ length ms) × (is_none ns ≡ is_none ms)
  length_same l ms ns h = grind arith

  code_same : (l : Bool) (limits : Limits) (a b : Gathered) → IsEquivalentAside m n l a b → code_in limits b ≡ code_in limits a
  code_same l limits a b h = grind (arith, length_same)

  fault_same : (l : Bool) (limits : Limits) (at : Place) (a b : Gathered) → IsEquivalentAside m n l a b → end_fault limits at b ≡ end_fault limits at a
  fault_same l limits at a b h = grind (arith, code_same)

  -- what is found of them at a point
  first_same : (l : Bool) (a b : Gathered) (now : List BodyEvent) (p : Place) → IsEquivalentAside m n l a b → found_first b.first_kind (with_all b now).first_kind p ≡ found_first a.first_kind (with_all a now).first_kind p
  first_same l a b now p h = grind (arith, not_first, kind_but)

  -- ---- after a character

  -- if another is whole, the held one is given
  held_aside : (l : Bool) (a b : Gathered) → IsEquivalentAside m n l a b → IsEquivalentAside m n (l || nat_lt 1 (length a.made)) (with_held a) (with_held b)
  held_aside l a b h = grind (arith, or-false)

  stop_same : (s : HeldScore) (b : Gathered) (fault : Fault) → IsEquivalentAside m n s.is_preceded s.gathered b → AreSameOutputs m n (stop_outputs s fault) (stop_outputs (record s { gathered = b }) fault)
  stop_same s b fault h = same_append (held_outputs s) (held_outputs (record s { gathered = b })) (Stop fault ∷ []) (Stop fault ∷ []) (placed_same s.is_preceded s.gathered.made b.made h.made) (refl, tt)

  module _ (limits : Limits) (s : HeldScore) (b : Gathered) (now : List BodyEvent) (h : IsEquivalentAside m n s.is_preceded s.gathered b) where
    abbrev g : Gathered
    g = with_all s.gathered now

    aside_now : IsEquivalentAside m n s.is_preceded g (with_all b now)
    aside_now = all_aside now s.is_preceded s.gathered b h

    end_same : AreSameOutputs m n (end_outputs limits s now) (end_outputs limits (record s { gathered = b }) now)
    end_same =
        subst (λ (o : Option Fault). AreSameOutputs m n (end_outputs limits s now) (end_outputs_by (record s { gathered = b }) now o)) (sym (fault_same s.is_preceded limits s.next (with_last g) (with_last (with_all b now)) v))
        (by (end_fault limits s.next (with_last g)))
      where
        v : IsEquivalentAside m n s.is_preceded (with_last g) (with_last (with_all b now))
        v = last_aside s.is_preceded g (with_all b now) aside_now

        found_same : findings_now now ++ end_findings s.next (has_text (with_all b now).builder.view) ((with_last (with_all b now)).eu || (with_last (with_all b now)).nlba)
            ≡ findings_now now ++ end_findings s.next (has_text g.builder.view) ((with_last g).eu || (with_last g).nlba)
        found_same =
            ap (λ (x : Gathered). findings_now now ++ end_findings s.next (has_text (with_all b now).builder.view) (x.eu || x.nlba)) v.same
            ∙ ap (λ (x : Gathered). findings_now now ++ end_findings s.next (has_text x.builder.view) ((with_last g).eu || (with_last g).nlba)) aside_now.same

        by : (o : Option Fault) → AreSameOutputs m n (end_outputs_by s now o) (end_outputs_by (record s { gathered = b }) now o)
        by (Some fault) = stop_same s b fault h
        by None = same_append _ _ (End ∷ []) (End ∷ []) (after_found _ _ _ _ found_same (placed_same s.is_preceded _ _ v.made)) (tt, tt)

    point_same : (x : Char) → AreSameOutputs m n (point_outputs s x now) (point_outputs (record s { gathered = b }) x now)
    point_same x =
        after_found _ _ _ _ (ap (λ fs. findings_now now ++ fs) (first_same s.is_preceded s.gathered b now x.place h))
        (rw (length_same s.is_preceded g.made (with_all b now).made aside_now.made).0 (taken_same (length g.made - 1) _ _ (placed_same s.is_preceded g.made (with_all b now).made aside_now.made)))

  -- What a body will still give is the same, but for the held syllable.
  pub left_same : (limits : Limits) (xs : List HeadEvent) (lists : List (List BodyEvent)) (s : HeldScore) (b : Gathered) → IsEquivalentAside m n s.is_preceded s.gathered b
      → AreSameLists m n (body_left limits s lists xs) (body_left limits (record s { gathered = b }) lists xs)
  left_same limits [] lists s b h = (placed_same s.is_preceded s.gathered.made b.made h.made, tt)
  left_same limits (head_event.Found f ∷ xs) lists s b h = ((refl, tt), left_same limits xs lists s b h)
  left_same limits (head_event.Heads l k c ∷ xs) lists s b h = (tt, left_same limits xs lists s b h)
  left_same limits (head_event.Stop fault ∷ xs) lists s b h = (stop_same s b fault h, lists_same (silence xs))
  left_same limits (head_event.End ∷ xs) lists s b h = (end_same limits s b (concat_of lists) h, lists_same (silence xs))
  left_same limits (head_event.Body x ∷ xs) [] s b h = lists_same (silence (head_event.Body x ∷ xs))
  left_same limits (head_event.Body x ∷ xs) (now ∷ lists) s b h =
      subst (λ (o : Option Code). AreSameLists m n (body_left limits s (now ∷ lists) (head_event.Body x ∷ xs)) (left_by o (record s { gathered = b }) x now xs (body_left limits (score_past (record s { gathered = b }) x now) lists xs)))
      (sym (code_same s.is_preceded limits (with_all s.gathered now) (with_all b now) w))
      (by (left_same limits xs lists (score_past s x now) (with_held (with_all b now)) (held_aside s.is_preceded (with_all s.gathered now) (with_all b now) w)) (code_in limits (with_all s.gathered now)))
    where
      w : IsEquivalentAside m n s.is_preceded (with_all s.gathered now) (with_all b now)
      w = aside_now limits s b now h

      past_is : score_past (record s { gathered = b }) x now ≡ record (score_past s x now) { gathered = with_held (with_all b now) }
      past_is = ap (λ (k : ℕ). record (score_past s x now) { gathered = with_held (with_all b now); is_preceded = s.is_preceded || nat_lt 1 k }) (length_same s.is_preceded _ _ w.made).0

      by : AreSameLists m n (body_left limits (score_past s x now) lists xs) (body_left limits (record (score_past s x now) { gathered = with_held (with_all b now) }) lists xs)
          → (o : Option Code) → AreSameLists m n (left_by o s x now xs (body_left limits (score_past s x now) lists xs)) (left_by o (record s { gathered = b }) x now xs (body_left limits (score_past (record s { gathered = b }) x now) lists xs))
      by again (Some code) = (stop_same s b (fault_at x.place code) h, lists_same (silence xs))
      by again None = (point_same limits s b now h x, subst (λ (r : HeldScore). AreSameLists m n (body_left limits (score_past s x now) lists xs) (body_left limits r lists xs)) (sym past_is) again)
