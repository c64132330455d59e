-- A score with at most one pending syllable reads another one, by the lists of its characters.
use Rattle.std.proofs.Math.Bool.{or-false}
use Rattle.std.proofs.Common.{◌≡◌, ℕ, zero, suc, ◌+◌, ◌-◌, ◌<◌, ◌≤◌, ◌||◌, not, nat_lt, Bool, false, List, [], ◌∷◌, ◌++◌, map, length, take, drop, Option, None, is_some, refl, sym, ap, subst, ◌∙◌, arith, append_assoc, append-nil, length-append}
use Rattle.std.proofs.lemmas.Bool.Decides.{nat_tests}
use Rattle.gabc_places.specs.StageLaw.{concat_of}
use Rattle.gabc_places.specs.Place.{saturating_next_place}
use Rattle.gabc_places.specs.declared.code.Finding.{Finding}
use Rattle.gabc_places.specs.declared.limits.Limits.{Limits}
use Rattle.gabc_places.specs.declared.place.Char.{Char}
use Rattle.gabc_places.specs.declared.place.Place.{Place}
use Rattle.gabc_places.proofs.NothingAfterAnEnd.{both_empty}
use Rattle.gabc_text.specs.declared.text_event.TextEnd.TheVariants as text_end
use Rattle.gabc_text.specs.declared.text_event.TextEvent.TheVariants as text
use Rattle.gabc_text.specs.declared.text_event.TextPart.TheVariants as part
use Rattle.gabc_notes.specs.declared.item.ItemKind.{ItemKind}
use Rattle.gabc_notes.specs.declared.stage.NoteEnd.TheVariants as note_end
use Rattle.gabc_notes.specs.declared.stage.NoteEvent.TheVariants as note
use Rattle.gabc_body.specs.declared.events.BodyEvent.{BodyEvent}
use Rattle.gabc_body.specs.declared.events.BodyEvent.TheVariants as event
use Rattle.gabc_body.specs.Canonical.{placed_syllables_by}
use Rattle.gabc_body.specs.NoteBeforeClef.{found_first}
use Rattle.gabc_body.specs.ScoreEvents.{ScoreOutput, Syllable, findings_now}
use Rattle.gabc_body.specs.Syllable.{UnplacedSyllable, PlacedSyllable}
use Rattle.gabc_body.specs.witness.BodyBuilder.{with_all, code_in}
use Rattle.gabc_body.specs.witness.Gatherer.{Gathered, with_event, with_snippet}
use Rattle.gabc_score.specs.machine.ScoreStage.{HeldScore, placed_after, point_outputs, score_past}
use Rattle.gabc_body.specs.witness.SyllableBuilder.{made_from}
use Rattle.gabc_body.proofs.gathering.EventsOfOnePoint.{with_all_append}
use Rattle.gabc_body.proofs.order.FindingsOfParts.{found, found_append, found_onto}
use Rattle.gabc_score.proofs.regular_syllables.PointsPass.{score_through, points_through, NoneStops}
use Rattle.gabc_score.proofs.score_events.EventsStayWithinBounds.{none_passed}
use Rattle.gabc_score.proofs.resuming.OutputDiffersOnlyInPendingSyllable.{all_stay}
use Rattle.gabc_score.proofs.resuming.MachinesPassAgain.{none_is}
use Rattle.gabc_score.proofs.resuming.CharactersGathered.{few_dropped}

-- ---- what was made before does not count

abbrev put_before : List UnplacedSyllable → Gathered → Gathered
put_before ps g = record g { made = ps ++ g.made }

event_before : (ps : List UnplacedSyllable) (g : Gathered) (e : BodyEvent) → with_event (put_before ps g) e ≡ put_before ps (with_event g e)
event_before ps g (event.Text (text.Part part.WordStart)) = refl
event_before ps g (event.Text (text.Ended text_end.Notes)) = refl
event_before ps g (event.Notes line (note.Ended note_end.Close n)) =
    ap (λ (ms : List UnplacedSyllable). record (with_event g (event.Notes line (note.Ended note_end.Close n))) { made = ms })
    (append_assoc ps g.made (made_from (with_snippet g line n 41).builder g.eu g.nlba ∷ []))
event_before ps g _ = refl

all_before : (es : List BodyEvent) (ps : List UnplacedSyllable) (g : Gathered) → with_all (put_before ps g) es ≡ put_before ps (with_all g es)
all_before [] ps g = refl
all_before (e ∷ es) ps g = ap (λ (h : Gathered). with_all h es) (event_before ps g e) ∙ all_before es ps (with_event g e)

made_before : (es : List BodyEvent) (ps made : List UnplacedSyllable) (g : Gathered) → g.made ≡ [] → (with_all g es).made ≡ made → with_all (record g { made = ps }) es ≡ record (with_all g es) { made = ps ++ made }
made_before es ps made g none some =
    ap (λ (ms : List UnplacedSyllable). with_all (record g { made = ms }) es) (sym (append-nil ps) ∙ ap (λ (ms : List UnplacedSyllable). ps ++ ms) (sym none))
    ∙ all_before es ps g ∙ ap (λ (ms : List UnplacedSyllable). record (with_all g es) { made = ps ++ ms }) some

-- ---- one syllable at most

few_given : (first : Bool) (ms : List UnplacedSyllable) → length ms ≤ 1 → take (length ms - 1) (placed_syllables_by first ms) ≡ []
few_given first ms few = grind arith

few_lent : (is_preceded : Bool) (ms : List UnplacedSyllable) → length ms ≤ 1 → (is_preceded || nat_lt 1 (length ms)) ≡ is_preceded
few_lent is_preceded ms few = ap (λ (b : Bool). is_preceded || b) {x = nat_lt 1 (length ms)} {y = false} (grind (arith, nat_tests, few)) ∙ or-false is_preceded

held_more : (ms : List UnplacedSyllable) (m : UnplacedSyllable) → length ms ≤ 1 → drop (length (ms ++ m ∷ []) - 1) (ms ++ m ∷ []) ≡ m ∷ []
held_more [] m h = refl
held_more (k ∷ []) m h = refl
held_more (k ∷ l ∷ ms) m h = absurd (omega (arith, h))

lent_more : (ms : List UnplacedSyllable) (m : UnplacedSyllable) → length ms ≤ 1 → nat_lt 1 (length (ms ++ m ∷ [])) ≡ nat_lt 0 (length ms)
lent_more ms m h = grind (arith, nat_tests, length-append ms (m ∷ []))

count_more : (ms : List UnplacedSyllable) (m : UnplacedSyllable) → length (ms ++ m ∷ []) - 1 ≡ length ms
count_more ms m = omega (arith, length-append ms (m ∷ []))

-- ---- what comes first, a note or a clef

-- what has come or not at the end has come or not at each point before
pub stays_before : (es more : List BodyEvent) (g : Gathered) → is_some (with_all g (es ++ more)).first_kind ≡ is_some g.first_kind → (with_all g es).first_kind ≡ g.first_kind
stays_before es more g same = grind (arith, all_stay, with_all_append, none_is)

not_found : (k : Option ItemKind) (p : Place) → found_first k k p ≡ []
not_found k p = grind arith

-- ---- what one syllable more gathers

-- no limit is passed, whatever was made before
pub record Fits (limits : Limits) (g : Gathered) : Type 0 where
  pub kept : length g.builder.kept ≤ g.limit
  pub over : g.over ≡ false
  pub total : g.total + 1 ≤ limits.input

fits_any : (limits : Limits) (g : Gathered) (ms : List UnplacedSyllable) → Fits limits g → code_in limits (record g { made = ms }) ≡ None
fits_any limits g ms f = none_passed limits (record g { made = ms }) (record { kept = f.kept; over = f.over; file = λ some. f.total })

-- With the last of these lists one syllable is made. Nothing is found, no limit is passed, and if
-- neither a note nor a clef has come, none comes.
pub record Gathers (limits : Limits) (g : Gathered) (lists : List (List BodyEvent)) (m : UnplacedSyllable) : Type 0 where
  pub none : g.made ≡ []
  pub sounded : is_some (with_all g (concat_of lists)).first_kind ≡ is_some g.first_kind
  pub earlier : (n : ℕ) → n < length lists → (with_all g (concat_of (take n lists))).made ≡ []
  pub made : (with_all g (concat_of lists)).made ≡ m ∷ []
  pub fits : (n : ℕ) → n < length lists → Fits limits (with_all g (concat_of (take (suc n) lists)))
  pub nothing : found (concat_of lists) ≡ []

module _ (limits : Limits) (g : Gathered) (now : List BodyEvent) (lists : List (List BodyEvent)) (m : UnplacedSyllable) (a : Gathers limits g (now ∷ lists) m) where
  nothing_in : (found now ≡ []) × (found (concat_of lists) ≡ [])
  nothing_in = both_empty (found now) (found (concat_of lists)) (sym (found_append now (concat_of lists)) ∙ a.nothing)

  nothing_now : findings_now now ≡ []
  nothing_now = found_onto now [] ∙ nothing_in.0

  fits_now : Fits limits (with_all g now)
  fits_now = subst (Fits limits) (with_all_append g now []) (a.fits zero (omega arith))

  -- a note or a clef has come then if it has come before
  stays_now : (with_all g now).first_kind ≡ g.first_kind
  stays_now = stays_before now (concat_of lists) g a.sounded

  later : 0 < length lists → Gathers limits (with_all g now) lists m
  later some = record {
    none = ap (λ (h : Gathered). h.made) (sym (with_all_append g now [])) ∙ a.earlier 1 (omega (arith, some));
    sounded = ap (λ (h : Gathered). is_some h.first_kind) (sym (with_all_append g now (concat_of lists))) ∙ a.sounded ∙ ap (λ (k : Option ItemKind). is_some k) (sym stays_now);
    earlier = λ n h. ap (λ (h : Gathered). h.made) (sym (with_all_append g now (concat_of (take n lists)))) ∙ a.earlier (suc n) (omega (arith, h));
    made = ap (λ (h : Gathered). h.made) (sym (with_all_append g now (concat_of lists))) ∙ a.made;
    fits = λ n h. subst (Fits limits) (with_all_append g now (concat_of (take (suc n) lists))) (a.fits (suc n) (omega (arith, h)));
    nothing = nothing_in.1;
  }

-- ---- what is given

-- the place after the last of these characters; after none, this one
abbrev pub next_of : List Char → Place → Place
next_of [] next = next
next_of (x ∷ us) next = next_of us (saturating_next_place x.place x.c)

module _ (limits : Limits) (lent : Bool) (ms : List UnplacedSyllable) (few : length ms ≤ 1) where
  abbrev pub holding : Place → Gathered → HeldScore
  holding next g = record { next = next; gathered = record g { made = ms }; is_preceded = lent }

  -- holding this one, if those before it are given
  abbrev pub holding_one : Place → Gathered → UnplacedSyllable → HeldScore
  holding_one next g m = record { next = next; gathered = record g { made = m ∷ [] }; is_preceded = lent || nat_lt 0 (length ms) }

  -- these characters pass, with which only these syllables are given
  pub record Pass (s : HeldScore) (us : List Char) (lists : List (List BodyEvent)) (after : HeldScore) (given : List PlacedSyllable) : Type 0 where
    pub none_stops : NoneStops limits s us lists
    pub after_is : score_through s us lists ≡ after
    pub given_are : concat_of (points_through s us lists) ≡ map (λ (s : PlacedSyllable). Syllable s) given
    pub one_each : length (points_through s us lists) ≡ length us

  module _ (next : Place) (g : Gathered) (x : Char) (now : List BodyEvent) (lists : List (List BodyEvent)) (m : UnplacedSyllable) (a : Gathers limits g (now ∷ lists) m) where
    abbrev s : HeldScore
    s = holding next g

    goes_on : (made : List UnplacedSyllable) → (with_all g now).made ≡ made → code_in limits (with_all s.gathered now) ≡ None
    goes_on made e = ap (code_in limits) (made_before now ms made g a.none e) ∙ fits_any limits (with_all g now) (ms ++ made) (fits_now limits g now lists m a)

    -- nothing is found
    found_none : findings_now now ++ found_first g.first_kind (with_all g now).first_kind x.place ≡ []
    found_none =
        ap (λ (fs : List Finding). fs ++ found_first g.first_kind (with_all g now).first_kind x.place) (nothing_now limits g now lists m a)
        ∙ ap (λ (k : Option ItemKind). found_first g.first_kind k x.place) (stays_now limits g now lists m a) ∙ not_found g.first_kind x.place

    -- a character with which none is made
    module _ (none : (with_all g now).made ≡ []) where
      early_is : with_all s.gathered now ≡ record (with_all g now) { made = ms }
      early_is = made_before now ms [] g a.none none ∙ ap (λ (made : List UnplacedSyllable). record (with_all g now) { made = made }) (append-nil ms)

      early_past : score_past s x now ≡ holding (saturating_next_place x.place x.c) (with_all g now)
      early_past = rw (early_is, few_dropped ms few, few_lent lent ms few) refl

      early_outputs : point_outputs s x now ≡ []
      early_outputs = rw (early_is, found_none, few_given (not lent) ms few) refl

    -- the last one
    module _ (one : (with_all g now).made ≡ m ∷ []) where
      last_is : with_all s.gathered now ≡ record (with_all g now) { made = ms ++ m ∷ [] }
      last_is = made_before now ms (m ∷ []) g a.none one

      last_past : score_past s x now ≡ holding_one (saturating_next_place x.place x.c) (with_all g now) m
      last_past = rw (last_is, held_more ms m few, lent_more ms m few) refl

      last_outputs : point_outputs s x now ≡ map (λ (s : PlacedSyllable). Syllable s) (take (length ms) (placed_after lent (ms ++ m ∷ [])))
      last_outputs = rw (last_is, found_none, count_more ms m) refl

  pub one_passes : (next : Place) (g : Gathered) (us : List Char) (lists : List (List BodyEvent)) (m : UnplacedSyllable) → length us ≡ length lists → Gathers limits g lists m
      → Pass (holding next g) us lists (holding_one (next_of us next) (with_all g (concat_of lists)) m) (take (length ms) (placed_after lent (ms ++ m ∷ [])))
  one_passes next g us [] m each a = absurd (cc (sym a.made ∙ a.none))
  one_passes next g [] (now ∷ lists) m each a = absurd (omega (arith, each))
  one_passes next g (x ∷ us) (now ∷ more ∷ lists) m each a =
      let later_one = later limits g now (more ∷ lists) m a (omega arith) in
      let r = one_passes (saturating_next_place x.place x.c) (with_all g now) us (more ∷ lists) m (omega (arith, each)) later_one in
      let past = early_past next g x now (more ∷ lists) m a later_one.none in
      let outputs = early_outputs next g x now (more ∷ lists) m a later_one.none in
      record {
        none_stops = (goes_on next g x now (more ∷ lists) m a [] later_one.none, subst (λ (s : HeldScore). NoneStops limits s us (more ∷ lists)) (sym past) r.none_stops);
        after_is = ap (λ (s : HeldScore). score_through s us (more ∷ lists)) past ∙ r.after_is
            ∙ ap (λ (h : Gathered). holding_one (next_of (x ∷ us) next) h m) (sym (with_all_append g now (concat_of (more ∷ lists))));
        given_are = ap (λ (os : List ScoreOutput). os ++ concat_of (points_through (score_past (holding next g) x now) us (more ∷ lists))) outputs
            ∙ ap (λ (s : HeldScore). concat_of (points_through s us (more ∷ lists))) past ∙ r.given_are;
        one_each = ap (λ (s : HeldScore). suc (length (points_through s us (more ∷ lists)))) past ∙ ap suc r.one_each;
      }
  one_passes next g (x ∷ y ∷ us) (now ∷ []) m each a = absurd (omega (arith, each))
  one_passes next g (x ∷ []) (now ∷ []) m each a =
      let all = with_all_append g now [] in
      let one : (with_all g now).made ≡ m ∷ [] = ap (λ (h : Gathered). h.made) (sym all) ∙ a.made in
      let outputs = last_outputs next g x now [] m a one in
      record {
        none_stops = (goes_on next g x now [] m a (m ∷ []) one, tt);
        after_is = last_past next g x now [] m a one ∙ ap (λ (h : Gathered). holding_one (next_of (x ∷ []) next) h m) (sym all);
        given_are = append-nil (point_outputs (holding next g) x now) ∙ outputs;
        one_each = refl;
      }
