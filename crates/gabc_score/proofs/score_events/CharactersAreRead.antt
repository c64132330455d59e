-- What a machine gives at a character of the body, and how it stands then.
use Rattle.std.proofs.Common.{◌≤◌, false, ◌≡◌, ◌-◌, ◌||◌, ◌++◌, ◌∷◌, [], List, None, Some, length, nat_lt, not, take, Bool, ◌<◌, ◌^◌, refl, sym, ap, subst, ◌∙◌, append-nil, arith}
use Rattle.std.specs.List.{All}
use Rattle.std.proofs.lemmas.List.Elements.{All-drop, All-take}
use Rattle.gabc_places.specs.BoundedList.{BoundedList}
use Rattle.gabc_places.specs.Place.{saturating_next_place}
use Rattle.gabc_places.specs.PlacesInOrder.{IsEarlier}
use Rattle.gabc_places.specs.declared.code.Code.{Code}
use Rattle.gabc_places.specs.declared.code.Finding.{Finding}
use Rattle.gabc_places.specs.declared.place.Char.{Char}
use Rattle.gabc_places.specs.declared.place.Place.{Place}
use Rattle.gabc_headers.specs.declared.head_event.HeadEvent.{HeadEvent}
use Rattle.gabc_headers.specs.declared.head_event.HeadEvent.TheVariants as head_event
use Rattle.gabc_score.specs.declared.preceding.Preceding.{Preceding}
use Rattle.gabc_body.specs.declared.events.BodyEvent.{BodyEvent}
use Rattle.gabc_score.specs.declared.score_event.ScoreEvent.{ScoreEvent}
use Rattle.gabc_score.specs.declared.score_machine.ScoreMachine.{ScoreMachine}
use Rattle.gabc_score.specs.declared.score_machine.ScorePart.{ScorePart}
use Rattle.gabc_score.specs.declared.score_machine.ScorePart.TheVariants as score_part
use Rattle.gabc_score.specs.Before.{with_each, with_placed}
use Rattle.gabc_body.specs.Body.{fault_at}
use Rattle.gabc_body.specs.NoteBeforeClef.{found_first}
use Rattle.gabc_body.specs.ScoreEvents.{ScoreOutput, Stop, characters_in, findings_now, outputs_of}
use Rattle.gabc_score.specs.ScoreStage.{GivesAt, IsWithin, Lends, MayCome}
use Rattle.gabc_score.specs.ScoreReports.{held_in_body, IsAt, openers_of}
use Rattle.gabc_body.specs.Syllable.{PlacedSyllable, UnplacedSyllable}
use Rattle.gabc_score.specs.ReportedWithin.{IsPlace, AreOpenersBefore, IsReportOfText}
use Rattle.gabc_score.specs.witness.BodyStage.{BodyStageState, running_events_left}
use Rattle.gabc_score.specs.witness.ScoreStage.{left_of}
use Rattle.gabc_body.specs.witness.BodyBuilder.{code_in, with_all}
use Rattle.gabc_body.specs.witness.Gatherer.{Gathered}
use Rattle.gabc_score.specs.machine.HeldWithin.{HoldsWithin}
use Rattle.gabc_score.specs.machine.PartCounts.{CountsHold}
use Rattle.gabc_score.specs.machine.PartOnly.{HoldsTexts, kept_codes}
use Rattle.gabc_score.specs.machine.Preceded.{Contexts, IsPreceded, past_point}
use Rattle.gabc_score.specs.machine.ReadsChar.{Gathers, GivesPoint, Passes, ReadsChar, StopsWith, found_past, past_char, stops, goes}
use Rattle.gabc_score.specs.machine.ScoreMachine.{has_given, IsInBody, IsScore, IsScoreAt, IsShort, held_score, shown}
use Rattle.gabc_score.specs.machine.ScoreStage.{body_left, left_by, placed_after, with_held}
use Rattle.gabc_score.specs.machine.SlotPair.{SlotPairState, is_made}
use Rattle.gabc_score.proofs.building.CountsOfParts.{counts_go_on}
use Rattle.gabc_score.proofs.building.EventsOfSnippets.{few_events, stage_emits}
use Rattle.gabc_score.proofs.building.PartsEndLines.{ends_line}
use Rattle.gabc_score.proofs.building.PartsKeepOn.{keeps_on, makes}
use Rattle.gabc_score.proofs.building.PartsKeepOnly.{keeps_only}
use Rattle.gabc_score.proofs.building.PartsOpenOn.{opens_on}
use Rattle.gabc_score.proofs.building.PartsTrackPlaces.{stands_on}
use Rattle.gabc_score.proofs.building.SyllableEndsLast.{closes_last}
use Rattle.gabc_score.proofs.score_events.CountsGoOn.{counts_past, none_past}
use Rattle.gabc_score.proofs.score_events.EventsStayWithinBounds.{code_turned, few_found, is_within}
use Rattle.gabc_score.proofs.score_events.FewAndShortAreLent.{held_lends, lends_these, one_at_most, placed_within}
use Rattle.gabc_score.proofs.score_events.FrontIsFirst.{front_past, leaves_front}
use Rattle.gabc_score.proofs.score_events.GivesOutside.{gives_outside}
use Rattle.gabc_score.proofs.score_events.GatheredStaysWithinLimits.{within_now, within_past}
use Rattle.gabc_score.proofs.score_events.MemoryIsKept.{limit_past, room_past}
use Rattle.gabc_score.proofs.score_events.OpenersInOrder.{opens_in_order, place_after_input}
use Rattle.gabc_score.proofs.score_events.PartsFollow.{leads_out, stays_inside}
use Rattle.gabc_score.proofs.score_events.TextsArePlain.{plain_all, plain_held, of_character}
use Rattle.gabc_score.proofs.score_events.PendingSyllableHoldsUnit.{units_past}
use Rattle.gabc_score.proofs.score_events.WhatIsRead.{reading_past}
use Rattle.gabc_score.proofs.score_events.WhatPrecedes.{Turns, lent_past, turned, past_in_body}
use Rattle.gabc_score.proofs.score_events.WholeSyllables.{whole_past}

-- ---- what is gathered

module _ {m : ScoreMachine} {x : Char} {b : BodyStageState} {p : SlotPairState} {f : BoundedList Finding} (h : IsInBody m) (a : Gathers m x b p f) where
  pub few_gathered : length f.items ≤ 8
  few_gathered = few_found m.found f b.events h.rests.none a.found (few_events a.steps.0 a.steps.1)

  pub room_gathered : 9 ≤ f.limit
  room_gathered = room_past m.found f b.events a.found h.rests.room

  pub limit_gathered : p.gathered.limit ≡ m.limits.syllable
  limit_gathered = limit_past m.pair.gathered m.pair.gathered p.gathered b.events refl a.gathered ∙ h.rests.limit

  pub found_is : findings_now b.events ++ found_first m.pair.gathered.first_kind (with_all m.pair.gathered b.events).first_kind x.place ≡ (found_past m x p f).items
  found_is =
      rw (← a.gathered, a.found, h.rests.none) refl

-- the slots past a point: of the whole syllables the last is pending, and the contexts are its
pub record HasTurned (p q : SlotPairState) : Type 0 where
  pub gathered : q.gathered ≡ with_held p.gathered
  pub contexts : q.contexts ≡ past_point (nat_lt (length p.held) (length p.gathered.made)) (nat_lt 1 (length p.gathered.made)) p.contexts p.gathered
  pub used : is_made q.used ≡ false

-- ---- a character

module _ {m : ScoreMachine} {x : Char} {b : BodyStageState} {p : SlotPairState} {f : BoundedList Finding} (body : m.part ≡ score_part.Body) (h : IsInBody m) (a : Gathers m x b p f) where
  abbrev now : List BodyEvent
  now = b.events

  abbrev was : Gathered
  was = m.pair.gathered

  emits : (xs : List Char) → running_events_left m.body (x ∷ xs) ≡ now ∷ running_events_left b xs
  emits = (stage_emits m.body a.body a.steps).law

  -- what will be given after this was gathered
  abbrev later : List HeadEvent → Gathered → List (List ScoreOutput)
  later xs k = body_left m.limits (record { next = saturating_next_place x.place x.c; gathered = with_held k; is_preceded = has_given m || nat_lt 1 (length k.made) }) (running_events_left b (characters_in xs)) xs

  left_is : (xs : List HeadEvent) → left_of (shown m) (head_event.Body x ∷ xs) ≡ left_by (code_in m.limits (with_all was now)) (held_score m) x now xs (later xs (with_all was now))
  left_is xs = grind (arith, emits)

  -- ---- a limit is passed

  module _ {code : Code} {n : ScoreMachine} {old new : BoundedList ScoreEvent} (some : code_in m.limits p.gathered ≡ Some code) (s : StopsWith (record m { body = b; pair = p; found = found_past m x p f }) (fault_at x.place code) n old new) where
    gives_stop : GivesAt (shown m) (head_event.Body x) (shown n) old new
    gives_stop =
        let fault = fault_at x.place code in
        let s = subst (λ (k : Contexts). StopsWith (record m { body = b; pair = record p { contexts = k }; found = found_past m x p f }) fault n old new) a.contexts s in
        let given = outputs_of [] (placed_after (has_given m) p.held) in
        gives_outside (given ++ Stop fault ∷ []) (λ is. absurd (cc (is, s.part))) (λ heads. absurd (cc (heads, body))) (record {
          lends = held_lends m.limits 1 (has_given m) p.held was.made (Stop fault ∷ []) refl a.held h.rests.short s.few (omega arith);
          limits = s.limits;
          part = leads_out m.part n.part (head_event.Body x) given (Stop fault) body s.part refl;
          last = λ other final. absurd (cc final);
          passes = λ other. tt;
          law = λ xs. left_is xs ∙ rw (← a.gathered, some, ← a.held, s.part) refl;
          emitted = s.emitted;
        })

    rests_stop : IsScore n
    rests_stop = subst (λ (k : ScorePart). IsScoreAt k n) (sym s.part) (s.keeps (record { room = room_gathered h a; limit = limit_gathered h a }))

  -- ---- none is passed

  module _ {q : SlotPairState} (none_now : code_in m.limits p.gathered ≡ None) (u : HasTurned p q) where
    abbrev g : Gathered
    g = p.gathered

    abbrev lent : List PlacedSyllable
    lent = take (length g.made - 1) (placed_after (has_given m) g.made)

    -- a syllable has become whole
    abbrev whole : Bool
    whole = nat_lt (length p.held) (length g.made)

    -- the one pending before was given
    abbrev gave : Bool
    gave = nat_lt 1 (length g.made)

    turns : Turns m.pair.contexts g (has_given m) whole gave
    turns = rw a.gathered (turned m.pair.contexts was now h.preceded h.after (closes_last a.steps.0 a.steps.1) a.one (has_given m) (nat_lt (length p.held) (length (with_all was now).made)) (nat_lt 1 (length (with_all was now).made)) (ap (λ (ms : List UnplacedSyllable). nat_lt (length ms) (length (with_all was now).made)) a.held) refl)

    passed : q.contexts ≡ past_point whole gave m.pair.contexts g
    passed = u.contexts ∙ ap (λ (k : Contexts). past_point whole gave k g) a.contexts

    pub before_is : q.contexts.before ≡ with_placed m.pair.contexts.before lent
    before_is = ap (λ (k : Contexts). k.before) passed ∙ turns.given

    none : code_in m.limits (with_all was now) ≡ None
    none = sym (ap (code_in m.limits) a.gathered) ∙ none_now

    short : All (IsShort m.limits.syllable) g.made
    short = rw a.gathered (within_now m.limits m.pair.contexts.before was now h.rests.limit h.rests.over h.preceded.follows h.within.written h.rests.short none).1

    lines : b.nabc_lines ≡ m.body.nabc_lines
    lines = ap (λ (k : BodyStageState). k.nabc_lines) a.body

    macros : b.macros ≡ m.body.macros
    macros = ap (λ (k : BodyStageState). k.macros) a.body

    preceded : IsPreceded q.contexts.before q.gathered
    preceded = subst (IsPreceded q.contexts.before) (sym u.gathered) (subst (λ (k : Contexts). IsPreceded k.before (with_held g)) (sym passed) turns.preceded)

    held_within : HoldsWithin m.limits q.contexts.before q.gathered
    held_within = within_past m.limits m.pair.contexts.before q.contexts.before (has_given m) was g q.gathered now h.rests.limit h.rests.over h.preceded.follows h.within h.rests.short a.gathered none before_is u.gathered

    -- the kept text is short enough to be counted
    counted : length was.builder.kept < 2 ^ 64
    counted = let few = h.kept in let most = m.limits.in_range.syllable_most in omega (arith, few, most)

    pub rests_past : (r : BoundedList Finding) (next : Place) → r.items ≡ [] → 9 ≤ r.limit → IsInBody (record (past_char m x b q r) { next = next })
    rests_past r next empty room = record {
      rests = record {
        none = empty;
        room = room;
        limit = ap (λ (k : Gathered). k.limit) u.gathered ∙ limit_gathered h a;
        used = u.used;
        over = ap (λ (k : Gathered). k.over) u.gathered ∙ (is_within m.limits g none_now).over;
        short = subst (λ (k : Gathered). All (IsShort m.limits.syllable) k.made) (sym u.gathered) (All-drop (IsShort m.limits.syllable) (length g.made - 1) g.made short);
      };
      counts = subst (λ (k : Gathered). CountsHold b.part k.builder) (sym (u.gathered ∙ ap with_held a.gathered)) ((counts_go_on a.steps.0 a.steps.1).counts was h.counts);
      kept = rw (ap (λ (k : Gathered). k.builder.kept) u.gathered) (let kept = (is_within m.limits g none_now).kept in let limit = limit_gathered h a in omega (arith, kept, limit));
      preceded = preceded;
      after = ap (λ (k : Contexts). k.after) passed ∙ turns.after ∙ ap (λ (k : Contexts). with_each k.before (with_held g).made) (sym passed) ∙ ap (λ (k : Gathered). with_each q.contexts.before k.made) (sym u.gathered);
      code = ap (code_in m.limits) u.gathered ∙ code_turned m.limits g none_now;
      reading = reading_past m.body.nabc_lines m.body.macros b.nabc_lines b.macros m.body.part b.part m.pair.contexts q.contexts was g q.gathered now whole gave counted a.gathered u.gathered
          (ap (λ (ms : List UnplacedSyllable). nat_lt (length ms) (length g.made)) a.held) passed lines macros (keeps_on a.steps.0) h.reading;
      units = units_past m.body.nabc_lines m.body.macros b.nabc_lines m.body.part m.pair.contexts.before q.contexts.before m.pair.contexts.after.spans (has_given m) was g q.gathered now counted a.gathered u.gathered lines
          (ap (λ (k : Preceding). k.spans) h.after) before_is (makes a.steps.0) h.reading h.units;
      within = held_within;
      front = front_past m.body.part b.part m.pair.contexts.before q.contexts.before (has_given m) was g q.gathered now (leaves_front a.steps.0) h.front a.gathered before_is u.gathered;
    }

    module _ {r : BoundedList Finding} {old new : BoundedList ScoreEvent} (s : Passes m x p f q r old new) where
      -- with the contexts before it
      given : GivesPoint (record p { contexts = m.pair.contexts }) (found_past m x p f) q r old new
      given = subst (λ (k : Contexts). GivesPoint (record p { contexts = k }) (found_past m x p f) q r old new) a.contexts s.given

      abbrev n : ScoreMachine
      n = past_char m x b q r

      given_now : (has_given m || nat_lt 1 (length g.made)) ≡ has_given n
      given_now = lent_past m.pair.contexts.before q.contexts.before (has_given m) g.made refl before_is

      abbrev fs : List Finding
      fs = (found_past m x p f).items

      law : (xs : List HeadEvent) → left_of (shown m) (head_event.Body x ∷ xs) ≡ outputs_of fs lent ∷ left_of (shown n) xs
      law xs = grind (arith, left_is, none, found_is, given_now)

      texts : MayCome m.limits m.next (head_event.Body x) → IsReportOfText (shown m) → HoldsTexts q.gathered
      texts may t = subst HoldsTexts (sym u.gathered) (plain_held g (subst HoldsTexts (sym a.gathered)
          (plain_all was now (of_character x.c (kept_codes now) may.1.1 (keeps_only a.steps.0 h.reading.parts h.reading.keeps)) (t.reading, t.held))))

      next_place : MayCome m.limits m.next (head_event.Body x) → IsPlace m.next → IsPlace n.next × IsEarlier x.place n.next
      next_place may is = place_after_input x.place x.c (subst IsPlace (sym may.0) is) may.1.0.0 may.1.0.1

      gives_past : GivesAt (shown m) (head_event.Body x) (shown n) old new
      gives_past = record {
        outputs = outputs_of fs lent;
        lends = subst (Lends m.limits 1) (append-nil (outputs_of fs lent)) (lends_these m.limits 1 fs lent [] refl given.few (one_at_most lent given.few)
            (All-take (IsWithin m.limits) (length g.made - 1) (placed_after (has_given m) g.made) (placed_within m.limits (not (has_given m)) g.made short)));
        limits = refl;
        part = stays_inside m.part m.part (head_event.Body x) fs lent body body;
        last = λ other final. absurd (cc final);
        passes = λ other. tt;
        line = λ lf is. ends_line a.steps.0 h.reading.parts h.reading.keeps lf;
        counts = λ place here at is. stands_on a.steps.0 h.reading.parts h.reading.keeps (subst (λ k. IsAt k m.body.part) (sym here) (at body));
        before_held = λ is. past_in_body m.part (head_event.Body x) fs lent m.pair.contexts.before q.contexts.before body before_is;
        next = λ is. rw body refl;
        stands = λ here at is. stands_on a.steps.0 h.reading.parts h.reading.keeps (subst (λ k. IsAt k m.body.part) (sym here) (at body));
        whole = λ is. rw body (whole_past m.pair.contexts.before q.contexts.before (has_given m) was g q.gathered now (closes_last a.steps.0 a.steps.1) a.gathered before_is u.gathered);
        told = λ may here t is. record {
          counts = rw (lines, macros) (counts_past m.limits m.body.nabc_lines m.body.macros m.pair.contexts.before q.contexts.before (has_given m) g q.gathered before_is u.gathered preceded held_within (t body).counts);
          reading = (texts may (t body)).0;
          held = (texts may (t body)).1;
          next = (next_place may (t body).next).0;
          openers = opens_in_order x.place n.next (next_place may (t body).next).1 (subst IsPlace (sym may.0) (t body).next) (openers_of m.body.part) (openers_of b.part)
              (opens_on a.steps.0 h.reading.parts h.reading.keeps (subst (λ k. IsAt k m.body.part) (sym may.0) (here body)))
              (subst (λ k. AreOpenersBefore k (openers_of m.body.part)) (sym may.0) (t body).openers);
        };
        holds = λ held is e. none_past m.pair.contexts.before q.contexts.before (has_given m) was g q.gathered now (closes_last a.steps.0 a.steps.1) before_is u.gathered a.gathered
            (λ k. held body (ap (λ (k : ScorePart). held_in_body k was.made) body ∙ k)) (ap (λ (k : ScorePart). held_in_body k q.gathered.made) (sym body) ∙ e);
        law = law;
        emitted = given.emitted;
        front = λ heads. absurd (cc (heads, body));
      }

-- ---- so it is wherever it stands then

pub has_turned : {m : ScoreMachine} {x : Char} {p q : SlotPairState} {f r : BoundedList Finding} {old new : BoundedList ScoreEvent} → Passes m x p f q r old new → HasTurned p q
has_turned s = record { contexts = s.given.contexts; gathered = s.given.gathered; used = s.given.used }

module _ {m : ScoreMachine} {x : Char} (body : m.part ≡ score_part.Body) (h : IsInBody m) where
  pub character_gives : {n : ScoreMachine} {old new : BoundedList ScoreEvent} → ReadsChar m x old new n → GivesAt (shown m) (head_event.Body x) (shown n) old new
  character_gives (stops a some s) = gives_stop body h a some s
  character_gives (goes a s) = gives_past body h a s.none (has_turned s) s

  pub character_rests : {n : ScoreMachine} {old new : BoundedList ScoreEvent} → ReadsChar m x old new n → IsScore n
  character_rests (stops a some s) = rests_stop body h a some s
  character_rests (goes {b} {q = q} {r} a s) =
      let limit = ap (λ (k : BoundedList Finding). k.limit) s.given.found in
      let room = room_gathered h a in
      subst (λ (k : ScorePart). IsScoreAt k (past_char m x b q r)) (sym body) (rests_past body h a s.none (has_turned s) r _ (ap (λ (k : BoundedList Finding). k.items) s.given.found) (omega (arith, limit, room)))
