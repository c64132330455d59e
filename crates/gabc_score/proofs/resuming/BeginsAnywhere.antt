-- In front of the first text the place of the next character counts for nothing until this character has come.
use Rattle.std.proofs.Common.{◌≡◌, ℕ, List, [], ◌∷◌, Bool, true, false, Option, None, refl, sym, ap, ◌∙◌, subst, arith}
use Rattle.gabc_places.specs.declared.limits.Limits.{Limits}
use Rattle.gabc_places.specs.declared.place.Place.{Place}
use Rattle.gabc_headers.specs.declared.head_event.HeadEvent.{HeadEvent}
use Rattle.gabc_headers.specs.declared.head_event.HeadEvent.TheVariants as head_event
use Rattle.gabc_notes.specs.declared.item.ItemKind.{ItemKind}
use Rattle.gabc_score.specs.declared.preceding.Preceding.{Preceding}
use Rattle.gabc_body.specs.declared.before.Spans.{Spans}
use Rattle.gabc_score.specs.declared.body_stage.BodyPart.{BodyPart}
use Rattle.gabc_score.specs.declared.body_stage.BodyPart.TheVariants as part
use Rattle.gabc_body.specs.declared.events.BodyEvent.{BodyEvent}
use Rattle.gabc_score.specs.declared.score_machine.ScoreMachine.{ScoreMachine}
use Rattle.gabc_score.specs.declared.score_machine.ScorePart.{ScorePart}
use Rattle.gabc_score.specs.declared.score_machine.ScorePart.TheVariants as score_part
use Rattle.gabc_score.specs.Before.{with_each}
use Rattle.gabc_body.specs.Events.{InComment, events_from}
use Rattle.gabc_body.specs.ScoreEvents.{Found, characters_in}
use Rattle.gabc_score.specs.ScoreReports.{is_in_front, held_in_body, moved_part, reading_in_body}
use Rattle.gabc_body.specs.Syllable.{UnplacedSyllable}
use Rattle.gabc_body.specs.witness.BodyBuilder.{code_in}
use Rattle.gabc_body.specs.witness.Gatherer.{Gathered}
use Rattle.gabc_score.specs.machine.PartCounts.{CountsHold}
use Rattle.gabc_score.specs.machine.PartKeeps.{begun, ReadAlike}
use Rattle.gabc_score.specs.machine.ScoreMachine.{held_score, IsInBody, IsScoreAt}
use Rattle.gabc_score.specs.machine.ScoreStage.{HeldScore, body_left, outputs_left}
use Rattle.gabc_body.specs.witness.SyllableBuilder.{OpenSyllable, nothing_open}
use Rattle.gabc_score.specs.witness.BodyStage.{running_events_left, texts_by_stage}
use Rattle.gabc_score.proofs.resuming.NothingIsRead.{nothing_alike}

-- nothing is read, no span is open, and what else was gathered stands there
abbrev unread : ℕ → List UnplacedSyllable → Bool → ℕ → Bool → Option ItemKind → Gathered
unread limit made follows total over first = record { limit = limit; builder = nothing_open; eu = false; nlba = false; made = made; follows = follows; total = total; over = over; cut = None; first_kind = first }

module _ (limits : Limits) (lines macros : ℕ) (limit : ℕ) (made : List UnplacedSyllable) (follows : Bool) (total : ℕ) (over : Bool) (first : Option ItemKind) (is_preceded : Bool) (p q : Place)
    (fine : code_in limits (unread limit made follows total over first) ≡ None) where
  abbrev at : Place → HeldScore
  at place = record { next = place; gathered = unread limit made follows total over first; is_preceded = is_preceded }

  abbrev ahead : List HeadEvent → List (List BodyEvent)
  ahead xs = events_from texts_by_stage lines macros InComment (characters_in xs)

  same_left : (xs : List HeadEvent) → body_left limits (at p) (ahead xs) xs ≡ body_left limits (at q) (ahead xs) xs
  same_left [] = refl
  same_left (head_event.Body x ∷ xs) = grind arith
  same_left (head_event.End ∷ xs) = grind arith
  same_left (head_event.Stop fault ∷ xs) = refl
  same_left (head_event.Found f ∷ xs) = ap (λ later. (Found f ∷ []) ∷ later) (same_left xs)
  same_left (head_event.Heads l m c ∷ xs) = ap (λ later. [] ∷ later) (same_left xs)

-- ---- a machine

pub front_is : (p : BodyPart) → is_in_front p ≡ true → p ≡ part.Comment
front_is p e = grind arith

pub front_reads : (p : BodyPart) (o : OpenSyllable) → is_in_front p ≡ true → CountsHold p o → o ≡ nothing_open
front_reads p o front counts = subst (λ (b : BodyPart). CountsHold b o) (front_is p front) counts

pub none_in_body : (p : ScorePart) (ms : List UnplacedSyllable) → p ≡ score_part.Body → held_in_body p ms ≡ None → ms ≡ []
none_in_body p [] e h = refl
none_in_body p (m ∷ ms) e h = absurd (cc (sym (ap (λ (q : ScorePart). held_in_body q (m ∷ ms)) e) ∙ h))

pub nothing_in_body : (p : ScorePart) (kept : List ℕ) → p ≡ score_part.Body → reading_in_body p kept ≡ [] → kept ≡ []
nothing_in_body p kept e h = sym (ap (λ (q : ScorePart). reading_in_body q kept) e) ∙ h

is_unread : (g : Gathered) → g.builder ≡ nothing_open → g.eu ≡ false → g.nlba ≡ false → g.cut ≡ None → g ≡ unread g.limit g.made g.follows g.total g.over g.first_kind
is_unread g builder eu nlba cut = grind arith

module _ (m : ScoreMachine) (front : is_in_front m.body.part ≡ true) (first : m.pair.contexts.before.syllables ≡ 0) (place : Place) where
  comment : m.body.part ≡ part.Comment
  comment = front_is m.body.part front

  unread_in : IsInBody m → m.pair.gathered.made ≡ [] → m.pair.gathered ≡ unread m.pair.gathered.limit m.pair.gathered.made m.pair.gathered.follows m.pair.gathered.total m.pair.gathered.over m.pair.gathered.first_kind
  unread_in h none = is_unread m.pair.gathered nothing (alike.eu ∙ ap (λ (s : Spans). s.eu) closed) (alike.nlba ∙ ap (λ (s : Spans). s.nlba) closed) h.reading.uncut
    where
      nothing : m.pair.gathered.builder ≡ nothing_open
      nothing = front_reads m.body.part m.pair.gathered.builder front h.counts

      alike : ReadAlike m.pair.gathered (begun m.pair.contexts.after.spans)
      alike = nothing_alike m.body.nabc_lines m.body.macros m.body.part m.pair.contexts.after.spans m.pair.gathered h.reading (ap (λ (o : OpenSyllable). o.kept) nothing)

      closed : m.pair.contexts.after.spans ≡ record { eu = false; nlba = false }
      closed = ap (λ (p : Preceding). p.spans) (h.after ∙ ap (with_each m.pair.contexts.before) none ∙ h.within.outset first)

  in_body : IsInBody m → m.pair.gathered.made ≡ [] → (xs : List HeadEvent)
      → body_left m.limits (record (held_score m) { next = place }) (running_events_left (record m.body { part = moved_part place m.body.part }) (characters_in xs)) xs
      ≡ body_left m.limits (held_score m) (running_events_left m.body (characters_in xs)) xs
  in_body h none xs = grind (arith, comment, same_left, unread_in)

  -- What is left for a machine in front does not hang on the place of the next character.
  pub left_anywhere : (p : ScorePart) → IsScoreAt p m → held_in_body p m.pair.gathered.made ≡ None → (xs : List HeadEvent)
      → outputs_left m.limits p (record (held_score m) { next = place }) (record m.body { part = moved_part place m.body.part }) xs ≡ outputs_left m.limits p (held_score m) m.body xs
  left_anywhere score_part.Body h none xs = in_body h (none_in_body score_part.Body m.pair.gathered.made refl none) xs
  left_anywhere _ h none xs = refl
