-- What is gathered of a unit that makes one syllable, whatever was gathered before: that syllable,
-- with no limit passed.
use Rattle.std.proofs.Math.Bool.{or-false}
use Rattle.std.proofs.Common.{◌≡◌, ℕ, suc, ◌+◌, ◌<◌, ◌≤◌, ◌||◌, nat_lt, Bool, true, false, List, [], ◌∷◌, ◌++◌, length, take, take_all, Option, None, is_some, refl, sym, ap, subst, ◌∙◌, arith, append-nil}
use Rattle.std.proofs.lemmas.Bool.Decides.{nat_tests}
use Rattle.std.proofs.lemmas.List.{append_cancel_left}
use Rattle.std.proofs.lemmas.List.Elements.{All-nil}
use Rattle.gabc_places.specs.StageLaw.{concat_of}
use Rattle.gabc_places.specs.declared.limits.Limits.{Limits}
use Rattle.gabc_places.specs.declared.place.Place.{Place}
use Rattle.gabc_text.specs.declared.text_event.TextEnd.TheVariants as text_end
use Rattle.gabc_text.specs.declared.text_event.TextEvent.TheVariants as text
use Rattle.gabc_text.specs.declared.text_event.TextPart.TheVariants as part
use Rattle.gabc_notes.specs.declared.item.ItemKind.{ItemKind}
use Rattle.gabc_notes.specs.declared.stage.NoteEnd.TheVariants as note_end
use Rattle.gabc_notes.specs.declared.stage.NoteEvent.TheVariants as note
use Rattle.gabc_body.specs.declared.before.Spans.{Spans}
use Rattle.gabc_body.specs.declared.events.BodyEvent.{BodyEvent}
use Rattle.gabc_body.specs.declared.events.BodyEvent.TheVariants as event
use Rattle.gabc_score.specs.declared.preceding.Preceding.{Preceding}
use Rattle.gabc_score.specs.Before.{sounds, sounds_in, with_each}
use Rattle.gabc_body.specs.Body.{is_longer, events_onto, cut_of}
use Rattle.gabc_body.specs.Canonical.{canonical}
use Rattle.gabc_body.specs.OpenSpans.{LeavesOpen}
use Rattle.gabc_body.specs.Syllable.{UnplacedSyllable, all_syllables}
use Rattle.gabc_body.specs.SyllablesOfUnits.{characters_in, score_unit}
use Rattle.gabc_body.specs.UnitRead.{GivesOneSyllable, first_events, emitted_through}
use Rattle.gabc_body.specs.Units.{BodyUnit}
use Rattle.gabc_body.specs.WithinLimits.{KeepsWithin}
use Rattle.gabc_score.specs.machine.Between.{with_one, SoundsNoMore}
use Rattle.gabc_body.specs.witness.BodyBuilder.{with_all}
use Rattle.gabc_body.specs.witness.Gatherer.{Gathered, with_event}
use Rattle.gabc_score.specs.machine.PartKeeps.{ReadAlike}
use Rattle.gabc_score.specs.machine.Preceded.{IsPreceded}
use Rattle.gabc_body.specs.witness.SyllableBuilder.{OpenSyllable, nothing_open}
use Rattle.gabc_body.proofs.gathering.BuilderHoldsDefinition.{gathered}
use Rattle.gabc_body.proofs.order.FindingsOfParts.{found}
use Rattle.gabc_score.proofs.regular_syllables.OneMore.{Fits, Gathers, stays_before}
use Rattle.std.proofs.lemmas.Bool.{or_from}
use Rattle.gabc_score.proofs.resuming.SyllablesOfEvents.{open_of, MadeAlike, made_after, Counts, counts_from, size_of}
use Rattle.gabc_score.proofs.resuming.ScoresAgree.{same_but}
use Rattle.gabc_score.proofs.score_events.WhatPrecedes.{preceded_all}

-- ---- a syllable stands before

event_follows : (g : Gathered) (e : BodyEvent) → g.follows ≡ true → (with_event g e).follows ≡ true
event_follows g (event.Text (text.Part part.WordStart)) h = h
event_follows g (event.Text (text.Ended text_end.Notes)) h = h
event_follows g (event.Notes line (note.Ended note_end.Close n)) h = refl
event_follows g _ h = h

all_follow : (es : List BodyEvent) (g : Gathered) → g.follows ≡ true → (with_all g es).follows ≡ true
all_follow [] g h = h
all_follow (e ∷ es) g h = all_follow es (with_event g e) (event_follows g e h)

-- ---- no bracket is left open

event_cuts : (e : BodyEvent) (before : List BodyEvent) → cut_of (e ∷ before) ≡ None → cut_of before ≡ None
event_cuts e before h = grind arith

all_cut : (es before : List BodyEvent) → cut_of (events_onto es before) ≡ None → cut_of before ≡ None
all_cut [] before h = h
all_cut (e ∷ es) before h = event_cuts e before (all_cut es (e ∷ before) h)

event_cut : (g : Gathered) (e : BodyEvent) (before : List BodyEvent) → cut_of (e ∷ before) ≡ None → (with_event g e).cut ≡ g.cut
event_cut g (event.Text (text.Part part.WordStart)) before h = refl
event_cut g (event.Text (text.Ended (text_end.Cut p))) before h = absurd (cc h)
event_cut g (event.Notes line (note.Ended (note_end.Cut p) n)) before h = absurd (cc h)
event_cut g _ before h = refl

stays_uncut : (es before : List BodyEvent) (g : Gathered) → cut_of (events_onto es before) ≡ None → (with_all g es).cut ≡ g.cut
stays_uncut [] before g h = refl
stays_uncut (e ∷ es) before g h = stays_uncut es (e ∷ before) (with_event g e) h ∙ event_cut g e before (all_cut es (e ∷ before) h)

-- ---- the unit

-- With n bytes of a syllable no limit is passed.
pub record HasRoom (limits : Limits) (g : Gathered) (size : ℕ) : Type 0 where
  pub limit : g.limit ≡ limits.syllable
  pub over : g.over ≡ false
  pub syllable : size ≤ limits.syllable
  pub input : g.total + size + 1 ≤ limits.input

module _ (g : Gathered) (spans : Spans) (nothing : g.builder ≡ nothing_open) (eu : g.eu ≡ spans.eu) (nlba : g.nlba ≡ spans.nlba) (none : g.made ≡ []) (follows : g.follows ≡ true)
    (before : List BodyEvent) (leaves : LeavesOpen spans before) (whole : cut_of before ≡ None) (lines macros : ℕ) (at : Place) (u : BodyUnit) (one : GivesOneSyllable lines macros at u [] before)
    (sounded : SoundsNoMore (is_some g.first_kind) (sounds one.made)) (lists : List (List BodyEvent)) (each : length lists ≡ length (characters_in u)) (are : (n : ℕ) → n ≤ length lists → first_events lines macros at (characters_in u ++ []) n ≡ concat_of (take n lists)) where
  abbrev m : UnplacedSyllable
  m = one.made

  abbrev past : ℕ → Gathered
  past n = with_all g (concat_of (take n lists))

  alike : (n : ℕ) → n ≤ length lists → MadeAlike (all_syllables before) (past n) (gathered 0 0 (events_onto (first_events lines macros at (characters_in u ++ []) n) before))
  alike n h =
      subst (λ (es : List BodyEvent). MadeAlike (all_syllables before) (past n) (gathered 0 0 (events_onto es before))) (sym (are n h))
      (made_after g spans nothing eu nlba none before leaves 0 (omega arith) (concat_of (take n lists)))

  all_are : past (length lists) ≡ with_all g (concat_of lists)
  all_are = ap (λ (ls : List (List BodyEvent)). with_all g (concat_of ls)) (take_all (length lists) lists (omega arith))

  earlier : (n : ℕ) → n < length lists → (past n).made ≡ []
  earlier n h =
      append_cancel_left (all_syllables before) (past n).made []
      (sym (alike n (omega (arith, h))).made ∙ one.none_earlier n (omega (arith, h, each)) ∙ sym (append-nil (all_syllables before)))

  through : MadeAlike (all_syllables before) (with_all g (concat_of lists)) (gathered 0 0 (emitted_through lines macros at u [] before))
  through =
      subst (λ (h : Gathered). MadeAlike (all_syllables before) h (gathered 0 0 (emitted_through lines macros at u [] before))) all_are
      (subst (λ (n : ℕ). MadeAlike (all_syllables before) (past (length lists)) (gathered 0 0 (events_onto (first_events lines macros at (characters_in u ++ []) n) before))) each (alike (length lists) (omega arith)))

  made : (with_all g (concat_of lists)).made ≡ m ∷ []
  made = append_cancel_left (all_syllables before) (with_all g (concat_of lists)).made (m ∷ []) (sym through.made ∙ one.given)

  -- what would give what is gathered before the unit
  abbrev preceding : Preceding
  preceding = record { syllables = 1; canonical = g.total; spans = spans; sounded = is_some g.first_kind }

  preceded_now : IsPreceded preceding g
  preceded_now = grind (arith, or-false, All-nil)

  -- a note or a clef has come then if it had come before
  sounds_on : is_some (with_all g (concat_of lists)).first_kind ≡ is_some g.first_kind
  sounds_on =
      let h = with_all g (concat_of lists) in
      let builder : h.builder ≡ nothing_open = through.read.builder ∙ ap open_of one.nothing_after in
      (preceded_all preceding g (concat_of lists) preceded_now).sounded
      ∙ ap (λ (ms : List UnplacedSyllable). (with_each preceding ms).sounded || sounds_in h.builder.kept h.builder.snippets) made
      ∙ ap (λ (o : OpenSyllable). (is_some g.first_kind || sounds m) || sounds_in o.kept o.snippets) builder
      ∙ or-false (is_some g.first_kind || sounds m) ∙ sounded

  counted : Counts g (with_all g (concat_of lists))
  counted = counts_from g none (concat_of lists)

  -- ---- within the limits

  module _ (limits : Limits) (size : ℕ) (room : HasRoom limits g size) (keeps : KeepsWithin limits.syllable (score_unit u [])) (short : length (canonical m.text.word_start m) ≤ size) where
    size_few : size_of g.follows m ≤ size
    size_few = let s : size_of g.follows m ≡ size_of true m = ap (λ (b : Bool). size_of b m) follows in omega (arith, s, short)

    kept_few : (n : ℕ) → n ≤ length lists → length (past n).builder.kept ≤ limits.syllable
    kept_few n h = let e = ap (λ o. length o.kept) (alike n h).read.builder in let k = one.few_on_the_way limits.syllable n keeps (omega (arith, h, each)) in omega (arith, e, k)

    fits : (n : ℕ) → n < length lists → (more : Bool) → nat_lt (suc n) (length lists) ≡ more → Fits limits (past (suc n))
    fits n h true t =
        let c = counts_from g none (concat_of (take (suc n) lists)) in
        let ms = earlier (suc n) (grind (arith, nat_tests, t)) in
        let k = kept_few (suc n) (omega (arith, h)) in
        let l = c.limit in let l2 = room.limit in let total = (c.none ms).1.0 in let input = room.input in
        record { kept = omega (arith, k, l, l2); over = (c.none ms).0 ∙ room.over; total = omega (arith, total, input) }
    fits n h false t =
        let c = counts_from g none (concat_of (take (suc n) lists)) in
        let last : past (suc n) ≡ with_all g (concat_of lists) = ap (λ (ls : List (List BodyEvent)). with_all g (concat_of ls)) (take_all (suc n) lists (grind (arith, nat_tests, t))) in
        let one_more = c.one m (ap (λ (h : Gathered). h.made) last ∙ made) in
        let k = kept_few (suc n) (omega (arith, h)) in
        let l = c.limit in let l2 = room.limit in let total = one_more.1 in let input = room.input in let few = size_few in let all = one.few limits.syllable keeps in let syllable = room.syllable in
        let long : is_longer g.limit m.kept ≡ false = grind (arith, nat_tests, all, l2) in
        let wide : nat_lt g.limit (size_of g.follows m) ≡ false = grind (arith, nat_tests, few, syllable, l2) in
        record { kept = omega (arith, k, l, l2); over = one_more.0 ∙ or_from g.over _ room.over (or_from (is_longer g.limit m.kept) _ long wide); total = omega (arith, total, input, few) }

    pub unit_gathers : found (concat_of lists) ≡ [] → Gathers limits g lists m
    unit_gathers quiet = record { none = none; sounded = sounds_on; earlier = earlier; made = made; fits = λ n h. fits n h (nat_lt (suc n) (length lists)) refl; nothing = quiet }

  -- ---- what is gathered then

  pub unit_is_gathered : (ms : List UnplacedSyllable) → record (with_all g (concat_of lists)) { made = m ∷ [] } ≡ with_one (record g { made = ms }) m
  unit_is_gathered ms =
      let h = with_all g (concat_of lists) in
      let after = with_one (record g { made = ms }) m in
      let events = emitted_through lines macros at u [] before in
      let uncut : h.cut ≡ g.cut = stays_uncut (concat_of lists) before g (ap (λ (es : List BodyEvent). cut_of (events_onto es before)) (sym whole_is) ∙ one.uncut ∙ whole) in
      let read : ReadAlike after h = record {
        builder = sym (through.read.builder ∙ ap open_of one.nothing_after);
        eu = sym (through.read.eu ∙ one.open_eu);
        nlba = sym (through.read.nlba ∙ one.open_nlba);
      } in
      let counts = counted.one m made in
      ap (λ (k : Gathered). record k { made = m ∷ [] }) (same_but after h (sym counted.limit) read (sym (all_follow (concat_of lists) g follows)) (sym counts.1) (sym counts.0) (sym uncut))
      ∙ ap (λ (k : Option ItemKind). record after { first_kind = k }) (stays_before (concat_of lists) [] g (ap (λ (es : List BodyEvent). is_some (with_all g es).first_kind) (append-nil (concat_of lists)) ∙ sounds_on))
    where
      whole_is : first_events lines macros at (characters_in u ++ []) (length (characters_in u)) ≡ concat_of lists
      whole_is =
          ap (λ (n : ℕ). first_events lines macros at (characters_in u ++ []) n) (sym each)
          ∙ are (length lists) (omega arith) ∙ ap (λ (ls : List (List BodyEvent)). concat_of ls) (take_all (length lists) lists (omega arith))
