-- Two stages over a score that hold and report the same give the same, but for the pending
-- syllable.
use Rattle.std.proofs.Common.{◌≡◌, inl, inr, ℕ, ◌≤◌, ◌==◌, ◌||◌, not, nat_lt, List, [], ◌∷◌, length, Bool, false, Option, Some, is_some, refl, sym, ap, ◌∙◌, arith}
use Rattle.std.proofs.lemmas.Str.{encodes_same}
use Rattle.gabc_headers.specs.declared.head_event.HeadEvent.{HeadEvent}
use Rattle.gabc_text.specs.BuiltText.{empty_view}
use Rattle.gabc_notes.specs.declared.item.ItemKind.{ItemKind}
use Rattle.gabc_body.specs.declared.before.Before.{Before}
use Rattle.gabc_score.specs.declared.preceding.Preceding.{Preceding}
use Rattle.gabc_score.specs.declared.score_machine.ScoreMachine.{ScoreMachine}
use Rattle.gabc_score.specs.declared.score_machine.ScorePart.{ScorePart}
use Rattle.gabc_score.specs.declared.score_machine.ScorePart.TheVariants as score_part
use Rattle.gabc_score.specs.Before.{with_each, preceding_of}
use Rattle.gabc_score.specs.HeldAside.{IsEquivalentSyllable, IsSameOutput, AreSameOutputs, AreSameLists, HoldTheSame, GiveTheSame}
use Rattle.gabc_body.specs.ScoreEvents.{ScoreOutput, characters_in}
use Rattle.gabc_score.specs.ScoreReports.{before_with, held_in_body, in_body, reading_in_body}
use Rattle.gabc_body.specs.Syllable.{UnplacedSyllable}
use Rattle.gabc_body.specs.witness.Gatherer.{Gathered}
use Rattle.gabc_score.specs.machine.HeldAside.{AreInputsAlike, AreMadeAlike, IsEquivalentAside}
use Rattle.gabc_score.specs.machine.PartKeeps.{joined, PartKeeps, ReadAlike}
use Rattle.gabc_score.specs.machine.ScoreMachine.{has_given, held_score, IsInBody}
use Rattle.gabc_score.specs.machine.ScoreStage.{body_left}
use Rattle.gabc_score.specs.machine.StageLaws.{Again}
use Rattle.gabc_score.specs.witness.BodyStage.{running_events_left}
use Rattle.gabc_score.proofs.resuming.PartsAreOne.{parts_are_one}
use Rattle.gabc_score.proofs.resuming.OutputDiffersOnlyInPendingSyllable.{left_same}
use Rattle.gabc_score.proofs.resuming.StagesAgree.{KeepTheSame}
use Rattle.gabc_score.proofs.score_events.WhatPrecedes.{not_some}

-- ---- the same outputs, if the one syllable is the other

dummy : UnplacedSyllable
dummy = record { text = empty_view; kept = []; snippets = []; eu = false; nlba = false }

output_is : (m : UnplacedSyllable) (o p : ScoreOutput) → IsSameOutput m m o p → o ≡ p
output_is m o p h = grind arith

outputs_are : (m : UnplacedSyllable) (os ps : List ScoreOutput) → AreSameOutputs m m os ps → os ≡ ps
outputs_are m [] [] h = refl
outputs_are m (o ∷ os) (p ∷ ps) h = ap (λ k. k ∷ os) (output_is m o p h.0) ∙ ap (λ k. p ∷ k) (outputs_are m os ps h.1)
outputs_are m _ _ h = absurd h

lists_are : (m : UnplacedSyllable) (ls ks : List (List ScoreOutput)) → AreSameLists m m ls ks → ls ≡ ks
lists_are m [] [] h = refl
lists_are m (l ∷ ls) (k ∷ ks) h = ap (λ x. x ∷ ls) (outputs_are m l k h.0) ∙ ap (λ x. k ∷ x) (lists_are m ls ks h.1)
lists_are m _ _ h = absurd h

-- ---- what was gathered

come_alike : (x y : Option ItemKind) → is_some x ≡ is_some y → AreInputsAlike x y
come_alike x y e = grind arith

pub same_but : (g h : Gathered) → g.limit ≡ h.limit → ReadAlike g h → g.follows ≡ h.follows → g.total ≡ h.total → g.over ≡ h.over → g.cut ≡ h.cut → h ≡ record g { made = h.made; first_kind = h.first_kind }
same_but g h limit read follows total over cut = rw (limit, read.builder, read.eu, read.nlba, follows, total, over, cut) refl

-- ---- syllables that say the same, after the same

says_after : (p : Preceding) (m n : UnplacedSyllable) → IsEquivalentSyllable (p.syllables == 0) m n → with_each p (m ∷ []) ≡ with_each p (n ∷ [])
says_after p m n s = rw (s.canonical, s.eu, s.nlba, s.sounds) refl

-- held syllables, at most one each, that are equivalent
abbrev pub PendingAreEquivalent : Bool → List UnplacedSyllable → List UnplacedSyllable → Type 0
PendingAreEquivalent first ms ns = (length ms ≤ 1) × ((length ns ≤ 1) × HoldTheSame first (held_in_body score_part.Body ms) (held_in_body score_part.Body ns))

each_same : (p : Preceding) (ms ns : List UnplacedSyllable) → PendingAreEquivalent (p.syllables == 0) ms ns → with_each p ms ≡ with_each p ns
each_same p [] [] h = refl
each_same p (m ∷ []) (n ∷ []) h = says_after p m n h.1.1
each_same p (m ∷ k ∷ ms) ns h = absurd (omega (arith, h.0))
each_same p (m ∷ []) (n ∷ k ∷ ns) h = absurd (omega (arith, h.1.0))
each_same p _ _ h = absurd h.1.1

-- ---- what is reported in the body

pub reads_in_body : (p : ScorePart) (kept : List ℕ) → p ≡ score_part.Body → reading_in_body p kept ≡ kept
reads_in_body p kept e = ap (λ (k : ScorePart). reading_in_body k kept) e

pub before_is_reported : (p q : ScorePart) (b c : Before) → p ≡ score_part.Body → q ≡ score_part.Body → in_body p b ≡ in_body q c → b ≡ c
before_is_reported p q b c e f same = let some : Some b ≡ Some c = rw (e, f) at same in cc

-- ---- two machines in the body

module _ (again : Again) (a b : ScoreMachine) (ra : IsInBody a) (rb : IsInBody b) (same_limits : a.limits ≡ b.limits) (before : before_with a.body a.pair.contexts.before ≡ before_with b.body b.pair.contexts.before)
    (reading : a.pair.gathered.builder.kept ≡ b.pair.gathered.builder.kept) where
  same_lines : a.body.nabc_lines ≡ b.body.nabc_lines
  same_lines = ap (λ (k : Before). k.nabc_lines) before

  same_macros : a.body.macros ≡ b.body.macros
  same_macros = ap (λ (k : Before). k.macros) before

  same_before : a.pair.contexts.before ≡ b.pair.contexts.before
  same_before = ap (λ (k : Before). preceding_of k) before

  other_keeps : PartKeeps a.body.nabc_lines a.body.macros b.body.part rb.reading.parts
  other_keeps = rw (same_lines, same_macros) rb.reading.keeps

  same_parts : ra.reading.parts ≡ rb.reading.parts
  same_parts =
      parts_are_one again a.body.nabc_lines a.body.macros a.body.part b.body.part ra.reading.parts rb.reading.parts ra.reading.keeps other_keeps
      (encodes_same (joined ra.reading.parts) (joined rb.reading.parts) (sym ra.reading.kept ∙ reading ∙ rb.reading.kept))

  -- the two parts keep the same
  pub bodies_keep : KeepTheSame a.body.nabc_lines a.body.macros a.body.part b.body.part
  bodies_keep = record { parts = ra.reading.parts; one = ra.reading.keeps; other = rw same_parts other_keeps }

  module _ (next : a.next ≡ b.next) (alike : PendingAreEquivalent (a.pair.contexts.before.syllables == 0) a.pair.gathered.made b.pair.gathered.made) where
    after_same : with_each a.pair.contexts.before a.pair.gathered.made ≡ with_each b.pair.contexts.before b.pair.gathered.made
    after_same = each_same a.pair.contexts.before a.pair.gathered.made b.pair.gathered.made alike ∙ ap (λ (p : Preceding). with_each p b.pair.gathered.made) same_before

    same_spans : a.pair.contexts.after.spans ≡ b.pair.contexts.after.spans
    same_spans = ap (λ (p : Preceding). p.spans) (ra.after ∙ after_same ∙ sym rb.after)

    read_alike : ReadAlike a.pair.gathered b.pair.gathered
    read_alike = grind (arith, same_spans, same_lines, same_parts)

    sounds_same : is_some a.pair.gathered.first_kind ≡ is_some b.pair.gathered.first_kind
    sounds_same = grind (arith, after_same, read_alike)

    lent_same : has_given a ≡ has_given b
    lent_same = ap (λ (p : Preceding). nat_lt 0 p.syllables) same_before

    aside : (m n : UnplacedSyllable) → AreMadeAlike m n (has_given a) a.pair.gathered.made b.pair.gathered.made → IsEquivalentAside m n (has_given a) a.pair.gathered b.pair.gathered
    aside m n made = grind (arith, come_alike, sounds_same, same_but, read_alike, after_same)

    abbrev left_of_one : List HeadEvent → List (List ScoreOutput)
    left_of_one xs = body_left a.limits (held_score a) (running_events_left a.body (characters_in xs)) xs

    abbrev left_of_other : List HeadEvent → List (List ScoreOutput)
    left_of_other xs = body_left b.limits (held_score b) (running_events_left b.body (characters_in xs)) xs

    -- What is left for them is the same, but for the held syllable, if their bodies emit the same.
    pub bodies_give : (xs : List HeadEvent) → running_events_left a.body (characters_in xs) ≡ running_events_left b.body (characters_in xs)
        → GiveTheSame (held_in_body score_part.Body a.pair.gathered.made) (held_in_body score_part.Body b.pair.gathered.made) (left_of_one xs) (left_of_other xs)
    bodies_give xs events = by a.pair.gathered.made b.pair.gathered.made refl refl alike
      where
        left : (m n : UnplacedSyllable) → AreMadeAlike m n (has_given a) a.pair.gathered.made b.pair.gathered.made → AreSameLists m n (left_of_one xs) (left_of_other xs)
        left m n made = rw (sym same_limits, sym next, sym lent_same, sym events) (left_same m n a.limits xs (running_events_left a.body (characters_in xs)) (held_score a) b.pair.gathered (aside m n made))

        twins : (m n : UnplacedSyllable) → IsEquivalentSyllable (a.pair.contexts.before.syllables == 0) m n → (not (has_given a) || m.text.word_start) ≡ (not (has_given a) || n.text.word_start)
        twins m n s = rw (not_some a.pair.contexts.before.syllables) s.starts

        by : (ms ns : List UnplacedSyllable) → a.pair.gathered.made ≡ ms → b.pair.gathered.made ≡ ns → PendingAreEquivalent (a.pair.contexts.before.syllables == 0) ms ns
            → GiveTheSame (held_in_body score_part.Body ms) (held_in_body score_part.Body ns) (left_of_one xs) (left_of_other xs)
        by [] [] e f h = lists_are dummy _ _ (left dummy dummy (inl (f ∙ sym e)))
        by (m ∷ []) (n ∷ []) e f h = left m n (inr (record { rest = []; one = e; other = f; twins = twins m n h.1.1 }))
        by (m ∷ k ∷ ms) ns e f h = absurd (omega (arith, h.0))
        by (m ∷ []) (n ∷ k ∷ ns) e f h = absurd (omega (arith, h.1.0))
        by _ _ e f h = absurd h.1.1
