-- A run begins with the pending syllable.
use Rattle.std.proofs.Math.Bool.{or-false}
use Rattle.std.proofs.Common.{◌≡◌, ◌||◌, not, Bool, List, [], ◌∷◌, length, is_some, refl, sym, ap, ap₂, subst, ◌∙◌, arith}
use Rattle.std.proofs.lemmas.List.Elements.{All-nil, All-cons, All-head}
use Rattle.std.specs.List.{All}
use Rattle.gabc_places.specs.TextOfAnInput.{IsPlain}
use Rattle.gabc_places.specs.declared.place.Place.{Place}
use Rattle.gabc_score.specs.declared.preceding.Preceding.{Preceding}
use Rattle.gabc_score.specs.declared.score_machine.ScoreMachine.{ScoreMachine}
use Rattle.gabc_score.specs.Before.{with_one, with_each}
use Rattle.gabc_body.specs.Canonical.{position_by}
use Rattle.gabc_score.specs.ScoreStage.{IsWithin}
use Rattle.gabc_body.specs.Syllable.{UnplacedSyllable}
use Rattle.gabc_score.specs.machine.PartKeeps.{begun, ReadAlike}
use Rattle.gabc_score.specs.machine.Run.{IsBetweenSyllables, RunsBefore}
use Rattle.gabc_score.specs.machine.ScoreMachine.{has_given, held_score, IsShort}
use Rattle.gabc_body.specs.witness.SyllableBuilder.{OpenSyllable}
use Rattle.gabc_score.proofs.resuming.NothingIsRead.{nothing_alike}
use Rattle.gabc_score.proofs.score_events.FewAndShortAreLent.{short_within}
use Rattle.gabc_score.proofs.runs.Throughs.{through_none}

-- the one that is held
pub held_of : (made : List UnplacedSyllable) → length made ≡ 1 → (m : UnplacedSyllable) × (made ≡ m ∷ [])
held_of [] e = absurd (omega (arith, e))
held_of (m ∷ []) e = (m, refl)
held_of (m ∷ n ∷ made) e = absurd (omega (arith, e))

module _ (m : ScoreMachine) (at : Place) (held : UnplacedSyllable) (stands : IsBetweenSyllables m at) (one : m.pair.gathered.made ≡ held ∷ []) where
  after_is : m.pair.contexts.after ≡ with_one m.pair.contexts.before held
  after_is = stands.rests.after ∙ ap (with_each m.pair.contexts.before) one

  total_is : m.pair.gathered.total ≡ m.pair.contexts.after.canonical
  total_is = stands.rests.preceded.total ∙ ap (λ (p : Preceding). p.canonical) (sym stands.rests.after)

  sounded_is : is_some m.pair.gathered.first_kind ≡ m.pair.contexts.after.sounded
  sounded_is = grind (arith, or-false)

  alike : ReadAlike m.pair.gathered (begun m.pair.contexts.after.spans)
  alike = nothing_alike m.body.nabc_lines m.body.macros m.body.part m.pair.contexts.after.spans m.pair.gathered stands.rests.reading (ap (λ (o : OpenSyllable). o.kept) stands.between.nothing)

  gathered_is : m.pair.gathered ≡ record m.pair.gathered { made = held ∷ []; total = m.pair.contexts.after.canonical; eu = m.pair.contexts.after.spans.eu; nlba = m.pair.contexts.after.spans.nlba }
  gathered_is =
      ap (λ (ms : List UnplacedSyllable). record m.pair.gathered { made = ms }) one ∙ ap (λ n. record m.pair.gathered { made = held ∷ []; total = n }) total_is
      ∙ ap₂ (λ a b. record m.pair.gathered { made = held ∷ []; total = m.pair.contexts.after.canonical; eu = a; nlba = b }) alike.eu alike.nlba

  -- nothing is read yet, and it is given
  pub run_begins : (starts : Bool) → RunsBefore m at [] (record { made = held; position = position_by (not (has_given m) || held.text.word_start) starts } ∷ []) starts m.pair.contexts.after at
  run_begins starts = record {
    held = held;
    s = held_score m;
    earlier = [];
    through = through_none m.limits m.body.nabc_lines m.body.macros at (held_score m);
    gathered = gathered_is;
    given_are = refl;
    before = after_is;
    place = refl;
    within = All-cons (IsWithin m.limits) _ [] (short_within m.limits (position_by (not (has_given m) || held.text.word_start) starts) held
        (All-head (IsShort m.limits.syllable) held [] (subst (All (IsShort m.limits.syllable)) one stands.rests.rests.short))) (All-nil (IsWithin m.limits));
    plain = All-nil IsPlain;
    few = omega arith;
    some = (let e = ap (λ (p : Preceding). p.syllables) after_is in omega (arith, e));
    sounded = sounded_is;
    input = (let t = total_is in let room = stands.between.total in omega (arith, t, room));
  }
