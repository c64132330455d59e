-- The last syllable of a run, which is pending after it.
use Rattle.std.proofs.Common.{◌≡◌, ℕ, ◌+◌, ◌<◌, ◌^◌, nat_lt, Bool, true, List, [], ◌++◌, length, refl, sym, ap, subst, ◌∙◌, arith}
use Rattle.std.specs.Str.{chars}
use Rattle.gabc_places.specs.Place.{place_past}
use Rattle.gabc_places.specs.declared.place.Place.{Place}
use Rattle.gabc_score.specs.declared.preceding.Preceding.{Preceding}
use Rattle.gabc_score.specs.declared.run.Found.{Found}
use Rattle.gabc_score.specs.declared.score_machine.ScoreMachine.{ScoreMachine}
use Rattle.gabc_body.specs.Syllable.{UnplacedSyllable, PlacedSyllable}
use Rattle.gabc_score.specs.machine.Between.{StepsOver, GathersOneSyllable, ReadsAlike, lists_between, after_one, with_one}
use Rattle.gabc_body.specs.witness.Gatherer.{Gathered}
use Rattle.gabc_score.specs.machine.Run.{IsFound, KeepsFirstSound, IsBetweenSyllables, RunsBefore}
use Rattle.gabc_score.specs.machine.ScoreMachine.{held_score}
use Rattle.gabc_score.specs.machine.ScoreStage.{HeldScore}
use Rattle.gabc_score.proofs.runs.FoundSyllable.{characters_are}
use Rattle.gabc_score.proofs.runs.RunTakesOneMoreSyllable.{MakeSyllables, r, spans, between, leaves, steady_one, through_all, found_one, lent_is}

-- what a machine has gathered that goes on before the syllable after these
abbrev pub before_last : ScoreMachine → Preceding → Gathered
before_last m p = record m.pair.gathered { made = []; total = p.canonical; eu = p.spans.eu; nlba = p.spans.nlba }

-- Through the syllable that was found the run gives those before it, and then holds it, as a
-- machine does that reads it while none is held.
pub record EndsWith (m : ScoreMachine) (at : Place) (t : List ℕ) (given : List PlacedSyllable) (p : Preceding) (f : Found) (next : Place) : Type 0 where
  pub made : UnplacedSyllable
  pub through : StepsOver m.limits m.body.nabc_lines m.body.macros at (held_score m) (t ++ chars f.spelled.now) given (place_past next (chars f.spelled.now)) (record { next = place_past next (chars f.spelled.now); gathered = with_one (before_last m p) made; is_preceded = true })
  pub alone : GathersOneSyllable m.limits (before_last m p) (lists_between m.body.nabc_lines m.body.macros next (chars f.spelled.now)) made

module _ (m : ScoreMachine) (at : Place) (t : List ℕ) (given : List PlacedSyllable) (starts : Bool) (p : Preceding) (next : Place) (runs : RunsBefore m at t given starts p next)
    (stands : IsBetweenSyllables m at) (f : Found) (found : IsFound m.body.nabc_lines m.limits p.canonical f) (start : nat_lt 0 f.gap ≡ starts)
    (steady : KeepsFirstSound m.body.nabc_lines m.pair.gathered.first_kind found.is.syllable) where
  module _ (one : UnplacedSyllable) (makes : ReadsAlike m.body.nabc_lines m.body.macros next (r m at t given starts p next runs stands f found start steady) (spans m at t given starts p next runs stands f found start steady) one) where
    ends_by : EndsWith m at t given p f next
    ends_by = record {
      made = one;
      through = subst (StepsOver m.limits m.body.nabc_lines m.body.macros at (held_score m) (t ++ chars f.spelled.now) given (place_past next (chars f.spelled.now))) after
          (through_all m at t given starts p next runs stands f found start steady one makes);
      alone = subst (λ (u : List ℕ). GathersOneSyllable m.limits (before_last m p) (lists_between m.body.nabc_lines m.body.macros next u) one) (sym (characters_are f m.body.nabc_lines p.canonical m.limits found))
          (makes.alone m.limits none (between m at t given starts p next runs stands f found start steady one makes none [] (omega arith) refl)
          (steady_one m at t given starts p next runs stands f found start steady one makes none.gathered refl) refl refl
          (leaves m at t given starts p next runs stands f found start steady one makes (before_last m p) refl));
    }
      where
        none : HeldScore
        none = record { next = next; gathered = before_last m p; is_preceded = true }

        after : after_one runs.s (place_past next (chars f.spelled.now)) one ≡ record { next = place_past next (chars f.spelled.now); gathered = with_one (before_last m p) one; is_preceded = true }
        after =
            ap (λ (g : Gathered). record { next = place_past next (chars f.spelled.now); gathered = with_one g one; is_preceded = (after_one runs.s (place_past next (chars f.spelled.now)) one).is_preceded }) runs.gathered
            ∙ ap (λ b. record { next = place_past next (chars f.spelled.now); gathered = with_one (before_last m p) one; is_preceded = b }) (lent_is m at t given starts p next runs stands f found start steady one makes)

  pub run_ends : MakeSyllables → next.line + length f.spelled.now < 2 ^ 63 → next.column + length f.spelled.now < 2 ^ 63 → EndsWith m at t given p f next
  run_ends law line column =
      let found_is = found_one m at t given starts p next runs stands f found start steady law line column in
      ends_by found_is.0 found_is.1
