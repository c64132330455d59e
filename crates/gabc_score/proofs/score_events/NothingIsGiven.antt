-- A character at which nothing is found, no syllable becomes whole and no limit is passed: nothing
-- is given.
use Rattle.gabc_score.proofs.building.EventsAreGatheredInTurn.{none_closes}
use Rattle.std.proofs.Common.{◌≡◌, ℕ, ◌+◌, ◌-◌, ◌≤◌, ◌||◌, ◌&&◌, not, nat_lt, Bool, false, cond, List, [], length, take, Option, Some, None, refl, sym, ap, ◌∙◌, arith, append-nil}
use Rattle.std.specs.List.{list_any}
use Rattle.std.proofs.lemmas.Bool.Decides.{nat_tests}
use Rattle.gabc_places.specs.BoundedList.{BoundedList}
use Rattle.gabc_places.specs.Place.{saturating_next_place}
use Rattle.gabc_places.specs.declared.code.Code.{Code}
use Rattle.gabc_places.specs.declared.code.Code.TheVariants.{F5, F7}
use Rattle.gabc_places.specs.declared.code.Finding.{Finding}
use Rattle.gabc_places.specs.declared.limits.Limits.{Limits}
use Rattle.gabc_places.specs.declared.place.Char.{Char}
use Rattle.gabc_score.specs.declared.score_event.ScoreEvent.{ScoreEvent}
use Rattle.gabc_score.specs.declared.score_machine.ScoreMachine.{ScoreMachine}
use Rattle.gabc_score.specs.declared.slot_pair.SlotUse.TheVariants.{Filling}
use Rattle.gabc_body.specs.Body.{is_longer, is_none}
use Rattle.gabc_body.specs.Syllable.{UnplacedSyllable, closes}
use Rattle.gabc_body.specs.witness.BodyBuilder.{code_in}
use Rattle.gabc_score.specs.machine.ReadsChar.{Gathers, Passes, ReadsChar, found_past, goes}
use Rattle.gabc_score.specs.machine.ScoreMachine.{IsInBody}
use Rattle.gabc_score.specs.machine.ScoreStage.{placed_after}
use Rattle.gabc_score.specs.machine.SlotPair.{SlotPairState, is_made, is_preceded}
use Rattle.gabc_score.specs.witness.BodyStage.{BodyStageState}
use Rattle.gabc_score.proofs.building.PartsMakeSyllables.{whole_in, whole_stays}
use Rattle.gabc_score.proofs.resuming.CharactersGathered.{held_all}

-- which limit is passed, by whether the kept text is longer than a syllable may be
abbrev code_at : Limits → Bool → List UnplacedSyllable × (ℕ × Bool) → Option Code
code_at limits longer w = cond (longer || w.1.1) (Some F5) (cond (not (is_none w.0) && nat_lt limits.input (w.1.0 + 1)) (Some F7) None)

module _ {m : ScoreMachine} {x : Char} {b : BodyStageState} {p : SlotPairState} {f : BoundedList Finding} (h : IsInBody m) (a : Gathers m x b p f)
    (used : p.used ≡ Filling) (short : length p.gathered.builder.kept ≤ p.gathered.limit) where
  whole : whole_in p.gathered ≡ whole_in m.pair.gathered
  whole = ap whole_in a.gathered ∙ whole_stays b.events m.pair.gathered (none_closes p.used (list_any closes b.events) a.used used)

  pub none : code_in m.limits p.gathered ≡ None
  none =
      let now : is_longer p.gathered.limit p.gathered.builder.kept ≡ false = grind (arith, nat_tests, short) in
      let before : is_longer m.pair.gathered.limit m.pair.gathered.builder.kept ≡ false = let k = h.kept in let l = h.rests.limit in grind (arith, nat_tests, k, l) in
      ap (λ l. code_at m.limits l (whole_in p.gathered)) now ∙ ap (code_at m.limits false) whole ∙ sym (ap (λ l. code_at m.limits l (whole_in m.pair.gathered)) before) ∙ h.code

  few : length p.gathered.made ≤ 1
  few = let n = ap (λ w. length w.0) whole in let one = a.one in omega (arith, n, one)

  pub fewer : nat_lt (length p.held) (length p.gathered.made) ≡ false
  fewer = let e = ap length a.held in let n = ap (λ w. length w.0) whole in grind (arith, nat_tests, e, n)

  module _ (out : BoundedList ScoreEvent) (nothing : (found_past m x p f).items ≡ []) where
    none_given : take (length p.gathered.made - 1) (placed_after (is_preceded p) p.gathered.made) ≡ []
    none_given = let n : length p.gathered.made - 1 ≡ 0 = omega (arith, few) in ap (λ n. take n (placed_after (is_preceded p) p.gathered.made)) n

    passes : Passes m x p f p (found_past m x p f) out out
    passes = record {
      none = none;
      given = record {
        gathered = sym (held_all p.gathered few);
        used = ap is_made used;
        contexts = rw fewer refl;
        emitted = rw (nothing, none_given) (record { events = ap (λ (es : List ScoreEvent). record out { items = es }) (sym (append-nil out.items)); few = omega arith; lent = refl });
        few = rw none_given (omega arith);
        found = ap (λ (fs : List Finding). record (found_past m x p f) { items = fs }) nothing;
      };
    }

    pub nothing_given : ReadsChar m x out out (record m { body = b; pair = p; found = found_past m x p f; next = saturating_next_place x.place x.c })
    nothing_given = goes a passes
