-- At the end only a last text is made, which has no notes.
use Rattle.std.proofs.Common.{◌≡◌, ◌≤◌, Bool, true, false, List, [], ◌∷◌, length, refl, eq-eqb, arith, not}
use Rattle.std.specs.List.{list_any}
use Rattle.std.proofs.lemmas.List.Elements.{All-nil, All-push}
use Rattle.gabc_score.specs.declared.body_stage.BodyPart.{BodyPart}
use Rattle.gabc_body.specs.declared.events.BodyEvent.{BodyEvent}
use Rattle.gabc_body.specs.Body.{has_text}
use Rattle.gabc_body.specs.Events.{events_at_end}
use Rattle.gabc_score.specs.NoNotes.{OnlyFirstHasNotes, has_no_notes}
use Rattle.gabc_body.specs.Syllable.{UnplacedSyllable, PlacedSyllable, closes}
use Rattle.gabc_body.specs.witness.BodyBuilder.{with_all}
use Rattle.gabc_body.specs.witness.Gatherer.{Gathered, with_last, with_no_notes, with_syllable}
use Rattle.gabc_score.specs.machine.ScoreStage.{placed_after}
use Rattle.gabc_score.specs.witness.BodyStage.{BodyStageState, part_with, running_events_left}
use Rattle.gabc_score.proofs.building.PartsMakeSyllables.{made_stays, texts_close_none}
use Rattle.gabc_score.proofs.score_events.FewAndShortAreLent.{one_at_most, placed_count}
use Rattle.std.proofs.lemmas.Bool.{cond_both}

-- ---- no `)` is emitted at the end

ends_close_none : (p : BodyPart) → list_any closes (events_at_end (part_with p [])) ≡ false
ends_close_none p = grind (arith, texts_close_none)

-- so nothing is made of what is emitted there
pub none_made_at_end : (r : BodyStageState) (g : Gathered) (now : List BodyEvent) → running_events_left r [] ≡ now ∷ [] → (with_all g now).made ≡ g.made
none_made_at_end r g now law = grind (arith, made_stays, ends_close_none)

-- ---- the last text

-- if one syllable is held at most, what is made last has no notes
pub last_has_no_notes : (is_preceded : Bool) (g : Gathered) → length g.made ≤ 1 → OnlyFirstHasNotes (placed_after is_preceded (with_last g).made)
last_has_no_notes is_preceded g one =
    cond_both (has_text g.builder.view) (with_syllable (with_no_notes g)) g (λ (k : Gathered). OnlyFirstHasNotes (placed_after is_preceded k.made)) (λ e. by g.made one)
    (λ e. one_at_most (placed_after is_preceded g.made) (rw (placed_count (not is_preceded) g.made) one))
  where
    by : (ms : List UnplacedSyllable) → length ms ≤ 1 → OnlyFirstHasNotes (placed_after is_preceded (with_syllable (with_no_notes (record g { made = ms }))).made)
    by [] few = All-nil (λ (t : PlacedSyllable). has_no_notes t.made ≡ true)
    by (m ∷ []) few = All-push (λ (t : PlacedSyllable). has_no_notes t.made ≡ true) [] _ (All-nil (λ (t : PlacedSyllable). has_no_notes t.made ≡ true)) (eq-eqb (length g.builder.kept) _ refl)
    by (m ∷ n ∷ ms) few = absurd (omega (arith, few))
