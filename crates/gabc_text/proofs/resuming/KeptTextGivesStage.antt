-- A fresh stage that reads a kept text again is the stage that kept it.
use Rattle.std.proofs.Common.{arith, ◌≡◌, ◌==◌, ◌&&◌, ℕ, List, [], ◌∷◌, ◌++◌, Bool, true, false, Option, is_some, option_map, refl, sym, ap, ◌∙◌, subst, append-nil}
use Rattle.std.specs.Option.{unwrap_or}
use Rattle.std.proofs.lemmas.Bool.{eqb-true}
use Rattle.gabc_places.specs.declared.place.Place.{Place}
use Rattle.gabc_text.specs.declared.text_event.TextEvent.{TextEvent}
use Rattle.gabc_text.specs.declared.stage.TextStage.{TextStage}
use Rattle.gabc_text.specs.BuiltText.{kept_in}
use Rattle.gabc_text.specs.witness.Keeps.{Keeps, KeepsOn, GoesOn, end_text, begins_comment}
use Rattle.gabc_text.specs.StageReports.{opener_of, is_in_comment}
use Rattle.gabc_text.proofs.resuming.StagesKeep.{kept_again, comment_not_kept, comment_open, opener_open}

-- the stage keeps k, and a comment is open in it or not
pub record IsBack (k : List ℕ) (comment : Bool) (s : TextStage) : Type 0 where
  pub keeps : Keeps s k
  pub comment_is : is_in_comment s ≡ comment

module _ (k : List ℕ) (s : TextStage) (back : IsBack k false s) where
  -- a character of the text that is kept
  pub reads_on : (whole : TextStage) (c : ℕ) (b : List ℕ) (events : List TextEvent) (after : TextStage) → Keeps whole (k ++ c ∷ b) → KeepsOn s c events after → IsBack (k ++ c ∷ []) false after
  reads_on whole c b events after keeps on = record {
    keeps = subst (λ (t : List ℕ). Keeps after (k ++ t)) one goes.keeps;
    comment_is = goes.comment ∙ rw back.comment_is (none (c == 37) (begins_comment k) refl refl);
  }
    where
      one : kept_in events ≡ c ∷ []
      one = on.kept k back.keeps back.comment_is ∙ kept_again whole k b c keeps

      still : (d : Bool) → end_text events ≡ d → d ≡ false
      still d e = grind (arith, one)

      goes : GoesOn s k c events after
      goes = on.goes k back.keeps (still (end_text events) refl)

      none : (a d : Bool) → (c == 37) ≡ a → begins_comment k ≡ d → (a && d) ≡ false
      none a d e f = grind (arith, kept_again, eqb-true, comment_not_kept)

  -- the `%` of a comment
  pub comment_back : (whole : TextStage) (events : List TextEvent) (after : TextStage) → Keeps whole k → is_in_comment whole ≡ true → KeepsOn s 37 events after → IsBack k true after
  comment_back whole events after keeps comment on = record {
    keeps = subst (Keeps after) (ap (λ (t : List ℕ). k ++ t) (on.kept k back.keeps back.comment_is ∙ comment_not_kept k begins) ∙ append-nil k) goes.keeps;
    comment_is = goes.comment ∙ rw (back.comment_is, begins) refl;
  }
    where
      begins : begins_comment k ≡ true
      begins = comment_open whole k keeps comment

      goes : GoesOn s k 37 events after
      goes = on.goes k back.keeps (on.end k back.keeps ∙ rw back.comment_is refl)

-- what is open in two stages after one text, where it begins at the same place
pub opener_back : (place other : Place) (k : List ℕ) (whole s : TextStage) → Keeps whole k → Keeps s k → place ≡ unwrap_or (opener_of whole) other → option_map (λ _. place) (opener_of s) ≡ opener_of whole
opener_back place other k whole s keeps here at = by (opener_of s) (opener_of whole) at (opener_open s k here ∙ sym (opener_open whole k keeps))
  where
    by : (o r : Option Place) → place ≡ unwrap_or r other → is_some o ≡ is_some r → option_map (λ _. place) o ≡ r
    by o r e h = grind arith
