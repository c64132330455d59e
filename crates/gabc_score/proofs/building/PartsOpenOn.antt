-- What is open in a part of the body, after each character.
use Rattle.std.proofs.Common.{◌≡◌, ◌⊎◌, inl, inr, ℕ, false, List, [], Option, Some, None, refl, sym, ap, subst, ◌∙◌, arith}
use Rattle.std.specs.List.{list_any}
use Rattle.gabc_places.specs.declared.place.Char.{Char}
use Rattle.gabc_places.specs.declared.place.Place.{Place}
use Rattle.gabc_text.specs.StageReports as text_tells
use Rattle.gabc_text.specs.declared.stage.TextStage.{TextStage}
use Rattle.gabc_text.specs.declared.text_event.TextEvent.{TextEvent}
use Rattle.gabc_text.specs.witness.Keeps as text
use Rattle.gabc_score.specs.declared.body_stage.BodyPart.{BodyPart}
use Rattle.gabc_score.specs.declared.body_stage.BodyPart.TheVariants as part
use Rattle.gabc_score.specs.declared.body_tells.Openers.{Openers}
use Rattle.gabc_body.specs.Events.{is_text_end}
use Rattle.gabc_score.specs.ScoreReports.{openers_of}
use Rattle.gabc_score.specs.machine.PartKeeps.{in_text, in_notes}
use Rattle.gabc_score.specs.machine.PartOpens.{OpensOn, PartOpensOn}
use Rattle.gabc_score.proofs.building.SnippetsTakeCharacters.{going, stays_in_notes}
use Rattle.gabc_score.proofs.building.PartsOfKeptText.{text_goes_on}
use Rattle.gabc_body.specs.declared.events.BodyEvent.{BodyEvent}
use Rattle.gabc_text.proofs.resuming.StagesKeep.{fresh_keeps}
use Rattle.gabc_text.proofs.resuming.EndedAndFreshStagesHaveNothingOpen.{opener_fresh}
use Rattle.gabc_score.specs.machine.PartSteps.{PartSteps}
use Rattle.gabc_score.specs.machine.PartSteps as step

-- what is open stays
pub same_open : (at : Place) (o : Openers) → OpensOn at o o
same_open at o = record { notes = inl refl; inner = inr (inl refl) }

-- a `(` alone is open
abbrev pub opened_at : Option Place → Openers
opened_at place = record { notes = place; inner = None }

-- a snippet after a text, or after a snippet
pub notes_open : (lines macros : ℕ) (x : Char) (before after : BodyPart) → openers_of after ≡ opened_at (Some x.place) → PartOpensOn lines macros x before after
notes_open lines macros x before after is p keeps at = grind arith

pub next_opens : (lines macros : ℕ) (x : Char) (opened : Place) (before after : BodyPart) → (openers_of before).notes ≡ Some opened → openers_of after ≡ opened_at (Some opened) → PartOpensOn lines macros x before after
next_opens lines macros x opened before after was is p keeps at = grind arith

-- a text after notes
pub none_open : (lines macros : ℕ) (x : Char) (before after : BodyPart) → openers_of after ≡ opened_at None → PartOpensOn lines macros x before after
none_open lines macros x before after is p keeps at = grind arith

module _ (lines macros : ℕ) (x : Char) where
  pub text_opens_on : (s t : TextStage) (es : List TextEvent) → text.KeepsOn s x.c es t → list_any is_text_end es ≡ false → PartOpensOn lines macros x (part.Text s) (part.Text t)
  text_opens_on s t es on goes_on (in_notes u earlier k) h at = absurd h
  text_opens_on s t es on goes_on (in_text k) h at = record { notes = inl refl; inner = by (text_tells.opener_of t) refl }
    where
      g : text.GoesOn s k x.c es t
      g = on.goes k h (text_goes_on s t x.c es k on h goes_on)

      by : (o : Option Place) → text_tells.opener_of t ≡ o → (text_tells.opener_of t ≡ None) ⊎ ((text_tells.opener_of t ≡ text_tells.opener_of s) ⊎ (text_tells.opener_of t ≡ Some x.place))
      by None e = inl e
      by (Some p) e = elim (g.opener p e) [ inl was ↦ inr (inl (e ∙ sym was)) | inr here ↦ inr (inr (e ∙ ap (λ (q : Place). Some q) (sym here ∙ at))) ]

-- ---- a part takes a character

-- no notes, and this in a text
abbrev opened_inside : Option Place → Openers
opened_inside o = record { notes = None; inner = o }

pub opens_on : {lines macros : ℕ} {x : Char} {before after : BodyPart} {now : List BodyEvent} → PartSteps lines macros x before now after → PartOpensOn lines macros x before after
opens_on {x = x} (step.in_front h) = λ p keeps at. same_open x.place (opened_at None)
opens_on {x = x} {after = after} (step.leaves_front h s) = λ p keeps at.
    subst (λ (o : Option Place). OpensOn x.place (opened_inside o) (openers_of after)) (opener_fresh x.place) (opens_on s (in_text []) (fresh_keeps x.place) refl)
opens_on {lines} {macros} {x} (step.text_goes {s} {t} {es} h e) = text_opens_on lines macros x s t es h.keeps e
opens_on {lines} {macros} {x} (step.text_ends {s} {after = after} h e b) = notes_open lines macros x (part.Text s) after b.tells.0
opens_on {lines} {macros} (step.snippet_goes s n c) = λ p keeps at. let h = stays_in_notes s in record { notes = inl (h.is ∙ sym h.was); inner = (going lines macros s p keeps n c).opener }
opens_on {lines} {macros} {x} (step.snippet_next {opened = opened} {before} {after = after} s n b) = next_opens lines macros x opened before after (stays_in_notes s).was b.tells.0
opens_on {lines} {macros} {x} (step.snippet_closes {before = before} s n c) = grind (arith, none_open, opener_fresh)
