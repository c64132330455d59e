-- After a kept text that is read again the same is open as what is reported of it.
use Rattle.std.proofs.Common.{◌≡◌, ℕ, Bool, false, Option, Some, None, is_some, option_map, unwrap_or, refl, sym, ap, ◌∙◌, if◌then◌else◌, arith}
use Rattle.std.proofs.lemmas.Bool.{true≢false}
use Rattle.gabc_places.specs.declared.place.Place.{Place}
use Rattle.gabc_text.specs.StageReports as text_tells
use Rattle.gabc_notes.specs.Events.{in_raw}
use Rattle.gabc_notes.specs.StageReports as tells
use Rattle.gabc_notes.specs.declared.stage.NoteStage.{NoteStage}
use Rattle.gabc_notes.specs.witness.ItemMachine.{example}
use Rattle.gabc_score.specs.declared.body_stage.BodyPart.{BodyPart}
use Rattle.gabc_score.specs.declared.body_stage.BodyPart.TheVariants as part
use Rattle.gabc_score.specs.declared.body_tells.Openers.{Openers}
use Rattle.gabc_body.specs.ScoreEvents.{first_place}
use Rattle.gabc_score.specs.ScoreReports.{is_in_comment, is_in_front, openers_of}
use Rattle.gabc_score.specs.machine.PartKeeps.{KeptParts, in_text, in_notes, PartKeeps}
use Rattle.gabc_score.specs.machine.ReadAgain.{opened_part}
use Rattle.gabc_score.specs.machine.StageLaws.{Ends}
use Rattle.gabc_score.proofs.resuming.StagesMove.{TextStays}

-- both or none, and at the place of the second
placed_option : (x y : Option Place) → is_some x ≡ is_some y → option_map (λ p. unwrap_or y first_place) x ≡ y
placed_option x y e = grind arith

abbrev openers_by : Option Place → Option Place → Openers
openers_by notes inner = record { notes = notes; inner = inner }

-- a bracket of GABC is open after one kept text, or none
some_raw : (b : Bool) (p : Place) → is_some (if b then Some p else None) ≡ b
some_raw b p = grind arith

raw_same : (s t : NoteStage) → s.state ≡ t.state → is_some (tells.opener_of s) ≡ is_some (tells.opener_of t)
raw_same s t e = some_raw (in_raw (example s.state)) s.before.place ∙ ap (λ st. in_raw (example st)) e ∙ sym (some_raw (in_raw (example t.state)) t.before.place)

raw_opened : (at : Place) (s : NoteStage) → tells.opener_of (tells.opened_at at s) ≡ option_map (λ p. at) (tells.opener_of s)
raw_opened at s = grind arith

module _ (ends : Ends) (stays : TextStays) (lines macros : ℕ) where
  -- A part that keeps what another keeps has the openers that this one reports, once they are at
  -- their places.
  pub openers_reported : (a b : BodyPart) (p : KeptParts) → PartKeeps lines macros a p → PartKeeps lines macros b p → is_in_front a ≡ false → is_in_front b ≡ false → openers_of (opened_part (openers_of b) a) ≡ openers_of b
  openers_reported (part.Text s) (part.Text t) (in_text k) ha hb front other =
      ap (openers_by None) (stays.opened s _ ∙ placed_option (text_tells.opener_of s) (text_tells.opener_of t) (ends.text_opener s k ha ∙ sym (ends.text_opener t k hb)))
  openers_reported (part.Notes o s) (part.Notes q t) (in_notes u earlier k) ha hb front other =
      ap (openers_by (Some q)) (raw_opened _ s ∙ placed_option (tells.opener_of s) (tells.opener_of t) (raw_same s t (ap (λ (n : NoteStage). n.state) (ha.1.alike ∙ sym hb.1.alike))))
  openers_reported (part.Notes o s) (part.Nabc l q t) (in_notes u earlier k) ha hb front other = absurd (hb.1.0 (sym hb.0.line_is ∙ ha.0.line_is))
  openers_reported (part.Nabc line o s) (part.Notes q t) (in_notes u earlier k) ha hb front other = absurd (ha.1.0 (sym ha.0.line_is ∙ hb.0.line_is))
  openers_reported (part.Nabc line o s) (part.Nabc l q t) (in_notes u earlier k) ha hb front other = refl
  openers_reported part.Comment b p ha hb front other = absurd (true≢false front)
  openers_reported _ part.Comment p ha hb front other = absurd (true≢false other)
  openers_reported (part.Text s) _ (in_notes u earlier k) ha hb front other = absurd ha
  openers_reported (part.Notes o s) _ (in_text k) ha hb front other = absurd ha
  openers_reported (part.Nabc line o s) _ (in_text k) ha hb front other = absurd ha
  openers_reported _ _ _ ha hb front other = absurd hb

-- Outside a comment there is none in front.
pub nothing_in_front : (a : BodyPart) → is_in_comment a ≡ false → is_in_front a ≡ false
nothing_in_front a outside = grind arith
