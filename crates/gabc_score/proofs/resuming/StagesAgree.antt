-- Two stages over a body whose parts keep the same and report the same emit the same.
use Rattle.std.proofs.Common.{◌≡◌, ℕ, nat_lt, List, Bool, Option, Some, None, is_some, refl, sym, ap, ◌∙◌, arith}
use Rattle.gabc_places.specs.declared.place.Char.{Char}
use Rattle.gabc_places.specs.declared.place.Place.{Place}
use Rattle.gabc_text.specs.Events.{codes_of}
use Rattle.gabc_text.specs.StageReports as text_tells
use Rattle.gabc_text.specs.witness.StageReports as text_reports
use Rattle.gabc_text.specs.declared.stage.TextStage.{TextStage}
use Rattle.gabc_text.specs.declared.text_event.TextEvent.{TextEvent}
use Rattle.gabc_text.specs.witness.EventsLeft as text_events
use Rattle.gabc_text.specs.witness.Keeps as text
use Rattle.gabc_notes.specs.StageReports as note_tells
use Rattle.gabc_notes.specs.declared.stage.NoteEvent.{NoteEvent}
use Rattle.gabc_notes.specs.declared.stage.NoteStage.{NoteStage}
use Rattle.gabc_notes.specs.witness.ItemMachine as note_events
use Rattle.gabc_notes.specs.witness.Keeps as notes
use Rattle.gabc_nabc.specs.declared.stage.NabcStage.{NabcStage}
use Rattle.gabc_nabc.specs.witness.DescriptorMachine as nabc_events
use Rattle.gabc_nabc.specs.witness.Keeps as nabc
use Rattle.gabc_score.specs.declared.body_stage.BodyPart.{BodyPart}
use Rattle.gabc_score.specs.declared.body_stage.BodyPart.TheVariants as part
use Rattle.gabc_score.specs.declared.body_tells.Openers.{Openers}
use Rattle.gabc_body.specs.Events.{InText, InNotes}
use Rattle.gabc_score.specs.ScoreReports.{IsAt, is_in_comment, is_in_front, openers_of}
use Rattle.gabc_score.specs.machine.PartKeeps.{KeptParts, in_text, in_notes, PartKeeps}
use Rattle.gabc_score.specs.witness.BodyStage.{BodyStageState, part_with, running_events_left}

-- two parts keep the last of the same parts
pub record KeepTheSame (lines macros : ℕ) (a b : BodyPart) : Type 0 where
  pub parts : KeptParts
  pub one : PartKeeps lines macros a parts
  pub other : PartKeeps lines macros b parts

-- the place that a text has counted for the next character
abbrev pub next_in : BodyPart → Option Place
next_in (part.Text stage) = Some (text_reports.next_of stage)
next_in part = None

-- two parts of bodies report the same, beside their kept texts
pub record ReportTheSame (a b : BodyPart) : Type 0 where
  pub openers : openers_of a ≡ openers_of b
  pub comment : is_in_comment a ≡ is_in_comment b
  pub front : is_in_front a ≡ is_in_front b
  pub next : next_in a ≡ next_in b

some_is : (p q : Place) → Some p ≡ Some q → p ≡ q
some_is p q e = cc e

-- Stages over a part that keep one text and report the same emit the same.
pub record StagesAgree : Type 0 where
  pub texts : (s t : TextStage) (k : List ℕ) → text.Keeps s k → text.Keeps t k → text_tells.opener_of s ≡ text_tells.opener_of t → text_tells.is_in_comment s ≡ text_tells.is_in_comment t → text_reports.next_of s ≡ text_reports.next_of t
      → (u : List ℕ) → text_events.events_left s u ≡ text_events.events_left t u
  pub gabc : (split : Bool) (macros : ℕ) (s t : NoteStage) (k : List ℕ) → notes.Keeps split macros s k → notes.Keeps split macros t k → note_tells.opener_of s ≡ note_tells.opener_of t → note_tells.comment_of s ≡ note_tells.comment_of t
      → (xs : List Char) → note_events.events_left s xs ≡ note_events.events_left t xs
  pub nabc_lines : (s t : NabcStage) (k : List ℕ) → nabc.Keeps s k → nabc.Keeps t k → nabc.comment_of s ≡ nabc.comment_of t → (xs : List Char) → nabc_events.events_left s xs ≡ nabc_events.events_left t xs

-- what is left of the parts is the same
ahead_agree : StagesAgree → (lines macros : ℕ) (p q : BodyPart) (parts : KeptParts) → PartKeeps lines macros p parts → PartKeeps lines macros q parts → ReportTheSame p q → (xs : List Char) → part_with p xs ≡ part_with q xs
ahead_agree law lines macros part.Comment part.Comment parts h g told xs = refl
ahead_agree law lines macros (part.Text s) (part.Text t) (in_text k) h g told xs =
    ap (λ (lists : List (List TextEvent)). InText lists) (law.texts s t k h g (ap (λ (o : Openers). o.inner) told.openers) told.comment (some_is _ _ told.next) (codes_of xs))
ahead_agree law lines macros (part.Notes opened s) (part.Notes other t) (in_notes u earlier k) h g told xs =
    ap (λ (o : Place). InNotes 0 o (note_events.events_left s xs)) (some_is _ _ (ap (λ (o : Openers). o.notes) told.openers))
    ∙ ap (λ (lists : List (List NoteEvent)). InNotes 0 other lists) (law.gabc (nat_lt 0 lines) macros s t k h.1 g.1 (ap (λ (o : Openers). o.inner) told.openers) told.comment xs)
ahead_agree law lines macros (part.Notes opened s) (part.Nabc line other t) (in_notes u earlier k) h g told xs = absurd (g.1.0 (sym g.0.line_is ∙ h.0.line_is))
ahead_agree law lines macros (part.Nabc line opened s) (part.Notes other t) (in_notes u earlier k) h g told xs = absurd (h.1.0 (sym h.0.line_is ∙ g.0.line_is))
ahead_agree law lines macros (part.Nabc line opened s) (part.Nabc beside other t) (in_notes u earlier k) h g told xs =
    ap (λ (l : ℕ). InNotes l opened (nabc_events.events_left s xs)) (sym h.0.line_is ∙ g.0.line_is)
    ∙ ap (λ (o : Place). InNotes beside o (nabc_events.events_left s xs)) (some_is _ _ (ap (λ (o : Openers). o.notes) told.openers))
    ∙ ap (λ (lists : List (List NoteEvent)). InNotes beside other lists) (law.nabc_lines s t k h.1.1 g.1.1 told.comment xs)
ahead_agree law lines macros (part.Text s) _ (in_notes u earlier k) h g told xs = absurd h
ahead_agree law lines macros (part.Notes opened s) _ (in_text k) h g told xs = absurd h
ahead_agree law lines macros (part.Nabc line opened s) _ (in_text k) h g told xs = absurd h
ahead_agree law lines macros _ _ _ h g told xs = absurd (cc (told.front, ap (λ (o : Openers). is_some o.notes) told.openers))

pub bodies_agree : StagesAgree → (a b : BodyStageState) → a.nabc_lines ≡ b.nabc_lines → a.macros ≡ b.macros → KeepTheSame a.nabc_lines a.macros a.part b.part → ReportTheSame a.part b.part
    → (xs : List Char) → running_events_left a xs ≡ running_events_left b xs
bodies_agree law a b same_lines same_macros keep told xs = grind (arith, ahead_agree)

-- The place of the next character is the same, if both texts have counted it.
pub next_is_reported : (p q : BodyPart) (at place : Place) → at ≡ place → IsAt at p → IsAt place q → openers_of p ≡ openers_of q → is_in_front p ≡ is_in_front q → next_in p ≡ next_in q
next_is_reported (part.Text s) (part.Text t) at place e h g openers front = ap (λ (p : Place). Some p) (h ∙ (e ∙ sym g))
next_is_reported (part.Text s) _ at place e h g openers front = absurd (cc (front, ap (λ (o : Openers). is_some o.notes) openers))
next_is_reported _ (part.Text t) at place e h g openers front = absurd (cc (front, ap (λ (o : Openers). is_some o.notes) openers))
next_is_reported _ _ at place e h g openers front = refl
