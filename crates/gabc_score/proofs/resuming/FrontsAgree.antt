-- In front of the first text the same is emitted as in a comment of a text that keeps nothing, if
-- the characters stand in line.
use Rattle.std.proofs.Common.{◌≡◌, ◌==◌, ℕ, List, [], ◌∷◌, Bool, true, false, refl, sym, ap, ◌∙◌, subst, if◌then◌else◌, arith}
use Rattle.std.proofs.lemmas.Bool.{eqb-true}
use Rattle.gabc_places.specs.Place.{saturating_next_place}
use Rattle.gabc_places.specs.declared.place.Place.{Place}
use Rattle.gabc_headers.specs.declared.head_event.HeadEvent.{HeadEvent}
use Rattle.gabc_headers.specs.declared.head_event.HeadEvent.TheVariants as head_event
use Rattle.gabc_text.specs.Events.{codes_of}
use Rattle.gabc_text.specs.StageReports as text
use Rattle.gabc_text.specs.witness.StageReports as text_reports
use Rattle.gabc_text.specs.TextStage.{fresh_stage}
use Rattle.gabc_text.specs.declared.stage.TextStage.{TextStage}
use Rattle.gabc_text.specs.declared.text_event.TextEnd.TheVariants as text_end
use Rattle.gabc_text.specs.declared.text_event.TextEvent.{TextEvent}
use Rattle.gabc_text.specs.declared.text_event.TextEvent.TheVariants as text_event
use Rattle.gabc_text.specs.witness.EventsLeft.{events_left}
use Rattle.gabc_text.specs.witness.Keeps.{Keeps}
use Rattle.gabc_score.specs.declared.body_stage.BodyPart.{BodyPart}
use Rattle.gabc_body.specs.declared.events.BodyEvent.{BodyEvent}
use Rattle.gabc_body.specs.Events.{PartAhead, InComment, InText, events_from, events_in, part_after_character, text_from}
use Rattle.gabc_body.specs.ScoreEvents.{characters_in}
use Rattle.gabc_score.specs.ScoreStage.{AreInLine}
use Rattle.gabc_score.specs.ScoreReports.{is_in_comment, is_in_front, IsAt}
use Rattle.gabc_score.specs.machine.PartKeeps.{in_text, PartKeeps}
use Rattle.gabc_score.proofs.resuming.BeginsAnywhere.{front_is}
use Rattle.gabc_score.specs.witness.BodyStage.{BodyStageState, part_with, running_events_left, texts_by_stage}

-- A comment in front of a text counts for nothing, if the text keeps nothing yet.
pub record CommentsCountForNothing : Type 0 where
  pub stays : (s : TextStage) (place : Place) → Keeps s [] → Keeps (text_reports.moved_to place s) []
  pub goes_on : (s : TextStage) (place : Place) → text.is_in_comment (text_reports.moved_to place s) ≡ text.is_in_comment s
  pub on : (s : TextStage) (c : ℕ) (t : List ℕ) → Keeps s [] → text.is_in_comment s ≡ true → (c == 10) ≡ false → events_left s (c ∷ t) ≡ [] ∷ events_left (text_reports.moved_to (saturating_next_place (text_reports.next_of s) c) s) t
  pub begins : (s : TextStage) (t : List ℕ) → Keeps s [] → text.is_in_comment s ≡ true → events_left s (10 ∷ t) ≡ events_left (fresh_stage (text_reports.next_of s)) (10 ∷ t)
  pub ends : (s : TextStage) → Keeps s [] → text.is_in_comment s ≡ true → events_left s [] ≡ (text_event.Ended text_end.Finished ∷ []) ∷ []

module _ (law : CommentsCountForNothing) where
  module _ (lines macros : ℕ) where
    abbrev ahead : PartAhead → List HeadEvent → List (List BodyEvent)
    ahead p xs = events_from texts_by_stage lines macros p (characters_in xs)

    abbrev text_ahead : TextStage → List HeadEvent → List (List BodyEvent)
    text_ahead s xs = ahead (InText (events_left s (codes_of (characters_in xs)))) xs

    comment_is_text : (s : TextStage) → Keeps s [] → text.is_in_comment s ≡ true → (xs : List HeadEvent) → AreInLine (text_reports.next_of s) xs → ahead InComment xs ≡ text_ahead s xs
    comment_is_text s keeps open_is (head_event.Found f ∷ xs) line = comment_is_text s keeps open_is xs line.1
    comment_is_text s keeps open_is (head_event.Heads l m c ∷ xs) line = comment_is_text s keeps open_is xs line.1
    comment_is_text s keeps open_is (head_event.Body x ∷ xs) line =
        by (comment_is_text there (law.stays s (saturating_next_place (text_reports.next_of s) x.c) keeps) (law.goes_on s (saturating_next_place (text_reports.next_of s) x.c) ∙ open_is) xs (subst (λ (p : Place). AreInLine (saturating_next_place p x.c) xs) line.0 line.1)) (x.c == 10) refl
      where
        there : TextStage
        there = text_reports.moved_to (saturating_next_place (text_reports.next_of s) x.c) s

        codes : List ℕ
        codes = codes_of (characters_in xs)

        at_feed : (c : ℕ) → c ≡ 10 → events_left (fresh_stage x.place) (c ∷ codes) ≡ events_left s (c ∷ codes)
        at_feed c e =
            ap (λ (p : Place). events_left (fresh_stage p) (c ∷ codes)) line.0
            ∙ ap (λ (d : ℕ). events_left (fresh_stage (text_reports.next_of s)) (d ∷ codes)) e
            ∙ sym (law.begins s codes keeps open_is)
            ∙ ap (λ (d : ℕ). events_left s (d ∷ codes)) (sym e)

        read : PartAhead → List (List BodyEvent)
        read p = events_in p ∷ ahead (part_after_character texts_by_stage lines macros p x (characters_in xs)) xs

        by : ahead InComment xs ≡ text_ahead there xs → (b : Bool) → (x.c == 10) ≡ b
            → read (if b then text_from texts_by_stage x.place (x ∷ characters_in xs) else InComment) ≡ read (InText (events_left s (x.c ∷ codes)))
        by again true e = ap (λ (lists : List (List TextEvent)). read (InText lists)) (at_feed x.c (eqb-true x.c 10 e))
        by again false e =
            ap (λ (lists : List (List BodyEvent)). [] ∷ lists) again
            ∙ ap (λ (lists : List (List TextEvent)). read (InText lists)) (sym (law.on s x.c codes keeps open_is e))
    comment_is_text s keeps open_is _ line = ap (λ (lists : List (List TextEvent)). ahead (InText lists) []) (sym (law.ends s keeps open_is))

    in_comment : (p : BodyPart) → PartKeeps lines macros p (in_text []) → is_in_comment p ≡ true → (place : Place) (xs : List HeadEvent) → IsAt place p → AreInLine place xs
        → ahead InComment xs ≡ ahead (part_with p (characters_in xs)) xs
    in_comment p keeps comment place xs stands line = grind (arith, comment_is_text)

  -- What is left in front of the first text is what is left in such a comment.
  pub fronts_emit : (a b : BodyStageState) → a.nabc_lines ≡ b.nabc_lines → a.macros ≡ b.macros → is_in_front a.part ≡ true → PartKeeps b.nabc_lines b.macros b.part (in_text []) → is_in_comment b.part ≡ true
      → (place : Place) (xs : List HeadEvent) → IsAt place b.part → AreInLine place xs → running_events_left a (characters_in xs) ≡ running_events_left b (characters_in xs)
  fronts_emit a b same_lines same_macros front keeps comment place xs stands line =
      rw (front_is a.part front, same_lines, same_macros) (in_comment b.nabc_lines b.macros b.part keeps comment place xs stands line)
