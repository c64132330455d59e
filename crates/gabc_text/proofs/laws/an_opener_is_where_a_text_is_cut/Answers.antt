use Rattle.std.proofs.Common.{◌≡◌, ℕ, List, [], ◌++◌, length, drop, sym, ap, ◌∙◌, append-nil, false}
use Rattle.std.proofs.Math.Seq.{drop-append_seam}
use Rattle.gabc_places.specs.StageLaw.{concat_of}
use Rattle.gabc_places.specs.declared.place.Place.{Place}
use Rattle.gabc_text.specs.Events.{CountsFit, events_by_point}
use Rattle.gabc_text.specs.StageReports.{opener_of, cut_place}
use Rattle.gabc_text.specs.TextStage.{fresh_stage}
use Rattle.gabc_text.specs.declared.stage.TextStage.{TextStage}
use Rattle.gabc_text.specs.declared.text_event.TextEvent.{TextEvent}
use Rattle.gabc_text.specs.witness.EventsLeft.{events_left}
use Rattle.gabc_text.proofs.machine.FreshStageEmitsEventsByPoint.{fresh_emits}
use Rattle.gabc_text.proofs.laws.an_opener_is_where_a_text_is_cut.Goals as goal

after : ((at : Place) (t : List ℕ) → CountsFit at t → events_left (fresh_stage at) t ≡ events_by_point at t)
    → (at : Place) (t : List ℕ) (s : TextStage) (emitted : List (List TextEvent)) → CountsFit at t → s.ended ≡ false → length emitted ≡ length t
    → ((more : List ℕ) → events_left (fresh_stage at) (t ++ more) ≡ emitted ++ events_left s more)
    → opener_of s ≡ cut_place (concat_of (drop (length t) (events_by_point at t)))
after fresh at t s emitted fit running long law =
    let all : events_by_point at t ≡ emitted ++ events_left s [] = sym (fresh at t fit) ∙ (ap (events_left (fresh_stage at)) (sym (append-nil t)) ∙ law []) in
    ap (λ (l : List (List TextEvent)). cut_place (concat_of l))
    (sym (ap (drop (length t)) all ∙ (ap (λ (n : ℕ). drop n (emitted ++ events_left s [])) (sym long) ∙ drop-append_seam emitted (events_left s []))))

pub returns : goal.returns
returns c = after (λ at t fits. (fresh_emits at t fits).0)
