-- Events that leave given spans open.
use Rattle.std.proofs.Common.{ℕ, Bool, true, false, List, [], ◌∷◌, ◌++◌, None, refl, ◌≡◌}
use lib.Utf8.{encode}
use Rattle.gabc_text.specs.declared.text_event.TextEvent.TheVariants.{Kept, Part}
use Rattle.gabc_text.specs.declared.text_event.TextPart.TheVariants as part
use Rattle.gabc_text.specs.TextSpan.{no_styles}
use Rattle.gabc_text.specs.declared.view.PieceKind.TheVariants.{Mark}
use Rattle.gabc_notes.specs.declared.stage.NoteEnd.TheVariants.{Close}
use Rattle.gabc_notes.specs.declared.stage.NoteEvent.TheVariants.{Ended}
use Rattle.gabc_body.specs.declared.before.Spans.{Spans}
use Rattle.gabc_body.specs.declared.events.BodyEvent.{BodyEvent}
use Rattle.gabc_body.specs.declared.events.BodyEvent.TheVariants.{Text, Notes}
use Rattle.gabc_body.specs.Body.{cut_of}
use Rattle.gabc_body.specs.OpenSpans.{LeavesOpen}
use Rattle.gabc_body.specs.Syllable.{slice}
use Rattle.gabc_body.specs.witness.TextEvents.{kept_char}

kept : List ℕ → List BodyEvent
kept [] = []
kept (c ∷ cs) = Text (Kept (kept_char c)) ∷ kept cs

mark : ℕ → ℕ → BodyEvent
mark from to = Text (Part (part.Piece (record { kind = Mark; styles = no_styles; span = record { from = from; to = to } })))

-- the nearest first: `<eu>` and `<nlba>` from the end, each after its characters
eu_events : Bool → List BodyEvent
eu_events true = mark 0 4 ∷ kept (62 ∷ 117 ∷ 101 ∷ 60 ∷ [])
eu_events false = []

nlba_events : Bool → List BodyEvent
nlba_events true = mark 0 6 ∷ kept (62 ∷ 97 ∷ 98 ∷ 108 ∷ 110 ∷ 60 ∷ [])
nlba_events false = []

close : BodyEvent
close = Notes 0 (Ended Close 0)

pub opened : Spans → List BodyEvent
opened spans = close ∷ (nlba_events spans.nlba ++ close ∷ (eu_events spans.eu ++ []))

-- they leave no bracket open
opened_so : (eu nlba : Bool) → (let spans : Spans = record { eu = eu; nlba = nlba } in LeavesOpen spans (opened spans) × (cut_of (opened spans) ≡ None))
unfolding opened close nlba_events eu_events mark kept encode slice
opened_so true true = (record { nothing = refl; eu = refl; nlba = refl }, refl)
opened_so true false = (record { nothing = refl; eu = refl; nlba = refl }, refl)
opened_so false true = (record { nothing = refl; eu = refl; nlba = refl }, refl)
opened_so false false = (record { nothing = refl; eu = refl; nlba = refl }, refl)

pub leaves_open : (spans : Spans) → LeavesOpen spans (opened spans)
leaves_open spans = (opened_so spans.eu spans.nlba).0

pub none_cut : (spans : Spans) → cut_of (opened spans) ≡ None
none_cut spans = (opened_so spans.eu spans.nlba).1
