-- Which spans are open after the parts of a kept text: those that the tags of its text leave open.
use Rattle.std.proofs.Common.{◌≡◌, ℕ, Bool, List, [], ◌∷◌, ◌++◌, codes, refl, ap, sym, ◌∙◌, arith}
use lib.Utf8.{encode}
use Rattle.gabc_text.specs.Events.{events_of}
use Rattle.gabc_text.specs.declared.text_event.TextEnd.TheVariants as text_end
use Rattle.gabc_text.specs.declared.text_event.TextEvent.{TextEvent}
use Rattle.gabc_text.specs.declared.text_event.TextEvent.TheVariants as text
use Rattle.gabc_text.specs.declared.text_event.TextPart.TheVariants as part
use Rattle.gabc_text.specs.witness.Keeps.{said, said_of, said_at_end}
use Rattle.gabc_text.specs.witness.SaidInFull.{IsSaidInFull}
use Rattle.gabc_notes.specs.declared.stage.NoteEvent.TheVariants.{Kept}
use Rattle.gabc_body.specs.declared.before.Spans.{Spans}
use Rattle.gabc_body.specs.declared.events.BodyEvent.{BodyEvent}
use Rattle.gabc_body.specs.declared.events.BodyEvent.TheVariants.{Text, Notes}
use Rattle.gabc_body.specs.Body.{events_onto}
use Rattle.gabc_body.specs.Events.{next_line}
use Rattle.gabc_body.specs.Syllable.{all_syllables, since_close, part_of, ended_parts_of, slice, is_open, is_open_after}
use Rattle.gabc_text.specs.ViewFacts.{span_tags}
use Rattle.gabc_body.specs.witness.BodyBuilder.{with_all}
use Rattle.gabc_score.specs.machine.PartKeeps.{in_notes, line_after, snippet_events, ended_events, earlier_events, events_before, said_by, begun}
use Rattle.gabc_body.specs.witness.TextEvents.{kept_char, text_events}
use Rattle.gabc_body.proofs.gathering.BuilderHoldsDefinition.{gathered}
use Rattle.gabc_body.proofs.emitted.EventsOfSyllableParts.{onto_append}
use Rattle.gabc_score.proofs.resuming.SyllablesOfEvents.{MadeAlike, made_after}
use Rattle.gabc_body.proofs.syllables_of_units.OpenSpans.{opened, leaves_open}
use Rattle.gabc_body.proofs.syllables_of_units.LastTagOpensTheSpan.{after_tags, text_opens_span}

module _ (opening closing : List ℕ) where
  abbrev open_at : List BodyEvent → Bool
  open_at ts = is_open opening closing ts

  -- findings and places open and close no span
  said_opens : (es : List TextEvent) (a b : List BodyEvent) → ended_parts_of (since_close a) ≡ ended_parts_of (since_close b) → part_of (since_close a) ≡ part_of (since_close b) → open_at a ≡ open_at b
      → open_at (events_onto (text_events (said es)) a) ≡ open_at (events_onto (text_events es) b)
  said_opens [] a b ended kept span = span
  said_opens (text.Kept c ∷ es) a b ended kept span = said_opens es (Text (text.Kept (kept_char c.c)) ∷ a) (Text (text.Kept c) ∷ b) ended (ap (λ (p : List ℕ). p ++ encode c.c) kept) span
  said_opens (text.Part (part.Piece p) ∷ es) a b ended kept span =
      said_opens es (Text (text.Part (part.Piece p)) ∷ a) (Text (text.Part (part.Piece p)) ∷ b) ended kept
      (ap (λ (was : Bool). is_open_after opening closing was p.kind (slice p.span (ended_parts_of (since_close a) ++ part_of (since_close a)))) span
      ∙ ap (λ (e : List ℕ). is_open_after opening closing (open_at b) p.kind (slice p.span (e ++ part_of (since_close a)))) ended
      ∙ ap (λ (k : List ℕ). is_open_after opening closing (open_at b) p.kind (slice p.span (ended_parts_of (since_close b) ++ k))) kept)
  said_opens (text.Found f ∷ es) a b ended kept span = said_opens es a (Text (text.Found f) ∷ b) ended kept span
  said_opens (text.Ended text_end.Notes ∷ es) a b ended kept span =
      said_opens es (Text (text.Ended text_end.Notes) ∷ a) (Text (text.Ended text_end.Notes) ∷ b)
      (ap (λ (e : List ℕ). e ++ (part_of (since_close a) ++ codes "(")) ended ∙ ap (λ (k : List ℕ). ended_parts_of (since_close b) ++ (k ++ codes "(")) kept) refl span
  said_opens (e ∷ es) a b ended kept span = said_opens es (Text e ∷ a) (Text e ∷ b) ended kept span

  -- nor do snippets
  snippet_still : (line : ℕ) (k : List ℕ) (before : List BodyEvent) → open_at (events_onto (snippet_events line k) before) ≡ open_at before
  snippet_still line [] before = refl
  snippet_still line (c ∷ k) before = snippet_still line k (Notes line (Kept (kept_char c)) ∷ before)

  ended_still : (line : ℕ) (s : List ℕ) (before : List BodyEvent) → open_at (events_onto (ended_events line s) before) ≡ open_at before
  ended_still line s before = ap open_at (onto_append (snippet_events line s) _ before) ∙ snippet_still line s before

  earlier_still : (lines line : ℕ) (ss : List (List ℕ)) (before : List BodyEvent) → open_at (events_onto (earlier_events lines line ss) before) ≡ open_at before
  earlier_still lines line [] before = refl
  earlier_still lines line (s ∷ ss) before =
      ap open_at (onto_append (ended_events line s) (earlier_events lines (next_line lines line) ss) before)
      ∙ earlier_still lines (next_line lines line) ss (events_onto (ended_events line s) before)
      ∙ ended_still line s before

  -- the text of the parts
  parts_open : (lines : ℕ) (t : List ℕ) (earlier : List (List ℕ)) (k : List ℕ) (before : List BodyEvent) → IsSaidInFull t [] → since_close before ≡ []
      → open_at (events_onto (said_by lines (in_notes t earlier k)) before) ≡ after_tags opening closing (open_at before) (span_tags (t ++ 40 ∷ []))
  parts_open lines t earlier k before full since =
      let said_text = text_events (said_of t ++ said_at_end t) in
      ap open_at (onto_append (events_before lines t earlier) (snippet_events (line_after lines 0 earlier) k) before)
      ∙ snippet_still (line_after lines 0 earlier) k (events_onto (events_before lines t earlier) before)
      ∙ ap open_at (onto_append said_text (earlier_events lines 0 earlier) before)
      ∙ earlier_still lines 0 earlier (events_onto said_text before)
      ∙ ap (λ (es : List TextEvent). open_at (events_onto (text_events es) before)) (sym full.emitted_are)
      ∙ said_opens (events_of (record { line = 0; column = 0 }) (t ++ 40 ∷ [])) before before refl refl refl
      ∙ text_opens_span opening closing (record { line = 0; column = 0 }) (t ++ 40 ∷ []) before since

-- of what is gathered after these spans
module _ (lines : ℕ) (t : List ℕ) (earlier : List (List ℕ)) (k : List ℕ) (spans : Spans) (full : IsSaidInFull t []) where
  abbrev all : List BodyEvent
  all = said_by lines (in_notes t earlier k)

  alike : MadeAlike (all_syllables (opened spans)) (with_all (begun spans) all) (gathered 0 0 (events_onto all (opened spans)))
  alike = made_after (begun spans) spans refl refl refl refl (opened spans) (leaves_open spans) 0 (omega arith) all

  pub eu_open : (with_all (begun spans) all).eu ≡ after_tags (codes "<eu>") (codes "</eu>") spans.eu (span_tags (t ++ 40 ∷ []))
  eu_open = alike.read.eu ∙ parts_open (codes "<eu>") (codes "</eu>") lines t earlier k (opened spans) full (leaves_open spans).nothing
      ∙ ap (λ (b : Bool). after_tags (codes "<eu>") (codes "</eu>") b (span_tags (t ++ 40 ∷ []))) (leaves_open spans).eu

  pub nlba_open : (with_all (begun spans) all).nlba ≡ after_tags (codes "<nlba>") (codes "</nlba>") spans.nlba (span_tags (t ++ 40 ∷ []))
  nlba_open = alike.read.nlba ∙ parts_open (codes "<nlba>") (codes "</nlba>") lines t earlier k (opened spans) full (leaves_open spans).nothing
      ∙ ap (λ (b : Bool). after_tags (codes "<nlba>") (codes "</nlba>") b (span_tags (t ++ 40 ∷ []))) (leaves_open spans).nlba
