-- The loop over a text's characters, and its end.
use Rattle.std.proofs.Common.{◌≡◌, ℕ, ◌+◌, ◌<◌, ◌^◌, List, [], ◌∷◌, true, false, refl, sym, ap, ◌∙◌, length, length-append, take, drop, reverse, take-append-drop, arith, IsUtf8}
use Rattle.std.specs.Str.{chars}
use Rattle.std.proofs.lemmas.Str.{length-encode, encodes-chars, length-le-encodes}
use lib.Utf8.{encode, encodes}
use Rattle.gabc_places.specs.StageLaw.{concat_of}
use Rattle.gabc_places.specs.declared.place.Place.{Place}
use Rattle.gabc_text.specs.declared.text_event.TextEvent.{TextEvent}
use Rattle.gabc_text.specs.declared.stage.TextStage.{TextStage}
use Rattle.gabc_text.specs.Token.{Token, tokens}
use Rattle.gabc_text.specs.View.{bytes_of, kept, findings, ending_in, ending_after, length_of}
use Rattle.gabc_text.specs.Events.{CountsFit, after_tokens, end_after}
use Rattle.gabc_text.specs.TextRead.{view_in}
use Rattle.gabc_text.specs.TextStage.{fresh_stage}
use Rattle.gabc_text.specs.machine.TextStage.{push_stage, events_of_push}
use Rattle.gabc_text.proofs.machine.EventsStepByStep.{stepwise, stepwise_left}
use Rattle.gabc_text.specs.BuiltText.{BuiltText, with_events, empty_text}
use Rattle.gabc_text.specs.machine.BuiltText.{ending_of}
use Rattle.gabc_text.proofs.tokens.CountsOfTexts.{bytes_append}
use Rattle.gabc_text.proofs.machine.TokensOneAfterAnother.{rest_done}
use Rattle.gabc_text.proofs.machine.FreshStageEmitsEventsByPoint.{fresh_stepwise}
use Rattle.gabc_text.proofs.events.EventsByPointAreEvents.{joined_nothing, points_joined}
use Rattle.gabc_text.proofs.events.EventsBuildText.{events_append, events_whole}

-- the bytes of characters are those of their spelling
pub bytes_encodes : (t : List ℕ) → bytes_of t ≡ length (encodes t)
bytes_encodes [] = refl
bytes_encodes (c ∷ t) = omega (arith, bytes_encodes t, length-encode c, length-append (encode c) (encodes t))

pub bytes_chars : (bs : List ℕ) → IsUtf8 bs → bytes_of (chars bs) ≡ length bs
bytes_chars bs u = bytes_encodes (chars bs) ∙ ap (length {A = ℕ}) (encodes-chars bs u)

-- no count of the text of some bytes reaches its last value
pub text_fits : (at : Place) (bs : List ℕ) → IsUtf8 bs → at.line + length bs < 2 ^ 64 → at.column + length bs < 2 ^ 64 → CountsFit at (chars bs)
text_fits at bs u line column = grind (arith, encodes-chars, length-le-encodes, bytes_chars)

-- a character more
pub events_goes : (events now target : BuiltText) (stage next : TextStage) (c : ℕ) (cs : List ℕ) → with_events events (concat_of (stepwise stage (c ∷ cs))) ≡ target
    → next ≡ push_stage stage c → now ≡ with_events events (events_of_push stage c) → with_events now (concat_of (stepwise next cs)) ≡ target
events_goes events now target stage next c cs e f g = grind (arith, events_append)

pub left_goes : (stage next : TextStage) (c : ℕ) (cs left : List ℕ) → stepwise_left stage (c ∷ cs) ≡ left → next ≡ push_stage stage c → next.ended ≡ false → stepwise_left next cs ≡ left
left_goes stage next c cs left e f g = cc

pub left_ends : (stage next : TextStage) (c : ℕ) (cs left : List ℕ) → stepwise_left stage (c ∷ cs) ≡ left → next ≡ push_stage stage c → next.ended ≡ true → c ∷ cs ≡ left
left_ends stage next c cs left e f g = cc

-- ---- the end

how_meant : (at : Place) (before : List Token) (prefix rest : List ℕ) → ending_of (end_after at before rest) (bytes_of prefix) ≡ ending_after at before prefix rest
how_meant at before prefix rest = grind arith

-- what was emitted of a text is what it says
pub record Meant (at : Place) (t : List ℕ) (events : BuiltText) (index : ℕ) : Type 0 where
  pub kept_is : events.kept ≡ encodes (kept t)
  pub view_is : events.view ≡ view_in t
  pub findings_are : events.findings ≡ findings at t
  pub how_is : ending_of events.end index ≡ ending_in at t

pub all_meant : (at : Place) (t : List ℕ) (events : BuiltText) (index : ℕ) (rest : List ℕ) → CountsFit at t → events ≡ with_events empty_text (concat_of (stepwise (fresh_stage at) t))
    → rest ≡ stepwise_left (fresh_stage at) t → index + bytes_of rest ≡ bytes_of t → Meant at t events index
all_meant at t events index rest fits e f g =
    let r = fresh_stepwise at t fits in
    let all = e ∙ ap (λ (x : List (List TextEvent)). with_events empty_text (concat_of x)) r.0 ∙ ap (with_events empty_text) (points_joined at t) ∙ events_whole at t in
    let left : rest ≡ drop (length_of t) t = f ∙ r.1 in
    let whole : bytes_of t ≡ bytes_of (take (length_of t) t) + bytes_of (drop (length_of t) t) =
    ap bytes_of (sym (take-append-drop (length_of t) t)) ∙ bytes_append (take (length_of t) t) (drop (length_of t) t) in
    let here : index ≡ bytes_of (take (length_of t) t) = omega (arith, g, ap bytes_of left, whole) in
    record {
      kept_is = ap (λ (x : BuiltText). x.kept) all;
      view_is = ap (λ (x : BuiltText). x.view) all;
      findings_are = ap (λ (x : BuiltText). x.findings) all;
      how_is = ap (λ (x : BuiltText). ending_of x.end index) all ∙ ap (ending_of (end_after at (reverse (tokens t)) (after_tokens t))) here
          ∙ how_meant at (reverse (tokens t)) (take (length_of t) t) (drop (length_of t) t);
    }

pub events_ends : (now target : BuiltText) (next : TextStage) (cs : List ℕ) → with_events now (concat_of (stepwise next cs)) ≡ target → next.ended ≡ true → now ≡ target
events_ends now target next cs e f = sym (ap (with_events now) (ap concat_of (rest_done next cs f) ∙ joined_nothing cs)) ∙ e
