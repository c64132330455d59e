-- All that is found of a text is its findings, and their codes are low.
use Rattle.std.proofs.Common.{◌≡◌, ℕ, ◌<◌, ◌||◌, refl, List, [], ◌∷◌, ◌++◌, Bool, false, sym, ap, ◌∙◌, append_assoc, append-nil, map, reverse, arith}
use Rattle.std.specs.List.{All}
use Rattle.std.proofs.lemmas.List.Elements.{All-nil, All-cons}
use Rattle.gabc_places.specs.StageLaw.{concat_of}
use Rattle.gabc_places.specs.Code.{rank_of, severity_of}
use Rattle.gabc_places.specs.declared.severity.Severity.TheVariants.{Warning}
use Rattle.gabc_places.specs.declared.place.Place.{Place}
use Rattle.gabc_places.specs.declared.code.Code.{Code}
use Rattle.gabc_places.specs.declared.code.Finding.{Finding}
use Rattle.gabc_text.specs.declared.token.TokenKind.{TokenKind}
use Rattle.gabc_text.specs.declared.token.TagEffect.{TagEffect}
use Rattle.gabc_text.specs.declared.text_event.TextEvent.{TextEvent}
use Rattle.gabc_text.specs.declared.text_event.TextEvent.TheVariants as out
use Rattle.gabc_text.specs.Token.{Token, tokens}
use Rattle.gabc_text.specs.View.{along, early_codes, late_codes, found_at, findings_at, findings_at_end, findings}
use Rattle.gabc_text.specs.ViewFacts.{is_error, has_error}
use Rattle.gabc_text.specs.Events.{events_of, events_by_point}
use Rattle.gabc_text.specs.BuiltText.{BuiltText, with_event, with_events, empty_text, found_in}
use Rattle.gabc_text.proofs.events.EventsByPointAreEvents.{points_joined}
use Rattle.gabc_text.proofs.events.EventsBuildText.{events_whole}

gathered : (t : BuiltText) (os : List TextEvent) → (with_events t os).findings ≡ t.findings ++ found_in os
gathered t [] = sym (append-nil t.findings)
gathered t (out.Kept c ∷ os) = gathered (with_event t (out.Kept c)) os
gathered t (out.Part p ∷ os) = gathered (with_event t (out.Part p)) os
gathered t (out.Found f ∷ os) = gathered (with_event t (out.Found f)) os ∙ append_assoc t.findings (f ∷ []) (found_in os)
gathered t (out.Ended e ∷ os) = gathered (with_event t (out.Ended e)) os

pub found_all : (at : Place) (t : List ℕ) → found_in (concat_of (events_by_point at t)) ≡ findings at t
found_all at t = ap found_in (points_joined at t) ∙ sym (gathered empty_text (events_of at t)) ∙ ap (λ (x : BuiltText). x.findings) (events_whole at t)

-- ---- codes

-- the code stands before W9, and is E2 or that of a warning
abbrev IsLow : Code → Type 0
IsLow c = (rank_of c < 15) × (is_error c ≡ false → severity_of c ≡ Warning)

abbrev AreLow : List Code → Type 0
AreLow [] = Unit {0}
AreLow (c ∷ cs) = IsLow c × AreLow cs

low_append : (cs ds : List Code) → AreLow cs → AreLow ds → AreLow (cs ++ ds)
low_append [] ds h g = g
low_append (c ∷ cs) ds h g = (h.0, low_append cs ds h.1 g)

early_low : (before : List Token) (d : TokenKind) → AreLow (early_codes before d)
early_low before d = grind arith

late_low : (before : List Token) (d : TokenKind) (s : TagEffect) → AreLow (late_codes before d s)
late_low before d s = grind arith

-- ---- findings

abbrev AllLow : List Finding → Type 0
AllLow [] = Unit {0}
AllLow (f ∷ fs) = IsLow f.code × AllLow fs

found_low : (p : Place) (cs : List Code) → AreLow cs → AllLow (map (found_at p) cs)
found_low p [] h = tt
found_low p (c ∷ cs) h = (h.0, found_low p cs h.1)

more_low : (fs gs : List Finding) → AllLow fs → AllLow gs → AllLow (fs ++ gs)
more_low [] gs h g = g
more_low (f ∷ fs) gs h g = (h.0, more_low fs gs h.1 g)

each_low : (fs : List Finding) → AllLow fs → All (λ (f : Finding). rank_of f.code < 15) fs
each_low [] h = All-nil (λ (f : Finding). rank_of f.code < 15)
each_low (f ∷ fs) h = All-cons (λ (g : Finding). rank_of g.code < 15) f fs h.0.0 (each_low fs h.1)

each_warns : (fs : List Finding) → AllLow fs → has_error fs ≡ false → All (λ (f : Finding). severity_of f.code ≡ Warning) fs
each_warns [] h e = All-nil (λ (f : Finding). severity_of f.code ≡ Warning)
each_warns (f ∷ fs) h e = by (is_error f.code) refl e (λ k. each_warns fs h.1 k)
  where
    by : (b : Bool) → is_error f.code ≡ b → (b || has_error fs) ≡ false → (has_error fs ≡ false → All (λ (g : Finding). severity_of g.code ≡ Warning) fs) → All (λ (g : Finding). severity_of g.code ≡ Warning) (f ∷ fs)
    by b g k rest = grind arith

module _ (at : Place) where
  along_low : (ks before : List Token) → AllLow (along (findings_at at) before ks)
  along_low [] before = tt
  along_low (k ∷ ks) before = grind (arith, more_low, found_low, low_append, early_low, late_low, along_low ks (k ∷ before))

  end_low : (before : List Token) → AllLow (findings_at_end at before)
  end_low before = grind arith

  all_low : (t : List ℕ) → AllLow (findings at t)
  all_low t = more_low (along (findings_at at) [] (tokens t)) (findings_at_end at (reverse (tokens t))) (along_low (tokens t) []) (end_low (reverse (tokens t)))

  pub findings_low : (t : List ℕ) → All (λ (f : Finding). rank_of f.code < 15) (findings at t)
  findings_low t = each_low (findings at t) (all_low t)

  pub findings_warn : (t : List ℕ) → has_error (findings at t) ≡ false → All (λ (f : Finding). severity_of f.code ≡ Warning) (findings at t)
  findings_warn t e = each_warns (findings at t) (all_low t) e
