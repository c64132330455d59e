-- What a stage emits with a character, but for the parts of the view.
use Rattle.std.proofs.Common.{arith, ◌≡◌, ◌==◌, ◌&&◌, ℕ, List, [], ◌∷◌, ◌++◌, Bool, true, false, cond, Option, Some, None, option_to_list, map, refl, sym, ap, ◌∙◌, append-nil}
use Rattle.gabc_places.specs.declared.code.Code.{Code}
use Rattle.gabc_places.specs.declared.code.Finding.{Finding}
use Rattle.gabc_places.specs.declared.place.Char.{Char}
use Rattle.gabc_places.specs.declared.place.Place.{Place}
use Rattle.gabc_places.specs.declared.place.Span.{Span}
use Rattle.gabc_text.specs.declared.progress.Progress.{Progress}
use Rattle.gabc_text.specs.declared.text_facts.TextFacts.{TextFacts}
use Rattle.gabc_text.specs.declared.token.TokenKind.{TokenKind}
use Rattle.gabc_text.specs.declared.token.TagEffect.{TagEffect}
use Rattle.gabc_text.specs.declared.token.TagEffect.TheVariants.{Other}
use Rattle.gabc_text.specs.declared.token_state.TokenState.{TokenState}
use Rattle.gabc_text.specs.declared.token_state.Step.{Step}
use Rattle.gabc_text.specs.declared.token_state.Step.TheVariants.{Stays, Ends}
use Rattle.gabc_text.specs.declared.stage.TextStage.{TextStage}
use Rattle.gabc_text.specs.declared.text_event.TextEnd.{TextEnd}
use Rattle.gabc_text.specs.declared.text_event.TextEnd.TheVariants as text_ending
use Rattle.gabc_text.specs.declared.text_event.TextPart.{TextPart}
use Rattle.gabc_text.specs.declared.text_event.TextPart.TheVariants as part
use Rattle.gabc_text.specs.declared.text_event.TextEvent.{TextEvent}
use Rattle.gabc_text.specs.declared.text_event.TextEvent.TheVariants as out
use Rattle.gabc_text.specs.View.{found_at, piece_kind, centre_by}
use Rattle.gabc_text.specs.Events.{option_list_of, count_by}
use Rattle.gabc_text.specs.witness.EventsLeft.{codes_by, codes_last, findings_there, parts_by, whole_events_by, end_events_by}
use Rattle.gabc_text.specs.witness.EmittedByKept.{Emitted, emitted, nothing}
use Rattle.gabc_text.specs.machine.Resuming.{kept_at}
use Rattle.gabc_text.specs.machine.TextFacts.{early_at, facts_after}
use Rattle.gabc_text.specs.machine.TextStage.{settle_stage, events_of_settling, events_of_settling_by, events_of_settled_push, events_of_reading, events_of_step, events_of_end, events_of_push, events_of_finish_by, end_by, is_cut_end, progress_after, stage_past_char, char_event, push_stage}
use Rattle.gabc_text.specs.machine.TokenState.{settled_kind, next_step, keep, is_plain}
use Rattle.gabc_text.proofs.KeptCharacters.{kept_append}
use Rattle.gabc_text.proofs.by_kept.FatesOfStages.{ended_is}
use Rattle.gabc_text.proofs.events.TextEndsOnce.{ends_more}
use Rattle.gabc_text.proofs.order.FindingsLieWithin.{found_more}

-- ---- of events one after another

abbrev joined : Emitted → Emitted → Emitted
joined a b = record { kept = a.kept ++ b.kept; found = a.found ++ b.found; ends = a.ends ++ b.ends }

emitted_append : (a b : List TextEvent) → emitted (a ++ b) ≡ joined (emitted a) (emitted b)
emitted_append a b = rw (kept_append a b, found_more a b, ends_more a b) refl

joined_same : (a b c d : Emitted) → a ≡ c → b ≡ d → joined a b ≡ joined c d
joined_same a b c d e f = ap (λ (x : Emitted). joined x b) e ∙ ap (joined c) f

-- findings alone
abbrev pub only_found : List Finding → Emitted
only_found found = record { kept = []; found = found; ends = [] }

emitted_parts : (ps : List TextPart) (es : List TextEvent) → emitted (map (λ (p : TextPart). out.Part p) ps ++ es) ≡ emitted es
emitted_parts [] es = refl
emitted_parts (p ∷ ps) es = emitted_parts ps es

emitted_found : (p : Place) (cs : List Code) → emitted (findings_there p cs) ≡ only_found (map (found_at p) cs)
emitted_found p [] = refl
emitted_found p (c ∷ cs) = ap (λ (x : Emitted). record x { found = found_at p c ∷ x.found }) (emitted_found p cs)

emitted_token : (f : TextFacts) (progress : Progress) (k : TokenKind) (so : TagEffect) (last to : ℕ) → emitted (whole_events_by f progress k so last to) ≡ only_found (map (found_at progress.place) (codes_by f k so))
emitted_token f progress k so last to =
    emitted_parts (parts_by f progress k last to (piece_kind k so)) (findings_there progress.place (codes_by f k so)) ∙ emitted_found progress.place (codes_by f k so)

-- ---- of a character

abbrev pub step_codes : TextFacts → Step → List Code
step_codes f (Stays m) = []
step_codes f (Ends k so) = codes_by f k so

-- what is found with it
abbrev pub codes_here : TextFacts → TokenState → ℕ → List Code
codes_here f m c = option_list_of (early_at f m c) ++ step_codes f (next_step m c)

emitted_step : (t : TextStage) (w : Step) (last : ℕ) → emitted (events_of_step t w last) ≡ only_found (map (found_at t.progress.place) (step_codes t.facts w))
emitted_step t (Stays m) last = refl
emitted_step t (Ends k so) last = emitted_token t.facts t.progress k so last t.progress.kept

abbrev pub char_there : Place → ℕ → Char
char_there p c = record { c = c; place = p }

emitted_char : (p : Place) (o : Option ℕ) → emitted (option_list_of (char_event p o)) ≡ record { kept = map (char_there p) (option_to_list o); found = []; ends = [] }
emitted_char p o = grind arith

found_both : (p : Place) (a b : List Code) → map (found_at p) (a ++ b) ≡ map (found_at p) a ++ map (found_at p) b
found_both p [] b = refl
found_both p (c ∷ a) b = ap (λ (x : List Finding). found_at p c ∷ x) (found_both p a b)

-- what is kept, and what is found
abbrev pub kept_found : List Char → List Finding → Emitted
kept_found kept found = record { kept = kept; found = found; ends = [] }

emitted_reading : (t : TextStage) (c : ℕ) → emitted (events_of_reading t c) ≡ kept_found (map (char_there t.progress.next) (option_to_list (keep t.facts t.state c))) (map (found_at t.progress.place) (codes_here t.facts t.state c))
emitted_reading t c =
    emitted_append (findings_there t.progress.place early) (kept ++ step)
    ∙ joined_same (emitted (findings_there t.progress.place early)) (emitted (kept ++ step)) (only_found (map (found_at t.progress.place) early)) (joined (kept_found chars []) (only_found (map (found_at t.progress.place) late)))
    (emitted_found t.progress.place early)
    (emitted_append kept step ∙ joined_same (emitted kept) (emitted step) (kept_found chars []) (only_found (map (found_at t.progress.place) late)) (emitted_char t.progress.next (keep t.facts t.state c)) (emitted_step (stage_past_char t c) (next_step t.state c) t.progress.kept))
    ∙ ap (λ (x : List Char). kept_found x (map (found_at t.progress.place) early ++ map (found_at t.progress.place) late)) (append-nil chars)
    ∙ ap (kept_found chars) (sym (found_both t.progress.place early late))
  where
    early : List Code
    early = option_list_of (early_at t.facts t.state c)

    late : List Code
    late = step_codes t.facts (next_step t.state c)

    chars : List Char
    chars = map (char_there t.progress.next) (option_to_list (keep t.facts t.state c))

    kept : List TextEvent
    kept = option_list_of (char_event t.progress.next (keep t.facts t.state c))

    step : List TextEvent
    step = events_of_step (stage_past_char t c) (next_step t.state c) t.progress.kept

-- a token that ends before it has no findings
settled_none : (f : TextFacts) (m : TokenState) (c : ℕ) (k : TokenKind) → settled_kind m c ≡ Some k → codes_by f k Other ≡ []
settled_none f m c k e = grind arith

emitted_settling : (s : TextStage) (c : ℕ) → emitted (events_of_settling s c) ≡ nothing
emitted_settling s c = by (settled_kind s.state c) refl
  where
    by : (o : Option TokenKind) → settled_kind s.state c ≡ o → emitted (events_of_settling_by s o) ≡ nothing
    by None e = refl
    by (Some k) e = emitted_token s.facts s.progress k Other s.progress.start s.progress.kept ∙ ap (λ (cs : List Code). only_found (map (found_at s.progress.place) cs)) (settled_none s.facts s.state c k e)

events_settled : (s : TextStage) (c : ℕ) → s.ended ≡ false → events_of_push s c ≡ events_of_settling s c ++ events_of_settled_push (settle_stage s c) c
events_settled s c on = ap (λ (d : Bool). cond d [] (events_of_settling s c ++ events_of_settled_push (settle_stage s c) c)) on

events_then : (t : TextStage) (c : ℕ) (b : Bool) → (c == 40 && is_plain t.state) ≡ b → events_of_settled_push t c ≡ cond b (events_of_end t.facts t.progress text_ending.Notes) (events_of_reading t c)
events_then t c b e = ap (λ (d : Bool). cond d (events_of_end t.facts t.progress text_ending.Notes) (events_of_reading t c)) e

emitted_then : (s : TextStage) (c : ℕ) (es : List TextEvent) (x : Emitted) → s.ended ≡ false → events_of_settled_push (settle_stage s c) c ≡ es → emitted es ≡ x → emitted (events_of_push s c) ≡ x
emitted_then s c es x on e f =
    ap emitted (events_settled s c on)
    ∙ emitted_append (events_of_settling s c) (events_of_settled_push (settle_stage s c) c)
    ∙ joined_same (emitted (events_of_settling s c)) (emitted (events_of_settled_push (settle_stage s c) c)) nothing x (emitted_settling s c) (ap emitted e ∙ f)

pub emitted_push : (s : TextStage) (c : ℕ) → s.ended ≡ false → (push_stage s c).ended ≡ false → emitted (events_of_push s c)
    ≡ kept_found (map (char_there (settle_stage s c).progress.next) (option_to_list (kept_at s c))) (map (found_at (settle_stage s c).progress.place) (codes_here (settle_stage s c).facts (settle_stage s c).state c))
emitted_push s c on goes =
    emitted_then s c (events_of_reading (settle_stage s c) c)
    (kept_found (map (char_there (settle_stage s c).progress.next) (option_to_list (kept_at s c))) (map (found_at (settle_stage s c).progress.place) (codes_here (settle_stage s c).facts (settle_stage s c).state c)))
    on (events_then (settle_stage s c) c false (sym (ended_is s c on) ∙ goes)) (emitted_reading (settle_stage s c) c)

-- ---- of the end

emitted_centre : (o : Option Span) (how : TextEnd) → emitted (map (λ (c : Span). out.Part (part.Centre c)) (option_list_of o) ++ out.Ended how ∷ []) ≡ record { kept = []; found = []; ends = how ∷ [] }
emitted_centre o how = grind arith

-- what is found, and the end
abbrev pub found_end : List Finding → TextEnd → Emitted
found_end found how = record { kept = []; found = found; ends = how ∷ [] }

pub emitted_end : (f : TextFacts) (progress : Progress) (cut : Bool) (how : TextEnd) → emitted (end_events_by f progress cut how) ≡ found_end (map (found_at progress.next) (cond cut [] (codes_last f))) how
emitted_end f progress cut how =
    emitted_append (findings_there progress.next (cond cut [] (codes_last f))) rest
    ∙ joined_same (emitted (findings_there progress.next (cond cut [] (codes_last f)))) (emitted rest) (only_found (map (found_at progress.next) (cond cut [] (codes_last f)))) (found_end [] how)
    (emitted_found progress.next (cond cut [] (codes_last f))) (emitted_centre centre how)
    ∙ ap (λ (x : List Finding). found_end x how) (append-nil (map (found_at progress.next) (cond cut [] (codes_last f))))
  where
    centre : Option Span
    centre = centre_by (count_by progress.pieces progress.blank) progress.begin progress.end

    rest : List TextEvent
    rest = map (λ (c : Span). out.Part (part.Centre c)) (option_list_of centre) ++ out.Ended how ∷ []

pub emitted_last : (s : TextStage) (c : ℕ) → s.ended ≡ false → (push_stage s c).ended ≡ true → emitted (events_of_push s c)
    ≡ found_end (map (found_at (settle_stage s c).progress.next) (codes_last (settle_stage s c).facts)) text_ending.Notes
emitted_last s c on over =
    emitted_then s c (events_of_end (settle_stage s c).facts (settle_stage s c).progress text_ending.Notes)
    (found_end (map (found_at (settle_stage s c).progress.next) (codes_last (settle_stage s c).facts)) text_ending.Notes)
    on (events_then (settle_stage s c) c true (sym (ended_is s c on) ∙ over)) (emitted_end (settle_stage s c).facts (settle_stage s c).progress false text_ending.Notes)

-- at the end of the input
abbrev pub finish_by : TextStage → Option TokenKind → Emitted
finish_by s None = found_end (map (found_at s.progress.next) (codes_last s.facts)) text_ending.Finished
finish_by s (Some k) =
    joined (only_found (map (found_at s.progress.place) (codes_by s.facts k Other)))
    (found_end (map (found_at s.progress.next) (cond (is_cut_end (end_by k s.progress.place)) [] (codes_last (facts_after s.facts k Other)))) (end_by k s.progress.place))

pub emitted_finish_by : (s : TextStage) (o : Option TokenKind) → emitted (events_of_finish_by s o) ≡ finish_by s o
emitted_finish_by s None = emitted_end s.facts s.progress false text_ending.Finished
emitted_finish_by s (Some k) =
    emitted_append (whole_events_by s.facts s.progress k Other s.progress.start s.progress.kept) (events_of_end (facts_after s.facts k Other) (progress_after s.facts s.progress k Other s.progress.next) (end_by k s.progress.place))
    ∙ joined_same (emitted (whole_events_by s.facts s.progress k Other s.progress.start s.progress.kept)) (emitted (events_of_end (facts_after s.facts k Other) (progress_after s.facts s.progress k Other s.progress.next) (end_by k s.progress.place)))
    (only_found (map (found_at s.progress.place) (codes_by s.facts k Other)))
    (found_end (map (found_at s.progress.next) (cond (is_cut_end (end_by k s.progress.place)) [] (codes_last (facts_after s.facts k Other)))) (end_by k s.progress.place))
    (emitted_token s.facts s.progress k Other s.progress.start s.progress.kept)
    (emitted_end (facts_after s.facts k Other) (progress_after s.facts s.progress k Other s.progress.next) (is_cut_end (end_by k s.progress.place)) (end_by k s.progress.place))
