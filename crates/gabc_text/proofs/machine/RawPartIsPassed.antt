-- A machine in a raw part, and the characters of a text up to its first `<`.
use Rattle.std.proofs.Common.{arith, ◌≡◌, ℕ, ◌==◌, not, List, [], ◌∷◌, ◌++◌, true, false, cond, refl, sym, ap, ◌∙◌, append_assoc, append-nil, Some, Result, OnOk, is_ok, IsUtf8}
use Rattle.std.specs.Str.{chars, NonePass}
use Rattle.std.proofs.lemmas.Str.{encodes-chars}
use Rattle.std.proofs.lemmas.Bool.{not-true, and_parts}
use Rattle.gabc_text.specs.declared.progress.Progress.{Progress}
use Rattle.gabc_text.specs.declared.stage.TextStage.{TextStage}
use Rattle.gabc_text.specs.declared.text_event.TextEvent.{TextEvent}
use Rattle.gabc_text.specs.declared.text_event.TextEvent.TheVariants as out
use lib.Utf8.{encode, encodes}
use Rattle.gabc_places.specs.StageLaw.{concat_of}
use Rattle.gabc_text.specs.BuiltText.{BuiltText, with_events}
use Rattle.gabc_text.specs.machine.TextStage.{push_stage, events_of_push, progress_past}
use Rattle.gabc_text.proofs.machine.EventsStepByStep.{stepwise, stepwise_left}
use Rattle.gabc_text.proofs.events.EventsBuildText.{events_append}
use Rattle.gabc_text.specs.machine.RawPart.{stage_past, events_of_pushes, is_unmatched, is_in_raw}

-- a character that is kept in a raw part
abbrev PassesOver : TextStage → ℕ → Type 0
PassesOver s c = (push_stage s c ≡ record s { progress = progress_past s.progress c (Some c) }) × (events_of_push s c ≡ out.Kept (record { c = c; place = s.progress.next }) ∷ [])

pub passes : (s : TextStage) (c : ℕ) → is_in_raw s ≡ true → c == 60 ≡ false → PassesOver s c
passes s c h e = grind arith

-- a character more
pub pass_goes : (s target : TextStage) (progress : Progress) (c : ℕ) (cs : List ℕ) → is_in_raw s ≡ true → NonePass (λ x. x == 60) (c ∷ cs) → progress ≡ progress_past s.progress c (Some c) → stage_past s (c ∷ cs) ≡ target
    → stage_past (record s { progress = progress }) cs ≡ target
pass_goes s target progress c cs h none e f = grind arith

-- ---- several characters

-- it still stands in the raw part, and reads on as it would
raw_step : (s : TextStage) (c : ℕ) → is_in_raw s ≡ true → c == 60 ≡ false → is_in_raw (push_stage s c) ≡ true
raw_step s c h e = ap is_in_raw (passes s c h e).0 ∙ h

running : (s : TextStage) → is_in_raw s ≡ true → s.ended ≡ false
running s h = not-true s.ended (and_parts (not s.ended) (is_unmatched s.state) h).0

pub runs_on : (s : TextStage) (cs : List ℕ) → is_in_raw s ≡ true → NonePass (λ x. x == 60) cs → (stage_past s cs).ended ≡ false
runs_on s [] h none = running s h
runs_on s (c ∷ cs) h none = runs_on (push_stage s c) cs (raw_step s c h none.0) none.1

pub left_on : (s : TextStage) (cs ds : List ℕ) → is_in_raw s ≡ true → NonePass (λ x. x == 60) cs → stepwise_left s (cs ++ ds) ≡ stepwise_left (stage_past s cs) ds
left_on s [] ds h none = refl
left_on s (c ∷ cs) ds h none = grind (arith, running, raw_step, left_on (push_stage s c) cs ds (raw_step s c h none.0) none.1)

-- what it emits for them, and then for what follows
pub events_on : (t : BuiltText) (s : TextStage) (cs ds : List ℕ) → with_events t (concat_of (stepwise s (cs ++ ds))) ≡ with_events (with_events t (events_of_pushes s cs)) (concat_of (stepwise (stage_past s cs) ds))
events_on t s [] ds = refl
events_on t s (c ∷ cs) ds = grind (arith, events_on (with_events t (events_of_push s c)) (push_stage s c) cs ds, events_append)

-- all are kept
pub events_raw : (t : BuiltText) (s : TextStage) (cs : List ℕ) → is_in_raw s ≡ true → NonePass (λ x. x == 60) cs → with_events t (events_of_pushes s cs) ≡ record t { kept = t.kept ++ encodes cs }
events_raw t s [] h none = ap (λ (x : List ℕ). record t { kept = x }) (sym (append-nil t.kept))
events_raw t s (c ∷ cs) h none =
    ap (λ (x : List TextEvent). with_events t (x ++ events_of_pushes (push_stage s c) cs)) (passes s c h none.0).1
    ∙ events_raw (record t { kept = t.kept ++ encode c }) (push_stage s c) cs (raw_step s c h none.0) none.1
    ∙ ap (λ (x : List ℕ). record t { kept = x }) (append_assoc t.kept (encode c) (encodes cs))

-- a text is added after what is kept, if there is memory
pub events_passed : {E : Type 0} (r : Result (Unit {0}) E) (t : BuiltText) (s : TextStage) (bs more : List ℕ) → IsUtf8 bs → is_in_raw s ≡ true → NonePass (λ x. x == 60) (chars bs)
    → more ≡ cond (is_ok r) (t.kept ++ bs) t.kept → OnOk r (record t { kept = more } ≡ with_events t (events_of_pushes s (chars bs)))
events_passed r t s bs more u h none e = grind (arith, encodes-chars, events_raw)

-- the characters of a text in a raw part more
pub raw_goes : (events now target : BuiltText) (stage next : TextStage) (t cs ds left : List ℕ) → t ≡ cs ++ ds → is_in_raw stage ≡ true → NonePass (λ x. x == 60) cs
    → next ≡ stage_past stage cs → now ≡ with_events events (events_of_pushes stage cs) → with_events events (concat_of (stepwise stage t)) ≡ target → stepwise_left stage t ≡ left
    → (next.ended ≡ false) × ((with_events now (concat_of (stepwise next ds)) ≡ target) × (stepwise_left next ds ≡ left))
raw_goes events now target stage next t cs ds left e h none f g a b = grind (arith, runs_on, events_on, left_on)
