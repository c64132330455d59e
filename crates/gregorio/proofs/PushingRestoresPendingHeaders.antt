-- Pending headers that are pushed into a fresh stage, character by character.
use Rattle.std.proofs.Common.{◌≡◌, ℕ, ◌||◌, List, [], ◌∷◌, ◌++◌, map, Bool, false, Result, Ok, Err, if◌then◌else◌, refl, ap, sym, subst, ◌∙◌, arith}
use Rattle.std.specs.Char.{IsScalar}
use Rattle.std.specs.List.{All, list_any}
use Rattle.std.proofs.lemmas.List.Elements.{All-nil, All-push}
use Rattle.std.proofs.lemmas.List.Folds.{list_any-append}
use Rattle.std.specs.declared.hash.DefaultHasher.{DefaultHasher}
use Rattle.gabc_places.specs.declared.code.Finding.{Finding}
use Rattle.gabc_places.specs.declared.limits.Limits.{Limits}
use Rattle.gabc_places.specs.declared.place.Char.{Char}
use Rattle.gabc_headers.specs.declared.head_event.HeadEvent.TheVariants as head_event
use Rattle.gabc_headers.specs.declared.heads.Heads.{Heads}
use Rattle.gabc_headers.specs.declared.heads.HeadFault.{HeadFault}
use Rattle.gabc_headers.specs.Heads.{heads_of}
use Rattle.gabc_headers.specs.HeldText.{IsHeld, findings_held, inputs_of, text_in}
use Rattle.gabc_headers.specs.witness.HeadEvents.{HeaderStageState, HeadProgress, reading, after_headers, over, events_by, events_of_input, fresh_stage, new_findings, progress_after, progress_by, stage_after, stage_past}
use Rattle.gregorio.specs.Outcome.{is_error_finding}
use Rattle.gregorio.specs.machine.HeldHeaders.{HoldsSo, IsHeldSo, IsPushed, is_error_event}
use Rattle.gregorio.proofs.pieces.TextOfHeaders.{IsFoundAfter}

-- ---- errors among events

found_errors : (fs : List Finding) → list_any is_error_event (map (λ (f : Finding). head_event.Found f) fs) ≡ list_any is_error_finding fs
found_errors [] = refl
found_errors (f ∷ fs) = ap (λ (b : Bool). is_error_finding f || b) (found_errors fs)

-- ---- after one input more

after_one : (xs : List Char) (x : Char) (h : HeaderStageState) → stage_past h (inputs_of (xs ++ x ∷ [])) ≡ stage_after (stage_past h (inputs_of xs)) (Ok x)
after_one [] x h = refl
after_one (y ∷ xs) x h = after_one xs x (stage_after h (Ok y))

text_past : (xs : List Char) (x : Char) → text_in (xs ++ x ∷ []) ≡ text_in xs ++ x.c ∷ []
text_past [] x = refl
text_past (y ∷ xs) x = ap (λ (cs : List ℕ). y.c ∷ cs) (text_past xs x)

-- ---- a character

module _ (law : IsFoundAfter) (limits : Limits) (t : List ℕ) (x : Char) (scalars : All IsScalar t) (scalar : IsScalar x.c) (error : Bool) (before : IsHeld limits t)
    (errors : error ≡ list_any is_error_finding (findings_held limits t)) where
  abbrev longer : List ℕ
  longer = t ++ x.c ∷ []

  abbrev more : List Finding
  more = new_findings limits t longer

  holds_more : IsHeld limits longer → IsHeldSo limits longer (error || list_any is_error_event (map (λ (f : Finding). head_event.Found f) more)) longer
  holds_more held = grind (arith, found_errors, list_any-append)

  holds_by_end : (stopped : HeadFault) (at_end : Bool) → heads_of limits longer ≡ Err stopped → stopped.at_end ≡ at_end
      → HoldsSo limits longer (error || list_any is_error_event (if at_end then map (λ (f : Finding). head_event.Found f) more else head_event.Stop stopped.fault ∷ []))
      (if at_end then reading longer else over)
  holds_by_end stopped h is at_end = grind (arith, holds_more)

  holds_by : (r : Result Heads HeadFault) → heads_of limits longer ≡ r → HoldsSo limits longer (error || list_any is_error_event (events_by more r)) (progress_by longer r)
  holds_by r is = grind (arith, holds_by_end)

module _ (law : IsFoundAfter) (limits : Limits) (t : List ℕ) (x : Char) (scalars : All IsScalar t) (scalar : IsScalar x.c) (error : Bool) where
  holds_on : (progress : HeadProgress) → HoldsSo limits t error progress
      → HoldsSo limits (t ++ x.c ∷ []) (error || list_any is_error_event (events_of_input limits progress (Ok x))) (progress_after limits progress (Ok x))
  holds_on (reading u) h =
      subst (λ (v : List ℕ). HoldsSo limits (t ++ x.c ∷ []) (error || list_any is_error_event (events_of_input limits (reading v) (Ok x))) (progress_after limits (reading v) (Ok x))) (sym h.text)
      (holds_by law limits t x scalars scalar error h.held h.errors (heads_of limits (t ++ x.c ∷ [])) refl)
  holds_on (after_headers book) h = tt
  holds_on over h = tt

past_limits : (xs : List Char) (h : HeaderStageState) → (stage_past h (inputs_of xs)).limits ≡ h.limits
past_limits [] h = refl
past_limits (x ∷ xs) h = past_limits xs (stage_after h (Ok x))

pub pushed_limits : (limits : Limits) (hasher : DefaultHasher) (t : List ℕ) (h : HeaderStageState) (error : Bool) → IsPushed limits hasher t h error → h.limits ≡ limits
pushed_limits limits hasher t h error p = ap (λ (s : HeaderStageState). s.limits) p.past ∙ past_limits p.xs (fresh_stage limits hasher)

pub pushed_on : IsFoundAfter → (limits : Limits) (hasher : DefaultHasher) (t : List ℕ) (x : Char) (old new : HeaderStageState) (error found : Bool) → IsScalar x.c → IsPushed limits hasher t old error → new ≡ stage_after old (Ok x)
    → found ≡ list_any is_error_event (events_of_input old.limits old.progress (Ok x)) → IsPushed limits hasher (t ++ x.c ∷ []) new (error || found)
pushed_on law limits hasher t x old new error found scalar p is found_is =
    let at = pushed_limits limits hasher t old error p in
    record {
      xs = p.xs ++ x ∷ [];
      text = text_past p.xs x ∙ ap (λ (cs : List ℕ). cs ++ x.c ∷ []) p.text;
      scalars = All-push IsScalar t x.c p.scalars scalar;
      past = is ∙ (ap (λ (s : HeaderStageState). stage_after s (Ok x)) p.past ∙ sym (after_one p.xs x (fresh_stage limits hasher)));
      holds = subst (λ (s : HeaderStageState). HoldsSo limits (t ++ x.c ∷ []) (error || found) s.progress) (sym is)
          (subst (λ (l : Limits). HoldsSo limits (t ++ x.c ∷ []) (error || found) (progress_after l old.progress (Ok x))) (sym at)
          (subst (λ (b : Bool). HoldsSo limits (t ++ x.c ∷ []) (error || b) (progress_after limits old.progress (Ok x)))
          (sym (found_is ∙ ap (λ (l : Limits). list_any is_error_event (events_of_input l old.progress (Ok x))) at))
          (holds_on law limits t x p.scalars scalar error old.progress p.holds)));
    }

pub none_pushed : (limits : Limits) (hasher : DefaultHasher) (h : HeaderStageState) → ((limits : Limits) → IsHeld limits []) → h ≡ fresh_stage limits hasher → IsPushed limits hasher [] h false
none_pushed limits hasher h begins is = grind (arith, All-nil)
