-- The pending headers of a stage: their end alone stops them, and pushed into a fresh stage they are pending again.
use Rattle.std.proofs.Common.{◌≡◌, ℕ, List, [], ◌∷◌, ◌++◌, length, take, map, Bool, true, false, refl, sym, ap, ◌∙◌, subst, append-nil, Result, Err, arith}
use Rattle.std.specs.Str.{chars}
use Rattle.std.specs.Hash.DefaultHasher.{initial}
use Rattle.std.proofs.lemmas.Str.{scalars-chars}
use Rattle.std.specs.Prelude.{IsUtf8}
use lib.Utf8.{scalars}
use Rattle.std.specs.declared.hash.DefaultHasher.{DefaultHasher}
use Rattle.gabc_places.specs.declared.place.Char.{Char}
use Rattle.gabc_places.specs.declared.code.Fault.{Fault}
use Rattle.gabc_places.specs.declared.limits.Limits.{Limits}
use Rattle.gabc_places.specs.StageLaw.{concat_of}
use Rattle.gabc_headers.specs.declared.head_event.HeadEvent.{HeadEvent}
use Rattle.gabc_headers.specs.declared.head_event.HeadEvent.TheVariants.{Found}
use Rattle.gabc_headers.specs.declared.header_machine.HeaderMachine.{HeaderMachine}
use Rattle.gabc_headers.specs.declared.heads.Heads.{Heads}
use Rattle.gabc_headers.specs.declared.heads.HeadFault.{HeadFault}
use Rattle.gabc_headers.specs.Heads.{findings_of}
use Rattle.gabc_headers.specs.HeadEvents.{events_of_broken, inputs_after, emitted_by}
use Rattle.gabc_headers.specs.witness.HeadEvents.{HeadProgress, reading, after_headers, over, book_at, stage_past, text_held, progress_by, progress_with, events_at, events_left}
use Rattle.gabc_headers.specs.HeldText.{IsHeld, findings_held, holding, text_in, inputs_of}
use Rattle.gabc_headers.specs.machine.EntryMap.{EntryMapState}
use Rattle.gabc_headers.specs.machine.HeaderMachine.{fresh_machine}
use Rattle.gabc_headers.specs.machine.HeaderStage.{IsReading}
use Rattle.gabc_headers.proofs.prefixes.EventsMakeHeads.{concat-cons, open_progress}
use Rattle.gabc_headers.proofs.prefixes.EventsNeedNoEnd.{progress_past, stays_over, stays_after, stands, broken_gives}
use Rattle.gabc_headers.proofs.prefixes.HeadsSoFar.{begin_read, open_so_far}
use Rattle.gabc_headers.proofs.stages.MachineTakesText.{has_read}

-- a stage that has read a text holds it
pub is_held : (limits : Limits) (text : List ℕ) (space : ℕ) (machine : HeaderMachine) (headers : EntryMapState) → IsUtf8 text → IsReading limits text space machine headers → IsHeld limits (chars text)
is_held limits text space machine headers u h = grind (arith, open_so_far, scalars-chars, has_read)

-- ---- wherever its characters stand

abbrev so_far : Limits → HeadProgress → List (Result Char Fault) → List HeadEvent
so_far limits progress xs = emitted_by false xs (events_left limits progress xs)

abbrev is_open : HeadProgress → Bool
is_open (reading t) = true
is_open (after_headers book) = false
is_open over = false

closed_stays : (limits : Limits) (xs : List Char) (q : List ℕ) → progress_past limits over (inputs_of xs) ≡ reading q → {A : Type 0} → A
closed_stays limits xs q e = absurd (let f : false ≡ true = ap is_open (sym (stays_over limits (inputs_of xs)) ∙ e) in cc)

passed_stays : (limits : Limits) (book : List (List ℕ × List ℕ)) (xs : List Char) (q : List ℕ) → progress_past limits (after_headers book) (inputs_of xs) ≡ reading q → {A : Type 0} → A
passed_stays limits book xs q e = absurd (let f : false ≡ true = ap is_open (sym (stays_after limits book xs) ∙ e) in cc)

-- The stage that stands in the headers after these characters, however they are placed.
pub record IsHeldPast (limits : Limits) (hasher : DefaultHasher) (p : List ℕ) (xs : List Char) (b q : List ℕ) : Type 0 where
  pub stage : stage_past (holding limits hasher p) (inputs_of xs) ≡ holding limits hasher q
  pub events : so_far limits (reading p) (inputs_of xs) ≡ so_far limits (reading p) (inputs_after b (text_in xs))

held_past : (limits : Limits) (hasher : DefaultHasher) (p : List ℕ) (xs : List Char) (b q : List ℕ) → progress_past limits (reading p) (inputs_of xs) ≡ reading q → IsHeldPast limits hasher p xs b q
held_past limits hasher p [] b q e = record { stage = ap (holding limits hasher) (ap text_held e); events = refl }
held_past limits hasher p (x ∷ xs) b q e = by (λ t f. held_past limits hasher t xs (b ++ x.c ∷ []) q f) (progress_with limits p x.c) refl e
  where
    first : List HeadEvent
    first = events_at limits p x.c

    split : (progress : HeadProgress) (ys : List (Result Char Fault)) → concat_of (first ∷ take (length ys) (events_left limits progress ys)) ≡ first ++ so_far limits progress ys
    split progress ys = concat-cons first (take (length ys) (events_left limits progress ys))

    by : ((t : List ℕ) → progress_past limits (reading t) (inputs_of xs) ≡ reading q → IsHeldPast limits hasher t xs (b ++ x.c ∷ []) q)
        → (progress : HeadProgress) → progress_with limits p x.c ≡ progress → progress_past limits (progress_with limits p x.c) (inputs_of xs) ≡ reading q → IsHeldPast limits hasher p (x ∷ xs) b q
    by again (reading t) f g =
        let more = again t (subst (λ (n : HeadProgress). progress_past limits n (inputs_of xs) ≡ reading q) f g) in
        record {
          stage = ap (λ (n : HeadProgress). stage_past (record { limits = limits; progress = n; book = book_at n []; hasher = hasher }) (inputs_of xs)) f ∙ more.stage;
          events = split (progress_with limits p x.c) (inputs_of xs) ∙ ap (λ (n : HeadProgress). first ++ so_far limits n (inputs_of xs)) f ∙ ap (λ (es : List HeadEvent). first ++ es) more.events
              ∙ sym (ap (λ (n : HeadProgress). first ++ so_far limits n (inputs_after (b ++ x.c ∷ []) (text_in xs))) f) ∙ sym (split (progress_with limits p x.c) (inputs_after (b ++ x.c ∷ []) (text_in xs)));
        }
    by again (after_headers book) f g = passed_stays limits book xs q (subst (λ (n : HeadProgress). progress_past limits n (inputs_of xs) ≡ reading q) f g)
    by again over f g = closed_stays limits xs q (subst (λ (n : HeadProgress). progress_past limits n (inputs_of xs) ≡ reading q) f g)

-- where a stage stands does not depend on where the characters do
same_progress : (limits : Limits) (progress : HeadProgress) (xs : List Char) (b : List ℕ) → progress_past limits progress (inputs_of xs) ≡ progress_past limits progress (inputs_after b (text_in xs))
same_progress limits progress [] b = refl
same_progress limits (reading t) (x ∷ xs) b = same_progress limits (progress_with limits t x.c) xs (b ++ x.c ∷ [])
same_progress limits (after_headers book) (x ∷ xs) b = same_progress limits (after_headers book) xs (b ++ x.c ∷ [])
same_progress limits over (x ∷ xs) b = same_progress limits over xs (b ++ x.c ∷ [])

pub held_again : (limits : Limits) (hasher : DefaultHasher) (xs : List Char) → scalars (text_in xs) ≡ true → IsHeld limits (text_in xs) → IsHeldPast limits hasher [] xs [] (text_in xs)
held_again limits hasher xs u h =
    held_past limits hasher [] xs [] (text_in xs)
    (same_progress limits (reading []) xs [] ∙ stands limits (text_in xs) [] (fresh_machine limits.header) [] u (begin_read limits.header)
    ∙ ap (progress_by (text_in xs)) h.heads ∙ open_progress (text_in xs) h.stopped h.at_end)

-- what is emitted are the findings
pub found_held : (limits : Limits) (xs : List Char) → scalars (text_in xs) ≡ true → IsHeld limits (text_in xs)
    → so_far limits (reading []) (inputs_of xs) ≡ map (λ f. Found f) (findings_held limits (text_in xs))
found_held limits xs u h =
    (held_again limits initial xs u h).events ∙ broken_gives limits (text_in xs) u
    ∙ ap (events_of_broken (text_in xs)) h.heads ∙ alone h.stopped h.at_end ∙ sym (ap (λ (r : Result Heads HeadFault). map (λ f. Found f) (findings_of r)) h.heads)
  where
    alone : (f : HeadFault) → f.at_end ≡ true → events_of_broken (text_in xs) (Err f) ≡ map (λ f. Found f) f.findings
    alone f e = rw e (append-nil (map (λ f. Found f) f.findings))
