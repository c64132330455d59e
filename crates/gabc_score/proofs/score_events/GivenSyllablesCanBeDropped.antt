-- What is gathered if the syllables that were given are dropped.
use Rattle.std.proofs.Common.{◌≡◌, ℕ, zero, suc, ◌+◌, ◌-◌, ◌≤◌, ◌||◌, ◌&&◌, not, nat_lt, Bool, true, false, cond, List, [], ◌∷◌, ◌++◌, length, take, drop, Some, None, refl, sym, ap, ◌∙◌, arith, length-append, length-drop}
use Rattle.std.proofs.lemmas.List.{drop-append-le, drop-drop, drop-take}
use Rattle.gabc_places.specs.declared.code.Code.TheVariants.{F5, F7}
use Rattle.gabc_places.specs.declared.limits.Limits.{Limits}
use Rattle.gabc_text.specs.declared.text_event.TextEnd.TheVariants as text_end
use Rattle.gabc_text.specs.declared.text_event.TextEvent.TheVariants as text
use Rattle.gabc_text.specs.declared.text_event.TextPart.TheVariants as part
use Rattle.gabc_notes.specs.declared.stage.NoteEnd.TheVariants as note_end
use Rattle.gabc_notes.specs.declared.stage.NoteEvent.TheVariants as note
use Rattle.gabc_body.specs.declared.events.BodyEvent.{BodyEvent}
use Rattle.gabc_body.specs.declared.events.BodyEvent.TheVariants as event
use Rattle.gabc_body.specs.Body.{is_longer, is_none, has_text}
use Rattle.gabc_body.specs.Canonical.{placed_syllables_by, with_positions}
use Rattle.gabc_body.specs.ScoreEvents.{not_given, given_now}
use Rattle.gabc_score.specs.machine.ScoreStage.{placed_after}
use Rattle.gabc_body.specs.Syllable.{UnplacedSyllable}
use Rattle.gabc_body.specs.witness.Gatherer.{Gathered, with_made, with_syllable, with_snippet, with_no_notes, with_event, with_last}
use Rattle.gabc_body.specs.witness.BodyBuilder.{with_all, code_in}
use Rattle.std.proofs.lemmas.Bool.{cond_both}
use Rattle.gabc_score.proofs.score_events.EventsStayWithinBounds.{last_stays}
use Rattle.std.proofs.lemmas.Bool.Decides.{nat_tests}
use Rattle.gabc_body.proofs.syllables_of_units.SyllablesAreThoseOfUnits.{none_of}

-- without the first syllables
abbrev pub without : ℕ → Gathered → Gathered
without k g = record g { made = drop k g.made }

-- what is left says whether any was made
pub record MayGo (k : ℕ) (g : Gathered) : Type 0 where
  pub few : k ≤ length g.made
  pub some : is_none (drop k g.made) ≡ is_none g.made

more_goes : (k : ℕ) (ms : List UnplacedSyllable) (m : UnplacedSyllable) → k ≤ length ms → is_none (drop k (ms ++ m ∷ [])) ≡ is_none (ms ++ m ∷ [])
more_goes k ms m h = ap is_none (drop-append-le k ms (m ∷ []) h) ∙ none_of (drop k ms) m ∙ sym (none_of ms m)

made_goes : (k : ℕ) (g : Gathered) (m : UnplacedSyllable) → MayGo k g → MayGo k (with_made g m)
made_goes k g m h = record { few = omega (arith, h.few, length-append g.made (m ∷ [])); some = more_goes k g.made m h.few }

made_without : (k : ℕ) (g : Gathered) (m : UnplacedSyllable) → MayGo k g → with_made (without k g) m ≡ without k (with_made g m)
made_without k g m h = rw (drop-append-le k g.made (m ∷ []) h.few) refl

goes_on : (k : ℕ) (g : Gathered) (t : BodyEvent) → MayGo k g → MayGo k (with_event g t)
goes_on k g (event.Text (text.Part part.WordStart)) h = record { few = h.few; some = h.some }
goes_on k g (event.Text (text.Ended text_end.Notes)) h = record { few = h.few; some = h.some }
goes_on k g (event.Notes line (note.Ended note_end.Close n)) h = made_goes k (with_snippet g line n 41) _ (record { few = h.few; some = h.some })
goes_on k g _ h = record { few = h.few; some = h.some }

event_without : (k : ℕ) (g : Gathered) (t : BodyEvent) → MayGo k g → with_event (without k g) t ≡ without k (with_event g t)
event_without k g t h = grind (arith, made_without)

-- which limit is passed is the same
pub code_without : (limits : Limits) (k : ℕ) (g : Gathered) → MayGo k g → code_in limits (without k g) ≡ code_in limits g
code_without limits k g h = ap (λ b. cond (is_longer g.limit g.builder.kept || g.over) (Some F5) (cond (not b && nat_lt limits.input (g.total + 1)) (Some F7) None)) h.some

pub all_without : (k : ℕ) (g : Gathered) (now : List BodyEvent) → MayGo k g → with_all (without k g) now ≡ without k (with_all g now)
all_without k g [] h = refl
all_without k g (t ∷ now) h = ap (λ s. with_all s now) (event_without k g t h) ∙ all_without k (with_event g t) now (goes_on k g t h)

pub all_go : (k : ℕ) (g : Gathered) (now : List BodyEvent) → MayGo k g → MayGo k (with_all g now)
all_go k g [] h = h
all_go k g (t ∷ now) h = all_go k (with_event g t) now (goes_on k g t h)

pub last_without : (k : ℕ) (g : Gathered) → MayGo k g → with_last (without k g) ≡ without k (with_last g)
last_without k g h = grind (arith, made_without)

pub last_goes : (k : ℕ) (g : Gathered) → MayGo k g → MayGo k (with_last g)
last_goes k g h =
    cond_both (has_text g.builder.view) (with_syllable (with_no_notes g)) g (MayGo k) (λ e. made_goes k (with_no_notes g) _ (record { few = h.few; some = h.some })) (λ e. h)

-- all but the last may go
pub but_last_goes : (g : Gathered) → MayGo (length g.made - 1) g
but_last_goes g = record { few = omega arith; some = last_stays g.made }

-- ---- positions

-- after the first ones none is the first of all
placed_drop : (k : ℕ) (first : Bool) (ms : List UnplacedSyllable) → drop (suc k) (placed_syllables_by first ms) ≡ placed_syllables_by false (drop (suc k) ms)
placed_drop k first [] = refl
placed_drop zero first (m ∷ ms) = refl
placed_drop (suc k) first (m ∷ ms) = placed_drop k false ms

-- the syllables not given yet have the positions that they have among all
pub placed_rest : (n : ℕ) (ms : List UnplacedSyllable) → placed_after (nat_lt 1 n) (drop (n - 1) ms) ≡ not_given n ms
placed_rest (suc (suc n)) ms =
    let less : suc (suc n) - 1 ≡ suc n = omega arith in
    let two : nat_lt 1 (suc (suc n)) ≡ true = grind arith in
    rw (less, two) (sym (placed_drop n true ms))
placed_rest _ ms = refl

-- all of them but the last are given
pub placed_now : (n m : ℕ) (ms : List UnplacedSyllable) → length ms ≡ m → n ≤ m
    → take (length (drop (n - 1) ms) - 1) (placed_after (nat_lt 1 n) (drop (n - 1) ms)) ≡ given_now n ms
placed_now n m ms l h =
    let count : (n - 1) + (length (drop (n - 1) ms) - 1) ≡ length ms - 1 = rw (length-drop (n - 1) ms) (omega (arith, l, h)) in
    rw (placed_rest n ms, ← drop-take (n - 1) (length (drop (n - 1) ms) - 1) (with_positions ms), count) refl

-- and the last is held
pub held_then : (n m : ℕ) (ms : List UnplacedSyllable) → length ms ≡ m → n ≤ m → drop (length (drop (n - 1) ms) - 1) (drop (n - 1) ms) ≡ drop (m - 1) ms
held_then n m ms l h = grind (arith, length-drop, drop-drop)

pub given_then_is : (n m k : ℕ) → k ≡ m - (n - 1) → n ≤ m → (nat_lt 1 n || nat_lt 1 k) ≡ nat_lt 1 m
given_then_is n m k e h = grind (arith, nat_tests, h, e)
