-- There is room for what an event brings.
use Rattle.std.proofs.Common.{◌≡◌, ℕ, zero, suc, ◌+◌, ◌*◌, ◌≤◌, List, [], ◌∷◌, length, refl, sym, ap, subst, ◌∙◌, arith, Bool, true, false, if◌then◌else◌}
use Rattle.std.proofs.Math.Nat.{suc-mul, mul-le-mul_right}
use Rattle.std.specs.List.{All, list_any}
use Rattle.std.proofs.lemmas.List.Elements.{All-head, All-tail}
use Rattle.gabc_places.specs.StageLaw.{silence}
use Rattle.gabc_places.specs.declared.limits.Limits.{Limits}
use Rattle.gabc_headers.specs.declared.head_event.HeadEvent.{HeadEvent}
use Rattle.gabc_headers.specs.declared.head_event.HeadEvent.TheVariants as head_event
use Rattle.gabc_score.specs.NoNotes.{OnlyFirstHasNotes, has_no_notes}
use Rattle.gabc_body.specs.Syllable.{PlacedSyllable}
use Rattle.gabc_score.specs.declared.score_machine.ScorePart.{ScorePart}
use Rattle.gabc_score.specs.declared.score_machine.ScorePart.TheVariants as score_part
use Rattle.gabc_score.specs.witness.ScoreStage.{ScoreStageState, left_of}
use Rattle.gabc_body.specs.ScoreEvents.{ScoreOutput, Found, Stop, Syllable, End, is_last, syllables_in}
use Rattle.gregorio_jobs.specs.declared.job.Format.{Format}
use Rattle.gabc_score.specs.ScoreStage.{Lends, is_final, most_borrowed, part_past}
use Rattle.gregorio.specs.witness.Engine.{first_list}
use Rattle.gregorio.specs.machine.RunWriter.{RunWriterState, IsInRoom, HasRoomFor, heads_room, line_room, lines_room, texts_room, syllable_len, syllable_room, room_without_notes, last_room}
use Rattle.gregorio.specs.machine.ScoreWriter.{ScoreWriterState, FitsEvents, KeepsJobAndRooms, event_room, events_room, heads_left, needed_in}
use Rattle.gregorio.proofs.StreamsOfOutputs.{EndsAtLast}

-- ---- numbers

one_more : (n r : ℕ) → (suc n + 1) * r ≡ r + (n + 1) * r
one_more n r =
    let e : suc n + 1 ≡ suc (n + 1) = omega arith in
    ap (λ (k : ℕ). k * r) e ∙ omega (arith, suc-mul (n + 1) r)

lines_are : (name : List ℕ) (outputs : List ScoreOutput) → lines_room name outputs ≡ length outputs * line_room name
lines_are name [] = omega arith
lines_are name (o ∷ outputs) = omega (arith, lines_are name outputs, suc-mul (length outputs) (line_room name))

pub lines_within : (name : List ℕ) (outputs : List ScoreOutput) → length outputs ≤ 16 → lines_room name outputs ≤ 16 * line_room name
lines_within name outputs few = omega (arith, lines_are name outputs, mul-le-mul_right (line_room name) few)

-- at the last one
texts_at_end : (format : Format) (limit n : ℕ) (outputs : List ScoreOutput) → outputs ≡ [] → last_room + texts_room format limit outputs ≤ n + last_room
texts_at_end format limit n outputs e = grind arith

-- syllables without notes, and one end
later_texts_are : (P : Type 0) (format : Format) (limit : ℕ) (outputs : List ScoreOutput) → EndsAtLast P outputs → All (λ (s : PlacedSyllable). has_no_notes s.made ≡ true) (syllables_in outputs)
    → texts_room format limit outputs ≤ length (syllables_in outputs) * room_without_notes format limit + last_room
later_texts_are P format limit [] ends none = omega arith
later_texts_are P format limit (Found f ∷ outputs) ends none = omega (arith, later_texts_are P format limit outputs ends none)
later_texts_are P format limit (Stop fault ∷ outputs) ends none = texts_at_end format limit (length (syllables_in outputs) * room_without_notes format limit) outputs ends.0
later_texts_are P format limit (Syllable s ∷ outputs) ends none =
    let NoNotes : PlacedSyllable → Type 0 = λ t. has_no_notes t.made ≡ true in
    let here = ap (λ (b : Bool). syllable_len format b (limit + 1)) (All-head NoNotes s (syllables_in outputs) none) in
    let later = later_texts_are P format limit outputs ends (All-tail NoNotes s (syllables_in outputs) none) in
    omega (arith, here, later, suc-mul (length (syllables_in outputs)) (room_without_notes format limit))
later_texts_are P format limit (End ∷ outputs) ends none = texts_at_end format limit (length (syllables_in outputs) * room_without_notes format limit) outputs ends.0

-- without notes a syllable takes no more room
no_more : (format : Format) (no_notes : Bool) (limit : ℕ) → syllable_len format no_notes (limit + 1) ≤ syllable_room format limit
no_more format no_notes limit = grind arith

-- how much room n syllables take, of which those after the first have no notes
abbrev pub texts_of_syllables : Format → ℕ → ℕ → ℕ
texts_of_syllables format limit zero = 0
texts_of_syllables format limit (suc n) = syllable_room format limit + n * room_without_notes format limit

-- a syllable, those after it, and one end
pub texts_are : (P : Type 0) (format : Format) (limit : ℕ) (outputs : List ScoreOutput) → EndsAtLast P outputs → OnlyFirstHasNotes (syllables_in outputs)
    → texts_room format limit outputs ≤ texts_of_syllables format limit (length (syllables_in outputs)) + last_room
texts_are P format limit [] ends later = omega arith
texts_are P format limit (Found f ∷ outputs) ends later = omega (arith, texts_are P format limit outputs ends later)
texts_are P format limit (Stop fault ∷ outputs) ends later = texts_at_end format limit (texts_of_syllables format limit (length (syllables_in outputs))) outputs ends.0
texts_are P format limit (Syllable s ∷ outputs) ends later = omega (arith, later_texts_are P format limit outputs ends later, no_more format (has_no_notes s.made) limit)
texts_are P format limit (End ∷ outputs) ends later = texts_at_end format limit (texts_of_syllables format limit (length (syllables_in outputs))) outputs ends.0

fewer_texts : (format : Format) (limit n most : ℕ) → n ≤ most → texts_of_syllables format limit n ≤ texts_of_syllables format limit most
fewer_texts format limit zero most few = omega arith
fewer_texts format limit (suc n) zero few = absurd (omega arith)
fewer_texts format limit (suc n) (suc most) few = let fewer : n ≤ most = omega arith in omega (arith, mul-le-mul_right (room_without_notes format limit) fewer)

-- one at most, and an end
pub one_within : (P : Type 0) (format : Format) (limit : ℕ) (outputs : List ScoreOutput) → length (syllables_in outputs) ≤ 1 → OnlyFirstHasNotes (syllables_in outputs) → EndsAtLast P outputs
    → texts_room format limit outputs ≤ syllable_room format limit + last_room
one_within P format limit outputs few later ends = omega (arith, texts_are P format limit outputs ends later, fewer_texts format limit (length (syllables_in outputs)) 1 few)

-- those that an event brings at most
most_texts : (format : Format) (limit : ℕ) (x : HeadEvent) → texts_of_syllables format limit (most_borrowed x) + last_room ≤ event_room format limit x
most_texts format limit (head_event.Body x) = omega arith
most_texts format limit _ = omega arith

texts_within : (P : Type 0) (limits : Limits) (format : Format) (x : HeadEvent) (outputs : List ScoreOutput) → Lends limits (most_borrowed x) outputs → EndsAtLast P outputs
    → texts_room format limits.syllable outputs ≤ event_room format limits.syllable x
texts_within P limits format x outputs lends ends =
    let fewer = fewer_texts format limits.syllable (length (syllables_in outputs)) (most_borrowed x) lends.few in
    omega (arith, texts_are P format limits.syllable outputs ends lends.later, fewer, most_texts format limits.syllable x)

-- ---- the part of the score

pub needed_within : (part : ScorePart) (room : ℕ) → needed_in part room ≤ room
needed_within part room = grind arith

pub needed_more : (part : ScorePart) (a b : ℕ) → a ≤ b → needed_in part a ≤ needed_in part b
needed_more part a b h = grind arith

-- if this is needed, and after the last nothing is given, so much is needed for what was given
pub needed_for : (format : Format) (limit : ℕ) (part : ScorePart) (room : ℕ) (outputs : List ScoreOutput) → (part ≡ score_part.Over → outputs ≡ []) → texts_room format limit outputs ≤ room
    → texts_room format limit outputs ≤ needed_in part room
needed_for format limit part room outputs none within = grind arith

-- after the last a stage gives nothing
pub nothing_over : (s : ScoreStageState) (xs : List HeadEvent) (outputs : List ScoreOutput) (later : List (List ScoreOutput)) → left_of s xs ≡ outputs ∷ later → s.part ≡ score_part.Over → outputs ≡ []
nothing_over s xs outputs later law over =
    sym (ap first_list law) ∙ subst (λ (part : ScorePart). first_list (left_of (record s { part = part }) xs) ≡ []) (sym over) (silent xs)
  where
    silent : (xs : List HeadEvent) → first_list (silence {O = ScoreOutput} xs) ≡ []
    silent [] = refl
    silent (x ∷ xs) = refl

-- a stop or the end is the last
final_is_over : (part : ScorePart) (x : HeadEvent) (outputs : List ScoreOutput) → is_final x ≡ true → ((part ≡ score_part.Over → ⊥) → list_any is_last outputs ≡ true) → part_past part x outputs ≡ score_part.Over
final_is_over part x outputs final last = grind arith

-- after an event no more is needed than was left after it
needed_after : (old new : ScorePart) (x : HeadEvent) (outputs : List ScoreOutput) (one rest : ℕ) → new ≡ part_past old x outputs
    → ((old ≡ score_part.Over → ⊥) → is_final x ≡ true → list_any is_last outputs ≡ true)
    → needed_in old one + needed_in new rest ≤ needed_in old (one + (if is_final x then 0 else rest))
needed_after old new x outputs one rest is last = grind (arith, final_is_over, needed_within)

-- ---- an event

pub event_in_room : (P : Type 0) (old : ScoreWriterState) (x : HeadEvent) (outputs : List ScoreOutput)
    → Lends old.score.limits (most_borrowed x) outputs → length outputs ≤ 16 → EndsAtLast P outputs → (old.score.part ≡ score_part.Over → outputs ≡ [])
    → IsInRoom old.score.limits (length old.writer.messages.items + 16 * line_room old.writer.written.name)
    (length old.writer.out.items + needed_in old.score.part (event_room old.writer.written.format old.score.limits.syllable x)) old.writer outputs
event_in_room P old x outputs lends few ends none = record {
  lines = omega (arith, lines_within old.writer.written.name outputs few);
  texts = let limit = old.score.limits.syllable in
      let format = old.writer.written.format in
      let room = event_room format limit x in
      omega (arith, needed_for format limit old.score.part room outputs none (texts_within P old.score.limits format x outputs lends ends));
  within = lends.within;
}

-- a larger room
pub more_room : (limits : Limits) (a b c d : ℕ) (w : RunWriterState) (outputs : List ScoreOutput) → a ≤ c → b ≤ d → IsInRoom limits a b w outputs → IsInRoom limits c d w outputs
more_room limits a b c d w outputs more_lines more_texts h = grind arith

pub event_has_room : (P : Type 0) (old : ScoreWriterState) (x : HeadEvent) (outputs : List ScoreOutput) → FitsEvents old false (x ∷ [])
    → Lends old.score.limits (most_borrowed x) outputs → length outputs ≤ 16 → EndsAtLast P outputs → (old.score.part ≡ score_part.Over → outputs ≡ []) → HasRoomFor old.score.limits old.writer outputs
event_has_room P old x outputs h lends few ends none =
    let limit = old.score.limits.syllable in
    let format = old.writer.written.format in
    let one = event_room format limit x in
    let more = needed_more old.score.part one (events_room format limit false (x ∷ [])) (omega arith) in
    more_room old.score.limits _ _ _ _ old.writer outputs (omega (arith, h.lines)) (omega (arith, h.texts, more)) (event_in_room P old x outputs lends few ends none)

heads_same : (old new : ScoreWriterState) → KeepsJobAndRooms old new → new.writer.written.headed ≡ old.writer.written.headed
    → heads_left new.writer.written new.score.limits.header ≡ heads_left old.writer.written old.score.limits.header
heads_same old new steady headed = λ i. if headed i then 0 else heads_room (steady.format i) (steady.limits i).header

-- after an event there is room for those that follow
pub room_after : (old new : ScoreWriterState) (x : HeadEvent) (outputs : List ScoreOutput) (ends : Bool) (events : List HeadEvent) → KeepsJobAndRooms old new → new.writer.written.headed ≡ old.writer.written.headed
    → new.score.part ≡ part_past old.score.part x outputs → ((old.score.part ≡ score_part.Over → ⊥) → is_final x ≡ true → list_any is_last outputs ≡ true)
    → IsInRoom old.score.limits (length old.writer.messages.items + 16 * line_room old.writer.written.name)
    (length old.writer.out.items + needed_in old.score.part (event_room old.writer.written.format old.score.limits.syllable x)) new.writer []
    → FitsEvents old ends (x ∷ events) → FitsEvents new ends events
room_after old new x outputs ends events steady headed part last room h = grind (arith, needed_after, heads_same, one_more)
