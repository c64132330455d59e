-- A machine in the body that reads a text and emits nothing.
use Rattle.std.specs.Prelude.{◌≡◌, ◌&&◌, ◌||◌, ℕ, nat_lt, List, [], ◌∷◌, ◌++◌, length, Bool, true, false, cond, if◌then◌else◌, is_some, None}
use Rattle.std.specs.List.{All, list_any}
use Rattle.std.specs.Str.{chars}
use Rattle.gabc_places.specs.Place.{saturating_next_place}
use Rattle.gabc_places.specs.declared.limits.Limits.{Limits}
use Rattle.gabc_places.specs.declared.place.Char.{Char}
use Rattle.gabc_places.specs.declared.place.Place.{Place}
use Rattle.gabc_score.specs.declared.body_tells.Openers.{Openers}
use Rattle.gabc_score.specs.declared.reading_again.SyllableRead.{SyllableRead}
use Rattle.gabc_score.specs.declared.reading_again.SyllableRead.TheVariants.{Open, Whole, GivenUp}
use Rattle.gabc_body.specs.declared.events.BodyEvent.{BodyEvent}
use Rattle.gabc_score.specs.declared.score_machine.ScoreMachine.{ScoreMachine}
use Rattle.gabc_score.specs.declared.score_machine.ScorePart.TheVariants as score_part
use Rattle.gabc_body.specs.ScoreEvents.{findings_now}
use Rattle.gabc_score.specs.ScoreReports.{before_of, is_in_comment, is_in_front, moved_part}
use Rattle.gabc_body.specs.witness.BodyBuilder.{with_all, code_in}
use Rattle.gabc_body.specs.witness.Gatherer.{Gathered}
use Rattle.gabc_score.specs.witness.BodyStage.{BodyStageState, running_events_left}
use Rattle.gabc_score.specs.machine.PartOnly.{IsKeptOf, kept_codes}
use Rattle.gabc_score.specs.machine.PartPushes.{ClosesLast}
use Rattle.gabc_score.specs.machine.ReadAlone.{is_error}
use Rattle.gabc_score.specs.machine.ReadsChar.{StandsInBody}
use Rattle.gabc_score.specs.machine.ScoreMachine.{IsInBody, IsScore, KeepsMemory, shown}
use Rattle.gabc_score.specs.machine.ReadAgain.{ReadsAgain, opened_part}

-- ---- the machine

-- The machine is in the body: `kept` is the kept text of the current syllable, and `comment` says
-- whether a comment is open.
pub record StandsSo (m : ScoreMachine) (kept : List ℕ) (comment : Bool) : Type 0 where
  pub part : m.part ≡ score_part.Body
  pub rests : IsInBody m
  pub kept_is : m.pair.gathered.builder.kept ≡ kept
  pub comment_is : is_in_comment m.body.part ≡ comment
  pub front : is_in_front m.body.part ≡ false

-- In the body nothing has changed but the current syllable.
pub record IsSameBut (before after : ScoreMachine) : Type 0 where
  pub body : before.part ≡ score_part.Body
  pub contexts : after.pair.contexts ≡ before.pair.contexts
  pub made : after.pair.gathered.made ≡ before.pair.gathered.made

-- The machine runs under the same limits, with the same lines and macros.
pub record IsRunAlike (before after : ScoreMachine) : Type 0 where
  pub limits : after.limits ≡ before.limits
  pub lines : after.body.nabc_lines ≡ before.body.nabc_lines
  pub macros : after.body.macros ≡ before.body.macros

-- what becomes of the current syllable, by whether an error counts, a limit is passed, and one
-- syllable more is whole
abbrev pub left_by : Bool → Bool → Bool → SyllableRead
left_by error passed more = if error || passed then GivenUp else if more then Whole else Open

-- by these events, if errors count exactly if `strict` says so
abbrev pub left_with : Bool → Limits → Gathered → List BodyEvent → SyllableRead
left_with strict limits g now =
    left_by (strict && list_any is_error (findings_now now)) (is_some (code_in limits (with_all g now))) (nat_lt (length g.made) (length (with_all g now).made))

-- The machine continues in the body after these events, with which its body has reached this state.
-- A syllable that is whole is pending, in the context of the one before, if none was pending.
pub record GoesOn (before : ScoreMachine) (next : Place) (now : List BodyEvent) (body : BodyStageState) (left : SyllableRead) (after : ScoreMachine) : Type 0 where
  pub stands : StandsInBody after
  pub body_is : after.body ≡ body
  pub next_is : after.next ≡ next
  pub gathered : (left ≡ Whole → before.pair.gathered.made ≡ []) → after.pair.gathered ≡ with_all before.pair.gathered now
  pub made : left ≡ Open → after.pair.gathered.made ≡ before.pair.gathered.made
  pub contexts : left ≡ Open → after.pair.contexts ≡ before.pair.contexts
  pub alone : before.pair.gathered.made ≡ [] → after.pair.contexts.before ≡ before.pair.contexts.before

-- The character c was read at the next place, and nothing was emitted; the events of the body are
-- `now`.
pub record ReadsSilently (strict : Bool) (before : ScoreMachine) (c : ℕ) (left : SyllableRead) (after : ScoreMachine) : Type 0 where
  pub rests : IsInBody before
  pub now : List BodyEvent
  pub body : BodyStageState
  pub again : ReadsAgain before.body.nabc_lines before.body.macros (record { c = c; place = before.next }) before.body.part body.part now
  pub law : (xs : List Char) → running_events_left before.body (record { c = c; place = before.next } ∷ xs) ≡ now ∷ running_events_left body xs
  pub only : All (IsKeptOf c) (kept_codes now)
  pub last : ClosesLast now
  pub lines : body.nabc_lines ≡ before.body.nabc_lines
  pub macros : body.macros ≡ before.body.macros
  pub left_is : left ≡ left_with strict before.limits before.pair.gathered now
  pub limits : after.limits ≡ before.limits
  pub keeps : KeepsMemory after
  pub goes : (left ≡ GivenUp → ⊥) → GoesOn before (saturating_next_place before.next c) now body left after

-- These characters are read so, one after the other, and the last of them may make the syllable
-- whole; `so_far` says what became of it before.
abbrev pub ReadsTextSilently : Bool → SyllableRead → ScoreMachine → List ℕ → SyllableRead → ScoreMachine → Type 0
ReadsTextSilently strict Open before [] left after = (left ≡ Open) × (before ≡ after)
ReadsTextSilently strict Open before (c ∷ cs) left after = (so_far : SyllableRead) × (m : ScoreMachine) × (ReadsSilently strict before c so_far m × ReadsTextSilently strict so_far m cs left after)
ReadsTextSilently strict Whole before [] left after = (left ≡ Whole) × (before ≡ after)
ReadsTextSilently strict Whole before (c ∷ cs) left after = (left ≡ GivenUp) × (before ≡ after)
ReadsTextSilently strict GivenUp before cs left after = (left ≡ GivenUp) × (before ≡ after)

-- the machine, with its open brackets at these places, and the next character at this one
abbrev pub placed_so : Openers → Place → ScoreMachine → ScoreMachine
placed_so o next m = record m { next = next; body = record m.body { part = moved_part next (opened_part o m.body.part) } }

-- In the body a kept text is read, and the `%` of a comment after it if one is open. If the
-- syllable is not whole then, what is open and the next character are placed.
pub record HasReadKept (before : ScoreMachine) (kept : List ℕ) (openers : Openers) (comment : Bool) (next : Place) (result : Bool) (after : ScoreMachine) : Type 0 where
  pub m : ScoreMachine
  pub left : SyllableRead
  pub steps : ReadsTextSilently false Open before (chars kept ++ cond comment (37 ∷ []) []) left m
  pub good : left ≡ Open → result ≡ true
  pub still : result ≡ true → left ≡ Open
  pub there : result ≡ true → shown after ≡ shown (placed_so openers next m)

pub record ReadsKept (before : ScoreMachine) (kept : List ℕ) (openers : Openers) (comment : Bool) (next : Place) (result : Bool) (after : ScoreMachine) : Type 0 where
  pub rests : IsScore before
  pub limits : after.limits ≡ before.limits
  pub was : result ≡ true → before.part ≡ score_part.Body
  pub none : result ≡ false → before_of (shown after) ≡ None
  pub over : result ≡ false → before.part ≡ score_part.Body → after.part ≡ score_part.Over
  pub outside : (before.part ≡ score_part.Body → ⊥) → (result ≡ false) × (after ≡ before)
  pub read : before.part ≡ score_part.Body → HasReadKept before kept openers comment next result after
