-- The machine that reads parts a character at a time. It is no promise: that it reads the table is
-- proved.
use Rattle.std.specs.Prelude.{ℕ, List, [], ◌∷◌, ◌++◌, Bool, true, false, not, ◌&&◌, ◌||◌, ◌==◌, Option, Some, None, is_some, option_to_list, if◌then◌else◌}
use Rattle.std.specs.Option.{option_or}
use Rattle.gabc_notes.specs.witness.StageEvents.{count_plus}
use Rattle.gabc_places.specs.declared.code.Code.TheVariants.{E3, E6, W7}
use Rattle.gabc_places.specs.declared.place.Char.{Char}
use Rattle.gabc_patterns.specs.Pattern.{is_in}
use Rattle.gabc_notes.specs.declared.stage.NoteEnd.TheVariants.{Cut}
use Rattle.gabc_notes.specs.declared.stage.NoteEvent.{NoteEvent}
use Rattle.gabc_notes.specs.declared.stage.NoteEvent.TheVariants.{Kept, Ended}
use Rattle.gabc_nabc.specs.CharClass.{class_of_character}
use Rattle.gabc_nabc.specs.Events.{is_missing}
use Rattle.gabc_notes.specs.Events.{finding_event, end_by_mark}
use Rattle.gabc_nabc.specs.declared.stage.NabcEvents.{NabcEvents}
use Rattle.gabc_nabc.specs.declared.stage.NabcStage.{NabcStage}
use Rattle.gabc_nabc.specs.declared.stage.NabcRole.{NabcRole}
use Rattle.gabc_nabc.specs.declared.stage.NabcRole.TheVariants.{Silent, Ends, Keep, LeaveOut}
use Rattle.gabc_nabc.specs.declared.stage.NabcFacts.{NabcFacts}
use Rattle.gabc_nabc.specs.declared.class.NabcClass.{NabcClass}
use Rattle.gabc_nabc.specs.declared.class.NabcClass.TheVariants.{LetterH, LetterL, LetterP, LetterS, LetterT, LetterU, Pitch, Letter, Digit, Modifier, Hyphen, Bang, Slash as SlashC, Tick as TickC}
use Rattle.gabc_nabc.specs.declared.state.DescriptorState.{DescriptorState}
use Rattle.gabc_nabc.specs.declared.state.DescriptorState.TheVariants.{Start, CodeL, CodeP, CodeS, Code, Glyph, Modified, GlyphH, Pitched, Joined, TailL, TailP, TailS, Points, PointsLetter, Letters, LettersMore, Counted, CountedH, Tail, Slash, Tick, Space}

abbrev pub is_a_letter : NabcClass → Bool
is_a_letter LetterH = true
is_a_letter LetterL = true
is_a_letter LetterP = true
is_a_letter LetterS = true
is_a_letter LetterT = true
is_a_letter LetterU = true
is_a_letter Pitch = true
is_a_letter Letter = true
is_a_letter _ = false

abbrev pub is_a_pitch : NabcClass → Bool
is_a_pitch LetterH = true
is_a_pitch LetterL = true
is_a_pitch LetterP = true
is_a_pitch Pitch = true
is_a_pitch _ = false

-- the state in which a code begins
abbrev pub code_begun : NabcClass → Option DescriptorState
code_begun LetterL = Some CodeL
code_begun LetterP = Some CodeP
code_begun LetterS = Some CodeS
code_begun LetterT = Some Code
code_begun LetterU = Some Code
code_begun Pitch = Some Code
code_begun Letter = Some Code
code_begun _ = None

-- the state in which a part begins
abbrev pub part_begun : NabcClass → Option DescriptorState
part_begun SlashC = Some Slash
part_begun TickC = Some Tick
part_begun k = code_begun k

-- the state in which points or letters begin
abbrev pub in_tail : NabcClass → Option DescriptorState
in_tail LetterL = Some TailL
in_tail LetterP = Some TailP
in_tail LetterS = Some TailS
in_tail _ = None

abbrev pub some_if : Bool → DescriptorState → Option DescriptorState
some_if b s = if b then Some s else None

-- the state in which the part continues
abbrev pub going_on : DescriptorState → NabcClass → Option DescriptorState
going_on Start k = part_begun k
going_on CodeL LetterS = None
going_on CodeL LetterT = None
going_on CodeL k = some_if (is_a_letter k) Glyph
going_on CodeP LetterP = None
going_on CodeP k = some_if (is_a_letter k) Glyph
going_on CodeS LetterU = None
going_on CodeS k = some_if (is_a_letter k) Glyph
going_on Code k = some_if (is_a_letter k) Glyph
going_on Glyph Modifier = Some Modified
going_on Glyph Hyphen = Some Modified
going_on Glyph LetterH = Some GlyphH
going_on Glyph Bang = Some Joined
going_on Glyph k = in_tail k
going_on Modified Digit = Some Glyph
going_on Modified Modifier = Some Modified
going_on Modified Hyphen = Some Modified
going_on Modified LetterH = Some GlyphH
going_on Modified Bang = Some Joined
going_on Modified k = in_tail k
going_on GlyphH k = some_if (is_a_pitch k) Pitched
going_on Pitched Bang = Some Joined
going_on Pitched k = in_tail k
going_on Joined k = code_begun k
going_on TailL LetterS = Some Letters
going_on TailL LetterT = Some Letters
going_on TailP LetterP = Some Points
going_on TailS LetterU = Some Points
going_on Points Digit = Some Counted
going_on Points k = some_if (is_a_letter k) PointsLetter
going_on PointsLetter Digit = Some Counted
going_on Letters k = some_if (is_a_letter k) LettersMore
going_on LettersMore Hyphen = Some LettersMore
going_on LettersMore Digit = Some Counted
going_on LettersMore k = some_if (is_a_letter k) LettersMore
going_on Counted LetterH = Some CountedH
going_on Counted k = in_tail k
going_on CountedH k = some_if (is_a_pitch k) Tail
going_on Tail k = in_tail k
going_on Slash SlashC = Some Space
going_on Tick TickC = Some Space
going_on _ _ = None

-- the state to fall back to, if the part ended at its longest so far
abbrev pub falling_back : DescriptorState → Option DescriptorState
falling_back Glyph = Some Start
falling_back Modified = Some Start
falling_back Pitched = Some Start
falling_back Counted = Some Start
falling_back Tail = Some Start
falling_back Slash = Some Start
falling_back Tick = Some Start
falling_back Space = Some Start
falling_back TailL = Some CodeL
falling_back TailP = Some CodeP
falling_back TailS = Some CodeS
falling_back _ = None

abbrev pub on_at : Option DescriptorState → NabcClass → Option DescriptorState
on_at (Some s) k = going_on s k
on_at None k = None

-- the part continues, or it ended at its longest and the reading continues from there
abbrev pub next_state : DescriptorState → NabcClass → Option DescriptorState
next_state s k = option_or (going_on s k) (on_at (falling_back s) k)

-- the text read so far is an NABC snippet
abbrev pub whole_at : DescriptorState → Bool
whole_at Start = true
whole_at Glyph = true
whole_at Modified = true
whole_at Pitched = true
whole_at Counted = true
whole_at Tail = true
whole_at Slash = true
whole_at Tick = true
whole_at Space = true
whole_at _ = false

-- the last character kept may be the first letter of a code
abbrev pub awaits : DescriptorState → Bool
awaits Code = true
awaits CodeL = true
awaits CodeP = true
awaits CodeS = true
awaits TailL = true
awaits TailP = true
awaits TailS = true
awaits _ = false

abbrev pub first_at : DescriptorState → ℕ → Option ℕ
first_at s a = if awaits s then Some a else None

abbrev pub whole_if : Option DescriptorState → Bool
whole_if None = false
whole_if (Some z) = whole_at z

-- the facts about a character, by the state before it and the next one
abbrev pub facts_by_states : DescriptorState → Option DescriptorState → ℕ → ℕ → NabcFacts
facts_by_states s o a c = record { whole = whole_at s; viable = is_some o; whole_after = whole_if o; unknown = is_missing (first_at s a) c }

abbrev pub role_in : Bool → Bool → ℕ → NabcRole
role_in comment viable c =
    if comment then Silent else
    if (c == 41) || (c == 124) then Ends else
    if is_in c (37 ∷ 32 ∷ 9 ∷ 10 ∷ []) then Silent else
    if viable then Keep else LeaveOut

abbrev pub events_in : NabcRole → NabcFacts → ℕ → Char → NabcEvents
events_in Silent e w x = record { first = None; second = None }
events_in Ends e w x = record { first = if e.whole then None else Some (finding_event x.place E6); second = Some (Ended (end_by_mark x.c) w) }
events_in Keep e w x = record { first = Some (Kept x); second = if e.unknown then Some (finding_event x.place W7) else None }
events_in LeaveOut e w x = record { first = Some (finding_event x.place E3); second = None }

abbrev pub event_list : NabcEvents → List NoteEvent
event_list g = option_to_list g.first ++ option_to_list g.second

abbrev pub comment_in : Bool → ℕ → Bool
comment_in b c = (c == 37) || (b && not (c == 10))

-- the stage after a character that is kept outside a comment; `whole` says whether the kept text
-- with it is a snippet
abbrev pub stage_kept : NabcStage → DescriptorState → Bool → ℕ → NabcStage
stage_kept st z whole c = record st {
  state = z;
  letter = c;
  kept = count_plus st.kept c;
  whole = if whole then count_plus st.kept c else st.whole;
}

-- the stage after a character
abbrev pub stage_moved_on : NabcStage → NabcRole → NabcFacts → Option DescriptorState → ℕ → NabcStage
stage_moved_on st Ends e o c = record st { ended = true }
stage_moved_on st Keep e (Some z) c = record st {
  state = z;
  letter = c;
  comment = comment_in st.comment c;
  kept = count_plus st.kept c;
  whole = if e.whole_after then count_plus st.kept c else st.whole;
}
stage_moved_on st r e o c = record st { comment = comment_in st.comment c }

abbrev pub next_at : NabcStage → ℕ → Option DescriptorState
next_at st c = next_state st.state (class_of_character c)

abbrev pub facts_at : NabcStage → ℕ → NabcFacts
facts_at st c = facts_by_states st.state (next_at st c) st.letter c

abbrev pub role_at : NabcStage → ℕ → NabcRole
role_at st c = role_in st.comment (is_some (next_at st c)) c

-- the events of a character, and the stage after it
abbrev pub stage_events_at : NabcStage → Char → List NoteEvent
stage_events_at st x = if st.ended then [] else event_list (events_in (role_at st x.c) (facts_at st x.c) st.whole x)

abbrev pub stage_after : NabcStage → ℕ → NabcStage
stage_after st c = if st.ended then st else stage_moved_on st (role_at st c) (facts_at st c) (next_at st c) c

-- the events of the end
abbrev pub events_of_cut : NabcStage → List NoteEvent
events_of_cut st = if st.ended then [] else Ended (Cut (record { line = 0; column = 0 })) st.kept ∷ []

-- The events that a stage has left for these characters and then the end.
abbrev pub events_left : NabcStage → List Char → List (List NoteEvent)
events_left st [] = events_of_cut st ∷ []
events_left st (x ∷ xs) = stage_events_at st x ∷ events_left (stage_after st x.c) xs
