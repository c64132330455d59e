-- The machine that reads items a character at a time. It is no promise: that it reads the table is
-- proved.
use Rattle.std.specs.Prelude.{◌≡◌, ℕ, Bool, true, false, codes, Option, Some, None, ◌==◌, if◌then◌else◌}
use Rattle.std.specs.Char.{len_utf8}
use Rattle.std.specs.Option.{option_or}
use Rattle.gabc_patterns.specs.Pattern.{is_in}
use Rattle.gabc_notes.specs.machine.CharClass.{class_of_character}
use Rattle.gabc_notes.specs.Notes.{is_digit}
use Rattle.gabc_places.specs.declared.place.Char.{Char}
use Rattle.gabc_notes.specs.witness.StageEvents.{before_in}
use Rattle.gabc_notes.specs.Events.{digit_if}
use Rattle.gabc_notes.specs.declared.stage.NoteStage.{NoteStage}
use Rattle.gabc_notes.specs.declared.stage.CharRole.{CharRole}
use Rattle.gabc_notes.specs.declared.stage.CharRole.TheVariants.{Ends, Keep}
use Rattle.gabc_notes.specs.declared.macro_prefix.MacroPrefix.{MacroPrefix}
use Rattle.gabc_notes.specs.declared.macro_prefix.MacroPrefix.TheVariants.{Closed, Opened, Letter, Named, Last, Other}
use Rattle.gabc_notes.specs.declared.stage.CharFacts.{CharFacts}
use Rattle.gabc_notes.specs.declared.class.CharClass.{CharClass}
use Rattle.gabc_notes.specs.declared.class.CharClass.TheVariants.{Hyphen, FlatB, ClefLetter, Pitch as PitchC, Capital, ClefDigit, Zero, Digit, Sign, Suffix, Alter, Hash, Plus, Question, BarMark, Colon as ColonC, Slash as SlashC, Bang, Blank, SmallZ as SmallZC, CapitalZ as CapitalZC, Open, Close, At as AtC}
use Rattle.gabc_notes.specs.declared.item.ItemKind.{ItemKind}
use Rattle.gabc_notes.specs.declared.item.ItemKind.TheVariants.{Note as NoteK, Bar as BarK, Spacing as SpacingK, Fusion as FusionK, Custos as CustosK, Clef as ClefK, Alteration as AlterationK, Break as BreakK, Attribute as AttributeK}
use Rattle.gabc_notes.specs.declared.state.FullItem.{FullItem}
use Rattle.gabc_notes.specs.declared.state.FullItem.TheVariants.{Alteration, Clef as FullClef, Spacing, Custos, Break, Attribute, Fusion}
use Rattle.gabc_notes.specs.declared.state.ItemState.{ItemState}
use Rattle.gabc_notes.specs.declared.state.ItemState.TheVariants.{Start, Dash, DashPitch, Body, Pitch, ClefPitch, ClefFlat, Clef, Join, JoinPitch, JoinFlat, Altered, Sharp, Bar, Colon, BarAsked, BarSigned, Slash, Blanks, SmallZ, CapitalZ, Raw, SlashRaw, At, Done}

-- the state in which an item begins
abbrev pub begun_item : CharClass → Option ItemState
begun_item Hyphen = Some Dash
begun_item ClefLetter = Some ClefPitch
begun_item FlatB = Some Pitch
begun_item PitchC = Some Pitch
begun_item Capital = Some Body
begun_item BarMark = Some Bar
begun_item ColonC = Some Colon
begun_item SlashC = Some Slash
begun_item Bang = Some (Done Spacing)
begun_item Blank = Some Blanks
begun_item SmallZC = Some SmallZ
begun_item CapitalZC = Some CapitalZ
begun_item Open = Some Raw
begun_item AtC = Some At
begun_item Close = Some (Done Fusion)
begun_item _ = None

-- after a small pitch
abbrev pub in_pitch : CharClass → Option ItemState
in_pitch Sign = Some Body
in_pitch Suffix = Some Body
in_pitch Alter = Some Altered
in_pitch Hash = Some Sharp
in_pitch Plus = Some (Done Custos)
in_pitch _ = None

-- in a bar
abbrev pub in_bar : CharClass → Option ItemState
in_bar Zero = Some Bar
in_bar ClefDigit = Some Bar
in_bar Digit = Some Bar
in_bar Question = Some BarAsked
in_bar Sign = Some BarSigned
in_bar _ = None

-- in a break
abbrev pub in_break : CharClass → Option ItemState
in_break Plus = Some (Done Break)
in_break Hyphen = Some (Done Break)
in_break _ = None

-- the state in which the item continues
abbrev pub going_on : ItemState → CharClass → Option ItemState
going_on Start k = begun_item k
going_on (Done f) k = None
going_on Dash FlatB = Some DashPitch
going_on Dash ClefLetter = Some DashPitch
going_on Dash PitchC = Some DashPitch
going_on Dash Capital = Some Body
going_on DashPitch Sign = Some Body
going_on DashPitch Suffix = Some Body
going_on Body Sign = Some Body
going_on Body Suffix = Some Body
going_on Body Zero = Some Body
going_on Body ClefDigit = Some Body
going_on Body Digit = Some Body
going_on Pitch k = in_pitch k
going_on ClefPitch FlatB = Some ClefFlat
going_on ClefPitch ClefDigit = Some Clef
going_on ClefPitch k = in_pitch k
going_on ClefFlat ClefDigit = Some Clef
going_on Clef AtC = Some Join
going_on Join ClefLetter = Some JoinPitch
going_on JoinPitch FlatB = Some JoinFlat
going_on JoinPitch ClefDigit = Some (Done FullClef)
going_on JoinFlat ClefDigit = Some (Done FullClef)
going_on Altered Question = Some (Done Alteration)
going_on Sharp Hash = Some Altered
going_on Sharp Question = Some (Done Alteration)
going_on Bar k = in_bar k
going_on Colon ColonC = Some Bar
going_on Colon k = in_bar k
going_on BarAsked Sign = Some BarSigned
going_on BarSigned Sign = Some BarSigned
going_on BarSigned Zero = Some BarSigned
going_on BarSigned ClefDigit = Some BarSigned
going_on BarSigned Digit = Some BarSigned
going_on Slash SlashC = Some (Done Spacing)
going_on Slash Zero = Some (Done Spacing)
going_on Slash Bang = Some (Done Spacing)
going_on Slash Open = Some SlashRaw
going_on Blanks Blank = Some Blanks
going_on SmallZ Zero = Some (Done Custos)
going_on SmallZ k = in_break k
going_on CapitalZ k = in_break k
going_on Raw Close = Some (Done Attribute)
going_on Raw k = Some Raw
going_on SlashRaw Close = Some (Done Spacing)
going_on SlashRaw k = Some SlashRaw
going_on At Open = Some (Done Fusion)
going_on _ _ = None

-- the state to fall back to, if the item ended at its longest so far
abbrev pub falling_back : ItemState → Option ItemState
falling_back Start = None
falling_back Dash = None
falling_back Raw = None
falling_back SlashRaw = None
falling_back ClefFlat = Some Pitch
falling_back JoinPitch = Some Pitch
falling_back JoinFlat = Some Pitch
falling_back Join = Some At
falling_back _ = Some Start

-- the item continues, or a new one begins
abbrev pub next_or_begun : ItemState → CharClass → Option ItemState
next_or_begun s k = option_or (going_on s k) (begun_item k)

abbrev pub next_or_begun_at : Option ItemState → CharClass → Option ItemState
next_or_begun_at (Some s) k = next_or_begun s k
next_or_begun_at None k = None

-- the item continues, or it ended at its longest and the reading continues from there
abbrev pub next_state : ItemState → CharClass → Option ItemState
next_state s k = option_or (going_on s k) (next_or_begun_at (falling_back s) k)

-- in this state a pitch but `b` begins an item
abbrev pub begins_item : ItemState → Bool
begins_item Dash = false
begins_item Join = false
begins_item Raw = false
begins_item SlashRaw = false
begins_item _ = true

-- in this state a suffix or sign continues a note
abbrev pub goes_on_note : ItemState → Bool
goes_on_note DashPitch = true
goes_on_note Body = true
goes_on_note Pitch = true
goes_on_note ClefPitch = true
goes_on_note _ = false

abbrev pub kind_of_full : FullItem → ItemKind
kind_of_full Alteration = AlterationK
kind_of_full FullClef = ClefK
kind_of_full Spacing = SpacingK
kind_of_full Custos = CustosK
kind_of_full Break = BreakK
kind_of_full Attribute = AttributeK
kind_of_full Fusion = FusionK

-- the kind of the item, if it may end here
abbrev pub kind_at_end : ItemState → Option ItemKind
kind_at_end (Done f) = Some (kind_of_full f)
kind_at_end DashPitch = Some NoteK
kind_at_end Body = Some NoteK
kind_at_end Pitch = Some NoteK
kind_at_end ClefPitch = Some NoteK
kind_at_end Clef = Some ClefK
kind_at_end Altered = Some AlterationK
kind_at_end Sharp = Some AlterationK
kind_at_end Bar = Some BarK
kind_at_end Colon = Some BarK
kind_at_end BarAsked = Some BarK
kind_at_end BarSigned = Some BarK
kind_at_end Slash = Some SpacingK
kind_at_end Blanks = Some SpacingK
kind_at_end SmallZ = Some BreakK
kind_at_end CapitalZ = Some BreakK
kind_at_end At = Some FusionK
kind_at_end _ = None

-- the text read so far is a snippet
abbrev pub whole_at : ItemState → Bool
whole_at Dash = false
whole_at Raw = false
whole_at SlashRaw = false
whole_at _ = true

abbrev pub raw_state : ItemState → Bool
raw_state Raw = true
raw_state SlashRaw = true
raw_state _ = false

abbrev pub attribute_state : ItemState → Bool
attribute_state (Done Attribute) = true
attribute_state _ = false

-- The character, of one byte and no mark, brings the reading from a state outside raw to another,
-- at which the text read so far is a snippet.
pub record IsShortStep (s : ItemState) (c : ℕ) (next : ItemState) : Type 0 where
  pub step : next_state s (class_of_character c) ≡ Some next
  pub outside : raw_state s ≡ false
  pub outside_after : raw_state next ≡ false
  pub whole_after : whole_at next ≡ true
  pub is_byte : len_utf8 c ≡ 1
  pub closes_no_notes : (c == 41) ≡ false
  pub ends_no_snippet : (c == 124) ≡ false
  pub begins_no_comment : (c == 37) ≡ false
  pub opens_nothing : (c == 91) ≡ false
  pub closes_nothing : (c == 93) ≡ false

abbrev pub digit_of_prefix : MacroPrefix → Option ℕ
digit_of_prefix (Last c) = digit_if (is_digit c) c
digit_of_prefix _ = None

-- the facts about a character, by the state before it and the next one
abbrev pub facts_by_states : ItemState → Option ItemState → MacroPrefix → CharFacts
facts_by_states s None n = record { raw = raw_state s; whole = whole_at s; viable = false; raw_after = false; whole_after = false; attribute = false; digit = digit_of_prefix n }
facts_by_states s (Some z) n = record { raw = raw_state s; whole = whole_at s; viable = true; raw_after = raw_state z; whole_after = whole_at z; attribute = attribute_state z; digit = digit_of_prefix n }

-- the content of a bracket with a character more
abbrev pub prefix_with : MacroPrefix → ℕ → MacroPrefix
prefix_with Closed c = if c == 91 then Opened else Other
prefix_with Opened c = if is_in c (codes "nge") then Letter else Other
prefix_with Letter c = if c == 109 then Named else Other
prefix_with Named c = Last c
prefix_with _ c = Other

abbrev pub prefix_after : CharFacts → MacroPrefix → ℕ → MacroPrefix
prefix_after e n c = if e.raw_after then prefix_with n c else Closed

-- the stage after a character
abbrev pub stage_after : NoteStage → CharRole → CharFacts → Option ItemState → Char → NoteStage
stage_after st Ends e o x = record st { ended = true }
stage_after st Keep e (Some z) x = record st { state = z; name = prefix_after e st.name x.c; before = before_in Keep st.before e x }
stage_after st r e o x = record st { before = before_in r st.before e x }

-- the stage after a character that is kept and brings the reading to this state
abbrev pub stage_kept : NoteStage → ItemState → Char → NoteStage
stage_kept st z x = stage_after st Keep (facts_by_states st.state (Some z) st.name) (Some z) x
