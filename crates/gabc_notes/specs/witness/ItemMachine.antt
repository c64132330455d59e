-- A text for each state of the machine over items, and by it the events that a stage has left.
use Rattle.std.specs.Prelude.{ℕ, List, [], ◌∷◌, codes, if◌then◌else◌}
use Rattle.gabc_places.specs.declared.place.Char.{Char}
use Rattle.gabc_places.specs.StageLaw.{silence}
use Rattle.gabc_notes.specs.witness.StageEvents.{events_after}
use Rattle.gabc_notes.specs.declared.stage.NoteEvent.{NoteEvent}
use Rattle.gabc_notes.specs.declared.stage.NoteStage.{NoteStage}
use Rattle.gabc_notes.specs.declared.macro_prefix.MacroPrefix.{MacroPrefix}
use Rattle.gabc_notes.specs.declared.macro_prefix.MacroPrefix.TheVariants.{Closed, Opened, Letter, Named, Last, Other}
use Rattle.gabc_notes.specs.declared.state.FullItem.TheVariants.{Alteration, Clef as FullClef, Spacing, Custos, Break, Attribute, Fusion}
use Rattle.gabc_notes.specs.declared.state.ItemState.{ItemState}
use Rattle.gabc_notes.specs.declared.state.ItemState.TheVariants.{Start, Dash, DashPitch, Body, Pitch, ClefPitch, ClefFlat, Clef, Join, JoinPitch, JoinFlat, Altered, Sharp, Bar, Colon, BarAsked, BarSigned, Slash, Blanks, SmallZ, CapitalZ, Raw, SlashRaw, At, Done}

-- a text that ends in that state
abbrev pub example : ItemState → List ℕ
example Start = []
example Dash = codes "-"
example DashPitch = codes "-g"
example Body = codes "G"
example Pitch = codes "g"
example ClefPitch = codes "c"
example ClefFlat = codes "cb"
example Clef = codes "c4"
example Join = codes "c4@"
example JoinPitch = codes "c4@c"
example JoinFlat = codes "c4@cb"
example Altered = codes "gx"
example Sharp = codes "g#"
example Bar = codes ","
example Colon = codes ":"
example BarAsked = codes ",?"
example BarSigned = codes ",'"
example Slash = codes "/"
example Blanks = codes " "
example SmallZ = codes "z"
example CapitalZ = codes "Z"
example Raw = codes "["
example SlashRaw = codes "/["
example At = codes "@"
example (Done Alteration) = codes "gx?"
example (Done FullClef) = codes "c4@c4"
example (Done Spacing) = codes "//"
example (Done Custos) = codes "z0"
example (Done Break) = codes "z+"
example (Done Attribute) = codes "[]"
example (Done Fusion) = codes "]"

-- ---- the states of the stage

-- a text from an open bracket on with this prefix of a macro's name
abbrev pub example_prefix : MacroPrefix → List ℕ
example_prefix Closed = []
example_prefix Opened = codes "["
example_prefix Letter = codes "[n"
example_prefix Named = codes "[nm"
example_prefix (Last c) = 91 ∷ 110 ∷ 109 ∷ c ∷ []
example_prefix Other = codes "[other"

-- The events that a stage has left for these characters, and then the end: they depend on a text
-- that ends in its state.
abbrev pub events_left : NoteStage → List Char → List (List NoteEvent)
events_left st xs = if st.ended then silence xs else events_after st.split st.macros (example st.state) (example_prefix st.name) st.before xs
