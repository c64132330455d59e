-- The machine that reads a glyph a note at a time.
use Rattle.std.specs.Prelude.{ℕ, nat_lt, List, [], ◌∷◌, ◌++◌, Bool, true, false, ◌==◌, codes, Option, Some, None, if◌then◌else◌}
use Rattle.gabc_notes.specs.declared.note.Note.{Note}
use Rattle.gabc_notes.specs.declared.note.Shape.{Shape}
use Rattle.gabc_notes.specs.declared.note.Shape.TheVariants as shape
use Rattle.gabc_neumes.specs.Letters.{is_joinable, shape_letter}
use Rattle.gabc_neumes.specs.declared.glyph.Base.{Base}
use Rattle.gabc_neumes.specs.declared.glyph.Base.TheVariants as base
use Rattle.gabc_neumes.specs.declared.glyph.Tail.{Tail}
use Rattle.gabc_neumes.specs.declared.glyph.Tail.TheVariants as tail
use Rattle.gabc_neumes.specs.declared.glyph.GlyphKind.{GlyphKind}
use Rattle.gabc_neumes.specs.declared.state.NoteClass.{NoteClass}
use Rattle.gabc_neumes.specs.declared.state.NoteClass.TheVariants.{First, Up, Down, Level, PointUp, PointDown, PointLevel, Other}
use Rattle.gabc_neumes.specs.declared.state.JoinedBase.{JoinedBase}
use Rattle.gabc_neumes.specs.declared.state.JoinedBase.TheVariants as joined
use Rattle.gabc_neumes.specs.declared.state.GlyphState.{GlyphState}
use Rattle.gabc_neumes.specs.declared.state.GlyphState.TheVariants.{Start, One, Plain, Falling, Half, Climacus, Resumed, ResumedClimacus}

-- the class of a note of this shape at the height `here`, after one at the height `before`
abbrev pub step_class : Shape → ℕ → ℕ → NoteClass
step_class shape.Inclinatum before here = if nat_lt here before then PointDown else if nat_lt before here then PointUp else PointLevel
step_class s before here = if is_joinable s then (if nat_lt here before then Down else if nat_lt before here then Up else Level) else Other

-- the class of a note, by the height of the note before it, if there is one
abbrev pub class_at : Option ℕ → Note → NoteClass
class_at None n = First n.shape
class_at (Some before) n = step_class n.shape before n.height

-- the class of a letter
abbrev pub class_of_letter : ℕ → NoteClass
class_of_letter c =
    if c == 85 then Up else
    if c == 68 then Down else
    if c == 69 then Level else
    if c == 117 then PointUp else
    if c == 100 then PointDown else
    if c == 101 then PointLevel else
    if c == 112 then First shape.Punctum else
    if c == 105 then First shape.Inclinatum else
    if c == 118 then First shape.Virga else
    if c == 98 then First shape.Bivirga else
    if c == 116 then First shape.Trivirga else
    if c == 86 then First shape.VirgaReversa else
    if c == 115 then First shape.Stropha else
    if c == 83 then First shape.Distropha else
    if c == 84 then First shape.Tristropha else
    if c == 111 then First shape.Oriscus else
    if c == 79 then First shape.OriscusScapus else
    if c == 119 then First shape.Quilisma else
    if c == 87 then First shape.QuilismaQuadratum else
    if c == 113 then First shape.Quadratum else
    if c == 114 then First shape.Cavum else
    if c == 82 then First shape.Lined else
    if c == 61 then First shape.Linea else Other

-- a climacus may begin with a note of that shape
abbrev pub begins_climacus : Shape → Bool
begins_climacus shape.Punctum = true
begins_climacus shape.Virga = true
begins_climacus _ = false

-- the base with a joinable note more, which is higher or lower
abbrev pub with_note : JoinedBase → Bool → Option JoinedBase
with_note joined.Pes true = Some joined.Scandicus
with_note joined.Scandicus true = Some joined.Scandicus
with_note joined.Pes false = Some joined.Torculus
with_note joined.Clivis true = Some joined.Porrectus
with_note joined.Scandicus false = Some joined.ScandicusFlexus
with_note joined.Torculus true = Some joined.TorculusResupinus
with_note joined.Porrectus false = Some joined.PorrectusFlexus
with_note joined.TorculusResupinus false = Some joined.TorculusResupinusFlexus
with_note _ _ = None

abbrev pub plain_of : Option JoinedBase → Option GlyphState
plain_of None = None
plain_of (Some j) = Some (Plain j)

abbrev pub state_if : Bool → GlyphState → Option GlyphState
state_if b s = if b then Some s else None

-- the state after a note more, if a glyph continues with it
abbrev pub next_state : GlyphState → NoteClass → Option GlyphState
next_state Start (First s) = Some (One s)
next_state (One shape.Inclinatum) PointUp = Some (One shape.Inclinatum)
next_state (One shape.Inclinatum) PointDown = Some (One shape.Inclinatum)
next_state (One shape.Inclinatum) PointLevel = Some (One shape.Inclinatum)
next_state (One s) Up = state_if (is_joinable s) (Plain joined.Pes)
next_state (One s) Down = state_if (is_joinable s) (Plain joined.Clivis)
next_state (One s) PointDown = state_if (begins_climacus s) Half
next_state (Plain j) Up = plain_of (with_note j true)
next_state (Plain j) Down = plain_of (with_note j false)
next_state (Plain j) PointDown = Some (Falling j)
next_state (Falling j) PointDown = Some (Falling j)
next_state (Falling j) Up = Some (Resumed j)
next_state Half PointDown = Some Climacus
next_state Climacus PointDown = Some Climacus
next_state Climacus Up = Some ResumedClimacus
next_state _ _ = None

abbrev pub base_of : JoinedBase → Base
base_of joined.Pes = base.Pes
base_of joined.Clivis = base.Clivis
base_of joined.Torculus = base.Torculus
base_of joined.Porrectus = base.Porrectus
base_of joined.Scandicus = base.Scandicus
base_of joined.ScandicusFlexus = base.ScandicusFlexus
base_of joined.TorculusResupinus = base.TorculusResupinus
base_of joined.PorrectusFlexus = base.PorrectusFlexus
base_of joined.TorculusResupinusFlexus = base.TorculusResupinusFlexus

abbrev pub some_kind : Base → Tail → Option GlyphKind
some_kind b t = Some (record { base = b; tail = t })

-- the kind of the glyph, if it may end here
abbrev pub kind_at_end : GlyphState → Option GlyphKind
kind_at_end Start = None
kind_at_end Half = None
kind_at_end (One shape.Inclinatum) = some_kind base.Inclinata tail.Plain
kind_at_end (One s) = some_kind (base.One s) tail.Plain
kind_at_end (Plain j) = some_kind (base_of j) tail.Plain
kind_at_end (Falling j) = some_kind (base_of j) tail.Subpunctis
kind_at_end (Resumed j) = some_kind (base_of j) tail.Resupinus
kind_at_end Climacus = some_kind base.Climacus tail.Plain
kind_at_end ResumedClimacus = some_kind base.Climacus tail.Resupinus

-- letters after which the machine is in this state
abbrev pub joined_example : JoinedBase → List ℕ
joined_example joined.Pes = codes "pU"
joined_example joined.Clivis = codes "pD"
joined_example joined.Torculus = codes "pUD"
joined_example joined.Porrectus = codes "pDU"
joined_example joined.Scandicus = codes "pUU"
joined_example joined.ScandicusFlexus = codes "pUUD"
joined_example joined.TorculusResupinus = codes "pUDU"
joined_example joined.PorrectusFlexus = codes "pDUD"
joined_example joined.TorculusResupinusFlexus = codes "pUDUD"

abbrev pub example : GlyphState → List ℕ
example Start = []
example (One s) = shape_letter s ∷ []
example (Plain j) = joined_example j
example (Falling j) = joined_example j ++ codes "d"
example (Resumed j) = joined_example j ++ codes "dU"
example Half = codes "pd"
example Climacus = codes "pdd"
example ResumedClimacus = codes "pddU"
