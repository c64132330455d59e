-- A note: its height, its shape, and whether it is initio debilis.
use Rattle.std.specs.Prelude.{ℕ, ◌-◌, List, [], ◌∷◌, Bool, true, false, ◌==◌, ◌&&◌, ◌||◌, not, nat_le, codes, if◌then◌else◌, Option, Some, None}
use Rattle.gabc_patterns.specs.Pattern.{is_in}
use Rattle.gabc_patterns.specs.Derivative.{same_texts}
use Rattle.gabc_places.specs.declared.place.Span.{Span}
use Rattle.gabc_notes.specs.Items.{bytes_of}
use Rattle.gabc_notes.specs.declared.item.Item.{Item}
use Rattle.gabc_notes.specs.declared.item.ItemKind.{ItemKind}
use Rattle.gabc_notes.specs.declared.item.ItemKind.TheVariants.{Note as NoteKind}
use Rattle.gabc_notes.specs.declared.note.Note.{Note}
use Rattle.gabc_notes.specs.declared.note.Shape.{Shape}
use Rattle.gabc_notes.specs.declared.note.Shape.TheVariants.{Punctum, Inclinatum, Virga, Bivirga, Trivirga, VirgaReversa, Stropha, Distropha, Tristropha, Oriscus, OriscusScapus, Quilisma, QuilismaQuadratum, Quadratum, Cavum, Lined, Linea}

-- the text begins with these characters
abbrev pub begins_with : List ℕ → List ℕ → Bool
begins_with [] t = true
begins_with (c ∷ cs) [] = false
begins_with (c ∷ cs) (d ∷ t) = (c == d) && begins_with cs t

abbrev pub is_digit : ℕ → Bool
is_digit c = nat_le 48 c && nat_le c 57

-- the digits that begin the text
abbrev pub digits_of : List ℕ → List ℕ
digits_of [] = []
digits_of (c ∷ t) = if is_digit c then c ∷ digits_of t else []

-- `r` with these digits after it is a sign: they are neither empty nor `0`
abbrev pub is_sign : List ℕ → Bool
is_sign digits = not (same_texts digits [] || same_texts digits (codes "0"))

-- the letters that name the shape: those out of `v V s o O w W q r R =`, in order, without each `r`
-- that is a sign
abbrev pub letters : List ℕ → List ℕ
letters [] = []
letters (c ∷ t) = if is_in c (codes "vVsoOwWqrR=") && not ((c == 114) && is_sign (digits_of t)) then c ∷ letters t else letters t

-- the shape that letters name: by the longest of these that begins them
abbrev pub shape_by : List ℕ → Shape
shape_by t =
    if begins_with (codes "vvv") t then Trivirga else
    if begins_with (codes "vv") t then Bivirga else
    if begins_with (codes "v") t then Virga else
    if begins_with (codes "V") t then VirgaReversa else
    if begins_with (codes "sss") t then Tristropha else
    if begins_with (codes "ss") t then Distropha else
    if begins_with (codes "s") t then Stropha else
    if begins_with (codes "o") t then Oriscus else
    if begins_with (codes "O") t then OriscusScapus else
    if begins_with (codes "w") t then Quilisma else
    if begins_with (codes "W") t then QuilismaQuadratum else
    if begins_with (codes "q") t then Quadratum else
    if begins_with (codes "r") t then Cavum else
    if begins_with (codes "R") t then Lined else
    if begins_with (codes "=") t then Linea else Punctum

-- a note begins with `-` if it is initio debilis
abbrev pub is_debilis : List ℕ → Bool
is_debilis t = begins_with (codes "-") t

-- the text after that
abbrev pub from_pitch : List ℕ → List ℕ
from_pitch [] = []
from_pitch (c ∷ t) = if c == 45 then t else c ∷ t

abbrev pub is_capital : ℕ → Bool
is_capital c = nat_le 65 c && nat_le c 90

-- `a` is 0 and `n` is 13; there is no `o`, and `p` is 14; capitals are as small letters
abbrev pub height_of : ℕ → ℕ
height_of c =
    if c == 112 || c == 80 then 14 else
    if is_capital c then c - 65 else c - 97

-- the height of a text that begins with its pitch
abbrev pub height_at : List ℕ → ℕ
height_at [] = 0
height_at (c ∷ t) = height_of c

-- the shape of such a text: a capital is an inclinatum, else the letters after the pitch name it
abbrev pub shape_at : List ℕ → Shape
shape_at [] = Punctum
shape_at (c ∷ t) = if is_capital c then Inclinatum else shape_by (letters t)

-- the note of an item, if it is one
abbrev pub note_by : ItemKind → Span → List ℕ → Option Note
note_by NoteKind span t = Some (record { height = height_at (from_pitch t); shape = shape_at (from_pitch t); debilis = is_debilis t; span = span })
note_by _ span t = None

abbrev pub note_in : List ℕ → Item → Option Note
note_in bytes i = note_by i.kind i.span (bytes_of bytes i)
