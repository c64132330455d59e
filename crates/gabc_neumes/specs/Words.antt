-- The words of kinds of glyphs, and of alterations.
use Rattle.std.specs.Prelude.{ℕ, List, [], ◌++◌, codes}
use Rattle.gabc_notes.specs.declared.note.Shape.{Shape}
use Rattle.gabc_notes.specs.declared.note.Shape.TheVariants as shape
use Rattle.gabc_neumes.specs.declared.glyph.Base.{Base}
use Rattle.gabc_neumes.specs.declared.glyph.Base.TheVariants.{Pes, Clivis, Torculus, Porrectus, Scandicus, ScandicusFlexus, TorculusResupinus, PorrectusFlexus, TorculusResupinusFlexus, Climacus, Inclinata, One}
use Rattle.gabc_neumes.specs.declared.glyph.Tail.{Tail}
use Rattle.gabc_neumes.specs.declared.glyph.Tail.TheVariants.{Plain, Subpunctis, Resupinus}
use Rattle.gabc_neumes.specs.declared.glyph.GlyphKind.{GlyphKind}
use Rattle.gabc_neumes.specs.declared.sound.Alter.{Alter}
use Rattle.gabc_neumes.specs.declared.sound.Alter.TheVariants as alter

abbrev pub shape_word : Shape → List ℕ
shape_word shape.Punctum = codes "punctum"
shape_word shape.Inclinatum = codes "inclinatum"
shape_word shape.Virga = codes "virga"
shape_word shape.Bivirga = codes "bivirga"
shape_word shape.Trivirga = codes "trivirga"
shape_word shape.VirgaReversa = codes "virga-reversa"
shape_word shape.Stropha = codes "stropha"
shape_word shape.Distropha = codes "distropha"
shape_word shape.Tristropha = codes "tristropha"
shape_word shape.Oriscus = codes "oriscus"
shape_word shape.OriscusScapus = codes "oriscus-scapus"
shape_word shape.Quilisma = codes "quilisma"
shape_word shape.QuilismaQuadratum = codes "quilisma-quadratum"
shape_word shape.Quadratum = codes "quadratum"
shape_word shape.Cavum = codes "cavum"
shape_word shape.Lined = codes "lined"
shape_word shape.Linea = codes "linea"

abbrev pub base_word : Base → List ℕ
base_word Pes = codes "pes"
base_word Clivis = codes "clivis"
base_word Torculus = codes "torculus"
base_word Porrectus = codes "porrectus"
base_word Scandicus = codes "scandicus"
base_word ScandicusFlexus = codes "scandicus-flexus"
base_word TorculusResupinus = codes "torculus-resupinus"
base_word PorrectusFlexus = codes "porrectus-flexus"
base_word TorculusResupinusFlexus = codes "torculus-resupinus-flexus"
base_word Climacus = codes "climacus"
base_word Inclinata = codes "inclinata"
base_word (One s) = shape_word s

-- the word of a tail after that base: a climacus falls by itself
abbrev pub tail_word : Base → Tail → List ℕ
tail_word _ Plain = []
tail_word _ Subpunctis = codes "-subpunctis"
tail_word Climacus Resupinus = codes "-resupinus"
tail_word _ Resupinus = codes "-subpunctis-resupinus"

abbrev pub kind_word : GlyphKind → List ℕ
kind_word k = base_word k.base ++ tail_word k.base k.tail

abbrev pub alter_word : Alter → List ℕ
alter_word alter.None = codes "none"
alter_word alter.Flat = codes "flat"
alter_word alter.Natural = codes "natural"
alter_word alter.Sharp = codes "sharp"
