use Rattle.std.proofs.Common.{◌≡◌, List, length, ◌-◌}
use Rattle.gabc_places.specs.BoundedList.{extended_by}
use Rattle.gabc_neumes.specs.declared.glyph.Glyph.{Glyph}
use Rattle.gabc_neumes.proofs.glyphs_of_notes.GlyphsOneByOne.{Cutting}
use Rattle.gabc_neumes.proofs.glyphs.cut.Given as goal

abbrev pub invariant-loop-kind : goal.invariant-loop-kind
invariant-loop-kind l = (glyphs : List Glyph) × Cutting l.notes glyphs l.at × (l.out ≡ extended_by l.initial.out glyphs)

abbrev pub decreases-loop-kind : goal.decreases-loop-kind
decreases-loop-kind l = length l.notes - l.at
