-- Snippets of the dump by example.
use Rattle.std.proofs.Common.{◌≡◌, refl, codes}
use Rattle.std.specs.Str.{chars}
use Rattle.std.specs.Fmt.{digits}
use lib.Utf8.{encode}
use Rattle.gabc_neumes.specs.InForce.{InForce, nothing_in_force, passed, steps_of}
use Rattle.gabc_write.specs.DumpOfNotes.{lines_of_notes}
use Rattle.gabc_write.specs.DumpOfNabc.{lines_of_nabc}

-- elements, glyphs and spacings
elements_and_spacings : lines_of_notes nothing_in_force (codes "fg!h/0i g")
    ≡ codes "notes:fg!h/0i g\nelement\nglyph pes 2\nnote f punctum - none f\nnote g punctum - none g\nspace !\nglyph punctum 1\nnote h punctum - none h\nspace /0\nglyph punctum 1\nnote i punctum - none i\nspace blank\nelement\nglyph punctum 1\nnote g punctum - none g\n"
unfolding chars encode digits
elements_and_spacings = refl

-- each kind of item, an attribute within a glyph, and an alteration that ends at a bar
all_items : lines_of_notes nothing_in_force (codes "c4fxfh[nm1]gv::fg+z0z+@[\n/[\\]]")
    ≡ codes "notes:c4fxfh[nm1]gv::fg+z0z+@[\\n/[\\\\]]\nclef c4\nelement\nalteration f flat fx\nglyph pes 2\nnote f punctum fa flat f\nnote h punctum la none h\nattribute nm1\nglyph virga 1\nnote g virga sol none gv\nbar finalis ::\nelement\nglyph punctum 1\nnote f punctum fa none f\ncustos g\ncustos auto\nbreak z+\nelement\nfusion @[\nspace blank\nspace /[\\\\]\nelement\nfusion ]\n"
unfolding chars encode digits
all_items = refl

-- what is in force goes from one snippet into the next: the first of two joined clefs, whose `b` makes the si flat
clef_with_flat : InForce
clef_with_flat = passed nothing_in_force (steps_of (codes "cb4@f2"))

under_a_clef : lines_of_notes clef_with_flat (codes "i`iyi`ii#j")
    ≡ codes "notes:i`iyi`ii#j\nelement\nglyph punctum 1\nnote i punctum si flat i\nbar virgula `\nelement\nalteration i natural iy\nglyph punctum 1\nnote i punctum si natural i\nbar virgula `\nelement\nglyph punctum 1\nnote i punctum si natural i\nalteration i sharp i#\nglyph punctum 1\nnote j punctum ut none j\n"
unfolding chars encode digits clef_with_flat
under_a_clef = refl

-- descriptors
descriptors : lines_of_nabc 1 (codes "vi-hj/pe!zz") ≡ codes "nabc 1:vi-hj/pe!zz\ndescriptor vi-hj virga\nspace /\ndescriptor pe!zz pes!zz\n"
unfolding chars encode digits
descriptors = refl
