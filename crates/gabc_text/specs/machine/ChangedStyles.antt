-- The sets of styles that the code makes of two.
use Rattle.std.specs.Prelude.{◌&&◌, ◌||◌, Bool, false, not, cond}
use Rattle.gabc_text.specs.declared.styles.Styles.{Styles}

abbrev pub common_styles : Styles → Styles → Styles
common_styles a b = record { b = a.b && b.b; c = a.c && b.c; e = a.e && b.e; i = a.i && b.i; sc = a.sc && b.sc; tt = a.tt && b.tt; ul = a.ul && b.ul }

abbrev pub differs : Bool → Bool → Bool → Bool
differs before old new = before || cond old (not new) new

abbrev pub changed_styles : Styles → Styles → Styles
changed_styles a b =
    let c0 = differs false a.b b.b in
    let c1 = differs c0 a.c b.c in
    let c2 = differs c1 a.e b.e in
    let c3 = differs c2 a.i b.i in
    let c4 = differs c3 a.sc b.sc in
    let c5 = differs c4 a.tt b.tt in
    record { b = c0; c = c1; e = c2; i = c3; sc = c4; tt = c5; ul = differs c5 a.ul b.ul }
