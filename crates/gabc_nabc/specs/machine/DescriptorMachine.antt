-- The ends of parts, and a text for each state of the machine over parts.
use Rattle.std.specs.Prelude.{ℕ, List, [], Bool, true, false, codes, Option, Some, None}
use Rattle.gabc_nabc.specs.declared.state.DescriptorState.{DescriptorState}
use Rattle.gabc_nabc.specs.declared.state.DescriptorState.TheVariants.{Start, CodeL, CodeP, CodeS, Code, Glyph, Modified, GlyphH, Pitched, Joined, TailL, TailP, TailS, Points, PointsLetter, Letters, LettersMore, Counted, CountedH, Tail, Slash, Tick, Space}

-- whether the part is a space, if it may end here
abbrev pub is_space_at_end : DescriptorState → Option Bool
is_space_at_end Glyph = Some false
is_space_at_end Modified = Some false
is_space_at_end Pitched = Some false
is_space_at_end Counted = Some false
is_space_at_end Tail = Some false
is_space_at_end Slash = Some true
is_space_at_end Tick = Some true
is_space_at_end Space = Some true
is_space_at_end _ = None

-- a text that ends in that state
abbrev pub example : DescriptorState → List ℕ
example Start = []
example CodeL = codes "l"
example CodeP = codes "p"
example CodeS = codes "s"
example Code = codes "v"
example Glyph = codes "vi"
example Modified = codes "viS"
example GlyphH = codes "vih"
example Pitched = codes "viha"
example Joined = codes "vi!"
example TailL = codes "vil"
example TailP = codes "vip"
example TailS = codes "vis"
example Points = codes "visu"
example PointsLetter = codes "visua"
example Letters = codes "vils"
example LettersMore = codes "vilsa"
example Counted = codes "visu1"
example CountedH = codes "visu1h"
example Tail = codes "visu1ha"
example Slash = codes "/"
example Tick = codes "`"
example Space = codes "//"

-- ---- the states of the stage
