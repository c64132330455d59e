-- The parts of lines: their names are short, and their lines rise.
use Rattle.std.proofs.Common.{◌≡◌, ℕ, ◌+◌, ◌≤◌, List, [], ◌∷◌, ◌++◌, Bool, true, cond, arith, length, Option, Some, None, nat_le}
use Rattle.std.proofs.lemmas.Bool.Decides.{nat_tests}
use Rattle.gabc_headers.specs.Lines.{bytes_len, has_mark}
use Rattle.gabc_headers.specs.Parts.{HeaderPart, left_out, header, unended, good_name, ended_parts, bad_name_parts}
use Rattle.gabc_headers.specs.witness.Parts.{LineContext, outside, within, parts, parts_of_line, context_below, parts_left_open}
use Rattle.gabc_headers.proofs.collecting.EventsAddEntries.{HaveShortNames}

-- a name that is kept is short
abbrev IsShort : Option (List ℕ) → Type 0
IsShort None = Unit {0}
IsShort (Some n) = bytes_len n ≤ 64

le_is : (a b : ℕ) → nat_le a b ≡ true → a ≤ b
le_is a b h = grind (arith, nat_tests)

good_short : (n : List ℕ) → IsShort (good_name n)
good_short n = grind (arith, le_is)

abbrev IsShortWhere : LineContext → Type 0
IsShortWhere outside = Unit {0}
IsShortWhere (within j name v) = IsShort name

names-append : (ps qs : List HeaderPart) → HaveShortNames ps → HaveShortNames qs → HaveShortNames (ps ++ qs)
names-append [] qs h k = k
names-append (left_out j p ∷ ps) qs h k = names-append ps qs h k
names-append (unended j ∷ ps) qs h k = names-append ps qs h k
names-append (header j n v p ∷ ps) qs h k = (h.0, names-append ps qs h.1 k)

ended_short : (k : ℕ) (o : Option (List ℕ)) (v : List ℕ) (p : ℕ) → IsShort o → HaveShortNames (ended_parts k o v p)
ended_short k o v p h = grind arith

bad_short : (k : ℕ) (o : Option (List ℕ)) (p : ℕ) → HaveShortNames (bad_name_parts k o p)
bad_short k o p = grind arith

if_short : (b : Bool) (ps qs : List HeaderPart) → HaveShortNames ps → HaveShortNames qs → HaveShortNames (cond b ps qs)
if_short b ps qs h k = grind arith

events_short : (w : LineContext) (k n : ℕ) (l : List ℕ) → IsShortWhere w → HaveShortNames (parts_of_line w k n l)
events_short outside k n l h = grind (arith, if_short, names-append, bad_short, ended_short, good_short)
events_short (within j name v) k n l h = if_short (has_mark 2 l) _ [] (ended_short j name _ _ h) tt

below_short : (w : LineContext) (k : ℕ) (l : List ℕ) → IsShortWhere w → IsShortWhere (context_below w k l)
below_short outside k l h = grind (arith, good_short)
below_short (within j name v) k l h = grind arith

open_short : (w : LineContext) → HaveShortNames (parts_left_open w)
open_short outside = tt
open_short (within j name v) = tt

pub parts_short : (w : LineContext) (k n : ℕ) (ls : List (List ℕ)) → IsShortWhere w → HaveShortNames (parts w k n ls)
parts_short w k n [] h = open_short w
parts_short w k n (l ∷ ls) h = names-append (parts_of_line w k n l) _ (events_short w k n l h) (parts_short (context_below w k l) (k + 1) (n + (length l + 1)) ls (below_short w k l h))

-- the first parts of short names
pub names-prefix : (ps qs : List HeaderPart) → HaveShortNames (ps ++ qs) → HaveShortNames ps
names-prefix [] qs h = tt
names-prefix (left_out j p ∷ ps) qs h = names-prefix ps qs h
names-prefix (unended j ∷ ps) qs h = names-prefix ps qs h
names-prefix (header j n v p ∷ ps) qs h = (h.0, names-prefix ps qs h.1)
