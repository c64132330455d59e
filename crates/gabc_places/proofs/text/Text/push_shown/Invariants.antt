use Rattle.std.proofs.Common.{◌≡◌, ◌++◌, filter, length}
use denote.Text.{Utf8}
use denote.Shadow.{shadow}
use Rattle.std.specs.Str.{chars}
use Rattle.gabc_places.specs.Text.{is_shown}
use Rattle.gabc_places.proofs.text.Text.push_shown.Given as goal

abbrev pub invariant-loop-shown : goal.invariant-loop-shown
invariant-loop-shown l = shadow (Utf8 l.rest) × (l.self ++ filter is_shown (chars l.rest) ≡ l.fn.self ++ filter is_shown (chars l.line))

abbrev pub decreases-loop-shown : goal.decreases-loop-shown
decreases-loop-shown l = length l.rest
