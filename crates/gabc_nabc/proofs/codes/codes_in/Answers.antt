use Rattle.std.proofs.Common.{◌≤◌, ◌-◌, ℕ, List, Bool, [], length, drop, slice_range, arith, length-take, if◌then◌else◌}
use Rattle.gabc_nabc.specs.Codes.{codes_in}
use Rattle.gabc_nabc.specs.Parts.{bytes_of}
use Rattle.gabc_nabc.proofs.glyphs.CodesByPlace.{codes_few}
use Rattle.gabc_nabc.proofs.codes.codes_in.Goals as goal

slice_few : (bytes : List ℕ) (from to : ℕ) → length (slice_range bytes from to) ≤ to - from
slice_few bytes from to = omega (arith, length-take (to - from) (drop from bytes))

few_by : (b : Bool) (text : List ℕ) (n : ℕ) → length text ≤ n → length (if b then [] else codes_in text) ≤ n
few_by b text n l = grind (arith, codes_few)

pub returns-clause-few : goal.returns-clause-few
returns-clause-few c = few_by c.args.part.space (bytes_of c.args.kept.now c.args.part) (c.args.part.span.to - c.args.part.span.from) (slice_few c.args.kept.now c.args.part.span.from c.args.part.span.to)
