-- The bytes that were read of a source.
use Rattle.std.specs.Prelude.{◌≡◌, ℕ, ◌+◌, ◌<◌, ◌≤◌, List, length, Option, true}
use Rattle.std.specs.Io.KnownBytes.{Consumes, IsAtEnd}
use Rattle.gabc_places.specs.Calls.{Calls}
use Rattle.gregorio.specs.declared.source_ending.SourceEnding.{SourceEnding}
use Rattle.gregorio.specs.declared.source_ending.SourceEnding.TheVariants.{Whole, Broken}

-- The source supplied these bytes, at most one more than the limit, in at most one read more than
-- there are bytes, and stopped so: if it ended, no read of it failed, and it is stopped if the
-- limit is not passed. `old` and `new` are the bytes that it has before and after, if they are
-- known, and `calls_old` and `calls_new` its calls before and after.
pub record ReadsSource (old new : Option (List ℕ)) (calls_old calls_new : Calls) (limit : ℕ) (bytes : List ℕ) (ending : SourceEnding) : Type 0 where
  pub consumed : Consumes old new bytes
  pub reads : calls_new.made ≤ calls_old.made + length bytes + 1
  pub within : length bytes ≤ limit + 1
  pub whole : ending ≡ Whole → length bytes ≤ limit → IsAtEnd new
  pub stopped : ending ≡ Whole → length bytes ≤ limit → calls_new.is_stopped ≡ true
  pub broken : ending ≡ Broken → calls_old.failures < calls_new.failures
  pub steady : ending ≡ Whole → calls_new.failures ≡ calls_old.failures
