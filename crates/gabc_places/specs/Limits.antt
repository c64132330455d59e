use Rattle.std.specs.Prelude.{◌≡◌, ℕ, ◌≤◌}

-- the numbers that limits may have, in bytes
pub record AreLimits (header syllable input : ℕ) : Type 0 where
  pub header_least : 64 ≤ header
  pub header_most : header ≤ 16777216
  pub syllable_least : 64 ≤ syllable
  pub syllable_most : syllable ≤ 16777216
  pub input_least : 64 ≤ input
  pub input_most : input ≤ 4294967295

-- the default limits
pub record AreUsual (header syllable input : ℕ) : Type 0 where
  pub header_is : header ≡ 65536
  pub syllable_is : syllable ≡ 16384
  pub input_is : input ≡ 4294967295
