-- The machine of a text at a character and at the end.
use Rattle.std.specs.Prelude.{ℕ, ◌+◌, ◌-◌, ◌^◌, min, false, None}
use Rattle.gabc_places.specs.declared.place.Place.{Place}
use Rattle.gabc_text.specs.declared.token_state.TokenState.TheVariants.{Plain}
use Rattle.gabc_text.specs.declared.stage.TextStage.{TextStage}
use Rattle.gabc_text.specs.TextFacts.{no_facts}

-- a count that has reached its last value stays there
abbrev pub count_plus : ℕ → ℕ → ℕ
count_plus n more = min (n + more) (2 ^ 64 - 1)

-- a machine that has read nothing
abbrev pub fresh_stage : Place → TextStage
fresh_stage at = record {
  state = Plain;
  facts = no_facts;
  progress = record { place = at; start = 0; next = at; kept = 0; pieces = 0; blank = None; begin = None; end = None };
  ended = false;
}
