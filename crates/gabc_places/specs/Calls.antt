-- The calls of a source or a sink, and their answers.
use Rattle.std.specs.Prelude.{◌≡◌, ℕ, ◌+◌, ◌==◌, Bool, true, false, not, ◌&&◌, ◌||◌, if◌then◌else◌, Result, MatchResult}

-- The number of calls; the number of those that failed; whether one of them failed or reported the
-- end, so that this end is stopped; and the number of late ones, which came when it was stopped.
pub record Calls : Type 0 where
  pub made : ℕ
  pub failures : ℕ
  pub is_stopped : Bool
  pub late : ℕ

abbrev pub no_calls : Calls
no_calls = record { made = 0; failures = 0; is_stopped = false; late = 0 }

-- one call more that was answered, by the end or not
abbrev pub after_answer : Bool → Calls → Calls
after_answer is_end c = record {
  made = c.made + 1;
  failures = c.failures;
  is_stopped = c.is_stopped || is_end;
  late = if c.is_stopped then c.late + 1 else c.late;
}

-- one call more that failed
abbrev pub after_failure : Calls → Calls
after_failure c = record {
  made = c.made + 1;
  failures = c.failures + 1;
  is_stopped = true;
  late = if c.is_stopped then c.late + 1 else c.late;
}

-- whether a read of n bytes reports the end: a read of 0 bytes into a buffer of this length that is
-- not empty
abbrev pub is_end : ℕ → ℕ → Bool
is_end count length = (count == 0) && not (length == 0)

-- one read more, into a buffer of this length, that answered r
abbrev pub IsRead : {E : Type 0} → Result ℕ E → ℕ → Calls → Calls → Type 0
IsRead r length old new = MatchResult r (λ n. new ≡ after_answer (is_end n length) old) (λ _. new ≡ after_failure old)

-- one write more that answered r
abbrev pub IsWrite : {E : Type 0} → Result ℕ E → Calls → Calls → Type 0
IsWrite r old new = MatchResult r (λ _. new ≡ after_answer false old) (λ _. new ≡ after_failure old)

-- If this end was not stopped before, none of the calls between was late.
abbrev pub NoneLate : Calls → Calls → Type 0
NoneLate old new = old.is_stopped ≡ false → new.late ≡ old.late

-- Of the calls between none failed or reported the end.
pub record GoesOn (old new : Calls) : Type 0 where
  pub failures : new.failures ≡ old.failures
  pub is_stopped : new.is_stopped ≡ old.is_stopped
  pub none_late : NoneLate old new

-- Of the calls between one failed.
pub record FailsOnce (old new : Calls) : Type 0 where
  pub failures : new.failures ≡ old.failures + 1
  pub is_stopped : new.is_stopped ≡ true
  pub none_late : NoneLate old new

-- a reader or a writer, and its calls
pub record WithCalls (T : Type 0) : Type 0 where
  pub inner : T
  pub calls : Calls
