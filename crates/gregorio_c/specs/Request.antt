-- The request of a call, by the numbers that it is given.
use Rattle.std.specs.Prelude.{ℕ, ◌==◌, Bool, true, false, Option, Some, None, if◌then◌else◌}
use Rattle.gregorio_jobs.specs.declared.job.Format.{Format}
use Rattle.gregorio_jobs.specs.declared.job.Format.TheVariants.{Gabc, Dump}
use Rattle.gregorio_c.specs.declared.request.Request.{Request}

-- 0 is canonical GABC, and 1 the dump
abbrev pub format_by : ℕ → Option Format
format_by number = if number == 0 then Some Gabc else if number == 1 then Some Dump else None

-- 1 asks for all warnings, and 0 does not
abbrev pub warnings_by : ℕ → Option Bool
warnings_by flags = if flags == 0 then Some false else if flags == 1 then Some true else None

abbrev pub both : Option Format → Option Bool → Option Request
both (Some format) (Some all) = Some (record { format = format; all_warnings = all })
both _ _ = None

-- no request, if one of the numbers is not known
abbrev pub request_by : ℕ → ℕ → Option Request
request_by format flags = both (format_by format) (warnings_by flags)
