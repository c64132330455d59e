-- The values gathered of a text as it is read.
use Rattle.std.specs.Prelude.{ℕ, string_bytes}
use Rattle.gabc_text.specs.declared.view.TextEnding.{TextEnding}
use Rattle.gabc_text.specs.declared.view.TextEnding.TheVariants as text_ending
use Rattle.gabc_text.specs.declared.text_event.TextEnd.{TextEnd}
use Rattle.gabc_text.specs.declared.text_event.TextEnd.TheVariants as ending
use Rattle.gabc_text.specs.declared.whole.TextBuilder.{TextBuilder}
use Rattle.gabc_text.specs.BuiltText.{BuiltText}
use Rattle.gabc_text.specs.TextView.{content_of}

abbrev pub built_text_of : TextBuilder → BuiltText
built_text_of r = record { kept = string_bytes r.kept; view = content_of r.view; findings = r.findings; end = r.end }

abbrev pub ending_of : TextEnd → ℕ → TextEnding
ending_of ending.Notes index = text_ending.Notes index
ending_of ending.Finished index = text_ending.Finished
ending_of (ending.Cut p) index = text_ending.Cut p
