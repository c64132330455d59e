-- The event that ends a text.
use Rattle.std.specs.Prelude.{Bool, true, false}
use Rattle.gabc_text.specs.declared.text_event.TextEvent.{TextEvent}
use Rattle.gabc_text.specs.declared.text_event.TextEvent.TheVariants.{Ended}

abbrev pub is_end : TextEvent → Bool
is_end (Ended how) = true
is_end _ = false
