-- The events of a text, as a stage kept it, are all that it has in front of a `(` that ends it.
use Rattle.std.specs.Prelude.{◌≡◌, ℕ, List, [], ◌∷◌, ◌++◌}
use Rattle.gabc_text.specs.declared.text_event.TextEnd.TheVariants as ending
use Rattle.gabc_text.specs.declared.text_event.TextEvent.{TextEvent}
use Rattle.gabc_text.specs.declared.text_event.TextEvent.TheVariants as out
use Rattle.gabc_text.specs.BuiltText.{with_events, empty_text, kept_in}
use Rattle.gabc_text.specs.Ends.{ends_in}
use Rattle.gabc_text.specs.Events.{events_of}
use Rattle.gabc_text.specs.TextRead.{view_in}
use Rattle.gabc_text.specs.View.{kept}
use Rattle.gabc_text.specs.machine.Resuming.{nowhere}
use Rattle.gabc_text.specs.witness.Keeps.{said, said_of, said_at_end}

-- The text k in front of a `(` and this rest: its events as a stage kept it are all its events,
-- without findings and places; before the end all of k is kept, and the view is that of the text.
pub record IsSaidInFull (k rest : List ℕ) : Type 0 where
  pub mids : List TextEvent
  pub said_are : said_of k ++ said_at_end k ≡ mids ++ out.Ended ending.Notes ∷ []
  pub emitted_are : said (events_of nowhere (k ++ 40 ∷ rest)) ≡ said_of k ++ said_at_end k
  pub silent : ends_in mids ≡ []
  pub kept_are : kept_in mids ≡ k
  pub view_is : (with_events empty_text mids).view ≡ view_in (k ++ 40 ∷ rest)
  pub kept_is : kept (k ++ 40 ∷ rest) ≡ k
