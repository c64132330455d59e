-- The spans open after events of a body.
use Rattle.std.specs.Prelude.{◌≡◌, List, []}
use Rattle.gabc_body.specs.declared.before.Spans.{Spans}
use Rattle.gabc_body.specs.declared.events.BodyEvent.{BodyEvent}
use Rattle.gabc_body.specs.Syllable.{since_close, is_eu, is_nlba}

-- after these events, the nearest first, nothing of a syllable is read, and these spans are open
pub record LeavesOpen (spans : Spans) (before : List BodyEvent) : Type 0 where
  pub nothing : since_close before ≡ []
  pub eu : is_eu before ≡ spans.eu
  pub nlba : is_nlba before ≡ spans.nlba

-- some events leave these spans open
pub record CanBeOpen (spans : Spans) : Type 0 where
  pub before : List BodyEvent
  pub leaves : LeavesOpen spans before
