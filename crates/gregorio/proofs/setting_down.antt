-- A stage over a score is restored from the fields of a state.
pub mod PendingTextIsReadIfItRoundTrips
pub mod KeptAsReported
pub mod KeptIsRead
pub mod StateIsRead
