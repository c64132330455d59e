pub mod EventsAddEntries
pub mod EventsAddFindings
pub mod HeadsFollowFromEvents
pub mod HeadsWithinLimits
