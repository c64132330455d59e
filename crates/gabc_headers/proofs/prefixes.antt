pub mod BookIsRead
pub mod EventsGrow
pub mod EventsMakeHeads
pub mod EventsNeedNoEnd
pub mod HeadsSoFar
pub mod LastPercent
