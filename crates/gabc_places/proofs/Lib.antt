pub mod decoding
pub mod texts
pub mod utf8
pub mod AppendsAreJoined
pub mod CallsInTime
pub mod ChainKeepsEvents
pub mod EarliestIsLeast
pub mod GatheredOfAText
mod Lent
pub mod LimitsAreNumbers
pub mod NothingAfterAnEnd
pub mod NumbersByTests
pub mod PlacesInOrder
pub mod PlacesOfAText
pub mod PushesAreOne
pub mod TakenInTurn
