pub mod FirstItemIsFound
pub mod ItemAtCharacter
pub mod ItemByStates
pub mod ItemsByBytes
pub mod LastItemByState
pub mod OnePitch
