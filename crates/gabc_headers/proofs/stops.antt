pub mod HeadsByEnding
pub mod LargerLimits
pub mod SufficientLimitsGiveSameHeaders
pub mod MachineEndsAtStop
pub mod PointsOfStops
pub mod TextTooLong
