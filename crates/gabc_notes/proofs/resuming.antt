pub mod CallsKeep
pub mod KeptTextGivesStage
pub mod StagesAgree
pub mod StagesKeep
pub mod StagesTake
