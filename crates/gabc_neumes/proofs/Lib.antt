pub mod glyphs_of_notes
pub mod runs_of_items
pub mod RoomsGrow
pub mod StepsArePassed
