pub mod Costs
pub mod Moving
pub mod Next
pub mod Rebased
pub mod Slots
pub mod Visit
