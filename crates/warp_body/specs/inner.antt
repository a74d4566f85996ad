pub mod Divisor
-- What the code keeps inside and no public contract cites.
pub mod Slots
pub mod Machine
pub mod Compiled
