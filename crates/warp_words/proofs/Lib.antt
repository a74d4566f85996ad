pub mod FaultlessWalks
pub mod GivenArguments
