pub mod Faults
pub mod Source
pub mod Sink
pub mod Ending
pub mod Play
pub mod Over
