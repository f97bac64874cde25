pub mod Capture
pub mod Frames
pub mod RouterTrace
pub mod Intake
pub mod Laws
pub mod Steps
pub mod Text
pub mod TraceLines
