pub mod FrameNet
pub mod Flags
pub mod FrameBounds
