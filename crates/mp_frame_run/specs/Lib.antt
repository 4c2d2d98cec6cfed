pub mod FrameNow
pub mod FrameView
pub mod Framed
pub mod FramedView
pub mod Running
