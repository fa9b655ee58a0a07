pub mod FrameShape
