pub mod FileContents
pub mod ReadingStops
pub mod FileProgress
pub mod AfterLine
pub mod AskedOfFile
