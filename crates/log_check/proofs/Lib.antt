pub mod Scanning
pub mod LineFeeds
pub mod Rising
pub mod Ordering
pub mod Found
pub mod OneVerdict
