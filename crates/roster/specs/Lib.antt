pub mod Checks
pub mod Counting
pub mod Denials
pub mod Moves
pub mod Quorums
pub mod Rosters
pub mod Sizes
pub mod Votes
