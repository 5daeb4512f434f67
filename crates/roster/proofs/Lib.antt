pub mod Checks
pub mod Counting
pub mod Quorums
pub mod Rosters
pub mod Seating
pub mod Seats
pub mod Unnamed
pub mod Voting
