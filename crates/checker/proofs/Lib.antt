-- The lemmas of this crate.
pub mod Marked
pub mod Shares
pub mod Forms
pub mod Conflicts
pub mod Ended
pub mod Joined
pub mod Chain
pub mod Staged
pub mod Leading
pub mod Judged
pub mod Alike
pub mod Front
