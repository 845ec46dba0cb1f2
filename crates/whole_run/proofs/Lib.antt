-- The lemmas of this crate.
mod Files
