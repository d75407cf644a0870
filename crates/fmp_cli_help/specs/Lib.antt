pub mod Deeds  -- What each service call does, and what it answers.
pub mod LeftOut  -- What the profile leaves out.
pub mod Listing  -- What a word is of which there is something to tell.
pub mod Near  -- The name that is nearest to a word.
