pub mod Alike  -- What is told of a state with lists is told of each state with numbers for which it stands.
pub mod Changes  -- What is told of things of which something was told before, or nothing yet.
mod Names  -- One name more of a list.
mod Naming  -- The first kind that has a name.
mod Telling  -- What is told of one thing more.
mod Due  -- One processor more.
