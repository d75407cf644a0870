pub mod Having  -- Membership by a test.
pub mod Tasks  -- Lists of tasks against lists of items.
pub mod Chaining  -- What a change of links does to a chain.
pub mod Soundness  -- The links stay those of the lists when an item comes in or goes out.
pub mod OneList  -- The one list of tasks, after each change.
pub mod Walking  -- A walk over a list, from one item to the next.
pub mod Digests  -- What the links and the places add is what their lists tell.
