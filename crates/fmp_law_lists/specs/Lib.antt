pub mod Listing  -- Lists of tasks in which each of some tasks stands once, in an order.
pub mod Stands  -- What the lists stand for: a state with numbers, of which they are the order.
pub mod Laws  -- What a state with lists tells, where it stands for one with numbers.
pub mod Headline  -- The sentence that all of this is about, of one state and of every prefix of a run.
pub mod Lists  -- What the cells have of the order that the kernel keeps by lists.
pub mod Reads  -- What it is that two states have the same in some cells, and that the same is done in both.
pub mod ReadsObjects  -- What a call on an object reads.
pub mod ReadsCalls  -- What each call and a tick read.
pub mod Alike  -- The words of footprints, over the kernel's lists.
pub mod Apart  -- What it is that two events have nothing in common, and that they commute.
pub mod About  -- What an event of a processor is about, and the cells of that.
pub mod AboutObjects  -- What a call on an object is about.
pub mod AboutCalls  -- What each call and a tick are about.
