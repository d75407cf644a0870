pub mod Cells  -- A state, cut into cells.
pub mod Shapes  -- What no event changes.
pub mod Footprints  -- What it is that all cells but some stay as they are.
pub mod Numbers  -- What the cells have of the order that the model keeps by numbers.
pub mod Named  -- What the arguments of calls name.
pub mod Words  -- What S must have for the words by which calls and ticks change a state.
pub mod CoversObjects  -- What S must have for a call on an object.
pub mod CoversCalls  -- What S must have for each call.
pub mod Covers  -- What S must have for each event: every cell that the event may change.
pub mod Kinds  -- Which kinds of cells a call and a tick may change, whatever the state.
pub mod Frames  -- What a record says that its event may change, and what it leaves.
