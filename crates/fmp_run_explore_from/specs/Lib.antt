pub mod Strays  -- Texts that begin with the trace of an order, and the first line that no order has.
pub mod Lines  -- What a line of a text says at a place of all orders.
pub mod Explored  -- What a search through the orders that go on from a trace says, and what is written of it.
pub mod Faults  -- The faults of such a search.
