pub mod Alike  -- What a place says of events and lines is what its history says.
pub mod Longer  -- A history that is one event longer, and the place to which it leads.
pub mod Runs  -- Runs over places and orders of events.
pub mod Answered  -- What an answer over places says of all orders.
pub mod Bits  -- The events of an order are within the bits of their kinds, where the scripts are.
pub mod Begun  -- What an answer over runs that begin with an order's steps says of the orders that go on from it.
pub mod Staying  -- What stays for ever, over places and over orders.
pub mod Watching  -- What is asked of every event from one on, over places and over orders.
pub mod Made  -- Which calls are made, over places and over orders.
