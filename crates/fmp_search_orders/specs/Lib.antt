pub mod Orders  -- What may happen next after a history, and histories that are made of that.
pub mod Sights  -- The lines of an event: what patterns are looked for in.
pub mod Shown  -- When an order shows what a question asks.
pub mod Places  -- What a run is going on from: the places of all orders, which forget how they were come to.
pub mod Laws  -- Runs over places are these histories.
pub mod Begun  -- Orders that go on from a history, the steps of the runs that do, and what an answer over these runs says.
pub mod Lasting  -- What stays for ever: it is at the last record of an order, and at each record after it in every order that goes on from there.
pub mod Watched  -- Places of all orders with what is asked of every event from one on.
pub mod Made  -- Which calls of the scripts are made in some order.
pub mod Unknown  -- Why not all orders of so many lines are known.
