pub mod Explored  -- What a search through all orders says, and what is written of it.
pub mod Faults  -- The faults of a run through all orders.
pub mod Asked  -- What a search is given that is asked a question over a configuration and scripts.
pub mod Searched  -- What was searched, as contracts see it.
pub mod Gone  -- How far a search through all orders went.
pub mod Came  -- How many steps of a question come, where no order shows all of them.
pub mod Made  -- Which calls of the scripts are made in orders.
pub mod Left  -- How many places of a search are left where one thing is not looked at.
