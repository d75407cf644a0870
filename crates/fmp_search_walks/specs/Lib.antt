pub mod Left  -- How many places of a search are left where one thing is not looked at.
pub mod Metered  -- Places of all orders with the number that each state has.
