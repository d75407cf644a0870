pub mod Found  -- What is found of all orders, and told.
mod Come  -- How many steps of a question come, where no order shows all of them.
pub mod Called  -- Which calls of the scripts are made in orders.
