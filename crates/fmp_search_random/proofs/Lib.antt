pub mod Following  -- How far an order was followed, and where it ends.
