pub mod Drawn  -- The order that the numbers of a seed draw among all orders.
