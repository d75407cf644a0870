pub mod Printed  -- What lines tell at the front of a text.
pub mod Parts  -- The parts of orders, and the records that fit their names.
pub mod Further  -- Whether a text goes on by one more line.
pub mod Furthest  -- No order that a text begins with is longer, where the text goes no further.
pub mod Following  -- How far a text was followed.
pub mod Found  -- What is found of all orders that go on from one, and told.
