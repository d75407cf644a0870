pub mod Columns  -- What is told of all objects of a kind, field by field: a look-up of it, and a change of one object.
pub mod Rooms  -- When data queues have places for what is in others.
pub mod Numbered  -- Objects that become, one after the other, as those are that have given numbers among others.
