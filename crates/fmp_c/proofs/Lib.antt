pub mod Answers  -- Which answer a number is.
pub mod Steps  -- What C is told of one event more, and of a text with a fault.
pub mod Words  -- What a handle and a box are in the machine.
