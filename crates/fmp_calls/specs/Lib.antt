pub mod Entries  -- What stands in the table of the calls: how a call is written, and what it is made of.
pub mod Tables  -- The rows of the table of calls, family by family.
pub mod Table  -- The table of the service calls, by families.
pub mod Arguments  -- Which arguments are within the bits of their kinds.
pub mod Known  -- Calls with how they are written, as the table has them for readers that guess.
