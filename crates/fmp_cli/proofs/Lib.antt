pub mod Chains  -- What an argument of a chain gives.
pub mod Given  -- A parse of the command line gives both numbers within their limits.
pub mod Read  -- What the getters of the matches give, by the ids.
pub mod Table  -- The command that has the parts of a command line.
