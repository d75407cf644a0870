pub mod Numbers  -- Numbers are read of what they are written as.
pub mod Named  -- A fact is read of its own word.
mod Taking  -- One word more of a row.
