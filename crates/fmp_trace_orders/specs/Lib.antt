pub mod Playing  -- A machine that plays the lines of a partial trace, in any order.
pub mod Standing  -- What contracts see of a kernel that plays lines.
pub mod Keys  -- Keys of a machine that plays lines.
pub mod Lines  -- The lines of a text, and what is read of them.
pub mod Matching  -- What the machine plays with lists and with numbers.
