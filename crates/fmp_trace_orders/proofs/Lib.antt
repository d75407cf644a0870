pub mod ReadLines  -- What is known of what a line says.
pub mod Keys  -- Keys of machines that play lines: each is the key of one machine, which has no other.
pub mod Matching  -- The machine with lists plays lines as that with numbers does.
pub mod Answers  -- What is known of the orders for one machine is known for another that finds the same lines right.
pub mod SaidLines  -- What the lines of a text say, one by one.
pub mod Reading  -- Reading the lines of a text one after the other, as the loop does.
pub mod Numbers  -- What a search of the kernel's orders says of the machine with numbers.
