pub mod Joined  -- Lists one after the other, told apart by their lengths.
pub mod Written  -- Lists that become the values of numbers, one after the other.
pub mod HandledLaws  -- The numbers of tasks and handlers: each kernel has one list of them, which is that of no other.
pub mod ObjectsLaws  -- The numbers of objects: each kernel has one list of them, which is that of no other.
pub mod RestLaws  -- The numbers of spin locks, processors and ready queues: each kernel has one list of them, which is that of no other.
pub mod Packing  -- The numbers of the parts of kernels: each kernel has one pair of them, which among those of one shape is that of no other.
pub mod Unpacking  -- A kernel becomes as that was of which the numbers are given.
pub mod Laws  -- The numbers of kernels of one configuration: each has one pair of them, which is that of no other.
