pub mod Callers  -- Who makes the calls from a processor, by the configuration and the records before them.
pub mod Misplaced  -- Where a call may be made, by its line and the records before it.
pub mod Meanings  -- What an argument of a call means.
pub mod Known  -- Which IDs a call may have: those of the objects of the configuration.
pub mod Arguments  -- Which arguments a call may have, by the configuration and the records before it.
pub mod Found  -- What the records before a call say of all that its errors on the state ask for.
pub mod Errors  -- The errors on the state of each call, in their order, each with what the records before the call must say where it applies.
pub mod Refusals  -- With which code a call is refused: that of the first error of its row that the records before it tell.
pub mod Outcomes  -- What a call answers that is not refused, by the configuration and the records before it.
