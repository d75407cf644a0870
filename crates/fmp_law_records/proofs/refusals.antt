pub mod Callers  -- Who makes the calls from a processor is whom the records tell.
pub mod Rules  -- When the machine lets each call be made.
pub mod Placed  -- A call answers E_CTX just where it is misplaced.
pub mod PlacedRuns  -- So it is along a run.
pub mod Frames  -- What no event changes: the limits, how many objects there are of each kind, and how each is configured.
pub mod Configured  -- What an argument names, in a state that has what its configuration has.
pub mod Argued  -- The tests of a row for its arguments are what the configuration says.
pub mod Judged  -- What a state has along a run of what its configuration and the records tell.
pub mod Found  -- What a state has where this is told of it: who waits, which blocks are free, and who holds a spin lock.
mod Worked  -- The errors that records tell, worked out by hand from the rules of the calls.
pub mod FirstErrors  -- The first of some errors that applies, and what a row answers whose errors are told.
pub mod Answered  -- What a call on tasks answers is what is told.
pub mod AnsweredObjects  -- What a call on objects and on the processor answers is what is told.
pub mod Answers  -- Each event answers what the records before it tell.
pub mod Refusals  -- Where an answer is what records tell, so is whether it refuses its call, and with which code.
