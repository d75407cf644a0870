pub mod Cli  -- The command lines of the program, and what their words ask for.
pub mod Flags  -- What the words and the flags of a command line ask for.
pub mod Found  -- What clap found, by the ids of the parts.
pub mod Numbers  -- The numbers that texts write.
pub mod Parts  -- What the parts of a command line are to clap, and the command that has them.
pub mod Seeds  -- The seeds of a run that goes through many, and how they are written.
pub mod Smp  -- The command line of a run with scripts, and the numbers that it gives.
pub mod Rooms  -- For how many places a search has room.
pub mod Explore  -- The command line of a search through all orders, and what it gives.
pub mod Shrink  -- The command line of `fmpsim shrink`.
