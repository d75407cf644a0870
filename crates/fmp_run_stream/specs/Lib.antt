pub mod Runs  -- What a run over a configuration and events does.
pub mod Details  -- What a run writes that tells the state after each event, too, or what of it or of some things changed.
pub mod Lives  -- What a run writes that tells what of some things changed.
pub mod Streams  -- What a run that answers each event as it comes has done.
pub mod Told  -- What a run over a configuration and events writes, told by records alone: no machine is asked.
