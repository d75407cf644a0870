pub mod Asked  -- What requests ask for.
pub mod Texts  -- What a run sees of its texts.
pub mod Calls  -- What a run promises that answers events.
pub mod Traces  -- What runs promise that judge traces, or have a configuration alone.
pub mod Orders  -- What searches promise.
pub mod Scripts  -- What runs of processors that follow scripts promise, and one that leaves events out.
pub mod Replies  -- What is replied to a question about scripts.
pub mod Partly  -- What is made of a partial trace of which something is asked.
