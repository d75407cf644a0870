pub mod Counted  -- The texts of the numbers 1 to n, and one more.
pub mod Alike  -- What is shown of one more, in a list that grows or in the place of what was shown before.
pub mod Drawn  -- A drawing that saw all events is the waveform of their machine.
pub mod JudgedTexts  -- What was drawn of a trace that was read and judged is what a run draws of its two texts.
pub mod Unchanged  -- Of what is the same no lines are told.
pub mod Equal  -- What is the same where its numbers are.
pub mod Left  -- What an event left is shown as before it.
