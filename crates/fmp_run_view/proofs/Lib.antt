pub mod Left  -- What an event left has the values that it had.
pub mod Counted  -- One place, one signal or one kind more.
pub mod Ticked  -- No processor takes more ticks than there are events.
pub mod Report  -- Changes that are put in their places leave there what the model says.
pub mod Lines  -- The first of the lines that are left of a text.
pub mod SoFar  -- A page while it is made, event by event.
pub mod SoFarBeside  -- A contrast while it is made, line by line.
pub mod NoDifference  -- No line of a trace that is the machine's own differs.
pub mod Passed  -- How a run ends whose sink passed on what it held back.
pub mod JudgedTexts  -- What was shown of a trace that was read and judged is what a run shows of its two texts.
