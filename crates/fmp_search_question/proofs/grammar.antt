mod Led  -- What words lead to, one after the other, without the places of faults.
mod Steps  -- What the words of a question lead to.
mod Patterns  -- The words of a pattern, one after the other.
mod Counts  -- The number of times that a step stands.
mod Asked  -- What is asked is read.
mod AskedSteps  -- Steps that are asked are read, and so are whole questions.
mod Closed  -- Rows of which each one is complete, and the word between stands after it.
mod Taken  -- What one word of a question does, where it is not at fault.
mod Begun  -- What was read of an item so far.
mod ReadSoFar  -- What was read of a question so far, and what one word more makes of it.
mod CountsRead  -- A number and `times` that are read are spelled.
mod Moves  -- What one word more makes of what was read.
mod ReadSteps  -- What is read is asked.
mod LastingSteps  -- What the words of a question of what stays for ever lead to.
mod LastingAsked  -- What is asked of what stays for ever is read.
mod LastingTaken  -- What one word of a question of what stays for ever does, where it is not at fault.
mod LastingRead  -- What is read of what stays for ever is asked.
