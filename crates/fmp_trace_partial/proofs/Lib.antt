pub mod RunnersReported  -- Where a line writes its runner, and where it leaves it out.
pub mod ToldCodes  -- What a line tells of the codes of a record, and how much of them it writes.
pub mod FilledLoops  -- Going over the words of a line, and over the releases of a record, as a loop does.
pub mod FilledWords  -- What is put into the words of a line, and what they leave out.
pub mod FilledLines  -- What is put into a line, and what it leaves out, where an answer follows a plain text.
pub mod KeptWords  -- The words of a line from its answer on, and their bytes.
pub mod GuessedParts  -- What is kept of a printed line is guessed right.
pub mod PrintedParts  -- What is kept of a printed line is made of printed bytes.
pub mod SaidTexts  -- A text is read exactly where it partly prints records that fit, and else its first fault is told.
pub mod WholeLines  -- A line of which nothing is left out is a line of a trace.
