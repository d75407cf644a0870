pub mod Marks  -- What the words of a line leave out of codes and answers, and the line with something put in there.
pub mod Partial  -- Lines that leave out parts of what is printed of a record.
pub mod Partly  -- Which texts partly print which records, and the first fault of a text that partly prints none.
pub mod Said  -- What a line of a partial trace is guessed to say.
pub mod Saying  -- Reading a partial trace line by line: each line is guessed, and printed again.
