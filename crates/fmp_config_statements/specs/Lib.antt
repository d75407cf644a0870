pub mod Words  -- Words: what is kept of a token.
pub mod Faults  -- Faults, and how their kinds are printed.
pub mod Folds  -- One after the other, up to the first fault.
pub mod Attributes  -- The attributes of objects.
pub mod Numbers  -- Numerals.
pub mod Directives  -- Directives: lines that begin with `#`.
pub mod Parts  -- The parts of statements, token by token.
pub mod Pieces  -- The words of a statement.
pub mod Table  -- The table of the statements: words, parts, attributes and ranges.
pub mod Forms  -- A statement whose tokens are being read.
pub mod Named  -- The names of a statement: there, or still to come.
pub mod Outcomes  -- What a step of the reading returns, beside what the definitions give.
pub mod Steps  -- What each byte of a text does, by what stands before it and what follows it.
pub mod Lexing  -- The tokens of a text, with their lines, byte by byte.
