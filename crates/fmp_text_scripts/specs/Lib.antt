pub mod Ways  -- Ways: where a script goes on after a call, by the answer to it.
pub mod Scripts  -- Scripts: what the tasks and handlers of a function ask, one call after the other, and where they go on by the answers.
pub mod Linking  -- Labels, and the jumps to them by their names.
pub mod Lines  -- What a line of a script text says.
pub mod Places  -- Reading a line of a script text from left to right, up to the first byte that does not fit.
pub mod Refusals  -- Where a line of a script text that is refused is at fault, and what is wanted there.
pub mod Texts  -- Reading a script text, up to its first fault.
pub mod Sources  -- Sources: what the lines of a script say, in which labels have names, and which script that is.
pub mod ScriptGrammar  -- The grammar of script texts, apart from how they are read: which texts spell which scripts.
pub mod ScriptFaults  -- What is wrong with a line of a script text, apart from how it is read: rows of faults, each where none above it is there.
pub mod Views  -- What contracts see of scripts and of a reader.
pub mod FirstFaults  -- Where the first fault of a script text stands, and which texts have the same fault.
