pub mod Parts  -- The parts of a text, apart from how they are read: how each is written, and where it may stand.
pub mod Tokens  -- The grammar of tokens, apart from how they are read: which texts are spelled by which tokens.
pub mod Cuts  -- Texts that are cut before a token.
pub mod Elements  -- Directives, apart from how they are read
pub mod Phrases  -- The parts of statements, apart from how they are read: which tokens may stand in them.
pub mod Clauses  -- What a text says, one after the other, apart from how it is read.
pub mod Stages  -- How far a text has come, the names that stand for numbers, and the numbers for which words stand.
pub mod Meaning  -- What statements say: how a configuration grows by them, and which may follow it.
pub mod Grammar  -- The grammar of configuration texts, apart from how they are read: which texts say which configuration.
pub mod FirstFaults  -- At which token the first fault of a configuration text is found: what stands before it has none, and which texts have the same fault.
