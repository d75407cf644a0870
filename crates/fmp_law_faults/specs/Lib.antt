pub mod Words  -- Words of a question, by those that stand before them.
pub mod QuestionFaults  -- What is wrong with a question, apart from how it is read.
pub mod LastingFaults  -- What is wrong with a question of what stays for ever, apart from how it is read.
pub mod StatementFaults  -- What is wrong with a statement of a configuration, apart from how it is read.
pub mod Statements  -- Where a token of a configuration stands, by the tokens before it.
pub mod DirectiveFaults  -- What is wrong with a directive of a configuration, apart from how it is read.
pub mod EndFaults  -- What is wrong with the end of a configuration whose tokens have no fault, apart from how it is read.
