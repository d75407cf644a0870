mod Following  -- Words with one more after them.
mod Patterns  -- The pattern that words leave open, with one more word.
mod Numbers  -- The number before `times`.
mod Drafts  -- What was read of a question, by the words that were read.
mod FirstFaults  -- The first fault is that of the rows for words and for the end, where one word and the end agree with them.
mod QuestionWords  -- A word of a question is at fault exactly where the table has a fault for it.
mod QuestionWordsJudged  -- Each word of a question is judged as the table says.
mod Questions  -- The first fault of a question is that of the table.
mod Parts  -- A part of a question of what stays for ever is read as the words of another question.
mod Lasting  -- The first fault of a question of what stays for ever is that of the table.
mod Tokens  -- What tokens of a configuration make of the texts that begin with them.
mod Placed  -- A statement has the fault of its place that the table has.
mod FirstWords  -- A first word is at fault exactly where the table has a fault for it.
mod Errors  -- Why reading that went on had a fault.
mod Judged  -- A whole statement is at fault exactly where the table has a fault for its words.
mod Reached  -- What is read up to the last token of a statement.
mod ComesBefore  -- What is read of a text before a token of a statement.
mod LastWords  -- With its last token a statement has the fault of the table.
mod Viable  -- Whatever was read of a statement, something can follow.
mod Misfits  -- A token of a statement is at fault exactly where the table has a fault for it.
mod Directives  -- A token of a directive is at fault exactly where the table has a fault for it.
mod Ends  -- The end of a configuration is at fault exactly where the table has a fault for it.
