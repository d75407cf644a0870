pub mod Rows  -- Rows of words that are made of shorter ones.
pub mod Grammar  -- The grammar of questions, apart from how they are read: which texts ask which question.
pub mod ForEver  -- The grammar of questions of what stays for ever, apart from how they are read.
