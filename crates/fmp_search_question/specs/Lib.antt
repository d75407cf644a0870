pub mod WordByWord  -- Reading word by word: the first fault with its place, or what the words make of what was read.
pub mod Places  -- Where a pattern ends with a word more.
pub mod Reading  -- How a question is read: word by word.
pub mod Waiting  -- That tasks wait for ever.
pub mod Lasting  -- How a question of what stays for ever is read.
pub mod Resolved  -- A question once its patterns are resolved.
pub mod Grammar  -- The grammar of questions, apart from how they are read.
