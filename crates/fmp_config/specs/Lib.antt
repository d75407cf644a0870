pub mod Indexed  -- The table of the defined names.
pub mod Drafts  -- What was read of a configuration.
pub mod Drafted  -- What a draft holds.
pub mod Numbers  -- The numbers of a statement, and classes.
pub mod Places  -- Where a statement may stand.
pub mod Objects  -- A name that is to be new, and what the statement of an object says, or its first fault.
pub mod Judging  -- What a whole statement or directive says, or its first fault.
pub mod Limits  -- How much a configuration text may hold.
pub mod Reading  -- Reading a configuration token by token, with the first fault.
pub mod Readers  -- What a reader holds.
pub mod Faults  -- What a reader returns, beside what reading gives, and how it is told.
pub mod Sound  -- What holds of what was read, as statements and directives are read.
