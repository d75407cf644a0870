pub mod Extent  -- How far a search went, and why it went no farther.
pub mod Judged  -- What the searches say of a question that no order shows, and what is told by it.
pub mod Limits  -- How much there can be of what facts ask for.
pub mod Lines  -- A line that is told.
pub mod Misplaced  -- Calls that are refused wherever their script makes them.
pub mod NeverSo  -- In which lines it is told why no event of any order has a pattern.
pub mod Parts  -- What a question is made of: the item that is all of it, and the patterns of a step.
pub mod Patterns  -- The words of what is asked, as a question has them.
pub mod Staying  -- What is told of something that stays for ever.
pub mod Unmade  -- Which calls of the scripts no order makes.
pub mod Unshown  -- In which lines it is told how many steps of a question come, and whether an event has a pattern.
pub mod Words  -- Words that no order of `explore` has, or only with `--spurious`.
pub mod Left  -- Without which things fewest places of a search are left, and in which line that is told.
