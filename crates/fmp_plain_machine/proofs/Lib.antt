pub mod FirstNumbers  -- What comes first on each processor, by numbers.
pub mod NoneReady  -- Where no task is ready nothing comes first.
pub mod Raised  -- A task changes that came first nowhere: it comes first where it is ready and ahead of what came first there.
pub mod SameTops  -- A task of which a change says nothing of what comes first leaves all tops as they were.
pub mod FoundBest  -- What comes first on a processor, found in one walk over the tasks.
pub mod Changed  -- Lists of which one item after the other is changed.
pub mod DataQueues  -- A look-up in all data queues, and a change of one.
pub mod Expired  -- Of the waits in order those that are over are the waits that are over, in order.
pub mod First  -- The first of a list that grows by insertion.
pub mod Least  -- The first of tasks in order is the one that leads each of them, and there is no other.
pub mod Inserted  -- Lists in order, which grow by insertion.
pub mod Lowered  -- Counts of ticks that fall one after the other.
pub mod Objects  -- Loops over the objects of a kind.
pub mod Over  -- Where no count is 0, nothing is over.
