pub mod Listings  -- Lists that have the tasks that qualify, in an order.
pub mod Numbering  -- Records and numbers after a change of one task.
pub mod Ready  -- The ready queues stay those of the tasks.
pub mod Places  -- Queues of objects: which wait stands where, and what a change of one queue leaves.
pub mod OneQueue  -- One queue: a waiter leaves, and joins.
pub mod Waits  -- The queues of the objects and the timed waits stay those of the tasks.
pub mod Words  -- The words by which calls change tasks, on lists and on numbers.
pub mod Tops  -- The lists tell what the numbers tell.
pub mod Matching  -- What calls do, on lists and on numbers.
pub mod Callers  -- Who calls, and what arguments name.
pub mod ObjectValues  -- Values of objects, on which no order depends: the count of a semaphore, the pattern of an eventflag, the blocks of a pool.
pub mod Waiting  -- What a call asks of the queue of an object, and the caller that waits in it.
pub mod Releases  -- Several tasks are released in one event.
pub mod TaskCalls  -- The calls on tasks do the same on lists and on numbers.
pub mod SyncCalls  -- The calls on semaphores and eventflags do the same on lists and on numbers.
pub mod BufferCalls  -- The calls on data queues and pools do the same on lists and on numbers. What a data queue contains is in no order of tasks.
pub mod TimeCalls  -- The calls on cyclic handlers and alarms do the same on lists and on numbers. They leave the order of tasks as it is.
pub mod SystemCalls  -- The calls on the processors and on the state of dispatching do the same on lists and on numbers.
pub mod SpinCalls  -- The calls on spin locks, and the return of a handler, do the same on lists and on numbers.
pub mod Ticks  -- A tick lowers counts and serves those at 0, on lists as on numbers.
pub mod Steps  -- One event does the same on lists and on numbers.
pub mod Boots  -- The lists at boot stand for the state at boot.
pub mod SafeLists  -- A state with lists is safe exactly where the state is for which it stands.
pub mod Parts  -- The parts of the headline, of one state.
pub mod Along  -- The state with queues stands for that with numbers along a run.
mod Listed  -- The kernel's lists: each word changes only those that it names.
mod Standing  -- Where lists are those of the tasks, cells that are closed are enough.
mod ListsRead  -- What the kernel's lists tell is told by one cell, and each word leaves cells the same that were the same.
mod Agreeing  -- States that agree, and words that keep them so.
mod AlikeCalls  -- Calls on semaphores and eventflags that are made in states which agree.
mod AlikeTasks  -- Calls on tasks that are made in states which agree.
mod AlikeOthers  -- Calls on data queues, pools, handlers, processors and spin locks that are made in states which agree.
mod AlikeSteps  -- The end of an event in states that agree.
mod AlikeTicks  -- Ticks in states that agree.
mod Commuting  -- Events commute for which cells are enough that have none in common.
mod Abouts  -- The cells of what an event is about are enough.
