pub mod Suspensions  -- What records say of the suspension of a task.
pub mod Priorities  -- What records say of the priority of a task.
pub mod Flags  -- What records say of the locked and the disabled state of a processor.
pub mod Locks  -- What records say of who holds a spin lock.
pub mod Patterns  -- What records say of the pattern of an eventflag.
pub mod Handlers  -- Where alarms and cyclic handlers are assigned, and what is left of their time, told by records alone.
pub mod Due  -- Which handlers are due on a processor, told by records alone.
pub mod Requests  -- Whether a request is pending on a processor, told by records alone.
pub mod Quiet  -- Events that change nothing, by their records alone.
pub mod Served  -- In which order waiting tasks are served, told by records alone.
pub mod Lives  -- What records say of the life of a task: whether it is active, which activation is queued, and where it is assigned.
pub mod Accepting  -- Which calls on a task are due, by what the records before them say of this task.
pub mod Line  -- The order in which tasks were put last, and which calls on a task put it last.
pub mod Standing  -- Which tasks are ready on each processor and in which order, told by records alone, and so who is the top.
pub mod Tops  -- To which processors a record sends a request, and who begins to run, by the tops that the records tell.
pub mod Counts  -- What is queued for a task, and when the time of waits and handlers is over.
pub mod Refusals  -- Why a call was refused, and every other answer.
pub mod Effects  -- What else a record tells of its event.
