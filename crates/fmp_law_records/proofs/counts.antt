pub mod Tasks  -- The task that an argument names, and laws on it and on all others.
pub mod Sparing  -- What an event leaves of what is counted for a task and for handlers.
pub mod SparesCalls  -- Which calls leave what is counted for a task and for handlers.
pub mod Lives  -- What each step does to the lives and the queued activations of a task.
pub mod Booted  -- At boot a task is active that starts then, and nothing is queued.
pub mod Ready  -- The states of a run in which a law of one step can be taken.
pub mod WaitsRuns  -- A wait ends by time at its last tick.
pub mod Wakeups  -- What each step does to the queued wakeups of a task: what is taken of them was queued.
pub mod QueuedRuns  -- The activations and the wakeups of a task along a run.
pub mod LastTicks  -- The last tick of an alarm comes where its records say.
pub mod Worked  -- The counts of runs, computed: activations, wakeups and the time of waits.
pub mod Refused  -- What the laws refuse: records with which counts do not agree.
pub mod HandlersCalls  -- What each call leaves of the time of alarms and cyclic handlers.
pub mod HandlersTick  -- What a tick leaves of the time of alarms and cyclic handlers, and which of them it makes due.
pub mod HandlersRuns  -- What is left of alarms and cyclic handlers along a run, and which of them become due.
