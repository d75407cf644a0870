pub mod RunChanges  -- The change of the running task and the requests that a record tells, by the records before it.
pub mod Losses  -- Which value a record tells as lost, by the records before it.
pub mod Records  -- What the records before an event tell of its record: all of it. And runs that are told so, each record by those before it.
pub mod Told  -- The records of events as a function of these alone: each is made of what the records before it tell.
pub mod Received  -- Which value a call receives from a data queue, by the records before it.
pub mod Releases  -- Which tasks a record releases, with which codes and values, by the records before it.
