pub mod RunChanges  -- Which change of the running task and which requests a step tells.
pub mod RunChangesRuns  -- So it is along a run.
pub mod Losses  -- Which value each call loses, and that no other event loses one.
pub mod Queues  -- The queues that are told are those of the machine, and each task stands once in a queue.
pub mod Releases  -- Which tasks each call releases is what is told.
pub mod ReleasesRuns  -- Which tasks a tick releases is what is told, and so it is of each event of a run.
pub mod Received  -- Which value each call receives from a data queue is what is told.
pub mod Records  -- The record of each event is what the records before it tell, and they tell one record.
pub mod ReportedRuns  -- Records of which each is as those before it tell are those of the machine.
pub mod Told  -- The record that is made of what those before it tell is as they tell, and so the machine's records are those that are made.
mod Worked  -- The effects that records tell, worked out by hand from the rules of the calls.
