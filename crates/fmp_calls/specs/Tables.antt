-- believed: see docs/PROOF.md, "What has to be believed"
-- The rows of the table of calls, family by family.
pub mod TaskTable
pub mod SyncTable
pub mod BufferTable
pub mod TimeTable
pub mod SystemTable
pub mod SpinTable
