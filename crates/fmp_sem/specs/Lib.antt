pub mod Semaphores  -- A semaphore with the tasks that wait for it.
