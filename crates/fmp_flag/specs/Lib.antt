pub mod Eventflags  -- An eventflag with the tasks that wait for it.
