pub mod Queues  -- The way of lists to keep what came before what: ready queues, the queues of the objects, and the timed waits.
