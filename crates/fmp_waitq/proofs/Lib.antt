pub mod Waiters  -- Waiters against tasks and their ranks.
