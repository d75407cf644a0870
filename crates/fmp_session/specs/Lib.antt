pub mod Numbers  -- Events that are told by numbers.
pub mod Refusals  -- Why something was not done, as a number.
pub mod Sessions  -- The machine of a configuration after a list of events.
