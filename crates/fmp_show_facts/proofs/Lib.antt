mod Due  -- One processor more.
mod Some  -- One more of what is looked through.
mod Asked  -- What two words ask.
mod Only  -- Names are distinct, so no other object has the name of one.
