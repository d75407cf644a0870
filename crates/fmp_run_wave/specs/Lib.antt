pub mod Signals  -- What a waveform shows of a processor, a task or an object, and the names of that.
pub mod Resources  -- The kinds of objects that have a number: which it is, and how many objects there are.
pub mod Listing  -- All signals in their order, each as a declaration of a waveform or as a trace of GTKWave's save file.
pub mod Shown  -- What a waveform shows of a state: what is shown of each processor, task and object, and nothing else.
pub mod Headers  -- What stands before the values: the unit of time and the declarations of the signals.
pub mod Values  -- The values of all signals, a line for each.
pub mod Changes  -- The lines of the signals whose values an event changed, in the order of their declarations.
pub mod Waves  -- The waveform of what a machine does at events, as a Value Change Dump. An event is a unit of time.
pub mod Runs  -- What a run that draws a trace does.
pub mod Saves  -- GTKWave's save file for a configuration: how its window begins, and all signals of the configuration's waveforms.
