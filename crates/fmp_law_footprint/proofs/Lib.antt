pub mod Moves  -- One change after another, and the changes of one cell.
pub mod Words  -- What the words change by which calls change tasks.
pub mod Others  -- What changes besides the tasks: processors, locks, objects and handlers.
pub mod Calls  -- Each call changes at most the cells that cover it.
pub mod Ticks  -- A tick changes at most the cells that cover it.
pub mod Steps  -- The end of an event, and events: each changes at most the cells that cover it.
pub mod Numbered  -- The numbers of the model: each word changes only those of its task, and the next one.
pub mod Tops  -- The first task of a processor in the model: it is the same where no task that is ready there changes.
pub mod Coarse  -- The cells of the kinds that a call or a tick may change cover it.
pub mod OtherKinds  -- A call and a tick leave the cells of kinds that they do not change.
pub mod Framed  -- How a record frames what its event did.
pub mod Does  -- What calls and ticks do to tasks, by what they answer.
pub mod FramedSteps  -- What each event leaves.
