-- What a handle owns.
use Rattle.std.specs.Prelude.{None, Option, Some}
use mir.Syntax.{Ty}
use base.Fml.{Fml, feq, fex, fsep, ftrue}
use denote.RattleType.{RattleType}
use denote.RawPtr.{Ptr}
use Rattle.std_alloc.specs.Box.Ownership.{box_owns}
use Rattle.std_alloc.specs.contracts.boxed.Box as box
use Rattle.std_alloc.specs.declared.boxed.Box.{Box}
use Rattle.std_heap.specs.contracts.Global as heap
use Rattle.std_heap.specs.declared.Global.{Global}
use Rattle.std_heap.specs.contracts.GlobalAllocator.TheImpl.{ghosts}
use Rattle.fmp_session.specs.declared.session.Session.{Session}
use Rattle.fmp_session.specs.contracts.session.Session as session

-- a box with a session, as a type
abbrev pub Boxed : Type 0
Boxed = Box Session Global

abbrev pub boxed : RattleType
boxed = box.the_row session.the_row heap.the_row ghosts

-- the right to free a block that `malloc` gave
abbrev pub freeing : Ty → Ptr → Fml
freeing = ghosts.dealloc_token (record { memory = record { seal = tt } })

-- a block with the box of this session, and the right to free the block
abbrev pub owned : Ptr → Option Session → Fml
owned p None = ftrue
owned p (Some s) = fex Boxed (λ b. fsep (feq Session b.value s) (box_owns freeing boxed p b))
