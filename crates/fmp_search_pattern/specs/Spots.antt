-- Where in the line of a record a word stands, and which words may stand one after the other. docs/FORMATS.md has the form of this line.
use Rattle.std.specs.Prelude.{ℕ, Bool, true, false, ◌==◌, List, [], ◌∷◌, Option, None, Some, if◌then◌else◌}
use Rattle.std.specs.List.{list_any}
use Rattle.fmp_search_pattern.specs.declared.spot.Spot.{Spot}
use Rattle.fmp_search_pattern.specs.declared.spot.Spot.TheVariants.{Front, Anything, Number, Whole, Processor, Nobody, Task, Handler, Object, Fact, Timer, Return, Begun}
use Rattle.fmp_search_pattern.specs.declared.spot.Spot.TheVariants.{BegunSome, BegunReported, Called, CalledSome, CalledReported, Argument, LastArgument, Taken, Accepted, Report}
use Rattle.fmp_search_pattern.specs.declared.spot.Spot.TheVariants.{Answer, Release, Lost, Run, RunIdle, Requests}

-- a number of its own for each
abbrev pub number : Spot → ℕ
number Front = 0
number Anything = 1
number Number = 2
number Whole = 3
number Processor = 4
number Nobody = 5
number Task = 6
number Handler = 7
number Object = 8
number Fact = 9
number Timer = 10
number Return = 11
number Begun = 12
number BegunSome = 13
number BegunReported = 14
number Called = 15
number CalledSome = 16
number CalledReported = 17
number Argument = 18
number LastArgument = 19
number Taken = 20
number Accepted = 21
number Report = 22
number Answer = 23
number Release = 24
number Lost = 25
number Run = 26
number RunIdle = 27
number Requests = 28

-- a pattern may end with it: not with a number, nor with the name of an object that is a word of no record
abbrev pub may_end : Spot → Bool
may_end Number = false
may_end Object = false
may_end other = true

-- what may stand right before a word of a record: where in its line there is nothing between the two, or nothing that has to be there. `Front` may
-- stand before each, and `Anything` before each that a record may have
abbrev pub before : Spot → List Spot
before Nobody = Processor ∷ []
before Task = Processor ∷ []
before Handler = Processor ∷ []
before Timer = Nobody ∷ Task ∷ Handler ∷ []
before Return = Nobody ∷ Task ∷ Handler ∷ []
before Begun = Nobody ∷ Task ∷ Handler ∷ []
before BegunReported = Nobody ∷ Task ∷ Handler ∷ []
before Called = Nobody ∷ Task ∷ Handler ∷ []
before CalledReported = Nobody ∷ Task ∷ Handler ∷ []
before Argument = Begun ∷ BegunSome ∷ BegunReported ∷ []
before LastArgument = Begun ∷ BegunSome ∷ BegunReported ∷ []
before Taken = Timer ∷ []
before Accepted = Return ∷ Called ∷ CalledSome ∷ []
before Report = CalledSome ∷ CalledReported ∷ []
before Answer = Return ∷ Called ∷ CalledSome ∷ CalledReported ∷ []
before Release = Taken ∷ Accepted ∷ Report ∷ Answer ∷ Release ∷ []
before Lost = Taken ∷ Accepted ∷ Report ∷ Answer ∷ Release ∷ []
before Run = Processor ∷ Taken ∷ Accepted ∷ Report ∷ Answer ∷ Release ∷ Lost ∷ []
before RunIdle = Taken ∷ Accepted ∷ Report ∷ Answer ∷ Release ∷ Lost ∷ []
before Requests = Taken ∷ Accepted ∷ Report ∷ Answer ∷ Release ∷ Lost ∷ Run ∷ RunIdle ∷ []
before other = []

-- a word may stand after another
unfoldable pub may_follow : Spot → Spot → Bool
may_follow Front next = true
may_follow Number next = false
may_follow Whole next = false
may_follow Anything Number = false
may_follow Anything Object = false
may_follow place Anything = true
may_follow place Fact = true
may_follow Anything next = true
may_follow place next = list_any (λ s. number s == number place) (before next)

-- where the words so far end: an argument belongs to the call that begins before it, what has a star to the object that stands before it, and who
-- runs to the processor, of which it is a fact
abbrev pub ended_by : Spot → Spot → Spot
ended_by Begun Argument = Begun
ended_by BegunReported Argument = BegunReported
ended_by place Argument = BegunSome
ended_by Begun LastArgument = Called
ended_by BegunReported LastArgument = CalledReported
ended_by place LastArgument = CalledSome
ended_by Object Anything = Object
ended_by Processor Run = Fact
ended_by place next = next

-- the words so far, with one more
abbrev pub stepped : Spot → Option Spot → Option Spot
stepped place None = None
stepped place (Some next) = if may_follow place next then Some (ended_by place next) else None
