-- The places of one who takes lines one after the other, and what they say of the orders.
use Rattle.std.specs.Prelude.{◌≡◌, ℕ, zero, suc, ◌+◌, ◌-◌, ◌<◌, ◌==◌, ltb, leb, Bool, true, false, ◌&&◌, ◌||◌, not, Option, None, Some, List, [], ◌∷◌, ◌++◌}
use Rattle.std.specs.Prelude.{length, slice_get, if◌then◌else◌}
use Rattle.std.specs.Option.{option_map, option_and_then}
use Rattle.fmp_search.specs.Runs.{run}
use Rattle.fmp_search.specs.Answers.{NoneEver}
use Rattle.fmp_search.specs.Meeting.{IsFull}
use Rattle.fmp_search_lines.specs.Orders.{has, most, numbers_from, AreWithin, FewOpen, IsBeginning, IsRight}

-- the lines before the top were taken, but for those that are pending, and this is the state after them
pub record Place (S : Type 0) : Type 0 where
  pub top : ℕ
  pub pending : List ℕ
  pub state : S

abbrev pub origin : {S : Type 0} → S → Place S
origin s = record { top = 0; pending = []; state = s }

-- ---- steps

-- whether line j may come before all of these
unfoldable pub may_pass : (ℕ → ℕ) → ℕ → List ℕ → Bool
may_pass last j [] = true
may_pass last j (i ∷ is) = leb j (last i) && may_pass last j is

unfoldable pub without : ℕ → List ℕ → List ℕ
without j [] = []
without j (i ∷ is) = if i == j then without j is else (i ∷ without j is)

-- whether so many lines may be left pending, and the next be taken
abbrev pub may_leave : (ℕ → ℕ) → ℕ → ℕ → List ℕ → ℕ → Bool
may_leave last count top pending k =
    ltb (top + k) count && (may_pass last (top + k) (pending ++ numbers_from top k) && leb (length pending + k) most)

-- the line that a step takes, if it may be taken: step s below 16 takes the pending line of this number, and step 16 + k leaves k lines pending
abbrev pub line_of : (ℕ → ℕ) → ℕ → ℕ → List ℕ → ℕ → Option ℕ
line_of last count top pending s =
    if ltb s most then slice_get pending s else (if may_leave last count top pending (s - most) then Some (top + (s - most)) else None)

-- the top and the pending lines after the step that takes line j
abbrev pub top_after : ℕ → ℕ → ℕ
top_after top s = if ltb s most then top else (top + (s - most) + 1)

abbrev pub pending_after : ℕ → List ℕ → ℕ → ℕ → List ℕ
pending_after top pending j s = if ltb s most then without j pending else (pending ++ numbers_from top (s - most))

module _ {S : Type 0} (play : S → ℕ → Option S) (last : ℕ → ℕ) (count : ℕ) where
  -- a line is taken, where its event gives what it says
  abbrev pub moved : S → ℕ → ℕ → List ℕ → Option (Place S)
  moved s j top pending = option_map (λ t. record { top = top; pending = pending; state = t }) (play s j)

  abbrev pub take_pending : Place S → Option ℕ → Option (Place S)
  take_pending q None = None
  take_pending q (Some j) = moved q.state j q.top (without j q.pending)

  -- so many lines are left pending, and the next is taken
  abbrev pub take_new : Place S → ℕ → Option (Place S)
  take_new q k =
      if may_leave last count q.top q.pending k then moved q.state (q.top + k) (q.top + k + 1) (q.pending ++ numbers_from q.top k) else None

  -- step s below 16 takes the pending line of this number, and step 16 + k leaves k lines pending
  unfoldable pub after : Place S → ℕ → Option (Place S)
  after q s = if ltb s most then take_pending q (slice_get q.pending s) else take_new q (s - most)

-- a step takes its line, if it may be taken
abbrev pub StepsAre : {S : Type 0} → (S → ℕ → Option S) → (ℕ → ℕ) → ℕ → Type 0
StepsAre {S} play last count = (q : Place S) (s : ℕ) →
    after play last count q s ≡
    option_and_then (λ j. moved play last count q.state j (top_after q.top s) (pending_after q.top q.pending j s)) (line_of last count q.top q.pending s)

-- ---- what the places say of the orders

-- a line, if there is one, and then others
abbrev pub line_and : Option ℕ → (ℕ → List ℕ) → List ℕ
line_and None others = []
line_and (Some j) others = j ∷ others j

-- the lines that steps take, one after the other, where so far all lines before the top were taken, but for those that are pending
unfoldable pub lines_from : (ℕ → ℕ) → ℕ → ℕ → List ℕ → List ℕ → List ℕ
lines_from last count top pending [] = []
lines_from last count top pending (s ∷ ss) =
    line_and (line_of last count top pending s) (λ j. lines_from last count (top_after top s) (pending_after top pending j s) ss)

abbrev pub lines_of : (ℕ → ℕ) → ℕ → List ℕ → List ℕ
lines_of last count steps = lines_from last count 0 [] steps

-- these lines were taken within the bounds, one after the other, each where its event gave what it says, the place has the state after them, and
-- all lines before its top are among them but for those that are pending
pub record IsTaken {S : Type 0} (play : S → ℕ → Option S) (last : ℕ → ℕ) (count : ℕ) (s : S) (order : List ℕ) (r : Place S) : Type 0 where
  pub within : AreWithin last count [] order
  pub right : run play s order ≡ Some r.state
  pub all : (i : ℕ) → i < r.top → has r.pending i ≡ false → has order i ≡ true
  pub no_more : (i : ℕ) → has order i ≡ true → (i < r.top) × (has r.pending i ≡ false)

-- each run leads to the place of its lines, and to each order within the bounds in which every line is right there is a run
pub record PlacesSay {S : Type 0} (play : S → ℕ → Option S) (last : ℕ → ℕ) (count : ℕ) (s : S) : Type 0 where
  pub sound : (steps : List ℕ) (r : Place S) → run (after play last count) (origin s) steps ≡ Some r →
      IsTaken play last count s (lines_of last count steps) r
  pub complete : FewOpen last count → (order : List ℕ) (t : S) → AreWithin last count [] order → run play s order ≡ Some t →
      (steps : List ℕ) × (r : Place S) × (run (after play last count) (origin s) steps ≡ Some r) × (r.state ≡ t) ×
      ((i : ℕ) → has order i ≡ true → (i < r.top) × (has r.pending i ≡ false))

-- orders of right lines lead to so many places besides the first, no two of them the same, and to one more
abbrev pub HasMorePlaces : {S : Type 0} → (S → ℕ → Option S) → (ℕ → ℕ) → ℕ → S → ℕ → Type 0
HasMorePlaces play last count s room = IsFull (after play last count) (origin s) (count + 1) room

-- ---- verdicts

-- whether a line was taken at a place
abbrev pub is_gone : {S : Type 0} → Place S → ℕ → Bool
is_gone q i = ltb i q.top && not (has q.pending i)

-- whether all lines before the goal are that have to be
unfoldable pub is_wanted : {S : Type 0} → (ℕ → Bool) → ℕ → Place S → Bool
is_wanted must zero q = true
is_wanted must (suc goal) q = (not (must goal) || is_gone q goal) && is_wanted must goal q

-- what an answer of the search for such a place says of the orders
pub record VerdictsSay {S : Type 0} (play : S → ℕ → Option S) (last : ℕ → ℕ) (count : ℕ) (must : ℕ → Bool) (goal : ℕ) (s : S) : Type 0 where
  pub found : (steps : List ℕ) (r : Place S) → run (after play last count) (origin s) steps ≡ Some r → is_wanted must goal r ≡ true →
      IsRight play last count must goal s (lines_of last count steps)
  pub never : FewOpen last count → NoneEver (after play last count) (is_wanted must goal) (origin s) → IsBeginning play last count must goal s → ⊥

-- whether each of these lines is at the goal or after it, or need not be taken
unfoldable pub are_late : (ℕ → Bool) → ℕ → List ℕ → Bool
are_late must goal [] = true
are_late must goal (i ∷ is) = (leb goal i || not (must i)) && are_late must goal is

-- where the last line before the goal has to be taken, a look at the top and the pending lines tells whether all are
abbrev pub IsToldByPending : {S : Type 0} → (ℕ → Bool) → ℕ → Place S → Type 0
IsToldByPending must goal q =
    ((i : ℕ) → i + 1 ≡ goal → must i ≡ true) → is_wanted must goal q ≡ (leb goal q.top && are_late must goal q.pending)
