-- A place of one who takes lines, with the lines.
use Rattle.std.specs.Prelude.{◌≡◌, ℕ, ◌+◌, Bool, true, ◌&&◌, leb, Option, Some, List}
use Rattle.std.specs.Option.{option_map}
use Rattle.fmp_search.specs.Answers.{NoneEver}
use Rattle.fmp_search.specs.Runs.{run}
use Rattle.fmp_search_lines.specs.Lasts.{last_at, must_at}
use Rattle.fmp_search_lines.specs.Orders.{FewOpen, IsBeginning, IsRight}
use Rattle.fmp_search_lines.specs.Places.{Place, after, are_late, line_of, lines_of, origin}

pub record Held (S : Type 0) : Type 0 where
  pub lasts : List ℕ
  pub musts : List Bool
  pub count : ℕ
  pub goal : ℕ
  pub place : Place S

abbrev pub line_at : {S : Type 0} → Held S → ℕ → Option ℕ
line_at h s = line_of (last_at h.lasts) h.count h.place.top h.place.pending s

abbrev pub with_place : {S : Type 0} → Held S → Place S → Held S
with_place h p = record { lasts = h.lasts; musts = h.musts; count = h.count; goal = h.goal; place = p }

-- the place to which a step leads
abbrev pub next : {S : Type 0} → (S → ℕ → Option S) → Held S → ℕ → Option (Held S)
next plays h s = option_map (with_place h) (after plays (last_at h.lasts) h.count h.place s)

abbrev pub held : {S : Type 0} → List ℕ → List Bool → ℕ → ℕ → ℕ → List ℕ → S → Held S
held lasts musts count goal top pending s =
    record { lasts = lasts; musts = musts; count = count; goal = goal; place = record { top = top; pending = pending; state = s } }

-- whether all lines before the goal were taken that have to be, as the top and the pending lines tell it
abbrev pub is_reached : {S : Type 0} → Held S → Bool
is_reached h = leb h.goal h.place.top && are_late (must_at h.musts) h.goal h.place.pending

-- what the search for such a place says of the orders of these lines, where the last line before the goal has to be taken
pub record TakersSay {S : Type 0} (plays : S → ℕ → Option S) (h : Held S) (s : S) : Type 0 where
  pub found : (steps : List ℕ) (r : Held S) → run (next plays) (with_place h (origin s)) steps ≡ Some r → is_reached r ≡ true →
      IsRight plays (last_at h.lasts) h.count (must_at h.musts) h.goal s (lines_of (last_at h.lasts) h.count steps)
  pub never : FewOpen (last_at h.lasts) h.count → NoneEver (next plays) is_reached (with_place h (origin s)) →
      IsBeginning plays (last_at h.lasts) h.count (must_at h.musts) h.goal s → ⊥

abbrev pub AllTakersSay : {S : Type 0} → (S → ℕ → Option S) → Type 0
AllTakersSay {S} plays = (h : Held S) (s : S) → ((i : ℕ) → i + 1 ≡ h.goal → must_at h.musts i ≡ true) → TakersSay plays h s
