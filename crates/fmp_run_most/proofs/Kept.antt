-- What is known of bounds, and is known of those that were moved.
use Rattle.std.proofs.Common.{◌≡◌, ◌⊎◌, inl, inr, ◌∙◌, ℕ, ◌+◌, ◌*◌, ◌<◌, ◌≤◌, Bool, true, false, List, [], length, map, Some, refl, ap, sym, subst, arith}
use Rattle.std.specs.Prelude.{option_map, slice_get, slice_index}
use Rattle.std.proofs.lemmas.Bool.{cases_lt, false≢true}
use Rattle.std.proofs.lemmas.Option.{slice_get_within, slice_get-map, get_or_from_slice_get}
use Rattle.std.proofs.lemmas.List.{length-map}
use Rattle.fmp_search.specs.declared.meeting.Met.{Met}
use Rattle.fmp_search.specs.Meeting.{Meets}
use Rattle.fmp_search.specs.Runs.{run}
use Rattle.fmp_search_orders.specs.Places.{Place, after}
use Rattle.fmp_run_most.specs.declared.figure.Figure.{Figure}
use Rattle.fmp_run_most.specs.Figures.{is_beyond, value}
use Rattle.fmp_search_walks.specs.Metered.{metered_after, metered_number}
use Rattle.fmp_run_most.specs.Gauged.{gauged, first_beyond}
use Rattle.fmp_run_most.specs.Raised.{AreRaised, IsMarked}
use Rattle.fmp_run_most.proofs.Bounds.{loose, not_self}
use Rattle.fmp_run_most.proofs.Passing.{First, first_of, told_is, value_few}
use Rattle.fmp_run_most.proofs.Running.{Last, last_of, met_of, report_ever, report_of}

none_more : (n : ℕ) → 0 + n ≡ n
none_more n = omega arith

module _ (q : Place) (turns : ℕ) (figures : List Figure) where
  abbrev pub past : Place → Figure → ℕ → Bool
  past r f n = is_beyond f.measure n (value r.machine f)

  -- a number is that of a figure at the end of some run of at most so many steps
  pub record Reached (f : Figure) (n : ℕ) : Type 0 where
    pub steps : List ℕ
    pub place : Place
    pub short : length steps ≤ turns
    pub leads : run after q steps ≡ Some place
    pub there : value place.machine f ≡ n

  -- and at the end of none it is beyond that number
  abbrev pub NoneWithin : Figure → ℕ → Type 0
  NoneWithin f n = (steps : List ℕ) (r : Place) → length steps ≤ turns → run after q steps ≡ Some r → past r f n ≡ false

  abbrev pub NoneEver : Figure → ℕ → Type 0
  NoneEver f n = (steps : List ℕ) (r : Place) → run after q steps ≡ Some r → past r f n ≡ false

  -- each bound is reached, and none at boot is beyond; and of the first figures it is so at the ends of all runs
  pub record Kept (bounds : List ℕ) (first : ℕ) (whole : Bool) : Type 0 where
    pub as_many : length bounds ≡ length figures
    pub reached : (k : ℕ) (f : Figure) → slice_get figures k ≡ Some f → Reached f (slice_index bounds k)
    pub begin : (k : ℕ) (f : Figure) → slice_get figures k ≡ Some f → past q f (slice_index bounds k) ≡ false
    pub within : (k : ℕ) (f : Figure) → k < first → slice_get figures k ≡ Some f → NoneWithin f (slice_index bounds k)
    pub ever : whole ≡ true → (k : ℕ) (f : Figure) → k < first → slice_get figures k ≡ Some f → NoneEver f (slice_index bounds k)

  -- ---- at boot

  boot_at : (bounds : List ℕ) → bounds ≡ map (λ f. value q.machine f) figures → (k : ℕ) (f : Figure) → slice_get figures k ≡ Some f → slice_index bounds k ≡ value q.machine f
  boot_at bounds is k f at =
      get_or_from_slice_get bounds k (value q.machine f) 0 (ap (λ (xs : List ℕ). slice_get xs k) is ∙ (slice_get-map (λ (x : Figure). value q.machine x) figures k ∙ ap (λ o. option_map (λ (x : Figure). value q.machine x) o) at))

  pub kept_boot : (bounds : List ℕ) → bounds ≡ map (λ f. value q.machine f) figures → Kept bounds 0 true
  kept_boot bounds is = record {
    as_many = ap (λ (xs : List ℕ). length xs) is ∙ length-map figures (λ (f : Figure). value q.machine f);
    reached = λ k f at. record { steps = []; place = q; short = omega arith; leads = refl; there = sym (boot_at bounds is k f at) };
    begin = λ k f at. subst (λ n. is_beyond f.measure n (value q.machine f) ≡ false) (sym (boot_at bounds is k f at)) (not_self f.measure (value q.machine f));
    within = λ k f less at. absurd (omega (arith, less));
    ever = λ whole k f less at. absurd (omega (arith, less));
  }

  module _ (bounds : List ℕ) (first : ℕ) (whole : Bool) (kept : Kept bounds first whole) (m : Met)
      (meets : Meets metered_after metered_number (gauged figures bounds q) turns (length figures * 65536) m) where
    -- of the first figure that is beyond its bound there is a mark
    marked : (n k v : ℕ) (f : Figure) → slice_get figures k ≡ Some f → n ≡ (0 + k) * 65536 + v → v < 65536 → n < length figures * 65536
    marked n k v f at is few = let less = slice_get_within figures k f at in omega (arith, less, is, few)

    module _ (f : Figure) (k : ℕ) (at : slice_get figures k ≡ Some f) where
      first_at : (r : Place) → past r f (slice_index bounds k) ≡ true → First r.machine bounds figures 0 k
      first_at r beyond = first_of r.machine bounds figures 0 k f at (subst (λ n. past r f (slice_index bounds n) ≡ true) (sym (none_more k)) beyond)

      -- where some figure is beyond its bound at the end of a run, one of those up to it has a mark with its number there
      pub record Marked (r : Place) : Type 0 where
        pub place : ℕ
        pub figure : Figure
        pub early : place ≤ k
        pub is : slice_get figures place ≡ Some figure
        pub beyond : past r figure (slice_index bounds place) ≡ true
        pub mark : IsMarked m.marks.items place (value r.machine figure)

      mark_of : (r : Place) (one : First r.machine bounds figures 0 k) → slice_get m.marks.items (first_beyond r.machine figures bounds 0) ≡ Some true → Marked r
      mark_of r one mark = record {
        place = one.place;
        figure = one.figure;
        early = one.early;
        is = one.is;
        beyond = subst (λ n. past r one.figure (slice_index bounds n) ≡ true) (none_more one.place) one.past;
        mark = subst (λ n. slice_get m.marks.items n ≡ Some true) (one.told ∙ ap (λ n. n * 65536 + value r.machine one.figure) (none_more one.place)) mark;
      }

      less_of : (r : Place) (one : First r.machine bounds figures 0 k) → first_beyond r.machine figures bounds 0 < length figures * 65536
      less_of r one = marked (first_beyond r.machine figures bounds 0) one.place (value r.machine one.figure) one.figure one.is one.told (value_few r.machine one.figure)

      marked_within : (steps : List ℕ) (r : Place) → length steps ≤ turns → Last q r steps → past r f (slice_index bounds k) ≡ true → Marked r
      marked_within steps r few last beyond =
          let one = first_at r beyond in
          mark_of r one (meets.within (first_beyond r.machine figures bounds 0) (less_of r one) (report_of figures bounds q r steps turns last few))

      marked_ever : m.whole ≡ true → (steps : List ℕ) (r : Place) → Last q r steps → past r f (slice_index bounds k) ≡ true → Marked r
      marked_ever all steps r last beyond =
          let one = first_at r beyond in
          mark_of r one (meets.all all (first_beyond r.machine figures bounds 0) (less_of r one) (report_ever figures bounds q r steps last))

    -- ---- where there is no mark

    module _ (none : (n : ℕ) → slice_get m.marks.items n ≡ Some true → ⊥) where
      none_within : (k : ℕ) (f : Figure) → slice_get figures k ≡ Some f → NoneWithin f (slice_index bounds k)
      none_within k f at steps r few leads = by (last_of steps q r leads)
        where
          by : ((steps ≡ []) × (q ≡ r)) ⊎ Last q r steps → past r f (slice_index bounds k) ≡ false
          by (inl end) = subst (λ (x : Place). past x f (slice_index bounds k) ≡ false) end.1 (kept.begin k f at)
          by (inr last) = test (past r f (slice_index bounds k)) refl
            where
              test : (b : Bool) → past r f (slice_index bounds k) ≡ b → past r f (slice_index bounds k) ≡ false
              test false is = is
              test true is = let one = marked_within f k at steps r few last is in absurd (none _ one.mark)

      none_ever : m.whole ≡ true → (k : ℕ) (f : Figure) → slice_get figures k ≡ Some f → NoneEver f (slice_index bounds k)
      none_ever all k f at steps r leads = by (last_of steps q r leads)
        where
          by : ((steps ≡ []) × (q ≡ r)) ⊎ Last q r steps → past r f (slice_index bounds k) ≡ false
          by (inl end) = subst (λ (x : Place). past x f (slice_index bounds k) ≡ false) end.1 (kept.begin k f at)
          by (inr last) = test (past r f (slice_index bounds k)) refl
            where
              test : (b : Bool) → past r f (slice_index bounds k) ≡ b → past r f (slice_index bounds k) ≡ false
              test false is = is
              test true is = let one = marked_ever f k at all steps r last is in absurd (none _ one.mark)

      pub kept_all : (both : Bool) → (both ≡ true → m.whole ≡ true) → Kept bounds (length figures) both
      kept_all both all = record {
        as_many = kept.as_many;
        reached = kept.reached;
        begin = kept.begin;
        within = λ k f less at. none_within k f at;
        ever = λ so k f less at. none_ever (all so) k f at;
      }

    -- ---- where bounds are moved

    module _ (moved : List ℕ) (raised : AreRaised figures bounds m.marks.items moved) where
      covers : (k : ℕ) (f : Figure) (at : slice_get figures k ≡ Some f) (r : Place) → past r f (slice_index bounds k) ≡ false → past r f (slice_index moved k) ≡ false
      covers k f at r so = loose f.measure (slice_index moved k) (slice_index bounds k) (value r.machine f) (raised.each k f at).kept so

      -- the number of a figure that has a mark is not beyond the moved bound
      covers_mark : (k : ℕ) (f : Figure) (at : slice_get figures k ≡ Some f) (r : Place) → IsMarked m.marks.items k (value r.machine f) → past r f (slice_index moved k) ≡ false
      covers_mark k f at r mark = (raised.each k f at).all (value r.machine f) (value_few r.machine f) mark

      same_figure : (f g : Figure) → Some f ≡ Some g → f ≡ g
      same_figure f g is = cc

      -- of the first figures none that is before this one is beyond, so it is this one that has a mark
      mark_here : (k : ℕ) (f : Figure) (at : slice_get figures k ≡ Some f) (r : Place) (one : Marked f k at r) →
          ((i : ℕ) (g : Figure) → i < k → slice_get figures i ≡ Some g → past r g (slice_index bounds i) ≡ false) → past r f (slice_index moved k) ≡ false
      mark_here k f at r one before = by (cases_lt one.place k)
        where
          by : (one.place < k) ⊎ (k ≤ one.place) → past r f (slice_index moved k) ≡ false
          by (inl less) = absurd (false≢true (sym (before one.place one.figure less one.is) ∙ one.beyond))
          by (inr more) =
              let early = one.early in
              let same : one.place ≡ k = omega (arith, early, more) in
              let figure : one.figure ≡ f = same_figure one.figure f (sym one.is ∙ (ap (λ n. slice_get figures n) same ∙ at)) in
              covers_mark k f at r (subst (λ (g : Figure). IsMarked m.marks.items k (value r.machine g)) figure (subst (λ n. IsMarked m.marks.items n (value r.machine one.figure)) same one.mark))

      up_to : (k : ℕ) → k < first + 1 → (k < first) ⊎ (k ≡ first)
      up_to k less = by (cases_lt k first)
        where
          by : (k < first) ⊎ (first ≤ k) → (k < first) ⊎ (k ≡ first)
          by (inl below) = inl below
          by (inr above) = inr (omega (arith, less, above))

      more_within : (k : ℕ) (f : Figure) → k < first + 1 → slice_get figures k ≡ Some f → NoneWithin f (slice_index moved k)
      more_within k f less at steps r few leads = by (last_of steps q r leads)
        where
          before : (i : ℕ) (g : Figure) → i < k → slice_get figures i ≡ Some g → past r g (slice_index bounds i) ≡ false
          before i g low is = kept.within i g (omega (arith, low, less)) is steps r few leads

          by : ((steps ≡ []) × (q ≡ r)) ⊎ Last q r steps → past r f (slice_index moved k) ≡ false
          by (inl end) = covers k f at r (subst (λ (x : Place). past x f (slice_index bounds k) ≡ false) end.1 (kept.begin k f at))
          by (inr last) = test (past r f (slice_index bounds k)) refl
            where
              test : (b : Bool) → past r f (slice_index bounds k) ≡ b → past r f (slice_index moved k) ≡ false
              test false is = covers k f at r is
              test true is = mark_here k f at r (marked_within f k at steps r few last is) before

      more_ever : whole ≡ true → m.whole ≡ true → (k : ℕ) (f : Figure) → k < first + 1 → slice_get figures k ≡ Some f → NoneEver f (slice_index moved k)
      more_ever so all k f less at steps r leads = by (last_of steps q r leads)
        where
          before : (i : ℕ) (g : Figure) → i < k → slice_get figures i ≡ Some g → past r g (slice_index bounds i) ≡ false
          before i g low is = kept.ever so i g (omega (arith, low, less)) is steps r leads

          by : ((steps ≡ []) × (q ≡ r)) ⊎ Last q r steps → past r f (slice_index moved k) ≡ false
          by (inl end) = covers k f at r (subst (λ (x : Place). past x f (slice_index bounds k) ≡ false) end.1 (kept.begin k f at))
          by (inr last) = test (past r f (slice_index bounds k)) refl
            where
              test : (b : Bool) → past r f (slice_index bounds k) ≡ b → past r f (slice_index moved k) ≡ false
              test false is = covers k f at r is
              test true is = mark_here k f at r (marked_ever f k at all steps r last is) before

      -- each moved bound is reached, too
      reached_there : (k : ℕ) (f : Figure) (at : slice_get figures k ≡ Some f) → Reached f (slice_index moved k)
      reached_there k f at = by (raised.each k f at).one
        where
          by : (slice_index moved k ≡ slice_index bounds k) ⊎ ((slice_index moved k < 65536) × IsMarked m.marks.items k (slice_index moved k)) → Reached f (slice_index moved k)
          by (inl same) = subst (λ n. Reached f n) (sym same) (kept.reached k f at)
          by (inr mark) =
              let met = met_of figures bounds q turns (k * 65536 + slice_index moved k) (meets.report (k * 65536 + slice_index moved k) mark.1) in
              let n = slice_index moved k in
              let told : first_beyond met.place.machine figures bounds 0 ≡ (0 + k) * 65536 + n = met.told ∙ omega arith in
              record {
                steps = met.steps;
                place = met.place;
                short = met.short;
                leads = met.leads;
                there = told_is met.place.machine bounds figures 0 k n f at mark.0 told;
              }

      pub kept_more : (both : Bool) → (both ≡ true → whole ≡ true) → (both ≡ true → m.whole ≡ true) → Kept moved (first + 1) both
      kept_more both before all = record {
        as_many = raised.as_many ∙ kept.as_many;
        reached = reached_there;
        begin = λ k f at. covers k f at q (kept.begin k f at);
        within = more_within;
        ever = λ so k f less at. more_ever (before so) (all so) k f less at;
      }
