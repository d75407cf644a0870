-- One edge more of a chart.
use Rattle.std.proofs.Common.{◌≡◌, ◌⊎◌, inl, inr, ℕ, ◌+◌, ◌<◌, ◌≤◌, Bool, true, Option, None, Some, List, [], ◌∷◌, ◌++◌, length, get_or, refl, ap, sym, subst, ◌∙◌, below_more, arith, rules}
use Rattle.std.specs.Prelude.{slice_get}
use Rattle.std.proofs.lemmas.Grind.{common_steps}
use Rattle.std.proofs.Math.Nat.{eq-or-lt_of_le}
use Rattle.std.proofs.lemmas.Bool.{cases_lt}
use Rattle.std.proofs.lemmas.Option.{slice_get_within, slice_get-get_or, get_or_from_slice_get}
use Rattle.std.proofs.Math.ListN.{get_or-append}
use Rattle.std.proofs.Math.Seq.{get_or-append_seam}
use Rattle.fmp_search.specs.declared.edges.Edge.{Edge}
use Rattle.fmp_search.specs.declared.nodes.Node.{Node}
use Rattle.fmp_search.specs.declared.space.Noted.{Noted}
use Rattle.fmp_search.specs.Runs.{told_of, Watches}
use Rattle.fmp_search.specs.Trees.{found_at, IsAt}
use Rattle.fmp_search.specs.declared.chart.Chart.{Chart}
use Rattle.fmp_search.specs.Growth.{Extends}
use Rattle.fmp_search.specs.Charts.{AreFrom, Charting, IsBlank, IsCharted, IsTrueEdge, AreTrue, IsJoined}
use Rattle.fmp_search.specs.Meeting.{AreNoted, IsMarked}
use Rattle.fmp_search.proofs.Marking.{noted_none, noted_same}

longer : {A : Type 0} (xs : List A) (x : A) → length (xs ++ x ∷ []) ≡ length xs + 1
longer xs x = grind (arith, common_steps)

pub item_stays : {A : Type 0} (xs : List A) (x y : A) (k : ℕ) → slice_get xs k ≡ Some y → slice_get (xs ++ x ∷ []) k ≡ Some y
item_stays xs x y k h =
    let lt = slice_get_within xs k y h in
    let long = longer xs x in
    slice_get-get_or (xs ++ x ∷ []) k y (omega (arith, lt, long)) ∙ ap (λ z. Some z) (get_or-append xs (x ∷ []) y k lt ∙ get_or_from_slice_get xs k y y h)

pub item_last : {A : Type 0} (xs : List A) (x : A) → slice_get (xs ++ x ∷ []) (length xs) ≡ Some x
item_last xs x =
    let long = longer xs x in
    slice_get-get_or (xs ++ x ∷ []) (length xs) x (omega (arith, long)) ∙ ap (λ z. Some z) (get_or-append_seam xs x [] x)

early_or_last : {A : Type 0} (xs : List A) (x y : A) (k : ℕ) → slice_get (xs ++ x ∷ []) k ≡ Some y → (k < length xs) ⊎ (length xs ≤ k) → (slice_get xs k ≡ Some y) ⊎ ((k ≡ length xs) × (x ≡ y))
early_or_last xs x y k h (inl lt) =
    inl (slice_get-get_or xs k y lt ∙ ap (λ z. Some z) (sym (get_or-append xs (x ∷ []) y k lt) ∙ get_or_from_slice_get (xs ++ x ∷ []) k y y h))
early_or_last xs x y k h (inr le) =
    let within = slice_get_within (xs ++ x ∷ []) k y h in
    let long = longer xs x in
    let is : k ≡ length xs = omega (arith, within, long, le) in
    inr (is, sym (get_or-append_seam xs x [] y) ∙ subst (λ n. get_or (xs ++ x ∷ []) n y ≡ y) is (get_or_from_slice_get (xs ++ x ∷ []) k y y h))

-- an item of a list with one more
pub item_of : {A : Type 0} (xs : List A) (x y : A) (k : ℕ) → slice_get (xs ++ x ∷ []) k ≡ Some y → (slice_get xs k ≡ Some y) ⊎ ((k ≡ length xs) × (x ≡ y))
item_of xs x y k h = early_or_last xs x y k h (cases_lt k (length xs))

-- where one step more was tried, all edges are still of a step from one of the first places or from the next
from_later : (edges : List Edge) (at s : ℕ) → AreFrom edges at s → AreFrom edges at (s + 1)
from_later edges at s early k e get first le lt = early k e get first le (λ some. lt (omega arith))

from_next : (edges : List Edge) (at s : ℕ) → AreFrom edges at s → AreFrom edges (at + 1) 0
from_next edges at s early k e get first le lt = early k e get first (omega (arith, le)) (λ some. omega (arith, le))

from_one : (edges : List Edge) (e : Edge) (at s : ℕ) → e.from ≡ at → AreFrom edges at s → (k : ℕ) (d : Edge) → (slice_get edges k ≡ Some d) ⊎ ((k ≡ length edges) × (e ≡ d)) → (first : ℕ) → at ≤ first →
    (0 < s + 1 → at < first) → d.from < first
from_one edges e at s is early k d (inl get) first le lt = from_later edges at s early k d get first le lt
from_one edges e at s is early k d (inr last) first le lt = subst (λ (x : Edge). x.from < first) last.1 (subst (λ n. n < first) (sym is) (lt (omega arith)))

from_more : (edges more : List Edge) (e : Edge) (at s : ℕ) → more ≡ edges ++ e ∷ [] → e.from ≡ at → AreFrom edges at s → AreFrom more at (s + 1)
from_more edges more e at s more_is is early k d get = from_one edges e at s is early k d (item_of edges e d k (subst (λ (es : List Edge). slice_get es k ≡ Some d) more_is get))

from_none : (edges : List Edge) (at s : ℕ) → edges ≡ [] → AreFrom edges at s
from_none edges at s is k e get = let lt = slice_get_within edges k e get in let long : length edges ≡ 0 = ap length is in absurd (omega (arith, lt, long))

module _ {P : Type 0} (after : P → ℕ → Option P) (passes tells : P → ℕ → ℕ) (q : P) (nodes : List Node) where
  true_one : (edges : List Edge) (e : Edge) → AreTrue after passes q nodes edges → IsTrueEdge after passes q nodes e → (k : ℕ) (d : Edge) →
      (slice_get edges k ≡ Some d) ⊎ ((k ≡ length edges) × (e ≡ d)) → IsTrueEdge after passes q nodes d
  true_one edges e sure one k d (inl is) = sure k d is
  true_one edges e sure one k d (inr is) = subst (λ (x : Edge). IsTrueEdge after passes q nodes x) is.1 one

  -- the edges with one more
  pub true_more : (edges more : List Edge) (e : Edge) → more ≡ edges ++ e ∷ [] → IsTrueEdge after passes q nodes e → AreTrue after passes q nodes edges → AreTrue after passes q nodes more
  true_more edges more e is one sure k d get = true_one edges e sure one k d (item_of edges e d k (subst (λ (es : List Edge). slice_get es k ≡ Some d) is get))

  pub joined_stays : (edges more : List Edge) (e : Edge) → more ≡ edges ++ e ∷ [] → (n s : ℕ) → IsJoined after passes q nodes edges n s → IsJoined after passes q nodes more n s
  joined_stays edges more e is n s joined r goes =
      let had = joined r goes in
      record {
        number = had.number;
        edge = had.edge;
        is_one = subst (λ (es : List Edge). slice_get es had.number ≡ Some had.edge) (sym is) (item_stays edges e had.edge had.number had.is_one);
        leaves = had.leaves;
        by = had.by;
        comes = had.comes;
      }

  -- what was told of a step that was made
  report_there : (o : Option P) (m t : Noted) (r : P) → Watches o m (Some t) r → (o ≡ Some r) × (t ≡ m)
  report_there None m t r h = absurd (search rules)
  report_there (Some p) m t r h = (ap (λ (x : P). Some x) (sym h.1), search (rules, h.0))

  pub step_there : (p r : P) (s : ℕ) (t : Noted) → Watches (after p s) (told_of passes tells p s) (Some t) r → (after p s ≡ Some r) × (t ≡ told_of passes tells p s)
  step_there p r s t h = report_there (after p s) (told_of passes tells p s) t r h

  pub none_there : (o : Option P) (m : Noted) (r x : P) → Watches o m None r → o ≡ Some x → ⊥
  none_there None m r x h is = absurd (search rules)
  none_there (Some p) m r x h is = absurd (search (rules, h.0))

  -- a step that could not be made needs no edge
  pub not_there : (edges : List Edge) (i s : ℕ) (p r : P) → p ≡ (found_at after q nodes i).place → Watches (after p s) (told_of passes tells p s) None r → IsJoined after passes q nodes edges i s
  not_there edges i s p r is h x goes = absurd (none_there (after p s) (told_of passes tells p s) r x h (subst (λ (y : P). after y s ≡ Some x) (sym is) goes))

  pub none_needed : (edges : List Edge) (i s : ℕ) (p : P) → p ≡ (found_at after q nodes i).place → after p s ≡ None → IsJoined after passes q nodes edges i s
  none_needed edges i s p is h x goes = absurd (let e : None ≡ Some x = sym h ∙ subst (λ (y : P). after y s ≡ Some x) (sym is) goes in search (rules, e))

  some_is : (a b : P) → Some a ≡ Some b → a ≡ b
  some_is a b h = search rules

  -- the edge of a step
  pub edge_is_true :
      (i s : ℕ) (t : Noted) (j : ℕ) (p r : P) → i ≤ length nodes → p ≡ (found_at after q nodes i).place → Watches (after p s) (told_of passes tells p s) (Some t) r → IsAt after q nodes j r →
      IsTrueEdge after passes q nodes (record { passes = t.passes; from = i; to = j; step = s })
  edge_is_true i s t j p r few is h at =
      let there = step_there p r s t h in
      record {
        from = few;
        to = at.0;
        goes = subst (λ (y : P). after y s ≡ Some (found_at after q nodes j).place) is (there.0 ∙ ap (λ (x : P). Some x) (sym at.1));
        report = ap (λ (x : Noted). x.passes) there.1 ∙ ap (λ (y : P). passes y s) is;
      }

  pub joined_by :
      (edges more : List Edge) (i s : ℕ) (t : Noted) (j : ℕ) (p r : P) → more ≡ edges ++ record { passes = t.passes; from = i; to = j; step = s } ∷ [] →
      p ≡ (found_at after q nodes i).place → Watches (after p s) (told_of passes tells p s) (Some t) r → IsAt after q nodes j r → IsJoined after passes q nodes more i s
  joined_by edges more i s t j p r more_is is h at x goes =
      let there = step_there p r s t h in
      let same : x ≡ r = some_is x r (sym goes ∙ subst (λ (y : P). after y s ≡ Some r) is there.0) in
      record {
        number = length edges;
        edge = record { passes = t.passes; from = i; to = j; step = s };
        is_one = subst (λ (es : List Edge). slice_get es (length edges) ≡ Some (record { passes = t.passes; from = i; to = j; step = s })) (sym more_is) (item_last edges _);
        leaves = refl;
        by = refl;
        comes = at.1 ∙ sym same;
      }

  pub true_none : (edges : List Edge) → edges ≡ [] → AreTrue after passes q nodes edges
  true_none edges is k e get = let lt = slice_get_within edges k e get in let long : length edges ≡ 0 = ap length is in absurd (omega (arith, lt, long))

-- edges stay true, and there, where places are added
module _ {P : Type 0} (after : P → ℕ → Option P) (passes tells : P → ℕ → ℕ) (q : P) (nodes more : List Node) (extends : Extends after q nodes more) where
  true_there : (e : Edge) → IsTrueEdge after passes q nodes e → IsTrueEdge after passes q more e
  true_there e sure =
      let longer = extends.longer in
      let few = sure.from in
      let low = sure.to in
      let from = extends.stays e.from sure.from in
      let to = extends.stays e.to sure.to in
      record { from = omega (arith, few, longer); to = omega (arith, low, longer); goes = rw from (rw to sure.goes); report = rw from sure.report }

  trues_there : (edges : List Edge) → AreTrue after passes q nodes edges → AreTrue after passes q more edges
  trues_there edges sure k e is = true_there e (sure k e is)

  joined_there : (edges : List Edge) (i s : ℕ) → i ≤ length nodes → AreTrue after passes q nodes edges → IsJoined after passes q nodes edges i s → IsJoined after passes q more edges i s
  joined_there edges i s few sure joined r goes =
      let had = joined r (rw (← extends.stays i few) goes) in
      let to = (sure had.number had.edge had.is_one).to in
      record { number = had.number; edge = had.edge; is_one = had.is_one; leaves = had.leaves; by = had.by; comes = rw (extends.stays had.edge.to to) had.comes }

  -- no edge more
  pub charted_there : (old new : Chart) → new.opened ≡ old.opened → new.edges ≡ old.edges → IsCharted after passes q nodes old → IsCharted after passes q more new
  charted_there old new opened same before =
      let low = before.few in
      let longer = extends.longer in record {
        sure = subst (λ (es : List Edge). AreTrue after passes q more es) (sym same) (trues_there old.edges before.sure);
        joined = λ i t lt. subst (λ (es : List Edge). IsJoined after passes q more es i t) (sym same)
            (joined_there old.edges i t (omega (arith, lt, opened, low)) before.sure (before.joined i t (omega (arith, lt, opened))));
        few = omega (arith, opened, low, longer);
      }

  -- one edge more, of a step of the place that is opened
  pub charting_more :
      (old new : Chart) (at s : ℕ) (e : Edge) → e.from ≡ at → at ≤ length nodes → new.opened ≡ old.opened → new.kept ≡ old.kept → (old.kept ≡ true → new.edges ≡ old.edges ++ e ∷ []) →
      IsTrueEdge after passes q more e → (new.kept ≡ true → IsJoined after passes q more new.edges at s) → AreNoted after tells q more new.marks.items at (s + 1) →
      Charting after passes tells q nodes old at s → Charting after passes tells q more new at (s + 1)
  charting_more old new at s e leaves few opened kept added sure last noted x = record {
    opened = opened ∙ x.opened;
    charted = λ is.
        let was : old.kept ≡ true = sym kept ∙ is in
        let before = x.charted was in
        let low = before.few in
        let longer = extends.longer in record {
          sure = true_more after passes tells q more old.edges new.edges e (added was) sure (trues_there old.edges before.sure);
          joined = λ i t lt. joined_stays after passes tells q more old.edges new.edges e (added was) i t
              (joined_there old.edges i t (omega (arith, lt, opened, low)) before.sure (before.joined i t (omega (arith, lt, opened))));
          few = omega (arith, opened, low, longer);
        };
    linked = λ is.
        let was : old.kept ≡ true = sym kept ∙ is in
        below_more (λ k. IsJoined after passes q more new.edges at k) s
        (λ k lt. joined_stays after passes tells q more old.edges new.edges e (added was) at k (joined_there old.edges at k few (x.charted was).sure (x.linked was k lt)))
        (last is);
    early = λ is. let was : old.kept ≡ true = sym kept ∙ is in from_more old.edges new.edges e at s (added was) leaves (x.early was);
    noted = noted;
  }

module _ {P : Type 0} (after : P → ℕ → Option P) (passes tells : P → ℕ → ℕ) (q : P) (nodes : List Node) where
  -- a step that needs no edge was tried
  pub charting_same : (chart : Chart) (at s : ℕ) → IsJoined after passes q nodes chart.edges at s → IsMarked after tells (found_at after q nodes at).place chart.marks.items s →
      Charting after passes tells q nodes chart at s → Charting after passes tells q nodes chart at (s + 1)
  charting_same chart at s last marked x = record {
    opened = x.opened;
    charted = x.charted;
    linked = λ is. below_more (λ k. IsJoined after passes q nodes chart.edges at k) s (x.linked is) last;
    early = λ is. from_later chart.edges at s (x.early is);
    noted = noted_same after passes tells q nodes chart.marks.items at s marked x.noted;
  }

  next_joined : (edges : List Edge) (at n i s : ℕ) → ((j t : ℕ) → j < at → IsJoined after passes q nodes edges j t) → ((t : ℕ) → t < n → IsJoined after passes q nodes edges at t) →
      ((t : ℕ) → n ≤ t → IsJoined after passes q nodes edges at t) → (i ≡ at) ⊎ (i < at) → (s < n) ⊎ (n ≤ s) → IsJoined after passes q nodes edges i s
  next_joined edges at n i s before linked rest (inr lt) which = before i s lt
  next_joined edges at n i s before linked rest (inl is) (inl lt) = subst (λ k. IsJoined after passes q nodes edges k s) (sym is) (linked s lt)
  next_joined edges at n i s before linked rest (inl is) (inr le) = subst (λ k. IsJoined after passes q nodes edges k s) (sym is) (rest s le)

  -- all steps of a place were tried
  pub charting_next :
      (old : Chart) (at n : ℕ) → at ≤ length nodes → ((t : ℕ) → n ≤ t → IsJoined after passes q nodes old.edges at t) →
      AreNoted after tells q nodes old.marks.items (at + 1) 0 → Charting after passes tells q nodes old at n → Charting after passes tells q nodes (record old { opened = at + 1 }) (at + 1) 0
  charting_next old at n few rest noted x =
      let opened = x.opened in record {
        opened = refl;
        charted = λ is.
            let before = x.charted is in record {
              sure = before.sure;
              joined = λ i s lt. next_joined old.edges at n i s (λ j t low. before.joined j t (omega (arith, low, opened))) (x.linked is) rest
                  (let le : i ≤ at = omega (arith, lt) in eq-or-lt_of_le le) (cases_lt s n);
              few = omega (arith, few);
            };
        linked = λ is s lt. absurd (omega (arith, lt));
        early = λ is. from_next old.edges at n (x.early is);
        noted = noted;
      }

  -- nothing was tried
  pub charting_none : (kept : Bool) (chart : Chart) (count : ℕ) → IsBlank kept count chart → Charting after passes tells q nodes chart 0 0
  charting_none kept chart count blank =
      let opened = blank.opened in record {
        opened = opened;
        charted = λ is. record { sure = true_none after passes tells q nodes chart.edges blank.edges; joined = λ i s lt. absurd (omega (arith, lt, opened)); few = omega (arith, opened) };
        linked = λ is s lt. absurd (omega (arith, lt));
        early = λ is. from_none chart.edges 0 0 blank.edges;
        noted = noted_none after passes tells q nodes chart.marks.items count blank.marks;
      }
