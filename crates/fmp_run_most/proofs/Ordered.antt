-- What is known of runs is known of orders.
use Rattle.std.proofs.Common.{◌≤◌, ◌≡◌, ◌∙◌, ℕ, Bool, true, false, cond, List, [], length, refl, sym, subst, arith}
use Rattle.std.specs.Prelude.{slice_index}
use Rattle.std.proofs.lemmas.Option.{slice_get_within}
use Rattle.std.proofs.lemmas.List.{append-nil}
use Rattle.fmp_codes.specs.declared.records.Record.{Record}
use Rattle.fmp_setup.specs.Setup.{Setup}
use Rattle.fmp_setup.specs.Valid.{IsValid}
use Rattle.fmp_text_scripts.specs.Scripts.{Steps}
use Rattle.fmp_smp_histories.specs.Histories.{state_after}
use Rattle.fmp_search_orders.specs.declared.rules.Rules.{Rules}
use Rattle.fmp_search_orders.specs.Orders.{IsOrder}
use Rattle.fmp_search_orders.specs.Places.{Place, origin}
use Rattle.fmp_search_orders.proofs.Begun.{on_start}
use Rattle.fmp_search_orders.proofs.Runs.{runs_orders}
use Rattle.fmp_search_orders.proofs.Staying.{Walk, walk}
use Rattle.fmp_run_most.specs.declared.figure.Figure.{Figure}
use Rattle.fmp_run_most.specs.declared.settling.Reach.{Reach}
use Rattle.fmp_run_most.specs.declared.settling.Reach.TheVariants.{Whole, Within, Part}
use Rattle.fmp_run_most.specs.Figures.{is_beyond}
use Rattle.fmp_run_most.specs.Most.{AreMost, IsReached, NoneBeyond, NoneBeyondWithin}
use Rattle.fmp_run_most.proofs.Kept.{Kept, NoneEver, NoneWithin, Reached}
use Rattle.fmp_run_most.proofs.Same.{value_stands}

module _ (c : Setup) (scripts : List Steps) (rules : Rules) (valid : IsValid c) (turns : ℕ) (figures : List Figure) where
  abbrev q : Place
  q = origin c scripts rules []

  reached : (f : Figure) (n : ℕ) → Reached q turns figures f n → IsReached c scripts rules turns f n
  reached f n so =
      let told = (runs_orders c scripts rules [] valid).order so.steps so.place so.leads in
      let long = told.2 in
      let short = so.short in
      record {
        history = told.0;
        order = told.4.order;
        short = omega (arith, long, short);
        there = sym (value_stands so.place.machine (state_after c told.0) f told.4.stands) ∙ so.there;
      }

  -- an order is a run
  walked : (h : List Record) → IsOrder c scripts rules h → Walk c scripts rules valid q [] h
  walked h order = walk c scripts rules valid h [] q [] (on_start c scripts rules valid) (subst (λ (x : List Record). IsOrder c scripts rules x) (sym (append-nil h)) order)

  ever : (f : Figure) (n : ℕ) → NoneEver q turns figures f n → NoneBeyond c scripts rules f n
  ever f n none h order =
      let run = walked h order in
      subst (λ v. is_beyond f.measure n v ≡ false) (value_stands run.place.machine (state_after c h) f run.on.1.stands) (none run.steps run.place run.leads)

  within : (f : Figure) (n : ℕ) → NoneWithin q turns figures f n → NoneBeyondWithin c scripts rules turns f n
  within f n none h order few =
      let run = walked h order in
      let long = run.long in
      subst (λ v. is_beyond f.measure n v ≡ false) (value_stands run.place.machine (state_after c h) f run.on.1.stands) (none run.steps run.place (omega (arith, long, few)) run.leads)

  -- of some orders
  pub most_part : (bounds : List ℕ) (first : ℕ) (whole : Bool) → Kept q turns figures bounds first whole → AreMost c scripts rules turns Part figures bounds
  most_part bounds first whole kept = record { as_many = kept.as_many; most = λ k f at. reached f (slice_index bounds k) (kept.reached k f at) }

  -- of all, or of those of at most so many lines
  pub most_all : (bounds : List ℕ) (whole : Bool) (reach : Reach) → Kept q turns figures bounds (length figures) whole → reach ≡ cond whole Whole Within
      → AreMost c scripts rules turns reach figures bounds
  most_all bounds whole reach kept is = subst (λ (r : Reach). AreMost c scripts rules turns r figures bounds) (sym is) (by whole kept)
    where
      by : (b : Bool) → Kept q turns figures bounds (length figures) b → AreMost c scripts rules turns (cond b Whole Within) figures bounds
      by true so = record {
        as_many = so.as_many;
        most = λ k f at. (reached f (slice_index bounds k) (so.reached k f at), ever f (slice_index bounds k) (so.ever refl k f (slice_get_within figures k f at) at));
      }
      by false so = record {
        as_many = so.as_many;
        most = λ k f at. (reached f (slice_index bounds k) (so.reached k f at), within f (slice_index bounds k) (so.within k f (slice_get_within figures k f at) at));
      }

module _ (c : Setup) (scripts : List Steps) (rules : Rules) (few turns : ℕ) (fewer : few ≤ turns) (figures : List Figure) (bounds : List ℕ) where
  later : (f : Figure) (n : ℕ) → IsReached c scripts rules few f n → IsReached c scripts rules turns f n
  later f n so = let short = so.short in record { history = so.history; order = so.order; short = omega (arith, short, fewer); there = so.there }

  -- what is known of orders of fewer lines is known of some
  pub most_nearer : (reach : Reach) → AreMost c scripts rules few reach figures bounds → AreMost c scripts rules turns Part figures bounds
  most_nearer Whole so = record { as_many = so.as_many; most = λ k f at. later f (slice_index bounds k) (so.most k f at).0 }
  most_nearer Within so = record { as_many = so.as_many; most = λ k f at. later f (slice_index bounds k) (so.most k f at).0 }
  most_nearer Part so = record { as_many = so.as_many; most = λ k f at. later f (slice_index bounds k) (so.most k f at) }

  -- what is known of all orders, or of all of so many lines, is known of all of so many
  pub most_within : (reach : Reach) → (reach ≡ Part → ⊥) → AreMost c scripts rules few reach figures bounds → AreMost c scripts rules few Within figures bounds
  most_within Whole known so = record { as_many = so.as_many; most = λ k f at. let is = so.most k f at in (is.0, λ h order short. is.1 h order) }
  most_within Within known so = so
  most_within Part known so = absurd (known refl)
