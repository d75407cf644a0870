use Rattle.std.proofs.Common.{◌≡◌, ◌++◌, ◌∙◌, ℕ, List, ap, arith, refl, subst, sym, true}
use Rattle.std.specs.Prelude.{is_some}
use Rattle.fmp_search.specs.Runs.{run}
use Rattle.fmp_trace.specs.Lines.{lines_from}
use Rattle.fmp_search_orders.specs.Places.{Place, after, records}
use Rattle.fmp_search_kernel.specs.Walked.{origin_of}
use Rattle.fmp_search_walks.proofs.telling.trace_of_steps.Goals as goal

pub loop-step-init : goal.loop-step-init
loop-step-init c =
    let names = c.args.config.now.names in
    let steps = c.args.steps.now in
    let begins = c.in_ok-start_over.ensures.there ∙ ap origin_of c.in_ok-walker.ensures in
    let few = c.requires.few in
    let room = c.in_ok-start_over.ensures.room in
    record {
      report =
          ap (λ (text : List ℕ). text ++ lines_from names 1 (records c.start_over.new.self.place steps)) c.new-out.ensures.items
          ∙ ap (λ (w : Place). lines_from names 1 (records w steps)) begins;
      leads = subst (λ (w : Place). is_some (run after w steps) ≡ true) (sym begins) c.requires.leads;
      count = refl;
      room = omega (arith, few, room);
    }
