use Rattle.std.proofs.Common.{◌≡◌, ℕ, true, List, refl, ap, sym, arith, rules, ◌∙◌}
use Rattle.std.specs.Option.{is_some}
use Rattle.std.proofs.lemmas.Bool.{eq-eqb, ne_eqb}
use Rattle.fmp_codes.specs.declared.numbers.Task.{Task}
use Rattle.fmp_kernel_parts.specs.Lists as links
use Rattle.fmp_kernel_parts.proofs.Having.{without_lacking}
use Rattle.fmp_kernel_parts.proofs.Soundness.{list_in, list_at-take_out}
use Rattle.fmp_kernel_parts.specs.Tasks.{has_task}
use Rattle.fmp_ready.specs.Queues.{PriorityLists, queue_at, take_out}
use Rattle.fmp_ready.specs.Kept.{tasks_of}
use Rattle.fmp_ready.proofs.Tasks.{has_task-tasks_of, remove_tasks, take_out-lacking, queues_same}
use Rattle.fmp_ready.proofs.Kept.{kept_remove}
use Rattle.fmp_ready.proofs.Tops.{tops_found}
use Rattle.fmp_ready.proofs.ReadyQueues.remove.Goals as goal

pub first-requires : goal.first-requires
first-requires c =
    let there : links.has c.index-item.result (links.list_at c.self.inside.links c.in-Some.list) ≡ true =
    c.in-Some.ensures c.in-Some.list ∙ eq-eqb c.in-Some.list c.in-Some.list refl in
    (search rules, omega (arith, list_in c.self.inside.links c.in-Some.list c.index-item.result there, c.self.invariant.0.count))

pub write_bit-requires : goal.write_bit-requires
write_bit-requires c =
    let there : links.has c.index-item.result (links.list_at c.self.inside.links c.in-Some.list) ≡ true =
    c.in-Some.ensures c.in-Some.list ∙ eq-eqb c.in-Some.list c.in-Some.list refl in
    omega (arith, list_in c.self.inside.links c.in-Some.list c.index-item.result there, c.self.invariant.0.count)

pub find_top-requires : goal.find_top-requires
find_top-requires c =
    let there : links.has c.index-item.result (links.list_at c.self.inside.links c.in-Some.list) ≡ true =
    c.in-Some.ensures c.in-Some.list ∙ eq-eqb c.in-Some.list c.in-Some.list refl in
    record {
      place = omega (arith, list_in c.self.inside.links c.in-Some.list c.index-item.result there, c.self.invariant.0.count);
      kept = rw c.remove.ensures (kept_remove c.self.inside.words c.write_bit.new.words c.self.inside.links c.in-Some.list c.index-item.result c.is_some-filled.result c.self.invariant.0
          (λ j e. c.in-Some.ensures j ∙ ne_eqb c.in-Some.list j (λ (f : c.in-Some.list ≡ j). e (sym f)))
          (c.is_some-filled.ensures ∙ ap is_some c.first.ensures.value ∙ ap (λ (q : List (List ℕ)). is_some (links.first_of (links.list_at q c.in-Some.list))) c.remove.ensures) c.write_bit.ensures);
    }

pub invariant_of-self : goal.invariant_of-self
invariant_of-self c = (
  rw c.remove.ensures (kept_remove c.self.inside.words c.write_bit.new.words c.self.inside.links c.in-Some.list c.index-item.result c.is_some-filled.result c.self.invariant.0
      (λ j e. c.in-Some.ensures j ∙ ne_eqb c.in-Some.list j (λ (f : c.in-Some.list ≡ j). e (sym f)))
      (c.is_some-filled.ensures ∙ ap is_some c.first.ensures.value ∙ ap (λ (q : List (List ℕ)). is_some (links.first_of (links.list_at q c.in-Some.list))) c.remove.ensures) c.write_bit.ensures),
  rw c.find_top.ensures (tops_found c.self.inside.tops c.self.inside.links c.remove.new.self c.in-Some.list c.self.invariant.1
      (let there : links.has c.index-item.result (links.list_at c.self.inside.links c.in-Some.list) ≡ true =
      c.in-Some.ensures c.in-Some.list ∙ eq-eqb c.in-Some.list c.in-Some.list refl in
      omega (arith, list_in c.self.inside.links c.in-Some.list c.index-item.result there, c.self.invariant.0.count))
      (λ j e. ap (λ (q : List (List ℕ)). links.list_at q j) c.remove.ensures ∙ list_at-take_out c.self.inside.links c.index-item.result j
      ∙ without_lacking c.index-item.result (links.list_at c.self.inside.links j) (c.in-Some.ensures j ∙ ne_eqb c.in-Some.list j (λ (f : c.in-Some.list ≡ j). e (sym f))))),
)

pub returns-in-Some : goal.returns-in-Some
returns-in-Some c =
    let lists = ap (λ (v : PriorityLists). v.lists) c.self.view_is in
    queues_same _ _
    (ap tasks_of c.remove.ensures ∙ remove_tasks c.self.inside.links c.args.task c.index-item.result c.index-item.ensures.next c.self.invariant.0.small
    ∙ ap (λ (q : List (List Task)). take_out q c.args.task) lists)

pub returns-in_default : goal.returns-in_default
returns-in_default c =
    queues_same _ _
    (sym (take_out-lacking c.args.self.now.lists c.args.task (λ i.
    ap (λ (v : PriorityLists). has_task c.args.task (queue_at v.lists i)) (sym c.self.view_is)
    ∙ has_task-tasks_of c.self.inside.links c.args.task c.index-item.result i c.index-item.ensures.next c.self.invariant.0.small ∙ c.in_default.ensures i)))
