use Rattle.std.proofs.Common.{ℕ, Some, List, ◌∷◌, ◌++◌, ap, sym, ◌∙◌}
use Rattle.std.specs.Option.{option_map}
use Rattle.fmp_codes.specs.declared.numbers.Task.{Task}
use Rattle.fmp_kernel_parts.specs.Lists.{list_at, first_of}
use Rattle.fmp_kernel_parts.specs.Tasks.{task_at}
use Rattle.fmp_kernel_parts.proofs.Tasks.{first_of-map, parts_of}
use Rattle.fmp_kernel_parts.proofs.task_list.TaskList.next.Goals as goal

pub returns-in_err-item : goal.returns-in_err-item
returns-in_err-item c = λ before following e.
    let p = parts_of (list_at c.self.inside.links 0) before following c.args.task c.self.invariant.small (c.self.view_is ∙ e) in
    let none = c.in_err-item.ensures.value 0 p.before_items p.after_items (p.whole ∙ ap (λ (k : ℕ). p.before_items ++ k ∷ p.after_items) (sym c.index.ensures.value)) in
    c.from_residual.ensures ∙ ap (option_map task_at) none ∙ sym (first_of-map p.after_items) ∙ ap (λ (us : List Task). first_of us) p.after_is

pub returns : goal.returns
returns c = λ before following e.
    let p = parts_of (list_at c.self.inside.links 0) before following c.args.task c.self.invariant.small (c.self.view_is ∙ e) in
    let some = c.in_ok-item.ensures.value 0 p.before_items p.after_items (p.whole ∙ ap (λ (k : ℕ). p.before_items ++ k ∷ p.after_items) (sym c.index.ensures.value)) in
    ap Some c.from_index.ensures.value ∙ ap (option_map task_at) some ∙ sym (first_of-map p.after_items) ∙ ap (λ (us : List Task). first_of us) p.after_is
