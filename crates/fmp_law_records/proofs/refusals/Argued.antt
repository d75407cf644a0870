-- The tests of a row for its arguments are what the configuration says.
use Rattle.std.proofs.Common.{◌≡◌, ◌≤◌, ℕ, ℤ, Bool, true, not, ◌&&◌, List, ◌∷◌, length, refl, sym, ap, ◌∙◌, Option, Some}
use Rattle.std.specs.Prelude.{is_some, unwrap_or}
use Rattle.std.proofs.lemmas.Bool.{and_parts}
use Rattle.fmp_codes.specs.Numbers.{as_task, as_object, as_proc}
use Rattle.fmp_codes.specs.declared.numbers.Proc.{Proc}
use Rattle.fmp_codes.specs.declared.numbers.Task.{Task}
use Rattle.fmp_codes.specs.declared.numbers.Object.{Object}
use Rattle.fmp_codes.specs.declared.codes.Code.TheVariants as code
use Rattle.fmp_codes.specs.declared.records.Answer.{Answer}
use Rattle.fmp_setup.specs.declared.setup.Class.{Class}
use Rattle.fmp_setup.specs.Setup.{Setup, has_member}
use Rattle.fmp_rules.specs.World.{World, task, processor, runner_of}
use Rattle.fmp_rules.specs.Arguments.{object_named, task_named, task_or_caller, class_of, processor_or_initial}
use Rattle.fmp_law_safety.proofs.Calls.{FromTask}
use Rattle.fmp_law_balance.proofs.Words.{member_same}
use Rattle.fmp_law_balance.specs.Waits.Waits.{setup_of}
use Rattle.fmp_law_records.specs.Refusals.Meanings.{is_one_of, is_zero_or_of, task_of, task_meant, object_of, processor_in, is_in_class}
use Rattle.fmp_law_records.specs.Refusals.Errors.{Errors}
use Rattle.fmp_law_records.proofs.refusals.FirstErrors.{Agree, unless}
use Rattle.fmp_law_records.proofs.refusals.Configured.{Configured, number_known, object_is, processor_known, processor_is, IsTask, task_is, caller_known, meant_is}

abbrev pub of_list : {X : Type 0} → List X → ℤ → Object
of_list xs id = unwrap_or (object_named xs id) (as_object 1)

module _ {does told : Answer} {es rs : Errors} where
  -- The ID of an object of a kind.
  pub of_object : {X : Type 0} (xs : List X) {last : ℕ} → length xs ≡ last → (id : ℤ) → (of_list xs id ≡ object_of id → Agree does told es rs) →
      Agree does told ((not (is_some (object_named xs id)), code.Identifier) ∷ es) ((not (is_one_of last id), code.Identifier) ∷ rs)
  of_object xs {last = last} count id rest = unless (number_known as_object (length xs) last id count) (λ known. rest (object_is xs id known))

  module _ {Q : Type 0} {c : Setup} {w : World Q} (h : Configured c w) where
    -- The ID of a task.
    pub of_task : (id : ℤ) → (IsTask c w h (task_of id) (task_named w id) → Agree does told es rs) →
        Agree does told ((not (is_some (task_named w id)), code.Identifier) ∷ es) ((not (is_one_of (length c.tasks) id), code.Identifier) ∷ rs)
    of_task id rest = unless (number_known as_task (length w.tasks) (length c.tasks) id h.tasks) (λ known. rest (task_is c w h id known))

    -- The ID of a task, or 0 for the caller.
    pub of_caller : {p : Proc} → FromTask w p → ((t : Task) → (processor w p).running ≡ Some t → t.number ≤ length w.tasks) → (id : ℤ) →
        (IsTask c w h (task_meant (runner_of w p) id) (task_or_caller w p id) → Agree does told es rs) →
        Agree does told ((not (is_some (task_or_caller w p id)), code.Identifier) ∷ es) ((not (is_zero_or_of (length c.tasks) id), code.Identifier) ∷ rs)
    of_caller {p = p} f within id rest = unless (caller_known c w h p f within id) (λ known. rest (meant_is c w h p f within id known))

    -- Also a processor, which is to be one of a class.
    pub moved : {some known first first_told : Bool} {class at : Class} (to : ℤ) → some ≡ known → (some ≡ true → class ≡ at) → first ≡ first_told →
        (some ≡ true → Agree does told es rs) →
        Agree does told
        ((not (some && is_some (processor_or_initial w class to)), code.Identifier)
        ∷ (not (first && has_member class (unwrap_or (processor_or_initial w class to) (as_proc 1))), code.Parameter) ∷ es)
        ((not (known && is_zero_or_of c.processors to), code.Identifier) ∷ (not (first_told && is_in_class at to), code.Parameter) ∷ rs)
    moved {some = some} {known = known} {first = first} {first_told = first_told} {class = class} to is same firsts rest =
        unless (ap (λ b. b && is_some (processor_or_initial w class to)) is ∙ ap (λ b. known && b) (processor_known c w h class to))
        (λ both.
        let parts = and_parts some (is_some (processor_or_initial w class to)) both in
        unless
        (ap (λ b. b && has_member class (unwrap_or (processor_or_initial w class to) (as_proc 1))) firsts
        ∙ ap (λ q. first_told && has_member class q) (processor_is c w h class to parts.1)
        ∙ ap (λ b. first_told && b) (sym (member_same class (processor_in class to))) ∙ ap (λ x. first_told && is_in_class x to) (same parts.0))
        (λ _. rest parts.0))

    -- A task and a processor of its class.
    pub moved_task : {u : Task} {o : Option Task} {known : Bool} (to : ℤ) → is_some o ≡ known → (is_some o ≡ true → IsTask c w h u o) →
        (IsTask c w h u o → Agree does told es rs) →
        Agree does told
        ((not (is_some o && is_some (processor_or_initial w (class_of w o) to)), code.Identifier)
        ∷ (not (has_member (class_of w o) (unwrap_or (processor_or_initial w (class_of w o) to) (as_proc 1))), code.Parameter) ∷ es)
        ((not (known && is_zero_or_of c.processors to), code.Identifier) ∷ (not (is_in_class (setup_of c u).class to), code.Parameter) ∷ rs)
    moved_task {u = u} {o = o} {known = known} to is named rest =
        moved {some = is_some o} {known = known} {first = true} {first_told = true} {class = class_of w o} {at = (setup_of c u).class} to is
        (λ there. ap (λ (t : Task). (task w t).setup.class) (named there).is ∙ h.classes u (named there).within) refl (λ there. rest (named there))
