-- A task of which a change says nothing of what comes first leaves all tops as they were.
use Rattle.std.proofs.Common.{◌≡◌, ℕ, zero, suc, ◌-◌, ◌==◌, Bool, ◌&&◌, List, [], ◌∷◌, length, Option, refl, sym, ap, ◌∙◌, get_or, set}
use Rattle.std.proofs.Math.Path.{fun_ext}
use Rattle.std.proofs.lemmas.List.{length-set}
use Rattle.fmp_codes.specs.declared.numbers.Proc.{Proc}
use Rattle.fmp_codes.specs.declared.numbers.Task.{Task}
use Rattle.fmp_rules.specs.World.{item, with_item, no_task, first}
use Rattle.fmp_rules.specs.Arrivals.{in_order, is_ready_on, comes_before, priority_in}
use Rattle.fmp_rules.specs.declared.machine.TaskRecord.{TaskRecord}
use Rattle.fmp_plain_machine.specs.Tops.{rank_of, top_among, AreTops}

rank_of-set : (records : List TaskRecord) (i k : ℕ) (changed : TaskRecord) → rank_of (get_or records i no_task) ≡ rank_of changed → rank_of (get_or (set records i changed) k no_task) ≡ rank_of (get_or records k no_task)
rank_of-set [] i k changed same = refl
rank_of-set (r ∷ rs) zero zero changed same = sym same
rank_of-set (r ∷ rs) zero (suc k) changed same = refl
rank_of-set (r ∷ rs) (suc i) zero changed same = refl
rank_of-set (r ∷ rs) (suc i) (suc k) changed same = rank_of-set rs i k changed same

module _ (records : List TaskRecord) (t : Task) (changed : TaskRecord) (same : rank_of (item no_task records t.number) ≡ rank_of changed) where
  after : List TaskRecord
  after = with_item records t.number changed

  same_ready : (p : Proc) → is_ready_on after p ≡ is_ready_on records p
  unfolding after
  same_ready p = fun_ext (λ (u : Task). ap (λ (rank : Bool × ℕ × ℕ). rank.0 && rank.1 == p.number) (rank_of-set records (t.number - 1) (u.number - 1) changed same))

  same_priority : priority_in after ≡ priority_in records
  unfolding after
  same_priority = fun_ext (λ (u : Task). ap (λ (rank : Bool × ℕ × ℕ). rank.2) (rank_of-set records (t.number - 1) (u.number - 1) changed same))

  same_top : (ready : List ℕ) (n : ℕ) (p : Proc) → top_among after ready n p ≡ top_among records ready n p
  same_top ready n p =
      ap (λ (q : Task → Bool). first (in_order q (comes_before (priority_in after) ready) n)) (same_ready p)
      ∙ ap (λ (rank : Task → ℕ). first (in_order (is_ready_on records p) (comes_before rank ready) n)) same_priority

  pub same_tops : (ready : List ℕ) (tops : List (Option Task)) → AreTops records ready tops → AreTops (with_item records t.number changed) ready tops
  unfolding after
  same_tops ready tops are =
      let long : length (with_item records t.number changed) ≡ length records = length-set records (t.number - 1) changed in
      record {
        places = are.places;
        each = λ p. are.each p ∙ sym (same_top ready (length records) p) ∙ ap (λ (n : ℕ). top_among (with_item records t.number changed) ready n p) (sym long);
      }
