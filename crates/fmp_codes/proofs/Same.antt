-- Of one number there is one processor, task, object and priority.
use Rattle.std.proofs.Common.{◌≡◌, ℕ, ◌≤◌, ap, ◌∙◌, subst, arith}
use Rattle.std.specs.Coded.{le_prop}
use Rattle.fmp_codes.specs.Numbers.{as_proc, as_task, as_object, within}
use Rattle.fmp_codes.specs.declared.numbers.Proc.{Proc}
use Rattle.fmp_codes.specs.declared.numbers.Task.{Task}
use Rattle.fmp_codes.specs.declared.numbers.Object.{Object}
use Rattle.fmp_codes.specs.declared.numbers.Pri.{Pri}

pub made_same : {X : Type 0} (most : ℕ) (make : (n : ℕ) → 1 ≤ n → n ≤ most → X) (n k : ℕ) → n ≡ k
    → (l : 1 ≤ n) (m : n ≤ most) (l' : 1 ≤ k) (m' : k ≤ most) → make n l m ≡ make k l' m'
made_same most make n k e l m =
    let P : ℕ → Type 0 = λ k. (l' : 1 ≤ k) (m' : k ≤ most) → make n l m ≡ make k l' m' in
    subst P e (λ l' m'. ap (λ x. make n x m) (le_prop l l') ∙ ap (λ x. make n l' x) (le_prop m m'))

pub processors_same : (p q : Proc) → p.number ≡ q.number → p ≡ q
processors_same p q e = made_same 8 (λ n l m. record { number = n; least = l; most = m }) p.number q.number e p.least p.most q.least q.most

pub tasks_same : (p q : Task) → p.number ≡ q.number → p ≡ q
tasks_same p q e = made_same 64 (λ n l m. record { number = n; least = l; most = m }) p.number q.number e p.least p.most q.least q.most

pub objects_same : (p q : Object) → p.number ≡ q.number → p ≡ q
objects_same p q e = made_same 32 (λ n l m. record { number = n; least = l; most = m }) p.number q.number e p.least p.most q.least q.most

pub priorities_same : (p q : Pri) → p.number ≡ q.number → p ≡ q
priorities_same p q e = made_same 32 (λ n l m. record { number = n; least = l; most = m }) p.number q.number e p.least p.most q.least q.most

-- and each is the one of its number
within-same : (most n : ℕ) → 1 ≤ n → n ≤ most → within most n ≡ n
within-same most n least few = omega (arith, least, few)

pub as_proc-number : (p : Proc) → as_proc p.number ≡ p
as_proc-number p = processors_same (as_proc p.number) p (within-same 8 p.number p.least p.most)

pub as_task-number : (t : Task) → as_task t.number ≡ t
as_task-number t = tasks_same (as_task t.number) t (within-same 64 t.number t.least t.most)

pub as_object-number : (o : Object) → as_object o.number ≡ o
as_object-number o = objects_same (as_object o.number) o (within-same 32 o.number o.least o.most)
