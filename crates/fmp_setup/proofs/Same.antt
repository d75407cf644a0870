-- The comparison of what a configuration says decides equality.
use Rattle.std.proofs.Common.{◌≡◌, ◌&&◌, refl, ap, ◌∙◌, eqb, Decides}
use mathlib.Core.Bool.{beq}
use Rattle.std.specs.Cmp.Lexicographic.{pointwise}
use Rattle.std.proofs.lemmas.Bool.Decides.{Decides-like, Decides-and, Decides-eqb}
use Rattle.std.proofs.lemmas.Slice.Eq.{slice_eq-Decides}
use Rattle.std.specs.Cmp.{booleans_Decides}
use Rattle.fmp_setup.specs.declared.setup.Class.{Class}
use Rattle.fmp_setup.specs.declared.setup.TaskSetup.{TaskSetup}
use Rattle.fmp_setup.specs.declared.setup.CyclicSetup.{CyclicSetup}
use Rattle.fmp_setup.specs.declared.setup.AlarmSetup.{AlarmSetup}
use Rattle.fmp_codes.specs.declared.numbers.Proc.{Proc}
use Rattle.fmp_codes.specs.declared.numbers.Pri.{Pri}
use Rattle.fmp_codes.proofs.Same.{processors_same, priorities_same}

pub processors_decide : (p q : Proc) → Decides (eqb p.number q.number) (p ≡ q)
processors_decide p q =
    Decides-like _ (processors_same p q) (ap (λ (x : Proc). x.number)) (Decides-eqb p.number q.number)

priorities_decide : (p q : Pri) → Decides (eqb p.number q.number) (p ≡ q)
priorities_decide p q =
    Decides-like _ (priorities_same p q) (ap (λ (x : Pri). x.number)) (Decides-eqb p.number q.number)

-- of equal parts the whole is equal, part by part
module _ {A B : Type 0} (a c : A) (b d : B) where
  parts_same : {X : Type 0} (make : A → B → X) → (a ≡ c) × (b ≡ d) → make a b ≡ make c d
  parts_same make e = ap (λ x. make x b) e.0 ∙ ap (make c) e.1

pub classes_decide : (a b : Class) → Decides (eqb a.initial.number b.initial.number && pointwise beq a.members b.members) (a ≡ b)
classes_decide a b =
    Decides-like _ (parts_same a.initial b.initial a.members b.members (λ initial members. record { initial = initial; members = members })) (λ e. (ap (λ (c : Class). c.initial) e, ap (λ (c : Class). c.members) e))
    (Decides-and _ _ (processors_decide a.initial b.initial) (slice_eq-Decides booleans_Decides a.members b.members _ refl))

pub alarms_decide : (a b : AlarmSetup) → Decides ((eqb a.class.initial.number b.class.initial.number && pointwise beq a.class.members b.class.members) && eqb a.handler b.handler) (a ≡ b)
alarms_decide a b =
    Decides-like _ (parts_same a.class b.class a.handler b.handler (λ class handler. record { class = class; handler = handler })) (λ e. (ap (λ (x : AlarmSetup). x.class) e, ap (λ (x : AlarmSetup). x.handler) e))
    (Decides-and _ _ (classes_decide a.class b.class) (Decides-eqb a.handler b.handler))

pub tasks_decide : (a b : TaskSetup)
    → Decides ((eqb a.class.initial.number b.class.initial.number && pointwise beq a.class.members b.class.members) && (eqb a.main b.main && (eqb a.priority.number b.priority.number && beq a.starts b.starts))) (a ≡ b)
tasks_decide a b =
    let all = Decides-and _ _ (classes_decide a.class b.class) (Decides-and _ _ (Decides-eqb a.main b.main) (Decides-and _ _ (priorities_decide a.priority b.priority) (booleans_Decides a.starts b.starts))) in
    Decides-like _ (λ p.
    ap (λ x. record { class = x; main = a.main; priority = a.priority; starts = a.starts }) p.0
    ∙ ap (λ x. record { class = b.class; main = x; priority = a.priority; starts = a.starts }) p.1.0
    ∙ ap (λ x. record { class = b.class; main = b.main; priority = x; starts = a.starts }) p.1.1.0
    ∙ ap (λ x. record { class = b.class; main = b.main; priority = b.priority; starts = x }) p.1.1.1)
    (λ e. (ap (λ (x : TaskSetup). x.class) e, (ap (λ (x : TaskSetup). x.main) e, (ap (λ (x : TaskSetup). x.priority) e, ap (λ (x : TaskSetup). x.starts) e)))) all

pub cyclics_decide : (a b : CyclicSetup)
    → Decides ((eqb a.class.initial.number b.class.initial.number && pointwise beq a.class.members b.class.members) && (eqb a.handler b.handler && (eqb a.period b.period && (eqb a.phase b.phase && beq a.starts b.starts)))) (a ≡ b)
cyclics_decide a b =
    let all = Decides-and _ _ (classes_decide a.class b.class) (Decides-and _ _ (Decides-eqb a.handler b.handler) (Decides-and _ _ (Decides-eqb a.period b.period) (Decides-and _ _ (Decides-eqb a.phase b.phase) (booleans_Decides a.starts b.starts)))) in
    Decides-like _ (λ p.
    ap (λ x. record { class = x; handler = a.handler; period = a.period; phase = a.phase; starts = a.starts }) p.0
    ∙ ap (λ x. record { class = b.class; handler = x; period = a.period; phase = a.phase; starts = a.starts }) p.1.0
    ∙ ap (λ x. record { class = b.class; handler = b.handler; period = x; phase = a.phase; starts = a.starts }) p.1.1.0
    ∙ ap (λ x. record { class = b.class; handler = b.handler; period = b.period; phase = x; starts = a.starts }) p.1.1.1.0
    ∙ ap (λ x. record { class = b.class; handler = b.handler; period = b.period; phase = b.phase; starts = x }) p.1.1.1.1)
    (λ e. (ap (λ (x : CyclicSetup). x.class) e, (ap (λ (x : CyclicSetup). x.handler) e, (ap (λ (x : CyclicSetup). x.period) e, (ap (λ (x : CyclicSetup). x.phase) e, ap (λ (x : CyclicSetup). x.starts) e))))) all
