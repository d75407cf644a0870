-- What is so where a call is accepted.
use Rattle.std.proofs.Common.{◌≡◌, Bool, true, false, not, ◌||◌, ◌&&◌, List, [], ◌∷◌, refl, sym, ap, subst, Option, Some, None}
use Rattle.std.specs.Prelude.{if◌then◌else◌, is_some, unwrap_or}
use Rattle.std.proofs.lemmas.Bool.{or_parts, not-false, false≢true, both_ways, eq-eqb}
use Rattle.std.proofs.lemmas.Option.{none-some}
use Rattle.fmp_codes.specs.Numbers.{as_task}
use Rattle.fmp_codes.specs.declared.numbers.Proc.{Proc}
use Rattle.fmp_codes.specs.declared.numbers.Task.{Task}
use Rattle.fmp_codes.specs.declared.codes.Code.{Code}
use Rattle.fmp_codes.specs.declared.codes.Code.TheVariants as code
use Rattle.fmp_rules.specs.declared.machine.Context.{Context}
use Rattle.fmp_rules.specs.declared.machine.Context.TheVariants as context
use Rattle.fmp_rules.specs.World.{World, processor, handler, is_held}
use Rattle.fmp_rules.specs.Rows.{Row, is_refused_context, first_error, check, called, called_by}
use Rattle.fmp_rules.specs.Ordering.{Ordering}
use Rattle.fmp_rules.specs.Arguments.{caller, is_caller}
use Rattle.fmp_law_safety.specs.Safe.{SafeAt}
use Rattle.fmp_law_safety.proofs.Keeps.{Occupied, KeepsOthers, keeps_all}

-- the row of a call as it is made from a task or from a handler
abbrev pub from : {Q : Type 0} → Context → Row Q → Row Q
from c row = record row { rule = record row.rule { context = c } }

-- no test for an error passes
abbrev pub NonePasses : List (Bool × Code) → Type 0
NonePasses [] = Unit {0}
NonePasses (e ∷ es) = (e.0 ≡ false) × NonePasses es

-- no error of a call applies
pub record Accepts {Q : Type 0} (w : World Q) (p : Proc) (row : Row Q) : Type 0 where
  pub rule : is_refused_context w p row.rule ≡ false
  pub known : row.known ≡ true
  pub proper : row.proper ≡ true
  pub errors : NonePasses row.errors

-- none of the tests passes
none_parts : (b : Bool) (c : Code) (o : Option Code) → (if b then Some c else o) ≡ None → (b ≡ false) × (o ≡ None)
none_parts true c o e = absurd (none-some c (sym e))
none_parts false c o e = (refl, e)

none_passes : (es : List (Bool × Code)) → first_error es ≡ None → NonePasses es
none_passes [] e = tt
none_passes (x ∷ es) e = let parts = none_parts x.0 x.1 (first_error es) e in (parts.0, none_passes es parts.1)

module _ {Q : Type 0} (w : World Q) (p : Proc) where
  pub accepts : (row : Row Q) → check w p row ≡ None → Accepts w p row
  accepts row e =
      let one = none_parts (is_refused_context w p row.rule) code.Context _ e in
      let two = none_parts (not row.known) code.Identifier _ one.1 in
      let three = none_parts (not row.proper) code.Parameter _ two.1 in
      record { rule = one.0; known = not-false _ two.0; proper = not-false _ three.0; errors = none_passes row.errors three.1 }

  -- a call keeps what its effect keeps where it is accepted
  pub keeps_called : (row : Row Q) → Occupied w p → (Accepts w p row → KeepsOthers w row.effect.0 p) → KeepsOthers w (called w p row).0 p
  keeps_called row o keeps = go (check w p row) refl
    where
      go : (c : Option Code) → check w p row ≡ c → KeepsOthers w (called_by w row.effect c).0 p
      go None e = keeps (accepts row e)
      go (Some c) e = keeps_all w p o

  pub record FromTask : Type 0 where
    pub handler : is_some (handler w p) ≡ false
    pub running : (processor w p).running ≡ Some (caller w p)

  -- a call from a task: no handler is due, and a task runs
  pub from_task : (when_locked unheld : Bool) → is_refused_context w p (record { context = context.Task; when_locked = when_locked; unheld = unheld }) ≡ false → FromTask
  from_task when_locked unheld e =
      let lock : Bool = (processor w p).locked && not when_locked in
      let wrong : Bool = is_some (handler w p) || not (is_some (processor w p).running) in
      let parts = or_parts wrong lock (or_parts (wrong || lock) (unheld && is_held w p) e).0 in
      let both = or_parts (is_some (handler w p)) (not (is_some (processor w p).running)) parts.0 in
      record { handler = both.0; running = there (processor w p).running (not-false _ both.1) }
    where
      there : (o : Option Task) → is_some o ≡ true → o ≡ Some (unwrap_or o (as_task 1))
      there None h = absurd (false≢true h)
      there (Some t) h = refl

  -- a call that may be made only while p is not held
  pub free_where_unheld : (c : Context) (when_locked : Bool) → is_refused_context w p (record { context = c; when_locked = when_locked; unheld = true }) ≡ false → is_held w p ≡ false
  free_where_unheld c when_locked e = (or_parts _ _ e).1

  -- the task that an argument names is not what p runs, where it is not the caller
  pub not_caller : (t : Option Task) → is_some t ≡ true → is_caller w p t ≡ false → (processor w p).running ≡ Some (unwrap_or t (as_task 1)) → ⊥
  not_caller None known e r = false≢true known
  not_caller (Some t) known e r = both_ways _ e (rw r (eq-eqb t.number t.number refl))

  pub occupied_at : {k : Ordering Q} → SafeAt k w p → Occupied w p
  occupied_at s = record { held = s.occupied; disabled = s.disabled }

  pub some_runs : FromTask → is_some (processor w p).running ≡ true
  some_runs f = ap is_some f.running

  -- a call that tells something
  pub keeps_reported : (row : Row Q) → row.effect.0 ≡ w → Occupied w p → KeepsOthers w (called w p row).0 p
  keeps_reported row e o = keeps_called row o (λ a. subst (λ v. KeepsOthers w v p) (sym e) (keeps_all w p o))
