-- believed: see docs/PROOF.md, "What has to be believed"
-- The calls on the processors and on the state of dispatching.
use Rattle.std.specs.Prelude.{ℤ, pos, ◌&&◌, not, Bool, true, false, Option, Some, [], ◌∷◌, is_some, option_map, unwrap_or}
use Rattle.fmp_codes.specs.declared.numbers.Proc.{Proc}
use Rattle.fmp_codes.specs.declared.calls.SystemCall.{SystemCall}
use Rattle.fmp_codes.specs.declared.calls.SystemCall.TheVariants as call
use Rattle.fmp_codes.specs.declared.codes.Code.TheVariants as code
use Rattle.fmp_rules.specs.World.{World, task, processor, handler, is_held, first}
use Rattle.fmp_rules.specs.Ordering.{Ordering}
use Rattle.fmp_rules.specs.Tasks.{rotate}
use Rattle.fmp_rules.specs.Processors.{with_lock, with_dispatching_disabled, holds_lock}
use Rattle.fmp_rules.specs.Rows.{Row, row, on_named, no_errors, in_handler, from_anywhere, when_locked, done, with_value}
use Rattle.fmp_rules.specs.Arguments.{processor_named, caller, is_zero, priority_or, is_priority_or_zero}

abbrev pub truth : Bool → ℤ
truth true = pos 1
truth false = pos 0

-- a call from anywhere, in any state, that tells whether this is so: 1, or 0
abbrev pub sense : {Q : Type 0} → World Q → Bool → Row Q
sense w b = from_anywhere (row (w, with_value (truth b)))

module _ {Q : Type 0} (w : World Q) (p : Proc) where
  -- the number of the running task, or 0
  abbrev pub get_tid : Row Q
  get_tid = row (w, with_value (pos (unwrap_or (option_map (λ t. t.number) (processor w p).running) 0)))

  -- the number of the processor
  abbrev pub get_pid : Row Q
  get_pid = row (w, with_value (pos p.number))

  -- the processor is CPU-locked from now on, be it so already or not
  abbrev pub loc_cpu : Row Q
  loc_cpu = when_locked (row (with_lock w p true, done))

  -- the processor is no longer CPU-locked; one that holds a spin lock is unlocked with it alone
  abbrev pub unl_cpu : Row Q
  unl_cpu = when_locked (record (row (with_lock w p false, done)) { errors = (holds_lock w p, code.IllegalUse) ∷ [] })

  -- dispatching on the processor is disabled from now on, or enabled
  abbrev pub dis_dsp : Row Q
  dis_dsp = row (with_dispatching_disabled w p true, done)

  abbrev pub ena_dsp : Row Q
  ena_dsp = row (with_dispatching_disabled w p false, done)

module _ {Q : Type 0} (k : Ordering Q) (w : World Q) (p : Proc) where
  -- the first of the ready tasks of a priority on q comes last of it; 0 is the priority of the caller
  unfoldable pub rotation : Option Proc → ℤ → Row Q
  rotation q n =
      record (on_named p q no_errors
      (λ r. (rotate k w (first (k.ready w.order w.tasks r (priority_or (task w (caller w p)).priority n))), done)))
      { proper = is_priority_or_zero w.limits n }

  -- from a handler, and not with 0
  unfoldable pub rotation_in_handler : Option Proc → ℤ → Row Q
  rotation_in_handler q n = in_handler (record (rotation q n) { proper = is_priority_or_zero w.limits n && not (is_zero n) })

  abbrev pub system_row : SystemCall → Row Q
  system_row (call.RotRdq n) = rotation (Some p) n
  system_row (call.IrotRdq n) = rotation_in_handler (Some p) n
  system_row (call.MrotRdq n q) = rotation (processor_named w q) n
  system_row (call.ImrotRdq n q) = rotation_in_handler (processor_named w q) n
  system_row call.GetTid = get_tid w p
  system_row call.IgetTid = in_handler (get_tid w p)
  system_row call.GetPid = get_pid w p
  system_row call.IgetPid = in_handler (get_pid w p)
  system_row call.LocCpu = loc_cpu w p
  system_row call.IlocCpu = in_handler (loc_cpu w p)
  system_row call.UnlCpu = unl_cpu w p
  system_row call.IunlCpu = in_handler (unl_cpu w p)
  system_row call.DisDsp = dis_dsp w p
  system_row call.EnaDsp = ena_dsp w p
  system_row call.SnsCtx = sense w (is_some (handler w p))
  system_row call.SnsLoc = sense w (processor w p).locked
  system_row call.SnsDsp = sense w (processor w p).disabled
  system_row call.SnsDpn = sense w (is_held w p)
