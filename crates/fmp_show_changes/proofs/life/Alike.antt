-- What is told of a state with lists is told of each state with numbers for which it stands.
use Rattle.std.proofs.Common.{◌≡◌, ℕ, Bool, false, true, List, [], ◌∷◌, ◌++◌, map, refl, ap, ap₂, cond}
use Rattle.std.specs.List.{flat_map}
use Rattle.std.specs.Str.{bytes_eq}
use Rattle.fmp_rules.specs.Arrivals.{State}
use Rattle.fmp_rules.specs.World.{World}
use Rattle.fmp_names.specs.Names.{NameLists}
use Rattle.fmp_kernel_order.specs.Queues.{Queues}
use Rattle.fmp_law_lists.specs.Stands.{Stands}
use Rattle.fmp_show_changes.specs.declared.life.things.Thing.{Thing}
use Rattle.fmp_show_changes.specs.declared.life.things.Thing.TheVariants as thing
use Rattle.fmp_show_changes.specs.Life.Lines.{thing_line}
use Rattle.fmp_show_changes.specs.Life.Lives.{Seen, renewed, report_since}

module _ (k : World Queues) (m : State) (h : Stands k m) (lists : NameLists) where
  line_alike : (ticks : Bool) (x : Thing) → thing_line lists ticks k x ≡ thing_line lists ticks m x
  line_alike ticks (thing.Task t) = ap (λ (w : World Queues). thing_line lists ticks w (thing.Task t)) h.same
  line_alike ticks (thing.Semaphore s) = ap (λ (w : World Queues). thing_line lists ticks w (thing.Semaphore s)) h.same
  line_alike ticks (thing.Eventflag f) = ap (λ (w : World Queues). thing_line lists ticks w (thing.Eventflag f)) h.same
  line_alike ticks (thing.DataQueue d) = ap (λ (w : World Queues). thing_line lists ticks w (thing.DataQueue d)) h.same
  line_alike ticks (thing.Pool p) = ap (λ (w : World Queues). thing_line lists ticks w (thing.Pool p)) h.same
  line_alike ticks (thing.Cyclic c) = ap (λ (w : World Queues). thing_line lists ticks w (thing.Cyclic c)) h.same
  line_alike ticks (thing.Alarm a) = ap (λ (w : World Queues). thing_line lists ticks w (thing.Alarm a)) h.same
  line_alike ticks (thing.SpinLock l) = ap (λ (w : World Queues). thing_line lists ticks w (thing.SpinLock l)) h.same

  since_alike : (s : Seen) → report_since lists k s ≡ report_since lists m s
  since_alike s = ap₂ (λ (key line : List ℕ). cond (bytes_eq key s.text) [] line) (line_alike false s.thing) (line_alike true s.thing)

  pub report_alike : (seen : List Seen) → flat_map (report_since lists k) seen ≡ flat_map (report_since lists m) seen
  report_alike [] = refl
  report_alike (s ∷ seen) = ap₂ (λ (line rest : List ℕ). line ++ rest) (since_alike s) (report_alike seen)

  pub renewed_alike : (seen : List Seen) → map (renewed lists k) seen ≡ map (renewed lists m) seen
  renewed_alike [] = refl
  renewed_alike (s ∷ seen) =
      ap₂ (λ (key : List ℕ) (rest : List Seen). record { thing = s.thing; text = key } ∷ rest) (line_alike false s.thing) (renewed_alike seen)
