-- The calls on the processors and on the state of dispatching do the same on lists and on numbers.
use Rattle.std.proofs.Common.{◌≡◌, ◌≤◌, ℤ, List, [], ◌∷◌, length, refl, sym, subst, ◌∙◌, Option, Some}
use Rattle.std.specs.Prelude.{is_some, unwrap_or}
use Rattle.std.proofs.lemmas.Bool.{and_parts, or_left}
use Rattle.fmp_codes.specs.declared.numbers.Proc.{Proc}
use Rattle.fmp_codes.specs.declared.numbers.Task.{Task}
use Rattle.fmp_codes.specs.declared.numbers.Pri.{Pri}
use Rattle.fmp_codes.specs.declared.calls.SystemCall.{SystemCall}
use Rattle.fmp_codes.specs.declared.calls.SystemCall.TheVariants as call
use Rattle.fmp_rules.specs.World.{World, task, processor, handler, is_held, first}
use Rattle.fmp_rules.specs.Arrivals.{State, Arrivals, numbered}
use Rattle.fmp_rules.specs.Tasks.{rotate}
use Rattle.fmp_rules.specs.Arguments.{caller, processor_named, priority_or}
use Rattle.fmp_rules.specs.Rows.{Row, check, called, in_handler, done}
use Rattle.fmp_rules.specs.SystemCalls.{rotation, rotation_in_handler, get_tid, get_pid, loc_cpu, unl_cpu, dis_dsp, ena_dsp, sense, system_row}
use Rattle.fmp_kernel_order.specs.Queues.{Queues, listed}
use Rattle.fmp_rules.specs.Ordering.{order_in}
use Rattle.fmp_law_lists.specs.Stands.{count_in, with_order, AreListsOf, Matches}
use Rattle.fmp_law_lists.proofs.Listings.{In, itself}
use Rattle.fmp_law_lists.proofs.Tops.{same_ready, runs_within}
use Rattle.fmp_law_lists.proofs.Matching.{matches, placed_again, called_matches}

module _ (m : State) (q : Queues) (s : AreListsOf q m) where
  abbrev w : World Queues
  w = with_order m q

  -- the first of some tasks that there are comes last of its priority
  rotated : (us : List Task) → ((t : Task) → In t us → t.number ≤ length m.tasks) → Matches (rotate listed w (first us), done) (rotate numbered m (first us), done)
  rotated [] h = matches m q s done
  rotated (t ∷ us) h = placed_again m q s t (h t (or_left _ _ (itself t))) (task m t) done refl refl

  rotated_on : (r : Proc) (n : Pri) → Matches (rotate listed w (first (listed.ready q m.tasks r n)), done) (rotate numbered m (first (numbered.ready m.order m.tasks r n)), done)
  unfolding listed
  rotated_on r n =
      subst (λ us. Matches (rotate listed w (first (listed.ready q m.tasks r n)), done) (rotate numbered m (first us), done))
      (same_ready m.tasks (order_in m) (count_in m) m.waits_left q m.order s r n)
      (rotated (listed.ready q m.tasks r n) (λ t h. runs_within m.tasks t (and_parts _ _ (and_parts _ _ (sym ((s.ready.lists r n).members t) ∙ h)).0).0))

  module _ (p : Proc) where
    rotates : (r : Option Proc) (n : ℤ) → Matches (called w p (rotation listed w p r n)) (called m p (rotation numbered m p r n))
    unfolding rotation
    rotates r n =
        called_matches m q s p (rotation listed w p r n) (rotation numbered m p r n) refl
        (λ _. rotated_on (unwrap_or r p) (priority_or (task m (caller m p)).priority n))

    rotates_in_handler : (r : Option Proc) (n : ℤ) → Matches (called w p (rotation_in_handler listed w p r n)) (called m p (rotation_in_handler numbered m p r n))
    unfolding rotation rotation_in_handler
    rotates_in_handler r n =
        called_matches m q s p (rotation_in_handler listed w p r n) (rotation_in_handler numbered m p r n) refl
        (λ _. rotated_on (unwrap_or r p) (priority_or (task m (caller m p)).priority n))

    -- a call that tells something, or changes its processor
    plainly : (a : Row Queues) (b : Row Arrivals) → AreListsOf q b.effect.0 → check w p a ≡ check m p b → a.effect ≡ (with_order b.effect.0 q, b.effect.1) → Matches (called w p a) (called m p b)
    plainly a b k same did = called_matches m q s p a b same (λ _. subst (λ x. Matches x b.effect) (sym did) (matches b.effect.0 q k b.effect.1))

    pub system_matches : (c : SystemCall) → Matches (called w p (system_row listed w p c)) (called m p (system_row numbered m p c))
    system_matches (call.RotRdq n) = rotates (Some p) n
    system_matches (call.IrotRdq n) = rotates_in_handler (Some p) n
    system_matches (call.MrotRdq n r) = rotates (processor_named m r) n
    system_matches (call.ImrotRdq n r) = rotates_in_handler (processor_named m r) n
    system_matches call.GetTid = plainly (get_tid w p) (get_tid m p) s refl refl
    system_matches call.IgetTid = plainly (in_handler (get_tid w p)) (in_handler (get_tid m p)) s refl refl
    system_matches call.GetPid = plainly (get_pid w p) (get_pid m p) s refl refl
    system_matches call.IgetPid = plainly (in_handler (get_pid w p)) (in_handler (get_pid m p)) s refl refl
    system_matches call.LocCpu = plainly (loc_cpu w p) (loc_cpu m p) s refl refl
    system_matches call.IlocCpu = plainly (in_handler (loc_cpu w p)) (in_handler (loc_cpu m p)) s refl refl
    system_matches call.UnlCpu = plainly (unl_cpu w p) (unl_cpu m p) s refl refl
    system_matches call.IunlCpu = plainly (in_handler (unl_cpu w p)) (in_handler (unl_cpu m p)) s refl refl
    system_matches call.DisDsp = plainly (dis_dsp w p) (dis_dsp m p) s refl refl
    system_matches call.EnaDsp = plainly (ena_dsp w p) (ena_dsp m p) s refl refl
    system_matches call.SnsCtx = plainly (sense w (is_some (handler w p))) (sense m (is_some (handler m p))) s refl refl
    system_matches call.SnsLoc = plainly (sense w (processor w p).locked) (sense m (processor m p).locked) s refl refl
    system_matches call.SnsDsp = plainly (sense w (processor w p).disabled) (sense m (processor m p).disabled) s refl refl
    system_matches call.SnsDpn = plainly (sense w (is_held w p)) (sense m (is_held m p)) s refl refl
