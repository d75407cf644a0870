-- Keys of machines that play lines: each is the key of one machine, which has no other.
use Rattle.std.proofs.Common.{◌≡◌, ◌∙◌, ℕ, ◌/◌, ◌%◌, ◌^◌, List, refl, ap, sym, subst, length}
use Rattle.fmp_setup.specs.Setup.{Setup}
use Rattle.fmp_rules.specs.Boot.{boot}
use Rattle.fmp_rules.specs.World.{World}
use Rattle.fmp_kernel_order.specs.Queues.{Queues, listed, no_queues}
use Rattle.fmp_interned.specs.Keys.{AreKeptBy, IsKeyOf}
use Rattle.fmp_kernel_packed.specs.Kept.{KeptParts, ArePartsBefore, ArePartsOnce}
use Rattle.fmp_kernel_packed.specs.Kernels.{IsKernel}
use Rattle.fmp_kernel_packed.proofs.Laws.{kernel_one, kernel_only, kernel_stays}
use Rattle.fmp_search.proofs.InHalves.{halves_same}
use Rattle.fmp_trace_orders.specs.Keys.{IsPlayingKey}
use Rattle.fmp_trace_orders.specs.Playing.{Playing, with_machine}
use Rattle.fmp_trace_orders.specs.Standing.{begun}

-- machines that began alike differ in their states alone
playing_same : (p r : Playing Queues) → begun p ≡ begun r → p.machine ≡ r.machine → p ≡ r
playing_same p r begins machine = ap (λ (x : Playing Queues). with_machine x p.machine) begins ∙ ap (with_machine r) machine

module _ (kept : KeptParts) (o : Playing Queues) where
  pub playing_key : (w : Playing Queues) (machine counting key : ℕ) → ArePartsOnce kept → begun w ≡ begun o → key / 2 ^ 32 ≡ machine → key % 2 ^ 32 ≡ counting →
      IsKernel kept (begun o).machine w.machine machine counting → IsKeyOf (λ k s. IsPlayingKey kept o k s) w key
  playing_key w machine counting key once begins upper lower is =
      let half = subst (λ n. IsKernel kept (begun o).machine w.machine n counting) (sym upper) is in
      let here = subst (λ n. IsKernel kept (begun o).machine w.machine (key / 2 ^ 32) n) (sym lower) half in record {
        there = record { begins = begins; kernel = here };
        one = λ k g.
            let same = kernel_one kept (begun o).machine w.machine (key / 2 ^ 32) (k / 2 ^ 32) (key % 2 ^ 32) (k % 2 ^ 32) once here g.kernel in
            halves_same k key same.0 same.1;
        only = λ p g.
            playing_same p w (g.begins ∙ sym begins) (kernel_only kept (begun o).machine p.machine w.machine (key / 2 ^ 32) (key % 2 ^ 32) g.kernel here);
      }

  -- keys stay where more parts are kept
  pub playing_kept : (more : KeptParts) → ArePartsBefore kept more → AreKeptBy (λ k s. IsPlayingKey kept o k s) (λ k s. IsPlayingKey more o k s)
  playing_kept more before k s g = record {
    begins = g.begins;
    kernel = kernel_stays kept more (begun o).machine s.machine (k / 2 ^ 32) (k % 2 ^ 32) before g.kernel;
  }

-- the key of a machine by the numbers of its kernel, where this is the kernel at boot
pub packed_key : (kept : KeptParts) (c : Setup) (lines : List (List ℕ)) (machine start : World Queues) (state : Playing Queues) (m n key : ℕ) →
    record { config = c; lines = lines; machine = machine } ≡ state → start ≡ boot listed (no_queues c) c → ArePartsOnce kept → key / 2 ^ 32 ≡ m → key % 2 ^ 32 ≡ n →
    IsKernel kept start machine m n → IsKeyOf (λ k s. IsPlayingKey kept (begun state) k s) state key
packed_key kept c lines machine start state m n key is boots once upper lower packed =
    let at : Playing Queues = record { config = c; lines = lines; machine = machine } in
    subst (λ (x : Playing Queues). IsKeyOf (λ k s. IsPlayingKey kept (begun x) k s) x key) is
    (playing_key kept (begun at) at m n key once refl upper lower (subst (λ (v : World Queues). IsKernel kept v machine m n) boots packed))

-- the numbers of the kernel that a key tells
pub key_numbers : (kept : KeptParts) (c : Setup) (lines : List (List ℕ)) (machine start : World Queues) (state : Playing Queues) (m n key : ℕ) (p : Playing Queues) →
    record { config = c; lines = lines; machine = machine } ≡ state → start ≡ boot listed (no_queues c) c → m ≡ key / 2 ^ 32 → n ≡ key % 2 ^ 32 →
    IsPlayingKey kept (begun state) key p → IsKernel kept start p.machine m n
key_numbers kept c lines machine start state m n key p is boots upper lower g =
    let at : Playing Queues = record { config = c; lines = lines; machine = machine } in
    let of : IsKernel kept (begun at).machine p.machine (key / 2 ^ 32) (key % 2 ^ 32) =
    subst (λ (x : Playing Queues). IsKernel kept (begun x).machine p.machine (key / 2 ^ 32) (key % 2 ^ 32)) (sym is) g.kernel in
    let half = subst (λ k. IsKernel kept (begun at).machine p.machine k (key % 2 ^ 32)) (sym upper) of in
    let whole = subst (λ k. IsKernel kept (begun at).machine p.machine m k) (sym lower) half in
    subst (λ (v : World Queues). IsKernel kept v p.machine m n) (sym boots) whole

-- a machine with the kernel of a key is that of the key
pub key_there : (kept : KeptParts) (c : Setup) (lines : List (List ℕ)) (was machine : World Queues) (state : Playing Queues) (key : ℕ) (p : Playing Queues) →
    record { config = c; lines = lines; machine = was } ≡ state → IsPlayingKey kept (begun state) key p → machine ≡ p.machine →
    record { config = c; lines = lines; machine = machine } ≡ p
key_there kept c lines was machine state key p is g same =
    let at : Playing Queues = record { config = c; lines = lines; machine = was } in
    let begins : begun at ≡ begun p = ap begun is ∙ sym g.begins in
    playing_same (record { config = c; lines = lines; machine = machine }) p begins same

-- and it has as many processors as the kernel at boot
pub key_processors : (kept : KeptParts) (start machine w : World Queues) (m n count : ℕ) → IsKernel kept start w m n → machine ≡ w → length start.processors ≡ count →
    length machine.processors ≡ count
key_processors kept start machine w m n count is same counted =
    ap (λ (v : World Queues). length v.processors) same ∙ sym is.shaped.alike.processors ∙ counted
