-- What a key says of its place.
use Rattle.std.proofs.Common.{◌≡◌, ◌∙◌, ◌-◌, ◌/◌, ◌%◌, ◌^◌, ℕ, List, length, slice_index, refl, ap, sym, subst}
use Rattle.fmp_interned.specs.Trees.{IsTree}
use Rattle.fmp_kernel_order.specs.Queues.{Queues}
use Rattle.fmp_kernel_packed.specs.declared.packed.Packed.{Packed}
use Rattle.fmp_kernel_packed.specs.Kernels.{IsKernel}
use Rattle.fmp_rules.specs.World.{World}
use Rattle.fmp_search_orders.specs.Places.{Place}
use Rattle.fmp_setup.specs.Valid.{IsValid}
use Rattle.fmp_search_kernel.specs.Keys.{count_of_words, words_of, AreOfPlace, IsPlaceKey, KeptPlaces}
use Rattle.fmp_search_kernel.specs.Walked.{origin_of}
use Rattle.fmp_search_kernel.proofs.Keyed.{kernel_moved, words_count, words_parts}

module _ (o : Place) (kept : KeptPlaces) (key : ℕ) (p : Place) (g : IsPlaceKey o kept key p) (valid : IsValid o.config) where
  pub of_config : p.config ≡ o.config
  of_config = ap (λ (x : Place). x.config) g.origin

  -- so many numbers tell it
  pub as_many : (count : ℕ) → count ≡ count_of_words o.config → length (words_of p g.counting) ≡ count
  as_many count is = words_count o.config p g.counting of_config valid.few_processors valid.few_tasks g.packable ∙ sym is

  -- they have this key
  pub its_tree : (inside : KeptPlaces) (words : ℕ) → inside ≡ kept → words ≡ key % 2 ^ 32 → IsTree inside.pairs (words_of p g.counting) words
  its_tree inside words same is =
      subst (λ (w : ℕ). IsTree inside.pairs (words_of p g.counting) w) (sym is) (subst (λ (t : KeptPlaces). IsTree t.pairs (words_of p g.counting) (key % 2 ^ 32)) (sym same) g.tree)

  -- and its kernel has these numbers
  pub are_of : (packed : Packed) (numbers : List ℕ) → packed.machine ≡ key / 2 ^ 32 → packed.counting ≡ slice_index numbers (length numbers - 1) → numbers ≡ words_of p g.counting →
      AreOfPlace o kept p numbers packed
  are_of packed numbers machine last is =
      let counting = last ∙ (words_parts o.config p g.counting of_config valid.few_processors valid.few_tasks g.packable numbers is).last in
      record {
        words = is ∙ ap (words_of p) (sym counting);
        kernel =
            kernel_moved kept.parts kept.parts (origin_of p).machine (origin_of o).machine p.machine p.machine (key / 2 ^ 32) packed.machine g.counting packed.counting refl
            (ap (λ (x : Place). x.machine) g.origin) refl (sym machine) (sym counting) g.kernel;
      }

-- so said of what is the same
pub kernel_of : (o p : Place) (kept inside : KeptPlaces) (numbers : List ℕ) (packed : Packed) (start : World Queues) → inside ≡ kept → start ≡ (origin_of o).machine → AreOfPlace o kept p numbers packed →
    IsKernel inside.parts start p.machine packed.machine packed.counting
kernel_of o p kept inside numbers packed start same begun are =
    kernel_moved kept.parts inside.parts (origin_of o).machine start p.machine p.machine packed.machine packed.machine packed.counting packed.counting (ap (λ (t : KeptPlaces). t.parts) (sym same))
    (sym begun) refl refl refl are.kernel
