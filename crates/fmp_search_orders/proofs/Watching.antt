-- What is asked of every event from one on, over places and over orders.
use Rattle.std.proofs.Common.{◌≡◌, ◌∙◌, ℕ, zero, suc, ◌+◌, ◌*◌, ◌/◌, ◌%◌, ◌^◌, ◌<◌, ◌≤◌, Bool, true, false, cond, List, [], ◌∷◌, ◌++◌, length, map, Option, Some, None, refl, ap, sym, subst, arith, eqb}
use Rattle.std.specs.Prelude.{option_map, is_some, slice_index_or}
use Rattle.std.specs.Option.{option_and_then}
use Rattle.std.proofs.lemmas.List.{get_or-map, length-map}
use Rattle.std.proofs.Math.Nat.{div-div-eq-div-mul, pow-succ'}
use Rattle.fmp_text_scripts.specs.Scripts.{Steps}
use Rattle.fmp_setup.specs.Setup.{Setup}
use Rattle.fmp_setup.specs.Valid.{IsValid}
use Rattle.fmp_search.specs.Runs.{run}
use Rattle.fmp_search.specs.Forever.{EndsForEver, is_bit, test_of}
use Rattle.fmp_search_pattern.specs.Lasting.{Lasting, is_so}
use Rattle.fmp_search_pattern.specs.Sights.{Sight}
use Rattle.fmp_search_orders.specs.declared.rules.Rules.{Rules}
use Rattle.fmp_search_orders.specs.Places.{Place, origin, after}
use Rattle.fmp_search_orders.specs.Lasting.{step_test}
use Rattle.fmp_search_orders.specs.Watched.{Watched, watched, watched_after, bits_of, watched_passes, lasting_at, WatchedAnswer}
use Rattle.fmp_search_orders.proofs.Staying.{lasting_answer}

-- ---- bits

half_of : (b : Bool) (n : ℕ) → (cond b 1 0 + 2 * n) / 2 ≡ n
half_of true n = omega arith
half_of false n = omega arith

low_of : (b : Bool) (n : ℕ) → eqb ((cond b 1 0 + 2 * n) / 1 % 2) 1 ≡ b
low_of true n = let one : (1 + 2 * n) / 1 % 2 ≡ 1 = omega arith in ap (λ k. eqb k 1) one
low_of false n = let none : (0 + 2 * n) / 1 % 2 ≡ 0 = omega arith in ap (λ k. eqb k 1) none

pub bit_is : (bs : List Bool) (k : ℕ) → k < length bs → is_bit (bits_of bs) k ≡ slice_index_or bs k false
bit_is [] k less = absurd (omega (arith, less))
bit_is (b ∷ bs) zero less = low_of b (bits_of bs)
bit_is (b ∷ bs) (suc k) less =
    let all = cond b 1 0 + 2 * bits_of bs in
    let there : all / 2 ^ suc k ≡ bits_of bs / 2 ^ k = ap (λ n. all / n) (pow-succ' 2 k) ∙ sym (div-div-eq-div-mul all 2 (2 ^ k)) ∙ ap (λ n. n / 2 ^ k) (half_of b (bits_of bs)) in
    ap (λ n. eqb (n % 2) 1) there ∙ bit_is bs k (omega (arith, less))

-- so many bits are less than that power of two
pub bits_less : (bs : List Bool) → bits_of bs < 2 ^ length bs
bits_less [] = omega arith
bits_less (true ∷ bs) = let less = bits_less bs in let twice = pow-succ' 2 (length bs) in omega (arith, less, twice)
bits_less (false ∷ bs) = let less = bits_less bs in let twice = pow-succ' 2 (length bs) in omega (arith, less, twice)

module _ (lasting : List Lasting) where
  abbrev W : Place → Watched
  W w = watched lasting w

  -- ---- runs

  pub run_watched : (steps : List ℕ) (q : Place) → run watched_after (W q) steps ≡ option_map W (run after q steps)
  run_watched [] q = refl
  run_watched (s ∷ steps) q = go (λ p. run_watched steps p) (after q s)
    where
      go : ((p : Place) → run watched_after (W p) steps ≡ option_map W (run after p steps)) → (o : Option Place) →
          option_and_then (λ r. run watched_after r steps) (option_map W o) ≡ option_map W (option_and_then (λ r. run after r steps) o)
      go rest None = refl
      go rest (Some p) = rest p

  same_watched : (a b : Watched) → Some a ≡ Some b → a ≡ b
  same_watched a b is = cc

  pub unwatched : (o : Option Place) (w : Watched) → option_map W o ≡ Some w → (p : Place) × (o ≡ Some p) × (W p ≡ w)
  unwatched None w is = cc
  unwatched (Some p) w is = (p, refl, same_watched (W p) w is)

  module _ (k : ℕ) (less : k < length lasting) where
    abbrev asked : Sight → Bool
    asked = is_so (lasting_at lasting k)

    -- the bit of a number is what is asked under it
    same_bit : (p : Place) (s : ℕ) → test_of watched_passes k (W p) s ≡ step_test asked p s
    same_bit p s =
        let test : Lasting → Bool = λ l. step_test (is_so l) p s in
        bit_is (map test lasting) k (subst (λ n. k < n) (sym (length-map lasting test)) less) ∙ get_or-map test lasting k ([] ∷ []) false less

    down : (q : Place) (steps : List ℕ) → EndsForEver watched_after (test_of watched_passes k) (W q) steps → EndsForEver after (step_test asked) q steps
    down q steps ends =
        let at = unwatched (run after q ends.before) ends.place (sym (run_watched ends.before q) ∙ ends.leads) in
        let goes : watched_after (W at.0) ends.last ≡ Some ends.next = subst (λ w. watched_after w ends.last ≡ Some ends.next) (sym at.2) ends.goes in
        let to = unwatched (after at.0 ends.last) ends.next goes in
        record {
          before = ends.before;
          last = ends.last;
          is = ends.is;
          place = at.0;
          next = to.0;
          leads = at.1;
          goes = to.1;
          passes = sym (same_bit at.0 ends.last) ∙ subst (λ w. test_of watched_passes k w ends.last ≡ true) (sym at.2) ends.passes;
          for_ever = λ more t u s leads more_goes.
              sym (same_bit t s)
              ∙ ends.for_ever more (W t) (W u) s (subst (λ w. run watched_after w more ≡ Some (W t)) to.2 (run_watched more to.0 ∙ ap (option_map W) leads)) (ap (option_map W) more_goes);
        }

    up : (q : Place) (steps : List ℕ) → EndsForEver after (step_test asked) q steps → EndsForEver watched_after (test_of watched_passes k) (W q) steps
    up q steps ends = record {
      before = ends.before;
      last = ends.last;
      is = ends.is;
      place = W ends.place;
      next = W ends.next;
      leads = run_watched ends.before q ∙ ap (option_map W) ends.leads;
      goes = ap (option_map W) ends.goes;
      passes = same_bit ends.place ends.last ∙ ends.passes;
      for_ever = λ more t u s leads goes.
          let at = unwatched (run after ends.next more) t (sym (run_watched more ends.next) ∙ leads) in
          let to = unwatched (after at.0 s) u (subst (λ w. watched_after w s ≡ Some u) (sym at.2) goes) in
          subst (λ w. test_of watched_passes k w s ≡ true) at.2 (same_bit at.0 s ∙ ends.for_ever more at.0 to.0 s at.1 to.1);
    }

-- the steps of a run that ends so can be made
run_to_end : (q p n : Place) (before : List ℕ) (last : ℕ) → run after q before ≡ Some p → after p last ≡ Some n → is_some (run after q (before ++ last ∷ [])) ≡ true
run_to_end q p n [] last leads goes =
    let some : Some q ≡ Some p = leads in
    let same : q ≡ p = cc in
    let there : run after p (last ∷ []) ≡ Some n = ap (λ (o : Option Place). option_and_then (λ r. run after r []) o) goes in
    ap is_some (subst (λ (w : Place). run after w (last ∷ []) ≡ Some n) (sym same) there)
run_to_end q p n (s ∷ before) last leads goes = go (λ x is. run_to_end x p n before last is goes) (after q s) leads
  where
    go : ((x : Place) → run after x before ≡ Some p → is_some (run after x (before ++ last ∷ [])) ≡ true) → (o : Option Place) →
        option_and_then (λ r. run after r before) o ≡ Some p → is_some (option_and_then (λ r. run after r (before ++ last ∷ [])) o) ≡ true
    go rest None is = cc
    go rest (Some x) is = rest x is

pub watched_answer : (c : Setup) (scripts : List Steps) (rules : Rules) (lasting : List Lasting) → IsValid c → WatchedAnswer c scripts rules lasting
watched_answer c scripts rules lasting valid =
    let q = origin c scripts rules [] in
    let law = λ (k : ℕ). lasting_answer c scripts rules (is_so (lasting_at lasting k)) valid in
    record {
      never = λ k less none h so. let r = (law k).runs h so in none r.0 (up lasting k less q r.0 r.1.0);
      found = λ k steps less ends. (law k).found steps (down lasting k less q steps ends);
      made = λ k steps ends.
          let at = unwatched lasting (run after q ends.before) ends.place (sym (run_watched lasting ends.before q) ∙ ends.leads) in
          let goes : watched_after (watched lasting at.0) ends.last ≡ Some ends.next = subst (λ w. watched_after w ends.last ≡ Some ends.next) (sym at.2) ends.goes in
          let to = unwatched lasting (after at.0 ends.last) ends.next goes in
          subst (λ (x : List ℕ). is_some (run after q x) ≡ true) (sym ends.is) (run_to_end q at.0 to.0 ends.before ends.last at.1 to.1);
      shortest = λ n least k h less so.
          let r = (law k).runs h so in
          subst (λ m. n ≤ m) r.1.1 (least k r.0 less (up lasting k less q r.0 r.1.0));
    }
