-- Marks of what was told of steps, where one more was tried or places were added.
use Rattle.std.proofs.Common.{◌≡◌, ◌⊎◌, inl, inr, ◌∙◌, ℕ, ◌+◌, ◌<◌, ◌≤◌, Bool, true, false, Option, None, Some, List, length, replicate, ap, sym, subst, below_more, arith, rules}
use Rattle.std.specs.Prelude.{slice_get}
use Rattle.std.proofs.Math.Nat.{eq-or-lt_of_le}
use Rattle.std.proofs.lemmas.Bool.{cases_lt}
use Rattle.fmp_search.specs.declared.nodes.Node.{Node}
use Rattle.fmp_search.specs.declared.space.Noted.{Noted}
use Rattle.fmp_search.specs.Runs.{told_of, Watches}
use Rattle.fmp_search.specs.Trees.{found_at}
use Rattle.fmp_search.specs.Growth.{Extends}
use Rattle.fmp_search.specs.Meeting.{AreNoted, IsMarked, IsNear, Notes}
use Rattle.fmp_search.proofs.Numbers.{no_mark}

module _ {P : Type 0} (after : P → ℕ → Option P) (passes tells : P → ℕ → ℕ) where
  some_is : (a b : P) → Some a ≡ Some b → a ≡ b
  some_is a b h = search rules

  -- a step that cannot be made needs no mark
  pub none_marked : (p r : P) (marks : List Bool) (s : ℕ) → p ≡ r → after p s ≡ None → IsMarked after tells r marks s
  none_marked p r marks s is h x goes few =
      absurd (let e : None ≡ Some x = sym h ∙ subst (λ (y : P). after y s ≡ Some x) (sym is) goes in search (rules, e))

  none_there : (o : Option P) (m : Noted) (r x : P) → Watches o m None r → o ≡ Some x → ⊥
  none_there None m r x h is = absurd (search rules)
  none_there (Some p) m r x h is = absurd (search (rules, h.0))

  pub not_marked : (p r next : P) (marks : List Bool) (s : ℕ) → p ≡ r → Watches (after p s) (told_of passes tells p s) None next → IsMarked after tells r marks s
  not_marked p r next marks s is h x goes few = absurd (none_there (after p s) (told_of passes tells p s) next x h (subst (λ (y : P). after y s ≡ Some x) (sym is) goes))

  -- the marks stay, where others are added
  stays : (r : P) (number : ℕ) (marks more : List Bool) (s : ℕ) → Notes number marks more → IsMarked after tells r marks s → IsMarked after tells r more s
  stays r number marks more s notes had next goes few = notes.kept (tells r s) (had next goes (subst (λ n. tells r s < n) notes.long few))

  made_there : (o : Option P) (m t : Noted) (r : P) → Watches o m (Some t) r → (o ≡ Some r) × (t ≡ m)
  made_there None m t r h = absurd (search rules)
  made_there (Some p) m t r h = (ap (λ (x : P). Some x) (sym h.1), search (rules, h.0))

  module _ (q : P) where
    near_later : (nodes : List Node) (first later n : ℕ) → first ≤ later → IsNear after tells q nodes first n → IsNear after tells q nodes later n
    near_later nodes first later n le near =
        let early = near.early in record { number = near.number; early = omega (arith, early, le); last = near.last }

    near_there : (nodes more : List Node) (first n : ℕ) → Extends after q nodes more → first ≤ length nodes + 1 → IsNear after tells q nodes first n → IsNear after tells q more first n
    near_there nodes more first n extends le near =
        let early = near.early in record {
          number = near.number;
          early = early;
          last = rw (extends.stays near.number (omega (arith, early, le))) near.last;
        }

    module _ (nodes more : List Node) (extends : Extends after q nodes more) where
      marked_there : (marks : List Bool) (i s : ℕ) → i ≤ length nodes → IsMarked after tells (found_at after q nodes i).place marks s → IsMarked after tells (found_at after q more i).place marks s
      marked_there marks i s le had = rw (extends.stays i le) had

      near_one : (marks new : List Bool) (at s n : ℕ) (t : Noted) (p r : P) → at ≤ length nodes → p ≡ (found_at after q more at).place →
          Watches (after p s) (told_of passes tells p s) (Some t) r → AreNoted after tells q nodes marks at s → (slice_get marks n ≡ Some true) ⊎ (n ≡ t.number) → IsNear after tells q more (at + 1) n
      near_one marks new at s n t p r le is h x (inl was) =
          near_there nodes more (at + 1) n extends (omega (arith, le)) (x.near n was (at + 1) (omega arith) (λ lt. omega arith))
      near_one marks new at s n t p r le is h x (inr same) =
          let there = made_there (after p s) (told_of passes tells p s) t r h in record {
            number = at;
            early = omega arith;
            last = record {
              step = s;
              next = r;
              goes = subst (λ (y : P). after y s ≡ Some r) is there.0;
              report = sym (ap (λ (y : P). tells y s) is) ∙ sym (ap (λ (x : Noted). x.number) there.1) ∙ sym same;
            };
          }

      -- one mark more, of a step of the place that is opened
      pub noted_more : (marks new : List Bool) (at s : ℕ) (t : Noted) (p r : P) → at ≤ length nodes → Notes t.number marks new → p ≡ (found_at after q more at).place →
          Watches (after p s) (told_of passes tells p s) (Some t) r → AreNoted after tells q nodes marks at s → AreNoted after tells q more new at (s + 1)
      noted_more marks new at s t p r le notes is h x =
          let there = made_there (after p s) (told_of passes tells p s) t r h in record {
            near = λ n marked first low all.
                let lt : at < first = all (omega arith) in
                near_later more (at + 1) first n (omega (arith, lt)) (near_one marks new at s n t p r le is h x (notes.met n marked));
            before = λ i k lt. stays _ t.number marks new k notes (marked_there marks i k (omega (arith, lt, le)) (x.before i k lt));
            here = below_more (λ k. IsMarked after tells (found_at after q more at).place new k) s
                (λ k lt. stays _ t.number marks new k notes (marked_there marks at k le (x.here k lt)))
                (λ next goes few. subst (λ n. slice_get new n ≡ Some true) (ap (λ (x : Noted). x.number) there.1 ∙ ap (λ (y : P). tells y s) is)
                (notes.marked (subst (λ n. n < length marks) (sym (ap (λ (x : Noted). x.number) there.1 ∙ ap (λ (y : P). tells y s) is)) (subst (λ n. tells (found_at after q more at).place s < n) notes.long few))));
          }

    module _ (nodes : List Node) (marks : List Bool) where
      -- a step that needs no mark was tried
      pub noted_same : (at s : ℕ) → IsMarked after tells (found_at after q nodes at).place marks s → AreNoted after tells q nodes marks at s → AreNoted after tells q nodes marks at (s + 1)
      noted_same at s last x = record {
        near = λ n marked first low all. x.near n marked first low (λ lt. all (omega arith));
        before = x.before;
        here = below_more (λ k. IsMarked after tells (found_at after q nodes at).place marks k) s x.here last;
      }

      all_here : (at n s : ℕ) → ((t : ℕ) → t < n → IsMarked after tells (found_at after q nodes at).place marks t) →
          ((t : ℕ) → n ≤ t → IsMarked after tells (found_at after q nodes at).place marks t) → (s < n) ⊎ (n ≤ s) → IsMarked after tells (found_at after q nodes at).place marks s
      all_here at n s here rest (inl lt) = here s lt
      all_here at n s here rest (inr le) = rest s le

      next_before : (at n i s : ℕ) → ((t : ℕ) → n ≤ t → IsMarked after tells (found_at after q nodes at).place marks t) → AreNoted after tells q nodes marks at n →
          (i ≡ at) ⊎ (i < at) → IsMarked after tells (found_at after q nodes i).place marks s
      next_before at n i s rest x (inr lt) = x.before i s lt
      next_before at n i s rest x (inl is) = subst (λ k. IsMarked after tells (found_at after q nodes k).place marks s) (sym is) (all_here at n s x.here rest (cases_lt s n))

      -- all steps of a place were tried
      pub noted_next : (at n : ℕ) → ((t : ℕ) → n ≤ t → IsMarked after tells (found_at after q nodes at).place marks t) → AreNoted after tells q nodes marks at n →
          AreNoted after tells q nodes marks (at + 1) 0
      noted_next at n rest x = record {
        near = λ k marked first low all. x.near k marked first (omega (arith, low)) (λ lt. omega (arith, low));
        before = λ i s lt. next_before at n i s rest x (let le : i ≤ at = omega (arith, lt) in eq-or-lt_of_le le);
        here = λ s lt. absurd (omega (arith, lt));
      }

      -- nothing was tried
      pub noted_none : (count : ℕ) → marks ≡ replicate count false → AreNoted after tells q nodes marks 0 0
      noted_none count is = record {
        near = λ n marked first low all. absurd (no_mark count n (subst (λ (bs : List Bool). slice_get bs n ≡ Some true) is marked));
        before = λ i s lt. absurd (omega (arith, lt));
        here = λ s lt. absurd (omega (arith, lt));
      }
