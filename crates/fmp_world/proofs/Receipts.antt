-- The receipts of a history that is one record longer.
use Rattle.std.proofs.Common.{◌≡◌, ℕ, suc, ◌+◌, ◌≤◌, ◌∙◌, Bool, true, false, cond, List, [], ◌∷◌, ◌++◌, length, ap, arith, refl}
use Rattle.std.proofs.lemmas.List.{append-nil}
use Rattle.std.proofs.lemmas.List.Sums.{sum_by_push}
use Rattle.fmp_codes.specs.declared.records.Event.{Event}
use Rattle.fmp_codes.specs.declared.records.Record.{Record}
use Rattle.fmp_world.specs.declared.seats.Receipt.{Receipt}
use Rattle.fmp_world.specs.Ends.{receipts_from}
use Rattle.fmp_smp_histories.specs.Counted.{taken, is_taken_tick}
use Rattle.fmp_world.specs.Findings.{receipt}

one_more : (b : Bool) (y : Receipt) (t z : List Receipt) → cond b (y ∷ (t ++ z)) (t ++ z) ≡ cond b (y ∷ t) t ++ z
one_more true y t z = refl
one_more false y t z = refl

receipts_more : (test : Event → Bool) (n : ℕ) (h : List Record) (r : Record)
    → receipts_from test n (h ++ r ∷ []) ≡ receipts_from test n h ++ cond (test r.event) (receipt (n + length h) r ∷ []) []
receipts_more test n [] r = let same : n ≡ n + 0 = omega arith in ap (λ k. cond (test r.event) (receipt k r ∷ []) []) same
receipts_more test n (x ∷ h) r =
    let number : n + 1 + length h ≡ n + suc (length h) = omega arith in
    let later = ap (λ k. receipts_from test (n + 1) h ++ cond (test r.event) (receipt k r ∷ []) []) number in
    ap (λ t. cond (test x.event) (receipt n x ∷ t) t) (receipts_more test (n + 1) h r ∙ later)
    ∙ one_more (test x.event) (receipt n x) (receipts_from test (n + 1) h) (cond (test r.event) (receipt (n + suc (length h)) r ∷ []) [])

-- a record whose event passes the test adds its receipt, and another none
pub report_too : (test : Event → Bool) (h : List Record) (r : Record) → test r.event ≡ true → receipts_from test 1 (h ++ r ∷ []) ≡ receipts_from test 1 h ++ receipt (1 + length h) r ∷ []
report_too test h r is = receipts_more test 1 h r ∙ ap (λ b. receipts_from test 1 h ++ cond b (receipt (1 + length h) r ∷ []) []) is

pub unreported : (test : Event → Bool) (h : List Record) (r : Record) → test r.event ≡ false → receipts_from test 1 (h ++ r ∷ []) ≡ receipts_from test 1 h
unreported test h r is = receipts_more test 1 h r ∙ ap (λ b. receipts_from test 1 h ++ cond b (receipt (1 + length h) r ∷ []) []) is ∙ append-nil (receipts_from test 1 h)

few_more : (b : Bool) (y : Receipt) (t : List Receipt) (n : ℕ) → length t ≤ n → length (cond b (y ∷ t) t) ≤ suc n
few_more true y t n few = omega (arith, few)
few_more false y t n few = omega (arith, few)

-- there are no more receipts than records
pub few_receipts : (test : Event → Bool) (n : ℕ) (h : List Record) → length (receipts_from test n h) ≤ length h
few_receipts test n [] = omega arith
few_receipts test n (x ∷ h) = few_more (test x.event) (receipt n x) (receipts_from test (n + 1) h) (length h) (few_receipts test (n + 1) h)

-- what passes one test passes another
pub receipts_same : (t u : Event → Bool) → ((e : Event) → t e ≡ u e) → (n : ℕ) (h : List Record) → receipts_from t n h ≡ receipts_from u n h
receipts_same t u same n [] = refl
receipts_same t u same n (x ∷ h) =
    ap (λ b. cond b (receipt n x ∷ receipts_from t (n + 1) h) (receipts_from t (n + 1) h)) (same x.event)
    ∙ ap (λ l. cond (u x.event) (receipt n x ∷ l) l) (receipts_same t u same (n + 1) h)

-- the taken ticks of one record more
pub taken_more : (n : ℕ) (h : List Record) (r : Record) → taken n (h ++ r ∷ []) ≡ taken n h + cond (is_taken_tick n r) 1 0
taken_more n h r = sum_by_push (λ x. cond (is_taken_tick n x) 1 0) h r
