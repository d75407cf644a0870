-- The parts of orders, and the records that fit their names.
use Rattle.std.proofs.Common.{◌≡◌, ◌∙◌, ℕ, zero, suc, ◌<◌, List, [], ◌∷◌, ◌++◌, length, refl, ap, sym, subst, arith}
use Rattle.fmp_codes.specs.declared.records.Record.{Record}
use Rattle.fmp_names.specs.Names.{NameLists}
use Rattle.fmp_text_scripts.specs.Scripts.{Steps, AreInBits}
use Rattle.fmp_setup.specs.Setup.{Setup}
use Rattle.fmp_setup.specs.Valid.{IsValid}
use Rattle.fmp_trace.specs.Fits.{FitsNames, AllFit}
use Rattle.fmp_trace_check.proofs.FittingAnswers.{answers-fit}
use Rattle.fmp_smp_histories.specs.Histories.{events_of}
use Rattle.fmp_search_orders.specs.declared.rules.Rules.{Rules}
use Rattle.fmp_search_orders.specs.Orders.{IsOrder}
use Rattle.fmp_search_orders.proofs.Bits.{order_fits}

-- a list after its first n elements
pub split_at : {A : Type 0} (n : ℕ) (xs : List A) → n < length xs → (a : List A) × (x : A) × (b : List A) × (xs ≡ a ++ x ∷ b) × (n ≡ length a)
split_at zero [] lt = absurd (omega (arith, lt))
split_at zero (x ∷ xs) lt = ([], x, xs, refl, refl)
split_at (suc n) [] lt = absurd (omega (arith, lt))
split_at (suc n) (x ∷ xs) lt = let s = split_at n xs (omega (arith, lt)) in (x ∷ s.0, s.1, s.2, ap (λ l. x ∷ l) s.3, ap suc s.4)

-- of records that fit, each part does
pub fits_part : (names : NameLists) (a : List Record) (r : Record) (b : List Record) → AllFit names (a ++ r ∷ b) → AllFit names a × FitsNames names r
fits_part names [] r b fit = (tt, fit.0)
fits_part names (x ∷ a) r b fit = let more = fits_part names a r b fit.1 in ((fit.0, more.0), more.1)

-- the records of an order do
pub order_fit : (c : Setup) (scripts : List Steps) (rules : Rules) (h : List Record) → IsValid c → AreInBits scripts → IsOrder c scripts rules h → AllFit c.names h
order_fit c scripts rules h valid all order =
    subst (λ (rs : List Record). AllFit c.names rs) (sym order.run.answers)
    (answers-fit c (events_of h) valid order.run.on (order_fits c scripts rules all h order.in_order))
