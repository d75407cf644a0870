-- Lists of entries that show the same.
use Rattle.std.proofs.Common.{◌≡◌, ℕ, ◌<◌, Option, None, List, sym, ap, ◌∙◌, arith}
use Rattle.std.specs.Prelude.{slice_index_or}
use Rattle.fmp_codes.specs.declared.numbers.Task.{Task}
use Rattle.fmp_time.specs.Differences.{Entry}
use Rattle.fmp_time.specs.Left.{Left, left_in, left_by}
use Rattle.fmp_time.specs.Times.{Times}
use Rattle.fmp_time.specs.Shown.{table, times_of}
use Rattle.fmp_time.proofs.Tables.{at-table, table-same}

pub shown_same : (q r : List (List Entry)) (ts us : List Task) → ts ≡ us → ((k : ℕ) → k < 128 → left_in q k ≡ left_in r k) → times_of q ts ≡ times_of r us
shown_same q r ts us e h = ap (λ (l : List (Option Left)). the l ts) (table-same (left_in q) (left_in r) h) ∙ ap (the (table (left_in r))) e
  where
    the : List (Option Left) → List Task → Times
    the l ts = record { left = l; waits = ts }

pub same_shown : (q r : List (List Entry)) (ts us : List Task) → times_of q ts ≡ times_of r us → (k : ℕ) → k < 128 → left_in q k ≡ left_in r k
same_shown q r ts us e k h =
    sym (at-table (left_in q) k None h) ∙ ap (λ (m : Times). slice_index_or m.left k None) e ∙ at-table (left_in r) k None h

-- what is left says in which list it is
pub place_left : (i j m n : ℕ) → i < 8 → j < 8 → left_by (i, m) ≡ left_by (j, n) → i ≡ j
place_left i j m n low small e =
    let same = ap (λ (l : Left). l.processor.number) e in omega (arith, same)
