-- The first line of a text, by the place of its line feed.
use Rattle.std.proofs.Common.{◌≡◌, ℕ, ◌+◌, ◌==◌, List, length, take, drop, Some, None, refl, arith}
use Rattle.std.specs.List.{position_or_len}
use Rattle.std.proofs.lemmas.Bool.{false_from_ne_true, lt-ltb, le-ltb}
use Rattle.std.proofs.lemmas.List.Sums.{position_or_len_is}
use Rattle.memchr.specs.Find.{IsFirstByte, is_byte}
use Rattle.fmp_bytes.specs.Bytes.{cut_at}

pub cut_found : (text : List ℕ) (end : ℕ) → IsFirstByte (is_byte 10) text (Some end) → cut_at 10 text ≡ (take end text, Some (drop (end + 1) text))
unfolding cut_at
cut_found text end found =
    let place : position_or_len (λ b. b == 10) text ≡ end =
    position_or_len_is (λ b. b == 10) text end 0 (omega (arith, found.0.high)) (λ k low. false_from_ne_true _ (found.0.before k (omega arith) low)) (λ low. found.1) in
    let test = lt-ltb end (length text) found.0.high in
    rw (place, test) refl

pub cut_nowhere : (text : List ℕ) → IsFirstByte (is_byte 10) text None → (cut_at 10 text).1 ≡ None
unfolding cut_at
cut_nowhere text nowhere =
    let place : position_or_len (λ b. b == 10) text ≡ length text =
    position_or_len_is (λ b. b == 10) text (length text) 0 (omega arith) (λ k low. false_from_ne_true _ (nowhere k (omega arith) low)) (λ low. absurd (omega (arith, low))) in
    let test = le-ltb (length text) (length text) (omega arith) in
    rw (place, test) refl
