-- A text that is cut where a read began and where it ended.
use Rattle.std.proofs.Common.{arith, ◌≡◌, ℕ, ◌+◌, ◌<◌, List, [], ◌++◌, take, drop, length, min, sym}
use Rattle.std.proofs.lemmas.List.{take-append-drop, drop-drop, nil_from_length}

-- what is left is what is read of it, and what is left then
pub cut_at : (at count : ℕ) (read text : List ℕ) → read ≡ take count (drop at text) → drop at text ≡ read ++ drop (at + count) text
cut_at at count read text is =
    rw (is, sym (drop-drop count at text)) (sym (take-append-drop count (drop at text)))

-- where none was read for a room that there is, none is left
pub none_left : (at count room : ℕ) (text : List ℕ) → count ≡ min (length (drop at text)) room → count ≡ 0 → 0 < room → drop (at + count) text ≡ []
none_left at count room text is none some = nil_from_length (drop (at + count) text) (grind (arith))
