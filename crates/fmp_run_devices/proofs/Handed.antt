-- What was handed over is the beginning of what was to come.
use Rattle.std.proofs.Common.{◌≡◌, ◌∙◌, ℕ, Bool, List, [], ◌++◌, take, Option, Result, Ok, Err, ap, sym, refl, append_assoc, append-nil}
use Rattle.std.proofs.lemmas.List.{append_cancel_left}
use Rattle.std.specs.Io.KnownBytes.{ReadConsumes}
use Rattle.fmp_run_devices.specs.Devices.{bytes_of}
use Rattle.fmp_run_devices.specs.Hearing.{Hands, Moves}
use Rattle.fmp_run_devices.proofs.Known.{consumed_known, kept_bytes, kept_known, read_bytes}

-- of what was to come a piece was handed over, and the rest is still to come
pub handed_front : (before after piece all rest : List ℕ) → after ≡ before ++ piece → before ++ all ≡ after ++ rest → all ≡ piece ++ rest
handed_front before after piece all rest handed is = append_cancel_left before all (piece ++ rest) (is ∙ ap (λ xs. xs ++ rest) handed ∙ append_assoc before piece rest)

-- and the other way round
pub handed_back : (before after piece all rest : List ℕ) → after ≡ before ++ piece → all ≡ piece ++ rest → before ++ all ≡ after ++ rest
handed_back before after piece all rest handed is = ap (λ xs. before ++ xs) is ∙ sym (append_assoc before piece rest) ∙ ap (λ xs. xs ++ rest) (sym handed)

-- nothing was called
pub moved_not : (before : List ℕ) (left : Option (List ℕ)) → Moves before before left left
moved_not before left = record { more = []; handed = sym (append-nil before); known = λ known. known; taken = λ known. refl }

-- a read
pub moved_by_read : {E : Type 0} (before after : List ℕ) (left rest : Option (List ℕ)) (ended : Bool) (r : Result ℕ E) (buffer : List ℕ) → ReadConsumes left rest r buffer
    → Hands before after ended r buffer → Moves before after left rest
moved_by_read before after left rest ended (Ok n) buffer bytes hands = record {
  more = take n buffer;
  handed = hands.0;
  known = λ known. consumed_known left rest (take n buffer) bytes.0 known;
  taken = λ known. read_bytes left rest (take n buffer) bytes.0 known;
}
moved_by_read before after left rest ended (Err e) buffer bytes hands = record {
  more = [];
  handed = hands.0 ∙ sym (append-nil before);
  known = λ known. kept_known left rest bytes known;
  taken = λ known. sym (kept_bytes left rest bytes known);
}

-- some calls, and then some more
pub moved_on : (a b c : List ℕ) (left middle rest : Option (List ℕ)) → Moves a b left middle → Moves b c middle rest → Moves a c left rest
moved_on a b c left middle rest first second = record {
  more = first.more ++ second.more;
  handed = second.handed ∙ ap (λ xs. xs ++ second.more) first.handed ∙ append_assoc a first.more second.more;
  known = λ known. second.known (first.known known);
  taken = λ known. first.taken known ∙ ap (λ xs. first.more ++ xs) (second.taken (first.known known)) ∙ sym (append_assoc first.more second.more (bytes_of rest));
}
