-- It does not matter how a text is cut into pieces, nor when the feed is asked in between.
use Rattle.std.proofs.Common.{◌≡◌, ◌∙◌, ℕ, ◌+◌, ◌-◌, ◌||◌, Bool, true, false, List, [], ◌∷◌, ◌++◌, length, take, Option, Some, None, Result, Ok, Err, refl, ap, ap₂, sym, arith, append_assoc, length-append}
use Rattle.std.specs.Prelude.{nat_lt, min}
use Rattle.std.proofs.lemmas.Grind.{common_steps}
use Rattle.std.proofs.lemmas.Bool.{lt-ltb, ltb-false, ltb-true}
use Rattle.std.proofs.lemmas.List.{append-nil, take-append-le}
use Rattle.std.proofs.Math.Seq.{take-append-add}
use Rattle.std.proofs.Math.Bool.{or-true}
use Rattle.fmp_codes.specs.declared.records.Event.{Event}
use Rattle.fmp_names.specs.Names.{NameLists}
use Rattle.fmp_text.specs.declared.fault.TextFault.{TextFault}
use Rattle.fmp_text.specs.Limits.{most_bytes}
use Rattle.fmp_text.specs.Events.{Reading, faultless, reading_by_line, reading_from, with_events}
use Rattle.fmp_text_feed.specs.Feed.{Feed, Gives, IsDone, ahead, closed, coming, new_feed, only, pushed, unless_failed}
use Rattle.fmp_text_feed.specs.Cuts.{Move, LeadsTo, text_of, events_of, given_before}
use Rattle.fmp_text_feed.proofs.Ahead.{ahead_failed}

-- ---- pieces

or_false : (a b : Bool) → ((a || false) || b) ≡ (a || b)
or_false true b = refl
or_false false b = refl

-- whether bytes are dropped is the same whether two pieces come one by one or at once
dropped_twice : (limit taken : ℕ) (dropped : Bool) (piece more : List ℕ)
    → ((dropped || nat_lt limit (taken + length piece)) || nat_lt limit (min limit (taken + length piece) + length more)) ≡ (dropped || nat_lt limit (taken + length (piece ++ more)))
dropped_twice limit taken dropped piece more = go (nat_lt limit (taken + length piece)) refl
  where
    go : (b : Bool) → nat_lt limit (taken + length piece) ≡ b
        → ((dropped || nat_lt limit (taken + length piece)) || nat_lt limit (min limit (taken + length piece) + length more)) ≡ (dropped || nat_lt limit (taken + length (piece ++ more)))
    go true is =
        let over = ltb-true limit (taken + length piece) is in
        let longer : nat_lt limit (taken + length (piece ++ more)) ≡ true = rw length-append (lt-ltb _ _ (omega arith)) in
        rw (is, longer, or-true dropped) refl
    go false is =
        let within = ltb-false limit (taken + length piece) is in
        let same : min limit (taken + length piece) + length more ≡ taken + length (piece ++ more) = rw length-append (omega arith) in
        rw (is, same) (or_false dropped _)

-- and so are the bytes that are taken in
taken_twice : (limit taken : ℕ) (piece more : List ℕ)
    → take (limit - taken) piece ++ take (limit - min limit (taken + length piece)) more ≡ take (limit - taken) (piece ++ more)
taken_twice limit taken piece more = go (nat_lt limit (taken + length piece)) refl
  where
    go : (b : Bool) → nat_lt limit (taken + length piece) ≡ b
        → take (limit - taken) piece ++ take (limit - min limit (taken + length piece)) more ≡ take (limit - taken) (piece ++ more)
    go true is =
        let over = ltb-true limit (taken + length piece) is in
        let none : limit - min limit (taken + length piece) ≡ 0 = omega arith in
        rw (none, append-nil (take (limit - taken) piece)) (sym (take-append-le (limit - taken) piece more (omega arith)))
    go false is =
        let within = ltb-false limit (taken + length piece) is in
        let room : limit - taken ≡ length piece + (limit - min limit (taken + length piece)) = omega arith in
        let all : take (limit - taken) piece ≡ piece = grind (arith, common_steps) in
        rw all (sym (rw room (take-append-add piece more (limit - min limit (taken + length piece)))))

-- what a feed has before its first byte
start : (names : NameLists) (limit : ℕ) (text : List ℕ) → reading_from names (false || nat_lt limit (0 + length text)) 0 0 [] ([] ++ take (limit - 0) text) ≡ reading_from names (nat_lt limit (length text)) 0 0 [] (take limit text)
start names limit text =
    let sum : 0 + length text ≡ length text = omega arith in
    let room : limit - 0 ≡ limit = omega arith in
    rw (sum, room) refl

pub ahead_new : (names : NameLists) (text : List ℕ) → ahead names new_feed text ≡ reading_by_line names text
unfolding ahead reading_by_line
ahead_new names text = start names most_bytes text

pub ahead_pushed : (names : NameLists) (f : Feed) (piece more : List ℕ) → f.ended ≡ false → ahead names f (piece ++ more) ≡ ahead names (pushed f piece) more
unfolding ahead
ahead_pushed names f piece more open_yet =
    let dropped = dropped_twice most_bytes f.taken f.dropped piece more in
    let bytes = append_assoc f.rest (take (most_bytes - f.taken) piece) (take (most_bytes - min most_bytes (f.taken + length piece)) more)
    ∙ ap (λ xs. f.rest ++ xs) (taken_twice most_bytes f.taken piece more) in
    rw open_yet (ap (unless_failed f.fault) (ap₂ (λ (c : Bool) (xs : List ℕ). reading_from names c f.lines f.events [] xs) (sym dropped) (sym bytes)))

pub ahead_closed : (names : NameLists) (f : Feed) (more : List ℕ) → f.ended ≡ false → ahead names f [] ≡ ahead names (closed f) more
unfolding ahead
ahead_closed names f more open_yet = rw open_yet refl

-- what comes after the end counts for nothing
ahead_coming : (names : NameLists) (f : Feed) (ended : Bool) → f.ended ≡ ended → (more : List ℕ) → ahead names f (coming ended more) ≡ ahead names f more
unfolding ahead
ahead_coming names f true is more = rw is refl
ahead_coming names f false is more = refl

-- ---- calls one after the other

-- no piece is pushed after the end
no_text_after : (names : NameLists) (moves : List Move) (old new : Feed) → LeadsTo names old moves new → old.ended ≡ true → (text_of moves ≡ []) × (new.ended ≡ true)
no_text_after names [] old new leads ended = (refl, rw leads ended)
no_text_after names (Move.Push piece ∷ moves) old new leads ended = let no = sym leads.0 ∙ ended in absurd cc
no_text_after names (Move.Close ∷ moves) old new leads ended = let no = sym leads.0 ∙ ended in absurd cc
no_text_after names (Move.Next answer ∷ moves) old new leads ended = no_text_after names moves leads.0 new leads.3 (leads.2 ∙ ended)

-- what an answer gives comes before what is given after it
given : (names : NameLists) (old next : Feed) (answer : Result (Option Event) TextFault) (events : List Event) (text : List ℕ) (last : Reading) → Gives names old answer next
    → ahead names next text ≡ with_events events last → ahead names old text ≡ with_events (given_before answer events) last
given names old next (Ok (Some event)) events text last gives following = gives text ∙ ap (with_events (event ∷ [])) following
given names old next (Ok None) events text last gives following = gives text ∙ following
given names old next (Err fault) events text last gives following = gives.0 text ∙ sym (ahead_failed names next fault (ap (λ (f : Feed). f.fault) gives.1) text) ∙ following

-- what is ahead at first is what the calls gave, and then what is ahead at last
moved : (names : NameLists) (moves : List Move) (old new : Feed) → LeadsTo names old moves new → (more : List ℕ)
    → ahead names old (text_of moves ++ coming new.ended more) ≡ with_events (events_of moves) (ahead names new more)
moved names [] old new leads more = rw leads (ahead_coming names old old.ended refl more)
moved names (Move.Push piece ∷ moves) old new leads more =
    rw (append_assoc piece (text_of moves)) (ahead_pushed names old piece (text_of moves ++ coming new.ended more) leads.0) ∙ moved names moves (pushed old piece) new leads.1 more
moved names (Move.Close ∷ moves) old new leads more =
    let following = no_text_after names moves (closed old) new leads.1 refl in
    let none : text_of moves ++ coming new.ended more ≡ [] = rw (following.0, following.1) refl in
    rw none (ahead_closed names old [] leads.0) ∙ rw none at (moved names moves (closed old) new leads.1 more)
moved names (Move.Next answer ∷ moves) old new leads more =
    given names old leads.0 answer (events_of moves) (text_of moves ++ coming new.ended more) (ahead names new more) leads.1 (moved names moves leads.0 new leads.3 more)

pub pieces_prefix : (names : NameLists) (moves : List Move) (feed : Feed) → LeadsTo names new_feed moves feed → (more : List ℕ)
    → reading_by_line names (text_of moves ++ coming feed.ended more) ≡ with_events (events_of moves) (ahead names feed more)
pieces_prefix names moves feed leads more = sym (ahead_new names (text_of moves ++ coming feed.ended more)) ∙ moved names moves new_feed feed leads more

pub pieces_failed : (names : NameLists) (moves : List Move) (feed : Feed) (fault : TextFault) → LeadsTo names new_feed moves feed → feed.fault ≡ Some fault → (more : List ℕ)
    → reading_by_line names (text_of moves ++ coming feed.ended more) ≡ with_events (events_of moves) (only fault)
pieces_failed names moves feed fault leads is more = pieces_prefix names moves feed leads more ∙ ap (with_events (events_of moves)) (ahead_failed names feed fault is more)

pub pieces_done : (names : NameLists) (moves : List Move) (feed : Feed) → LeadsTo names new_feed moves feed → feed.ended ≡ true → IsDone names feed
    → reading_by_line names (text_of moves) ≡ faultless (events_of moves)
pieces_done names moves feed leads ended done =
    let all : text_of moves ++ coming feed.ended [] ≡ text_of moves = rw ended (append-nil (text_of moves)) in
    ap (reading_by_line names) (sym all) ∙ pieces_prefix names moves feed leads [] ∙ ap (with_events (events_of moves)) (done []) ∙ ap (λ (events : List Event). faultless events) (append-nil (events_of moves))
