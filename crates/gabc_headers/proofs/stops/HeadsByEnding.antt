-- The headers of a text by how the reading of it ends.
use Rattle.std.proofs.Common.{◌≡◌, ℕ, ◌+◌, ◌<◌, ◌≤◌, ◌==◌, ◌&&◌, not, List, [], ◌∷◌, ◌++◌, Bool, true, false, cond, refl, sym, ap, ◌∙◌, arith, codes, nat_lt, length, take, Option, Some, None, Ok, Err, append-nil}
use Rattle.gabc_places.proofs.NumbersByTests.{below_eqb, same_eqb}
use Rattle.gabc_places.specs.declared.place.Place.{Place}
use Rattle.gabc_places.specs.declared.limits.Limits.{Limits}
use Rattle.gabc_places.specs.declared.code.Finding.{Finding}
use Rattle.gabc_places.specs.declared.code.Code.{Code}
use Rattle.gabc_places.specs.declared.code.Code.TheVariants.{W1, F2, F3, F4, F7}
use Rattle.gabc_places.specs.Place.{place_after}
use Rattle.gabc_places.specs.Findings.{findings_before, Stop, earliest}
use Rattle.gabc_headers.specs.Lines.{bytes_len, lines, has_score}
use Rattle.gabc_headers.specs.Parts.{HeaderPart}
use Rattle.gabc_headers.specs.Book.{book_of, has_header}
use Rattle.gabc_headers.specs.Canonical.{header_lines}
use Rattle.gabc_headers.specs.Heads.{head_len, known_at, findings_after, open_line, text_stops, open_stops, missing_score, stop_at, line_place, body_byte, heads_of}
use Rattle.gabc_headers.specs.witness.Heads.{head_findings, name_findings, score_stops, head_stops, heads_by}
use Rattle.gabc_headers.specs.witness.Parts.{head_parts}
use Rattle.gabc_headers.specs.machine.Collected.{heads_at_body}
use Rattle.gabc_headers.specs.machine.Events.{AreEarly, AreLate}
use Rattle.gabc_headers.proofs.order.FoundBeforeAPoint.{all_known, known-append, known_one, known_none, early_all, still_early}
use Rattle.gabc_headers.proofs.stops.PointsOfStops.{AllAfter, after-append, limit_within, first_earliest, open_first, size_first, score_within}

-- ---- what is found before a point

-- the warning of a book without a name is not known before the second `%`
nameless_none : (t : List ℕ) (p : ℕ) → p ≤ head_len t + 1 → findings_before p (name_findings t) ≡ []
nameless_none t p h = grind (arith, known_none)

found_emitted : (t : List ℕ) (p : ℕ) (events rest : List HeaderPart) → head_parts t ≡ events ++ rest → AreEarly p events → AreLate p rest
    → findings_before p (head_findings t) ≡ all_known (findings_after [] events) ++ findings_before p (name_findings t)
found_emitted t p events rest e a b = grind (arith, known-append, early_all)

before : (t : List ℕ) (p : ℕ) (events rest : List HeaderPart) → head_parts t ≡ events ++ rest → AreEarly p events → AreLate p rest → p ≤ head_len t + 1
    → findings_before p (head_findings t) ≡ all_known (findings_after [] events)
before t p events rest e a b l = found_emitted t p events rest e a b ∙ (ap (λ (x : List Finding). all_known (findings_after [] events) ++ x) (nameless_none t p l) ∙ append-nil (all_known (findings_after [] events)))

-- ---- the cases

faulted : (limits : Limits) (t : List ℕ) (s : Stop) (findings : List Finding) (b : Bool) → earliest (head_stops limits t) ≡ Some s → findings_before s.point (head_findings t) ≡ findings → (s.point == length t) ≡ b
    → Err (record { fault = s.fault; findings = findings; at_end = b }) ≡ heads_of limits t
faulted limits t s findings b e f g = sym (ap (λ (o : Option Stop). heads_by t o) e ∙ rw (f, g) refl)

head_text : (t : List ℕ) → has_score (lines t) ≡ false → head_len t ≡ length t
head_text t h = rw h refl

-- the stops of a text with a line `%%`, or without
stops_score : (limits : Limits) (t : List ℕ) (o : Option ℕ) → has_score (lines t) ≡ true → text_stops limits.header t ≡ [] → o ≡ open_line (head_parts t)
    → head_stops limits t ≡ open_stops (head_len t + 1) o ++ score_stops limits t
stops_score limits t o s n e = grind arith

stops_text : (limits : Limits) (t : List ℕ) (o : Option ℕ) → has_score (lines t) ≡ false → text_stops limits.header t ≡ [] → o ≡ open_line (head_parts t)
    → head_stops limits t ≡ open_stops (length t) o ++ missing_score o t
stops_text limits t o s n e = grind arith

-- an open value at the line `%%`
pub score_open : (limits : Limits) (t : List ℕ) (events rest : List HeaderPart) (k : ℕ) → head_parts t ≡ events ++ rest → AreEarly (head_len t + 1) events → AreLate (head_len t + 1) rest
    → has_score (lines t) ≡ true → text_stops limits.header t ≡ [] → Some k ≡ open_line (head_parts t)
    → Err (record { fault = record { place = line_place k; code = F3 }; findings = all_known (findings_after [] events); at_end = false }) ≡ heads_of limits t
score_open limits t events rest k e a b s n o =
    let w = score_within t s in
    faulted limits t (stop_at (head_len t + 1) (line_place k) F3) (all_known (findings_after [] events)) false
    (ap (λ (x : List Stop). earliest x) (stops_score limits t (Some k) s n o) ∙ (open_first (head_len t + 1) (line_place k) (place_after (take (head_len t) t)) (nat_lt limits.header (bytes_len (header_lines (book_of (head_parts t))))) (nat_lt limits.input (bytes_len (header_lines (book_of (head_parts t))) + 3))))
    (before t (head_len t + 1) events rest e a b (omega arith)) (below_eqb (head_len t + 1) (length t) (omega arith))

-- an open value at the end
pub text_open : (limits : Limits) (t : List ℕ) (events rest : List HeaderPart) (k : ℕ) → head_parts t ≡ events ++ rest → AreEarly (length t) events → AreLate (length t) rest
    → has_score (lines t) ≡ false → text_stops limits.header t ≡ [] → Some k ≡ open_line (head_parts t)
    → Err (record { fault = record { place = line_place k; code = F3 }; findings = all_known (findings_after [] events); at_end = true }) ≡ heads_of limits t
text_open limits t events rest k e a b s n o =
    let l = head_text t s in
    faulted limits t (stop_at (length t) (line_place k) F3) (all_known (findings_after [] events)) true
    (ap (λ (x : List Stop). earliest x) (stops_text limits t (Some k) s n o)) (before t (length t) events rest e a b (omega arith)) (same_eqb (length t))

-- no line `%%`
pub text_ended : (limits : Limits) (t : List ℕ) (events rest : List HeaderPart) → head_parts t ≡ events ++ rest → AreEarly (length t) events → AreLate (length t) rest
    → has_score (lines t) ≡ false → text_stops limits.header t ≡ [] → None ≡ open_line (head_parts t)
    → Err (record { fault = record { place = place_after t; code = F2 }; findings = all_known (findings_after [] events); at_end = true }) ≡ heads_of limits t
text_ended limits t events rest e a b s n o =
    let l = head_text t s in
    faulted limits t (stop_at (length t) (place_after t) F2) (all_known (findings_after [] events)) true
    (ap (λ (x : List Stop). earliest x) (stops_text limits t None s n o)) (before t (length t) events rest e a b (omega arith)) (same_eqb (length t))

open_after : (p q : ℕ) (o : Option ℕ) → p < q → AllAfter p (open_stops q o)
open_after p q o h = grind arith

pub others_after : (limits : Limits) (t : List ℕ) (p : ℕ) → p < length t → p ≤ head_len t
    → AllAfter p (cond (has_score (lines t)) (open_stops (head_len t + 1) (open_line (head_parts t)) ++ score_stops limits t) (open_stops (length t) (open_line (head_parts t)) ++ missing_score (open_line (head_parts t)) t))
others_after limits t p h l = grind (arith, after-append, open_after)

-- the text is too long
pub text_limit : (limits : Limits) (t : List ℕ) (events rest : List HeaderPart) (p : ℕ) (place : Place) → head_parts t ≡ events ++ rest → AreEarly p events → AreLate p rest
    → text_stops limits.header t ≡ stop_at p place F4 ∷ []
    → Err (record { fault = record { place = place; code = F4 }; findings = all_known (findings_after [] events); at_end = false }) ≡ heads_of limits t
text_limit limits t events rest p place e a b n =
    let w = limit_within limits.header t p place n in
    let l : p < length t = w.0 in
    let m : p ≤ head_len t = w.1 in
    faulted limits t (stop_at p place F4) (all_known (findings_after [] events)) false
    (rw n (first_earliest (stop_at p place F4) _ (others_after limits t p l m)))
    (before t p events rest e a b (omega arith)) (below_eqb p (length t) l)

pub sizes_first : (p : ℕ) (b : Place) (x y : Bool) → earliest (cond x (stop_at p b F4 ∷ []) [] ++ cond y (stop_at p b F7 ∷ []) []) ≡ cond x (Some (stop_at p b F4)) (cond y (Some (stop_at p b F7)) None)
sizes_first p b x y = grind (arith, size_first)

-- what is found in the end
found_all : (t : List ℕ) (events : List HeaderPart) → head_parts t ≡ events → AreEarly (head_len t + 1) events → has_score (lines t) ≡ true
    → findings_before (length t + 1) (head_findings t) ≡ cond (has_header (codes "name") (book_of (head_parts t))) (all_known (findings_after [] events)) (all_known (findings_after [] events) ++ record { place = place_after (take (head_len t) t); code = W1 } ∷ [])
found_all t events e a s =
    found_emitted t (length t + 1) events [] (e ∙ sym (append-nil events)) (still_early (head_len t + 1) (length t + 1) events (let w = score_within t s in omega arith) a) tt
    ∙ (ap (λ (x : List Finding). all_known (findings_after [] events) ++ x) (by (has_score (lines t)) (has_header (codes "name") (book_of (head_parts t))) s) ∙ joined (has_header (codes "name") (book_of (head_parts t))))
  where
    by : (a b : Bool) → a ≡ true → findings_before (length t + 1) (cond (a && not b) (known_at (head_len t + 1) (place_after (take (head_len t) t)) W1 ∷ []) []) ≡ cond b [] (record { place = place_after (take (head_len t) t); code = W1 } ∷ [])
    by true true h = refl
    by true false h = known_one (length t + 1) (head_len t + 1) _ (let w = score_within t s in omega arith)
    by false b h = absurd (cc)

    joined : (b : Bool) → all_known (findings_after [] events) ++ cond b [] (record { place = place_after (take (head_len t) t); code = W1 } ∷ []) ≡ cond b (all_known (findings_after [] events)) (all_known (findings_after [] events) ++ record { place = place_after (take (head_len t) t); code = W1 } ∷ [])
    joined true = append-nil (all_known (findings_after [] events))
    joined false = refl

-- the line `%%` outside of a value
pub score_ended : (limits : Limits) (t : List ℕ) (events : List HeaderPart) → head_parts t ≡ events → AreEarly (head_len t + 1) events
    → has_score (lines t) ≡ true → text_stops limits.header t ≡ [] → None ≡ open_line (head_parts t)
    → heads_at_body limits (place_after (take (head_len t) t)) (body_byte t) (book_of events) (all_known (findings_after [] events)) ≡ heads_of limits t
score_ended limits t events e a s n o =
    ap (λ (x : List HeaderPart). heads_at_body limits (place_after (take (head_len t) t)) (body_byte t) (book_of x) (all_known (findings_after [] events))) (sym e)
    ∙ (by (nat_lt limits.header (bytes_len (header_lines (book_of (head_parts t))))) (nat_lt limits.input (bytes_len (header_lines (book_of (head_parts t))) + 3))
    ∙ ap (λ (x : Option Stop). heads_by t x) (sym (ap (λ (x : List Stop). earliest x) (stops_score limits t None s n o) ∙ sizes_first (head_len t + 1) (place_after (take (head_len t) t)) _ _)))
  where
    fault : (c : Code) → Err (record { fault = record { place = place_after (take (head_len t) t); code = c }; findings = all_known (findings_after [] events); at_end = false })
        ≡ heads_by t (Some (stop_at (head_len t + 1) (place_after (take (head_len t) t)) c))
    fault c = sym (ap (λ (x : List Finding). Err (record { fault = record { place = place_after (take (head_len t) t); code = c }; findings = x; at_end = (head_len t + 1) == length t }))
        (before t (head_len t + 1) events [] (e ∙ sym (append-nil events)) a tt (omega arith))
        ∙ ap (λ (b : Bool). Err (record { fault = record { place = place_after (take (head_len t) t); code = c }; findings = all_known (findings_after [] events); at_end = b })) (below_eqb (head_len t + 1) (length t) (let w = score_within t s in omega arith)))

    by : (x y : Bool) → cond x (Err (record { fault = record { place = place_after (take (head_len t) t); code = F4 }; findings = all_known (findings_after [] events); at_end = false }))
        (cond y (Err (record { fault = record { place = place_after (take (head_len t) t); code = F7 }; findings = all_known (findings_after [] events); at_end = false }))
        (Ok (record {
          book = book_of (head_parts t);
          body = body_byte t;
          findings = cond (has_header (codes "name") (book_of (head_parts t))) (all_known (findings_after [] events)) (all_known (findings_after [] events) ++ record { place = place_after (take (head_len t) t); code = W1 } ∷ []);
        })))
        ≡ heads_by t (cond x (Some (stop_at (head_len t + 1) (place_after (take (head_len t) t)) F4)) (cond y (Some (stop_at (head_len t + 1) (place_after (take (head_len t) t)) F7)) None))
    by true y = fault F4
    by false true = fault F7
    by false false = sym (ap (λ (x : List Finding). Ok (record { book = book_of (head_parts t); body = body_byte t; findings = x })) (found_all t events e a s))
