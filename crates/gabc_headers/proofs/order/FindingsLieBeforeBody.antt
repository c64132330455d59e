-- The places between which the findings of a text's headers lie.
use Rattle.std.proofs.Common.{◌≡◌, ℕ, ◌+◌, ◌<◌, ◌≤◌, List, [], ◌∷◌, ◌++◌, true, refl, sym, subst, arith, length, take, Option, None, Ok, lit<}
use Rattle.gabc_places.proofs.PlacesInOrder.{lie_append}
use Rattle.gabc_places.specs.declared.limits.Limits.{Limits}
use Rattle.gabc_places.specs.declared.place.Place.{Place}
use Rattle.gabc_places.specs.Findings.{Known, findings_before, Stop, earliest, IsUpTo, LieBetween}
use Rattle.gabc_places.specs.Place.{place_after}
use Rattle.gabc_headers.specs.declared.heads.Heads.{Heads}
use Rattle.gabc_headers.specs.Lines.{lines, head_of, has_score}
use Rattle.gabc_headers.specs.Parts.{HeaderPart, left_out, header, unended}
use Rattle.gabc_headers.specs.witness.Parts.{outside, head_parts}
use Rattle.gabc_headers.specs.Heads.{head_len, findings_after, names_after, heads_of, line_place}
use Rattle.gabc_headers.specs.witness.Heads.{head_findings, name_findings, heads_by, head_stops}
use Rattle.gabc_headers.proofs.order.FoundBeforeAPoint.{known-append}
use Rattle.gabc_headers.proofs.order.FindingsAreInOrder.{Rise, rise_up, rises, score_line}

-- ---- places

-- no place of a text stands before its first
after_first : (p : Place) (n : ℕ) → p.line ≡ n → 0 < n → 1 ≤ p.column → IsUpTo (line_place 1) p
after_first p n e l h = grind arith

-- the findings stand at the first places of their lines
abbrev AtFirst : List Known → Type 0
AtFirst [] = Unit {0}
AtFirst (f ∷ fs) = (f.finding.place.column ≡ 1) × AtFirst fs

found_first : (seen : List (List ℕ)) (ps : List HeaderPart) → AtFirst (findings_after seen ps)
found_first seen [] = tt
found_first seen (left_out k p ∷ ps) = (refl, found_first seen ps)
found_first seen (unended k ∷ ps) = found_first seen ps
found_first seen (header k name value p ∷ ps) = grind (arith, found_first (names_after seen (header k name value p)) ps)

-- so rising findings lie before a place on a later line
rise_between : (k m p : ℕ) (q : Place) (fs : List Known) → Rise k m fs → AtFirst fs → m ≤ q.line → LieBetween (line_place 1) q (findings_before p fs)
rise_between k m p q [] h a l = tt
rise_between k m p q (f ∷ fs) h a l = grind (arith, rise_between f.finding.place.line m p q fs h.1 a.1 l, after_first, rise_up)

-- the finding of the line `%%` stands at its place
nameless_between : (t : List ℕ) (p : ℕ) → LieBetween (line_place 1) (place_after (take (head_len t) t)) (findings_before p (name_findings t))
nameless_between t p = grind (arith, after_first)

-- ---- headers that are read whole

-- of some stops one is the earliest
one_stop : (xs : List Stop) (s : Stop) (ss : List Stop) → earliest (xs ++ s ∷ ss) ≡ None → ⊥
one_stop [] s ss e = cc
one_stop (x ∷ xs) s ss e = cc

-- headers that nothing stops end at a line `%%`
score_there : (limits : Limits) (t : List ℕ) → earliest (head_stops limits t) ≡ None → has_score (lines t) ≡ true
score_there limits t e = grind (arith, one_stop)

none_stops : (t : List ℕ) (o : Option Stop) (heads : Heads) → heads_by t o ≡ Ok heads → o ≡ None
none_stops t o heads e = grind arith

found_between : (t : List ℕ) (p : ℕ) → has_score (lines t) ≡ true → LieBetween (line_place 1) (place_after (take (head_len t) t)) (findings_before p (head_findings t))
found_between t p s =
    let e = score_line t s in
    subst (LieBetween (line_place 1) (place_after (take (head_len t) t))) (sym (known-append p (findings_after [] (head_parts t)) (name_findings t)))
    (lie_append (line_place 1) (place_after (take (head_len t) t)) (findings_before p (findings_after [] (head_parts t))) (findings_before p (name_findings t))
    (rise_between 0 (1 + length (head_of (lines t))) p (place_after (take (head_len t) t)) (findings_after [] (head_parts t)) (rises (head_of (lines t)) outside 1 0 [] 0 (lit< tt)) (found_first [] (head_parts t)) (omega arith))
    (nameless_between t p))

pub heads_within : (limits : Limits) (t : List ℕ) (heads : Heads) → heads_of limits t ≡ Ok heads → LieBetween (line_place 1) (place_after (take (head_len t) t)) heads.findings
heads_within limits t heads e = grind (arith, none_stops, found_between, score_there)
