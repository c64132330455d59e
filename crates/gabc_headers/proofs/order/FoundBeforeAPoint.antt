-- What is found before a point.
use Rattle.std.proofs.Common.{◌≡◌, ℕ, ◌<◌, ◌≤◌, List, [], ◌∷◌, ◌++◌, Bool, true, cond, refl, ap, ◌∙◌, arith, nat_lt}
use Rattle.std.proofs.lemmas.Bool.Decides.{nat_tests}
use Rattle.std.proofs.lemmas.Bool.{le-ltb}
use Rattle.gabc_places.specs.declared.code.Finding.{Finding}
use Rattle.gabc_places.specs.Findings.{Known, findings_before}
use Rattle.gabc_headers.specs.Parts.{HeaderPart, left_out, header, unended}
use Rattle.gabc_headers.specs.Heads.{findings_after, findings_at, names_after}
use Rattle.gabc_headers.specs.machine.Events.{AreEarly, IsEarly, AreLate, IsLate}

-- the findings without their points
abbrev pub all_known : List Known → List Finding
all_known [] = []
all_known (k ∷ ks) = k.finding ∷ all_known ks

lt_true : (a b : ℕ) → a < b → nat_lt a b ≡ true
lt_true a b h = grind (arith, nat_tests)

pub known-append : (p : ℕ) (ks bs : List Known) → findings_before p (ks ++ bs) ≡ findings_before p ks ++ findings_before p bs
known-append p [] bs = refl
known-append p (a ∷ ks) bs = grind (arith, known-append p ks bs)

pub known_one : (p q : ℕ) (f : Finding) → q < p → findings_before p ((record { point = q; finding = f }) ∷ []) ≡ f ∷ []
known_one p q f h = rw (lt_true q p h) refl

pub known_none : (p q : ℕ) (f : Finding) → p ≤ q → findings_before p ((record { point = q; finding = f }) ∷ []) ≡ []
known_none p q f h = rw (le-ltb q p h) refl

early_cases : (a b : Bool) (p m : ℕ) (f g : Finding) → m < p
    → findings_before p (cond a (cond b (record { point = m; finding = f } ∷ []) []) (record { point = m; finding = g } ∷ []))
    ≡ all_known (cond a (cond b (record { point = m; finding = f } ∷ []) []) (record { point = m; finding = g } ∷ []))
early_cases a b p m f g h = grind (arith, known_one)

late_cases : (a b : Bool) (p m : ℕ) (f g : Finding) → p ≤ m
    → findings_before p (cond a (cond b (record { point = m; finding = f } ∷ []) []) (record { point = m; finding = g } ∷ [])) ≡ []
late_cases a b p m f g h = grind (arith, known_none)

early_at : (s : List (List ℕ)) (p : ℕ) (q : HeaderPart) → IsEarly p q → findings_before p (findings_at s q) ≡ all_known (findings_at s q)
early_at s p q h = grind (arith, known_one, early_cases)

late_at : (s : List (List ℕ)) (p : ℕ) (q : HeaderPart) → IsLate p q → findings_before p (findings_at s q) ≡ []
late_at s p q h = grind (arith, known_none, late_cases)

pub all_known-append : (ks bs : List Known) → all_known (ks ++ bs) ≡ all_known ks ++ all_known bs
all_known-append [] bs = refl
all_known-append (a ∷ ks) bs = ap (λ (l : List Finding). a.finding ∷ l) (all_known-append ks bs)

late_all : (s : List (List ℕ)) (p : ℕ) (rest : List HeaderPart) → AreLate p rest → findings_before p (findings_after s rest) ≡ []
late_all s p [] h = refl
late_all s p (q ∷ rest) h = known-append p (findings_at s q) (findings_after (names_after s q) rest) ∙ rw (late_at s p q h.0, late_all (names_after s q) p rest h.1) refl

-- what is known before a point is what is found at the parts emitted before it
pub early_all : (s : List (List ℕ)) (p : ℕ) (events rest : List HeaderPart) → AreEarly p events → AreLate p rest → findings_before p (findings_after s (events ++ rest)) ≡ all_known (findings_after s events)
early_all s p [] rest e l = late_all s p rest l
early_all s p (q ∷ events) rest e l = grind (arith, early_all (names_after s q) p events rest e.1 l, known-append, early_at, all_known-append)

-- a later point leaves early parts early
pub still_early : (p q : ℕ) (events : List HeaderPart) → p ≤ q → AreEarly p events → AreEarly q events
still_early p q [] h e = tt
still_early p q (left_out k n ∷ events) h e = ((let l : n < p = e.0 in omega arith), still_early p q events h e.1)
still_early p q (unended k ∷ events) h e = absurd e.0
still_early p q (header k n v m ∷ events) h e = ((let l : m < p = e.0 in omega arith), still_early p q events h e.1)
