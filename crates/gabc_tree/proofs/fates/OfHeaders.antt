-- What is found in headers, and how many characters they have.
use Rattle.std.proofs.Common.{◌≡◌, ℕ, suc, ◌+◌, ◌≤◌, ◌-◌, Bool, true, false, cond, ◌==◌, List, [], ◌∷◌, ◌++◌, map, filter, length, Option, Some, None, Result, Ok, Err, nat_lt, refl, sym, ap, subst, arith, if◌then◌else◌}
use Rattle.std.specs.Char.{len_utf8}
use Rattle.std.proofs.lemmas.Bool.{eqb-true}
use Rattle.std.proofs.lemmas.Str.{len_utf8_bounds}
use Rattle.gabc_places.specs.Findings.{Known, findings_before, Stop, earliest}
use Rattle.gabc_places.specs.declared.code.Code.TheVariants.{E5, W2}
use Rattle.gabc_places.specs.declared.code.Finding.{Finding}
use Rattle.gabc_places.specs.declared.limits.Limits.{Limits}
use Rattle.gabc_headers.proofs.entries.TextsAsBytes.{bytes_len-cons}
use Rattle.gabc_headers.specs.Book.{is_kept, repeats}
use Rattle.gabc_headers.specs.Heads.{heads_of, heads_of_parts_by, findings_after, findings_of_name, findings_of_parts, stops_of_parts, body_byte}
use Rattle.gabc_headers.specs.Lines.{bytes_len}
use Rattle.gabc_headers.specs.Parts.{HeaderPart, left_out, header, unended}
use Rattle.gabc_headers.specs.declared.heads.Heads.{Heads}
use Rattle.gabc_headers.specs.declared.heads.HeadFault.{HeadFault}
use Rattle.gabc_headers.specs.witness.Parts.{head_parts}
use Rattle.gabc_body.specs.Score.{heads_text}
use Rattle.gabc_tree.specs.HeaderNodes.{head_end_by}
use Rattle.gabc_tree.specs.NotKept.{leaves_out}
use Rattle.gabc_tree.specs.Tree.{characters_before}
use Rattle.gabc_tree.proofs.fates.Steps.{AreMild}

-- what is found in headers leaves out no character
abbrev AreMildKnown : List Known → Type 0
AreMildKnown [] = Unit {0}
AreMildKnown (k ∷ ks) = (leaves_out k.finding.code ≡ false) × AreMildKnown ks

known_both : (ks js : List Known) → AreMildKnown ks → AreMildKnown js → AreMildKnown (ks ++ js)
known_both [] js h i = i
known_both (k ∷ ks) js h i = (h.0, known_both ks js h.1 i)

parts_mild : (seen : List (List ℕ)) (ps : List HeaderPart) → AreMildKnown (findings_after seen ps)
parts_mild seen [] = tt
parts_mild seen (left_out k p ∷ ps) = (refl, parts_mild seen ps)
parts_mild seen (unended k ∷ ps) = parts_mild seen ps
parts_mild seen (header k name value p ∷ ps) = by (is_kept name value) (repeats seen name) (parts_mild (cond (is_kept name value) (name ∷ seen) seen) ps)
  where
    by : (o r : Bool) → AreMildKnown (findings_after (cond (is_kept name value) (name ∷ seen) seen) ps)
        → AreMildKnown (cond o (cond r (record { point = p; finding = record { place = record { line = k; column = 1 }; code = W2 } } ∷ []) []) (record { point = p; finding = record { place = record { line = k; column = 1 }; code = E5 } } ∷ []) ++ findings_after (cond (is_kept name value) (name ∷ seen) seen) ps)
    by true true h = (refl, h)
    by true false h = h
    by false r h = (refl, h)

all_mild : (t : List ℕ) (ps : List HeaderPart) → AreMildKnown (findings_of_parts t ps)
all_mild t ps = known_both (findings_after [] ps) (findings_of_name t ps) (parts_mild [] ps) (name_mild t ps)
  where
    one : (o : Bool) (k : Known) → leaves_out k.finding.code ≡ false → AreMildKnown (cond o (k ∷ []) [])
    one true k h = (h, tt)
    one false k h = tt

    name_mild : (t : List ℕ) (ps : List HeaderPart) → AreMildKnown (findings_of_name t ps)
    name_mild t ps = one _ _ refl

before_mild : (stop : ℕ) (ks : List Known) → AreMildKnown ks → AreMild (findings_before stop ks)
before_mild stop [] h = tt
before_mild stop (k ∷ ks) h = by (nat_lt k.point stop) (before_mild stop ks h.1)
  where
    by : (o : Bool) → AreMild (findings_before stop ks) → AreMild (map (λ (k : Known). k.finding) (if o then k ∷ filter (λ (k : Known). nat_lt k.point stop) ks else filter (λ (k : Known). nat_lt k.point stop) ks))
    by true g = (h.0, g)
    by false g = g

-- the headers that are whole
pub record AreHeads (t : List ℕ) (heads : Heads) : Type 0 where
  pub body_is : heads.body ≡ bytes_len (heads_text t)
  pub mild : AreMild heads.findings

pub heads_are : (limits : Limits) (t : List ℕ) (heads : Heads) → heads_of limits t ≡ Ok heads → AreHeads t heads
heads_are limits t heads e = by (earliest (stops_of_parts limits t (head_parts t))) e
  where
    by : (o : Option Stop) → heads_of_parts_by t (head_parts t) o ≡ Ok heads → AreHeads t heads
    by (Some s) f = absurd (cc)
    by None f =
        let body : body_byte t ≡ heads.body = ap (head_end_by) f in
        let found : findings_before (length t + 1) (findings_of_parts t (head_parts t)) ≡ heads.findings = ap findings_in f in
        record { body_is = sym body; mild = subst AreMild found (before_mild (length t + 1) (findings_of_parts t (head_parts t)) (all_mild t (head_parts t))) }
      where
        findings_in : Result Heads HeadFault → List Finding
        findings_in (Ok heads) = heads.findings
        findings_in (Err stop) = []

-- as many characters
pub count_is : (u v : List ℕ) → characters_before (bytes_len u) (u ++ v) ≡ length u
count_is [] [] = refl
count_is [] (c ∷ v) = refl
count_is (c ∷ u) v =
    let n = bytes_len-cons c u in
    let least = (len_utf8_bounds c).0 in
    some (bytes_len (c ∷ u)) c (omega (arith, n, least)) (omega (arith, n)) (count_is u v)
  where
    some : (n c : ℕ) → 1 ≤ n → n - len_utf8 c ≡ bytes_len u → characters_before (bytes_len u) (u ++ v) ≡ length u → cond (n == 0) 0 (1 + characters_before (n - len_utf8 c) (u ++ v)) ≡ suc (length u)
    some n c h e f = by (n == 0) refl
      where
        by : (o : Bool) → (n == 0) ≡ o → cond o 0 (1 + characters_before (n - len_utf8 c) (u ++ v)) ≡ suc (length u)
        by true g = absurd (let z = eqb-true n 0 g in omega (arith, h, z))
        by false g = let k = ap (λ (m : ℕ). characters_before m (u ++ v)) e in omega (arith, k, f)
