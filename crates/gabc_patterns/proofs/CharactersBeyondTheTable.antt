-- Characters past all that a table names are alike.
use Rattle.std.proofs.Common.{◌≡◌, ℕ, ◌≤◌, ◌==◌, nat_lt, List, [], ◌∷◌, Bool, true, false, ◌&&◌, refl, ltb-true, ne_eqb, arith}
use Rattle.std.proofs.lemmas.Bool.{and_parts}
use Rattle.std.specs.List.{list_all}
use Rattle.gabc_patterns.specs.Pattern.{Pattern, never, nothing, one_of, any_but, ◌·◌, ◌or◌, many, is_in}
use Rattle.gabc_patterns.specs.LongestItems.{Table}
use Rattle.gabc_patterns.specs.Derivative.{derivative, rows_after, Munch, start, nowhere, within, step}

-- the characters that the pattern names are below 128
abbrev pub is_plain : Pattern → Bool
is_plain never = true
is_plain nothing = true
is_plain (one_of cs) = list_all (λ c. nat_lt c 128) cs
is_plain (any_but x) = nat_lt x 128
is_plain (p · q) = is_plain p && is_plain q
is_plain (p or q) = is_plain p && is_plain q
is_plain (many p) = is_plain p

-- those of a table
abbrev pub are_plain : {K : Type 0} → Table K → Bool
are_plain [] = true
are_plain (row ∷ rows) = is_plain row.1 && are_plain rows

-- those of where a reading stands
abbrev pub stands_plain : {K : Type 0} → Munch K → Bool
stands_plain start = true
stands_plain nowhere = true
stands_plain (within rows back) = are_plain rows && stands_plain back

-- a character from 128 on is none of the named
pub not_in : (cs : List ℕ) (c : ℕ) → 128 ≤ c → list_all (λ c. nat_lt c 128) cs ≡ true → is_in c cs ≡ false
not_in [] c h e = refl
not_in (d ∷ cs) c h e =
    let f = and_parts (nat_lt d 128) (list_all (λ x. nat_lt x 128) cs) e in
    let l = ltb-true d 128 f.0 in
    let n : d == c ≡ false = ne_eqb d c (λ q. omega arith) in
    rw (n, not_in cs c h f.1) refl

-- it acts as 128 does
pub after_beyond : (p : Pattern) (c : ℕ) → 128 ≤ c → is_plain p ≡ true → derivative c p ≡ derivative 128 p
after_beyond never c h e = refl
after_beyond nothing c h e = refl
after_beyond (one_of cs) c h e = rw (not_in cs c h e, not_in cs 128 (omega arith) e) refl
after_beyond (any_but x) c h e = grind (arith, ltb-true, ne_eqb)
after_beyond (p · q) c h e =
    let f = and_parts (is_plain p) (is_plain q) e in
    rw (after_beyond p c h f.0, after_beyond q c h f.1) refl
after_beyond (p or q) c h e =
    let f = and_parts (is_plain p) (is_plain q) e in
    rw (after_beyond p c h f.0, after_beyond q c h f.1) refl
after_beyond (many p) c h e = rw (after_beyond p c h e) refl

-- so on a table
pub rows_beyond : {K : Type 0} (rows : Table K) (c : ℕ) → 128 ≤ c → are_plain rows ≡ true → rows_after c rows ≡ rows_after 128 rows
rows_beyond [] c h e = refl
rows_beyond (row ∷ rows) c h e =
    let f = and_parts (is_plain row.1) (are_plain rows) e in
    rw (after_beyond row.1 c h f.0, rows_beyond rows c h f.1) refl

-- so on a reading
pub step_beyond : {K : Type 0} (table : Table K) (m : Munch K) (c : ℕ) → 128 ≤ c → are_plain table ≡ true → stands_plain m ≡ true
    → step table m c ≡ step table m 128
step_beyond table start c h t e = rw (rows_beyond table c h t) refl
step_beyond table nowhere c h t e = refl
step_beyond table (within rows back) c h t e =
    let f = and_parts (are_plain rows) (stands_plain back) e in
    rw (rows_beyond rows c h f.0, step_beyond table back c h t f.1) refl
