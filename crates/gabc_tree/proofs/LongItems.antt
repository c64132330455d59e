-- The items of a text have characters.
use Rattle.std.proofs.Common.{◌≡◌, ◌≤◌, ℕ, zero, suc, ◌+◌, List, [], ◌∷◌, ◌++◌, length, length-append, take, drop, Option, Some, None, encode_utf8_all, arith}
use Rattle.std.proofs.lemmas.List.{length-take-le}
use Rattle.std.proofs.lemmas.Str.{length-encode, len_utf8_bounds}
use lib.Utf8.{encode}
use Rattle.gabc_patterns.specs.LongestItems.{Table}
use Rattle.gabc_patterns.specs.Reads.{kind_of, longest, parts_within, items_by}
use Rattle.gabc_patterns.proofs.WholeFront.{Best, longest_is_best}

-- each has a character
abbrev pub AreLong : {K : Type 0} → List (K × List ℕ) → Type 0
AreLong [] = Unit {0}
AreLong (i ∷ is) = (1 ≤ length i.1) × AreLong is

pub long_bytes : (t : List ℕ) → 1 ≤ length t → 1 ≤ length (encode_utf8_all t)
long_bytes [] h = absurd (omega (arith, h))
long_bytes (c ∷ t) h =
    let least = (len_utf8_bounds c).0 in
    let size = length-encode c in
    let all : length (encode c ++ encode_utf8_all t) ≡ length (encode c) + length (encode_utf8_all t) = length-append (encode c) (encode_utf8_all t) in
    omega (arith, least, size, all)

parts_long : {K : Type 0} (kind : List ℕ → Option K) (n : ℕ) (t : List ℕ) → AreLong (parts_within kind n t)
parts_long kind zero t = tt
parts_long {K} kind (suc n) t = by (longest kind (length t) t) (longest_is_best kind t (length t)) (λ u. parts_long kind n u)
  where
    by : (o : Option (K × ℕ)) → Best kind t (length t) o → ((u : List ℕ) → AreLong (parts_within kind n u))
        → AreLong (elim o as (λ _. List (K × List ℕ)) [ None ↦ [] | Some i ↦ (i.0, take i.1 t) ∷ parts_within kind n (drop i.1 t) ])
    by None b later = tt
    by (Some i) b later = let l = length-take-le i.1 t b.1 in (omega (arith, l, b.0), later (drop i.1 t))

pub items_long : {K : Type 0} (table : Table K) (t : List ℕ) → AreLong (items_by table t)
items_long table t = parts_long (kind_of table) (length t) t
