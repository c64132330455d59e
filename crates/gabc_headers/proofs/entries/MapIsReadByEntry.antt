-- Reading what is gathered entry by entry.
use Rattle.std.proofs.Common.{◌≡◌, ℕ, ◌<◌, ◌≤◌, ◌+◌, ◌^◌, ◌-◌, suc, zero, min, List, [], ◌∷◌, length, drop, arith, refl, ap, Some, None, slice_get, IsSomeAnd, subst}
use Rattle.std.specs.Map.{values_of}
use Rattle.std.specs.Str.{chars}
use Rattle.gabc_places.specs.declared.place.Span.{Span}
use Rattle.gabc_headers.specs.declared.entry_map.Key.{Key}
use Rattle.gabc_headers.specs.Lines.{bytes_len}
use Rattle.gabc_headers.specs.Canonical.{header_line, header_lines}
use Rattle.gabc_headers.specs.Entries.{key_name, spelled_entries}
use Rattle.gabc_headers.specs.machine.EntryMap.{AreWithin, named_entries}
use Rattle.gabc_headers.specs.machine.Spans.{IsWithin}
use Rattle.gabc_headers.proofs.entries.TextsAsBytes.{bytes_len-append}

pub length-named : {X : Type 0} (es : List (Key × X)) → length (named_entries es) ≡ length es
length-named [] = refl
length-named (e ∷ es) = ap suc (length-named es)

-- the value at an index
pub value_get : {X : Type 0} (es : List (Key × X)) (i : ℕ) (v : X) → slice_get (values_of es) i ≡ Some v → IsSomeAnd (slice_get es i) (λ e. e.1 ≡ v)
value_get [] i v h = absurd (cc)
value_get (e ∷ es) zero v h = cc
value_get (e ∷ es) (suc i) v h = value_get es i v h

-- the span at an index lies in the text
pub within_get : (text : List ℕ) (es : List (Key × Span)) (i : ℕ) (s : Span) → AreWithin text es → IsSomeAnd (slice_get es i) (λ e. e.1 ≡ s) → IsWithin text s
within_get text [] i s w h = absurd h
within_get text (d ∷ es) zero s w h = subst (IsWithin text) h w.0
within_get text (d ∷ es) (suc i) s w h = within_get text es i s w.1 h

-- the lines from this entry on
pub spelled_here : (text : List ℕ) (es : List (Key × Span)) (i : ℕ) (n v : List ℕ)
    → IsSomeAnd (slice_get es i) (λ e. chars n ≡ key_name e.0) → IsSomeAnd (slice_get (spelled_entries text es) i) (λ e. chars v ≡ e.1)
    → spelled_entries text (drop i es) ≡ (chars n, chars v) ∷ spelled_entries text (drop (suc i) es)
spelled_here text [] i n v h k = absurd h
spelled_here text (d ∷ es) zero n v h k = rw (h, k) refl
spelled_here text (d ∷ es) (suc i) n v h k = spelled_here text es i n v h k

pub spelled_none : (text : List ℕ) (es : List (Key × Span)) (i : ℕ) → length es ≤ i → spelled_entries text (drop i es) ≡ []
spelled_none text [] zero l = refl
spelled_none text [] (suc i) l = refl
spelled_none text (d ∷ es) zero l = absurd (omega arith)
spelled_none text (d ∷ es) (suc i) l = spelled_none text es i (omega arith)

pub lines_cons : (e : List ℕ × List ℕ) (es : List (List ℕ × List ℕ)) → bytes_len (header_lines (e ∷ es)) ≡ bytes_len (header_line e) + bytes_len (header_lines es)
lines_cons e es = bytes_len-append (header_line e) (header_lines es)

-- a sum that stops at the largest number
pub sum_next : (n l r t b m : ℕ) → min (n + (l + r)) (2 ^ 64 - 1) ≡ t → b ≡ l → m ≡ n + min b (2 ^ 64 - 1 - n) → min (m + r) (2 ^ 64 - 1) ≡ t
sum_next n l r t b m e f g = omega arith

-- below the length there is an entry
pub get_none : {X : Type 0} (es : List X) (i : ℕ) → None ≡ slice_get es i → i < length es → ⊥
get_none [] i h l = omega arith
get_none (e ∷ es) zero h l = absurd (cc)
get_none (e ∷ es) (suc i) h l = get_none es i h (omega arith)
