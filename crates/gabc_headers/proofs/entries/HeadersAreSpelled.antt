-- The headers of a map with their values in a text.
use Rattle.std.proofs.Common.{◌≡◌, ℕ, zero, suc, List, [], ◌∷◌, length, drop, refl, ap, slice_get, slice_range, IsSomeAnd}
use Rattle.std.specs.Str.{chars}
use Rattle.gabc_places.specs.declared.place.Span.{Span}
use Rattle.gabc_headers.specs.declared.entry_map.Key.{Key}
use Rattle.gabc_headers.specs.Entries.{key_name, spelled_entries}
use Rattle.gabc_headers.specs.machine.EntryMap.{AreWithin, named_entries, spelled_named}

pub length-spelled : (text : List ℕ) (es : List (Key × Span)) → length (spelled_entries text es) ≡ length es
length-spelled text [] = refl
length-spelled text (e ∷ es) = ap suc (length-spelled text es)

-- by the names of the keys it is the same
pub spelled_by_names : (text : List ℕ) (es : List (Key × Span)) → spelled_named text (named_entries es) ≡ spelled_entries text es
spelled_by_names text [] = refl
spelled_by_names text (e ∷ es) = rw (spelled_by_names text es) refl

pub within_by_names : (text : List ℕ) (es : List (Key × Span)) → AreWithin text (named_entries es) → AreWithin text es
within_by_names text [] h = tt
within_by_names text (e ∷ es) h = (h.0, within_by_names text es h.1)

pub name_spelled : (text : List ℕ) (es : List (Key × Span)) (i : ℕ) (name : List ℕ) → IsSomeAnd (slice_get es i) (λ e. chars name ≡ key_name e.0)
    → IsSomeAnd (slice_get (spelled_entries text es) i) (λ e. chars name ≡ e.0)
name_spelled text [] i name h = h
name_spelled text (e ∷ es) zero name h = h
name_spelled text (e ∷ es) (suc i) name h = name_spelled text es i name h

pub value_spelled : (text : List ℕ) (es : List (Key × Span)) (i : ℕ) (s : Span) → IsSomeAnd (slice_get es i) (λ e. e.1 ≡ s)
    → IsSomeAnd (slice_get (spelled_entries text es) i) (λ e. chars (slice_range text s.from s.to) ≡ e.1)
value_spelled text [] i s h = h
value_spelled text (e ∷ es) zero s h = rw h refl
value_spelled text (e ∷ es) (suc i) s h = value_spelled text es i s h

-- what is to come from an index on
pub left_here : (es : List (List ℕ × List ℕ)) (i : ℕ) (n v : List ℕ) → IsSomeAnd (slice_get es i) (λ e. chars n ≡ e.0) → IsSomeAnd (slice_get es i) (λ e. chars v ≡ e.1)
    → drop i es ≡ (chars n, chars v) ∷ drop (suc i) es
left_here [] i n v h k = absurd h
left_here (e ∷ es) zero n v h k = rw (h, k) refl
left_here (e ∷ es) (suc i) n v h k = left_here es i n v h k
