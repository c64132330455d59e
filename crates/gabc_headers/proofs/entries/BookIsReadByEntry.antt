-- Reading a book entry by entry.
use Rattle.std.proofs.Common.{◌≡◌, ℕ, suc, zero, List, [], ◌∷◌, true, false, drop, refl, bytes_eq, Some, slice_get, IsSomeAnd, IsUtf8}
use Rattle.std.specs.Str.{chars}
use Rattle.gabc_headers.specs.Book.{value_named}
use Rattle.gabc_headers.proofs.entries.TextsAsBytes.{bytes_eq-chars}

-- the entry at this index has the name
pub named_here : (name b v : List ℕ) (es : List (List ℕ × List ℕ)) (i : ℕ) → IsUtf8 name → IsUtf8 b
    → IsSomeAnd (slice_get es i) (λ e. chars b ≡ e.0) → IsSomeAnd (slice_get es i) (λ e. chars v ≡ e.1) → bytes_eq name b ≡ true
    → value_named (chars name) (drop i es) ≡ Some (chars v)
named_here name b v [] i u w h k e = absurd h
named_here name b v (d ∷ es) zero u w h k e = rw (← h, bytes_eq-chars name b u w, e, ← k) refl
named_here name b v (d ∷ es) (suc i) u w h k e = named_here name b v es i u w h k e

-- it has another name
pub named_later : (name b : List ℕ) (es : List (List ℕ × List ℕ)) (i : ℕ) → IsUtf8 name → IsUtf8 b
    → IsSomeAnd (slice_get es i) (λ e. chars b ≡ e.0) → bytes_eq name b ≡ false
    → value_named (chars name) (drop i es) ≡ value_named (chars name) (drop (suc i) es)
named_later name b [] i u w h e = absurd h
named_later name b (d ∷ es) zero u w h e = rw (← h, bytes_eq-chars name b u w, e) refl
named_later name b (d ∷ es) (suc i) u w h e = named_later name b es i u w h e
