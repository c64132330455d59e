-- Spans in the beginning of a text.
use Rattle.std.proofs.Common.{◌≡◌, ℕ, ◌≤◌, zero, suc, List, [], ◌∷◌, ◌++◌, length, map, take, drop, arith, refl, sym, ◌∙◌, length-take, length-drop, slice_get, IsSomeAnd, IsCharBoundary, max}
use Rattle.std.specs.Ordering.{nat_cmp, ord_max}
use Rattle.std.proofs.lemmas.List.{get_or-take, take-append-drop, take-append-le, drop-append-le}
use Rattle.gabc_places.specs.declared.place.Span.{Span}
use Rattle.gabc_headers.specs.declared.entry_map.Key.{Key}
use Rattle.gabc_headers.specs.Entries.{key_name, spelled_entries, text_at}
use Rattle.gabc_headers.specs.machine.EntryMap.{AreWithin, values_end}
use Rattle.gabc_headers.specs.machine.Spans.{IsWithin}
use Rattle.gabc_headers.proofs.entries.MapIsReadByEntry.{within_get}

-- more text changes no span
pub shown_at-append : (text more : List ℕ) (s : Span) → IsWithin text s → text_at (text ++ more) s ≡ text_at text s
shown_at-append text more s w = grind (arith, length-drop, drop-append-le, take-append-le)

pub spelled_longer : {K : Type 0} (name : K → List ℕ) (text more : List ℕ) (es : List (K × Span)) → AreWithin text es
    → map {B = List ℕ × List ℕ} (λ e. (name e.0, text_at (text ++ more) e.1)) es ≡ map {B = List ℕ × List ℕ} (λ e. (name e.0, text_at text e.1)) es
spelled_longer name text more [] h = refl
spelled_longer name text more (e ∷ es) h = rw (shown_at-append text more e.1 h.0, spelled_longer name text more es h.1) refl

pub spelled_shorter : (text : List ℕ) (n : ℕ) (es : List (Key × Span)) → AreWithin (take n text) es → spelled_entries (take n text) es ≡ spelled_entries text es
spelled_shorter text n es h = rw (take-append-drop n text) at (sym (spelled_longer key_name (take n text) (drop n text) es h))

-- ---- up to a byte

boundary-take : (text : List ℕ) (n i : ℕ) → i ≤ n → IsCharBoundary text i → IsCharBoundary (take n text) i
boundary-take text n i l b = grind (arith, length-take, get_or-take)

within-take : (text : List ℕ) (n : ℕ) (s : Span) → s.to ≤ n → IsWithin text s → IsWithin (take n text) s
within-take text n s l w = record {
  order = w.order;
  first = boundary-take text n s.from (let o = w.order in omega (arith, o, l)) w.first;
  last = boundary-take text n s.to l w.last;
}

-- the values end at this byte or before it
abbrev pub EndBy : ℕ → List (Key × Span) → Type 0
EndBy n [] = Unit {0}
EndBy n (e ∷ es) = (e.1.to ≤ n) × EndBy n es

-- one value more
pub ends_on : (es : List (Key × Span)) (i n m : ℕ) (s : Span) → IsSomeAnd (slice_get es i) (λ e. e.1 ≡ s) → n ≤ m → s.to ≤ m → EndBy n (take i es) → EndBy m (take (suc i) es)
ends_on [] i n m s h l k e = absurd h
ends_on (d ∷ es) zero n m s h l k e = (rw h k, tt)
ends_on (d ∷ es) (suc i) n m s h l k e = (let a : d.1.to ≤ n = e.0 in omega (arith, a, l), ends_on es i n m s h l k e.1)

-- the end of a value is a place between characters
pub ends_at : (text : List ℕ) (es : List (Key × Span)) (i : ℕ) (s : Span) → AreWithin text es → IsSomeAnd (slice_get es i) (λ e. e.1 ≡ s) → IsCharBoundary text s.to
ends_at text es i s w h = (within_get text es i s w h).last

pub within_end : (text : List ℕ) (es : List (Key × Span)) (i n : ℕ) → length es ≤ i → AreWithin text es → EndBy n (take i es) → AreWithin (take n text) es
within_end text [] i n l w e = tt
within_end text (d ∷ es) zero n l w e = absurd (omega arith)
within_end text (d ∷ es) (suc i) n l w e = (within-take text n d.1 e.0 w.0, within_end text es i n (omega arith) w.1 e.1)

-- the later of two ends
pub later_end : (text : List ℕ) (m n : ℕ) → IsCharBoundary text m → IsCharBoundary text n
    → (m ≤ ord_max nat_cmp m n) × (n ≤ ord_max nat_cmp m n) × IsCharBoundary text (ord_max nat_cmp m n)
later_end text m n b c = grind arith

-- the later of two numbers
is_later : (m n : ℕ) → ord_max nat_cmp m n ≡ max m n
is_later m n = grind arith

-- of the ends that are still to come, the next one counts now
pub far_on : (es : List (Key × Span)) (i n m : ℕ) (s : Span) → IsSomeAnd (slice_get es i) (λ e. e.1 ≡ s) → m ≡ ord_max nat_cmp n s.to
    → max n (values_end (drop i es)) ≡ max m (values_end (drop (suc i) es))
far_on [] i n m s h e = absurd h
far_on (d ∷ es) zero n m s h e = let k = e ∙ is_later n s.to in rw h (omega (arith, k))
far_on (d ∷ es) (suc i) n m s h e = far_on es i n m s h e

pub far_end : (es : List (Key × Span)) (i n : ℕ) → length es ≤ i → max n (values_end (drop i es)) ≡ n
far_end [] zero n l = omega arith
far_end [] (suc i) n l = omega arith
far_end (d ∷ es) zero n l = absurd (omega arith)
far_end (d ∷ es) (suc i) n l = far_end es i n (omega arith)
