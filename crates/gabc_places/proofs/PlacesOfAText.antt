-- The places of a text, by the text before and by the place of its first character.
use Rattle.std.proofs.Common.{◌≡◌, ℕ, suc, ◌+◌, ◌≤◌, Bool, cond, List, [], ◌∷◌, ◌++◌, length, refl, sym, ap, arith, append_assoc, append-nil, length-append, encode_utf8}
use Rattle.std.proofs.lemmas.Grind.{common_steps}
use Rattle.std.proofs.lemmas.Str.{length-encode, len_utf8_bounds}
use Rattle.gabc_places.specs.declared.place.Place.{Place}
use Rattle.gabc_places.specs.declared.place.Char.{Char}
use Rattle.gabc_places.specs.Place.{next_place, is_line_feed, place_after, placed_characters_after, place_past, placed_characters_from}

pub next_after : (f : List ℕ) (c : ℕ) → next_place (place_after f) c ≡ place_after (f ++ c ∷ [])
next_after f c = grind (arith, common_steps)

pub placed_after : (f cs : List ℕ) → placed_characters_from (place_after f) cs ≡ placed_characters_after f cs
placed_after f [] = refl
placed_after f (c ∷ cs) = grind (arith, placed_after (f ++ c ∷ []) cs, next_after)

pub after_joined : (f cs : List ℕ) → place_past (place_after f) cs ≡ place_after (f ++ cs)
after_joined f [] = ap place_after (sym (append-nil f))
after_joined f (c ∷ cs) = grind (arith, after_joined (f ++ c ∷ []) cs, next_after, append_assoc)

-- as many characters with places as characters
pub length_placed : (p : Place) (cs : List ℕ) → length (placed_characters_from p cs) ≡ length cs
length_placed p [] = refl
length_placed p (c ∷ cs) = ap (λ n. suc n) (length_placed (next_place p c) cs)

-- the place after two texts
pub place_append : (p : Place) (a b : List ℕ) → place_past p (a ++ b) ≡ place_past (place_past p a) b
place_append p [] b = refl
place_append p (c ∷ a) b = place_append (next_place p c) a b

-- the characters of two texts
pub placed_append : (p : Place) (a b : List ℕ) → placed_characters_from p (a ++ b) ≡ placed_characters_from p a ++ placed_characters_from (place_past p a) b
placed_append p [] b = refl
placed_append p (c ∷ a) b = ap (λ (xs : List Char). record { c = c; place = p } ∷ xs) (placed_append (next_place p c) a b)

-- no count of a place grows by more than the bytes that were read
module _ (p : Place) (n m lines columns : ℕ) (less : m + 1 ≤ n) (line : p.line + n ≤ lines) (column : p.column + n ≤ columns) where
  within_by : (b : Bool) → ((cond {A = Place} b (record { line = p.line + 1; column = 1 }) (record { line = p.line; column = p.column + 1 })).line + m ≤ lines)
      × ((cond {A = Place} b (record { line = p.line + 1; column = 1 }) (record { line = p.line; column = p.column + 1 })).column + m ≤ columns)
  within_by b = grind arith

  pub within_on : (c : ℕ) (q : Place) → q ≡ next_place p c → (q.line + m ≤ lines) × (q.column + m ≤ columns)
  within_on c q h = rw h (within_by (is_line_feed c))

-- a character has a byte at least
pub shorter : (rest next : List ℕ) (c : ℕ) → rest ≡ encode_utf8 c ++ next → length next + 1 ≤ length rest
shorter rest next c h = rw h (omega (arith, length-append (encode_utf8 c) next, length-encode c, (len_utf8_bounds c).0))
