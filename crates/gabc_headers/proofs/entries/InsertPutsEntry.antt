-- What `insert` does to the names and values.
use Rattle.std.proofs.Common.{◌≡◌, ℕ, ◌<◌, ◌≤◌, List, [], ◌∷◌, ◌++◌, length, Bool, true, false, cond, nat_eq, refl, sym, ap, ◌∙◌, subst, arith, bytes_eq, length-append, IsUtf8, ◌||◌, is_some, Option, Some, position, codes}
use Rattle.std.specs.Str.{chars}
use Rattle.std.specs.Cmp.Lexicographic.{same_text}
use Rattle.std.specs.Map.{keys_of, lookup}
use Rattle.arrayvec.specs.ArrayString.{ArrayString}
use Rattle.indexmap.specs.IndexMap.{insert_entry, set_value_at}
use Rattle.indexmap.proofs.MapLemmas.{Found-position, insert_entry-first}
use Rattle.gabc_headers.specs.declared.entry_map.Key.{Key}
use Rattle.gabc_headers.specs.declared.entry_map.Key.TheVariants.{Name, Annotation}
use Rattle.gabc_headers.specs.EntryMap.{is_annotation, with_value, put_entry}
use Rattle.gabc_headers.specs.Entries.{key_name}
use Rattle.gabc_headers.specs.machine.EntryMap.{named_entries, names, comes_again, IsKeyBelow, IsKeyOf, AreKeysBelow}
use Rattle.gabc_headers.specs.Book.{is_one_of}

pub more_below : {X : Type 0} (n m : ℕ) (es : List (Key × X)) → n ≤ m → AreKeysBelow n es → AreKeysBelow m es
more_below n m [] h b = tt
more_below n m ((Name s, v) ∷ es) h b = (b.0, more_below n m es h b.1)
more_below n m ((Annotation i, v) ∷ es) h b = ((let l : i < n = b.0 in omega arith), more_below n m es h b.1)

pub below_push : {X : Type 0} (n : ℕ) (es : List (Key × X)) (k : Key) (v : X) → AreKeysBelow n es → IsKeyBelow n k → AreKeysBelow n (es ++ (k, v) ∷ [])
below_push n [] k v b h = (h, tt)
below_push n (e ∷ es) k v b h = (b.0, below_push n es k v b.1 h)

pub named_push : {X : Type 0} (es : List (Key × X)) (k : Key) (v : X) → named_entries (es ++ (k, v) ∷ []) ≡ named_entries es ++ (key_name k, v) ∷ []
named_push [] k v = refl
named_push {X} (e ∷ es) k v = ap (λ (l : List (List ℕ × X)). (key_name e.0, e.1) ∷ l) (named_push es k v)

-- over the comparison of keys that the map uses
module _ {X : Type 0} (eq : Key → Key → Bool)
    (same : (s t : ArrayString) → IsUtf8 s.bytes → IsUtf8 t.bytes → eq (Name s) (Name t) ≡ bytes_eq (chars s.bytes) (chars t.bytes))
    (numbers : (i j : ℕ) → eq (Annotation i) (Annotation j) ≡ nat_eq i j)
    (name_number : (s : ArrayString) (i : ℕ) → eq (Name s) (Annotation i) ≡ false)
    (number_name : (s : ArrayString) (i : ℕ) → eq (Annotation i) (Name s) ≡ false) where
  step : (b : Bool) (k : Key) (e : Key × X) (v : X) (es : List (Key × X)) → eq k e.0 ≡ b
      → insert_entry eq (e ∷ es) k v ≡ cond b ((e.0, v) ∷ es) (e ∷ insert_entry eq es k v)
  step b k e v es h = grind arith

  -- the number of the entries is a key that isn't there yet
  pub insert_number : (n : ℕ) (v : X) (es : List (Key × X)) → AreKeysBelow n es → insert_entry eq es (Annotation n) v ≡ es ++ (Annotation n, v) ∷ []
  insert_number n v [] b = refl
  insert_number n v ((Name s, w) ∷ es) b = step false (Annotation n) (Name s, w) v es (number_name s n) ∙ ap (λ (l : List (Key × X)). (Name s, w) ∷ l) (insert_number n v es b.1)
  insert_number n v ((Annotation i, w) ∷ es) b = grind (arith, insert_number n v es b.1, step)

  pub put_number : (n : ℕ) (name : List ℕ) (v : X) (es : List (Key × X)) → AreKeysBelow n es → is_annotation name ≡ true → name ≡ key_name (Annotation n)
      → named_entries (insert_entry eq es (Annotation n) v) ≡ put_entry (named_entries es) name v
  put_number n name v es b a e = rw (insert_number n v es b, named_push es (Annotation n) v, a, e) refl

  branch : (b : Bool) (a : List ℕ) (k : Key) (v w : X) (es r : List (Key × X)) (s : List (List ℕ × X)) → a ≡ key_name k → named_entries r ≡ s
      → named_entries (cond b ((k, v) ∷ es) ((k, w) ∷ r)) ≡ cond b ((a, v) ∷ named_entries es) ((a, w) ∷ s)
  branch b a k v w es r s e h = grind arith

  pub insert_name : (n : ℕ) (s : ArrayString) (v : X) (es : List (Key × X)) → is_annotation (chars s.bytes) ≡ false → IsUtf8 s.bytes → AreKeysBelow n es
      → named_entries (insert_entry eq es (Name s) v) ≡ with_value (named_entries es) (chars s.bytes) v
  insert_name n s v [] a u b = refl
  insert_name n s v ((Name t, w) ∷ es) a u b = grind (arith, insert_name n s v es a u b.1, step, branch)
  insert_name n s v ((Annotation i, w) ∷ es) a u b = grind (arith, insert_name n s v es a u b.1, step)

  pub put_name : (n : ℕ) (s : ArrayString) (name : List ℕ) (v : X) (es : List (Key × X)) → s.bytes ≡ name → is_annotation (chars name) ≡ false → IsUtf8 name → AreKeysBelow n es
      → named_entries (insert_entry eq es (Name s) v) ≡ put_entry (named_entries es) (chars name) v
  put_name n s name v es e a u b = grind (arith, insert_name)

  -- the number of the entries finds none
  pub number_new : (n : ℕ) (es : List (Key × X)) → AreKeysBelow n es → is_some (lookup (eq (Annotation n)) es) ≡ false
  number_new n [] b = refl
  number_new n ((Name s, w) ∷ es) b = rw (number_name s n) (number_new n es b.1)
  number_new n ((Annotation i, w) ∷ es) b = grind (arith, number_new n es b.1)

  some_branch : (b : Bool) (w : X) (o : Option X) (c : Bool) → is_some o ≡ c → is_some (cond b (Some w) o) ≡ (b || c)
  some_branch b w o c h = grind arith

  found_name : (n : ℕ) (s : ArrayString) (es : List (Key × X)) → is_annotation (chars s.bytes) ≡ false → IsUtf8 s.bytes → AreKeysBelow n es
      → is_some (lookup (eq (Name s)) es) ≡ is_one_of (chars s.bytes) (names (named_entries es))
  found_name n s [] a u b = refl
  found_name n s ((Name t, w) ∷ es) a u b = grind (arith, found_name n s es a u b.1, some_branch)
  found_name n s ((Annotation i, w) ∷ es) a u b = rw (name_number s i, a) (found_name n s es a u b.1)

  -- a name is found exactly if it comes again
  pub name_again : (n : ℕ) (s : ArrayString) (name : List ℕ) (es : List (Key × X)) → s.bytes ≡ name → is_annotation (chars name) ≡ false → IsUtf8 name → AreKeysBelow n es
      → is_some (lookup (eq (Name s)) es) ≡ comes_again (named_entries es) (chars name)
  name_again n s name es e a u b = grind (arith, found_name)

  below_branch : (b : Bool) (n : ℕ) (k : Key) (v w : X) (es r : List (Key × X)) → IsKeyBelow n k → AreKeysBelow n es → AreKeysBelow n r
      → AreKeysBelow n (cond b ((k, v) ∷ es) ((k, w) ∷ r))
  below_branch e n k v w es r h b c = grind arith

  below_name : (n : ℕ) (s : ArrayString) (v : X) (es : List (Key × X)) → is_annotation (chars s.bytes) ≡ false → IsUtf8 s.bytes → AreKeysBelow n es → AreKeysBelow n (insert_entry eq es (Name s) v)
  below_name n s v [] a u b = ((a, u), tt)
  below_name n s v (e ∷ es) a u b = grind (arith, below_name n s v es a u b.1, step, below_branch)

  length_insert : (k : Key) (v : X) (es : List (Key × X)) → length es ≤ length (insert_entry eq es k v)
  length_insert k v [] = omega arith
  length_insert k v (e ∷ es) = grind (arith, length_insert k v es, step)

  pub name_below : (s : ArrayString) (name : List ℕ) (v : X) (es : List (Key × X)) → s.bytes ≡ name → is_annotation (chars name) ≡ false → IsUtf8 name → AreKeysBelow (length es) es
      → AreKeysBelow (length (insert_entry eq es (Name s) v)) (insert_entry eq es (Name s) v)
  name_below s name v es e a u b = grind (arith, more_below, length_insert, below_name)

  pub number_below : (v : X) (es : List (Key × X)) → AreKeysBelow (length es) es
      → AreKeysBelow (length (insert_entry eq es (Annotation (length es)) v)) (insert_entry eq es (Annotation (length es)) v)
  number_below v es b = grind (arith, length-append, insert_number, below_push, more_below)

  -- what putting a key does
  pub record Puts (name : List ℕ) (v : X) (es : List (Key × X)) (k : Key) : Type 0 where
    pub entries : named_entries (insert_entry eq es k v) ≡ put_entry (named_entries es) (chars name) v
    pub again : is_some (lookup (eq k) es) ≡ comes_again (named_entries es) (chars name)
    pub below : AreKeysBelow (length (insert_entry eq es k v)) (insert_entry eq es k v)

  pub puts : (name : List ℕ) (v : X) (es : List (Key × X)) (k : Key) → IsUtf8 name → IsKeyOf name (length es) k → AreKeysBelow (length es) es → Puts name v es k
  puts name v es (Name s) u h b = grind (arith, put_name, name_again, name_below)
  puts name v es (Annotation i) u h b = subst (λ (j : ℕ). Puts name v es (Annotation j)) (sym h.0) (record {
    entries = put_number (length es) (chars name) v es b h.1 (same_text (chars name) (codes "annotation") (sym h.1));
    again = rw (h.1) (number_new (length es) es b);
    below = number_below v es b;
  })

  -- a value that is written where a key is found is put
  pub set_found : (k : Key) (v : X) (es : List (Key × X)) (i : ℕ) → position (eq k) (keys_of es) ≡ Some i → set_value_at es i v ≡ insert_entry eq es k v
  set_found k v es i p = sym (insert_entry-first eq k v es i (Found-position (eq k) es i p).first)
