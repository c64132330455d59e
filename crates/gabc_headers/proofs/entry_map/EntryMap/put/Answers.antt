use Rattle.std.proofs.Common.{◌≡◌, ◌<◌, ◌+◌, ◌∙◌, ℕ, List, length, false, Bool, is_some, if◌then◌else◌, refl, sym, ap, subst, arith, bytes_eq, IsUtf8}
use Rattle.std.proofs.lemmas.Bool.{false≢true}
use Rattle.std.specs.Str.{chars}
use Rattle.std.specs.Map.{lookup}
use Rattle.arrayvec.specs.ArrayString.{ArrayString}
use Rattle.indexmap.specs.IndexMap.{spare, set_value_at}
use Rattle.indexmap.proofs.CallerLemmas.{index_map_len-with_value_at}
use Rattle.gabc_places.specs.declared.place.Span.{Span}
use Rattle.gabc_headers.specs.contracts.entry_map.KeyPartialEq.TheImpl.{eq-value}
use Rattle.gabc_headers.specs.declared.entry_map.Key.{Key}
use Rattle.gabc_headers.specs.declared.entry_map.Key.TheVariants.{Name}
use Rattle.gabc_headers.specs.machine.EntryMap.{IsKeyOf, AreKeysBelow, named_entries}
use Rattle.gabc_headers.proofs.entries.TextsAsBytes.{bytes_eq-chars}
use Rattle.gabc_headers.proofs.entries.InsertPutsEntry.{Puts, puts, set_found}
use Rattle.gabc_headers.proofs.entry_map.EntryMap.put.Goals as goal

-- keys that are names compare by their characters
same : (s t : ArrayString) → IsUtf8 s.bytes → IsUtf8 t.bytes → (eq-value).it (Name s) (Name t) ≡ bytes_eq (chars s.bytes) (chars t.bytes)
same s t u v = sym (bytes_eq-chars s.bytes t.bytes u v)

abbrev keys_same : Key → Key → Bool
keys_same = (eq-value).it

-- what putting the key of a name does
put_key : (name : List ℕ) (v : Span) (es : List (Key × Span)) (k : Key) (n : ℕ) → IsUtf8 name → IsKeyOf name n k → n ≡ length es → AreKeysBelow (length es) es
    → Puts keys_same same (λ i j. refl) (λ s i. refl) (λ s i. refl) name v es k
put_key name v es k n u h e b = puts keys_same same (λ i j. refl) (λ s i. refl) (λ s i. refl) name v es k u (subst (λ (m : ℕ). IsKeyOf name m k) e h) b

pub invariant_of-self : goal.invariant_of-self
invariant_of-self c =
    let es = c.self.inside.map.entries in
    let p = put_key c.args.name.now c.args.value es c.of-key.result c.len.result c.utf8.name c.of-key.ensures c.len.ensures.len c.self.invariant.keys in
    let found = set_found keys_same same (λ i j. refl) (λ s i. refl) (λ s i. refl) c.of-key.result c.args.value es c.in-Some.index (sym c.in-Some.ensures.index) in
    let count : length (set_value_at es c.in-Some.index c.args.value) ≡ length es = index_map_len-with_value_at c.self.inside.map c.in-Some.index c.args.value in
    record {
      keys = subst (λ (x : List (Key × Span)). AreKeysBelow (length x) x) (sym found) p.below;
      fits = (let f = c.self.invariant.fits in omega (arith, count, f));
    }

pub returns-in-Some-clause-put : goal.returns-in-Some-clause-put
returns-in-Some-clause-put c =
    let es = c.self.inside.map.entries in
    let p = put_key c.args.name.now c.args.value es c.of-key.result c.len.result c.utf8.name c.of-key.ensures c.len.ensures.len c.self.invariant.keys in
    let found = set_found keys_same same (λ i j. refl) (λ s i. refl) (λ s i. refl) c.of-key.result c.args.value es c.in-Some.index (sym c.in-Some.ensures.index) in
    rw (← c.self.view_is) (ap named_entries found ∙ p.entries)

pub returns-in-Some-clause-again : goal.returns-in-Some-clause-again
returns-in-Some-clause-again c =
    let es = c.self.inside.map.entries in
    let p = put_key c.args.name.now c.args.value es c.of-key.result c.len.result c.utf8.name c.of-key.ensures c.len.ensures.len c.self.invariant.keys in
    rw (← c.self.view_is) (c.in-Some.ensures.found ∙ p.again)

pub unreachable-requires : goal.unreachable-requires
unreachable-requires c =
    let room : length c.self.inside.map.entries < c.self.inside.limit = rw (← c.self.view_is) at c.requires.room in
    let f = c.self.invariant.fits in
    let some : 0 < spare c.self.inside.map = omega (arith, room, f) in
    false≢true (c.in_default-insert.ensures.succeeds some)

pub invariant_of-self-2 : goal.invariant_of-self-2
invariant_of-self-2 c =
    let es = c.self.inside.map.entries in
    let p = put_key c.args.name.now c.args.value es c.of-key.result c.len.result c.utf8.name c.of-key.ensures c.len.ensures.len c.self.invariant.keys in
    let none : is_some (lookup (keys_same c.of-key.result) es) ≡ false = sym c.in_default.ensures.found in
    let count : length c.insert.new.self.entries ≡ length es + 1 = c.in-Ok.ensures.len ∙ ap (λ (b : Bool). length es + (if b then 0 else 1)) (ap is_some c.in-Ok.ensures.old ∙ none) in
    record {
      keys = subst (λ (x : List (Key × Span)). AreKeysBelow (length x) x) (sym c.in-Ok.ensures.entries) p.below;
      fits = (let f = c.self.invariant.fits in let s = c.in-Ok.ensures.spare in omega (arith, count, f, s));
    }

pub returns-clause-put : goal.returns-clause-put
returns-clause-put c = grind (arith, put_key)

pub returns-clause-again : goal.returns-clause-again
returns-clause-again c =
    let es = c.self.inside.map.entries in
    let p = put_key c.args.name.now c.args.value es c.of-key.result c.len.result c.utf8.name c.of-key.ensures c.len.ensures.len c.self.invariant.keys in
    rw (← c.self.view_is) (c.in_default.ensures.found ∙ p.again)
