-- An automaton whose tests come out reads the table.
use Rattle.std.proofs.Common.{◌≡◌, ℕ, ◌<◌, ◌≤◌, [], Bool, true, false, ◌&&◌, sym, ap, ◌∙◌, arith}
use Rattle.std.proofs.lemmas.Bool.{and_parts}
use native.Mathlib.Decide.{dec_lt}
use Rattle.gabc_patterns.specs.LongestItems.{Table}
use Rattle.gabc_patterns.specs.Derivative.{rows_after, rows_end, step, is_whole, is_alive, end_kind}
use Rattle.gabc_patterns.proofs.CharactersBeyondTheTable.{are_plain, stands_plain, rows_beyond, step_beyond}
use Rattle.gabc_patterns.proofs.AutomatonsByTests.{Automaton, reading, reading_of, rows_of, rows_at, ReadsSnippets, ReadsItems, below, below_at, alike, alike_equal, same_rows_equal, same_reading_equal, same_end, same_end_equal, agrees, agrees_on, test_snippets, test_items}

module _ {K S C : Type 0} (same_kind : K → K → Bool) (same_kind_equal : (k j : K) → same_kind k j ≡ true → k ≡ j)
    (table : Table K) (a : Automaton K S C) (far : (c : ℕ) → 128 ≤ c → a.class_of c ≡ a.class_of 128) where
  steps_at : are_plain table ≡ true → (s : S) → stands_plain (reading table a s) ≡ true → below 129 (agrees same_kind table a s) ≡ true
      → (c : ℕ) → step table (reading table a s) c ≡ reading_of table a (a.next s (a.class_of c))
  steps_at plain s p h c = elim (dec_lt c 128) [
    | yes l ↦ at c (omega arith)
    | no n ↦ (let l : 128 ≤ c = omega arith in
        step_beyond table (reading table a s) c l plain p ∙ (at 128 (omega arith) ∙ ap (λ k. reading_of table a (a.next s k)) (sym (far c l))))
  ]
    where
      at : (d : ℕ) → d < 129 → step table (reading table a s) d ≡ reading_of table a (a.next s (a.class_of d))
      at d l = same_reading_equal same_kind same_kind_equal (step table (reading table a s) d) (reading_of table a (a.next s (a.class_of d)))
          (below_at 129 (agrees same_kind table a s) d h l)

  rows_on : (s : S) → are_plain (rows_of table a s) ≡ true → below 129 (agrees_on same_kind table a s) ≡ true
      → (c : ℕ) → rows_after c (rows_of table a s) ≡ rows_at table a (a.goes_on s (a.class_of c))
  rows_on s p h c = elim (dec_lt c 128) [
    | yes l ↦ on c (omega arith)
    | no n ↦ (let l : 128 ≤ c = omega arith in
        rows_beyond (rows_of table a s) c l p ∙ (on 128 (omega arith) ∙ ap (λ k. rows_at table a (a.goes_on s k)) (sym (far c l))))
  ]
    where
      on : (d : ℕ) → d < 129 → rows_after d (rows_of table a s) ≡ rows_at table a (a.goes_on s (a.class_of d))
      on d l = same_rows_equal same_kind same_kind_equal (rows_after d (rows_of table a s)) (rows_at table a (a.goes_on s (a.class_of d)))
          (below_at 129 (agrees_on same_kind table a s) d h l)

  -- it reads snippets
  pub reads_snippets : rows_end table ≡ false → a.example a.first ≡ [] → are_plain table ≡ true
      → ((s : S) → test_snippets same_kind table a s ≡ true) → ReadsSnippets table a
  reads_snippets none_empty begins plain h = record {
    none_empty = none_empty;
    begins = begins;
    alive = λ s. (parts s).0;
    whole = λ s. alike_equal (is_whole (reading table a s)) (a.whole s) (parts s).1;
    steps = λ s. steps_at plain s (parts s).2 (parts s).3;
  }
    where
      parts : (s : S) → (is_alive (reading table a s) ≡ true) × (alike (is_whole (reading table a s)) (a.whole s) ≡ true)
          × (stands_plain (reading table a s) ≡ true) × (below 129 (agrees same_kind table a s) ≡ true)
      parts s =
          let x = and_parts (is_alive (reading table a s)) (alike (is_whole (reading table a s)) (a.whole s) && (stands_plain (reading table a s) && below 129 (agrees same_kind table a s))) (h s) in
          let y = and_parts (alike (is_whole (reading table a s)) (a.whole s)) (stands_plain (reading table a s) && below 129 (agrees same_kind table a s)) x.1 in
          let z = and_parts (stands_plain (reading table a s)) (below 129 (agrees same_kind table a s)) y.1 in
          (x.0, y.0, z.0, z.1)

  -- it reads items
  pub reads_items : a.example a.first ≡ [] → ((s : S) → test_items same_kind table a s ≡ true) → ReadsItems table a
  reads_items begins h = record {
    begins = begins;
    goes_on = λ s. rows_on s (parts s).1 (parts s).2;
    ends = λ s. same_end_equal same_kind same_kind_equal (end_kind (rows_of table a s)) (a.ends s) (parts s).0;
  }
    where
      parts : (s : S) → (same_end same_kind (end_kind (rows_of table a s)) (a.ends s) ≡ true)
          × (are_plain (rows_of table a s) ≡ true) × (below 129 (agrees_on same_kind table a s) ≡ true)
      parts s =
          let x = and_parts (same_end same_kind (end_kind (rows_of table a s)) (a.ends s)) (are_plain (rows_of table a s) && below 129 (agrees_on same_kind table a s)) (h s) in
          let y = and_parts (are_plain (rows_of table a s)) (below 129 (agrees_on same_kind table a s)) x.1 in
          (x.0, y.0, y.1)
