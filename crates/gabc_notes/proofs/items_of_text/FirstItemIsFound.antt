-- The longest item that begins a text, by its bytes, is what the grammar says.
use Rattle.std.proofs.Common.{◌≡◌, ℕ, List, ◌++◌, length, take, drop, Option, Some, None, refl, ap, sym, ◌∙◌, subst, arith, IsUtf8, ◌-◌, slice_range, length-append, IfSome, IfNone}
use Rattle.std.specs.Str.{chars}
use Rattle.std.proofs.lemmas.List.{take-append-drop, length-take-le}
use Rattle.std.proofs.Math.Seq.{take-append_seam, drop-append_seam}
use Rattle.std.proofs.lemmas.Str.{encodes-append, encodes-chars, scalars-chars, chars-encodes, length-le-encodes}
use lib.Utf8.{encodes, scalars}
use Rattle.gabc_places.proofs.texts.CharactersOfStrings.{scalars_split}
use Rattle.gabc_patterns.specs.Items.{IsItemAt, ItemSpan}
use Rattle.gabc_patterns.specs.LongestItems.{Longest, IsItem, IsItemOf}
use Rattle.gabc_patterns.specs.Function.{longest_item}
use Rattle.gabc_patterns.proofs.FirstItemByBytes.{BestByBytes, bytes_to, in_bytes}
use Rattle.gabc_patterns.proofs.ItemHere.{BestHere, best_item}
use Rattle.gabc_patterns.proofs.ItemsOneByOne.{none_found}
use Rattle.gabc_notes.specs.Table.{gabc}
use Rattle.gabc_notes.specs.machine.Items.{IsFirstItem}
use Rattle.gabc_notes.specs.declared.item.ItemKind.{ItemKind}
use Rattle.gabc_notes.proofs.grammar.LawsOfKeptTexts.{kinds_are_one}

-- What a search for the longest item reports.
pub record BestFound (text : List ℕ) (best : Option (ItemKind × ℕ)) : Type 0 where
  pub found : IfSome best (λ i. IsFirstItem text i.0 i.1)
  pub none : IfNone best (longest_item gabc (chars text) ≡ None)

first_is : (text : List ℕ) (k : ItemKind) (n : ℕ) → IsUtf8 text → IsItemAt gabc (chars text) 0 k n → IsFirstItem text k (bytes_to (chars text) n)
first_is text k n u i =
    let t : List ℕ = chars text in
    let a : List ℕ = take n t in
    let b : List ℕ = drop n t in
    let split : a ++ b ≡ t = take-append-drop n t in
    let s = scalars_split a b (ap scalars split ∙ scalars-chars text u) in
    let bytes : encodes a ++ encodes b ≡ text = sym (encodes-append a b) ∙ (ap encodes split ∙ encodes-chars text u) in
    let cut : take (length (encodes a)) text ≡ encodes a = ap (take (length (encodes a))) (sym bytes) ∙ take-append_seam (encodes a) (encodes b) in
    let left : drop (length (encodes a)) text ≡ encodes b = ap (drop (length (encodes a))) (sym bytes) ∙ drop-append_seam (encodes a) (encodes b) in
    let x : chars (take (length (encodes a)) text) ≡ a = ap chars cut ∙ chars-encodes a s.0 in
    let y : chars (drop (length (encodes a)) text) ≡ b = ap chars left ∙ chars-encodes b s.1 in
    let n_less : n - 0 ≡ n = omega arith in
    let slice : slice_range t 0 n ≡ a = ap (λ (m : ℕ). take m t) n_less in
    let some = i.after in
    let within = i.within in
    let l : length a ≡ n = length-take-le n t within in
    record {
      some = omega (arith, length-le-encodes a, l, some);
      within = omega (arith, ap length bytes, length-append (encodes a) (encodes b));
      utf8 = rw left (b, (s.1, refl));
      item = subst (IsItemOf gabc k) (slice ∙ sym x) i.item;
      longest = rw (x, y) (subst (λ (u : List ℕ). Longest (IsItem gabc) u b) slice i.longest);
    }

-- what is found, by its bytes
pub best_found : (text : List ℕ) (best : Option (ItemKind × ℕ)) → IsUtf8 text → BestByBytes gabc text best → BestFound text best
best_found text best u h = subst (BestFound text) (sym h.bytes) (go h.longest h.here)
  where
    go : (longest : Option (ItemSpan ItemKind)) → BestHere gabc (chars text) 0 longest → BestFound text (in_bytes (chars text) longest)
    go None b = record { found = tt; none = none_found gabc kinds_are_one (chars text) b }
    go (Some (k, m, n)) b = record { found = first_is text k n u (best_item gabc (chars text) 0 (k, m, n) (omega arith) b).1; none = tt }
