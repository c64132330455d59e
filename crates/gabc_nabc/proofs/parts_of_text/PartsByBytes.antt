-- The parts of a text one after the other, by their bytes.
use Rattle.std.specs.Prelude.{Bool}
use Rattle.std.proofs.Common.{◌≡◌, ℕ, zero, suc, List, [], ◌∷◌, ◌++◌, refl, sym, ap, ◌∙◌, subst, Option, Some, None, take, drop, length, ◌≤◌, ◌<◌, ◌+◌, arith, length-append, take-append-drop, IsUtf8}
use Rattle.std.specs.Str.{chars}
use Rattle.std.proofs.lemmas.List.{length-take-le}
use Rattle.std.proofs.lemmas.Str.{encodes-append, encodes-chars, scalars-chars, chars-encodes, length-le-encodes}
use Rattle.std.proofs.Math.Seq.{drop-append_seam}
use lib.Utf8.{encodes, scalars}
use Rattle.gabc_places.proofs.texts.CharactersOfStrings.{scalars_split}
use Rattle.gabc_patterns.specs.Function.{longest_item, items, items_within}
use Rattle.gabc_patterns.specs.Reads.{items_by}
use Rattle.gabc_patterns.proofs.ItemSoFar.{IsBest}
use Rattle.gabc_patterns.proofs.ItemsBy.{items_by_are_items}
use Rattle.gabc_patterns.proofs.ItemsFunctionReads.{longest_item_best}
use Rattle.gabc_patterns.proofs.ItemsOneByOne.{items_more}
use Rattle.gabc_nabc.specs.Table.{nabc}
use Rattle.gabc_nabc.specs.Parts.{placed_parts}
use Rattle.gabc_nabc.specs.machine.Parts.{in_bytes, first_part_of}
use Rattle.gabc_nabc.specs.declared.descriptor.Descriptor.{Descriptor}
use Rattle.gabc_nabc.proofs.grammar.LawsOfEvents.{kinds_are_one}

-- a part of that many bytes from there on
abbrev pub part_at : ℕ → Bool × ℕ → Descriptor
part_at at i = record { space = i.0; span = record { from = at; to = at + i.1 } }

-- the parts are those of the function `items`
pub placed_same : (at : ℕ) (t : List ℕ) → placed_parts at (items_by nabc t) ≡ placed_parts at (items nabc t)
placed_same at t = ap (placed_parts at) (items_by_are_items nabc refl kinds_are_one t)

-- What is left of a text after its first part.
pub record After (text : List ℕ) (at : ℕ) (i : Bool × ℕ) : Type 0 where
  pub some : 0 < i.1
  pub within : i.1 ≤ length text
  pub utf8 : IsUtf8 (drop i.1 text)
  pub parts : placed_parts at (items_by nabc (chars text)) ≡ part_at at i ∷ placed_parts (at + i.1) (items_by nabc (chars (drop i.1 text)))

pub after_first : (text : List ℕ) (at : ℕ) (i : Bool × ℕ) → IsUtf8 text → first_part_of text ≡ Some i → After text at i
after_first text at i u e = go (longest_item nabc (chars text)) (longest_item_best nabc (chars text)) refl
  where
    go : (o : Option (Bool × ℕ)) → IsBest nabc (chars text) (length (chars text)) o → longest_item nabc (chars text) ≡ o → After text at i
    go None h f = absurd (let g : in_bytes (chars text) None ≡ Some i = ap (in_bytes (chars text)) (sym f) ∙ e in cc)
    go (Some (k, n)) h f =
        let t : List ℕ = chars text in
        let a : List ℕ = take n t in
        let b : List ℕ = drop n t in
        let split : a ++ b ≡ t = take-append-drop n t in
        let s = scalars_split a b (ap scalars split ∙ scalars-chars text u) in
        let bytes : encodes a ++ encodes b ≡ text = sym (encodes-append a b) ∙ (ap encodes split ∙ encodes-chars text u) in
        let left : drop (length (encodes a)) text ≡ encodes b = ap (drop (length (encodes a))) (sym bytes) ∙ drop-append_seam (encodes a) (encodes b) in
        let later : chars (drop (length (encodes a)) text) ≡ b = ap chars left ∙ chars-encodes b s.1 in
        let whole : Some (k, length (encodes a)) ≡ Some i = ap (in_bytes t) (sym f) ∙ e in
        let same : i ≡ (k, length (encodes a)) = cc in
        let x = h.0 in
        let y = h.1 in
        subst (After text at) (sym same) (record {
          some = omega (arith, length-le-encodes a, length-take-le n t y, x);
          within = omega (arith, ap length bytes, length-append (encodes a) (encodes b));
          utf8 = rw left (b, (s.1, refl));
          parts = placed_same at t
              ∙ (ap (placed_parts at) (items_more nabc t k n f)
              ∙ ap (λ (ps : List Descriptor). part_at at (k, length (encodes a)) ∷ ps) (sym (placed_same (at + length (encodes a)) b)
              ∙ ap (λ (r : List ℕ). placed_parts (at + length (encodes a)) (items_by nabc r)) (sym later)));
        })

none_in_items : (n : ℕ) (t : List ℕ) → longest_item nabc t ≡ None → items_within nabc n t ≡ []
none_in_items zero t e = refl
none_in_items (suc n) t e = ap (λ (o : Option (Bool × ℕ)). elim o as (λ _. List (Bool × List ℕ)) [ None ↦ [] | Some i ↦ (i.0, take i.1 t) ∷ items_within nabc n (drop i.1 t) ]) e

-- if no part begins, none is left
pub none_left : (text : List ℕ) (at : ℕ) → first_part_of text ≡ None → placed_parts at (items_by nabc (chars text)) ≡ []
none_left text at e = placed_same at (chars text) ∙ ap (placed_parts at) (none_in_items (length (chars text)) (chars text) (go (longest_item nabc (chars text)) refl e))
  where
    go : (o : Option (Bool × ℕ)) → longest_item nabc (chars text) ≡ o → in_bytes (chars text) o ≡ None → o ≡ None
    go None f g = refl
    go (Some i) f g = absurd (cc)
