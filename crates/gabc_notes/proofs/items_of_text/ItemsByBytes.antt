-- The items of a text one after the other, by their bytes.
use Rattle.std.proofs.Common.{◌≡◌, ℕ, zero, suc, List, [], ◌∷◌, ◌++◌, Option, Some, None, refl, sym, ap, ◌∙◌, subst, take, drop, length, map, ◌≤◌, ◌+◌, arith, take-append-drop, IsUtf8}
use Rattle.std.specs.Str.{chars}
use Rattle.std.proofs.lemmas.Str.{chars-append, IsUtf8-take, IsCharBoundary-from_drop, encodes-chars}
use Rattle.std.proofs.lemmas.List.{length-take-le}
use lib.Utf8.{encodes}
use Rattle.gabc_notes.specs.Table.{gabc}
use Rattle.gabc_notes.specs.machine.Items.{IsFirstItem}
use Rattle.gabc_notes.specs.Items.{IsKept, AreItemsOf, MakeUp, AreWithin, piece_of, placed_items, items_from, items_of}
use Rattle.gabc_notes.specs.declared.item.Item.{Item}
use Rattle.gabc_notes.specs.declared.item.ItemKind.{ItemKind}
use Rattle.gabc_patterns.specs.Items.{ItemSpan}
use Rattle.gabc_patterns.proofs.ItemsByBytes.{spans, lie_within, no_more_than_bytes, read_text}
use Rattle.gabc_patterns.specs.Function.{items, items_within, longest_item}
use Rattle.gabc_patterns.specs.Reads.{items_by}
use Rattle.gabc_patterns.proofs.ItemsBy.{within_read, items_by_are_items}
use Rattle.gabc_notes.proofs.grammar.LawsOfKeptTexts.{kinds_are_one}
use Rattle.gabc_patterns.proofs.ItemsAsFarAsOneBegins.{one_read_on}
use Rattle.gabc_patterns.proofs.ItemsOneByOne.{items_first}

-- an item of that kind, and of n bytes
abbrev pub item_at : ItemKind → ℕ → ℕ → Item
item_at k at len = record { kind = k; span = record { from = at; to = at + len } }

-- the items are those of the function `items`
placed_same : (at : ℕ) (t : List ℕ) → placed_items at (items_by gabc t) ≡ placed_items at (items gabc t)
placed_same at t = ap (placed_items at) (items_by_are_items gabc refl kinds_are_one t)

-- the first of the items from a byte on, and those after it
pub first_from : (here : List ℕ) (at len : ℕ) (k : ItemKind) → IsUtf8 here → IsFirstItem here k len → items_from at here ≡ item_at k at len ∷ items_from (at + len) (drop len here)
first_from here at len k u h =
    let within = h.within in
    let boundary = IsCharBoundary-from_drop here len within h.utf8 in
    let v : IsUtf8 (take len here) = IsUtf8-take here len u boundary in
    let x : List ℕ = chars (take len here) in
    let y : List ℕ = chars (drop len here) in
    let split : chars here ≡ x ++ y = ap chars (sym (take-append-drop len here)) ∙ chars-append (take len here) (drop len here) v in
    let many : length (encodes x) ≡ len = ap length (encodes-chars (take len here) v) ∙ length-take-le len here within in
    ap (λ (t : List ℕ). placed_items at (items_by gabc t)) split
    ∙ (placed_same at (x ++ y)
    ∙ (ap (placed_items at) (items_first gabc refl kinds_are_one k x y h.item h.longest)
    ∙ (ap (λ (n : ℕ). item_at k at n ∷ placed_items (at + n) (items gabc y)) many
    ∙ ap (λ (is : List Item). item_at k at len ∷ is) (sym (placed_same (at + len) y)))))

none_in_items : (n : ℕ) (t : List ℕ) → longest_item gabc t ≡ None → items_within gabc n t ≡ []
none_in_items zero t e = refl
none_in_items (suc n) t e = ap (λ (o : Option (ItemKind × ℕ)). elim o as (λ _. List (ItemKind × List ℕ)) [ None ↦ [] | Some i ↦ (i.0, take i.1 t) ∷ items_within gabc n (drop i.1 t) ]) e

-- if no item begins, none is left
pub none_left : (here : List ℕ) (at : ℕ) → longest_item gabc (chars here) ≡ None → items_from at here ≡ []
none_left here at e = placed_same at (chars here) ∙ ap (placed_items at) (none_in_items (length (chars here)) (chars here) e)

-- ---- the items of a text lie in it, and are few

pieces : (at : ℕ) (is : List (ItemKind × List ℕ)) → map piece_of (placed_items at is) ≡ spans at is
pieces at [] = refl
pieces at (i ∷ is) = ap (λ (l : List (ItemSpan ItemKind)). (i.0, at, at + length (encodes i.1)) ∷ l) (pieces (at + length (encodes i.1)) is)

pub items_lie_in : (bytes : List ℕ) → IsUtf8 bytes → AreWithin bytes (items_of bytes)
items_lie_in bytes u = subst (AreWithin bytes) (sym (placed_same 0 (chars bytes))) (lie_within gabc piece_of placed_items pieces bytes u)

pub items_few : (bytes : List ℕ) → IsUtf8 bytes → length (items_of bytes) ≤ length bytes
items_few bytes u = subst (λ (is : List Item). length is ≤ length bytes) (sym (placed_same 0 (chars bytes))) (no_more_than_bytes gabc piece_of placed_items pieces bytes u)

-- ---- the items of a text, as far as one begins

pub items_are_those : (bytes : List ℕ) → AreItemsOf bytes (items_of bytes)
items_are_those bytes = let r = within_read gabc refl (length (chars bytes)) (chars bytes) (omega arith) in record { texts = items_by gabc (chars bytes); rest = r.0; reads = r.1; placed = refl }

-- they are one list
pub items_are_one_list : (bytes : List ℕ) (is js : List Item) → AreItemsOf bytes is → AreItemsOf bytes js → is ≡ js
items_are_one_list bytes is js h k =
    h.placed ∙ (ap (placed_items 0) (one_read_on gabc refl kinds_are_one h.texts k.texts (chars bytes) h.rest k.rest h.reads k.reads).0 ∙ sym k.placed)

-- ---- the items of a snippet read it

pub items_read_text : (text : List ℕ) → IsUtf8 text → IsKept text → MakeUp text (items_of text)
items_read_text text u k =
    let r = read_text gabc piece_of placed_items pieces text u refl k in
    subst (MakeUp text) (sym (placed_same 0 (chars text))) (record { reads = r.0; joined = r.1 })
