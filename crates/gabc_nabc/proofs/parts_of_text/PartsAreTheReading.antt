-- The parts of a snippet are its reading, and those of any text lie in it.
use Rattle.std.specs.Prelude.{Bool}
use Rattle.std.proofs.Common.{◌≡◌, ℕ, List, [], ◌∷◌, refl, sym, ap, ◌∙◌, subst, length, map, ◌≤◌, ◌+◌, arith, IsUtf8}
use Rattle.std.specs.Str.{chars}
use lib.Utf8.{encodes}
use Rattle.gabc_patterns.specs.Items.{ItemSpan}
use Rattle.gabc_patterns.proofs.ItemsByBytes.{spans, lie_within, no_more_than_bytes, read_text}
use Rattle.gabc_patterns.proofs.ItemsAsFarAsOneBegins.{one_read_on}
use Rattle.gabc_patterns.specs.Reads.{items_by}
use Rattle.gabc_patterns.proofs.ItemsBy.{within_read}
use Rattle.gabc_nabc.specs.Table.{nabc}
use Rattle.gabc_nabc.specs.Parts.{IsNabc, AreDescriptorsOf, MakeUp, AreWithin, placed_parts, parts_of, piece_of}
use Rattle.gabc_nabc.proofs.grammar.LawsOfEvents.{kinds_are_one}
use Rattle.gabc_nabc.proofs.parts_of_text.PartsByBytes.{placed_same}
use Rattle.gabc_nabc.specs.declared.descriptor.Descriptor.{Descriptor}

pieces : (at : ℕ) (is : List (Bool × List ℕ)) → map piece_of (placed_parts at is) ≡ spans at is
pieces at [] = refl
pieces at (i ∷ is) = ap (λ (l : List (ItemSpan Bool)). (i.0, at, at + length (encodes i.1)) ∷ l) (pieces (at + length (encodes i.1)) is)

-- the parts of a snippet
pub parts_read : (bytes : List ℕ) → IsUtf8 bytes → IsNabc bytes → MakeUp bytes (parts_of bytes)
parts_read bytes u s =
    let r = read_text nabc piece_of placed_parts pieces bytes u refl s in
    subst (MakeUp bytes) (sym (placed_same 0 (chars bytes))) (record { reads = r.0; joined = r.1 })

-- the parts of any text, as far as one begins
pub parts_are : (bytes : List ℕ) → AreDescriptorsOf bytes (parts_of bytes)
parts_are bytes = let r = within_read nabc refl (length (chars bytes)) (chars bytes) (omega arith) in record { texts = items_by nabc (chars bytes); rest = r.0; reads = r.1; placed = refl }

-- they are one list
pub parts_are_one : (bytes : List ℕ) (ps qs : List Descriptor) → AreDescriptorsOf bytes ps → AreDescriptorsOf bytes qs → ps ≡ qs
parts_are_one bytes ps qs h k =
    h.placed ∙ (ap (placed_parts 0) (one_read_on nabc refl kinds_are_one h.texts k.texts (chars bytes) h.rest k.rest h.reads k.reads).0 ∙ sym k.placed)

-- the parts of a text lie in it, and are few
pub parts_lie : (bytes : List ℕ) → IsUtf8 bytes → AreWithin bytes (parts_of bytes)
parts_lie bytes u = subst (AreWithin bytes) (sym (placed_same 0 (chars bytes))) (lie_within nabc piece_of placed_parts pieces bytes u)

pub parts_few : (bytes : List ℕ) → IsUtf8 bytes → length (parts_of bytes) ≤ length bytes
parts_few bytes u = subst (λ (ps : List Descriptor). length ps ≤ length bytes) (sym (placed_same 0 (chars bytes))) (no_more_than_bytes nabc piece_of placed_parts pieces bytes u)
