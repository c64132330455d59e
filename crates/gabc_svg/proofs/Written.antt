-- The text of joined contents, and of joined attributes.
use Rattle.std.proofs.Common.{◌≡◌, ◌++◌, [], List, refl, append_assoc, append-nil, arith}
use Rattle.std.proofs.lemmas.List.Concat.{flat_map-append}
use Rattle.gabc_svg.specs.Xml.{Attribute, Content, Nothing, Characters, Element, Empty, and_then, written, written_attribute, written_attributes}

-- what stands after a content stands after its text
pub written-and_then : (a b : Content) → written (and_then a b) ≡ written a ++ written b
unfolding written
written-and_then Nothing b = refl
written-and_then (Characters text rest) b = grind (arith, written-and_then rest b, append_assoc)
written-and_then (Element t attributes inner rest) b = grind (arith, written-and_then rest b, append_assoc)
written-and_then (Empty t attributes rest) b = grind (arith, written-and_then rest b, append_assoc)

pub written-nothing : written Nothing ≡ []
unfolding written
written-nothing = refl

pub written_attributes-append : (a b : List Attribute) → written_attributes (a ++ b) ≡ written_attributes a ++ written_attributes b
written_attributes-append a b = flat_map-append written_attribute a b

pub ruleset steps = (written-nothing, written-and_then, written_attributes-append, append_assoc, append-nil)
