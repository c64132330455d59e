-- Bytes that are compared with a text as they come.
use Rattle.std.proofs.Common.{◌≡◌, ◌==◌, ℕ, List, [], ◌∷◌, ◌++◌, Bool, true, false, Option, Some, None, refl}
use Rattle.std.specs.Prelude.{if◌then◌else◌}

-- the rest of a text after these bytes, if it begins with them
abbrev pub left_past : List ℕ → List ℕ → Option (List ℕ)
left_past [] text = Some text
left_past (b ∷ bytes) [] = None
left_past (b ∷ bytes) (c ∷ text) = if b == c then left_past bytes text else None

-- the rest of the text after these bytes, as long as all bytes so far are the text's
abbrev pub compared_with : Option (List ℕ) → List ℕ → Option (List ℕ)
compared_with None bytes = None
compared_with (Some rest) bytes = left_past bytes rest

pub compared_with_none : (c : Option (List ℕ)) → compared_with c [] ≡ c
compared_with_none None = refl
compared_with_none (Some rest) = refl

by_test : (same : Bool) (one both : Option (List ℕ)) (b : List ℕ) → compared_with one b ≡ both → compared_with (if same then one else None) b ≡ (if same then both else None)
by_test true one both b is = is
by_test false one both b is = refl

left_past_both : (a b text : List ℕ) → compared_with (left_past a text) b ≡ left_past (a ++ b) text
left_past_both [] b text = refl
left_past_both (x ∷ a) b [] = refl
left_past_both (x ∷ a) b (c ∷ text) = by_test (x == c) (left_past a text) (left_past (a ++ b) text) b (left_past_both a b text)

pub compared_with_both : (c : Option (List ℕ)) (a b : List ℕ) → compared_with (compared_with c a) b ≡ compared_with c (a ++ b)
compared_with_both None a b = refl
compared_with_both (Some rest) a b = left_past_both a b rest
