-- The characters of a text that is read a character at a time.
use Rattle.std.proofs.Common.{◌≡◌, ℕ, List, [], ◌∷◌, ◌++◌, length, ap, sym, ◌∙◌, append_assoc, append-nil, arith, IsUtf8}
use Rattle.std.specs.Str.{chars}
use Rattle.std.proofs.lemmas.Str.{chars_past_char, chars-nil}
use lib.Utf8.{encode}

-- a character moves from the rest to what was read
pub one_read : (done bs rest all : List ℕ) (c : ℕ) → IsUtf8 bs → bs ≡ encode c ++ rest → done ++ chars bs ≡ all
    → (done ++ c ∷ []) ++ chars rest ≡ all
one_read done bs rest all c u e h = append_assoc done (c ∷ []) (chars rest) ∙ ap (λ t. done ++ t) (sym (chars_past_char bs rest c u e)) ∙ h

-- so it stands after what was read
pub one_next : (done bs rest all : List ℕ) (c : ℕ) → IsUtf8 bs → bs ≡ encode c ++ rest → done ++ chars bs ≡ all → all ≡ done ++ c ∷ chars rest
one_next done bs rest all c u e h = sym h ∙ ap (λ t. done ++ t) (chars_past_char bs rest c u e)

-- all was read
pub all_read : (done bs all : List ℕ) → length bs ≡ 0 → done ++ chars bs ≡ all → done ≡ all
all_read done [] all e h = sym (append-nil done) ∙ ap (λ t. done ++ t) (sym chars-nil) ∙ h
all_read done (x ∷ xs) all e h = absurd (omega arith)
