-- The bytes of a text without CR and U+FEFF are read as that text.
use Rattle.std.proofs.Common.{◌≡◌, ◌≢◌, ℕ, not, ◌≤◌, Bool, true, false, cond, List, [], ◌∷◌, ◌++◌, length, map, filter, None, refl, ap, ap₂, sym, ◌∙◌, arith, append-nil}
use Rattle.std.proofs.lemmas.Bool.Decides.{nat_tests}
use Rattle.std.specs.Char.{IsScalar}
use Rattle.std.specs.List.{zip, All}
use Rattle.std.proofs.lemmas.List.Elements.{All-head, All-tail}
use lib.Utf8.{encodes, scalars}
use Rattle.gabc_places.specs.declared.limits.Limits.{Limits}
use Rattle.gabc_places.specs.declared.decoded.Tail.TheVariants.{Nothing}
use Rattle.gabc_places.specs.Text.{is_left_out, read_as, utf8_prefix_of, tail_of, decoded_of, stop_code_of, text_of_characters}
use Rattle.gabc_places.specs.TextOfAnInput.{IsPlain}
use Rattle.gabc_places.proofs.decoding.BytesAreDecoded.{reads-past, tail-past, decoded_by, decoded_within}
use Rattle.gabc_places.proofs.utf8.CharacterByCharacter.{utf8_prefix_of-none, tail_of-none}
use Rattle.gabc_places.proofs.utf8.PartOfACharacter.{nothing_is_partial}

pub all_scalars : (cs : List ℕ) → All IsScalar cs → scalars cs ≡ true
all_scalars [] h = refl
all_scalars (c ∷ cs) h = grind (arith, all_scalars cs (All-tail IsScalar c cs h), All-head, All-tail)

-- nothing is left out or changed
pub kept : (p c : ℕ) → p ≢ 13 → IsPlain c → (is_left_out (p, c) ≡ false) × (read_as c ≡ c)
kept p c before plain = (grind (arith, nat_tests), grind (arith, nat_tests))

abbrev pub read_one : ℕ × ℕ → ℕ
read_one q = read_as q.1

abbrev pub is_read : ℕ × ℕ → Bool
is_read q = not (is_left_out q)

plain_after : (p : ℕ) (cs : List ℕ) → p ≢ 13 → All IsPlain cs → map read_one (filter is_read (zip (p ∷ cs) cs)) ≡ cs
plain_after p [] before h = refl
plain_after p (c ∷ cs) before h =
    let plain = All-head IsPlain c cs h in
    let k = kept p c before plain in
    by (is_read (p, c)) (ap not k.0) k.1 (plain_after c cs plain.0 (All-tail IsPlain c cs h))
  where
    by : (b : Bool) → b ≡ true → read_as c ≡ c → map read_one (filter is_read (zip (c ∷ cs) cs)) ≡ cs
        → map read_one (cond b ((p, c) ∷ filter is_read (zip (c ∷ cs) cs)) (filter is_read (zip (c ∷ cs) cs))) ≡ c ∷ cs
    by true e same rest = ap₂ (λ x (xs : List ℕ). x ∷ xs) same rest
    by false e same rest = absurd (cc)

-- the bytes of characters are read as the text of these
pub characters_are_read : (limits : Limits) (ended : Bool) (cs : List ℕ) → scalars cs ≡ true → length (encodes cs) ≤ limits.input
    → decoded_of limits ended (encodes cs) ≡ record { text = text_of_characters cs; fault = None }
characters_are_read limits ended cs ok within =
    let characters : utf8_prefix_of (encodes cs) ≡ cs =
    ap utf8_prefix_of (sym (append-nil (encodes cs))) ∙ reads-past cs [] ok ∙ ap (λ l. cs ++ l) (utf8_prefix_of-none [] nothing_is_partial.none) ∙ append-nil cs in
    let tail : tail_of (encodes cs) ≡ Nothing =
    ap tail_of (sym (append-nil (encodes cs))) ∙ tail-past cs [] ok ∙ tail_of-none [] nothing_is_partial.none in
    decoded_within limits ended (encodes cs) within
    ∙ ap₂ (λ read t. decoded_by read (stop_code_of false ended t)) characters tail

pub read_again : (limits : Limits) (ended : Bool) (text : List ℕ) → All IsScalar text → All IsPlain text → length (encodes text) ≤ limits.input
    → decoded_of limits ended (encodes text) ≡ record { text = text; fault = None }
read_again limits ended text scalar plain within =
    characters_are_read limits ended text (all_scalars text scalar) within
    ∙ ap (λ (t : List ℕ). record { text = t; fault = None }) (plain_after 0 text (λ e. absurd (omega (arith, e))) plain)
