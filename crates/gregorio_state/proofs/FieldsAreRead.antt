-- The bytes of a field are read as this field, whatever follows them.
use Rattle.std.proofs.Common.{◌≡◌, ℕ, ◌^◌, ◌<◌, ◌≤◌, Bool, false, eqb, List, [], ◌∷◌, ◌++◌, length, map, Option, Some, None, IsUtf8, refl, ap, ◌∙◌, arith, append_assoc, length-append, codes}
use Rattle.std.proofs.lemmas.Bool.{le-ltb, le-leb, ne_eqb}
use Rattle.std.proofs.lemmas.List.{length-map, take_at, drop_at}
use Rattle.std.specs.Int.{w16, w32, w64}
use Rattle.std.specs.Prelude.{IfSome}
use Rattle.gabc_places.specs.Limits.{AreLimits}
use Rattle.gabc_places.specs.declared.place.Place.{Place}
use Rattle.gabc_neumes.specs.declared.sound.Alter.{Alter}
use Rattle.gabc_neumes.specs.declared.sound.Clef.{Clef}
use Rattle.gregorio_jobs.specs.declared.job.Format.{Format}
use Rattle.gregorio_state.specs.StateBytes.{number_bytes, flag_bytes, text_bytes, place_bytes, opener_bytes, spans_number, format_number, clef_bytes, alter_number}
use Rattle.gregorio_state.specs.machine.Reading.{number_at, front_at, flag_at, format_at, spans_at, text_at, pending_at, place_at, opener_of, opener_at, clef_at, alter_of, alters_of, alters_at, after_tag, limits_at, last_text}
use Rattle.gregorio_state.proofs.NumbersAreRead.{wide_16, wide_32, wide_64, number_again}
use Rattle.gregorio_state.proofs.TextsAreRead.{text_read}

pub again_16 : (n : ℕ) (rest : List ℕ) → n < 2 ^ 16 → number_at w16 (number_bytes w16 n ++ rest) ≡ Some (n, rest)
again_16 n rest lt = number_again w16 (2 ^ 16) wide_16 n rest lt

pub again_32 : (n : ℕ) (rest : List ℕ) → n < 2 ^ 32 → number_at w32 (number_bytes w32 n ++ rest) ≡ Some (n, rest)
again_32 n rest lt = number_again w32 (2 ^ 32) wide_32 n rest lt

pub again_64 : (n : ℕ) (rest : List ℕ) → n < 2 ^ 64 → number_at w64 (number_bytes w64 n ++ rest) ≡ Some (n, rest)
again_64 n rest lt = number_again w64 (2 ^ 64) wide_64 n rest lt

pub flag_again : (f : Bool) (rest : List ℕ) → flag_at (flag_bytes f ++ rest) ≡ Some (f, rest)
unfolding flag_at
flag_again f rest = grind arith

pub format_again : (f : Format) (rest : List ℕ) → format_at (format_number f ∷ rest) ≡ Some (f, rest)
unfolding format_at
format_again f rest = grind arith

pub spans_again : (eu nlba : Bool) (rest : List ℕ) → spans_at (spans_number eu nlba ∷ rest) ≡ Some (record { eu = eu; nlba = nlba }, rest)
unfolding spans_at
spans_again eu nlba rest = grind arith

front_again : (front rest : List ℕ) → front_at (length front) (front ++ rest) ≡ Some (front, rest)
unfolding front_at
front_again front rest = grind (arith, le-ltb, length-append, take_at, drop_at)

pub text_again : (t rest : List ℕ) → IsUtf8 t → length t < 2 ^ 32 → text_at (text_bytes t ++ rest) ≡ Some (t, rest)
unfolding text_at
text_again t rest u lt = ap text_at (append_assoc (number_bytes w32 (length t)) t rest) ∙ rw (again_32 (length t) (t ++ rest) lt, front_again t rest, text_read t u) refl

pub pending_again : (p rest : List ℕ) → pending_at (length p ∷ (p ++ rest)) ≡ Some (p, rest)
unfolding pending_at
pending_again p rest = front_again p rest

pub place_again : (p : Place) (rest : List ℕ) → p.line < 2 ^ 64 → p.column < 2 ^ 64 → place_at (place_bytes p ++ rest) ≡ Some (p, rest)
unfolding place_at
place_again p rest line column = grind (arith, append_assoc, again_64)

pub record FitsPlace (p : Place) : Type 0 where
  pub first : 1 ≤ p.line
  pub line : p.line < 2 ^ 64
  pub column : p.column < 2 ^ 64

opener_is : (line column : ℕ) → 1 ≤ line → opener_of (record { line = line; column = column }) ≡ Some (record { line = line; column = column })
opener_is line column h = let e : eqb line 0 ≡ false = ne_eqb line 0 (λ z. omega (arith, h, z)) in rw e refl

pub opener_again : (p : Option Place) (rest : List ℕ) → IfSome p FitsPlace → opener_at (opener_bytes p ++ rest) ≡ Some (p, rest)
unfolding opener_at
opener_again None rest fits = rw (place_again (record { line = 0; column = 0 }) rest (omega arith) (omega arith)) refl
opener_again (Some p) rest fits = rw (place_again p rest fits.line fits.column, opener_is p.line p.column fits.first) refl

pub clef_again : (c : Option Clef) (rest : List ℕ) → clef_at (clef_bytes c ++ rest) ≡ Some (c, rest)
unfolding clef_at flag_at
clef_again c rest = grind arith

alter_again : (a : Alter) → alter_of (alter_number a) ≡ Some a
alter_again a = grind arith

each_again : (alters : List Alter) → alters_of (map alter_number alters) ≡ Some alters
each_again [] = refl
each_again (a ∷ alters) = rw (alter_again a, each_again alters) refl

pub alters_again : (alters : List Alter) (rest : List ℕ) → length alters ≡ 15 → alters_at (map alter_number alters ++ rest) ≡ Some (alters, rest)
unfolding alters_at
alters_again alters rest len = grind (arith, each_again, length-map, front_again)

pub tag_again : (rest : List ℕ) → after_tag (codes "GSAV" ++ 3 ∷ rest) ≡ Some rest
unfolding after_tag
tag_again rest = refl

pub end_again : (t : List ℕ) → IsUtf8 t → length t < 2 ^ 32 → last_text (text_bytes t ++ []) ≡ Some t
unfolding last_text
end_again t u lt = rw (text_again t [] u lt) refl

pub limits_again : (header syllable input : ℕ) (rest : List ℕ) → AreLimits header syllable input → limits_at (number_bytes w32 header ++ (number_bytes w32 syllable ++ (number_bytes w32 input ++ rest))) ≡ Some ((header, syllable, input), rest)
unfolding limits_at
limits_again header syllable input rest fits = grind (arith, again_32, le-leb)
