-- The counts of a body stay below their last value, if its text has few bytes.
use Rattle.std.proofs.Common.{◌≡◌, ℕ, ◌+◌, ◌<◌, ◌^◌, List, [], ◌∷◌, ◌++◌, length, refl, sym, subst, arith, length-append, take-append-drop}
use Rattle.std.proofs.lemmas.Bool.{cond_both}
use Rattle.std.proofs.lemmas.Str.{length-encode, length-le-encodes}
use lib.Utf8.{encode, encodes}
use Rattle.gabc_places.specs.declared.place.Place.{Place}
use Rattle.gabc_places.specs.Place.{next_place, is_line_feed, place_after, place_past}
use Rattle.gabc_places.proofs.PlacesOfAText.{after_joined}
use Rattle.gabc_headers.specs.Heads.{head_len}
use Rattle.gabc_text.specs.Events.{CountsFit}
use Rattle.gabc_text.specs.View.{bytes_of}
use Rattle.gabc_body.specs.Score.{heads_text, after_heads}

-- the text after a character fits if the text from it on does
pub fits_next : (at : Place) (c : ℕ) (t : List ℕ) → CountsFit at (c ∷ t) → CountsFit (next_place at c) t
fits_next at c t f =
    cond_both (is_line_feed c) _ _ (λ (p : Place). CountsFit p t) (λ e. record { line = omega (arith, f.line); column = omega (arith, f.column); bytes = omega (arith, f.bytes) })
    (λ e. record { line = omega (arith, f.line); column = omega (arith, f.column); bytes = omega (arith, f.bytes) })

pub bytes_encodes : (t : List ℕ) → bytes_of t ≡ length (encodes t)
bytes_encodes [] = refl
bytes_encodes (c ∷ t) = rw (bytes_encodes t, length-append (encode c) (encodes t), length-encode c) refl

fits_past : (at : Place) (prefix t : List ℕ) → CountsFit at (prefix ++ t) → CountsFit (place_past at prefix) t
fits_past at [] t f = f
fits_past at (c ∷ prefix) t f = fits_past (next_place at c) prefix t (fits_next at c (prefix ++ t) f)

-- the body of a text fits after its headers if the text has few bytes
pub body_fits : (t : List ℕ) → length (encodes t) < 2 ^ 63 → CountsFit (place_after (heads_text t)) (after_heads t)
body_fits t few =
    let less = length-le-encodes t in
    let whole : CountsFit (place_after []) t = record { line = omega (arith, few, less); column = omega (arith, few, less); bytes = omega (arith, few, bytes_encodes t) } in
    subst (λ p. CountsFit p (after_heads t)) (after_joined [] (heads_text t))
    (fits_past (place_after []) (heads_text t) (after_heads t) (subst (CountsFit (place_after [])) (sym (take-append-drop (head_len t + 2) t)) whole))
