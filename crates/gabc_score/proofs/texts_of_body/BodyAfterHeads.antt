-- The prefix of a text and the body after it, by characters and by bytes.
use Rattle.std.proofs.Common.{◌≡◌, ℕ, true, zero, suc, ◌+◌, List, [], ◌∷◌, ◌++◌, length, take, drop, refl, sym, ap, subst, ◌∙◌, IsUtf8}
use Rattle.std.specs.Char.{IsScalar}
use Rattle.std.specs.List.{All}
use Rattle.std.proofs.lemmas.Bool.{and_parts}
use Rattle.std.proofs.lemmas.List.Elements.{All-nil, All-cons}
use Rattle.std.specs.Str.{chars, IsCharBoundary}
use Rattle.std.proofs.lemmas.List.{take_at, drop_at, take-append-drop}
use Rattle.std.proofs.lemmas.Str.{encodes-append, encodes-chars, encodes_same, IsUtf8-take, IsUtf8-drop, IsUtf8-past_char, IsCharBoundary-at_seam}
use lib.Utf8.{encodes, scalars}
use Rattle.gabc_headers.proofs.entries.TextsAsBytes.{length-encodes}
use Rattle.gabc_places.specs.declared.limits.Limits.{Limits}
use Rattle.gabc_places.specs.declared.place.Place.{Place}
use Rattle.gabc_places.specs.declared.place.Char.{Char}
use Rattle.gabc_places.specs.Place.{place_after, placed_characters_after, place_past, placed_characters_from}
use Rattle.gabc_headers.specs.declared.heads.Heads.{Heads}
use Rattle.gabc_headers.specs.Lines.{bytes_len}
use Rattle.gabc_headers.specs.Book.{nabc_lines_of, macros_of}
use Rattle.gabc_headers.specs.Canonical.{canonical_heads}
use Rattle.gabc_headers.specs.Heads.{head_len}
use Rattle.gabc_body.specs.declared.events.BodyEvent.{BodyEvent}
use Rattle.gabc_body.specs.declared.ending.InputEnding.{InputEnding}
use Rattle.gabc_body.specs.Events.{body_events}
use Rattle.gabc_body.specs.Body.{body_of}
use Rattle.gabc_body.specs.NoteBeforeClef.{with_first_each}
use Rattle.gabc_body.specs.Score.{heads_text, after_heads}
use Rattle.gabc_body.specs.witness.EmittedScore.{emitted_body}
use Rattle.gabc_places.proofs.PlacesOfAText.{placed_after, after_joined}

pub are_scalars : (cs : List ℕ) → scalars cs ≡ true → All IsScalar cs
are_scalars [] h = All-nil IsScalar
are_scalars (c ∷ cs) h = let s = and_parts _ _ h in All-cons IsScalar c cs s.0 (are_scalars cs s.1)

utf8_after : (t : List ℕ) (n : ℕ) → IsUtf8 (encodes t) → IsUtf8 (encodes (drop n t))
utf8_after t zero u = u
utf8_after [] (suc n) u = u
utf8_after (c ∷ t) (suc n) u = utf8_after t n (IsUtf8-past_char (encodes (c ∷ t)) (encodes t) c u refl)

-- a text by bytes is that of its prefix and that of what follows
split_bytes : (t : List ℕ) (n : ℕ) → encodes t ≡ encodes (take n t) ++ encodes (drop n t)
split_bytes t n = ap encodes (sym (take-append-drop n t)) ∙ encodes-append (take n t) (drop n t)

module _ (t bytes : List ℕ) (whole : bytes ≡ encodes t) (utf8 : IsUtf8 bytes) (n at : ℕ) (here : at ≡ bytes_len (take n t)) where
  utf8_of : IsUtf8 (encodes t)
  utf8_of = subst IsUtf8 whole utf8

  size : length (encodes (take n t)) ≡ at
  size = length-encodes (take n t) ∙ sym here

  seam : bytes ≡ encodes (take n t) ++ encodes (drop n t)
  seam = whole ∙ split_bytes t n

  pub boundary_here : IsCharBoundary bytes at
  boundary_here = subst (IsCharBoundary bytes) size (IsCharBoundary-at_seam bytes (encodes (take n t)) (encodes (drop n t)) seam (utf8_after t n utf8_of))

  prefix_bytes : take at bytes ≡ encodes (take n t)
  prefix_bytes = ap (take at) seam ∙ take_at (encodes (take n t)) (encodes (drop n t)) at size

  after_bytes : drop at bytes ≡ encodes (drop n t)
  after_bytes = ap (drop at) seam ∙ drop_at (encodes (take n t)) (encodes (drop n t)) at size

  pub chars_prefix : chars (take at bytes) ≡ take n t
  chars_prefix = encodes_same (chars (take at bytes)) (take n t) (encodes-chars (take at bytes) (IsUtf8-take bytes at utf8 boundary_here) ∙ prefix_bytes)

  pub utf8_here : IsUtf8 (drop at bytes)
  utf8_here = IsUtf8-drop bytes at utf8 boundary_here

  pub chars_after : chars (drop at bytes) ≡ drop n t
  chars_after = encodes_same (chars (drop at bytes)) (drop n t) (encodes-chars (drop at bytes) utf8_here ∙ after_bytes)

module _ (limits : Limits) (ending : InputEnding) (t : List ℕ) (heads : Heads) (rest : List Char → List (List BodyEvent)) (lines macros head : ℕ) (at : Place) (prefix after : List ℕ) where
  pub body_is : rest (placed_characters_from at after) ≡ body_events lines macros (placed_characters_from at after) → lines ≡ nabc_lines_of heads.book → macros ≡ macros_of heads.book → head ≡ bytes_len (canonical_heads heads.book)
      → at ≡ place_past (record { line = 1; column = 1 }) prefix → prefix ≡ heads_text t → after ≡ after_heads t
      → body_of limits head heads.findings (place_past at after) ending (placed_characters_from at after) (with_first_each [] (placed_characters_from at after) (rest (placed_characters_from at after))) ≡ emitted_body limits ending t heads
  body_is law l m h p f b =
      let place : at ≡ place_after (heads_text t) = p ∙ ap (place_past (record { line = 1; column = 1 })) f ∙ after_joined [] (heads_text t) in
      let xs : placed_characters_from at after ≡ placed_characters_after (heads_text t) (after_heads t) =
      ap (λ q. placed_characters_from q after) place ∙ ap (placed_characters_from (place_after (heads_text t))) b ∙ placed_after (heads_text t) (after_heads t) in
      let end : place_past at after ≡ place_after t =
      ap (λ q. place_past q after) place ∙ ap (place_past (place_after (heads_text t))) b ∙ after_joined (heads_text t) (after_heads t) ∙ ap place_after (take-append-drop (head_len t + 2) t) in
      rw (law, h, l, m, xs, end) refl
