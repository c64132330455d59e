-- What is read of small bodies.
use Rattle.std.proofs.Common.{◌≡◌, ℕ, List, [], ◌∷◌, ◌++◌, map, codes, refl}
use lib.Utf8.{encode}
use Rattle.gabc_places.specs.Place.{placed_characters_from}
use Rattle.gabc_places.specs.declared.code.Code.TheVariants.{E1, W3, W12}
use Rattle.gabc_body.specs.ReadAlone.{read_of}
use Rattle.gabc_body.specs.Reading.{BodyRead, begun, ended}
use Rattle.gabc_body.specs.ScoreEvents.{first_place}
use Rattle.gabc_body.specs.Syllable.{UnplacedSyllable}

-- what is read of a text after the LF that ends the comment before it
abbrev said : ℕ → List ℕ → BodyRead
said lines t = read_of lines 0 begun (placed_characters_from first_place (10 ∷ t))

abbrev kept_texts : BodyRead → List (List ℕ)
kept_texts b = map (λ (m : UnplacedSyllable). m.kept) b.made

-- the comment before a body is no part of it, and the LF begins a word
first_is_kept : kept_texts (said 0 (codes "(c4) Ky(f)")) ≡ codes " (c4)" ∷ codes " Ky(f)" ∷ []
unfolding encode
first_is_kept = refl

-- a comment goes on up to its LF, and of blanks one is kept
comment_is_left_out : kept_texts (said 0 (codes "A% (x)" ++ 10 ∷ codes " b(g)")) ≡ codes " A b(g)" ∷ []
unfolding encode
comment_is_left_out = refl

-- a note before any clef is found at the mark, a character left out where it stands
found_there : (said 0 (codes "a(f?)")).found ≡ record { place = record { line = 2; column = 4 }; code = E1 } ∷ record { place = record { line = 2; column = 5 }; code = W12 } ∷ []
found_there = refl

-- with an NABC line the snippets follow one another
lines_follow : kept_texts (said 1 (codes "a(f|ta|g)")) ≡ codes " a(f|ta|g)" ∷ []
unfolding encode
lines_follow = refl

-- a tag that is found is found at its `<`
tag_there : (said 0 (codes "a</i>b")).found ≡ record { place = record { line = 2; column = 2 }; code = W3 } ∷ []
tag_there = refl

-- a last text without notes is a syllable
last_is_made : kept_texts (ended (record { line = 2; column = 2 }) (said 0 (codes "a"))) ≡ codes " a" ∷ []
unfolding encode
last_is_made = refl
