-- Worked rows of the definitions of specs/SyllablesOfUnits.antt: the body `a(f|g) <eu>b</eu>(h)c`.
use Rattle.std.proofs.Common.{◌≡◌, ℕ, List, [], ◌∷◌, map, Some, refl, codes}
use Rattle.std.specs.Prelude.{◌≢◌}
use Rattle.std.proofs.lemmas.List.Elements.{All-nil}
use Rattle.gabc_places.specs.declared.place.Char.{Char}
use Rattle.gabc_places.specs.declared.place.Place.{Place}
use Rattle.gabc_places.specs.Place.{placed_characters_from}
use Rattle.gabc_text.specs.Events.{codes_of}
use Rattle.gabc_body.specs.declared.syllable.Position.TheVariants.{One}
use Rattle.gabc_body.specs.Canonical.{position_by}
use Rattle.gabc_body.specs.Units.{EndedPart, BodyUnit, JustText, Units}
use Rattle.gabc_text.specs.ViewFacts.{span_tags}
use Rattle.gabc_body.specs.SyllablesOfUnits.{ScoreUnit, score_units, unit_characters, IsLeftOpen, begins_word, next_begins_word, count_within}

abbrev at : Place
at = record { line = 3; column = 1 }

-- the characters of a text; where they stand does not matter here
abbrev chars : List ℕ → List Char
chars t = placed_characters_from at t

abbrev ended : List ℕ → ℕ → EndedPart
ended t c = record { characters = chars t; end = record { c = c; place = at } }

abbrev first : BodyUnit
first = record { text = ended (codes "a") 40; nexts = ended (codes "f") 124 ∷ []; final = ended (codes "g") 41 }

abbrev second : BodyUnit
second = record { text = ended (codes " <eu>b</eu>") 40; nexts = []; final = ended (codes "h") 41 }

abbrev body : Units
body = record { closed = first ∷ second ∷ []; last = JustText (chars (codes "c")) }

abbrev units : List ScoreUnit
units = score_units (Some body)

all_characters : codes_of (unit_characters (Some body)) ≡ codes "a(f|g) <eu>b</eu>(h)c"
all_characters = refl

-- three units, the last without notes
each_text : map (λ (u : ScoreUnit). u.text) units ≡ codes "a(f|g) <eu>b</eu>(h)c" ∷ codes " <eu>b</eu>(h)c" ∷ codes "c" ∷ []
each_text = refl

each_notes : map (λ (u : ScoreUnit). u.notes) units ≡ codes "(f|g)" ∷ codes "(h)" ∷ [] ∷ []
each_notes = refl

each_snippet : map (λ (u : ScoreUnit). map codes_of u.snippets) units ≡ (codes "f" ∷ codes "g" ∷ []) ∷ (codes "h" ∷ []) ∷ [] ∷ []
each_snippet = refl

-- a text after the last `)` that says nothing is no unit
no_last : map (λ (u : ScoreUnit). u.notes) (score_units (Some (record { closed = first ∷ []; last = JustText (chars (codes " ")) }))) ≡ codes "(f|g)" ∷ []
no_last = refl

-- the tags of spans, and no others
the_tags : span_tags (codes " <eu><b>x</b></eu><nlba>y(") ≡ codes "<eu>" ∷ codes "</eu>" ∷ codes "<nlba>" ∷ []
the_tags = refl

left_open : IsLeftOpen (codes "<nlba>") (codes "</nlba>") (span_tags (codes " <eu>x</eu><nlba>y("))
left_open = record { before = codes "<eu>" ∷ codes "</eu>" ∷ []; after = []; tags_are = refl; none_closes = All-nil (λ tag. tag ≢ codes "</nlba>") }

-- a unit that stands alone in its word, before one that begins a word
positions : position_by (begins_word [] (record { text = codes "a(f) b(g)"; notes = []; snippets = [] })) (next_begins_word (record { text = codes " b(g)"; notes = []; snippets = [] } ∷ [])) ≡ One
positions = refl

-- a `)` counts once its character is there
within : map (λ n. count_within n (first ∷ second ∷ [])) (5 ∷ 6 ∷ 19 ∷ 20 ∷ []) ≡ 0 ∷ 1 ∷ 1 ∷ 2 ∷ []
within = refl
