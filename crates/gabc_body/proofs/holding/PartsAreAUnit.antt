-- A syllable that holds its parts with notes holds the unit of these parts.
use Rattle.std.proofs.Common.{◌≡◌, ℕ, ◌≤◌, List, [], ◌∷◌, ◌++◌, length, map, encode_utf8_all, refl, ap, ◌∙◌, sym, arith}
use Rattle.std.proofs.lemmas.List.{length-map}
use Rattle.gabc_places.specs.declared.place.Char.{Char}
use Rattle.gabc_text.specs.TextRead.{view_in}
use Rattle.gabc_text.specs.View.{kept}
use Rattle.gabc_text.specs.ViewFacts.{StandsForView}
use Rattle.gabc_body.specs.declared.snippets.Snippet.{Snippet}
use Rattle.gabc_body.specs.Holding.{ReadSnippet, HoldsNotes, HoldsWithNotes}
use Rattle.gabc_body.specs.Syllable.{UnplacedSyllable}
use Rattle.gabc_body.specs.SyllablesOfUnits.{ScoreUnit, NotesAre}
use Rattle.gabc_body.specs.UnitRead.{HoldsSomeUnit}

pub none_left : {X Y : Type 0} (f : X → Y) (xs : List X) (x : X) → map f (xs ++ x ∷ []) ≡ [] → ⊥
none_left f [] x e = cc
none_left f (y ∷ xs) x e = cc

-- a syllable that has the view of a text, and keeps it with notes
pub notes_are_unit : (lines : ℕ) (m : UnplacedSyllable) (text notes whole : List ℕ) → m.kept ≡ encode_utf8_all whole → m.text ≡ view_in text → StandsForView whole m.text text → HoldsNotes lines notes whole (kept text) m.snippets
    → (lines ≡ 0 → length m.snippets ≤ 1) → HoldsSomeUnit lines m
notes_are_unit lines m text notes whole kept_is view_is stands n few =
    let all : List ReadSnippet = n.earlier ++ n.last ∷ [] in
    let unit : ScoreUnit = record { text = text; notes = notes; snippets = map (λ (s : ReadSnippet). s.characters) all } in
    let many : length unit.snippets ≡ length m.snippets =
    length-map all (λ (s : ReadSnippet). s.characters) ∙ sym (length-map all (λ (s : ReadSnippet). s.snippet)) ∙ ap (length {A = Snippet}) (sym n.snippets_are) in
    record {
      unit = unit;
      noted = none_left (λ (s : ReadSnippet). s.characters) n.earlier n.last;
      single = λ e. let k = few e in omega (arith, k, many);
      holds = record { whole = whole; kept_is = kept_is; view_is = view_is; stands = stands; notes = by unit.snippets refl };
    }
  where
    by : (let all : List ReadSnippet = n.earlier ++ n.last ∷ [] in let unit : ScoreUnit = record { text = text; notes = notes; snippets = map (λ (s : ReadSnippet). s.characters) all } in
        (xss : List (List Char)) → map (λ (s : ReadSnippet). s.characters) all ≡ xss → NotesAre lines unit xss whole m.snippets)
    by [] e = absurd (none_left (λ (s : ReadSnippet). s.characters) n.earlier n.last e)
    by (xs ∷ xss) e = record { holds = n; characters_are = refl }

pub parts_are_unit : (input : List ℕ) (lines : ℕ) (m : UnplacedSyllable) → HoldsWithNotes input lines m → (lines ≡ 0 → length m.snippets ≤ 1) → HoldsSomeUnit lines m
parts_are_unit input lines m h few = notes_are_unit lines m h.text h.of_notes h.whole h.kept_is h.view_is h.stands h.notes few
