-- Each syllable has at least two bytes of the canonical file, which is within the limits.
use Rattle.std.proofs.Common.{◌≡◌, ℕ, ◌*◌, ◌≤◌, codes, List, [], ◌∷◌, ◌++◌, length, Some, Result, arith, length-append}
use Rattle.std.specs.List.{flat_map}
use Rattle.std.proofs.lemmas.List.Concat.{flat_map-cons}
use Rattle.gabc_places.specs.declared.limits.Limits.{Limits}
use Rattle.gabc_headers.specs.Canonical.{canonical_heads}
use Rattle.gabc_headers.specs.Heads.{heads_of}
use Rattle.gabc_headers.specs.declared.heads.Heads.{Heads}
use Rattle.gabc_headers.specs.declared.heads.HeadFault.{HeadFault}
use Rattle.gabc_body.specs.declared.ending.InputEnding.{InputEnding}
use Rattle.gabc_body.specs.Canonical.{canonical_in_place}
use Rattle.gabc_body.specs.witness.EmittedScore.{emitted_score_by, emitted_score}
use Rattle.gabc_body.specs.Syllable.{PlacedSyllable}
use Rattle.gabc_body.specs.WithinLimits.{AreWithin}
use Rattle.gabc_body.proofs.texts_of_body.SeamsOfCharacters.{size}

bracketed : (front text translation bars : List ℕ) → 2 ≤ length (front ++ (text ++ (translation ++ (codes "(" ++ (bars ++ codes ")")))))
bracketed front text translation bars = grind (arith, length-append)

two_bytes : (s : PlacedSyllable) → 2 ≤ length (canonical_in_place s)
two_bytes s = grind (arith, bracketed)

two_each : (ss : List PlacedSyllable) → 2 * length ss ≤ length (flat_map canonical_in_place ss)
two_each [] = omega arith
two_each (s ∷ ss) = grind (arith, two_each ss, flat_map-cons, length-append, two_bytes)

module _ (limits : Limits) (ending : InputEnding) (t : List ℕ) where
  few_by : (r : Result Heads HeadFault) → ((book : List (List ℕ × List ℕ)) → (emitted_score_by limits ending t r).book ≡ Some book → AreWithin limits (size (canonical_heads book)) (emitted_score_by limits ending t r).syllables)
      → 2 * length (emitted_score_by limits ending t r).syllables ≤ limits.input
  few_by r within = grind (arith, two_each)

  pub syllables_few : ((book : List (List ℕ × List ℕ)) → (emitted_score limits ending t).book ≡ Some book → AreWithin limits (size (canonical_heads book)) (emitted_score limits ending t).syllables)
      → 2 * length (emitted_score limits ending t).syllables ≤ limits.input
  syllables_few = few_by (heads_of limits t)
