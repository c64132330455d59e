use Rattle.std.proofs.Common.{◌≡◌, ◌≤◌, ◌+◌, not, ◌||◌, List, [], ◌∷◌, length, refl, ap, sym, subst, ◌∙◌}
use Rattle.std.specs.List.{All}
use Rattle.std.proofs.lemmas.List.Elements.{All-head}
use Rattle.gabc_places.specs.declared.limits.Limits.{Limits}
use Rattle.gabc_body.specs.Canonical.{canonical_in_place, position_by}
use Rattle.gabc_body.specs.Syllable.{UnplacedSyllable, PlacedSyllable}
use Rattle.gabc_score.specs.machine.ScoreMachine.{has_given, IsShort}
use Rattle.gabc_score.proofs.score_events.FewAndShortAreLent.{short_within}
use Rattle.gabc_score.proofs.score_machine.ScoreMachine.give_held.Goals as goal

-- the held syllable is within the limits
within_limits : (limits : Limits) (made : List UnplacedSyllable) (first : PlacedSyllable) (position : UnplacedSyllable → PlacedSyllable) → length made ≡ 1 → All (IsShort limits.syllable) made
    → ((m : UnplacedSyllable) → (position m).made ≡ m) → ((m : UnplacedSyllable) → made ≡ m ∷ [] → first ≡ position m) → length (canonical_in_place first) ≤ limits.syllable + 1
within_limits limits (m ∷ []) first position one short of is =
    let w = short_within limits first.position m (All-head (IsShort limits.syllable) m [] short) in
    let same : first.made ≡ m = ap (λ (s : PlacedSyllable). s.made) (is m refl) ∙ of m in
    subst (λ (x : UnplacedSyllable). length (canonical_in_place (record { made = x; position = first.position })) ≤ limits.syllable + 1) (sym same) w.canonical
within_limits limits _ first position one short of is = absurd (cc one)

pub give-requires : goal.give-requires
give-requires g c =
    let m = c.args.self.now in
    record {
      short = subst (λ (s : PlacedSyllable). length (canonical_in_place s) ≤ m.limits.syllable + 1) (sym c.first.ensures.placed)
          (within_limits m.limits m.pair.gathered.made c.place_held.new.self.first
          (λ (x : UnplacedSyllable). record { made = x; position = position_by (not (has_given m) || x.text.word_start) c.args.next_starts }) c.requires.one c.requires.short (λ x. refl) c.place_held.ensures.first);
      stands = c.first.ensures.stands;
    }
