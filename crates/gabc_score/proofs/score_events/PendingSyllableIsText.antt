-- The canonical text of the pending syllable is a text of an input.
use Rattle.std.proofs.Common.{◌≡◌, ℕ, ◌==◌, ◌||◌, Bool, List, [], ◌∷◌, refl}
use Rattle.std.specs.Prelude.{IfSome}
use Rattle.std.specs.List.{All}
use Rattle.std.proofs.lemmas.List.Elements.{All-head}
use Rattle.gabc_score.specs.declared.preceding.Preceding.{Preceding}
use Rattle.gabc_score.specs.declared.score_machine.ScorePart.{ScorePart}
use Rattle.gabc_score.specs.declared.score_machine.ScorePart.TheVariants as score_part
use Rattle.gabc_body.specs.Canonical.{canonical}
use Rattle.gabc_score.specs.ScoreReports.{held_in_body}
use Rattle.gabc_body.specs.Syllable.{UnplacedSyllable}
use Rattle.gabc_places.specs.TextOfAnInput.{IsText}
use Rattle.gabc_score.specs.ReportedWithin.{written_after}
use Rattle.gabc_body.specs.UnitRead.{HoldsSomeUnit}

pub held_is_text : ((lines : ℕ) (m : UnplacedSyllable) → HoldsSomeUnit lines m → IsText m.kept → (starts : Bool) → IsText (canonical starts m)) → (lines : ℕ) (p : Preceding) (part : ScorePart) (made : List UnplacedSyllable)
    → (part ≡ score_part.Body → All (λ (m : UnplacedSyllable). IsText m.kept) made) → IfSome (held_in_body part made) (HoldsSomeUnit lines) → IfSome (held_in_body part made) (λ m. IsText (written_after p m))
held_is_text law lines p score_part.Body [] told unit = tt
held_is_text law lines p score_part.Body (m ∷ ms) told unit = law lines m unit (All-head (λ (m : UnplacedSyllable). IsText m.kept) m ms (told refl)) ((p.syllables == 0) || m.text.word_start)
held_is_text law lines p _ made told unit = tt
