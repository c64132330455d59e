-- When a machine stands between two syllables.
use Rattle.std.proofs.Common.{◌≡◌, nat_lt, true, List, [], ◌∷◌, length, ap, ◌∙◌, arith}
use Rattle.std.proofs.lemmas.Bool.Decides.{nat_tests}
use Rattle.gabc_text.specs.TextStage.{fresh_stage}
use Rattle.gabc_places.specs.declared.place.Place.{Place}
use Rattle.gabc_score.specs.declared.body_stage.BodyPart.TheVariants.{Text}
use Rattle.gabc_score.specs.declared.score_machine.ScoreMachine.{ScoreMachine}
use Rattle.gabc_score.specs.declared.score_machine.ScorePart.TheVariants as score_part
use Rattle.gabc_score.specs.Before.{with_each, with_one}
use Rattle.gabc_body.specs.Body.{is_none}
use Rattle.gabc_body.specs.Syllable.{UnplacedSyllable}
use Rattle.gabc_score.specs.machine.Run.{IsBetweenSyllables}
use Rattle.gabc_score.specs.machine.ScoreMachine.{IsInBody}
use Rattle.gabc_score.proofs.resuming.NothingIsRead.{nothing_alike}

pub stands_between : (m : ScoreMachine) (at : Place) (x : UnplacedSyllable) → m.part ≡ score_part.Body → IsInBody m → m.pair.gathered.made ≡ x ∷ [] → m.pair.gathered.builder.kept ≡ []
    → m.body.part ≡ Text (fresh_stage at) → IsBetweenSyllables m at
stands_between m at x part rests made kept begins = record {
  part = part;
  rests = rests;
  begins = begins;
  between = record {
    nothing = (nothing_alike m.body.nabc_lines m.body.macros m.body.part m.pair.contexts.after.spans m.pair.gathered rests.reading kept).builder;
    limit = rests.rests.limit;
    few = (let n = ap (λ (ms : List UnplacedSyllable). length ms) made in omega (arith, n));
    follows = rests.preceded.follows ∙ ap (λ (ms : List UnplacedSyllable). nat_lt 0 (with_each m.pair.contexts.before ms).syllables) made ∙ some;
    over = rests.rests.over;
    total = (let low = rests.within.file (ap is_none made) in omega (arith, low));
  };
  one = ap (λ (ms : List UnplacedSyllable). length ms) made;
}
  where
    some : nat_lt 0 (with_one m.pair.contexts.before x).syllables ≡ true
    some = grind (arith, nat_tests)
