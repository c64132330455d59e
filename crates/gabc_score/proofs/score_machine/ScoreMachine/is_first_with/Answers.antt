use Rattle.std.proofs.Math.Bool.{or-false}
use Rattle.std.proofs.Common.{◌≡◌, ℕ, ◌||◌, Bool, true, false, Option, is_some, sym, ap, ◌∙◌}
use Rattle.gabc_notes.specs.declared.item.ItemKind.{ItemKind}
use Rattle.gabc_score.specs.RegularSyllable.{SyllableParts, with_lines}
use Rattle.gabc_score.specs.machine.Run.{KeepsFirstSound, sounds_among}
use Rattle.gabc_score.proofs.score_machine.ScoreMachine.is_first_with.Goals as goal

-- if none comes with it
silent : (lines : ℕ) (first : Option ItemKind) (r : SyllableParts) (b : Bool) → b ≡ sounds_among (with_lines lines 0 r.nexts r.final) → b ≡ false → KeepsFirstSound lines first r
silent lines first r b e none = ap (λ x. is_some first || x) (sym e ∙ none) ∙ or-false (is_some first)

-- if one has come
sounded : (lines : ℕ) (first : Option ItemKind) (r : SyllableParts) → is_some first ≡ true → KeepsFirstSound lines first r
sounded lines first r some = ap (λ x. x || sounds_among (with_lines lines 0 r.nexts r.final)) some ∙ sym some

pub returns-then-has_sounded : goal.returns-then-has_sounded
returns-then-has_sounded c = λ no is. sounded c.args.lines c.args.self.now.pair.gathered.first_kind is.syllable (sym c.has_sounded.ensures ∙ c.if-has_sounded.true)

pub returns : goal.returns
returns c = λ no is. silent c.args.lines c.args.self.now.pair.gathered.first_kind is.syllable c.sounds.result (c.sounds.ensures is) no
