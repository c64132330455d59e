-- The opener and the comment of a stage that has ended, of a fresh one, and of one whose next
-- character or opener stands elsewhere.
use Rattle.std.proofs.Common.{arith, ◌≡◌, true, false, cond, None, option_map, refl, sym, ◌∙◌}
use Rattle.gabc_places.specs.declared.place.Place.{Place}
use Rattle.gabc_text.specs.declared.stage.TextStage.{TextStage}
use Rattle.gabc_text.specs.StageReports.{opener_of, is_in_comment}
use Rattle.gabc_text.specs.witness.StageReports.{moved_to, opened_at}
use Rattle.gabc_text.specs.TextStage.{fresh_stage}
use Rattle.gabc_text.specs.machine.StageReports.{opener_in, comment_in}
use Rattle.gabc_text.proofs.NothingAfterTheEnd.{opener_told, comment_told}
use Rattle.gabc_text.proofs.machine.EventsLeftAreThoseAhead.{rest_by}

-- ---- a stage that has ended

pub opener_over : (s : TextStage) → s.ended ≡ true → opener_of s ≡ None
opener_over s e = grind (arith, rest_by)

pub comment_over : (s : TextStage) → s.ended ≡ true → is_in_comment s ≡ false
comment_over s e = grind (arith, rest_by)

-- by the state
pub opener_by : (s : TextStage) → opener_of s ≡ cond s.ended None (opener_in s)
opener_by s = grind (arith, opener_over, opener_told)

pub comment_by : (s : TextStage) → is_in_comment s ≡ cond s.ended false (comment_in s)
comment_by s = grind (arith, comment_over, comment_told)

-- ---- a fresh one

pub opener_fresh : (at : Place) → opener_of (fresh_stage at) ≡ None
opener_fresh at = opener_told (fresh_stage at) refl

pub comment_fresh : (at : Place) → is_in_comment (fresh_stage at) ≡ false
comment_fresh at = comment_told (fresh_stage at) refl

-- ---- where the next character stands elsewhere

pub opener_moved : (s : TextStage) (at : Place) → opener_of (moved_to at s) ≡ opener_of s
opener_moved s at = grind (arith, opener_by)

pub comment_moved : (s : TextStage) (at : Place) → is_in_comment (moved_to at s) ≡ is_in_comment s
comment_moved s at = comment_by (moved_to at s) ∙ sym (comment_by s)

-- ---- where what is open begins elsewhere

pub opener_opened : (s : TextStage) (at : Place) → opener_of (opened_at at s) ≡ option_map (λ _. at) (opener_of s)
opener_opened s at = grind (arith, opener_by)

pub comment_opened : (s : TextStage) (at : Place) → is_in_comment (opened_at at s) ≡ is_in_comment s
comment_opened s at = comment_by (opened_at at s) ∙ sym (comment_by s)
