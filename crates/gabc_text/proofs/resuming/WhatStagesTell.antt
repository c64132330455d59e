-- What a stage reports after a character.
use Rattle.std.proofs.lemmas.Bool.{true≢false}
use Rattle.std.proofs.Common.{arith, ◌≡◌, ◌==◌, ◌&&◌, ℕ, Bool, true, false, cond, Option, Some, None, refl, sym, ◌∙◌, if◌then◌else◌}
use Rattle.gabc_places.specs.declared.place.Place.{Place}
use Rattle.gabc_text.specs.declared.token.TokenKind.{TokenKind}
use Rattle.gabc_text.specs.declared.token_state.Step.{Step}
use Rattle.gabc_text.specs.declared.token_state.TokenState.{TokenState}
use Rattle.gabc_text.specs.declared.token_state.TokenState.TheVariants.{Plain, Dollar, Comment, Tag, Raw, Translation}
use Rattle.gabc_text.specs.declared.stage.TextStage.{TextStage}
use Rattle.gabc_text.specs.witness.StageReports.{next_of}
use Rattle.gabc_text.specs.machine.StageReports.{is_open, is_comment, opener_in, comment_in}
use Rattle.gabc_text.specs.machine.Resuming.{IsReached}
use Rattle.gabc_text.specs.machine.TokenState.{is_plain}
use Rattle.gabc_text.specs.machine.TextStage.{settle_stage_by, stage_past_char, stage_after_step, read_stage, end_stage, settled_push_stage, push_stage}
use Rattle.gabc_places.specs.Place.{saturating_next_place}
use Rattle.std.proofs.Math.Bool.{and-false}
use Rattle.std.proofs.Common.{not, ◌⊎◌}
use Rattle.gabc_text.specs.declared.token.TokenKind.TheVariants as kind
use Rattle.gabc_text.specs.Token.{is_special}
use Rattle.gabc_text.proofs.resuming.KeptCharactersSuffice.{tag_on, raw_on, translation_on}

-- ---- the place of the next character

read_next : (u : TextStage) (c : ℕ) (st : Step) → next_of (stage_after_step (stage_past_char u c) st) ≡ saturating_next_place (next_of u) c
read_next u c st = grind arith

pub settled_next : (s : TextStage) (o : Option TokenKind) → next_of (settle_stage_by s o) ≡ next_of s
settled_next s o = grind arith

pub next_goes : (s : TextStage) (c : ℕ) → s.ended ≡ false → (push_stage s c).ended ≡ false → next_of (push_stage s c) ≡ saturating_next_place (next_of s) c
next_goes s c on = grind (arith, read_next, settled_next)

-- ---- the opener

-- what is open in the stage stands at this place
abbrev OpensAt : Place → TextStage → Type 0
OpensAt at s = is_open s.state ≡ true → s.progress.place ≡ at

settled_opens : (at : Place) (s : TextStage) (c : ℕ) → s.progress.place ≡ at → OpensAt at (settled_push_stage s c)
settled_opens at s c p = grind arith

abbrev going : TextStage → TokenState → TextStage
going s m = record { state = m; facts = s.facts; progress = s.progress; ended = false }

within : (s : TextStage) (c : ℕ) → s.ended ≡ false → IsReached s → OpensAt (if is_open s.state then s.progress.place else next_of s) (push_stage s c)
within s c on reached = grind (arith, settled_opens, and-false)

opener_is : (s : TextStage) (p : Place) → opener_in s ≡ Some p → (is_open s.state ≡ true) × (s.progress.place ≡ p)
opener_is s p = grind arith

-- it was open before, or the character begins it
pub opener_goes : (s : TextStage) (c : ℕ) → s.ended ≡ false → IsReached s → (p : Place) → opener_in (push_stage s c) ≡ Some p → (opener_in s ≡ Some p) ⊎ (next_of s ≡ p)
opener_goes s c on reached p e =
    let o = opener_is (push_stage s c) p e in
    by (is_open s.state) (sym (within s c on reached o.0) ∙ o.1)
  where
    by : (b : Bool) → (if b then s.progress.place else next_of s) ≡ p → ((if b then Some s.progress.place else None) ≡ Some p) ⊎ (next_of s ≡ p)
    by b h = grind arith

-- ---- a comment

pub comment_goes : (s : TextStage) (c : ℕ) → s.ended ≡ false → (push_stage s c).ended ≡ false
    → comment_in (push_stage s c) ≡ (if comment_in s then not (c == 10) else (c == 37 && is_plain s.state))
comment_goes s c on = by s.state s.ended on
  where
    by : (m : TokenState) (d : Bool) → d ≡ false → let x : TextStage = record { state = m; facts = s.facts; progress = s.progress; ended = d } in
        (push_stage x c).ended ≡ false → comment_in (push_stage x c) ≡ (if is_comment m then not (c == 10) else (c == 37 && is_plain m))
    by m true e goes = absurd (true≢false e)
    by Plain false e goes = plain (c == 40 && true) goes
      where
        plain : (b : Bool) → (cond b (end_stage (going s Plain)) (read_stage (going s Plain) c)).ended ≡ false → comment_in (cond b (end_stage (going s Plain)) (read_stage (going s Plain) c)) ≡ (c == 37 && true)
        plain b goes = grind arith
    by Dollar false e goes = dollar (is_special c) refl
      where
        dollar : (b : Bool) → is_special c ≡ b → comment_in (settled_push_stage (settle_stage_by (going s Dollar) (cond b None (Some kind.Letter))) c) ≡ (c == 37 && false)
        dollar b f = grind arith
    by Comment false e goes = comment (c == 10) refl
      where
        comment : (b : Bool) → (c == 10) ≡ b → comment_in (settled_push_stage (settle_stage_by (going s Comment) (cond b (Some kind.Comment) None)) c) ≡ not b
        comment b f = grind arith
    by (Tag name) false e goes = tag_on s.facts s.progress c name ∙ sym (and-false (c == 37))
    by (Raw part m) false e goes = raw_on s.facts s.progress c part m ∙ sym (and-false (c == 37))
    by Translation false e goes = translation_on s.facts s.progress c ∙ sym (and-false (c == 37))
