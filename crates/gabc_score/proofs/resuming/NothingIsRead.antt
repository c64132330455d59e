-- If nothing is read of a syllable, a text begins.
use Rattle.std.proofs.Common.{◌≡◌, ℕ, [], ◌∷◌, ◌++◌, sym, ap, subst, ◌∙◌, append_assoc, arith}
use Rattle.std.proofs.lemmas.Str.{encodes_same}
use Rattle.gabc_text.specs.witness.Keeps as text
use Rattle.gabc_body.specs.declared.before.Spans.{Spans}
use Rattle.gabc_score.specs.declared.body_stage.BodyPart.{BodyPart}
use Rattle.gabc_body.specs.witness.BodyBuilder.{with_all}
use Rattle.gabc_body.specs.witness.Gatherer.{Gathered}
use Rattle.gabc_score.specs.machine.PartKeeps.{KeptParts, in_text, in_notes, joined, said_by, begun, barred, PartKeeps, IsReading, ReadAlike}
use Rattle.gabc_body.specs.witness.SyllableBuilder.{nothing_open}
use Rattle.gabc_score.proofs.resuming.PartsAreOne.{nothing_marked}

empty_parts : (p : KeptParts) → joined p ≡ [] → p ≡ in_text []
empty_parts (in_text k) e = ap in_text e
empty_parts (in_notes t earlier k) e = absurd (nothing_marked t (barred earlier ++ k) 40 (sym e ∙ append_assoc t (40 ∷ barred earlier) k))

pub nothing_alike : (lines macros : ℕ) (p : BodyPart) (spans : Spans) (g : Gathered) → IsReading lines macros p spans g → g.builder.kept ≡ [] → ReadAlike g (begun spans)
unfolding text.said_of
nothing_alike lines macros p spans g r e = subst (λ (q : KeptParts). ReadAlike g (with_all (begun spans) (said_by lines q))) (empty_parts r.parts (encodes_same (joined r.parts) [] (sym r.kept ∙ e))) r.said

-- the part keeps nothing
pub nothing_kept : (lines macros : ℕ) (p : BodyPart) (spans : Spans) (g : Gathered) → IsReading lines macros p spans g → g.builder.kept ≡ [] → PartKeeps lines macros p (in_text [])
nothing_kept lines macros p spans g r e = subst (PartKeeps lines macros p) (empty_parts r.parts (encodes_same (joined r.parts) [] (sym r.kept ∙ e))) r.keeps

-- so another part that begins a text reads it
pub begins_again : (lines macros : ℕ) (p after : BodyPart) (spans : Spans) (g : Gathered) → IsReading lines macros p spans g → g.builder ≡ nothing_open → PartKeeps lines macros after (in_text [])
    → IsReading lines macros after spans g
unfolding text.said_of
begins_again lines macros p after spans g r nothing keeps = grind (arith, nothing_alike)
