-- What was gathered of the syllable that is read stays what the parts of its kept text say, past a
-- point.
use Rattle.std.proofs.Common.{◌≡◌, ℕ, ◌<◌, ◌^◌, nat_lt, Bool, cond, length, refl, sym, ap, subst, ◌∙◌, List, [], arith}
use Rattle.gabc_text.specs.witness.Keeps as text
use Rattle.gabc_body.specs.declared.before.Spans.{Spans}
use Rattle.gabc_score.specs.declared.body_stage.BodyPart.{BodyPart}
use Rattle.gabc_score.specs.declared.body_stage.BodyPart.TheVariants as part
use Rattle.gabc_body.specs.declared.events.BodyEvent.{BodyEvent}
use Rattle.gabc_body.specs.witness.BodyBuilder.{with_all}
use Rattle.gabc_body.specs.witness.Gatherer.{Gathered, nothing_gathered}
use Rattle.gabc_score.specs.machine.PartKeeps.{in_text, IsReading, PartKeepsOn}
use Rattle.gabc_score.specs.machine.Preceded.{Contexts, after_headers, past_point, spans_of}
use Rattle.gabc_score.specs.machine.ScoreStage.{with_held}

-- the held syllable is not read
turned_reads : (lines macros : ℕ) (part : BodyPart) (spans : Spans) (g : Gathered) → IsReading lines macros part spans g → IsReading lines macros part spans (with_held g)
turned_reads lines macros part spans g r = record { parts = r.parts; keeps = r.keeps; said = record { builder = r.said.builder; eu = r.said.eu; nlba = r.said.nlba }; kept = r.kept; from = r.from; uncut = r.uncut }

spans_there : (whole gave : Bool) (b : Contexts) (g : Gathered) → (past_point whole gave b g).after.spans ≡ cond whole (spans_of g) b.after.spans
spans_there whole gave b g = grind arith

pub reading_past : (lines macros l m : ℕ) (before after : BodyPart) (b passed : Contexts) (was g turned : Gathered) (now : List BodyEvent) (whole gave : Bool) → length was.builder.kept < 2 ^ 64
    → g ≡ with_all was now → turned ≡ with_held g → whole ≡ nat_lt (length was.made) (length g.made) → passed ≡ past_point whole gave b g
    → l ≡ lines → m ≡ macros → PartKeepsOn lines macros before after now → IsReading lines macros before b.after.spans was → IsReading l m after passed.after.spans turned
reading_past lines macros l m before after b passed was g turned now whole gave fits is turn w p same_lines same_macros on r =
    rw (same_lines, same_macros, turn)
    (turned_reads lines macros after passed.after.spans g
    (subst (λ (s : Spans). IsReading lines macros after s g) (sym (ap (λ (k : Contexts). k.after.spans) p ∙ spans_there whole gave b g ∙ ap (λ (t : Bool). cond t (spans_of g) b.after.spans) w))
    (rw is (on b.after.spans was fits r))))

-- in the comment in front of a body nothing is gathered
pub comment_reads : (lines macros head limit count : ℕ) (p : BodyPart) (b : Contexts) (g : Gathered) → p ≡ part.Comment → b ≡ after_headers head → g ≡ nothing_gathered limit count → IsReading lines macros p b.after.spans g
unfolding text.said_of
comment_reads lines macros head limit count p b g is contexts nothing =
    rw (is, contexts, nothing) (record { parts = in_text []; keeps = refl; said = record { builder = refl; eu = refl; nlba = refl }; kept = refl; from = refl; uncut = refl })
