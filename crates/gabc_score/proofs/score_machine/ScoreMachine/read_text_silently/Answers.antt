use Rattle.std.proofs.Common.{List, ℕ, sym, subst, ◌∙◌}
use Rattle.std.specs.Str.{chars}
use Rattle.std.specs.Str.Iter.{chars_rest}
use Rattle.std.proofs.lemmas.Str.{chars_past_char, IsUtf8-past_char}
use Rattle.gabc_score.specs.declared.reading_again.SyllableRead.{SyllableRead}
use Rattle.gabc_score.specs.declared.reading_again.SyllableRead.TheVariants.{Open}
use Rattle.gabc_score.specs.machine.ReadsSilently.{ReadsTextSilently}
use Rattle.gabc_score.proofs.score_machine.ScoreMachine.read_text_silently.Goals as goal

pub loop-c-preserved : goal.loop-c-preserved
loop-c-preserved c =
    let i = c.loop-c.invariant in
    let step = c.in-Some.ensures.steps.0 in
    let rest = chars_rest c.loop-c.c-iterator in
    let next = chars_rest c.next.new.self in
    let strict = c.args.is_strict in
    let past = chars_past_char rest next c.in-Some.c i.utf8 step in
    let p = c.read_silently-syllable.ensures in
    record {
      can = tt;
      ends = tt;
      utf8 = IsUtf8-past_char rest next c.in-Some.c i.utf8 step;
      stands = λ is. (p.goes (λ given_up. absurd (cc (sym is ∙ given_up)))).stands;
      steps = λ left n t.
          i.steps left n
          (subst (λ (s : SyllableRead). ReadsTextSilently strict s c.loop-c.self (chars rest) left n) (sym c.in-Open.is)
          (subst (λ (cs : List ℕ). ReadsTextSilently strict Open c.loop-c.self cs left n) (sym past) (c.read_silently-syllable.result, c.read_silently-syllable.new.self, (p, t))));
    }
