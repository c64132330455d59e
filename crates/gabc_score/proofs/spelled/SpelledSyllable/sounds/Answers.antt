use Rattle.std.proofs.Common.{◌≡◌, ◌||◌, false, refl, ap, sym, ◌∙◌}
use Rattle.gabc_score.specs.machine.Run.{sounds_among, sounds_on_line}
use Rattle.gabc_score.proofs.spelled.SpelledSyllable.sounds.Goals as goal

pub loop-snippet-init : goal.loop-snippet-init
loop-snippet-init c = record {
  some = (_, c.snippets-rest.ensures c.requires);
  left = λ is. (_, record { come = c.snippets-rest.ensures is; sound = refl });
}

pub loop-snippet-preserved : goal.loop-snippet-preserved
loop-snippet-preserved c =
    let silent : sounds_on_line (c.in-Some.snippet.line, c.in-Some.snippet.text.now) ≡ false = sym c.sounds.ensures ∙ c.if-sounds.false in
    record {
      some = (let i = c.loop-snippet.invariant.some in let next = c.in-Some.ensures.next i.0 i.1 in (next.0, next.1.1));
      left = λ is.
          let i = c.loop-snippet.invariant.left is in
          let next = c.in-Some.ensures.next i.0 i.1.come in
          (next.0, record { come = next.1.1; sound = i.1.sound ∙ ap sounds_among next.1.0 ∙ ap (λ b. b || sounds_among next.0) silent });
    }

pub returns-then-sounds : goal.returns-then-sounds
returns-then-sounds c = λ is.
    let i = c.loop-snippet.invariant.left is in
    let next = c.in-Some.ensures.next i.0 i.1.come in
    sym (i.1.sound ∙ ap sounds_among next.1.0 ∙ ap (λ b. b || sounds_among next.0) (sym c.sounds.ensures ∙ c.if-sounds.true))

pub returns : goal.returns
returns c = λ is.
    let i = c.loop-snippet.invariant.left is in
    sym (i.1.sound ∙ ap sounds_among (c.in_default.ensures.next i.0 i.1.come))
