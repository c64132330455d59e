use Rattle.std.proofs.Common.{◌↔◌, IsTrue, sym, ap, subst, length, ◌∙◌}
use Rattle.std.proofs.lemmas.Str.{encodes-chars}
use Rattle.std.specs.Str.{chars}
use Rattle.gabc_places.specs.declared.limits.Limits.{Limits}
use Rattle.gabc_headers.specs.witness.HeadEvents.{HeaderStageState}
use Rattle.gabc_headers.proofs.entries.TextsAsBytes.{length-encodes}
use Rattle.gregorio.specs.Saved.{GivesHeaders}
use Rattle.gregorio.proofs.HeadersAreJudged.{judged_alike}
use Rattle.gregorio.proofs.judging.are_headers_read.Goals as goal

pub returns-clause-read : goal.returns-clause-read
returns-clause-read c =
    let t = chars c.args.text.now in
    let size = sym (length-encodes t) ∙ ap length (encodes-chars c.args.text.now c.utf8.text) in
    let limits_are = ap (λ (s : HeaderStageState). s.limits) c.in_ok-heads.ensures.stage in
    let gives = subst (λ (l : Limits). IsTrue c.holds_text-is_read.result ↔ GivesHeaders l t c.args.state.now.place c.args.state.now.has_error) limits_are c.holds_text-is_read.ensures.gives in
    judged_alike c.a_held_text_is_held_under_other_limits.ensures c.args.state.now.limits c.limits_for.result t (length c.args.text.now) c.args.state.now.place c.args.state.now.has_error c.holds_text-is_read.result size c.limits_for.ensures gives
