use Rattle.std.proofs.Common.{ℕ, ◌+◌, ◌<◌, ◌^◌, List, length, encode_utf8_all, ap, refl, sym, subst, ◌∙◌, arith, IsUtf8}
use Rattle.std.specs.Char.{IsScalar}
use Rattle.std.specs.List.{All}
use Rattle.std.proofs.lemmas.Str.{scalars-chars}
use Rattle.std.specs.Str.{chars}
use Rattle.gabc_headers.specs.Heads.{head_len}
use Rattle.gabc_score.specs.witness.BodyStage.{running_events_left}
use Rattle.gabc_body.specs.declared.body_result.BodyResult.{BodyResult}
use Rattle.gabc_score.proofs.texts_of_body.BodyAfterHeads.{are_scalars, boundary_here, chars_prefix, chars_after, utf8_here, body_is}
use Rattle.gabc_score.proofs.texts_of_body.StageAndDefinitionAgree.{fits_after_prefix}
use Rattle.gabc_score.proofs.whole.score_after.Goals as goal

pub split_at-requires : goal.split_at-requires
split_at-requires g c = boundary_here c.args.text.now c.as_str.result.now c.as_str.ensures.bytes c.as_str.utf8 (head_len c.args.text.now + 2) c.args.heads.body c.requires

pub returns : goal.returns
returns g c =
    let t = c.args.text.now in
    let n = head_len t + 2 in
    let prefix = ap chars c.split_at.ensures.front ∙ chars_prefix t c.as_str.result.now c.as_str.ensures.bytes c.as_str.utf8 n c.args.heads.body c.requires in
    let after = ap chars c.split_at.ensures.back ∙ chars_after t c.as_str.result.now c.as_str.ensures.bytes c.as_str.utf8 n c.args.heads.body c.requires in
    let utf8 = subst IsUtf8 (sym c.split_at.ensures.back) (utf8_here t c.as_str.result.now c.as_str.ensures.bytes c.as_str.utf8 n c.args.heads.body c.requires) in
    let fits = fits_after_prefix c.place_past.result c.split_at.result.0.now c.split_at.result.1.now utf8 c.place_past.ensures.line c.place_past.ensures.column (omega (arith, c.split_at.ensures.front_len, c.split_at.ensures.back_len, c.as_str.ensures.short)) in
    let is : All IsScalar t = subst (All IsScalar) c.as_str.ensures.characters (are_scalars (chars c.as_str.result.now) (scalars-chars c.as_str.result.now c.as_str.utf8)) in
    let few : length (encode_utf8_all t) < 2 ^ 63 = subst (λ (bytes : List ℕ). length bytes < 2 ^ 63) c.as_str.ensures.bytes c.as_str.ensures.short in
    let body = body_is c.args.limits c.args.ending t c.args.heads (running_events_left c.in_ok-stage.stage) c.nabc_lines.result c.macros.result c.canonical_len.result c.place_past.result
    (chars c.split_at.result.0.now) (chars c.split_at.result.1.now) (rw (c.in_ok-stage.ensures.open) at (c.in_ok-stage.ensures.facts c.place_past.result (chars c.split_at.result.1.now) fits)) c.nabc_lines.ensures c.macros.ensures c.canonical_len.ensures.len c.place_past.ensures.place prefix after
    ∙ sym (c.a_score_says_what_is_kept.ensures.body c.args.limits c.args.ending t c.args.heads is few) in
    let said = c.in_ok-findings.ensures in
    record {
      taken = said.taken ∙ ap (λ (r : BodyResult). g.C.Give.given c.args.taker.now r.syllables) body;
      book = refl;
      findings = said.findings_are ∙ ap (λ (r : BodyResult). r.findings) body;
      fault = said.fault_is ∙ ap (λ (r : BodyResult). r.fault) body;
    }
