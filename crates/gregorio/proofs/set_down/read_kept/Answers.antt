use Rattle.std.proofs.Common.{◌∙◌, sym}
use Rattle.std.proofs.lemmas.Bool.{false≢true}
use Rattle.gregorio_state.specs.Fields.{score_of}
use Rattle.gregorio.proofs.setting_down.KeptAsReported.{kept_read, reported_so}
use Rattle.gregorio.proofs.setting_down.KeptIsRead.{has_read, is_kept_again, new_runs, reads_on, reports}
use Rattle.gregorio.proofs.set_down.read_kept.Goals as goal

pub returns-then-not-read_again-clause-read : goal.returns-then-not-read_again-clause-read
returns-then-not-read_again-clause-read c =
    let f = score_of c.args.fields.now in
    let kept_again = is_kept_again f c.args.stage.now c.requires.holds c.openers.result c.openers.ensures c.read_again.new.self c.read_again.result
    (c.a_text_begins_outside_a_comment.ensures c.args.stage.now c.requires.holds.begins) c.read_again.ensures.again in
    (λ never. absurd (false≢true never), λ kept. absurd (false≢true (sym c.if-not-read_again.true ∙ (kept_again (reported_so c.args.stage.now.limits f c.requires.fields.kept.utf8 c.what_is_kept_again_is_reported.ensures kept)).0)))

pub returns-clause-read : goal.returns-clause-read
returns-clause-read c =
    let f = score_of c.args.fields.now in
    let old = c.args.stage.now in
    let new = c.read_again.new.self in
    let holds = c.requires.holds in
    let limits = c.read_again.ensures.limits in
    let same = c.read_again.ensures.same c.if-not-read_again.false in
    let can = c.what_is_read_can_be_read_again.ensures (new_runs f old holds c.args.state.now.place new limits same) in
    let kept_again = is_kept_again f old holds c.openers.result c.openers.ensures new c.read_again.result (c.a_text_begins_outside_a_comment.ensures old holds.begins) c.read_again.ensures.again in (
      λ read. kept_read old.limits f c.requires.fields.kept.utf8 c.what_is_reported_is_kept_again.ensures.again c.what_is_reported_is_kept_again.ensures.short
          (reports f old holds c.args.state.now.place new limits same (c.has_read.ensures.0 read) can c.a_comment_in_front_can_be_read_in_a_text.ensures),
      λ kept. c.has_read.ensures.1 (has_read f old holds new (kept_again (reported_so old.limits f c.requires.fields.kept.utf8 c.what_is_kept_again_is_reported.ensures kept)).1),
    )

pub returns-clause-reads : goal.returns-clause-reads
returns-clause-reads c = λ read.
    let f = score_of c.args.fields.now in
    let old = c.args.stage.now in
    let new = c.read_again.new.self in
    let holds = c.requires.holds in
    let limits = c.read_again.ensures.limits in
    let same = c.read_again.ensures.same c.if-not-read_again.false in
    let kept_again = is_kept_again f old holds c.openers.result c.openers.ensures new c.read_again.result (c.a_text_begins_outside_a_comment.ensures old holds.begins) c.read_again.ensures.again in
    let tells = (kept_again (reported_so old.limits f c.requires.fields.kept.utf8 c.what_is_kept_again_is_reported.ensures ((returns-clause-read c).0 read))).1 in
    reads_on f old holds c.args.state.now.place new limits same (c.has_read.ensures.0 read) c.requires.fields.openers tells.front c.requires.place c.requires.fields.kept
    (c.read_again.ensures.told c.if-not-read_again.false)
