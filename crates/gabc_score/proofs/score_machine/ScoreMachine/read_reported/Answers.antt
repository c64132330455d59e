use Rattle.std.proofs.Common.{◌∷◌, [], ◌++◌, cond, Bool, false, sym, subst}
use Rattle.std.specs.Str.{chars}
use Rattle.gabc_score.specs.declared.reading_again.SyllableRead.TheVariants.{Open, GivenUp}
use Rattle.gabc_score.specs.machine.ReadsSilently.{ReadsTextSilently}
use Rattle.gabc_score.proofs.resuming.MachinesReadAgain.{ends_so, follows_none, stands_through, then_goes}
use Rattle.gabc_score.proofs.score_machine.ScoreMachine.read_reported.Goals as goal

pub read_silently-requires : goal.read_silently-requires
read_silently-requires c = stands_through false c.args.self.now c.read_text_silently-syllable.new.self (chars c.args.kept.now) c.requires c.in-Open.ensures

pub returns-in_default : goal.returns-in_default
returns-in_default c =
    let old = c.args.self.now in
    let k = c.read_text_silently-syllable.new.self in
    let left = c.read_text_silently-syllable.result in
    subst (λ (b : Bool). ReadsTextSilently false Open old (chars c.args.kept.now ++ cond b (37 ∷ []) []) GivenUp k) (sym c.if-not-in_comment.false)
    (then_goes false Open left GivenUp old k k (chars c.args.kept.now) (37 ∷ []) c.read_text_silently-syllable.ensures (follows_none false left k 37 [] c.in_default.not-Open))

pub returns : goal.returns
returns c =
    let old = c.args.self.now in
    let k = c.read_text_silently-syllable.new.self in
    let n = c.read_silently.new.self in
    let left = c.read_silently.result in
    subst (λ (b : Bool). ReadsTextSilently false Open old (chars c.args.kept.now ++ cond b (37 ∷ []) []) left n) (sym c.if-not-in_comment.false)
    (then_goes false Open Open left old k n (chars c.args.kept.now) (37 ∷ []) c.in-Open.ensures (left, n, (c.read_silently.ensures, ends_so false left n)))
