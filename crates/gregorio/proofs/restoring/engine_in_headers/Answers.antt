use Rattle.std.proofs.Common.{◌≡◌, refl, ap, subst, sym, ◌∙◌, arith}
use Rattle.std.specs.Str.{chars}
use Rattle.std.specs.declared.hash.DefaultHasher.{DefaultHasher}
use Rattle.gabc_places.specs.declared.limits.Limits.{Limits}
use Rattle.gabc_headers.specs.HeldText.{holding}
use Rattle.gabc_headers.specs.witness.HeadEvents.{HeaderStageState}
use Rattle.gregorio_state.specs.Fields.{fields_of, InHeaders}
use Rattle.gregorio.specs.Saved.{GivesHeaders}
use Rattle.gregorio.specs.SavedState.{IsOfJob, ReportsLimits}
use Rattle.gregorio.proofs.StatesAreJudged.{if_any, read_so, same, stand_so}
use Rattle.gregorio.proofs.restoring.engine_in_headers.Goals as goal

pub engine_with-requires-clause-stand : goal.engine_with-requires-clause-stand
engine_with-requires-clause-stand c =
    let s = fields_of c.args.state.now in
    let own = c.args.state.now.limits in
    let tells : ReportsLimits s own = record { header = refl; syllable = refl; input = refl } in
    let is : IsOfJob c.args.job.now c.args.limits s = c.requires.job in
    let limits : own ≡ c.args.limits = same s own tells (InHeaders c.args.text.now) c.requires.phase c.args.limits is.limits_are in
    let hasher = ap (λ (h : HeaderStageState). h.hasher) c.in_ok-heads.ensures.stage in
    stand_so s own tells (InHeaders c.args.text.now) c.requires.phase c.args.limits is.limits_are c.in_ok-heads.heads c.in-Ok.score c.in-Ok.ensures.limits
    (record {
      heads = c.in_ok-heads.ensures.stage ∙ ap (λ (l : Limits). holding l c.args.hasher (chars c.args.text.now)) limits ∙ ap (λ (k : DefaultHasher). holding c.args.limits k (chars c.args.text.now)) (sym hasher);
      gives = subst (λ (l : Limits). GivesHeaders l (chars c.args.text.now) s.place s.has_error) limits c.in_ok-heads.ensures.gives;
      part = c.in-Ok.ensures.part;
    })

pub returns-in-Ok-clause-goes : goal.returns-in-Ok-clause-goes
returns-in-Ok-clause-goes c = grind arith

pub returns-in-Ok-clause-read : goal.returns-in-Ok-clause-read
returns-in-Ok-clause-read c =
    if_any c.engine_with.result
    (read_so (fields_of c.args.state.now) c.args.state.now.limits (record { header = refl; syllable = refl; input = refl }) (InHeaders c.args.text.now) c.requires.phase c.in_ok-heads.ensures.gives)
