use Rattle.std.proofs.Common.{[], ◌∷◌, ap, ◌∙◌}
use Rattle.gabc_neumes.specs.declared.sound.Alter.TheVariants as alter
use Rattle.gabc_write.specs.DumpOfNotes.{line_of_note}
use Rattle.gabc_write.proofs.dump_pitch.put_signed_snippet.Goals as goal

pub returns : goal.returns
returns g c =
    let line = line_of_note (record { degree = c.args.degree; alter = alter.None }) (c.args.pitch ∷ c.args.sign ∷ []) in
    c.put_signed.ensures ∙ (ap (λ o. g.S.Put.taken o line) c.put.ensures ∙ g.met.S.Put.taken_both _ _ _)
