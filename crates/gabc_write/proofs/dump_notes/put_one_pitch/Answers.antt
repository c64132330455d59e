use Rattle.std.proofs.Common.{◌≡◌, ◌-◌, List, [], ◌∷◌, map, ap, ◌∙◌, sym}
use Rattle.gabc_notes.specs.Items.{items_of}
use Rattle.gabc_notes.specs.declared.item.Item.{Item}
use Rattle.gabc_neumes.specs.InForce.{step_of, passed, sound_of}
use Rattle.gabc_neumes.specs.declared.sound.Alter.{Alter}
use Rattle.gabc_neumes.specs.declared.sound.Alter.TheVariants as alter
use Rattle.gabc_neumes.specs.declared.sound.Sound.{Sound}
use Rattle.gabc_write.proofs.SnippetOfPitch.{the_note, pitch_is_one_item, kept_has_its_lines}
use Rattle.gabc_write.proofs.dump_notes.put_one_pitch.Goals as goal

pub returns-in-None : goal.returns-in-None
returns-in-None g c =
    let kept = c.args.kept.now in
    let p = c.args.pitch in
    let force = c.args.alterations.now in
    let small = c.requires.small in
    let plain : Sound = record { degree = c.sound-sound.result.degree; alter = alter.None } in
    let same : plain ≡ sound_of force (p - 97) = ap (λ (a : Alter). record { degree = c.sound-sound.result.degree; alter = a }) (sym c.in-None.is) ∙ c.sound-sound.ensures in
    let one : items_of kept ≡ the_note ∷ [] = ap items_of c.requires.one ∙ pitch_is_one_item p small.0 small.1 in
    record {
      lines = c.put_snippet_of.ensures ∙ ap (g.S.Put.taken c.args.out.now) (kept_has_its_lines force plain p kept c.requires.one small.0 small.1 same);
      alterations = c.pass.ensures ∙ ap (λ (items : List Item). passed force (map (step_of kept) items)) (sym one);
    }
