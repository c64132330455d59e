use Rattle.std.proofs.Common.{◌≡◌, ◌≢◌, true, List, [], ◌∷◌, Option, Some, sym, ap, ◌∙◌, arith}
use Rattle.gabc_notes.specs.FirstNoteOrClef.{first_note_or_clef, is_note_or_clef}
use Rattle.gabc_notes.specs.Items.{items_of}
use Rattle.gabc_notes.specs.declared.item.Item.{Item}
use Rattle.gabc_notes.specs.declared.item.ItemKind.{ItemKind}
use Rattle.gabc_notes.specs.declared.item.ItemKind.TheVariants.{Note, Clef}
use Rattle.gabc_score.proofs.first_sound.first_sound.Goals as goal

-- the first is one of the two
is_either : (items : List Item) (k : ItemKind) → first_note_or_clef items ≡ Some k → is_note_or_clef k ≡ true
is_either [] k e = absurd (cc e)
is_either (i ∷ items) k e = grind (arith, is_either items k)

is_clef : (k : ItemKind) → is_note_or_clef k ≡ true → k ≢ Note → k ≡ Clef
is_clef k e n = grind arith

clef_first : (items : List Item) (first : Option ItemKind) (k : ItemKind) → first ≡ first_note_or_clef items → first ≡ Some k → k ≢ Note → Some Clef ≡ first_note_or_clef items
clef_first items first k e f n = ap (λ (k : ItemKind). Some k) (sym (is_clef k (is_either items k (sym e ∙ f)) n)) ∙ (sym f ∙ e)

pub returns-in_default : goal.returns-in_default
returns-in_default c = clef_first (items_of c.args.kept.now) _ _ c.first_note_or_clef.ensures c.in_ok-first_note_or_clef.was c.in_default.not-Note
