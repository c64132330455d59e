-- What is open in a part that keeps parts of a kept text may stand anywhere.
use Rattle.std.proofs.Common.{◌≡◌, ℕ, nat_lt, true, false, List, Option, Some, None, is_some, refl, sym, ap}
use Rattle.std.proofs.lemmas.Bool.{false≢true, true≢false}
use Rattle.gabc_places.specs.declared.place.Place.{Place}
use Rattle.gabc_text.specs.StageReports as text_tells
use Rattle.gabc_text.specs.declared.stage.TextStage.{TextStage}
use Rattle.gabc_text.specs.witness.Keeps as text
use Rattle.gabc_notes.specs.StageReports as note_tells
use Rattle.gabc_notes.specs.declared.stage.NoteStage.{NoteStage}
use Rattle.gabc_score.specs.declared.body_stage.BodyPart.{BodyPart}
use Rattle.gabc_score.specs.declared.body_stage.BodyPart.TheVariants as part
use Rattle.gabc_score.specs.declared.body_tells.Openers.{Openers}
use Rattle.gabc_score.specs.ScoreReports.{is_in_comment, is_in_front, openers_of}
use Rattle.gabc_score.specs.machine.PartKeeps.{KeptParts, in_text, in_notes, PartKeeps}
use Rattle.gabc_score.specs.machine.StageLaws.{Moves}
use Rattle.gabc_score.proofs.resuming.MachinesPassAgain.{none_is}

-- The part keeps the same, and these are its openers.
pub record OpensSo (lines macros : ℕ) (b : BodyPart) (p : KeptParts) (o : Openers) : Type 0 where
  pub there : BodyPart
  pub keeps : PartKeeps lines macros there p
  pub openers : openers_of there ≡ o
  pub comment : is_in_comment there ≡ is_in_comment b
  pub front : is_in_front there ≡ false

module _ (laws : Moves) (lines macros : ℕ) where
  abbrev Text : TextStage → List ℕ → Option Place → Option Place → Type 0
  Text s k n i = OpensSo lines macros (part.Text s) (in_text k) (record { notes = n; inner = i })

  text_so : (s : TextStage) (k : List ℕ) (n i : Option Place) → text.Keeps s k → is_some n ≡ false → is_some i ≡ is_some (text_tells.opener_of s) → Text s k n i
  text_so s k (Some p) i keeps e f = absurd (true≢false e)
  text_so s k None None keeps e f = record {
    there = part.Text s;
    keeps = keeps;
    openers = ap (λ (o : Option Place). let a : Openers = record { notes = None; inner = o } in a) (none_is (text_tells.opener_of s) (sym f));
    comment = refl;
    front = refl;
  }
  text_so s k None (Some at) keeps e f =
      let h = laws.text_there s k at keeps (sym f) in
      record {
        there = part.Text h.stage;
        keeps = h.keeps;
        openers = ap (λ (o : Option Place). let a : Openers = record { notes = None; inner = o } in a) h.opener;
        comment = h.comment;
        front = refl;
      }

  abbrev Notes : Place → NoteStage → KeptParts → Option Place → Option Place → Type 0
  Notes opened s p n i = OpensSo lines macros (part.Notes opened s) p (record { notes = n; inner = i })

  notes_so : (opened : Place) (s : NoteStage) (u : List ℕ) (earlier : List (List ℕ)) (k : List ℕ) (n i : Option Place) → PartKeeps lines macros (part.Notes opened s) (in_notes u earlier k) → is_some n ≡ true
      → is_some i ≡ is_some (note_tells.opener_of s) → Notes opened s (in_notes u earlier k) n i
  notes_so opened s u earlier k None i keeps e f = absurd (false≢true e)
  notes_so opened s u earlier k (Some q) None keeps e f = record {
    there = part.Notes q s;
    keeps = keeps;
    openers = ap (λ (o : Option Place). let a : Openers = record { notes = Some q; inner = o } in a) (none_is (note_tells.opener_of s) (sym f));
    comment = refl;
    front = refl;
  }
  notes_so opened s u earlier k (Some q) (Some at) keeps e f =
      let h = laws.gabc_there (nat_lt 0 lines) macros s k at keeps.1 (sym f) in
      record {
        there = part.Notes q h.stage;
        keeps = (keeps.0, h.keeps);
        openers = ap (λ (o : Option Place). let a : Openers = record { notes = Some q; inner = o } in a) h.opener;
        comment = h.comment;
        front = refl;
      }

  pub opens_so : (b : BodyPart) (p : KeptParts) (o : Openers) → PartKeeps lines macros b p → is_in_front b ≡ false → is_some o.notes ≡ is_some (openers_of b).notes → is_some o.inner ≡ is_some (openers_of b).inner
      → OpensSo lines macros b p o
  opens_so part.Comment p o keeps front n i = absurd (false≢true (sym front))
  opens_so (part.Text s) (in_text k) o keeps front n i = text_so s k o.notes o.inner keeps n i
  opens_so (part.Text s) (in_notes u earlier k) o keeps front n i = absurd keeps
  opens_so (part.Notes opened s) (in_notes u earlier k) o keeps front n i = notes_so opened s u earlier k o.notes o.inner keeps n i
  opens_so (part.Nabc line opened s) (in_notes u earlier k) o keeps front n i = by o.notes o.inner n i
    where
      by : (n i : Option Place) → is_some n ≡ true → is_some i ≡ false → OpensSo lines macros (part.Nabc line opened s) (in_notes u earlier k) (record { notes = n; inner = i })
      by (Some q) None e f = record { there = part.Nabc line q s; keeps = keeps; openers = refl; comment = refl; front = refl }
      by _ _ e f = absurd (cc)
  opens_so _ (in_text k) o keeps front n i = absurd keeps
