-- Of a character a part of the body keeps nothing but it, or a blank.
use Rattle.std.proofs.Common.{◌≡◌, ◌⊎◌, inl, inr, ℕ, List, [], ◌∷◌, map, refl, sym, ap, subst, arith}
use Rattle.std.specs.List.{All}
use Rattle.std.proofs.lemmas.List.Elements.{All-nil, All-cons}
use Rattle.gabc_places.specs.declared.place.Char.{Char}
use Rattle.gabc_places.specs.declared.place.Place.{Place}
use Rattle.gabc_text.specs.BuiltText.{kept_in}
use Rattle.gabc_text.specs.declared.stage.TextStage.{TextStage}
use Rattle.gabc_text.specs.declared.text_event.TextEvent.{TextEvent}
use Rattle.gabc_text.specs.declared.text_event.TextEvent.TheVariants as text_out
use Rattle.gabc_text.specs.witness.Keeps as text
use Rattle.gabc_notes.specs.SnippetRead.{kept_of}
use Rattle.gabc_notes.specs.declared.stage.NoteEvent.{NoteEvent}
use Rattle.gabc_notes.specs.declared.stage.NoteEvent.TheVariants as note
use Rattle.gabc_score.specs.declared.body_stage.BodyPart.TheVariants as part
use Rattle.gabc_body.specs.Events.{note_event}
use Rattle.gabc_score.specs.machine.PartKeeps.{in_text, in_notes}
use Rattle.gabc_body.specs.witness.TextEvents.{text_events}
use Rattle.gabc_score.specs.machine.PartOnly.{IsKeptOf, PartKeepsOnly, kept_codes}
use Rattle.gabc_score.specs.declared.body_stage.BodyPart.{BodyPart}
use Rattle.gabc_body.specs.declared.events.BodyEvent.{BodyEvent}
use Rattle.gabc_text.proofs.resuming.StagesKeep.{fresh_keeps}
use Rattle.gabc_score.specs.machine.PartSteps.{PartSteps, SnippetSteps}
use Rattle.gabc_score.specs.machine.PartSteps as step
use Rattle.gabc_score.proofs.building.SnippetsTakeCharacters.{takes}

text_codes : (es : List TextEvent) → kept_codes (text_events es) ≡ kept_in es
text_codes [] = refl
text_codes (text_out.Kept c ∷ es) = ap (λ (t : List ℕ). c.c ∷ t) (text_codes es)
text_codes (_ ∷ es) = text_codes es

note_codes : (line : ℕ) (opened : Place) (es : List NoteEvent) → kept_codes (map (note_event line opened) es) ≡ kept_of es
note_codes line opened [] = refl
note_codes line opened (note.Kept c ∷ es) = ap (λ (t : List ℕ). c.c ∷ t) (note_codes line opened es)
note_codes line opened (_ ∷ es) = note_codes line opened es

-- nothing more, or the character
nothing_or : (ds : List ℕ) (c : ℕ) → (ds ≡ []) ⊎ (ds ≡ c ∷ []) → All (IsKeptOf c) ds
nothing_or ds c h = grind (arith, All-nil, All-cons)

module _ (lines macros : ℕ) (x : Char) where
  pub text_keeps_only : (s t : TextStage) (es : List TextEvent) → text.KeepsOn s x.c es t → PartKeepsOnly lines macros x (part.Text s) (text_events es)
  text_keeps_only s t es on (in_notes u earlier k) h = absurd h
  text_keeps_only s t es on (in_text k) h = subst (All (IsKeptOf x.c)) (sym (text_codes es)) (on.only k h)

-- ---- a part takes a character

snippet_keeps_only : (lines macros : ℕ) {x : Char} {line : ℕ} {opened : Place} {before after : BodyPart} {es : List NoteEvent} → SnippetSteps x line opened before es after
    → PartKeepsOnly lines macros x before (map (note_event line opened) es)
snippet_keeps_only lines macros {x} {line} {opened} {before} {after} {es} s p keeps =
    subst (All (IsKeptOf x.c)) (sym (note_codes line opened es))
    (nothing_or (kept_of es) x.c (elim (takes lines macros s p keeps) [ inl g ↦ g.kept | inr e ↦ inl e.none_kept ]))

pub keeps_only : {lines macros : ℕ} {x : Char} {before after : BodyPart} {now : List BodyEvent} → PartSteps lines macros x before now after → PartKeepsOnly lines macros x before now
keeps_only {x = x} (step.in_front h) = λ p keeps. All-nil (IsKeptOf x.c)
keeps_only {x = x} (step.leaves_front h s) = λ p keeps. keeps_only s (in_text []) (fresh_keeps x.place)
keeps_only {lines} {macros} {x} (step.text_goes {s} {t} {es} h e) = text_keeps_only lines macros x s t es h.keeps
keeps_only {lines} {macros} {x} (step.text_ends {s} {t} {es} h e b) = text_keeps_only lines macros x s t es h.keeps
keeps_only {lines} {macros} (step.snippet_goes s n c) = snippet_keeps_only lines macros s
keeps_only {lines} {macros} (step.snippet_next s n b) = snippet_keeps_only lines macros s
keeps_only {lines} {macros} (step.snippet_closes s n c) = snippet_keeps_only lines macros s
