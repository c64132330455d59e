-- What the laws of the layers below say of the findings of a score's parts.
use Rattle.std.proofs.Common.{◌≡◌, ℕ, suc, ◌+◌, ◌<◌, List, [], ◌∷◌, ◌++◌, Bool, refl, ap, ◌∙◌, length, take, arith}
use Rattle.std.proofs.lemmas.List.Elements.{All-head, All-tail}
use Rattle.std.specs.List.{All}
use Rattle.gabc_notes.proofs.machine.LoopOverBody.{findings_append}
use Rattle.gabc_places.specs.declared.place.Place.{Place}
use Rattle.gabc_places.specs.declared.place.Char.{Char}
use Rattle.gabc_places.specs.declared.code.Code.TheVariants.{W9}
use Rattle.gabc_places.specs.declared.code.Finding.{Finding}
use Rattle.gabc_places.specs.Code.{rank_of}
use Rattle.gabc_places.specs.Findings.{AreInOrder, LieBetween}
use Rattle.gabc_places.specs.StageLaw.{concat_of}
use Rattle.gabc_places.specs.Place.{place_past, placed_characters_from}
use Rattle.gabc_text.specs.Events.{events_by_point}
use Rattle.gabc_text.specs.BuiltText.{found_in}
use Rattle.gabc_text.specs.View.{findings}
use Rattle.gabc_notes.specs.declared.stage.NoteEvent.{NoteEvent}
use Rattle.gabc_notes.specs.SnippetRead.{findings_of}
use Rattle.gabc_notes.specs.Ends.{AreCutAtMost}
use Rattle.gabc_notes.specs.Events.{note_events, note_events_after, cut_events}
use Rattle.gabc_nabc.specs.Events as nabc
use Rattle.gabc_body.proofs.order.FindingsOneAfterAnother.{AllBelow}
use Rattle.gabc_body.proofs.order.FindingsOfParts.{TextsLie, SnippetsLie}

-- ---- texts

pub all_below : (fs : List Finding) → All (λ (f : Finding). rank_of f.code < rank_of W9) fs → AllBelow W9 fs
all_below [] h = tt
all_below (f ∷ fs) h = (All-head (λ (g : Finding). rank_of g.code < rank_of W9) f fs h, all_below fs (All-tail (λ (g : Finding). rank_of g.code < rank_of W9) f fs h))

pub texts_lie : ((at : Place) (prefix rest : List ℕ) → LieBetween at (place_past at prefix) (found_in (concat_of (take (length prefix + 1) (events_by_point at (prefix ++ rest))))))
    → ((at : Place) (t : List ℕ) → found_in (concat_of (events_by_point at t)) ≡ findings at t)
    → ((at : Place) (t : List ℕ) → All (λ (f : Finding). rank_of f.code < rank_of W9) (findings at t))
    → ((at : Place) (t : List ℕ) → AreInOrder (findings at t)) → TextsLie
texts_lie within all low order = grind (arith, all_below)

-- ---- snippets

cut_quiet : (events : List NoteEvent) → AreCutAtMost events → findings_of (events ++ []) ≡ []
cut_quiet events h = grind arith

module _ (split : Bool) (macros : ℕ) (cuts : (back : List Char) → AreCutAtMost (cut_events split back)) where
  notes_each : (back xs : List Char) → length (note_events_after split macros back xs) ≡ length xs + 1
  notes_each back [] = refl
  notes_each back (x ∷ xs) = ap suc (notes_each (x ∷ back) xs) ∙ (let e : suc (length xs + 1) ≡ length (x ∷ xs) + 1 = omega arith in e)

  notes_last : (back xs : List Char) → findings_of (concat_of (note_events_after split macros back xs)) ≡ findings_of (concat_of (take (length xs) (note_events_after split macros back xs)))
  notes_last back [] = cut_quiet (cut_events split back) (cuts back)
  notes_last back (x ∷ xs) = grind (arith, notes_last (x ∷ back) xs, findings_append)

  pub notes_lie : ((at : Place) (prefix rest : List ℕ) → LieBetween at (place_past at prefix) (findings_of (concat_of (take (length prefix + 1) (note_events split macros (placed_characters_from at (prefix ++ rest)))))))
      → ((at : Place) (t : List ℕ) → AreInOrder (findings_of (concat_of (note_events split macros (placed_characters_from at t))))) → SnippetsLie (λ xs. note_events split macros xs)
  unfolding note_events
  notes_lie within order = record { within = within; order = order; last = notes_last []; each = notes_each [] }

module _ (cuts : (t : List ℕ) → AreCutAtMost (nabc.cut_events t)) where
  nabc_each : (t : List ℕ) (xs : List Char) → length (nabc.nabc_events_after t xs) ≡ length xs + 1
  nabc_each t [] = refl
  nabc_each t (x ∷ xs) = ap suc (nabc_each (t ++ x.c ∷ []) xs) ∙ (let e : suc (length xs + 1) ≡ length (x ∷ xs) + 1 = omega arith in e)

  nabc_last : (t : List ℕ) (xs : List Char) → findings_of (concat_of (nabc.nabc_events_after t xs)) ≡ findings_of (concat_of (take (length xs) (nabc.nabc_events_after t xs)))
  nabc_last t [] = cut_quiet (nabc.cut_events t) (cuts t)
  nabc_last t (x ∷ xs) = grind (arith, nabc_last (t ++ x.c ∷ []) xs, findings_append)

  pub nabc_lies : ((at : Place) (prefix rest : List ℕ) → LieBetween at (place_past at prefix) (findings_of (concat_of (take (length prefix + 1) (nabc.nabc_events (placed_characters_from at (prefix ++ rest)))))))
      → ((at : Place) (t : List ℕ) → AreInOrder (findings_of (concat_of (nabc.nabc_events (placed_characters_from at t))))) → SnippetsLie (λ xs. nabc.nabc_events xs)
  nabc_lies within order = record { within = within; order = order; last = nabc_last []; each = nabc_each [] }
