-- If nothing sounds, the clef in force stays.
use Rattle.std.proofs.Common.{◌≡◌, ℕ, ◌==◌, ◌&&◌, List, [], ◌∷◌, ◌++◌, map, false, cond, Option, Some, None, is_some, refl, ap, sym, ◌∙◌, arith}
use Rattle.std.proofs.lemmas.Bool.{or_parts}
use Rattle.std.specs.Option.{option_or}
use Rattle.gabc_notes.specs.declared.item.Item.{Item}
use Rattle.gabc_notes.specs.declared.item.ItemKind.{ItemKind}
use Rattle.gabc_notes.specs.FirstNoteOrClef.{first_note_or_clef, is_note_or_clef}
use Rattle.gabc_notes.specs.Items.{bytes_of, items_of}
use Rattle.gabc_neumes.specs.InForce.{InForce, ScoreStep, AnItem, clef_of, passed, step_of}
use Rattle.gabc_neumes.specs.declared.sound.Clef.{Clef}
use Rattle.gabc_score.specs.Before.{sounds, sounds_in}
use Rattle.gabc_body.specs.Syllable.{PlacedSyllable, text_at}
use Rattle.gabc_body.specs.declared.snippets.Snippet.{Snippet}
use Rattle.gabc_body.specs.declared.syllable.Position.{Position}
use Rattle.gabc_write.specs.DumpOfSyllables.{first_steps, steps_of_snippet, steps_of_snippets, steps_of_syllable}

-- none of these is a clef
abbrev AreNoClefs : List ScoreStep → Type 0
AreNoClefs [] = Unit {0}
AreNoClefs (s ∷ steps) = (clef_of s ≡ None) × AreNoClefs steps

both_none : (steps more : List ScoreStep) → AreNoClefs steps → AreNoClefs more → AreNoClefs (steps ++ more)
both_none [] more none h = h
both_none (s ∷ steps) more none h = (none.0, both_none steps more none.1 h)

-- ---- the steps of a syllable

-- an item that is no note and no clef, and those after it
abbrev IsNoneFirst : ItemKind → List ℕ → Option ItemKind → Type 0
IsNoneFirst k t later = (clef_of (AnItem k t) ≡ None) × (later ≡ None)

none_first : (k : ItemKind) (t : List ℕ) (later : Option ItemKind) → cond (is_note_or_clef k) (Some k) later ≡ None → IsNoneFirst k t later
none_first k t later e = grind arith

of_items : (kept : List ℕ) (items : List Item) → first_note_or_clef items ≡ None → AreNoClefs (map (step_of kept) items)
of_items kept [] e = tt
of_items kept (i ∷ items) e = let first = none_first i.kind (bytes_of kept i) (first_note_or_clef items) e in (first.0, of_items kept items first.1)

none_some : (k : Option ItemKind) → is_some k ≡ false → k ≡ None
none_some k e = grind arith

of_snippet : (kept : List ℕ) (s : Snippet) → ((s.line == 0) && is_some (first_note_or_clef (items_of (text_at s.span kept)))) ≡ false → AreNoClefs (steps_of_snippet kept s)
of_snippet kept s e = grind (arith, of_items, none_some)

of_snippets : (kept : List ℕ) (snippets : List Snippet) → sounds_in kept snippets ≡ false → AreNoClefs (steps_of_snippets kept snippets)
of_snippets kept [] e = tt
of_snippets kept (s ∷ snippets) e =
    let none = or_parts ((s.line == 0) && is_some (first_note_or_clef (items_of (text_at s.span kept)))) (sounds_in kept snippets) e in
    both_none (steps_of_snippet kept s) (steps_of_snippets kept snippets) (of_snippet kept s none.0) (of_snippets kept snippets none.1)

at_first : (position : Position) → AreNoClefs (first_steps position)
at_first position = grind arith

-- ---- the clef

abbrev ArePassedOneByOne : Type 0
ArePassedOneByOne = (outset : InForce) (steps more : List ScoreStep) → passed (passed outset steps) more ≡ passed outset (steps ++ more)

after_steps : ArePassedOneByOne → (steps : List ScoreStep) (outset : InForce) → AreNoClefs steps → (passed outset steps).clef ≡ outset.clef
after_steps law [] outset none = refl
after_steps law (s ∷ steps) outset none =
    ap (λ (v : InForce). v.clef) (sym (law outset (s ∷ []) steps))
    ∙ (after_steps law steps (passed outset (s ∷ [])) none.1
    ∙ ap (λ (o : Option Clef). option_or o outset.clef) none.0)

pub clef_stays : ArePassedOneByOne → (outset : InForce) (s : PlacedSyllable) → sounds s.made ≡ false → (passed outset (steps_of_syllable s)).clef ≡ outset.clef
clef_stays law outset s silent = grind (arith, after_steps, both_none, at_first, of_snippets)
