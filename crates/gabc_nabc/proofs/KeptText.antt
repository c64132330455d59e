-- The characters of a kept text, each with its place, are that text.
use Rattle.std.proofs.Common.{arith, ◌≡◌, ℕ, List, [], ◌∷◌, refl, sym, ap, ◌∙◌, length, take, Result, IfOk}
use Rattle.std.specs.Prelude.{map}
use Rattle.std.proofs.lemmas.List.{take-map}
use Rattle.std.proofs.Math.Seq.{take-length, take-append_seam}
use Rattle.gabc_places.specs.declared.place.Char.{Char}
use Rattle.gabc_places.specs.declared.place.Place.{Place}
use Rattle.gabc_places.specs.StageLaw.{concat_of}
use Rattle.gabc_places.specs.Place.{placed_characters_from, next_place}
use Rattle.gabc_patterns.specs.Function.{trim}
use Rattle.gabc_patterns.proofs.FunctionsMeetRelations.{trim_trims}
use Rattle.gabc_notes.specs.SnippetRead.{kept_of as kept_in, kept_chars_of}
use Rattle.gabc_notes.specs.declared.stage.NoteEvent.{NoteEvent}
use Rattle.gabc_nabc.specs.Table.{nabc}
use Rattle.gabc_nabc.specs.Events.{kept_of, nabc_events}
use Rattle.gabc_nabc.specs.SnippetRead.{before_end, from_end, kept_before, kept_chars_in}
use Rattle.gabc_nabc.proofs.grammar.LawsOfEvents.{emitted_kept}

-- without its places
text_placed : (at : Place) (t : List ℕ) → map (λ (x : Char). x.c) (placed_characters_from at t) ≡ t
text_placed at [] = refl
text_placed at (c ∷ cs) = ap (λ (l : List ℕ). c ∷ l) (text_placed (next_place at c) cs)

-- what is kept by an end is a prefix of the kept text
prefix_is : (prefix back : List ℕ) → take (length (kept_before prefix back)) (kept_of prefix) ≡ kept_before prefix back
prefix_is prefix [] = take-length (kept_of prefix)
prefix_is prefix (c ∷ cs) =
    let t = trim_trims nabc refl (kept_of prefix) in
    ap (take (length (trim nabc (kept_of prefix)))) t.cut ∙ take-append_seam (trim nabc (kept_of prefix)) t.rest

-- the characters that are emitted as kept, without their places, are the kept text
abbrev pub AreText : Type 0
AreText = (events : List NoteEvent) → map (λ (x : Char). x.c) (kept_chars_of events) ≡ kept_in events

pub text_is : AreText → (at : Place) (t : List ℕ) → map (λ (x : Char). x.c) (kept_chars_in at t) ≡ kept_before (before_end t) (from_end t)
text_is are_text at t =
    let n : ℕ = length (kept_before (before_end t) (from_end t)) in
    let events : List NoteEvent = concat_of (nabc_events (placed_characters_from at t)) in
    let kept : kept_in events ≡ kept_of (before_end t) = emitted_kept (placed_characters_from at t) ∙ ap (λ (u : List ℕ). kept_of (before_end u)) (text_placed at t) in
    sym (take-map (λ (x : Char). x.c) n (kept_chars_of events)) ∙ (ap (take n) (are_text events ∙ kept) ∙ prefix_is (before_end t) (from_end t))

-- a driver's answer, where `text` is the kept text and `rest` what is emitted of the characters
pub chars_returned : {E : Type 0} (r : Result (List Char) E) (at : Place) (t : List ℕ) (rest : List (List NoteEvent)) (text : List ℕ)
    → text ≡ kept_before (before_end t) (from_end t) → rest ≡ nabc_events (placed_characters_from at t)
    → IfOk r (λ cs. cs ≡ take (length text) (kept_chars_of (concat_of rest))) → IfOk r (λ cs. cs ≡ kept_chars_in at t)
chars_returned r at t rest text e f = grind arith
