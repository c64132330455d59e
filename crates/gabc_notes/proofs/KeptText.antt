-- The characters of a kept text, each with its place, are that text.
use Rattle.std.proofs.Common.{arith, ◌≡◌, ℕ, List, [], Bool, refl, sym, ap, ◌∙◌, length, take, Option, Some, None, Result, IfOk}
use Rattle.std.specs.Prelude.{map}
use Rattle.std.proofs.lemmas.List.{take-map}
use Rattle.std.proofs.Math.Seq.{take-length, take-append_seam}
use Rattle.gabc_places.specs.declared.place.Char.{Char}
use Rattle.gabc_places.specs.StageLaw.{concat_of}
use Rattle.gabc_patterns.specs.Function.{trim}
use Rattle.gabc_patterns.proofs.FunctionsMeetRelations.{trim_trims}
use Rattle.gabc_notes.specs.Table.{gabc}
use Rattle.gabc_notes.specs.Events.{kept, note_events}
use Rattle.gabc_notes.specs.SnippetRead.{kept_chars_of, kept_chars_in, stop_after, kept_by}
use Rattle.gabc_notes.specs.declared.stage.NoteEvent.{NoteEvent}
use Rattle.gabc_notes.proofs.KeptChars.{kept_chars-kept}
use Rattle.gabc_notes.proofs.grammar.LawsOfEventsByPoint.{emitted_kept}

-- what is kept by an end is a prefix of the kept text
prefix_is : (mark : Option ℕ) (back : List Char) → take (length (kept_by mark back)) (kept back) ≡ kept_by mark back
prefix_is None back = take-length (kept back)
prefix_is (Some c) back =
    let t = trim_trims gabc refl (kept back) in
    ap (take (length (trim gabc (kept back)))) t.cut ∙ take-append_seam (trim gabc (kept back)) t.rest

pub text_is : (split : Bool) (macros : ℕ) (xs : List Char)
    → map (λ (x : Char). x.c) (kept_chars_in split macros xs) ≡ kept_by (stop_after split [] xs).mark (stop_after split [] xs).back
unfolding note_events
text_is split macros xs =
    let s = stop_after split [] xs in
    let n : ℕ = length (kept_by s.mark s.back) in
    sym (take-map (λ (x : Char). x.c) n (kept_chars_of (concat_of (note_events split macros xs))))
    ∙ (ap (take n) (kept_chars-kept (concat_of (note_events split macros xs)) ∙ emitted_kept split macros xs [] refl) ∙ prefix_is s.mark s.back)

-- a driver's answer, where `text` is the kept text and `rest` what is emitted of the characters
pub chars_returned : {E : Type 0} (r : Result (List Char) E) (split : Bool) (macros : ℕ) (xs : List Char) (rest : List (List NoteEvent)) (text : List ℕ)
    → text ≡ kept_by (stop_after split [] xs).mark (stop_after split [] xs).back → rest ≡ note_events split macros xs
    → IfOk r (λ cs. cs ≡ take (length text) (kept_chars_of (concat_of rest))) → IfOk r (λ cs. cs ≡ kept_chars_in split macros xs)
chars_returned r split macros xs rest text e f = grind arith
