-- What is gathered of a stage's events.
use Rattle.std.proofs.Common.{◌≡◌, ℕ, ◌+◌, ◌<◌, List, [], ◌∷◌, ◌++◌, refl, sym, ap, ◌∙◌, append_assoc, append-nil, length, take, Option, Some, get_or}
use Rattle.std.proofs.lemmas.List.{take_more}
use lib.Utf8.{encode, encodes}
use Rattle.gabc_places.specs.declared.code.Finding.{Finding}
use Rattle.gabc_notes.specs.SnippetRead.{kept_of, findings_of}
use Rattle.gabc_notes.specs.machine.BuiltSnippet.{BuiltSnippet, with_event, with_events}
use Rattle.gabc_notes.specs.declared.stage.NoteEnd.{NoteEnd}
use Rattle.gabc_notes.specs.declared.stage.NoteEvent.{NoteEvent}
use Rattle.gabc_notes.specs.declared.stage.NoteEvent.TheVariants.{Kept, Found, Ended}

-- the events one after another
pub built_append : (h : BuiltSnippet) (xs ys : List NoteEvent) → with_events h (xs ++ ys) ≡ with_events (with_events h xs) ys
built_append h [] ys = refl
built_append h (x ∷ xs) ys = built_append (with_event h x) xs ys

-- one event more of a list
pub built_more : (first now new : BuiltSnippet) (xs : List NoteEvent) (i : ℕ) (d : NoteEvent) → i < length xs
    → now ≡ with_events first (take i xs) → new ≡ with_event now (get_or xs i d) → new ≡ with_events first (take (i + 1) xs)
built_more first now new xs i d h f g =
    g ∙ ap (λ (t : BuiltSnippet). with_event t (get_or xs i d)) f ∙ sym (built_append first (take i xs) (get_or xs i d ∷ []))
    ∙ ap (with_events first) (sym (take_more xs i d h))

-- the last end that is emitted
abbrev pub end_of : Option (NoteEnd × ℕ) → List NoteEvent → Option (NoteEnd × ℕ)
end_of e [] = e
end_of e (Ended how kept ∷ os) = end_of (Some (how, kept)) os
end_of e (o ∷ os) = end_of e os

-- each kind of events
pub built_is : (h : BuiltSnippet) (os : List NoteEvent) → with_events h os ≡ record { kept = h.kept ++ encodes (kept_of os); findings = h.findings ++ findings_of os; end = end_of h.end os }
built_is h [] = ap (λ (k : List ℕ). record h { kept = k }) (sym (append-nil h.kept)) ∙ ap (λ (f : List Finding). record { kept = h.kept ++ []; findings = f; end = h.end }) (sym (append-nil h.findings))
built_is h (Kept x ∷ os) = built_is (with_event h (Kept x)) os ∙ ap (λ (k : List ℕ). record { kept = k; findings = h.findings ++ findings_of os; end = end_of h.end os }) (append_assoc h.kept (encode x.c) (encodes (kept_of os)))
built_is h (Found f ∷ os) = built_is (with_event h (Found f)) os ∙ ap (λ (fs : List Finding). record { kept = h.kept ++ encodes (kept_of os); findings = fs; end = end_of h.end os }) (append_assoc h.findings (f ∷ []) (findings_of os))
built_is h (Ended how kept ∷ os) = built_is (with_event h (Ended how kept)) os
