-- The characters that are emitted as kept, one call after another.
use Rattle.std.proofs.Common.{◌≡◌, ℕ, ◌+◌, ◌<◌, ◌≤◌, List, [], ◌∷◌, ◌++◌, refl, sym, ap, ◌∙◌, append_assoc, append-nil, length, take, get_or, arith}
use Rattle.std.specs.Prelude.{map}
use Rattle.std.proofs.lemmas.List.{take_more, take_all, take-append-le, length-take}
use Rattle.gabc_places.specs.declared.place.Char.{Char}
use Rattle.gabc_places.specs.BoundedList.{BoundedList, extended_by}
use Rattle.gabc_places.specs.StageLaw.{concat_of}
use Rattle.gabc_notes.specs.SnippetRead.{kept_of, kept_chars_of}
use Rattle.gabc_notes.specs.declared.stage.NoteEvent.{NoteEvent}
use Rattle.gabc_notes.specs.declared.stage.NoteEvent.TheVariants.{Kept, Found, Ended}

pub kept_chars-append : (a b : List NoteEvent) → kept_chars_of (a ++ b) ≡ kept_chars_of a ++ kept_chars_of b
kept_chars-append [] b = refl
kept_chars-append (Kept x ∷ a) b = ap (λ (l : List Char). x ∷ l) (kept_chars-append a b)
kept_chars-append (Found f ∷ a) b = kept_chars-append a b
kept_chars-append (Ended h n ∷ a) b = kept_chars-append a b

-- without their places
pub kept_chars-kept : (a : List NoteEvent) → map (λ (x : Char). x.c) (kept_chars_of a) ≡ kept_of a
kept_chars-kept [] = refl
kept_chars-kept (Kept x ∷ a) = ap (λ (l : List ℕ). x.c ∷ l) (kept_chars-kept a)
kept_chars-kept (Found f ∷ a) = kept_chars-kept a
kept_chars-kept (Ended h n ∷ a) = kept_chars-kept a

-- a prefix of a prefix with more after it
pub take_again : {X : Type 0} (n : ℕ) (a b : List X) → take n (take n a ++ b) ≡ take n (a ++ b)
take_again n a b = grind (arith, take_all, length-take, take-append-le)

-- one event more of a list
pub kept_more : (first now new : List Char) (count : ℕ) (events : List NoteEvent) (i : ℕ) (d : NoteEvent) → i < length events
    → now ≡ take count (first ++ kept_chars_of (take i events)) → new ≡ take count (now ++ kept_chars_of (get_or events i d ∷ []))
    → new ≡ take count (first ++ kept_chars_of (take (i + 1) events))
kept_more first now new count events i d h f g =
    let one : List Char = kept_chars_of (get_or events i d ∷ []) in
    let before : List Char = first ++ kept_chars_of (take i events) in
    g ∙ (ap (λ (l : List Char). take count (l ++ one)) f ∙ (take_again count before one
    ∙ ap (take count) (append_assoc first (kept_chars_of (take i events)) one
    ∙ ap (λ (l : List Char). first ++ l) (sym (kept_chars-append (take i events) (get_or events i d ∷ [])) ∙ ap kept_chars_of (sym (take_more events i d h))))))

-- so long as it is no longer than the count
pub no_longer : {X : Type 0} (count : ℕ) (now all : List X) → now ≡ take count all → length now ≤ count
no_longer {X} count now all e = omega (arith, ap (λ (l : List X). length l) e, length-take count all)

-- nothing is added where the count is reached, whatever follows
pub full : {X : Type 0} (count : ℕ) (now more : List X) → length now ≡ count → now ≡ take count (now ++ more)
full count now more h = sym (take-append-le count now more (omega (arith, h)) ∙ take_all count now (omega (arith, h)))

-- and where there is nothing to add
pub none_pushed : {X : Type 0} (count : ℕ) (now : List X) → length now ≤ count → now ≡ take count (now ++ [])
none_pushed {X} count now h = sym (ap (take count) (append-nil now) ∙ take_all count now h)

-- one call of a stage more
pub driven : {total new : List Char} {events : List NoteEvent} (kept : List Char) (count : ℕ) (before later : List (List NoteEvent)) → before ≡ events ∷ later
    → new ≡ take count (kept ++ kept_chars_of events) → total ≡ take count (kept ++ kept_chars_of (concat_of before))
    → total ≡ take count (new ++ kept_chars_of (concat_of later))
driven kept count before later e f g = grind (arith, kept_chars-append, append_assoc, take_again)

-- what a call added to an empty room
pub added_alone : {X : Type 0} (old new : BoundedList X) (events : List X) → old.items ≡ [] → new ≡ extended_by old events → new.items ≡ events
added_alone {X} old new events e f = ap (λ (h : BoundedList X). h.items) f ∙ ap (λ (l : List X). l ++ events) e
