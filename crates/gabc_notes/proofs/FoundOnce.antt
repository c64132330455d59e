-- What is found at one character is one list, and so is that it is kept.
use Rattle.std.proofs.Common.{arith, ◌≡◌, List, ap, ◌∙◌}
use Rattle.gabc_places.specs.declared.code.Finding.{Finding}
use Rattle.gabc_places.specs.declared.place.Char.{Char}
use Rattle.gabc_notes.specs.FoundAt.{AreThoseFound}
use Rattle.gabc_notes.specs.NotesEmitted.{AreIfKept}
use Rattle.gabc_notes.specs.declared.stage.NoteEvent.{NoteEvent}

-- findings of one place and one code
pub same_finding : (f g : Finding) → f.place ≡ g.place → f.code ≡ g.code → f ≡ g
same_finding f g p c = ap (λ place. record { place = place; code = f.code }) p ∙ ap (λ code. record { place = g.place; code = code }) c

-- two lists are one, if at most one finding is made
pub found_once : (Is : Finding → Type 0) → ((f g : Finding) → Is f → Is g → f ≡ g) → (fs gs : List Finding) → AreThoseFound Is fs → AreThoseFound Is gs → fs ≡ gs
found_once Is only fs gs h g = grind arith

-- that the character is kept
pub kept_once : {IsKept : Type 0} (x : Char) (es fs : List NoteEvent) → AreIfKept IsKept x es → AreIfKept IsKept x fs → es ≡ fs
kept_once x es fs h g = grind arith
