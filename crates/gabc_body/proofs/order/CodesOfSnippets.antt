-- What is found in snippets has a code below that of a note before any clef.
use Rattle.std.proofs.Common.{ℕ, ◌<◌, List, [], ◌∷◌, ◌++◌, Bool, if◌then◌else◌, arith, sym, subst}
use Rattle.gabc_places.specs.Code.{rank_of}
use Rattle.gabc_places.specs.StageLaw.{concat_of}
use Rattle.gabc_places.specs.declared.place.Place.{Place}
use Rattle.gabc_places.specs.declared.place.Char.{Char}
use Rattle.gabc_places.specs.declared.code.Code.{Code}
use Rattle.gabc_places.specs.declared.code.Code.TheVariants.{E1, E3, E6, W7, W8, W10, W12}
use Rattle.gabc_notes.specs.declared.stage.NoteEvent.{NoteEvent}
use Rattle.gabc_notes.specs.declared.stage.NoteEvent.TheVariants as note
use Rattle.gabc_notes.specs.Events as notes
use Rattle.gabc_notes.specs.SnippetRead.{findings_of}
use Rattle.gabc_nabc.specs.Events as nabc
use Rattle.gabc_nabc.specs.Table.{nabc as nabc_grammar}
use Rattle.gabc_notes.specs.Table.{gabc}
use Rattle.gabc_patterns.specs.Derivative.{is_snippet, is_viable}
use Rattle.gabc_body.proofs.order.FindingsOneAfterAnother.{AllBelow, all_append}
use Rattle.gabc_notes.proofs.machine.LoopOverBody.{findings_append}
use Rattle.std.proofs.lemmas.Bool.{cond_both}

abbrev pub AreLow : List NoteEvent → Type 0
AreLow emitted = AllBelow W12 (findings_of emitted)

noted_both : (xs ys : List NoteEvent) → AreLow xs → AreLow ys → AreLow (xs ++ ys)
noted_both xs ys h k = subst (AllBelow W12) (sym (findings_append xs ys)) (all_append (λ f. rank_of f.code < rank_of W12) (findings_of xs) (findings_of ys) h k)

noted_if : (b : Bool) (xs ys : List NoteEvent) → AreLow xs → AreLow ys → AreLow (if b then xs else ys)
noted_if b xs ys h k = cond_both b xs ys AreLow (λ e. h) (λ e. k)

abbrev pub AreLowEach : List (List NoteEvent) → Type 0
AreLowEach [] = Unit {0}
AreLowEach (emitted ∷ lists) = AreLow emitted × AreLowEach lists

one_if : (b : Bool) (place : Place) (code : Code) → rank_of code < rank_of W12 → AreLow (if b then note.Found (record { place = place; code = code }) ∷ [] else [])
one_if b place code h = noted_if b _ [] (h, tt) tt

gabc_end : (p : notes.Point) → AreLow (notes.at_end p)
gabc_end p =
    noted_both (if is_snippet gabc (notes.kept p.back) then [] else notes.finding_event p.here.place E6 ∷ []) _ (noted_if (is_snippet gabc (notes.kept p.back)) [] _ tt (omega arith, tt))
    (noted_both (if notes.is_fused p.back then notes.finding_event p.here.place W10 ∷ [] else []) _ (one_if (notes.is_fused p.back) p.here.place W10 (omega arith)) tt)

gabc_warnings : (macros : ℕ) (p : notes.Point) → AreLow (notes.warnings macros p)
gabc_warnings macros p =
    let missing = notes.is_missing macros (notes.macro_of (notes.item_at p)) in
    noted_both (if notes.is_unpaired p then notes.finding_event p.here.place W10 ∷ [] else []) _ (one_if (notes.is_unpaired p) p.here.place W10 (omega arith))
    (one_if missing (notes.opener p.back) W8 (omega arith))

gabc_point : (split : Bool) (macros : ℕ) (p : notes.Point) → AreLow (notes.events_at split macros p)
gabc_point split macros p =
    let kept = noted_if (notes.is_kept p) (note.Kept p.here ∷ notes.warnings macros p) (notes.finding_event p.here.place E1 ∷ []) (gabc_warnings macros p) (omega arith, tt) in
    let read = noted_if (notes.is_comment p) [] (if notes.is_kept p then note.Kept p.here ∷ notes.warnings macros p else notes.finding_event p.here.place E1 ∷ []) tt kept in
    noted_if (notes.is_over split p.back) [] _ tt (noted_if (notes.is_end split p) (notes.at_end p) _ (gabc_end p) read)

gabc_points : (split : Bool) (macros : ℕ) (back xs : List Char) → AreLowEach (notes.note_events_after split macros back xs)
gabc_points split macros back [] = (noted_if (notes.is_over split back) _ _ tt tt, tt)
gabc_points split macros back (x ∷ xs) = (gabc_point split macros (record { back = back; here = x }), gabc_points split macros (x ∷ back) xs)

nabc_end : (kept : List ℕ) (x : Char) → AreLow (nabc.end_events kept x)
nabc_end kept x =
    noted_both (if is_snippet nabc_grammar kept then [] else notes.finding_event x.place E6 ∷ []) _ (noted_if (is_snippet nabc_grammar kept) [] _ tt (omega arith, tt)) tt

nabc_character : (kept : List ℕ) (x : Char) → AreLow (nabc.character_events kept x)
nabc_character kept x =
    let missing = nabc.is_missing (nabc.first_of kept) x.c in
    noted_if (is_viable nabc_grammar (kept ++ x.c ∷ [])) (note.Kept x ∷ (if missing then notes.finding_event x.place W7 ∷ [] else [])) (notes.finding_event x.place E3 ∷ [])
    (one_if missing x.place W7 (omega arith)) (omega arith, tt)

nabc_point : (t : List ℕ) (x : Char) → AreLow (nabc.events_at t x)
nabc_point t x = grind (arith, noted_if, nabc_end, nabc_character)

nabc_points : (t : List ℕ) (xs : List Char) → AreLowEach (nabc.nabc_events_after t xs)
nabc_points t [] = (noted_if (nabc.has_end t) _ _ tt tt, tt)
nabc_points t (x ∷ xs) = (nabc_point t x, nabc_points (t ++ x.c ∷ []) xs)

-- ---- of a whole snippet

pub notes_low : (split : Bool) (macros : ℕ) (xs : List Char) → AreLowEach (notes.note_events split macros xs)
unfolding notes.note_events
notes_low split macros xs = gabc_points split macros [] xs

pub nabc_low : (xs : List Char) → AreLowEach (nabc.nabc_events xs)
nabc_low xs = nabc_points [] xs

pub found_below : (lists : List (List NoteEvent)) → AreLowEach lists → AllBelow W12 (findings_of (concat_of lists))
found_below [] h = tt
found_below (emitted ∷ lists) h = noted_both emitted (concat_of lists) h.0 (found_below lists h.1)
