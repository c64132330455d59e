-- Once a stage has read a text whose headers are whole, its book has them, whatever follows.
use Rattle.std.proofs.Common.{◌≡◌, ℕ, List, [], ◌∷◌, ◌++◌, true, refl, ap, ◌∙◌, subst, Option, Result, Ok, arith}
use lib.Utf8.{scalars}
use Rattle.std.specs.declared.hash.DefaultHasher.{DefaultHasher}
use Rattle.gabc_places.specs.declared.place.Char.{Char}
use Rattle.gabc_places.specs.declared.limits.Limits.{Limits}
use Rattle.gabc_places.specs.declared.code.Fault.{Fault}
use Rattle.gabc_places.specs.Decoder.{fault_items}
use Rattle.gabc_headers.specs.declared.heads.Heads.{Heads}
use Rattle.gabc_headers.specs.Heads.{heads_of}
use Rattle.gabc_headers.specs.HeadEvents.{inputs_after}
use Rattle.gabc_headers.specs.witness.HeadEvents.{HeadProgress, HeaderStageState, reading, after_headers, over, progress_after, progress_by, stage_at, stage_after, stage_past, fresh_stage}
use Rattle.gabc_headers.proofs.prefixes.EventsNeedNoEnd.{progress_past, standing}

-- after the headers the book is theirs
abbrev IsBookOf : HeadProgress → List (List ℕ × List ℕ) → Type 0
IsBookOf (after_headers book) held = held ≡ book
IsBookOf (reading t) held = Unit {0}
IsBookOf over held = Unit {0}

at_progress : (s : HeaderStageState) (p : HeadProgress) → IsBookOf p (stage_at s p).book
at_progress s (after_headers book) = refl
at_progress s (reading t) = tt
at_progress s over = tt

keeps_book : (s : HeaderStageState) (xs : List (Result Char Fault)) → IsBookOf s.progress s.book → IsBookOf (stage_past s xs).progress (stage_past s xs).book
keeps_book s [] h = h
keeps_book s (x ∷ xs) h = keeps_book (stage_after s x) xs (at_progress s (progress_after s.limits s.progress x))

stands_past : (s : HeaderStageState) (xs : List (Result Char Fault)) → (stage_past s xs).progress ≡ progress_past s.limits s.progress xs
stands_past s [] = refl
stands_past s (x ∷ xs) = stands_past (stage_after s x) xs

past_both : (s : HeaderStageState) (xs ys : List (Result Char Fault)) → stage_past s (xs ++ ys) ≡ stage_past (stage_past s xs) ys
past_both s [] ys = refl
past_both s (x ∷ xs) ys = past_both (stage_after s x) xs ys

-- a fault changes no book
fault_keeps : (s : HeaderStageState) (fault : Option Fault) → (stage_past s (fault_items fault)).book ≡ s.book
fault_keeps s fault = grind arith

pub book_is_read : (limits : Limits) (hasher : DefaultHasher) (t : List ℕ) (heads : Heads) (fault : Option Fault) → scalars t ≡ true → heads_of limits t ≡ Ok heads
    → (stage_past (fresh_stage limits hasher) (inputs_after [] t ++ fault_items fault)).book ≡ heads.book
book_is_read limits hasher t heads fault u h =
    let s = stage_past (fresh_stage limits hasher) (inputs_after [] t) in
    let stands : s.progress ≡ after_headers heads.book = stands_past (fresh_stage limits hasher) (inputs_after [] t) ∙ (standing limits t u ∙ ap (progress_by t) h) in
    let fits : IsBookOf s.progress s.book = keeps_book (fresh_stage limits hasher) (inputs_after [] t) tt in
    ap (λ (x : HeaderStageState). x.book) (past_both (fresh_stage limits hasher) (inputs_after [] t) (fault_items fault))
    ∙ (fault_keeps s fault ∙ subst (λ (p : HeadProgress). IsBookOf p s.book) stands fits)
