-- Laws of the definitions.
use Rattle.std.proofs.Common.{◌≡◌, ℕ, ◌≤◌, List, [], ◌∷◌, ◌++◌, length, length-append, take, drop, map, Bool, true, false, cond, ◌||◌, refl, sym, ap, ◌∙◌, codes, append-nil, append_assoc, arith}
use Rattle.gabc_places.specs.declared.code.Code.TheVariants.{E3, W7}
use Rattle.gabc_places.specs.declared.place.Char.{Char}
use Rattle.gabc_places.specs.StageLaw.{concat_of}
use Rattle.gabc_patterns.specs.LongestItems.{OneKind, IsSnippet, IsViable, IsItemOf}
use Rattle.gabc_patterns.specs.Derivative.{run, is_whole, is_viable}
use Rattle.gabc_patterns.specs.Function.{trim}
use Rattle.gabc_patterns.proofs.AutomatonsByTests.{reading, rows_of}
use Rattle.gabc_patterns.proofs.FunctionsMeetRelations.{trim_trims}
use Rattle.std.proofs.lemmas.Str.{encodes-append}
use lib.Utf8.{encodes}
use Rattle.gabc_notes.proofs.grammar.LawsOfEventsByPoint.{kept_append, ends_append}
use Rattle.gabc_patterns.proofs.RowsAfterACharacter.{rows_end_to}
use Rattle.gabc_patterns.proofs.RowsRun.{ends_once}
use Rattle.gabc_patterns.proofs.ItemSoFar.{one_kind}
use Rattle.gabc_patterns.proofs.StatesAfterTexts.{completes}
use Rattle.gabc_notes.specs.declared.stage.NoteEnd.{NoteEnd}
use Rattle.gabc_notes.specs.declared.stage.NoteEnd.TheVariants as ending
use Rattle.gabc_notes.specs.declared.stage.NoteEvent.{NoteEvent}
use Rattle.gabc_notes.specs.declared.stage.NoteEvent.TheVariants.{Kept}
use Rattle.gabc_nabc.specs.Table.{nabc}
use Rattle.gabc_nabc.specs.Events.{is_character, is_end, has_end, kept_of, first_of, is_missing, events_at, nabc_events_after, nabc_events, bytes_in}
use Rattle.gabc_notes.specs.Events.{finding_event, end_by_mark}
use Rattle.gabc_notes.specs.SnippetRead.{ends_of, kept_of as kept_in}
use Rattle.gabc_nabc.specs.SnippetRead.{before_end_after, before_end, from_end, kept_before, end_before}
use Rattle.gabc_nabc.specs.declared.state.DescriptorState.{DescriptorState}
use Rattle.gabc_nabc.specs.declared.state.DescriptorState.TheVariants.{CodeL, CodeP, CodeS, Code, GlyphH, Joined, TailL, TailP, TailS, Points, PointsLetter, Letters, LettersMore, CountedH}
use Rattle.gabc_nabc.proofs.machine.MachineReadsTable.{machine, snippets_read, items_read}
use Rattle.gabc_nabc.proofs.machine.TextWithACharacterMore.{end_more, kept_more, kept_same}

-- at each state at most one kind may end
once : (s : DescriptorState) → ends_once (rows_of nabc machine s) ≡ true
once s = grind arith

-- rows that spell one text are of one kind
pub kinds_are_one : OneKind nabc
kinds_are_one = one_kind nabc machine items_read once

-- no part is empty
pub none_empty : (k : Bool) → ¬ IsItemOf nabc k []
none_empty k h = (let f = rows_end_to nabc k h in absurd (cc))

-- what completes a state: the second letter of a code, a whole one, a pitch, or what points and letters lack
abbrev pub completion : DescriptorState → List ℕ
completion CodeL = codes "a"
completion CodeP = codes "a"
completion CodeS = codes "a"
completion Code = codes "a"
completion GlyphH = codes "a"
completion Joined = codes "aa"
completion TailL = codes "a"
completion TailP = codes "a"
completion TailS = codes "a"
completion Points = codes "1"
completion PointsLetter = codes "1"
completion Letters = codes "a1"
completion LettersMore = codes "1"
completion CountedH = codes "a"
completion _ = []

pub completed : (s : DescriptorState) → is_whole (run nabc (reading nabc machine s) (completion s)) ≡ true
completed s = grind arith

-- it is no longer than two characters
short : (s : DescriptorState) → length (completion s) ≤ 2
short s = grind arith

-- a viable text needs at most two characters more
pub two_complete : (t : List ℕ) → IsViable nabc t → (more : List ℕ) × (length more ≤ 2) × IsSnippet nabc (t ++ more)
two_complete t v = let x = completes nabc machine snippets_read completion completed t v in (completion x.0, short x.0, x.2)

-- ---- what is emitted

prefix_emitted : (t : List ℕ) (xs ys : List Char) → take (length xs) (nabc_events_after t (xs ++ ys)) ≡ take (length xs) (nabc_events_after t xs)
prefix_emitted t [] ys = refl
prefix_emitted t (x ∷ xs) ys = ap (λ (l : List (List NoteEvent)). events_at t x ∷ l) (prefix_emitted (t ++ x.c ∷ []) xs ys)

-- what is emitted of a prefix does not depend on what follows
pub prefix_stays : (xs ys zs : List Char) → take (length xs) (nabc_events (xs ++ ys)) ≡ take (length xs) (nabc_events (xs ++ zs))
prefix_stays xs ys zs = prefix_emitted [] xs ys ∙ sym (prefix_emitted [] xs zs)

-- after the end nothing is emitted
pub silent : (t : List ℕ) (xs : List Char) → has_end t ≡ true → concat_of (nabc_events_after t xs) ≡ []
silent t [] e = rw e refl
silent t (x ∷ xs) e = cc (silent (t ++ x.c ∷ []) xs (end_more t x.c ∙ ap (λ (b : Bool). b || is_end t x.c) e))

-- at the end nothing is kept
none_kept : (t : List ℕ) (x : Char) → has_end t ≡ false → is_end t x.c ≡ true → kept_in (events_at t x) ≡ []
none_kept t x e f = grind arith

-- before it, what is emitted as kept is what is kept more
one_kept : (t : List ℕ) (x : Char) → has_end t ≡ false → is_end t x.c ≡ false → kept_of t ++ kept_in (events_at t x) ≡ kept_of (t ++ x.c ∷ [])
one_kept t x e f = by (is_character t x.c) (is_viable nabc (kept_of t ++ x.c ∷ [])) refl refl
  where
    warned : (b : Bool) → kept_in (Kept x ∷ cond b (finding_event x.place W7 ∷ []) []) ≡ x.c ∷ []
    warned b = grind arith

    by : (a b : Bool) → is_character t x.c ≡ a → is_viable nabc (kept_of t ++ x.c ∷ []) ≡ b → kept_of t ++ kept_in (events_at t x) ≡ kept_of (t ++ x.c ∷ [])
    by a b h i = grind (arith, append-nil, kept_same, kept_more, warned)

all_kept : (xs : List Char) (t : List ℕ) → has_end t ≡ false
    → kept_of t ++ kept_in (concat_of (nabc_events_after t xs)) ≡ kept_of (t ++ before_end_after t (map (λ (x : Char). x.c) xs))
all_kept [] t e = rw e (append-nil (kept_of t) ∙ ap kept_of (sym (append-nil t)))
all_kept (x ∷ xs) t e = go (is_end t x.c) refl (all_kept xs (t ++ x.c ∷ []))
  where
    later : List NoteEvent
    later = concat_of (nabc_events_after (t ++ x.c ∷ []) xs)

    go : (b : Bool) → is_end t x.c ≡ b
        → (has_end (t ++ x.c ∷ []) ≡ false → kept_of (t ++ x.c ∷ []) ++ kept_in later ≡ kept_of ((t ++ x.c ∷ []) ++ before_end_after (t ++ x.c ∷ []) (map (λ (y : Char). y.c) xs)))
        → kept_of t ++ kept_in (events_at t x ++ later) ≡ kept_of (t ++ cond b [] (x.c ∷ before_end_after (t ++ x.c ∷ []) (map (λ (y : Char). y.c) xs)))
    go b f more = grind (arith, later, kept_append, none_kept, silent, end_more, append-nil, append_assoc, one_kept)

-- what is emitted as kept is what is kept of the text before its end
pub emitted_kept : (xs : List Char) → kept_in (concat_of (nabc_events xs)) ≡ kept_of (before_end (map (λ (x : Char). x.c) xs))
emitted_kept xs = all_kept xs [] refl

-- ---- the end

-- at the end
pub one_end : (t : List ℕ) (x : Char) → has_end t ≡ false → is_end t x.c ≡ true → ends_of (events_at t x) ≡ (end_by_mark x.c, bytes_in (trim nabc (kept_of t))) ∷ []
one_end t x e f = grind arith

-- before it
pub no_end : (t : List ℕ) (x : Char) → has_end t ≡ false → is_end t x.c ≡ false → ends_of (events_at t x) ≡ []
no_end t x e f = rw (e, f) (by (is_character t x.c))
  where
    warned : (b : Bool) → ends_of (Kept x ∷ cond b (finding_event x.place W7 ∷ []) []) ≡ []
    warned b = grind arith

    viable : (b : Bool) → ends_of (cond b (Kept x ∷ cond (is_missing (first_of (kept_of t)) x.c) (finding_event x.place W7 ∷ []) []) (finding_event x.place E3 ∷ [])) ≡ []
    viable b = grind (arith, warned)

    by : (b : Bool) → ends_of (cond b (cond (is_viable nabc (kept_of t ++ x.c ∷ [])) (Kept x ∷ cond (is_missing (first_of (kept_of t)) x.c) (finding_event x.place W7 ∷ []) []) (finding_event x.place E3 ∷ [])) []) ≡ []
    by b = grind (arith, viable)

-- the end that is emitted of these characters after the text
abbrev end_emitted : List ℕ → List ℕ → List ℕ → List (NoteEnd × ℕ)
end_emitted t prefix rest = (end_before rest, bytes_in (kept_before (t ++ prefix) rest)) ∷ []

ends_from : (xs : List Char) (t : List ℕ) → has_end t ≡ false
    → ends_of (concat_of (nabc_events_after t xs)) ≡ end_emitted t (before_end_after t (map (λ (x : Char). x.c) xs)) (drop (length (before_end_after t (map (λ (x : Char). x.c) xs))) (map (λ (x : Char). x.c) xs))
ends_from [] t e = rw e (ap (λ (u : List ℕ). (ending.Cut (record { line = 0; column = 0 }), bytes_in (kept_of u)) ∷ []) (sym (append-nil t)))
ends_from (x ∷ xs) t e = grind (arith, ends_from xs (t ++ x.c ∷ []), ends_append, one_end, silent, end_more, append-nil, no_end, append_assoc)

-- one end is emitted
pub end_is_emitted : (xs : List Char)
    → ends_of (concat_of (nabc_events xs)) ≡ (end_before (from_end (map (λ (x : Char). x.c) xs)), bytes_in (kept_before (before_end (map (λ (x : Char). x.c) xs)) (from_end (map (λ (x : Char). x.c) xs)))) ∷ []
end_is_emitted xs = ends_from xs [] refl

bytes_within : (u rest : List ℕ) → bytes_in (kept_before u rest) ≤ length (encodes (kept_of u))
bytes_within u [] = omega arith
bytes_within u (c ∷ cs) =
    let s = trim_trims nabc refl (kept_of u) in
    let n = ap length (ap encodes s.cut ∙ encodes-append (trim nabc (kept_of u)) s.rest) in
    omega (arith, n, length-append (encodes (trim nabc (kept_of u))) (encodes s.rest))

-- with at most the bytes of the characters kept
pub end_within : (xs : List Char)
    → bytes_in (kept_before (before_end (map (λ (x : Char). x.c) xs)) (from_end (map (λ (x : Char). x.c) xs))) ≤ length (encodes (kept_in (concat_of (nabc_events xs))))
end_within xs = grind (arith, bytes_within, emitted_kept)
