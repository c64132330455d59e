-- What is gathered of a stage's events is what the definition says of the text.
use Rattle.std.proofs.Common.{arith, ◌≡◌, ℕ, ◌+◌, ◌<◌, List, [], ◌∷◌, ◌++◌, Bool, true, false, cond, refl, sym, ap, ◌∙◌, append-nil, length, take, get_or, Some}
use Rattle.std.proofs.lemmas.List.{take_more}
use Rattle.std.proofs.lemmas.Str.{encodes-append}
use lib.Utf8.{encode, encodes}
use Rattle.gabc_places.specs.declared.code.Code.TheVariants.{W7}
use Rattle.gabc_places.specs.declared.code.Finding.{Finding}
use Rattle.gabc_places.specs.declared.place.Char.{Char}
use Rattle.gabc_notes.specs.declared.stage.NoteEvent.{NoteEvent}
use Rattle.gabc_notes.specs.declared.stage.NoteEvent.TheVariants.{Kept}
use Rattle.gabc_patterns.specs.Derivative.{is_viable}
use Rattle.gabc_patterns.specs.Function.{trim}
use Rattle.gabc_nabc.specs.Table.{nabc}
use Rattle.gabc_nabc.specs.Events.{is_character, is_end, has_end, kept_of, bytes_in, events_at}
use Rattle.gabc_notes.specs.Events.{finding_event, end_by_mark}
use Rattle.gabc_notes.specs.SnippetRead.{findings_of}
use Rattle.gabc_nabc.specs.machine.BuiltNabc.{BuiltNabc, with_event, with_events}
use Rattle.gabc_nabc.proofs.machine.TextWithACharacterMore.{kept_more, kept_same}

-- ---- events one after another

with_append : (g : BuiltNabc) (xs ys : List NoteEvent) → with_events g (xs ++ ys) ≡ with_events (with_events g xs) ys
with_append g [] ys = refl
with_append g (x ∷ xs) ys = with_append (with_event g x) xs ys

-- one event more of a list
pub with_more : (first now new : BuiltNabc) (xs : List NoteEvent) (i : ℕ) (d : NoteEvent) → i < length xs
    → now ≡ with_events first (take i xs) → new ≡ with_event now (get_or xs i d) → new ≡ with_events first (take (i + 1) xs)
with_more first now new xs i d h f g =
    g ∙ ap (λ (t : BuiltNabc). with_event t (get_or xs i d)) f ∙ sym (with_append first (take i xs) (get_or xs i d ∷ []))
    ∙ ap (with_events first) (sym (take_more xs i d h))

-- ---- one character

-- at the end
pub gathers_end : (g : BuiltNabc) (t : List ℕ) (x : Char) → has_end t ≡ false → is_end t x.c ≡ true
    → with_events g (events_at t x) ≡ record g { findings = g.findings ++ findings_of (events_at t x); end = Some (end_by_mark x.c, bytes_in (trim nabc (kept_of t))) }
gathers_end g t x e f = grind (arith, append-nil)

-- before it
pub gathers_on : (g : BuiltNabc) (t : List ℕ) (x : Char) → has_end t ≡ false → is_end t x.c ≡ false → g.kept ≡ encodes (kept_of t)
    → with_events g (events_at t x) ≡ record g { kept = encodes (kept_of (t ++ x.c ∷ [])); findings = g.findings ++ findings_of (events_at t x) }
gathers_on g t x e f k = by (is_character t x.c) (is_viable nabc (kept_of t ++ x.c ∷ [])) refl refl
  where
    same : {fs : List Finding} → kept_of (t ++ x.c ∷ []) ≡ kept_of t → record g { findings = fs } ≡ record g { kept = encodes (kept_of (t ++ x.c ∷ [])); findings = fs }
    same {fs} h = ap (λ (l : List ℕ). record g { kept = l; findings = fs }) (k ∙ ap encodes (sym h))

    more : {fs : List Finding} → kept_of (t ++ x.c ∷ []) ≡ kept_of t ++ x.c ∷ [] → record g { kept = g.kept ++ encode x.c; findings = fs } ≡ record g { kept = encodes (kept_of (t ++ x.c ∷ [])); findings = fs }
    more {fs} h =
        ap (λ (l : List ℕ). record g { kept = l; findings = fs })
        (ap (λ (l : List ℕ). l ++ encode x.c) k ∙ (ap (λ (l : List ℕ). encodes (kept_of t) ++ l) (sym (append-nil (encode x.c))) ∙ (sym (encodes-append (kept_of t) (x.c ∷ [])) ∙ ap encodes (sym h))))

    warned : (b : Bool) → kept_of (t ++ x.c ∷ []) ≡ kept_of t ++ x.c ∷ []
        → with_events g (Kept x ∷ cond b (finding_event x.place W7 ∷ []) []) ≡ record g { kept = encodes (kept_of (t ++ x.c ∷ [])); findings = g.findings ++ findings_of (Kept x ∷ cond b (finding_event x.place W7 ∷ []) []) }
    warned true h = more h
    warned false h = ap (λ (l : List Finding). record g { kept = g.kept ++ encode x.c; findings = l }) (sym (append-nil g.findings)) ∙ more h

    by : (a b : Bool) → is_character t x.c ≡ a → is_viable nabc (kept_of t ++ x.c ∷ []) ≡ b
        → with_events g (events_at t x) ≡ record g { kept = encodes (kept_of (t ++ x.c ∷ [])); findings = g.findings ++ findings_of (events_at t x) }
    by a b h i = grind (arith, append-nil, same, kept_same, kept_more, warned)
