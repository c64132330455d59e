-- What a snippet of GABC emits through its end.
use Rattle.std.proofs.Common.{append_assoc, reverse, ◌≡◌, ◌⊎◌, inl, inr, ℕ, ◌==◌, ◌&&◌, ◌||◌, not, Bool, true, false, cond, if◌then◌else◌, List, [], ◌∷◌, ◌++◌, refl, sym, ap, ◌∙◌, arith}
use Rattle.std.proofs.lemmas.Grind.{reverse_onto}
use Rattle.std.proofs.lemmas.Bool.{and_parts, cond_both}
use Rattle.gabc_places.specs.declared.place.Char.{Char}
use Rattle.gabc_places.specs.declared.code.Code.TheVariants.{E1, E6, W8, W10}
use Rattle.gabc_patterns.specs.Derivative.{is_snippet, is_viable}
use Rattle.gabc_patterns.specs.Function.{trim}
use Rattle.gabc_patterns.proofs.FunctionsMeetRelations.{keep_append}
use Rattle.gabc_notes.specs.Table.{gabc}
use Rattle.gabc_notes.specs.declared.stage.NoteEvent.{NoteEvent}
use Rattle.gabc_notes.specs.declared.stage.NoteEvent.TheVariants as note
use Rattle.gabc_notes.specs.SnippetRead.{kept_of, ends_of}
use Rattle.gabc_notes.specs.Events.{is_in_raw, Point, in_raw, kept, is_comment, is_end, is_over, is_fused, is_unpaired, is_missing, item_at, macro_of, opener, finding_event, end_by_mark, bytes_of, warnings, at_end, cut_events, events_at, note_events_after}
use Rattle.gabc_notes.specs.Ends.{IsMarkOf}
use Rattle.gabc_body.proofs.snippets_of_body.GrammarEmitsThroughEnd.{Goes, Stops, Cuts, mark_is, Grammar, lists, run, few_one, keeps_none}

abbrev point : List Char → Char → Point
point back x = record { back = back; here = x }

-- ---- what is kept

kept_by : (back : List Char) (x : Char) (comment viable : Bool) → is_comment (point back x) ≡ comment → is_viable gabc (kept back ++ x.c ∷ []) ≡ viable
    → kept (x ∷ back) ≡ cond comment (kept back) (cond viable (kept back ++ x.c ∷ []) (kept back))
kept_by back x comment viable c v = grind (arith, keep_append)

over_on : (split : Bool) (back : List Char) (x : Char) → is_end split (point back x) ≡ false → is_over split back ≡ false → is_over split (x ∷ back) ≡ false
over_on split back x e h = ap (λ b. b || is_over split back) e ∙ h

-- ---- what is emitted

is_mark_of : (split : Bool) (back : List Char) (x : Char) → is_end split (point back x) ≡ true → IsMarkOf split (end_by_mark x.c) x.c
is_mark_of split back x h = mark_is x.c split (and_parts (not (is_in_raw (point back x))) ((x.c == 41) || (split && (x.c == 124))) (and_parts (not (is_comment (point back x))) (not (is_in_raw (point back x)) && ((x.c == 41) || (split && (x.c == 124)))) h).1).1

-- only findings
abbrev OnlyFinds : List NoteEvent → Type 0
OnlyFinds events = (ends_of events ≡ []) × (kept_of events ≡ [])

warnings_find : (macros : ℕ) (p : Point) → OnlyFinds (warnings macros p)
warnings_find macros p = by (is_unpaired p) (is_missing macros (macro_of (item_at p)))
  where
    by : (a b : Bool) → OnlyFinds ((if a then finding_event p.here.place W10 ∷ [] else []) ++ (if b then finding_event (opener p.back) W8 ∷ [] else []))
    by true true = (refl, refl)
    by true false = (refl, refl)
    by false true = (refl, refl)
    by false false = (refl, refl)

end_stops : (split : Bool) (back : List Char) (x : Char) → IsMarkOf split (end_by_mark x.c) x.c → Stops split (bytes_of (trim gabc (kept back))) x.c (at_end (point back x))
end_stops split back x m = by (is_snippet gabc (kept back)) (is_fused back)
  where
    by : (a b : Bool) → Stops split (bytes_of (trim gabc (kept back))) x.c
        ((if a then [] else finding_event x.place E6 ∷ []) ++ ((if b then finding_event x.place W10 ∷ [] else []) ++ note.Ended (end_by_mark x.c) (bytes_of (trim gabc (kept back))) ∷ []))
    by true true = record { mids = finding_event x.place W10 ∷ []; how = end_by_mark x.c; events_are = refl; silent = refl; none = refl; is_mark = m }
    by true false = record { mids = []; how = end_by_mark x.c; events_are = refl; silent = refl; none = refl; is_mark = m }
    by false true = record { mids = finding_event x.place E6 ∷ finding_event x.place W10 ∷ []; how = end_by_mark x.c; events_are = refl; silent = refl; none = refl; is_mark = m }
    by false false = record { mids = finding_event x.place E6 ∷ []; how = end_by_mark x.c; events_are = refl; silent = refl; none = refl; is_mark = m }

module _ (split : Bool) (macros : ℕ) where
  abbrev Running : List Char → Type 0
  Running back = is_over split back ≡ false

  abbrev said_of : List Char → Char → List NoteEvent
  said_of back x = events_at split macros (point back x)

  abbrev next_of : List Char → Char → List Char
  next_of back x = x ∷ back

  abbrev GoesOn : List Char → Char → List NoteEvent → Type 0
  GoesOn back x events = Goes Running (λ (b : List Char). kept b) next_of back x events

  -- what is emitted, by what the character is
  abbrev said_by : List Char → Char → Bool → Bool → Bool → Bool → List NoteEvent
  said_by back x over end comment keeps =
      if over then [] else
      if end then at_end (point back x) else
      if comment then [] else
      if keeps then note.Kept x ∷ warnings macros (point back x) else finding_event x.place E1 ∷ []

  pub goes_by : (back : List Char) (x : Char) (over end comment viable : Bool)
      → is_over split back ≡ over → is_end split (point back x) ≡ end → is_comment (point back x) ≡ comment → is_viable gabc (kept back ++ x.c ∷ []) ≡ viable → Running back
      → GoesOn back x (said_by back x over end comment (not comment && viable)) ⊎ Stops split (bytes_of (trim gabc (kept back))) x.c (said_by back x over end comment (not comment && viable))
  goes_by back x true end comment viable o e c v r = absurd (cc)
  goes_by back x false true comment viable o e c v r = inr (end_stops split back x (is_mark_of split back x e))
  goes_by back x false false true viable o e c v r = inl (keeps_none refl refl (kept_by back x true viable c v) (over_on split back x e r))
  goes_by back x false false false true o e c v r = let w = warnings_find macros (point back x) in inl (record {
    silent = w.0;
    kept_is = kept_by back x false true c v ∙ ap (λ ks. kept back ++ x.c ∷ ks) (sym w.1);
    few = few_one x (kept_of (warnings macros (point back x))) w.1;
    runs = over_on split back x e r;
  })
  goes_by back x false false false false o e c v r = inl (keeps_none refl refl (kept_by back x false false c v) (over_on split back x e r))

  pub cuts_gabc : (back : List Char) → Running back → Cuts (cut_events split back)
  cuts_gabc back r = cond_both (is_over split back) [] _ Cuts (λ e. absurd (cc)) (λ e. record { place = if in_raw (kept back) then opener back else record { line = 0; column = 0 }; count = bytes_of (kept back); events_are = refl })

  abbrev pub gabc_grammar : Grammar (List Char)
  gabc_grammar = record {
    splits = split;
    Running = Running;
    emitted_at = said_of;
    cut = λ back. cut_events split back;
    next = next_of;
    kept = λ back. kept back;
    count = λ ks. bytes_of (trim gabc ks);
    goes = λ back x r. goes_by back x (is_over split back) (is_end split (point back x)) (is_comment (point back x)) (is_viable gabc (kept back ++ x.c ∷ [])) refl refl refl refl r;
    cuts = cuts_gabc;
  }

  pub emits_lists : (back xs : List Char) → note_events_after split macros back xs ≡ lists gabc_grammar back xs
  emits_lists back [] = refl
  emits_lists back (x ∷ xs) = ap (λ ls. said_of back x ∷ ls) (emits_lists (x ∷ back) xs)

  -- the state after characters
  pub run_gabc : (back xs : List Char) → run gabc_grammar back xs ≡ reverse xs ++ back
  run_gabc back [] = refl
  run_gabc back (x ∷ xs) = run_gabc (x ∷ back) xs ∙ sym (append_assoc (reverse xs) (x ∷ []) back) ∙ ap (λ ys. ys ++ back) (sym (reverse_onto xs x []))
