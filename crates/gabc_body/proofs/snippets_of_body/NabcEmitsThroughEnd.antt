-- What a snippet of NABC emits through its end.
use Rattle.std.proofs.Common.{not, ◌≡◌, ◌⊎◌, inl, inr, ℕ, ◌==◌, ◌||◌, Bool, true, false, if◌then◌else◌, List, [], ◌∷◌, ◌++◌, refl, sym, ap, ◌∙◌, append_assoc, append-nil, arith}
use Rattle.std.proofs.Math.Bool.{or-false, or_assoc}
use Rattle.std.proofs.lemmas.Bool.{and_parts, cond_both}
use Rattle.gabc_places.specs.declared.place.Char.{Char}
use Rattle.gabc_places.specs.declared.code.Code.TheVariants.{E3, E6, W7}
use Rattle.gabc_patterns.specs.Derivative.{is_snippet, is_viable}
use Rattle.gabc_patterns.specs.Function.{trim}
use Rattle.gabc_patterns.proofs.FunctionsMeetRelations.{keep_append}
use Rattle.gabc_text.specs.Events.{codes_of}
use Rattle.gabc_nabc.specs.Table.{nabc}
use Rattle.gabc_nabc.specs.Events.{in_comment, is_character, is_end, characters_after, has_end_after, has_end, kept_of, bytes_in, first_of, is_missing, end_events, events_at, cut_events, nabc_events_after}
use Rattle.gabc_notes.specs.Events.{finding_event, end_by_mark}
use Rattle.gabc_notes.specs.declared.stage.NoteEvent.{NoteEvent}
use Rattle.gabc_notes.specs.declared.stage.NoteEvent.TheVariants as note
use Rattle.gabc_notes.specs.SnippetRead.{kept_of as kept_in, ends_of}
use Rattle.gabc_notes.specs.Ends.{IsMarkOf}
use Rattle.gabc_body.proofs.snippets_of_body.GrammarEmitsThroughEnd.{Goes, Stops, Cuts, mark_is, Grammar, lists, run, few_one, keeps_none}

-- ---- one character more

end_more : (prefix t : List ℕ) (c : ℕ) → has_end_after prefix (t ++ c ∷ []) ≡ (has_end_after prefix t || is_end (prefix ++ t) c)
end_more prefix [] c = or-false (is_end prefix c) ∙ ap (λ s. is_end s c) (sym (append-nil prefix))
end_more prefix (d ∷ t) c = grind (arith, end_more (prefix ++ d ∷ []) t c, append_assoc, or_assoc)

abbrev one_if : Bool → ℕ → List ℕ
one_if b c = if b then c ∷ [] else []

after_if : (b : Bool) (c : ℕ) (s t : List ℕ) → (if b then c ∷ (s ++ t) else s ++ t) ≡ (if b then c ∷ s else s) ++ t
after_if b c s t = grind arith

characters_more : (prefix t : List ℕ) (c : ℕ) → characters_after prefix (t ++ c ∷ []) ≡ characters_after prefix t ++ one_if (is_character (prefix ++ t) c) c
characters_more prefix [] c = ap (λ s. one_if (is_character s c) c) (sym (append-nil prefix))
characters_more prefix (d ∷ t) c = grind (arith, characters_more (prefix ++ d ∷ []) t c, append_assoc, after_if)

kept_by : (t : List ℕ) (c : ℕ) (character viable : Bool) → is_character t c ≡ character → is_viable nabc (kept_of t ++ c ∷ []) ≡ viable
    → kept_of (t ++ c ∷ []) ≡ (if character then (if viable then kept_of t ++ c ∷ [] else kept_of t) else kept_of t)
kept_by t c character viable h v = grind (arith, characters_more, keep_append, append-nil)

-- ---- what is emitted

abbrev pub Running : List ℕ → Type 0
Running t = has_end t ≡ false

abbrev pub next_of : List ℕ → Char → List ℕ
next_of t x = t ++ x.c ∷ []

runs_on : (t : List ℕ) (x : Char) → is_end t x.c ≡ false → Running t → Running (next_of t x)
runs_on t x e r = end_more [] t x.c ∙ ap (λ b. b || is_end t x.c) r ∙ e

is_mark_of : (t : List ℕ) (c : ℕ) → is_end t c ≡ true → IsMarkOf true (end_by_mark c) c
is_mark_of t c h = mark_is c true (and_parts (not (in_comment t)) ((c == 41) || (c == 124)) h).1

end_stops : (t : List ℕ) (x : Char) → IsMarkOf true (end_by_mark x.c) x.c → Stops true (bytes_in (trim nabc (kept_of t))) x.c (end_events (kept_of t) x)
end_stops t x m =
    cond_both (is_snippet nabc (kept_of t)) [] _ (λ (found : List NoteEvent). Stops true (bytes_in (trim nabc (kept_of t))) x.c (found ++ note.Ended (end_by_mark x.c) (bytes_in (trim nabc (kept_of t))) ∷ []))
    (λ e. record { mids = []; how = end_by_mark x.c; events_are = refl; silent = refl; none = refl; is_mark = m })
    (λ e. record { mids = finding_event x.place E6 ∷ []; how = end_by_mark x.c; events_are = refl; silent = refl; none = refl; is_mark = m })

abbrev pub GoesOn : List ℕ → Char → List NoteEvent → Type 0
GoesOn t x events = Goes Running (λ (s : List ℕ). kept_of s) next_of t x events

abbrev said_by : List ℕ → Char → Bool → Bool → Bool → Bool → Bool → List NoteEvent
said_by t x over end character viable missing =
    if over then [] else
    if end then end_events (kept_of t) x else
    if character then (if viable then note.Kept x ∷ (if missing then finding_event x.place W7 ∷ [] else []) else finding_event x.place E3 ∷ []) else []

warning_keeps : (x : Char) (missing : Bool) → (ends_of (if missing then finding_event x.place W7 ∷ [] else []) ≡ []) × (kept_in (if missing then finding_event x.place W7 ∷ [] else []) ≡ [])
warning_keeps x missing = cond_both missing _ [] (λ (events : List NoteEvent). (ends_of events ≡ []) × (kept_in events ≡ [])) (λ e. (refl, refl)) (λ e. (refl, refl))

goes_by : (t : List ℕ) (x : Char) (over end character viable missing : Bool)
    → has_end t ≡ over → is_end t x.c ≡ end → is_character t x.c ≡ character → is_viable nabc (kept_of t ++ x.c ∷ []) ≡ viable → Running t
    → GoesOn t x (said_by t x over end character viable missing) ⊎ Stops true (bytes_in (trim nabc (kept_of t))) x.c (said_by t x over end character viable missing)
goes_by t x true end character viable missing o e c v r = absurd (cc)
goes_by t x false true character viable missing o e c v r = inr (end_stops t x (is_mark_of t x.c e))
goes_by t x false false false viable missing o e c v r = inl (keeps_none refl refl (kept_by t x.c false viable c v) (runs_on t x e r))
goes_by t x false false true true missing o e c v r = let w = warning_keeps x missing in inl (record {
  silent = w.0;
  kept_is = kept_by t x.c true true c v ∙ ap (λ ks. kept_of t ++ x.c ∷ ks) (sym w.1);
  few = few_one x (kept_in (if missing then finding_event x.place W7 ∷ [] else [])) w.1;
  runs = runs_on t x e r;
})
goes_by t x false false true false missing o e c v r = inl (keeps_none refl refl (kept_by t x.c true false c v) (runs_on t x e r))

pub goes_nabc : (t : List ℕ) (x : Char) → Running t → GoesOn t x (events_at t x) ⊎ Stops true (bytes_in (trim nabc (kept_of t))) x.c (events_at t x)
goes_nabc t x r = goes_by t x (has_end t) (is_end t x.c) (is_character t x.c) (is_viable nabc (kept_of t ++ x.c ∷ [])) (is_missing (first_of (kept_of t)) x.c) refl refl refl refl r

pub cuts_nabc : (t : List ℕ) → Running t → Cuts (cut_events t)
cuts_nabc t r = cond_both (has_end t) [] _ Cuts (λ e. absurd (cc)) (λ e. record { place = record { line = 0; column = 0 }; count = bytes_in (kept_of t); events_are = refl })

abbrev pub nabc_grammar : Grammar (List ℕ)
nabc_grammar = record {
  splits = true;
  Running = Running;
  emitted_at = λ t x. events_at t x;
  cut = λ t. cut_events t;
  next = next_of;
  kept = λ t. kept_of t;
  count = λ ks. bytes_in (trim nabc ks);
  goes = goes_nabc;
  cuts = cuts_nabc;
}

pub events_lists : (t : List ℕ) (xs : List Char) → nabc_events_after t xs ≡ lists nabc_grammar t xs
events_lists t [] = refl
events_lists t (x ∷ xs) = ap (λ ls. events_at t x ∷ ls) (events_lists (t ++ x.c ∷ []) xs)

-- the state after characters
pub run_nabc : (t : List ℕ) (xs : List Char) → run nabc_grammar t xs ≡ t ++ codes_of xs
run_nabc t [] = sym (append-nil t)
run_nabc t (x ∷ xs) = run_nabc (t ++ x.c ∷ []) xs ∙ append_assoc t (x.c ∷ []) (codes_of xs)
