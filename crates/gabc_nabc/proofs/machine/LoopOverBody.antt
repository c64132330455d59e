-- The loop over a text's characters, and its end.
use Rattle.std.proofs.Common.{◌≡◌, ℕ, ◌+◌, ◌^◌, ◌<◌, ◌≤◌, List, [], ◌∷◌, ◌++◌, Bool, true, false, cond, ◌||◌, refl, sym, ap, ◌∙◌, subst, arith, append_assoc, append-nil, length, length-append, take, drop, ◌==◌, Option, Some, None, IsUtf8}
use Rattle.std.specs.Str.{IsCharBoundary}
use Rattle.std.specs.Char.{len_utf8}
use Rattle.std.proofs.lemmas.List.{drop_all}
use Rattle.std.proofs.Math.Seq.{take-append_seam, drop-append_seam}
use Rattle.std.proofs.lemmas.Str.{encodes-append, length-encode, chars_from_encodes, scalars-chars, IsCharBoundary-at_seam}
use lib.Utf8.{encode, encodes, scalars}
use Rattle.gabc_notes.proofs.machine.LoopOverBody.{findings_append}
use Rattle.gabc_places.proofs.texts.CharactersOfStrings.{scalars_split}
use Rattle.gabc_places.specs.declared.code.Finding.{Finding}
use Rattle.gabc_places.specs.declared.place.Char.{Char}
use Rattle.gabc_places.specs.declared.place.Place.{Place}
use Rattle.gabc_places.specs.Place.{next_place, placed_characters_from}
use Rattle.gabc_places.specs.StageLaw.{concat_of}
use Rattle.gabc_notes.specs.declared.snippet_read.SnippetEnding.{SnippetEnding}
use Rattle.gabc_notes.specs.declared.snippet_read.SnippetEnding.TheVariants as snippet_ending
use Rattle.gabc_notes.specs.declared.stage.NoteEnd.{NoteEnd}
use Rattle.gabc_notes.specs.declared.stage.NoteEnd.TheVariants as ending
use Rattle.gabc_notes.specs.declared.stage.NoteEvent.{NoteEvent}
use Rattle.gabc_patterns.specs.Derivative.{is_viable}
use Rattle.gabc_patterns.specs.Function.{trim, keep_from}
use Rattle.gabc_patterns.proofs.FunctionsMeetRelations.{trim_trims}
use Rattle.gabc_nabc.specs.Table.{nabc}
use Rattle.gabc_nabc.specs.Events.{is_end, has_end, characters_after, kept_of, bytes_in, events_at, nabc_events_after, nabc_events}
use Rattle.gabc_notes.specs.Events.{end_by_mark}
use Rattle.gabc_notes.specs.SnippetRead.{findings_of, ending_at}
use Rattle.gabc_nabc.specs.SnippetRead.{before_end_after, before_end, from_end, kept_before, ending_past}
use Rattle.gabc_nabc.specs.witness.DescriptorMachine.{stage_events_at, stage_after, events_left, events_of_cut}
use Rattle.gabc_nabc.specs.machine.BuiltNabc.{BuiltNabc, with_events}
use Rattle.gabc_nabc.specs.declared.stage.NabcStage.{NabcStage}
use Rattle.gabc_nabc.proofs.machine.TextWithACharacterMore.{end_more}
use Rattle.gabc_nabc.proofs.machine.EventsBuildSnippet.{gathers_end, gathers_on}

-- ---- the kept text is no longer than the text

none_longer : (c : ℕ) (cs : List ℕ) → length (encodes (c ∷ cs)) ≡ len_utf8 c + length (encodes cs)
none_longer c cs = length-append (encode c) (encodes cs) ∙ ap (λ (n : ℕ). n + length (encodes cs)) (length-encode c)

characters_short : (s cs : List ℕ) → length (encodes (characters_after s cs)) ≤ length (encodes cs)
characters_short s [] = omega arith
characters_short s (c ∷ cs) = grind (arith, none_longer, characters_short (s ++ c ∷ []) cs)

keep_short : (kept cs : List ℕ) → length (encodes (keep_from nabc kept cs)) ≤ length (encodes kept) + length (encodes cs)
keep_short kept [] = omega arith
keep_short kept (c ∷ cs) = go (is_viable nabc (kept ++ c ∷ [])) (λ u. keep_short u cs)
  where
    go : (b : Bool) → ((u : List ℕ) → length (encodes (keep_from nabc u cs)) ≤ length (encodes u) + length (encodes cs))
        → length (encodes (keep_from nabc (cond b (kept ++ c ∷ []) kept) cs)) ≤ length (encodes kept) + length (encodes (c ∷ cs))
    go b h = grind (arith, encodes-append, length-append, none_longer)

kept_short : (t : List ℕ) → length (encodes (kept_of t)) ≤ length (encodes t)
kept_short t = omega (arith, keep_short [] (characters_after [] t), characters_short [] t)

-- ---- after the end nothing is emitted

quiet : (t : List ℕ) (xs : List Char) → has_end t ≡ true → findings_of (concat_of (nabc_events_after t xs)) ≡ []
quiet t [] e = rw e refl
quiet t (x ∷ xs) e = cc (quiet (t ++ x.c ∷ []) xs (end_more t x.c ∙ ap (λ (b : Bool). b || is_end t x.c) e))

-- ---- the loop

-- Of the text t, whose first character stands at that place, the characters done are read, and rest is not.
pub record Reaches (at : Place) (t done rest : List ℕ) (place : Place) (st : NabcStage) (g : BuiltNabc) (index : ℕ) : Type 0 where
  pub cut : done ++ rest ≡ t
  pub follows : (xs : List Char) → events_left st xs ≡ nabc_events_after done xs
  pub unended : has_end done ≡ false
  pub kept : g.kept ≡ encodes (kept_of done)
  pub opened : g.end ≡ None
  pub findings : g.findings ++ findings_of (concat_of (nabc_events_after done (placed_characters_from place rest))) ≡ findings_of (concat_of (nabc_events (placed_characters_from at t)))
  pub prefix : before_end t ≡ done ++ before_end_after done rest
  pub counted : index ≡ length (encodes done)

abbrev first_list : List (List NoteEvent) → List NoteEvent
first_list [] = []
first_list (l ∷ ls) = l

abbrev other_lists : List (List NoteEvent) → List (List NoteEvent)
other_lists [] = []
other_lists (l ∷ ls) = ls

-- what a character gives is what is emitted of it
events_here : (done : List ℕ) (st : NabcStage) (x : Char) → ((xs : List Char) → events_left st xs ≡ nabc_events_after done xs) → stage_events_at st x ≡ events_at done x
events_here done st x h = ap first_list (h (x ∷ []))

findings_on : (g now : BuiltNabc) (done cs : List ℕ) (x : Char) → now.findings ≡ g.findings ++ findings_of (events_at done x)
    → now.findings ++ findings_of (concat_of (nabc_events_after (done ++ x.c ∷ []) (placed_characters_from (next_place x.place x.c) cs)))
    ≡ g.findings ++ findings_of (concat_of (nabc_events_after done (x ∷ placed_characters_from (next_place x.place x.c) cs)))
findings_on g now done cs x e = grind (arith, append_assoc, findings_append)

-- a character that does not end the snippet
pub goes_on : (at : Place) (t done cs : List ℕ) (place then : Place) (c : ℕ) (st next : NabcStage) (g now : BuiltNabc) (index later : ℕ)
    → Reaches at t done (c ∷ cs) place st g index → next ≡ stage_after st c → now ≡ with_events g (stage_events_at st (record { c = c; place = place }))
    → now.end ≡ None → then ≡ next_place place c → later ≡ index + len_utf8 c
    → Reaches at t (done ++ c ∷ []) cs then next now later
goes_on at t done cs place then c st next g now index later r e f n p i = go (is_end done c) refl
  where
    x : Char
    x = record { c = c; place = place }

    events_now : now ≡ with_events g (events_at done x)
    events_now = f ∙ ap (with_events g) (events_here done st x r.follows)

    go : (b : Bool) → is_end done c ≡ b → Reaches at t (done ++ c ∷ []) cs then next now later
    go true h = absurd (let k = sym n ∙ ap (λ (y : BuiltNabc). y.end) (events_now ∙ gathers_end g done x r.unended h) in cc)
    go false h =
        let on : now ≡ record g { kept = encodes (kept_of (done ++ c ∷ [])); findings = g.findings ++ findings_of (events_at done x) } = events_now ∙ gathers_on g done x r.unended h r.kept in
        let bytes = ap length (encodes-append done (c ∷ [])) in
        let before = r.counted in
        rw p (record {
          cut = append_assoc done (c ∷ []) cs ∙ r.cut;
          follows = λ xs. ap (λ (s : NabcStage). events_left s xs) e ∙ ap other_lists (r.follows (x ∷ xs));
          unended = end_more done c ∙ rw (r.unended, h) refl;
          kept = ap (λ (y : BuiltNabc). y.kept) on;
          opened = n;
          findings = findings_on g now done cs x (ap (λ (y : BuiltNabc). y.findings) on) ∙ r.findings;
          prefix = r.prefix ∙ (ap (λ (b : Bool). done ++ cond b [] (c ∷ before_end_after (done ++ c ∷ []) cs)) h ∙ sym (append_assoc done (c ∷ []) (before_end_after (done ++ c ∷ []) cs)));
          counted = omega (arith, i, before, bytes, length-append (encodes done) (encodes (c ∷ [])), none_longer c []);
        })

-- the bytes of a character fit
pub fits : (at : Place) (t done cs : List ℕ) (place : Place) (c : ℕ) (st : NabcStage) (g : BuiltNabc) (index : ℕ) → Reaches at t done (c ∷ cs) place st g index
    → index + len_utf8 c + length (encodes cs) ≡ length (encodes t)
fits at t done cs place c st g index r = grind (arith, encodes-append, length-append, none_longer)

-- the place of the next character fits
pub place_fits : (p next : Place) (c n m k : ℕ) → p.line + n < 2 ^ 64 → p.column + n < 2 ^ 64 → n ≡ k + m → 1 ≤ k → next ≡ next_place p c
    → (next.line + m < 2 ^ 64) × (next.column + m < 2 ^ 64)
place_fits p next c n m k l h e f g = grind arith

-- What is known at the end of the snippet.
pub record Ends (at : Place) (t kept : List ℕ) (found : List Finding) (way : SnippetEnding) : Type 0 where
  pub kept_is : kept ≡ encodes (kept_before (before_end t) (from_end t))
  pub findings_are : found ≡ findings_of (concat_of (nabc_events (placed_characters_from at t)))
  pub how_is : way ≡ ending_past (before_end t) (from_end t)

-- the end of the text
pub cut_open : (at : Place) (t done : List ℕ) (place : Place) (st : NabcStage) (g now : BuiltNabc) (index : ℕ) → Reaches at t done [] place st g index
    → now ≡ with_events g (events_of_cut st) → Ends at t now.kept now.findings (snippet_ending.Cut (record { line = 0; column = 0 }))
cut_open at t done place st g now index r f = grind (arith, append-nil, drop_all)

abbrev way_of : Option (NoteEnd × ℕ) → NoteEnd
way_of None = ending.Close
way_of (Some p) = p.0

abbrev bytes_emitted : Option (NoteEnd × ℕ) → ℕ
bytes_emitted None = 0
bytes_emitted (Some p) = p.1

-- the kept text up to its longest prefix that is a snippet
trimmed : (u bytes : List ℕ) (len : ℕ) → bytes ≡ encodes u → scalars u ≡ true → len ≡ bytes_in (trim nabc u) → length (encodes u) < 2 ^ 64
    → (take len bytes ≡ encodes (trim nabc u)) × IsCharBoundary bytes len
trimmed u bytes len e good l small =
    let s = trim_trims nabc refl u in
    let a : List ℕ = trim nabc u in
    let b : List ℕ = s.rest in
    let cut : bytes ≡ encodes a ++ encodes b = e ∙ (ap encodes s.cut ∙ encodes-append a b) in
    let n : length (encodes a) ≡ len = (let m = ap length (sym e ∙ cut) in omega (arith, l, m, small, length-append (encodes a) (encodes b))) in
    let all : scalars (a ++ b) ≡ true = ap scalars (sym s.cut) ∙ good in (
      ap (λ (k : ℕ). take k bytes) (sym n) ∙ (ap (take (length (encodes a))) cut ∙ take-append_seam (encodes a) (encodes b)),
      subst (IsCharBoundary bytes) n (IsCharBoundary-at_seam bytes (encodes a) (encodes b) cut (b, ((scalars_split a b all).1, refl))),
    )

-- the character that ends it
pub ends : (at : Place) (t done cs : List ℕ) (place : Place) (c : ℕ) (st : NabcStage) (g now : BuiltNabc) (index len : ℕ) (end : NoteEnd)
    → Reaches at t done (c ∷ cs) place st g index → now ≡ with_events g (stage_events_at st (record { c = c; place = place })) → now.end ≡ Some (end, len)
    → IsUtf8 now.kept → length (encodes t) < 2 ^ 64
    → IsCharBoundary now.kept len × Ends at t (take len now.kept) now.findings (ending_at end index)
ends at t done cs place c st g now index len end r f n u small = go (is_end done c) refl
  where
    x : Char
    x = record { c = c; place = place }

    events_now : now ≡ with_events g (events_at done x)
    events_now = f ∙ ap (with_events g) (events_here done st x r.follows)

    way_same : (b : Bool) → (c == 124) ≡ b → ending_at (cond b ending.Next ending.Close) index ≡ cond b (snippet_ending.Next (length (encodes done))) (snippet_ending.Close (length (encodes done)))
    way_same b h = grind arith

    go : (b : Bool) → is_end done c ≡ b → IsCharBoundary now.kept len × Ends at t (take len now.kept) now.findings (ending_at end index)
    go false h = absurd (let k = sym r.opened ∙ (sym (ap (λ (y : BuiltNabc). y.end) (events_now ∙ gathers_on g done x r.unended h r.kept)) ∙ n) in cc)
    go true h =
        let on : now ≡ record g { findings = g.findings ++ findings_of (events_at done x); end = Some (end_by_mark c, bytes_in (trim nabc (kept_of done))) } = events_now ∙ gathers_end g done x r.unended h in
        let prefix : before_end t ≡ done = r.prefix ∙ (ap (λ (b : Bool). done ++ cond b [] (c ∷ before_end_after (done ++ c ∷ []) cs)) h ∙ append-nil done) in
        let from : from_end t ≡ c ∷ cs = ap (λ (v : List ℕ). drop (length v) t) prefix ∙ (ap (drop (length done)) (sym r.cut) ∙ drop-append_seam done (c ∷ cs)) in
        let kept : now.kept ≡ encodes (kept_of done) = ap (λ (y : BuiltNabc). y.kept) on ∙ r.kept in
        let few : length (encodes (kept_of done)) < 2 ^ 64 = (let i = fits at t done cs place c st g index r in let d : index ≡ length (encodes done) = r.counted in omega (arith, i, d, small, kept_short done)) in
        let good : scalars (kept_of done) ≡ true = ap scalars (chars_from_encodes (kept_of done) now.kept u (sym kept)) ∙ scalars-chars now.kept u in
        let both : Some (end, len) ≡ Some (end_by_mark c, bytes_in (trim nabc (kept_of done))) = sym n ∙ ap (λ (y : BuiltNabc). y.end) on in
        let cut = trimmed (kept_of done) now.kept len kept good (ap bytes_emitted both) few in
        let later : findings_of (concat_of (nabc_events_after (done ++ c ∷ []) (placed_characters_from (next_place place c) cs))) ≡ [] = quiet (done ++ c ∷ []) (placed_characters_from (next_place place c) cs) (end_more done c ∙ rw (r.unended, h) refl) in (
          cut.1,
          record {
            kept_is = cut.0 ∙ rw (from, prefix) refl;
            findings_are = sym (append-nil now.findings) ∙ (ap (λ (l : List Finding). now.findings ++ l) (sym later) ∙ (findings_on g now done cs x (ap (λ (y : BuiltNabc). y.findings) on) ∙ r.findings));
            how_is = ap (λ (w : NoteEnd). ending_at w index) (ap way_of both) ∙ (way_same (c == 124) refl ∙ rw (from, prefix) refl);
          },
        )
