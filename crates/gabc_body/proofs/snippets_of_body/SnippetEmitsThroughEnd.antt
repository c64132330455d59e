-- What a snippet of either grammar emits through its end.
use Rattle.std.proofs.Common.{reverse, append-nil, ◌≡◌, ℕ, zero, suc, ◌-◌, ◌<◌, ◌≤◌, ◌^◌, min, nat_lt, Bool, List, [], ◌∷◌, ◌++◌, map, refl, sym, ap, subst, ◌∙◌, arith, true}
use Rattle.gabc_places.proofs.NumbersByTests.{suc_eqb}
use Rattle.gabc_places.specs.StageLaw.{concat_of}
use Rattle.gabc_places.specs.declared.place.Place.{Place}
use Rattle.gabc_places.specs.declared.place.Char.{Char}
use Rattle.gabc_patterns.specs.LongestItems.{Table, IsSnippet}
use Rattle.gabc_patterns.specs.Function.{trim}
use Rattle.gabc_patterns.proofs.FunctionsMeetRelations.{trim_trims}
use Rattle.gabc_text.specs.Events.{codes_of}
use Rattle.gabc_notes.specs.Ends.{IsMarkOf}
use Rattle.gabc_notes.specs.Table.{gabc}
use Rattle.gabc_notes.specs.declared.stage.NoteEnd.{NoteEnd}
use Rattle.gabc_notes.specs.declared.stage.NoteEvent.{NoteEvent}
use Rattle.gabc_notes.specs.declared.stage.NoteEvent.TheVariants as note
use Rattle.gabc_notes.specs.SnippetRead.{kept_of, ends_of}
use Rattle.gabc_notes.specs.Events.{kept as gabc_kept, bytes_of, note_events}
use Rattle.gabc_nabc.specs.Table.{nabc}
use Rattle.gabc_nabc.specs.Events.{kept_of as nabc_kept, bytes_in}
use Rattle.gabc_body.specs.declared.events.BodyEvent.{BodyEvent}
use Rattle.gabc_body.specs.declared.events.BodyEvent.TheVariants.{Notes}
use Rattle.gabc_body.specs.Events.{InNotes, note_event, snippet_from}
use Rattle.gabc_body.specs.Units.{Mark, events_through, Endless, EndsAfter}
use Rattle.gabc_body.specs.Holding.{IsSnippetOf, kept_on_line}
use Rattle.gabc_body.proofs.texts_of_body.SeamsOfCharacters.{size, size_append, size_is_sum}
use Rattle.gabc_body.proofs.snippets_of_body.GrammarEmitsThroughEnd.{IsMark, is_mark_so, run, Grammar, Marks, EndEmitted, CutEmitted, lists, ended, endless}
use Rattle.gabc_body.proofs.snippets_of_body.GabcEmitsThroughEnd.{run_gabc, gabc_grammar, emits_lists}
use Rattle.gabc_body.proofs.snippets_of_body.NabcEmitsThroughEnd.{run_nabc, nabc_grammar, events_lists}

-- what a snippet of a line emits through its end: it keeps a snippet of that line, and perhaps what is cut at its end
pub record LineEmitted (lines line : ℕ) (opened : Place) (prefix : List Char) (end : Char) (mark : Mark) (events : List BodyEvent) : Type 0 where
  pub mids : List NoteEvent
  pub how : NoteEnd
  pub kept : List ℕ
  pub rest : List ℕ
  pub emitted_are : events ≡ map (note_event line opened) mids ++ Notes line (note.Ended how (size kept)) ∷ []
  pub silent : ends_of mids ≡ []
  pub kept_is : kept_of mids ≡ kept ++ rest
  pub few : size (kept_of mids) ≤ size (codes_of prefix)
  pub from : kept ≡ kept_on_line line prefix
  pub is_snippet : IsSnippetOf line kept
  pub is_mark : IsMark end.c how
  pub marks : Marks lines line opened how mark

-- a count below the last value is exact
count_exact : (n m : ℕ) → n ≤ m → m < 2 ^ 63 → min n (2 ^ 64 - 1) ≡ n
count_exact n m h k = omega arith

gabc_count : (t : List ℕ) → size t < 2 ^ 63 → bytes_of t ≡ size t
gabc_count t h = ap (λ n. min n (2 ^ 64 - 1)) (size_is_sum t) ∙ count_exact (size t) (size t) (omega arith) h

nabc_count : (t : List ℕ) → size t < 2 ^ 63 → bytes_in t ≡ size t
nabc_count t h = count_exact (size t) (size t) (omega arith) h

prefix_fits : (whole prefix rest : List ℕ) (most : ℕ) → whole ≡ prefix ++ rest → size whole ≤ most → most < 2 ^ 63 → size prefix < 2 ^ 63
prefix_fits whole prefix rest most h k l = grind (arith, size_append)

module _ {K : Type 0} (table : Table K) (lines line : ℕ) (opened : Place) {S : Type 0} (g : Grammar S) (s : S) where
  -- by the trimmed text
  trimmed_emitted : (prefix : List Char) (end : Char) (mark : Mark) (events : List BodyEvent) → size (codes_of prefix) < 2 ^ 63 → g.kept s ≡ []
      → ((t : List ℕ) → size (trim table t) < 2 ^ 63 → g.count t ≡ size (trim table t))
      → ((t : List ℕ) → (rest : List ℕ) × (t ≡ trim table t ++ rest) × IsSnippet table (trim table t))
      → ((t : List ℕ) → IsSnippet table t → IsSnippetOf line t)
      → trim table (g.kept (run g s prefix)) ≡ kept_on_line line prefix
      → EndEmitted g lines line opened s prefix end mark events → LineEmitted lines line opened prefix end mark events
  trimmed_emitted prefix end mark events fits none counts trims is keeps e =
      let all : List ℕ = kept_of e.mids in
      let t = trims all in
      record {
        mids = e.mids;
        how = e.how;
        kept = trim table all;
        rest = t.0;
        emitted_are = e.emitted_are ∙ ap (λ n. map (note_event line opened) e.mids ++ Notes line (note.Ended e.how n) ∷ [])
            (ap (λ ks. g.count (ks ++ all)) none ∙ counts all (prefix_fits all (trim table all) t.0 (size (codes_of prefix)) t.1 e.few fits));
        silent = e.silent;
        kept_is = t.1;
        few = e.few;
        from = ap (trim table) (sym (ap (λ ks. ks ++ all) none) ∙ e.kept_is) ∙ keeps;
        is_snippet = is (trim table all) t.2;
        is_mark = is_mark_so g.splits e.how end.c e.is_mark;
        marks = e.marks;
      }

gabc_trims : (t : List ℕ) → (rest : List ℕ) × (t ≡ trim gabc t ++ rest) × IsSnippet gabc (trim gabc t)
gabc_trims t = let r = trim_trims gabc refl t in (r.rest, r.cut, r.longest.has)

nabc_trims : (t : List ℕ) → (rest : List ℕ) × (t ≡ trim nabc t ++ rest) × IsSnippet nabc (trim nabc t)
nabc_trims t = let r = trim_trims nabc refl t in (r.rest, r.cut, r.longest.has)

-- where a `|` ends a snippet of a line
abbrev pub splits_on : ℕ → ℕ → Bool
splits_on lines zero = nat_lt 0 lines
splits_on lines (suc line) = true

module _ (lines macros : ℕ) (opened : Place) where
  abbrev split : Bool
  split = nat_lt 0 lines

  emits_are : (xs : List Char) → note_events split macros xs ≡ lists (gabc_grammar split macros) [] xs
  unfolding note_events
  emits_are xs = emits_lists split macros [] xs

  gabc_keeps : (prefix : List Char) → trim gabc (gabc_kept (run (gabc_grammar split macros) [] prefix)) ≡ trim gabc (gabc_kept (reverse prefix))
  gabc_keeps prefix = ap (λ back. trim gabc (gabc_kept back)) (run_gabc split macros [] prefix ∙ append-nil (reverse prefix))

  nabc_part : (line : ℕ) (xs : List Char) → snippet_from lines macros (suc line) opened xs ≡ InNotes (suc line) opened (lists nabc_grammar [] xs)
  nabc_part line xs = grind (arith, suc_eqb, events_lists)

  -- the mark at which a snippet ends
  pub line_marked : (line : ℕ) (prefix : List Char) (end : Char) (rest : List Char) (mark : Mark) → EndsAfter lines (snippet_from lines macros line opened (prefix ++ end ∷ rest)) prefix mark
      → (how : NoteEnd) × IsMarkOf (splits_on lines line) how end.c × Marks lines line opened how mark
  line_marked zero prefix end rest mark h =
      let e = ended lines 0 opened (gabc_grammar split macros) [] prefix end rest mark refl (subst (λ ls. EndsAfter lines (InNotes 0 opened ls) prefix mark) (emits_are (prefix ++ end ∷ rest)) h) in
      (e.how, e.is_mark, e.marks)
  line_marked (suc line) prefix end rest mark h =
      let e = ended lines (suc line) opened nabc_grammar [] prefix end rest mark refl (subst (λ part. EndsAfter lines part prefix mark) (nabc_part line (prefix ++ end ∷ rest)) h) in
      (e.how, e.is_mark, e.marks)

  -- a snippet that ends at a mark
  pub line_emitted : (line : ℕ) (prefix : List Char) (end : Char) (rest : List Char) (mark : Mark) → size (codes_of prefix) < 2 ^ 63
      → EndsAfter lines (snippet_from lines macros line opened (prefix ++ end ∷ rest)) prefix mark
      → LineEmitted lines line opened prefix end mark (concat_of (events_through (snippet_from lines macros line opened (prefix ++ end ∷ rest)) prefix))
  line_emitted zero prefix end rest mark fits h =
      let xs = prefix ++ end ∷ rest in
      subst (λ ls. LineEmitted lines 0 opened prefix end mark (concat_of (events_through (InNotes 0 opened ls) prefix))) (sym (emits_are xs))
      (trimmed_emitted gabc lines 0 opened (gabc_grammar split macros) [] prefix end mark _ fits refl (λ t k. gabc_count (trim gabc t) k) gabc_trims (λ t k. k) (gabc_keeps prefix)
      (ended lines 0 opened (gabc_grammar split macros) [] prefix end rest mark refl (subst (λ ls. EndsAfter lines (InNotes 0 opened ls) prefix mark) (emits_are xs) h)))
  line_emitted (suc line) prefix end rest mark fits h =
      let xs = prefix ++ end ∷ rest in
      subst (λ part. LineEmitted lines (suc line) opened prefix end mark (concat_of (events_through part prefix))) (sym (nabc_part line xs))
      (trimmed_emitted nabc lines (suc line) opened nabc_grammar [] prefix end mark _ fits refl (λ t k. nabc_count (trim nabc t) k) nabc_trims (λ t k. k) (ap (λ t. trim nabc (nabc_kept t)) (run_nabc [] prefix))
      (ended lines (suc line) opened nabc_grammar [] prefix end rest mark refl (subst (λ part. EndsAfter lines part prefix mark) (nabc_part line xs) h)))

  -- a snippet that the end of the input cuts
  pub line_cut : (line : ℕ) (last : List Char) → Endless lines (snippet_from lines macros line opened last) last
      → CutEmitted line opened (concat_of (events_through (snippet_from lines macros line opened last) last))
  line_cut zero last h = grind (arith, emits_are, endless)
  line_cut (suc line) last h = grind (arith, nabc_part, endless)
