-- An NABC snippet in front of its mark is read again as that snippet.
use Rattle.std.proofs.Common.{arith, ◌≡◌, ℕ, suc, List, [], ◌∷◌, ◌++◌, Bool, true, false, cond, ◌||◌, ◌==◌, refl, sym, ap, ◌∙◌, subst, length, take, drop, append-nil, append_assoc, ne_eqb, add-one}
use Rattle.std.specs.List.{All}
use Rattle.std.proofs.Math.Seq.{take-length, drop-append_seam}
use Rattle.std.proofs.lemmas.List.Elements.{All-append}
use Rattle.gabc_notes.proofs.grammar.LawsOfEventsByPoint.{ends_append}
use Rattle.gabc_notes.proofs.machine.LoopOverBody.{findings_append}
use Rattle.gabc_notes.proofs.KeptChars.{kept_chars-append}
use Rattle.gabc_notes.proofs.grammar.SnippetIsReadAgain.{AllWarnings}
use Rattle.gabc_places.specs.declared.code.Code.TheVariants.{W7}
use Rattle.gabc_places.specs.declared.place.Char.{Char}
use Rattle.gabc_places.specs.declared.place.Place.{Place}
use Rattle.gabc_places.specs.Place.{next_place, placed_characters_from}
use Rattle.gabc_places.specs.StageLaw.{concat_of}
use Rattle.gabc_places.proofs.PlacesOfAText.{length_placed}
use Rattle.gabc_patterns.specs.LongestItems.{IsSnippet, IsViable}
use Rattle.gabc_patterns.specs.Derivative.{is_snippet, is_viable}
use Rattle.gabc_patterns.specs.Function.{trim}
use Rattle.gabc_patterns.proofs.KeptTextIsKeptAgain.{viable_prefix, snippet_viable}
use Rattle.gabc_patterns.proofs.FunctionsMeetRelations.{viable_decides, snippet_decides, trim_snippet, trim_trims}
use Rattle.gabc_patterns.proofs.StatesAfterTexts.{state_of, left_out}
use Rattle.gabc_notes.specs.Ends.{IsMarkOf}
use Rattle.gabc_notes.specs.ReadAgain.{IsWarning}
use Rattle.gabc_notes.specs.SnippetRead.{kept_chars_of, findings_of, ends_of}
use Rattle.gabc_notes.specs.declared.stage.NoteEnd.{NoteEnd}
use Rattle.gabc_notes.specs.declared.stage.NoteEvent.{NoteEvent}
use Rattle.gabc_notes.specs.declared.stage.NoteEvent.TheVariants.{Kept}
use Rattle.gabc_nabc.specs.Table.{nabc}
use Rattle.gabc_nabc.specs.CharClass.{class_of_character}
use Rattle.gabc_nabc.specs.witness.DescriptorMachine.{next_state}
use Rattle.gabc_nabc.specs.Events.{in_comment, is_character, is_end, has_end, kept_of, first_of, is_missing, bytes_in, end_events, events_at, nabc_events_after, nabc_events}
use Rattle.gabc_notes.specs.Events.{finding_event, end_by_mark}
use Rattle.gabc_nabc.specs.SnippetRead.{before_end_after, before_end, from_end, kept_before}
use Rattle.gabc_nabc.specs.ReadAgain.{IsNabcReadAgain}
use Rattle.gabc_nabc.specs.declared.class.NabcClass.TheVariants.{Other}
use Rattle.gabc_nabc.proofs.grammar.LawsOfEvents.{no_end, one_end, silent}
use Rattle.gabc_nabc.proofs.machine.MachineReadsTable.{machine, snippets_read}
use Rattle.gabc_nabc.proofs.machine.TextWithACharacterMore.{comment_more, end_more, kept_more}
use Rattle.gabc_nabc.proofs.machine.RegularShortWays.{stops}

-- ---- no part has a mark, a `%` or a blank

-- a character that goes on a viable text is none of those
differs : (k : List ℕ) (c : ℕ) → IsViable nabc (k ++ c ∷ []) → (d : ℕ) → class_of_character d ≡ Other → c ≡ d → ⊥
differs k c v d o e =
    let y = state_of nabc machine snippets_read k (viable_prefix nabc k (c ∷ []) v) in
    left_out nabc machine snippets_read y.0 k c y.1 (ap (λ (n : ℕ). next_state y.0 (class_of_character n)) e ∙ (ap (next_state y.0) o ∙ stops y.0)) v

-- after a text without a comment such a character is one of the snippet's, ends it not, and is kept
pub record GoesOn (u : List ℕ) (c : ℕ) : Type 0 where
  pub comment : in_comment (u ++ c ∷ []) ≡ false
  pub character : is_character u c ≡ true
  pub no_end : is_end u c ≡ false
  pub kept_is : kept_of (u ++ c ∷ []) ≡ u ++ c ∷ []

pub goes_on : (u : List ℕ) (c : ℕ) → in_comment u ≡ false → kept_of u ≡ u → IsViable nabc (u ++ c ∷ []) → GoesOn u c
goes_on u c n k v = record {
  comment = comment_more u c ∙ rw (n, other 37 refl) refl;
  character = character;
  no_end = rw (n, other 41 refl, other 124 refl) refl;
  kept_is = kept_more u c character ∙ (ap (λ (t : List ℕ). cond (is_viable nabc (t ++ c ∷ [])) (t ++ c ∷ []) t) k ∙ ap (λ (b : Bool). cond b (u ++ c ∷ []) u) ((viable_decides nabc refl (u ++ c ∷ [])).1 v));
}
  where
    other : (d : ℕ) → class_of_character d ≡ Other → c == d ≡ false
    other d o = ne_eqb c d (differs u c v d o)

    back : (d : ℕ) → class_of_character d ≡ Other → d == c ≡ false
    back d o = ne_eqb d c (λ e. differs u c v d o (sym e))

    character : is_character u c ≡ true
    character = rw (n, back 37 refl, back 32 refl, back 9 refl, back 10 refl) refl

-- ---- what is emitted of such a character, and of the mark

kept_warns : (b : Bool) (x : Char)
    → (kept_chars_of (Kept x ∷ cond b (finding_event x.place W7 ∷ []) []) ≡ x ∷ []) × AllWarnings (Kept x ∷ cond b (finding_event x.place W7 ∷ []) [])
kept_warns b x = grind arith

end_warns : (k : List ℕ) (x : Char) → is_snippet nabc k ≡ true → (kept_chars_of (end_events k x) ≡ []) × AllWarnings (end_events k x)
end_warns k x s = grind arith

-- ---- the characters of a snippet, and its mark

pub mark_is : (how : NoteEnd) (c : ℕ) → IsMarkOf true how c → ((c == 41) || (c == 124)) ≡ true
mark_is how c e = grind arith

-- after the text u: t is read to its mark
pub record ReadsOn (at : Place) (u t : List ℕ) (mark : ℕ) (rest : List ℕ) : Type 0 where
  pub before : before_end_after u (t ++ mark ∷ rest) ≡ t
  pub kept_is : kept_of (u ++ t) ≡ u ++ t
  pub chars : kept_chars_of (concat_of (nabc_events_after u (placed_characters_from at (t ++ mark ∷ rest)))) ≡ placed_characters_from at t
  pub unended : ends_of (concat_of (take (length t) (nabc_events_after u (placed_characters_from at (t ++ mark ∷ rest))))) ≡ []
  pub ended : ends_of (concat_of (take (suc (length t)) (nabc_events_after u (placed_characters_from at (t ++ mark ∷ rest))))) ≡ (end_by_mark mark, bytes_in (trim nabc (u ++ t))) ∷ []
  pub all_warn : AllWarnings (concat_of (nabc_events_after u (placed_characters_from at (t ++ mark ∷ rest))))

-- at the mark
reads_mark : (at : Place) (u : List ℕ) (mark : ℕ) (rest : List ℕ) → ((mark == 41) || (mark == 124)) ≡ true
    → in_comment u ≡ false → has_end u ≡ false → kept_of u ≡ u → is_snippet nabc u ≡ true → ReadsOn at u [] mark rest
reads_mark at u mark rest m n o k s = grind (arith, end_warns, silent, end_more, append-nil, one_end)

pub reads_on : (at : Place) (u t : List ℕ) (mark : ℕ) (rest : List ℕ) → ((mark == 41) || (mark == 124)) ≡ true
    → in_comment u ≡ false → has_end u ≡ false → kept_of u ≡ u → IsSnippet nabc (u ++ t) → ReadsOn at u t mark rest
reads_on at u [] mark rest m n o k s = reads_mark at u mark rest m n o k ((snippet_decides nabc refl u).1 (subst (IsSnippet nabc) (append-nil u) s))
reads_on at u (c ∷ t) mark rest m n o k s =
    let x : Char = record { c = c; place = at } in
    let left : List Char = placed_characters_from (next_place at c) (t ++ mark ∷ rest) in
    let more : IsSnippet nabc ((u ++ c ∷ []) ++ t) = subst (IsSnippet nabc) (sym (append_assoc u (c ∷ []) t)) s in
    let v : IsViable nabc (u ++ c ∷ []) = viable_prefix nabc (u ++ c ∷ []) t (snippet_viable nabc ((u ++ c ∷ []) ++ t) more) in
    let tested : is_viable nabc (kept_of u ++ c ∷ []) ≡ true = ap (λ (l : List ℕ). is_viable nabc (l ++ c ∷ [])) k ∙ (viable_decides nabc refl (u ++ c ∷ [])).1 v in
    let g = goes_on u c n k v in
    let unknown : Bool = is_missing (first_of (kept_of u)) c in
    let e : events_at u x ≡ Kept x ∷ cond unknown (finding_event at W7 ∷ []) [] = rw (o, g.no_end, g.character, tested) refl in
    let w = kept_warns unknown x in
    let lists : List (List NoteEvent) = nabc_events_after (u ++ c ∷ []) left in
    let later : List NoteEvent = concat_of lists in
    let none : ends_of (events_at u x) ≡ [] = no_end u x o g.no_end in
    let y = reads_on (next_place at c) (u ++ c ∷ []) t mark rest m g.comment (end_more u c ∙ rw (o, g.no_end) refl) g.kept_is more in
    record {
      before = ap (λ (b : Bool). cond b [] (c ∷ before_end_after (u ++ c ∷ []) (t ++ mark ∷ rest))) g.no_end ∙ ap (λ (l : List ℕ). c ∷ l) y.before;
      kept_is = subst (λ (l : List ℕ). kept_of l ≡ l) (append_assoc u (c ∷ []) t) y.kept_is;
      chars = kept_chars-append (events_at u x) later ∙ (ap (λ (l : List NoteEvent). kept_chars_of l ++ kept_chars_of later) e
          ∙ (ap (λ (l : List Char). l ++ kept_chars_of later) w.0 ∙ ap (λ (l : List Char). x ∷ l) y.chars));
      unended = ends_append (events_at u x) (concat_of (take (length t) lists)) ∙ (ap (λ (l : List (NoteEnd × ℕ)). l ++ ends_of (concat_of (take (length t) lists))) none ∙ y.unended);
      ended = ends_append (events_at u x) (concat_of (take (suc (length t)) lists))
          ∙ (ap (λ (l : List (NoteEnd × ℕ)). l ++ ends_of (concat_of (take (suc (length t)) lists))) none
          ∙ (y.ended ∙ ap (λ (l : List ℕ). (end_by_mark mark, bytes_in (trim nabc l)) ∷ []) (append_assoc u (c ∷ []) t)));
      all_warn = subst (All IsWarning) (sym (findings_append (events_at u x) later))
          (All-append IsWarning (findings_of (events_at u x)) (findings_of later) (subst AllWarnings (sym e) w.1) y.all_warn);
    }

-- a snippet in front of its mark
pub read_again : (at : Place) (how : NoteEnd) (t rest : List ℕ) (mark : ℕ) → IsSnippet nabc t → IsMarkOf true how mark → IsNabcReadAgain at t mark rest
read_again at how t rest mark s m =
    let y = reads_on at [] t mark rest (mark_is how mark m) refl refl refl s in
    let xs : List Char = placed_characters_from at t in
    let all : List Char = kept_chars_of (concat_of (nabc_events (placed_characters_from at (t ++ mark ∷ rest)))) in
    let from : from_end (t ++ mark ∷ rest) ≡ mark ∷ rest = ap (λ (l : List ℕ). drop (length l) (t ++ mark ∷ rest)) y.before ∙ drop-append_seam t (mark ∷ rest) in
    let kept : kept_before t (mark ∷ rest) ≡ t = ap (trim nabc) y.kept_is ∙ trim_snippet nabc refl t s in
    let long : length (kept_before (before_end (t ++ mark ∷ rest)) (from_end (t ++ mark ∷ rest))) ≡ length xs =
    ap (λ (l : List ℕ). length (kept_before l (from_end (t ++ mark ∷ rest)))) y.before ∙ (ap (λ (l : List ℕ). length (kept_before t l)) from
    ∙ (ap (λ (l : List ℕ). length l) kept ∙ sym (length_placed at t))) in
    record {
      before = y.before;
      from = from;
      kept = kept;
      chars = ap (λ (n : ℕ). take n all) long ∙ (ap (λ (l : List Char). take (length xs) l) y.chars ∙ take-length xs);
      unended = y.unended;
      ended = ap (λ (n : ℕ). ends_of (concat_of (take n (nabc_events (placed_characters_from at (t ++ mark ∷ rest)))))) (add-one (length t))
          ∙ (y.ended ∙ ap (λ (l : List ℕ). (end_by_mark mark, bytes_in l) ∷ []) (trim_snippet nabc refl t s));
      warnings = y.all_warn;
    }

-- the kept text of a snippet that ended is one
pub kept_is_snippet : (prefix : List ℕ) (mark : ℕ) (rest : List ℕ) → IsSnippet nabc (kept_before prefix (mark ∷ rest))
kept_is_snippet prefix mark rest = (trim_trims nabc refl (kept_of prefix)).longest.has
