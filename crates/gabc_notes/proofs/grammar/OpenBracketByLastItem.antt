-- An open bracket, by the last item before it.
use Rattle.std.proofs.Common.{◌≡◌, ℕ, List, [], ◌∷◌, ◌++◌, Bool, true, false, cond, inl, inr, refl, sym, ap, ◌∙◌, subst, codes, Option, Some, None, append-nil, append_assoc, Decides}
use Rattle.std.proofs.lemmas.Bool.{and_parts}
use Rattle.std.proofs.lemmas.List.{same_from_push}
use Rattle.gabc_patterns.specs.LongestItems.{IsItemOf, IsItem, IsReading, IsSnippet, IsViable}
use Rattle.gabc_patterns.specs.Derivative.{is_alive, is_whole}
use Rattle.gabc_patterns.proofs.AutomatonsByTests.{reading}
use Rattle.gabc_patterns.proofs.LongestPrefixIsOne.{longest_all}
use Rattle.gabc_patterns.proofs.LongestMunchByCharacter.{snippet_to, snippet_from, viable_to}
use Rattle.gabc_patterns.proofs.RowsRun.{item_at_end}
use Rattle.gabc_patterns.proofs.StatesAfterTexts.{Stands, state_of, after_char, whole_is, stands_next}
use Rattle.gabc_notes.specs.Table.{gabc}
use Rattle.gabc_notes.specs.machine.ItemMachine.{whole_at}
use Rattle.gabc_notes.specs.Raw.{IsOpen}
use Rattle.gabc_notes.specs.Events.{in_raw, ItemText}
use Rattle.gabc_notes.specs.witness.StageEvents.{kind_at}
use Rattle.gabc_notes.specs.declared.item.ItemKind.TheVariants.{Fusion}
use Rattle.gabc_notes.specs.declared.state.ItemState.{ItemState}
use Rattle.gabc_notes.proofs.machine.MachineReadsTable.{machine, snippets_read}
use Rattle.gabc_notes.proofs.grammar.InsideRawIsAnOpenBracket.{on, open_to, open_from}
use Rattle.gabc_notes.proofs.items_of_text.LastItemByState.{ReadsOn, shrink, join_reading}
use Rattle.gabc_notes.proofs.items_of_text.ItemAtCharacter.{ends_of, prefix_snippet, fusion_open}
use Rattle.gabc_notes.proofs.items_of_text.ItemByStates.{Steps, opened_at, closed_at, joined_at, marks_tested, opened_by, raw_alone, kind_ends, stands}

viable : (t : List ℕ) → IsSnippet gabc t → IsViable gabc t
viable t h = ([], subst (IsSnippet gabc) (sym (append-nil t)) h)

-- a state after a snippet, and after it with a character more
pub record Next (t : List ℕ) (c : ℕ) : Type 0 where
  pub from : ItemState
  pub whole : whole_at from ≡ true
  pub to : ItemState
  pub steps : Steps t c from to

next : (t : List ℕ) (c : ℕ) → IsSnippet gabc t → IsViable gabc (t ++ c ∷ []) → Next t c
next t c h v =
    let y = state_of gabc machine snippets_read t (viable t h) in
    go y.0 y.1 (on y.0 c) refl
  where
    go : (s : ItemState) → Stands gabc machine s t → (o : Option ItemState) → on s c ≡ o → Next t c
    go s st None e = absurd (let f : false ≡ true = ap is_alive (sym (after_char gabc machine snippets_read s t c None st e)) ∙ viable_to gabc refl (t ++ c ∷ []) v in cc)
    go s st (Some z) e = record {
      from = s;
      whole = sym (whole_is gabc machine snippets_read s t st) ∙ snippet_to gabc refl t h;
      to = z;
      steps = record { here = st; next = e };
    }

-- the text before the bracket ends with no `@`, if the bracket opens raw
at_joins : (before : List ℕ) (items : List ItemText) → IsSnippet gabc before → IsReading gabc (items ++ (Fusion, codes "@") ∷ []) before → IsSnippet gabc (before ++ 91 ∷ [])
at_joins before items h r =
    let e = ends_of items (Fusion, codes "@") before r in
    let prefix = prefix_snippet e.before e.prefix (codes "@") e.reads in
    let n = next e.prefix 64 prefix (subst (IsViable gabc) e.cut (viable before h)) in
    let test = (and_parts (closed_at n.from (on n.from 93)) _ (and_parts (opened_at n.from (on n.from 91)) _ (marks_tested n.from)).1).1 in
    let joins : joined_at (Some n.to) ≡ true = ap joined_at (sym n.steps.next) ∙ then_true (whole_at n.from) (joined_at (on n.from 64)) n.whole test in
    let here : Stands gabc machine n.to before = subst (Stands gabc machine n.to) (sym e.cut) (stands_next gabc machine snippets_read n.from n.to e.prefix 64 n.steps.here n.steps.next) in
    go n.to (on n.to 91) refl here joins
  where
    then_true : (a b : Bool) → a ≡ true → cond a b true ≡ true → b ≡ true
    then_true a b e f = cc

    go : (z : ItemState) (o : Option ItemState) → on z 91 ≡ o → Stands gabc machine z before → elim o as (λ _. Bool) [ None ↦ false | Some y ↦ whole_at y ] ≡ true → IsSnippet gabc (before ++ 91 ∷ [])
    go z None e s j = absurd (cc)
    go z (Some y) e s j = snippet_from gabc refl (before ++ 91 ∷ []) (ap is_whole (after_char gabc machine snippets_read z before 91 (Some y) s e) ∙ (snippets_read.whole y ∙ j))

-- a snippet that a `[` makes a snippet again ends with `@`
joins_at : (before : List ℕ) → IsSnippet gabc before → IsSnippet gabc (before ++ 91 ∷ []) → (items : List ItemText) × IsReading gabc (items ++ (Fusion, codes "@") ∷ []) before
joins_at before h i =
    let n = next before 91 h (viable (before ++ 91 ∷ []) i) in
    elim (opened_by n.from n.to n.steps.next) [
      | inl x ↦ absurd (let w = sym (ap is_whole (stands before 91 n.from n.to n.steps) ∙ (snippets_read.whole n.to ∙ (raw_alone n.to x).0)) ∙ snippet_to gabc refl (before ++ 91 ∷ []) i in false_true w)
      | inr x ↦ (let y = kind_ends before 91 n.from n.to Fusion n.steps (ap (λ (q : ItemState). kind_at (reading gabc machine q)) x.0) in
          let e = y.1 in
          let mark : y.0 ≡ codes "@[" = fusion_open before y.0 e in
          let cut : before ≡ e.prefix ++ codes "@" = (same_from_push before (e.prefix ++ codes "@") 91 91 (e.cut ∙ (ap (λ (v : List ℕ). e.prefix ++ v) mark ∙ sym (append_assoc e.prefix (codes "@") (91 ∷ []))))).0 in
          let on_prefix : ReadsOn gabc e.before e.prefix (codes "@") = shrink gabc e.before e.prefix (codes "@") (91 ∷ []) (subst (ReadsOn gabc e.before e.prefix) mark e.reads) in
          let has : IsItemOf gabc Fusion (codes "@") = item_at_end gabc (codes "@") Fusion refl in (
            e.before,
            subst (IsReading gabc (e.before ++ (Fusion, codes "@") ∷ [])) (sym cut)
                (join_reading gabc e.before ((Fusion, codes "@") ∷ []) e.prefix (codes "@") on_prefix ([], refl, has, longest_all (IsItem gabc) (codes "@") (Fusion, has), refl)),
          ))
    ]
  where
    false_true : false ≡ true → ⊥
    false_true w = cc

-- so a text lies inside raw exactly where a bracket is open
pub open_decides : (t : List ℕ) → Decides (in_raw t) (IsOpen t)
open_decides t = (
  λ e. (let h = open_to t e in record {
    before = h.before;
    after = h.after;
    cut = h.cut;
    snippet = h.snippet;
    not_at = λ items r. h.opens (at_joins h.before items h.snippet r);
    unclosed = h.unclosed;
  }),
  λ h. open_from t (record {
    before = h.before;
    after = h.after;
    cut = h.cut;
    snippet = h.snippet;
    opens = λ i. (let y = joins_at h.before h.snippet i in h.not_at y.0 y.1);
    unclosed = h.unclosed;
  }),
)
