-- What is emitted of a snippet depends on the state of the machine alone.
use Rattle.std.proofs.Common.{arith, ◌≡◌, ℕ, List, [], ◌∷◌, ◌++◌, Bool, not, ◌&&◌, refl, sym, ap, ◌∙◌, codes, Option, append-nil, append_assoc}
use Rattle.gabc_places.specs.declared.place.Char.{Char}
use Rattle.gabc_places.specs.StageLaw.{silence}
use Rattle.gabc_patterns.specs.Derivative.{Munch, start, step, run, is_whole, is_alive}
use Rattle.gabc_patterns.proofs.StatesAfterTexts.{run-append}
use Rattle.gabc_notes.specs.Table.{gabc}
use Rattle.gabc_notes.specs.witness.StageEvents.{is_attribute_kind, kind_at, macro_digit, char_facts, role_in, before_in, events_in, event_list, cut_event, raw_with, events_following, events_after}
use Rattle.gabc_notes.specs.Events.{in_raw}
use Rattle.gabc_notes.specs.declared.item.ItemKind.{ItemKind}
use Rattle.gabc_notes.specs.declared.stage.Before.{Before}
use Rattle.gabc_notes.specs.declared.stage.NoteEvent.{NoteEvent}
use Rattle.gabc_notes.specs.declared.stage.CharRole.{CharRole}
use Rattle.gabc_notes.specs.declared.stage.CharFacts.{CharFacts}

-- where the reading stands after the text
abbrev pub at_end : List ℕ → Munch ItemKind
at_end t = run gabc start t

-- inside raw, by where the reading stands
abbrev pub raw_at : Munch ItemKind → Bool
raw_at m = is_whole (run gabc m (codes "]")) && not (is_whole m)

pub raw_by : (t : List ℕ) → in_raw t ≡ raw_at (at_end t)
raw_by t = ap (λ (m : Munch ItemKind). is_whole m && not (is_whole (at_end t))) (run-append gabc start t (codes "]"))

-- what is known of a character, by where the reading stands before and after it
abbrev pub facts_at : Munch ItemKind → Munch ItemKind → Option ℕ → CharFacts
facts_at m n d = record {
  raw = raw_at m;
  whole = is_whole m;
  viable = is_alive n;
  raw_after = raw_at n;
  whole_after = is_whole n;
  attribute = is_attribute_kind (kind_at n);
  digit = d;
}

pub facts_by : (kept raw : List ℕ) (c : ℕ) → char_facts kept raw c ≡ facts_at (at_end kept) (step gabc (at_end kept) c) (macro_digit raw)
facts_by kept raw c = grind (arith, run-append)

-- names that no later characters report apart
abbrev pub NameAlike : List ℕ → List ℕ → Type 0
NameAlike r s = (w : List ℕ) → macro_digit (r ++ w) ≡ macro_digit (s ++ w)

alike_now : (r s : List ℕ) → NameAlike r s → macro_digit r ≡ macro_digit s
alike_now r s h = ap macro_digit (sym (append-nil r)) ∙ (h [] ∙ ap macro_digit (append-nil s))

alike_on : (r s : List ℕ) (c : ℕ) → NameAlike r s → NameAlike (r ++ c ∷ []) (s ++ c ∷ [])
alike_on r s c h w = ap macro_digit (append_assoc r (c ∷ []) w) ∙ (h (c ∷ w) ∙ ap macro_digit (sym (append_assoc s (c ∷ []) w)))

alike_with : (e : CharFacts) (r s : List ℕ) (c : ℕ) → NameAlike r s → NameAlike (raw_with e r c) (raw_with e s c)
alike_with e r s c h = grind (arith, alike_on)

-- two texts at which the reading stands alike are emitted alike
pub events_alike : (split : Bool) (macros : ℕ) (xs : List Char) (t u r s : List ℕ) (b : Before) → at_end t ≡ at_end u → NameAlike r s
    → events_after split macros t r b xs ≡ events_after split macros u s b xs
events_alike split macros [] t u r s b e h = ap (λ (x : Bool). (cut_event x b ∷ []) ∷ []) (raw_by t ∙ (ap raw_at e ∙ sym (raw_by u)))
events_alike split macros (x ∷ xs) t u r s b e h =
    let same : char_facts t r x.c ≡ char_facts u s x.c = facts_by t r x.c ∙ (rw (e, alike_now r s h) refl ∙ sym (facts_by u s x.c)) in
    let next : at_end (t ++ x.c ∷ []) ≡ at_end (u ++ x.c ∷ []) = run-append gabc start t (x.c ∷ []) ∙ (ap (λ (m : Munch ItemKind). step gabc m x.c) e ∙ sym (run-append gabc start u (x.c ∷ []))) in
    let v : CharFacts = char_facts u s x.c in
    let role : CharRole = role_in split b.comment v x.c in
    let after : Before = before_in role b v x in
    let kept = events_alike split macros xs (t ++ x.c ∷ []) (u ++ x.c ∷ []) (raw_with v r x.c) (raw_with v s x.c) after next (alike_with v r s x.c h) in
    let left = events_alike split macros xs t u r s after e h in
    ap (λ (v : CharFacts). event_list (events_in (role_in split b.comment v x.c) macros b v x) ∷ events_following (role_in split b.comment v x.c) (silence xs)
    (events_after split macros (t ++ x.c ∷ []) (raw_with v r x.c) (before_in (role_in split b.comment v x.c) b v x) xs)
    (events_after split macros t r (before_in (role_in split b.comment v x.c) b v x) xs)) same
    ∙ (ap (λ (k : List (List NoteEvent)). event_list (events_in role macros b v x) ∷ events_following role (silence xs) k (events_after split macros t r after xs)) kept
    ∙ ap (λ (k : List (List NoteEvent)). event_list (events_in role macros b v x) ∷ events_following role (silence xs) (events_after split macros (u ++ x.c ∷ []) (raw_with v s x.c) after xs) k) left)
