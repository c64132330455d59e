-- Past a token that has ended, the tokens ahead are those of the state past it.
use Rattle.std.proofs.Common.{◌≡◌, ℕ, List, [], ◌∷◌, ◌++◌, false, cond, sym, ap, ◌∙◌, append_assoc, length, drop, arith}
use Rattle.gabc_places.specs.declared.place.Place.{Place}
use Rattle.gabc_text.specs.declared.text_facts.TextFacts.{TextFacts}
use Rattle.gabc_text.specs.declared.token.TokenKind.{TokenKind}
use Rattle.gabc_text.specs.declared.progress.Progress.{Progress}
use Rattle.gabc_text.specs.declared.stage.TextStage.{TextStage}
use Rattle.gabc_text.specs.declared.text_event.TextEnd.TheVariants as ending
use Rattle.gabc_text.specs.declared.text_event.TextEvent.{TextEvent}
use Rattle.gabc_text.specs.Token.{Token, spelling}
use Rattle.gabc_text.specs.View.{along, is_open_kind}
use Rattle.gabc_text.specs.Events.{is_lone, with_first, with_last, no_events_each, end_by_rest}
use Rattle.gabc_text.specs.witness.EventsLeft.{facts_at, progress_at, read_at, ahead_at, token_events_by, early_events_by, lists_kept, lists_past, lists_last, owed_events_at, end_at_text, end_events_by}
use Rattle.gabc_text.proofs.machine.TokensOneAfterAnother.{onto}
use Rattle.gabc_text.proofs.machine.FactsPastTokens.{facts_on, progress_on, read_on, read_none, past_token}

-- what a token gives, by what was seen before it, where it begins, what was read of it, and what is owed
abbrev pub lists_by : TextFacts → Progress → List ℕ → List TextEvent → Token → List (List TextEvent)
lists_by facts progress r owes k =
    with_last (cond (is_lone k) [] (token_events_by facts progress k (drop (length r) (spelling k))))
    (with_first (owes ++ early_events_by facts progress.place r k.kind)
    (lists_kept facts progress.next k.kind (drop (length r) (spelling k))))

-- a list of lists that has a first
abbrev pub IsSome : List (List TextEvent) → Type 0
IsSome [] = ⊥
IsSome (xs ∷ lists) = Unit {0}

some_lists : (facts : TextFacts) (p : Place) (k : TokenKind) (c : ℕ) (cs : List ℕ) → IsSome (lists_kept facts p k (c ∷ cs))
some_lists facts p k c cs = grind arith

first_again : (a b : List TextEvent) (lists : List (List TextEvent)) → with_first (a ++ b) lists ≡ with_first a (with_first b lists)
first_again a b lists = grind (arith, append_assoc)

first_last : (a n : List TextEvent) (lists : List (List TextEvent)) → with_last n (with_first a lists) ≡ with_first a (with_last n lists)
first_last a n lists = grind (arith, append_assoc)

first_append : (a : List TextEvent) (lists others : List (List TextEvent)) → IsSome lists → with_first a lists ++ others ≡ with_first a (lists ++ others)
first_append a lists others h = grind arith

some_first : (a : List TextEvent) (lists : List (List TextEvent)) → IsSome lists → IsSome (with_first a lists)
some_first a lists h = grind arith

some_last : (n : List TextEvent) (lists : List (List TextEvent)) → IsSome lists → IsSome (with_last n lists)
some_last n lists h = grind arith

-- what is owed comes first
owed_first : (facts : TextFacts) (progress : Progress) (owes : List TextEvent) (k : Token) (others : List (List TextEvent))
    → lists_by facts progress [] owes k ++ others ≡ with_first owes (lists_by facts progress [] [] k ++ others)
owed_first facts progress owes k others = grind (arith, first_again, first_last, first_append, some_last, some_first, some_lists)

module _ (read : List ℕ) (s : TextStage) where
  -- what is emitted from some token on
  abbrev pub lists_from : List Token → List Token → List ℕ → List (List TextEvent)
  lists_from before ks rest = along (lists_past read s) before ks ++ lists_last read s (onto ks before) rest

module _ (read : List ℕ) (s : TextStage) (k : Token) where
  abbrev next_state : TextStage
  next_state = past_token read s k

  owed_on : (j : Token) (before : List Token) → owed_events_at read s (j ∷ (before ++ k ∷ [])) ≡ owed_events_at [] next_state (j ∷ before)
  owed_on j before =
      ap (λ (x : TextFacts). cond (is_lone j) (token_events_by x (progress_at read s (before ++ k ∷ [])) j (ahead_at read s (before ++ k ∷ []) j)) []) (facts_on s.facts k before)
      ∙ ap (λ (x : Progress). cond (is_lone j) (token_events_by (facts_at [] next_state before) x j (ahead_at read s (before ++ k ∷ []) j)) []) (progress_on read s k before)
      ∙ ap (λ (x : List ℕ). cond (is_lone j) (token_events_by (facts_at [] next_state before) (progress_at [] next_state before) j (drop (length x) (spelling j))) []) (read_on read s before k ∙ sym (read_none next_state before))

  lists_on : (before : List Token) (x : Token) (owes : List TextEvent)
      → lists_by (facts_at read s (before ++ k ∷ [])) (progress_at read s (before ++ k ∷ [])) (read_at read s (before ++ k ∷ [])) owes x ≡ lists_by (facts_at [] next_state before) (progress_at [] next_state before) [] owes x
  lists_on before x owes =
      ap (λ (y : TextFacts). lists_by y (progress_at read s (before ++ k ∷ [])) (read_at read s (before ++ k ∷ [])) owes x) (facts_on s.facts k before)
      ∙ ap (λ (y : Progress). lists_by (facts_at [] next_state before) y (read_at read s (before ++ k ∷ [])) owes x) (progress_on read s k before)
      ∙ ap (λ (y : List ℕ). lists_by (facts_at [] next_state before) (progress_at [] next_state before) y owes x) (read_on read s before k)

  -- after a token more
  on_more : (ks : List Token) (j : Token) (before : List Token) (rest : List ℕ) → lists_from read s (j ∷ (before ++ k ∷ [])) ks rest ≡ lists_from [] next_state (j ∷ before) ks rest
  on_more [] j before rest =
      ap (λ (x : List TextEvent). (x ++ end_events_by (facts_at read s (j ∷ (before ++ k ∷ []))) (progress_at read s (j ∷ (before ++ k ∷ []))) (is_open_kind j.kind) (end_at_text read s (j ∷ (before ++ k ∷ [])) rest)) ∷ no_events_each rest) (owed_on j before)
      ∙ ap (λ (x : TextFacts). (owed_events_at [] next_state (j ∷ before) ++ end_events_by x (progress_at read s (j ∷ (before ++ k ∷ []))) (is_open_kind j.kind) (end_at_text read s (j ∷ (before ++ k ∷ [])) rest)) ∷ no_events_each rest) (facts_on s.facts k (j ∷ before))
      ∙ ap (λ (x : Progress). (owed_events_at [] next_state (j ∷ before) ++ end_events_by (facts_at [] next_state (j ∷ before)) x (is_open_kind j.kind) (end_at_text read s (j ∷ (before ++ k ∷ [])) rest)) ∷ no_events_each rest) (progress_on read s k (j ∷ before))
      ∙ ap (λ (x : Progress). (owed_events_at [] next_state (j ∷ before) ++ end_events_by (facts_at [] next_state (j ∷ before)) (progress_at [] next_state (j ∷ before)) (is_open_kind j.kind) (cond (is_open_kind j.kind) (ending.Cut x.place) (end_by_rest rest))) ∷ no_events_each rest) (progress_on read s k before)
  on_more (x ∷ ks) j before rest =
      append_assoc (lists_past read s (j ∷ (before ++ k ∷ [])) x) (along (lists_past read s) (x ∷ j ∷ (before ++ k ∷ [])) ks) _
      ∙ ap (λ (l : List (List TextEvent)). lists_past read s (j ∷ (before ++ k ∷ [])) x ++ l) (on_more ks x (j ∷ before) rest)
      ∙ ap (λ (l : List (List TextEvent)). l ++ lists_from [] next_state (x ∷ j ∷ before) ks rest) (lists_on (j ∷ before) x (owed_events_at read s (j ∷ (before ++ k ∷ []))) ∙ ap (λ (o : List TextEvent). lists_by (facts_at [] next_state (j ∷ before)) (progress_at [] next_state (j ∷ before)) [] o x) (owed_on j before))
      ∙ sym (append_assoc (lists_past [] next_state (j ∷ before) x) (along (lists_past [] next_state) (x ∷ j ∷ before) ks) _)

  -- after the first token, which is ended: what it owes, and what is emitted from the state past it
  after_first : (ks : List Token) (rest : List ℕ) → is_open_kind k.kind ≡ false → lists_from read s (k ∷ []) ks rest ≡ with_first (owed_events_at read s (k ∷ [])) (lists_from [] next_state [] ks rest)
  after_first [] rest e = grind (arith, facts_on, progress_on)
  after_first (x ∷ ks) rest e =
      append_assoc (lists_past read s (k ∷ []) x) (along (lists_past read s) (x ∷ k ∷ []) ks) _
      ∙ ap (λ (l : List (List TextEvent)). lists_past read s (k ∷ []) x ++ l) (on_more ks x [] rest)
      ∙ ap (λ (l : List (List TextEvent)). l ++ lists_from [] next_state (x ∷ []) ks rest) (lists_on [] x (owed_events_at read s (k ∷ [])))
      ∙ owed_first (facts_at [] next_state []) (progress_at [] next_state []) (owed_events_at read s (k ∷ [])) x (lists_from [] next_state (x ∷ []) ks rest)
      ∙ ap (with_first (owed_events_at read s (k ∷ []))) (sym (append_assoc (lists_past [] next_state [] x) (along (lists_past [] next_state) (x ∷ []) ks) _))

  -- the first token, and what is emitted after it
  pub first_token : (ks : List Token) (rest : List ℕ) → is_open_kind k.kind ≡ false
      → lists_from read s [] (k ∷ ks) rest ≡ lists_past read s [] k ++ with_first (owed_events_at read s (k ∷ [])) (lists_from [] next_state [] ks rest)
  first_token ks rest e = grind (arith, append_assoc, after_first)
