-- A character more, and the end: from any state on, the machine gives what the definitions say of the tokens ahead.
use Rattle.std.proofs.Common.{arith, ◌≡◌, ℕ, ◌==◌, List, [], ◌∷◌, ◌++◌, Bool, true, false, cond, refl, sym, ap, ◌∙◌, subst, append_assoc, append-nil, length, drop, Option, Some, None, inl, inr, ◌⊎◌}
use Rattle.std.proofs.lemmas.Bool.{eqb-true}
use Rattle.std.proofs.Math.Seq.{drop-append-add, drop-append_seam}
use Rattle.gabc_places.specs.declared.place.Place.{Place}
use Rattle.gabc_text.specs.declared.text_facts.TextFacts.{TextFacts}
use Rattle.gabc_text.specs.declared.token.TokenKind.{TokenKind}
use Rattle.gabc_text.specs.declared.token.TagEffect.{TagEffect}
use Rattle.gabc_text.specs.declared.token.TagEffect.TheVariants.{Other}
use Rattle.gabc_text.specs.declared.token_state.TokenState.{TokenState}
use Rattle.gabc_text.specs.declared.token_state.TokenState.TheVariants.{Plain}
use Rattle.gabc_text.specs.declared.token_state.Step.{Step}
use Rattle.gabc_text.specs.declared.token_state.Step.TheVariants.{Stays, Ends}
use Rattle.gabc_text.specs.declared.progress.Progress.{Progress}
use Rattle.gabc_text.specs.declared.stage.TextStage.{TextStage}
use Rattle.gabc_text.specs.declared.text_event.TextEnd.TheVariants as ending
use Rattle.gabc_text.specs.declared.text_event.TextEvent.{TextEvent}
use Rattle.gabc_text.specs.Token.{Token, spelling, tokens}
use Rattle.gabc_text.specs.View.{effect, is_open_kind, is_translation}
use Rattle.gabc_text.specs.Events.{option_list_of, is_lone, with_first, with_last}
use Rattle.gabc_text.specs.machine.TextFacts.{early_at}
use Rattle.gabc_text.specs.machine.TokenState.{settled_kind, next_step, keep, kind_at_end}
use Rattle.gabc_places.specs.Place.{saturating_next_place}
use Rattle.gabc_text.specs.machine.TextStage.{events_of_settling_by, settle_stage_by, settled_push_stage, events_of_settled_push, events_of_step, stage_after_step, stage_past_char, progress_past, char_event, bytes_with, token_stage, events_of_token, events_of_end, end_stage, events_of_finish_by, end_by, is_cut_end}
use Rattle.gabc_text.specs.witness.FactsPast.{past, bytes_past}
use Rattle.gabc_text.specs.witness.EventsLeft.{findings_there, kept_by, lists_kept, early_events_by, last_by, token_events_by, lists_past, lists_last, owed_events_at, facts_at, progress_at}
use Rattle.gabc_text.specs.ViewFacts.{but_end}
use Rattle.gabc_text.proofs.machine.EventsStepByStep.{stepwise, stepwise_left}
use Rattle.gabc_text.proofs.machine.TokenStateByCharacter.{Holds, Settles, WentBy, goes, settles, ends, EndsAs}
use Rattle.gabc_text.proofs.machine.KeptOfOpenToken.{kept_held, sort_settled, settled_uncut, ends_uncut}
use Rattle.gabc_text.proofs.machine.TokensOneAfterAnother.{size, rest_done, with_none, with_more, end_other}
use Rattle.gabc_text.proofs.machine.FactsPastTokens.{past_append, bytes_past_append, facts_on, progress_on, past_token, after}
use Rattle.gabc_text.proofs.machine.TokenEventsAgree.{whole_same, end_same}
use Rattle.gabc_text.proofs.machine.EventsOfOpenToken.{KeptGo, ListsGo, kept_goes, lists_goes, bytes_go, none_held, none_first, lists_held, each_held, early_is, in_translation, events_read, but_last_is, not_lone}
use Rattle.gabc_text.proofs.machine.TokensPastTheFirst.{lists_from, first_token}

-- what follows the tokens
abbrev pub remaining : List ℕ → List ℕ
remaining t = drop (size (tokens t)) t

remaining_more : (k : Token) (t rest : List ℕ) → tokens t ≡ k ∷ tokens rest → t ≡ spelling k ++ rest → remaining t ≡ remaining rest
remaining_more k t rest e f = rw (e, f) (drop-append-add (spelling k) rest (size (tokens rest)))

-- what is left where the machine goes on with this stage at c
abbrev LeftAt : TextStage → ℕ → List ℕ → List ℕ
LeftAt s c t = cond s.ended (c ∷ t) (stepwise_left s t)

-- the last of some characters
pub but_end_is : (held : List ℕ) (c : ℕ) → but_end (held ++ c ∷ []) ≡ held
but_end_is [] c = refl
but_end_is (x ∷ held) c = but_last_is x (held ++ c ∷ []) (x ∷ held) c refl

module _ (read : List ℕ) (s : TextStage) where
  -- the machine has read this more of the first token
  abbrev pub progress_in : TokenState → List ℕ → Progress
  progress_in state more = record (s.progress) { next = past s.progress.next more; kept = bytes_past s.progress.kept (kept_held state more) }

  abbrev pub stage_in : TokenState → List ℕ → TextStage
  stage_in state more = record { state = state; facts = s.facts; progress = progress_in state more; ended = false }

  abbrev pub emitted_in : TokenState → List ℕ → List (List TextEvent)
  emitted_in state more = lists_held read s.facts s.progress.place s.progress.next state more

  -- what is emitted of a text that begins with what was read
  abbrev pub ahead : List ℕ → List (List TextEvent)
  ahead t = lists_from read s [] (tokens t) (remaining t)

  ahead_more : (k : Token) (t rest : List ℕ) → tokens t ≡ k ∷ tokens rest → t ≡ spelling k ++ rest → is_open_kind k.kind ≡ false
      → ahead t ≡ lists_past read s [] k ++ with_first (owed_events_at read s (k ∷ [])) (lists_from [] (past_token read s k) [] (tokens rest) (remaining rest))
  ahead_more k t rest e f u =
      rw (e, f, drop-append-add (spelling k) rest (size (tokens rest))) (first_token read s k (tokens rest) (remaining rest) u)

  -- ---- a token that ends before the next character, or at the end

  -- nothing is given of the token but what is emitted of its characters, or it shows only by what follows
  abbrev Quiet : Token → TokenKind → Type 0
  Quiet k d = (is_lone k ≡ true) ⊎ ((progress : Progress) (last : ℕ) → events_of_token s.facts progress d Other last ≡ [])

  -- a token of this kind is what was read of it
  abbrev Closing : TokenState → List ℕ → Token → TokenKind → Type 0
  Closing state more k d = (kept_held state more ≡ kept_by s.facts d more) × (in_translation state ≡ is_translation d) × (each_held read s.facts s.progress.place s.progress.next state more ≡ lists_kept s.facts s.progress.next d more) × Quiet k d

  settle_closing : (state : TokenState) (held more : List ℕ) (c : ℕ) (k : Token) → Holds state held → settled_kind state c ≡ Some k.kind → spelling k ≡ held → Closing state more k k.kind
  settle_closing state held more c k h e f = grind arith

  end_closing : (state : TokenState) (held more : List ℕ) (k : Token) (d : TokenKind) → Holds state held → kind_at_end state ≡ Some d → spelling k ≡ held → Closing state more k d
  end_closing state held more k d h e f = grind arith

  record Closed (state : TokenState) (more : List ℕ) (k : Token) : Type 0 where
    lists : emitted_in state more ≡ lists_past read s [] k
    owes : events_of_token s.facts (progress_in state more) k.kind Other s.progress.start ≡ owed_events_at read s (k ∷ [])
    stage_is : token_stage (stage_in state more) k.kind Other (past s.progress.next more) ≡ past_token read s k

  closed : (state : TokenState) (more : List ℕ) (k : Token) → drop (length read) (spelling k) ≡ more → effect k ≡ Other → Closing state more k k.kind → Closed state more k
  closed state more k e so h = record {
    lists = sym (ap (λ (x : List TextEvent). with_last x (with_first (early_events_by s.facts s.progress.place read k.kind) (lists_kept s.facts s.progress.next k.kind (drop (length read) (spelling k))))) (nothing_now (is_lone k) refl h.3)
        ∙ with_none (with_first (early_events_by s.facts s.progress.place read k.kind) (lists_kept s.facts s.progress.next k.kind (drop (length read) (spelling k))))
        ∙ rw (e, early_is s.facts s.progress.place read k.kind, ← h.1, ← h.2) refl);
    owes = owes_it (is_lone k) refl h.3;
    stage_is = rw (e, so, h.0) refl;
  }
    where
      whole_is : (last : ℕ) → events_of_token s.facts (progress_in state more) k.kind Other last ≡ events_of_token s.facts (after s.facts s.progress k.kind (drop (length read) (spelling k))) k.kind (effect k) last
      whole_is last = rw (e, so, h.0) refl

      nothing_now : (b : Bool) → is_lone k ≡ b → Quiet k k.kind → cond (is_lone k) [] (token_events_by s.facts s.progress k (drop (length read) (spelling k))) ≡ []
      nothing_now true f q = ap (λ (b : Bool). cond b [] (token_events_by s.facts s.progress k (drop (length read) (spelling k)))) f
      nothing_now false f (inl q) = absurd (cc)
      nothing_now false f (inr q) =
          ap (λ (b : Bool). cond b [] (token_events_by s.facts s.progress k (drop (length read) (spelling k)))) f
          ∙ sym (whole_same s.facts s.progress k (drop (length read) (spelling k)))
          ∙ ap (λ (x : TagEffect). events_of_token s.facts (after s.facts s.progress k.kind (drop (length read) (spelling k))) k.kind x (last_by s.progress k (drop (length read) (spelling k)))) so
          ∙ q (after s.facts s.progress k.kind (drop (length read) (spelling k))) (last_by s.progress k (drop (length read) (spelling k)))

      owed_is : (b : Bool) → is_lone k ≡ b → cond b (token_events_by s.facts s.progress k (drop (length read) (spelling k))) [] ≡ owed_events_at read s (k ∷ [])
      owed_is b f = ap (λ (b : Bool). cond b (token_events_by s.facts s.progress k (drop (length read) (spelling k))) []) (sym f)

      owes_it : (b : Bool) → is_lone k ≡ b → Quiet k k.kind → events_of_token s.facts (progress_in state more) k.kind Other s.progress.start ≡ owed_events_at read s (k ∷ [])
      owes_it true f q =
          whole_is s.progress.start
          ∙ ap (λ (b : Bool). events_of_token s.facts (after s.facts s.progress k.kind (drop (length read) (spelling k))) k.kind (effect k) (cond b s.progress.start (bytes_past s.progress.kept (but_end (drop (length read) (spelling k)))))) (sym f)
          ∙ whole_same s.facts s.progress k (drop (length read) (spelling k))
          ∙ owed_is true f
      owes_it false f (inl q) = absurd (cc)
      owes_it false f (inr q) = q (progress_in state more) s.progress.start ∙ owed_is false f

  -- ---- the counts at a character that is read

  next_goes : (more : List ℕ) (c : ℕ) → saturating_next_place (past s.progress.next more) c ≡ past s.progress.next (more ++ c ∷ [])
  next_goes more c = sym (past_append s.progress.next more (c ∷ []))

  bytes_goes : (state : TokenState) (more : List ℕ) (c : ℕ) (kept : List ℕ) → kept_held state more ++ option_list_of (keep s.facts state c) ≡ kept
      → bytes_with (bytes_past s.progress.kept (kept_held state more)) (keep s.facts state c) ≡ bytes_past s.progress.kept kept
  bytes_goes state more c kept e = grind (arith, bytes_go, bytes_past_append)

  -- ---- what is emitted from the character c on

  abbrev From : TokenState → List ℕ → List ℕ → ℕ → List ℕ → List TextEvent → TextStage → Type 0
  From state more held c t events next = (emitted_in state more ++ (events ∷ stepwise next t) ≡ ahead (held ++ c ∷ t)) × (LeftAt next c t ≡ remaining (held ++ c ∷ t))

-- from any state on, for these characters
abbrev pub Runs : List ℕ → Type 0
Runs t = (read : List ℕ) (s : TextStage) (state : TokenState) (more held : List ℕ) → held ≡ read ++ more → Holds state held
    → (emitted_in read s state more ++ stepwise (stage_in read s state more) t ≡ ahead read s (held ++ t)) × (stepwise_left (stage_in read s state more) t ≡ remaining (held ++ t))

-- one list more
moved : (xs : List (List TextEvent)) (ys : List TextEvent) (rest : List (List TextEvent)) → xs ++ (ys ∷ rest) ≡ (xs ++ ys ∷ []) ++ rest
moved xs ys rest = sym (append_assoc xs (ys ∷ []) rest)

-- the part of a token that was to come
to_come : (read more : List ℕ) (k : Token) → spelling k ≡ read ++ more → drop (length read) (spelling k) ≡ more
to_come read more k e = ap (drop (length read)) e ∙ drop-append_seam read more

more_kept : (state : TokenState) (c : ℕ) (d : TokenKind) (so : TagEffect) (more : List ℕ) → (state ≡ Plain → more ≡ []) → next_step state c ≡ Ends d so → kept_held state more ≡ more
more_kept state c d so more h e = grind arith

-- the `(` between tokens
notes_end : (s : TextStage) (t : List ℕ) → From [] s Plain [] [] 40 t (events_of_end s.facts (progress_in [] s Plain []) ending.Notes) (end_stage (stage_in [] s Plain []))
notes_end s t = grind (arith, rest_done, end_same)

module _ (c : ℕ) (t : List ℕ) (read : List ℕ) (s : TextStage) (state : TokenState) (more held : List ℕ) (here : held ≡ read ++ more) (holds : Holds state held) where
  abbrev stage : TextStage
  stage = stage_in read s state more

  abbrev FromStep : Step → Type 0
  FromStep w = From read s state more held c t
      (findings_there s.progress.place (option_list_of (early_at s.facts state c)) ++ (option_list_of (char_event (past s.progress.next more) (keep s.facts state c)) ++ events_of_step (stage_past_char stage c) w (bytes_past s.progress.kept (kept_held state more))))
      (stage_after_step (stage_past_char stage c) w)

  -- what is emitted with the character of a second translation, and of itself
  abbrev events_early : List TextEvent
  events_early = findings_there s.progress.place (option_list_of (early_at s.facts state c))

  abbrev events_kept : List TextEvent
  events_kept = option_list_of (char_event (past s.progress.next more) (keep s.facts state c))

  in_read : Holds state (read ++ more)
  in_read = subst (Holds state) here holds

  plain_none : state ≡ Plain → more ≡ []
  plain_none e = (none_held state read more e in_read).1

  events_next : ListsGo read s.facts s.progress.place s.progress.next (emitted_in read s state more ++ events_read read s.facts s.progress.place s.progress.next state more c ∷ []) more c (next_step state c)
  events_next = lists_goes read s.facts s.progress.place s.progress.next state more c in_read

  kept_next : KeptGo s.facts (kept_held state more ++ option_list_of (keep s.facts state c)) more c (next_step state c)
  kept_next = kept_goes s.facts state more c plain_none

  longer : held ++ c ∷ [] ≡ read ++ (more ++ c ∷ [])
  longer = ap (λ (x : List ℕ). x ++ c ∷ []) here ∙ append_assoc read more (c ∷ [])

  stays : (next : TokenState) → Runs t → next_step state c ≡ Stays next → Holds next (held ++ c ∷ []) → FromStep (Stays next)
  stays next ih e h =
      let kept : kept_held state more ++ option_list_of (keep s.facts state c) ≡ kept_held next (more ++ c ∷ []) =
      subst (KeptGo s.facts (kept_held state more ++ option_list_of (keep s.facts state c)) more c) e kept_next in
      let lists : emitted_in read s state more ++ events_read read s.facts s.progress.place s.progress.next state more c ∷ [] ≡ emitted_in read s next (more ++ c ∷ []) =
      subst (ListsGo read s.facts s.progress.place s.progress.next (emitted_in read s state more ++ events_read read s.facts s.progress.place s.progress.next state more c ∷ []) more c) e events_next in
      let stage_is : stage_after_step (stage_past_char stage c) (Stays next) ≡ stage_in read s next (more ++ c ∷ []) =
      rw (next_goes read s more c, bytes_goes read s state more c (kept_held next (more ++ c ∷ [])) kept) refl in
      let run = ih read s next (more ++ c ∷ []) (held ++ c ∷ []) longer h in (
        ap (λ (x : TextStage). emitted_in read s state more ++ ((findings_there s.progress.place (option_list_of (early_at s.facts state c)) ++ (option_list_of (char_event (past s.progress.next more) (keep s.facts state c)) ++ [])) ∷ stepwise x t)) stage_is
            ∙ ap (λ (x : List TextEvent). emitted_in read s state more ++ ((findings_there s.progress.place (option_list_of (early_at s.facts state c)) ++ x) ∷ stepwise (stage_in read s next (more ++ c ∷ [])) t)) (append-nil (option_list_of (char_event (past s.progress.next more) (keep s.facts state c))))
            ∙ moved (emitted_in read s state more) (events_read read s.facts s.progress.place s.progress.next state more c) (stepwise (stage_in read s next (more ++ c ∷ [])) t)
            ∙ ap (λ (x : List (List TextEvent)). x ++ stepwise (stage_in read s next (more ++ c ∷ [])) t) lists
            ∙ run.0
            ∙ ap (ahead read s) (append_assoc held (c ∷ []) t),
        ap (λ (x : TextStage). LeftAt x c t) stage_is ∙ run.1 ∙ ap remaining (append_assoc held (c ∷ []) t),
      )

  -- a token that the character ends
  module _ (so : TagEffect) (k : Token) (e : next_step state c ≡ Ends k.kind so) (sk : effect k ≡ so) (f : spelling k ≡ held ++ c ∷ []) where
    come : drop (length read) (spelling k) ≡ more ++ c ∷ []
    come = to_come read (more ++ c ∷ []) k (f ∙ longer)

    lone : is_lone k ≡ false
    lone = not_lone state held c k so holds e f

    spot_is : progress_past (progress_in read s state more) c (keep s.facts state c) ≡ after s.facts s.progress k.kind (more ++ c ∷ [])
    spot_is = grind (arith, kept_next, next_goes, bytes_goes)

    last_is : bytes_past s.progress.kept (kept_held state more) ≡ last_by s.progress k (more ++ c ∷ [])
    last_is = rw (lone, but_end_is more c) (ap (bytes_past s.progress.kept) (more_kept state c k.kind so more plain_none e))

    emitted_are : events_of_step (stage_past_char stage c) (Ends k.kind so) (bytes_past s.progress.kept (kept_held state more)) ≡ token_events_by s.facts s.progress k (more ++ c ∷ [])
    emitted_are = grind (arith, spot_is, after, last_is, whole_same)

    state_is : stage_after_step (stage_past_char stage c) (Ends k.kind so) ≡ past_token read s k
    state_is = grind (arith, spot_is, after, come)

    lists_are : emitted_in read s state more ++ (events_early ++ (events_kept ++ token_events_by s.facts s.progress k (more ++ c ∷ []))) ∷ [] ≡ lists_past read s [] k
    lists_are =
        let whole = token_events_by s.facts s.progress k (more ++ c ∷ []) in
        let lists : emitted_in read s state more ++ (events_early ++ events_kept) ∷ [] ≡ with_first (early_events_by s.facts s.progress.place read k.kind) (lists_kept s.facts s.progress.next k.kind (more ++ c ∷ [])) =
        subst (ListsGo read s.facts s.progress.place s.progress.next (emitted_in read s state more ++ (events_early ++ events_kept) ∷ []) more c) e events_next in
        let now : cond (is_lone k) [] whole ≡ whole = ap (λ (b : Bool). cond b [] whole) lone in
        ap (λ (x : List TextEvent). emitted_in read s state more ++ x ∷ []) (sym (append_assoc events_early events_kept whole))
        ∙ sym (with_more whole (emitted_in read s state more) (events_early ++ events_kept))
        ∙ ap (with_last whole) lists
        ∙ ap (λ (x : List TextEvent). with_last x (with_first (early_events_by s.facts s.progress.place read k.kind) (lists_kept s.facts s.progress.next k.kind (more ++ c ∷ [])))) (sym now)
        ∙ ap (λ (x : List ℕ). with_last (cond (is_lone k) [] (token_events_by s.facts s.progress k x)) (with_first (early_events_by s.facts s.progress.place read k.kind) (lists_kept s.facts s.progress.next k.kind x))) (sym come)

    none_owed : owed_events_at read s (k ∷ []) ≡ []
    none_owed = ap (λ (b : Bool). cond b (token_events_by s.facts s.progress k (drop (length read) (spelling k))) []) lone

    ends_token : Runs t → ((u : List ℕ) → tokens (held ++ c ∷ u) ≡ k ∷ tokens u) → FromStep (Ends k.kind so)
    ends_token ih cuts =
        let spelled : held ++ c ∷ t ≡ spelling k ++ t = sym (append_assoc held (c ∷ []) t) ∙ ap (λ (x : List ℕ). x ++ t) (sym f) in
        let run = ih [] (past_token read s k) Plain [] [] refl refl in (
          ap (λ (x : List TextEvent). emitted_in read s state more ++ ((events_early ++ (events_kept ++ x)) ∷ stepwise (stage_after_step (stage_past_char stage c) (Ends k.kind so)) t)) emitted_are
              ∙ moved (emitted_in read s state more) (events_early ++ (events_kept ++ token_events_by s.facts s.progress k (more ++ c ∷ []))) (stepwise (stage_after_step (stage_past_char stage c) (Ends k.kind so)) t)
              ∙ ap (λ (x : List (List TextEvent)). x ++ stepwise (stage_after_step (stage_past_char stage c) (Ends k.kind so)) t) lists_are
              ∙ ap (λ (x : TextStage). lists_past read s [] k ++ stepwise x t) state_is
              ∙ ap (λ (x : List (List TextEvent)). lists_past read s [] k ++ x) run.0
              ∙ ap (λ (x : List (List TextEvent)). lists_past read s [] k ++ x) (sym (none_first (ahead [] (past_token read s k) t)))
              ∙ ap (λ (x : List TextEvent). lists_past read s [] k ++ with_first x (ahead [] (past_token read s k) t)) (sym none_owed)
              ∙ sym (ahead_more read s k (held ++ c ∷ t) t (cuts t) spelled (ends_uncut state c k.kind so e)),
          ap (λ (x : TextStage). LeftAt x c t) state_is ∙ run.1 ∙ sym (remaining_more k (held ++ c ∷ t) t (cuts t) spelled),
        )

  read_emits : Runs t → (state ≡ Plain → c == 40 ≡ false) → settled_kind state c ≡ None → FromStep (next_step state c)
  read_emits ih plain e = by (next_step state c) refl (goes state held c holds e plain)
    where
      by : (w : Step) → next_step state c ≡ w → WentBy w held c → FromStep w
      by (Stays next) f h = stays next ih f h
      by (Ends d so) f h =
          subst (λ (x : TokenKind). FromStep (Ends x so)) h.kind_is (ends_token so h.token (f ∙ ap (λ (x : TokenKind). Ends x so) (sym h.kind_is)) h.sort_is h.spelled ih h.cuts)

  -- a character before which no token ends
  settled_emits : Runs t → settled_kind state c ≡ None → From read s state more held c t (events_of_settled_push stage c) (settled_push_stage stage c)
  settled_emits ih e = grind (arith, none_held, in_read, notes_end, eqb-true, read_emits)

-- ---- a token that ends before the character

settle_emits : (c : ℕ) (t : List ℕ) (read : List ℕ) (s : TextStage) (state : TokenState) (more held : List ℕ) (k : Token) → Runs t → held ≡ read ++ more → Holds state held
    → settled_kind state c ≡ Some k.kind → spelling k ≡ held → ((u : List ℕ) → tokens (held ++ c ∷ u) ≡ k ∷ tokens (c ∷ u))
    → From read s state more held c t (events_of_settling_by (stage_in read s state more) (Some k.kind) ++ events_of_settled_push (settle_stage_by (stage_in read s state more) (Some k.kind)) c)
    (settled_push_stage (settle_stage_by (stage_in read s state more) (Some k.kind)) c)
settle_emits c t read s state more held k ih here holds e f cuts =
    let cl = closed read s state more k (to_come read more k (f ∙ here)) (sort_settled state c k e) (settle_closing read s state held more c k holds e f) in
    let next = settled_emits c t [] (past_token read s k) Plain [] [] refl refl ih refl in
    let owes = events_of_token s.facts (progress_in read s state more) k.kind Other s.progress.start in
    let spelled : held ++ c ∷ t ≡ spelling k ++ c ∷ t = ap (λ (x : List ℕ). x ++ c ∷ t) (sym f) in (
      ap (λ (x : TextStage). emitted_in read s state more ++ ((owes ++ events_of_settled_push x c) ∷ stepwise (settled_push_stage x c) t)) cl.stage_is
          ∙ ap (λ (x : List TextEvent). emitted_in read s state more ++ ((x ++ events_of_settled_push (past_token read s k) c) ∷ stepwise (settled_push_stage (past_token read s k) c) t)) cl.owes
          ∙ ap (λ (x : List (List TextEvent)). x ++ ((owed_events_at read s (k ∷ []) ++ events_of_settled_push (past_token read s k) c) ∷ stepwise (settled_push_stage (past_token read s k) c) t)) cl.lists
          ∙ ap (λ (x : List (List TextEvent)). lists_past read s [] k ++ with_first (owed_events_at read s (k ∷ [])) x) next.0
          ∙ sym (ahead_more read s k (held ++ c ∷ t) (c ∷ t) (cuts t) spelled (settled_uncut state c k.kind e)),
      ap (λ (x : TextStage). LeftAt (settled_push_stage x c) c t) cl.stage_is ∙ next.1 ∙ sym (remaining_more k (held ++ c ∷ t) (c ∷ t) (cuts t) spelled),
    )

step : (c : ℕ) (t : List ℕ) → Runs t → Runs (c ∷ t)
step c t ih read s state more held here holds = by (settled_kind state c) refl
  where
    by : (o : Option TokenKind) → settled_kind state c ≡ o
        → From read s state more held c t (events_of_settling_by (stage_in read s state more) o ++ events_of_settled_push (settle_stage_by (stage_in read s state more) o) c) (settled_push_stage (settle_stage_by (stage_in read s state more) o) c)
    by None e = settled_emits c t read s state more held here holds ih e
    by (Some d) e = go (settles state held c d holds e)
      where
        go : Settles held c d → From read s state more held c t (events_of_settling_by (stage_in read s state more) (Some d) ++ events_of_settled_push (settle_stage_by (stage_in read s state more) (Some d)) c) (settled_push_stage (settle_stage_by (stage_in read s state more) (Some d)) c)
        go h =
            subst (λ (d : TokenKind). From read s state more held c t (events_of_settling_by (stage_in read s state more) (Some d) ++ events_of_settled_push (settle_stage_by (stage_in read s state more) (Some d)) c) (settled_push_stage (settle_stage_by (stage_in read s state more) (Some d)) c)) h.kind_is
            (settle_emits c t read s state more held h.token ih here holds (e ∙ ap Some (sym h.kind_is)) h.spelled h.cuts)

-- ---- the end

abbrev EndingOf : List ℕ → TextStage → TokenState → List ℕ → List ℕ → Option TokenKind → Type 0
EndingOf read s state more held o = (emitted_in read s state more ++ events_of_finish_by (stage_in read s state more) o ∷ [] ≡ ahead read s (held ++ [])) × ([] ≡ remaining (held ++ []))

finish : Runs []
finish read s state more held here holds = by (kind_at_end state) refl (ends state held holds)
  where
    plain : (m : TokenState) → kind_at_end m ≡ None → m ≡ Plain
    plain m e = grind arith

    cut_is : (b : Bool) (q : Place) → is_cut_end (cond b (ending.Cut q) ending.Finished) ≡ b
    cut_is b q = grind arith

    none : state ≡ Plain → EndingOf read s state more held None
    none g = grind arith

    token : (k : Token) → kind_at_end state ≡ Some k.kind → spelling k ≡ held → tokens held ≡ k ∷ [] → EndingOf read s state more held (Some k.kind)
    token k e f g =
        let so : effect k ≡ Other = end_other state k k.kind e refl in
        let cl = closed read s state more k (to_come read more k (f ∙ here)) so (end_closing read s state held more k k.kind holds e f) in
        let owes = events_of_token s.facts (progress_in read s state more) k.kind Other s.progress.start in
        let cut : tokens (held ++ []) ≡ k ∷ [] = ap tokens (append-nil held) ∙ g in
        let spelled : held ++ [] ≡ spelling k ++ [] = ap (λ (x : List ℕ). x ++ []) (sym f) in
        let none_left : remaining (held ++ []) ≡ [] = remaining_more k (held ++ []) [] cut spelled in
        let there : facts_at read s (k ∷ []) ≡ (past_token read s k).facts = facts_on s.facts k [] in
        let progress : progress_at read s (k ∷ []) ≡ (past_token read s k).progress = progress_on read s k [] in
        let whole : ahead read s (held ++ []) ≡ lists_past read s [] k ++ lists_last read s (k ∷ []) [] =
        rw (none_left, cut) (ap (λ (x : List (List TextEvent)). x ++ lists_last read s (k ∷ []) []) (append-nil (lists_past read s [] k))) in (
          ap (λ (x : TextStage). emitted_in read s state more ++ (owes ++ events_of_end x.facts x.progress (end_by k.kind s.progress.place)) ∷ []) cl.stage_is
              ∙ ap (λ (x : List TextEvent). emitted_in read s state more ++ (x ++ events_of_end (past_token read s k).facts (past_token read s k).progress (end_by k.kind s.progress.place)) ∷ []) cl.owes
              ∙ ap (λ (x : List (List TextEvent)). x ++ (owed_events_at read s (k ∷ []) ++ events_of_end (past_token read s k).facts (past_token read s k).progress (end_by k.kind s.progress.place)) ∷ []) cl.lists
              ∙ ap (λ (x : TextFacts). lists_past read s [] k ++ (owed_events_at read s (k ∷ []) ++ events_of_end x (past_token read s k).progress (end_by k.kind s.progress.place)) ∷ []) (sym there)
              ∙ ap (λ (x : Progress). lists_past read s [] k ++ (owed_events_at read s (k ∷ []) ++ events_of_end (facts_at read s (k ∷ [])) x (end_by k.kind s.progress.place)) ∷ []) (sym progress)
              ∙ ap (λ (x : List TextEvent). lists_past read s [] k ++ (owed_events_at read s (k ∷ []) ++ x) ∷ []) (end_same (facts_at read s (k ∷ [])) (progress_at read s (k ∷ [])) (cond (is_open_kind k.kind) (ending.Cut s.progress.place) ending.Finished) (is_open_kind k.kind) (cut_is (is_open_kind k.kind) s.progress.place))
              ∙ sym whole,
          sym none_left,
        )

    by : (o : Option TokenKind) → kind_at_end state ≡ o → EndsAs o held → EndingOf read s state more held o
    by None e h = none (plain state e)
    by (Some d) e (k, kd, sp, tk) = subst (λ (x : TokenKind). EndingOf read s state more held (Some x)) kd (token k (e ∙ ap Some (sym kd)) sp tk)

pub runs : (t : List ℕ) → Runs t
runs [] = finish
runs (c ∷ t) = step c t (runs t)
