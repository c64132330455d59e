-- What the machine has given of the characters to come of a token that goes on.
use Rattle.std.proofs.Common.{arith, ◌≡◌, ℕ, ◌==◌, ◌&&◌, List, [], ◌∷◌, ◌++◌, Bool, true, false, cond, refl, ap, subst, Option, Some, None}
use Rattle.gabc_places.specs.declared.place.Place.{Place}
use Rattle.gabc_places.specs.declared.code.Code.TheVariants.{W5}
use Rattle.gabc_text.specs.declared.token.TokenKind.{TokenKind}
use Rattle.gabc_text.specs.declared.token.TagEffect.{TagEffect}
use Rattle.gabc_text.specs.declared.token_state.TokenState.{TokenState}
use Rattle.gabc_text.specs.declared.token_state.TokenState.TheVariants.{Plain, Comment, Translation}
use Rattle.gabc_text.specs.declared.token_state.Step.{Step}
use Rattle.gabc_text.specs.declared.token_state.Step.TheVariants.{Stays, Ends}
use Rattle.gabc_text.specs.declared.text_facts.TextFacts.{TextFacts}
use Rattle.gabc_text.specs.declared.text_event.TextEvent.{TextEvent}
use Rattle.gabc_text.specs.declared.text_event.TextEvent.TheVariants as out
use Rattle.gabc_text.specs.Token.{Token, spelling, single}
use Rattle.gabc_text.specs.View.{is_translation}
use Rattle.gabc_text.specs.Events.{option_list_of, no_events_each, with_first, but_last, is_lone}
use Rattle.gabc_text.specs.machine.TextFacts.{early_at}
use Rattle.gabc_text.specs.machine.TokenState.{is_plain, next_step, first_step, keep, keep_first, step_at_tag_end}
use Rattle.gabc_text.specs.machine.TextStage.{char_event, bytes_with}
use Rattle.gabc_places.specs.Place.{saturating_next_place}
use Rattle.gabc_text.specs.witness.FactsPast.{past, bytes_past}
use Rattle.gabc_text.specs.witness.EventsLeft.{findings_there, kept_by, each_kept, lists_kept, early_events_by}
use Rattle.gabc_text.proofs.tokens.CasesOfCharacters.{by_case, single_kind}
use Rattle.gabc_text.proofs.machine.KeptOfOpenToken.{kept_held, is_within, IsKept, within_kept, keep_within, held_within}
use Rattle.gabc_text.proofs.machine.TokenStateByCharacter.{Holds}

abbrev pub in_translation : TokenState → Bool
in_translation Translation = true
in_translation _ = false

single_no_translation : (c : ℕ) → is_translation (single c) ≡ false
single_no_translation c = single_kind (λ k. is_translation k ≡ false) refl refl refl refl refl c

-- a token that goes on is a translation, or the token that ends is one
abbrev pub SameEmitted : Bool → Step → Type 0
SameEmitted b (Stays next) = in_translation next ≡ b
SameEmitted b (Ends d s) = is_translation d ≡ b

either_emitted : (a b : Bool) (x y : Step) → SameEmitted a x → SameEmitted a y → SameEmitted a (cond b x y)
either_emitted a b x y f g = grind arith

tag_emitted : (s : TagEffect) → SameEmitted false (step_at_tag_end s)
tag_emitted s = grind arith

pub events_goes : (state : TokenState) (c : ℕ) → is_plain state ≡ false → SameEmitted (in_translation state) (next_step state c)
events_goes state c e = grind (arith, either_emitted, tag_emitted)

each_more : (p : Place) (more : List ℕ) (c : ℕ) → each_kept p more ++ (out.Kept (record { c = c; place = past p more }) ∷ []) ∷ [] ≡ each_kept p (more ++ c ∷ [])
each_more p [] c = refl
each_more p (x ∷ more) c = ap (λ (xs : List (List TextEvent)). (out.Kept (record { c = x; place = p }) ∷ []) ∷ xs) (each_more (saturating_next_place p x) more c)

nothing_more : (more : List ℕ) (c : ℕ) → no_events_each more ++ [] ∷ [] ≡ no_events_each (more ++ c ∷ [])
nothing_more [] c = refl
nothing_more (x ∷ more) c = ap (λ (xs : List (List TextEvent)). [] ∷ xs) (nothing_more more c)

pub bytes_go : (n : ℕ) (o : Option ℕ) → bytes_with n o ≡ bytes_past n (option_list_of o)
bytes_go n o = grind arith

module _ (facts : TextFacts) where
  -- ---- what is kept

  abbrev pub KeptGo : List ℕ → List ℕ → ℕ → Step → Type 0
  KeptGo xs more c (Stays next) = xs ≡ kept_held next (more ++ c ∷ [])
  KeptGo xs more c (Ends d s) = xs ≡ kept_by facts d (more ++ c ∷ [])

  kept_on : (w : Step) (more : List ℕ) (c : ℕ) → IsKept w → KeptGo (more ++ c ∷ []) more c w
  kept_on w more c i = grind arith

  first_kept : (c : ℕ) (d : TokenKind) → c == 37 ≡ false → option_list_of (keep_first facts c d) ≡ kept_by facts d (c ∷ [])
  first_kept c d e = grind arith

  abbrev KeptBegin : ℕ → Type 0
  KeptBegin c = KeptGo (option_list_of (keep_first facts c (single c))) [] c (first_step c)

  kept_begin : (c : ℕ) → KeptBegin c
  kept_begin c =
      by_case 36 c KeptBegin refl (λ e36.
      by_case 37 c KeptBegin refl (λ e37.
      by_case 60 c KeptBegin refl (λ e60.
      by_case 91 c KeptBegin refl (λ e91.
      let f = first_kept c (single c) e37 in
      rw (e36, e37, e60, e91) (rw e37 at f)))))

  -- what is kept with a character more
  pub kept_goes : (state : TokenState) (more : List ℕ) (c : ℕ) → (state ≡ Plain → more ≡ []) → KeptGo (kept_held state more ++ option_list_of (keep facts state c)) more c (next_step state c)
  kept_goes state more c h = grind (arith, kept_begin, is_within, keep_within, held_within, kept_on, within_kept)

-- a second translation is emitted at its `[`
abbrev pub emitted_early : TextFacts → Place → List ℕ → Bool → List TextEvent
emitted_early facts p [] b = cond (b && facts.translated) (out.Found (record { place = p; code = W5 }) ∷ []) []
emitted_early facts p (c ∷ read) b = []

pub early_is : (facts : TextFacts) (p : Place) (read : List ℕ) (k : TokenKind) → early_events_by facts p read k ≡ emitted_early facts p read (is_translation k)
early_is facts p read k = grind arith

pub none_first : (lists : List (List TextEvent)) → with_first [] lists ≡ lists
none_first lists = grind arith

module _ (read : List ℕ) (facts : TextFacts) (place next : Place) where
  -- ---- what is kept of each character

  abbrev pub each_held : TokenState → List ℕ → List (List TextEvent)
  each_held Plain more = []
  each_held Comment more = no_events_each more
  each_held _ more = each_kept next more

  abbrev pub lists_held : TokenState → List ℕ → List (List TextEvent)
  lists_held state more = with_first (emitted_early facts place read (in_translation state)) (each_held state more)

  abbrev EachGo : List (List TextEvent) → List ℕ → ℕ → Step → Type 0
  EachGo xs more c (Stays m) = xs ≡ each_held m (more ++ c ∷ [])
  EachGo xs more c (Ends d s) = xs ≡ lists_kept facts next d (more ++ c ∷ [])

  pub each_within : (state : TokenState) (more : List ℕ) → is_within state ≡ true → each_held state more ≡ each_kept next more
  each_within state more e = grind arith

  each_on : (w : Step) (xs : List (List TextEvent)) (more : List ℕ) (c : ℕ) → IsKept w → xs ≡ each_kept next (more ++ c ∷ []) → EachGo xs more c w
  each_on w xs more c i e = grind arith

  first_each : (c : ℕ) (d : TokenKind) → c == 37 ≡ false → option_list_of (char_event next (keep_first facts c d)) ∷ [] ≡ lists_kept facts next d (c ∷ [])
  first_each c d e = grind arith

  each_goes : (state : TokenState) (more : List ℕ) (c : ℕ) → is_plain state ≡ false → EachGo (each_held state more ++ option_list_of (char_event (past next more) (keep facts state c)) ∷ []) more c (next_step state c)
  each_goes state more c e = grind (arith, nothing_more, is_within, keep_within, each_within, each_on, within_kept, each_more)

  -- ---- what is emitted with each character

  abbrev pub ListsGo : List (List TextEvent) → List ℕ → ℕ → Step → Type 0
  ListsGo xs more c (Stays m) = xs ≡ lists_held m (more ++ c ∷ [])
  ListsGo xs more c (Ends d s) = xs ≡ with_first (early_events_by facts place read d) (lists_kept facts next d (more ++ c ∷ []))

  lists_both : (w : Step) (b : Bool) (xs : List (List TextEvent)) (more : List ℕ) (c : ℕ) → SameEmitted b w → EachGo xs more c w → ListsGo (with_first (emitted_early facts place read b) xs) more c w
  lists_both w b xs more c e f = grind arith

  -- the characters so far, and one more
  lists_more : (state : TokenState) (more : List ℕ) (ks : List TextEvent) → is_plain state ≡ false → Holds state (read ++ more)
      → lists_held state more ++ ks ∷ [] ≡ with_first (emitted_early facts place read (in_translation state)) (each_held state more ++ ks ∷ [])
  lists_more state more ks e h = grind arith

module _ (facts : TextFacts) (place next : Place) where
  abbrev ListsBegins : ℕ → Type 0
  ListsBegins c = ListsGo [] facts place next ((findings_there place (option_list_of (early_at facts Plain c)) ++ option_list_of (char_event next (keep_first facts c (single c)))) ∷ []) [] c (first_step c)

  lists_begin : (c : ℕ) → ListsBegins c
  lists_begin c =
      by_case 36 c ListsBegins refl (λ e36.
      by_case 37 c ListsBegins refl (λ e37.
      by_case 60 c ListsBegins refl (λ e60.
      by_case 91 c ListsBegins (second facts.translated) (λ e91.
      let f : with_first [] (option_list_of (char_event next (keep_first facts c (single c))) ∷ []) ≡ with_first [] (lists_kept facts next (single c) (c ∷ [])) =
      ap (with_first []) (first_each [] facts place next c (single c) e37) in
      rw (e36, e37, e60, e91) (rw (single_no_translation c) (rw e37 at f))))))
    where
      second : (b : Bool) → (findings_there place (option_list_of (cond b (Some W5) None)) ++ out.Kept (record { c = 91; place = next }) ∷ []) ∷ [] ≡ (cond b (out.Found (record { place = place; code = W5 }) ∷ []) [] ++ out.Kept (record { c = 91; place = next }) ∷ []) ∷ []
      second b = grind arith

-- between tokens nothing is held
pub none_held : (state : TokenState) (read more : List ℕ) → state ≡ Plain → Holds state (read ++ more) → (read ≡ []) × (more ≡ [])
none_held state read more e h = by read more (subst (λ (m : TokenState). Holds m (read ++ more)) e h)
  where
    by : (r more : List ℕ) → r ++ more ≡ [] → (r ≡ []) × (more ≡ [])
    by [] more f = (refl, f)
    by (x ∷ r) more f = absurd (cc)

module _ (read : List ℕ) (facts : TextFacts) (place next : Place) where
  abbrev pub events_read : TokenState → List ℕ → ℕ → List TextEvent
  events_read state more c = findings_there place (option_list_of (early_at facts state c)) ++ option_list_of (char_event (past next more) (keep facts state c))

  -- a character more
  pub lists_goes : (state : TokenState) (more : List ℕ) (c : ℕ) → Holds state (read ++ more) → ListsGo read facts place next (lists_held read facts place next state more ++ events_read state more c ∷ []) more c (next_step state c)
  lists_goes Plain more c h =
      let n = none_held Plain read more refl h in
      rw (n.0, n.1) (lists_begin facts place next c)
  lists_goes state more c h = other state refl h
    where
      none_early : (m : TokenState) → is_plain m ≡ false → early_at facts m c ≡ None
      none_early m e = grind arith

      other : (m : TokenState) → is_plain m ≡ false → Holds m (read ++ more) → ListsGo read facts place next (lists_held read facts place next m more ++ events_read m more c ∷ []) more c (next_step m c)
      other m e h =
          rw (none_early m e, lists_more read facts place next m more (option_list_of (char_event (past next more) (keep facts m c))) e h)
          (lists_both read facts place next (next_step m c) (in_translation m) (each_held read facts place next m more ++ option_list_of (char_event (past next more) (keep facts m c)) ∷ []) more c
          (events_goes m c e) (each_goes read facts place next m more c e))

-- ---- a token that its last character ends

pub but_last_is : (x : ℕ) (xs held : List ℕ) (c : ℕ) → x ∷ xs ≡ held ++ c ∷ [] → but_last x xs ≡ held
but_last_is x [] [] c e = refl
but_last_is x [] (h ∷ []) c e = absurd (cc)
but_last_is x [] (h ∷ i ∷ hs) c e = absurd (cc)
but_last_is x (y ∷ ys) [] c e = absurd (cc)
but_last_is x (y ∷ ys) (h ∷ hs) c e =
    let f : y ∷ ys ≡ hs ++ c ∷ [] = cc in
    let g = but_last_is y ys hs c f in cc

-- a token that its last character ends is no `$` by itself
pub not_lone : (state : TokenState) (held : List ℕ) (c : ℕ) (k : Token) (so : TagEffect) → Holds state held → next_step state c ≡ Ends k.kind so → spelling k ≡ held ++ c ∷ [] → is_lone k ≡ false
not_lone state held c k so h e f = grind arith
