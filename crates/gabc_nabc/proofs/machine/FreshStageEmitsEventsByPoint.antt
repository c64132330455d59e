-- The stage emits what the definition says.
use Rattle.std.proofs.Common.{◌≡◌, ℕ, ◌<◌, ◌≤◌, List, [], ◌∷◌, ◌++◌, Bool, true, false, cond, ◌&&◌, ◌||◌, ◌==◌, refl, sym, ap, ◌∙◌, subst, arith, Option, Some, None, is_some, option_to_list}
use Rattle.std.proofs.lemmas.Bool.{and_parts}
use native.Mathlib.Decide.{dec_lt}
use Rattle.std.proofs.lemmas.Bool.Decides.{nat_tests}
use Rattle.std.proofs.Math.Bool.{or-false}
use Rattle.gabc_places.specs.declared.code.Code.TheVariants.{E3, E6, W7}
use Rattle.gabc_places.specs.declared.place.Char.{Char}
use Rattle.gabc_patterns.specs.Pattern.{is_in}
use Rattle.gabc_patterns.specs.Derivative.{is_snippet, is_viable, is_alive}
use Rattle.gabc_patterns.specs.Function.{trim}
use Rattle.gabc_patterns.proofs.AutomatonsByTests.{below, below_at, alike, alike_equal, reading_of}
use Rattle.gabc_patterns.proofs.StatesAfterTexts.{Stands, stands_next, whole_is}
use Rattle.gabc_patterns.proofs.StatesFollowExamples.{viable_next}
use Rattle.gabc_nabc.specs.Table.{nabc}
use Rattle.gabc_nabc.specs.CharClass.{class_of_character}
use Rattle.gabc_nabc.specs.Events.{in_comment, is_character, is_end, has_end, kept_of, begins_code, joins, takes_code, first_of, first_after, before_last, bytes_in, is_missing, end_events, events_at, nabc_events_after}
use Rattle.gabc_notes.specs.Events.{finding_event, end_by_mark}
use Rattle.gabc_nabc.specs.witness.DescriptorMachine.{next_state, whole_at, awaits, first_at, comment_in, stage_events_at, stage_after, events_left}
use Rattle.gabc_notes.specs.witness.StageEvents.{count_plus}
use Rattle.gabc_notes.specs.declared.stage.NoteEvent.{NoteEvent}
use Rattle.gabc_notes.specs.declared.stage.NoteEvent.TheVariants.{Kept, Ended}
use Rattle.gabc_nabc.specs.declared.stage.NabcStage.{NabcStage}
use Rattle.gabc_nabc.specs.declared.state.DescriptorState.{DescriptorState}
use Rattle.gabc_nabc.specs.declared.state.DescriptorState.TheVariants.{Start, Joined}
use Rattle.gabc_nabc.proofs.machine.MachineReadsTable.{machine, snippets_read, far}
use Rattle.gabc_nabc.proofs.machine.TextWithACharacterMore.{comment_more, end_more, kept_more, kept_same, trim_more, last_is, before_last_is, bytes_more}

-- ---- the states and the letters of codes

abbrev pub is_joined : DescriptorState → Bool
is_joined Joined = true
is_joined _ = false

abbrev pub letters_agree_at : DescriptorState → Option DescriptorState → ℕ → Bool
letters_agree_at s None c = true
letters_agree_at s (Some z) c = alike (awaits z) ((whole_at s || is_joined s) && begins_code c) && alike (is_joined z) (c == 33)

-- the next state awaits the second letter of a code just where a code may begin, and a letter that begins one stands; it is after a `!` just after one
abbrev pub letters_agree : DescriptorState → ℕ → Bool
letters_agree s c = letters_agree_at s (next_state s (class_of_character c)) c

pub letters_checked : (s : DescriptorState) → below 129 (letters_agree s) ≡ true
letters_checked s = grind arith

begins_far : (c : ℕ) → 128 ≤ c → begins_code c ≡ false
begins_far c h = grind (arith, nat_tests)

-- so at each character
pub letters_at : (s z : DescriptorState) (c : ℕ) → next_state s (class_of_character c) ≡ Some z
    → (awaits z ≡ (whole_at s || is_joined s) && begins_code c) × (is_joined z ≡ (c == 33))
letters_at s z c e = elim (dec_lt c 128) [
  | yes l ↦ at c (omega arith) e
  | no n ↦ (let l : 128 ≤ c = omega arith in
      let f = at 128 (omega arith) (ap (next_state s) (sym (far c l)) ∙ e) in
      let same : (c == 33) ≡ false = grind (arith, nat_tests) in
      (f.0 ∙ ap (λ (b : Bool). (whole_at s || is_joined s) && b) (sym (begins_far c l)), f.1 ∙ sym same))
]
  where
    at : (d : ℕ) → d < 129 → next_state s (class_of_character d) ≡ Some z → (awaits z ≡ (whole_at s || is_joined s) && begins_code d) × (is_joined z ≡ (d == 33))
    at d l f =
        let t = subst (λ (o : Option DescriptorState). letters_agree_at s o d ≡ true) f (below_at 129 (letters_agree s) d (letters_checked s) l) in
        let p = and_parts (alike (awaits z) ((whole_at s || is_joined s) && begins_code d)) (alike (is_joined z) (d == 33)) t in
        (alike_equal (awaits z) ((whole_at s || is_joined s) && begins_code d) p.0, alike_equal (is_joined z) (d == 33) p.1)

-- ---- the stage after a text

-- The text has no end, and the stage knows what it needs of it.
pub record Reached (t : List ℕ) (st : NabcStage) : Type 0 where
  pub running : st.ended ≡ false
  pub unended : has_end t ≡ false
  pub comment : st.comment ≡ in_comment t
  pub stands : Stands nabc machine st.state (kept_of t)
  pub kept : st.kept ≡ bytes_in (kept_of t)
  pub whole : st.whole ≡ bytes_in (trim nabc (kept_of t))
  pub first : first_of (kept_of t) ≡ first_at st.state st.letter
  pub joined : joins (kept_of t) ≡ is_joined st.state

-- a character more that is not kept
pub stays : (t : List ℕ) (st : NabcStage) (c : ℕ) → Reached t st → is_end t c ≡ false → kept_of (t ++ c ∷ []) ≡ kept_of t
    → Reached (t ++ c ∷ []) (record st { comment = comment_in st.comment c })
stays t st c r e same = grind (arith, end_more, comment_more)

-- a character is viable where there is a next state
pub viable_at_next : (t : List ℕ) (st : NabcStage) (c : ℕ) (o : Option DescriptorState) → Reached t st → next_state st.state (class_of_character c) ≡ o
    → is_viable nabc (kept_of t ++ c ∷ []) ≡ is_some o
viable_at_next t st c o r n = viable_next nabc machine snippets_read st.state (kept_of t) c r.stands ∙ (ap (λ (p : Option DescriptorState). is_alive (reading_of nabc machine p)) n ∙ go o)
  where
    go : (p : Option DescriptorState) → is_alive (reading_of nabc machine p) ≡ is_some p
    go p = grind arith

-- a character more that is kept
pub goes_on : (t : List ℕ) (st : NabcStage) (c : ℕ) (z : DescriptorState) → Reached t st → is_end t c ≡ false → is_character t c ≡ true
    → next_state st.state (class_of_character c) ≡ Some z
    → Reached (t ++ c ∷ []) (record st { state = z; letter = c; comment = comment_in st.comment c; kept = count_plus st.kept c; whole = cond (whole_at z) (count_plus st.kept c) st.whole })
goes_on t st c z r e f n =
    let u : List ℕ = kept_of t in
    let v : List ℕ = u ++ c ∷ [] in
    let more : kept_of (t ++ c ∷ []) ≡ v = kept_more t c f ∙ ap (λ (b : Bool). cond b v u) (viable_at_next t st c (Some z) r n) in
    let here : Stands nabc machine z v = stands_next nabc machine snippets_read st.state z u c r.stands n in
    let bytes : count_plus st.kept c ≡ bytes_in v = ap (λ (k : ℕ). count_plus k c) r.kept ∙ sym (bytes_more u c) in
    let starts : takes_code u ≡ whole_at st.state || is_joined st.state =
    ap (λ (b : Bool). b || joins u) (whole_is nabc machine snippets_read st.state u r.stands) ∙ ap (λ (b : Bool). whole_at st.state || b) r.joined in
    let letters = letters_at st.state z c n in
    let prefix : bytes_in (trim nabc v) ≡ bytes_in (cond (whole_at z) v (trim nabc u)) =
    ap bytes_in (trim_more u c ∙ ap (λ (b : Bool). cond b v (trim nabc u)) (whole_is nabc machine snippets_read z v here)) in
    let first : first_of v ≡ cond (takes_code u && begins_code c) (Some c) None =
    ap (λ (l : List ℕ). first_after (before_last v) l) (last_is u c) ∙ ap (λ (q : List ℕ). first_after q (c ∷ [])) (before_last_is u c) in
    record {
      running = r.running;
      unended = end_more t c ∙ (ap (λ (b : Bool). b || is_end t c) r.unended ∙ e);
      comment = ap (λ (b : Bool). comment_in b c) r.comment ∙ sym (comment_more t c);
      stands = subst (Stands nabc machine z) (sym more) here;
      kept = bytes ∙ ap bytes_in (sym more);
      whole = go v (trim nabc u) (count_plus st.kept c) st.whole (whole_at z) bytes r.whole ∙ (sym prefix ∙ ap (λ (w : List ℕ). bytes_in (trim nabc w)) (sym more));
      first = ap first_of more ∙ (first ∙ ap (λ (b : Bool). cond b (Some c) None) (ap (λ (b : Bool). b && begins_code c) starts ∙ sym letters.0));
      joined = ap joins more ∙ (ap (is_in 33) (last_is u c) ∙ (or-false (c == 33) ∙ sym letters.1));
    }
  where
    go : (v w : List ℕ) (k l : ℕ) (b : Bool) → k ≡ bytes_in v → l ≡ bytes_in w → cond b k l ≡ bytes_in (cond b v w)
    go v w k l b p q = grind arith

-- ---- what is emitted

-- nothing after the end
pub after_end : (t : List ℕ) (st : NabcStage) (xs : List Char) → st.ended ≡ true → has_end t ≡ true → events_left st xs ≡ nabc_events_after t xs
after_end t st [] e f = rw (e, f) refl
after_end t st (x ∷ xs) e f =
    let more : has_end (t ++ x.c ∷ []) ≡ true = end_more t x.c ∙ ap (λ (b : Bool). b || is_end t x.c) f in
    let emitted : stage_events_at st x ≡ events_at t x = rw (e, f) refl in
    let same : stage_after st x.c ≡ st = rw e refl in
    ap (λ (g : List NoteEvent). g ∷ events_left (stage_after st x.c) xs) emitted
    ∙ ap (λ (l : List (List NoteEvent)). events_at t x ∷ l) (ap (λ (s : NabcStage). events_left s xs) same ∙ after_end (t ++ x.c ∷ []) st xs e more)

-- a character, and what follows it
one : (t : List ℕ) (st next : NabcStage) (x : Char) (xs : List Char) → stage_events_at st x ≡ events_at t x → stage_after st x.c ≡ next
    → events_left next xs ≡ nabc_events_after (t ++ x.c ∷ []) xs → events_left st (x ∷ xs) ≡ nabc_events_after t (x ∷ xs)
one t st next x xs g s h = cc

one_if : (b : Bool) (y : NoteEvent) → option_to_list (cond b (Some y) None) ≡ cond b (y ∷ []) []
one_if b y = grind arith

one_unless : (b : Bool) (y : NoteEvent) → option_to_list (cond b None (Some y)) ≡ cond b [] (y ∷ [])
one_unless b y = grind arith

-- a stage that knows what it needs of a text emits what follows it
pub goes_on_emitted : (xs : List Char) (t : List ℕ) (st : NabcStage) → Reached t st → events_left st xs ≡ nabc_events_after t xs
goes_on_emitted [] t st r = rw (r.running, r.unended, r.kept) refl
goes_on_emitted (x ∷ xs) t st r =
    go (in_comment t) ((x.c == 41) || (x.c == 124)) (is_in x.c (37 ∷ 32 ∷ 9 ∷ 10 ∷ [])) (next_state st.state (class_of_character x.c)) refl refl refl refl (goes_on_emitted xs)
  where
    go : (b m k : Bool) (o : Option DescriptorState) → in_comment t ≡ b → (x.c == 41) || (x.c == 124) ≡ m → is_in x.c (37 ∷ 32 ∷ 9 ∷ 10 ∷ []) ≡ k
        → next_state st.state (class_of_character x.c) ≡ o
        → ((u : List ℕ) (s : NabcStage) → Reached u s → events_left s xs ≡ nabc_events_after u xs)
        → events_left st (x ∷ xs) ≡ nabc_events_after t (x ∷ xs)
    go true m k o e f g n later =
        let open_comment : st.comment ≡ true = r.comment ∙ e in
        let no_end : is_end t x.c ≡ false = rw e refl in
        let no_character : is_character t x.c ≡ false = rw e refl in
        let silent : stage_events_at st x ≡ [] = rw (r.running, open_comment) refl in
        let events : events_at t x ≡ [] = rw (r.unended, no_end, no_character) refl in
        one t st (record st { comment = comment_in st.comment x.c }) x xs (silent ∙ sym events) (rw (r.running, open_comment) refl)
        (later (t ++ x.c ∷ []) (record st { comment = comment_in st.comment x.c }) (stays t st x.c r no_end (kept_same t x.c no_character)))
    go false true k o e f g n later =
        let closed : st.comment ≡ false = r.comment ∙ e in
        let ends : is_end t x.c ≡ true = rw (e, f) refl in
        let emitted : stage_events_at st x ≡ option_to_list (cond (whole_at st.state) None (Some (finding_event x.place E6))) ++ Ended (end_by_mark x.c) st.whole ∷ [] = rw (r.running, closed, f) refl in
        let events : events_at t x ≡ end_events (kept_of t) x = rw (r.unended, ends) refl in
        let whole = whole_is nabc machine snippets_read st.state (kept_of t) r.stands in
        let same : option_to_list (cond (whole_at st.state) None (Some (finding_event x.place E6))) ++ Ended (end_by_mark x.c) st.whole ∷ [] ≡ end_events (kept_of t) x =
        ap (λ (l : List NoteEvent). l ++ Ended (end_by_mark x.c) st.whole ∷ []) (one_unless (whole_at st.state) (finding_event x.place E6) ∙ ap (λ (b : Bool). cond b [] (finding_event x.place E6 ∷ [])) (sym whole))
        ∙ ap (λ (k : ℕ). cond (is_snippet nabc (kept_of t)) [] (finding_event x.place E6 ∷ []) ++ Ended (end_by_mark x.c) k ∷ []) r.whole in
        one t st (record st { ended = true }) x xs (emitted ∙ (same ∙ sym events)) (rw (r.running, closed, f) refl)
        (after_end (t ++ x.c ∷ []) (record st { ended = true }) xs refl (end_more t x.c ∙ rw (r.unended, ends) refl))
    go false false true o e f g n later =
        let closed : st.comment ≡ false = r.comment ∙ e in
        let no_end : is_end t x.c ≡ false = rw (e, f) refl in
        let no_character : is_character t x.c ≡ false = rw (e, g) refl in
        let emitted : stage_events_at st x ≡ [] = rw (r.running, closed, f, g) refl in
        let events : events_at t x ≡ [] = rw (r.unended, no_end, no_character) refl in
        one t st (record st { comment = comment_in st.comment x.c }) x xs (emitted ∙ sym events) (rw (r.running, closed, f, g) refl)
        (later (t ++ x.c ∷ []) (record st { comment = comment_in st.comment x.c }) (stays t st x.c r no_end (kept_same t x.c no_character)))
    go false false false None e f g n later =
        let closed : st.comment ≡ false = r.comment ∙ e in
        let no_end : is_end t x.c ≡ false = rw (e, f) refl in
        let character : is_character t x.c ≡ true = rw (e, g) refl in
        let viable : is_viable nabc (kept_of t ++ x.c ∷ []) ≡ false = viable_at_next t st x.c None r n in
        let same : kept_of (t ++ x.c ∷ []) ≡ kept_of t = kept_more t x.c character ∙ rw viable refl in
        let emitted : stage_events_at st x ≡ finding_event x.place E3 ∷ [] = rw (r.running, closed, f, g, n) refl in
        let events : events_at t x ≡ finding_event x.place E3 ∷ [] = rw (r.unended, no_end, character, viable) refl in
        one t st (record st { comment = comment_in st.comment x.c }) x xs (emitted ∙ sym events) (rw (r.running, closed, f, g, n) refl)
        (later (t ++ x.c ∷ []) (record st { comment = comment_in st.comment x.c }) (stays t st x.c r no_end same))
    go false false false (Some z) e f g n later =
        let closed : st.comment ≡ false = r.comment ∙ e in
        let no_end : is_end t x.c ≡ false = rw (e, f) refl in
        let character : is_character t x.c ≡ true = rw (e, g) refl in
        let viable : is_viable nabc (kept_of t ++ x.c ∷ []) ≡ true = viable_at_next t st x.c (Some z) r n in
        let emitted : stage_events_at st x ≡ Kept x ∷ option_to_list (cond (is_missing (first_at st.state st.letter) x.c) (Some (finding_event x.place W7)) None) = rw (r.running, closed, f, g, n) refl in
        let events : events_at t x ≡ Kept x ∷ cond (is_missing (first_of (kept_of t)) x.c) (finding_event x.place W7 ∷ []) [] = rw (r.unended, no_end, character, viable) refl in
        let same : Kept x ∷ option_to_list (cond (is_missing (first_at st.state st.letter) x.c) (Some (finding_event x.place W7)) None) ≡ Kept x ∷ cond (is_missing (first_of (kept_of t)) x.c) (finding_event x.place W7 ∷ []) [] =
        ap (λ (l : List NoteEvent). Kept x ∷ l) (one_if (is_missing (first_at st.state st.letter) x.c) (finding_event x.place W7) ∙ ap (λ (a : Option ℕ). cond (is_missing a x.c) (finding_event x.place W7 ∷ []) []) (sym r.first)) in
        one t st (record st { state = z; letter = x.c; comment = comment_in st.comment x.c; kept = count_plus st.kept x.c; whole = cond (whole_at z) (count_plus st.kept x.c) st.whole }) x xs (emitted ∙ (same ∙ sym events)) (rw (r.running, closed, f, g, n) refl)
        (later (t ++ x.c ∷ []) (record st { state = z; letter = x.c; comment = comment_in st.comment x.c; kept = count_plus st.kept x.c; whole = cond (whole_at z) (count_plus st.kept x.c) st.whole })
        (goes_on t st x.c z r no_end character n))

-- a fresh stage
abbrev pub fresh_stage : NabcStage
fresh_stage = record { state = Start; letter = 47; comment = false; kept = 0; whole = 0; ended = false }

pub fresh_reached : Reached [] fresh_stage
fresh_reached = grind arith

pub fresh : (xs : List Char) → events_left fresh_stage xs ≡ nabc_events_after [] xs
fresh xs = goes_on_emitted xs [] fresh_stage fresh_reached
