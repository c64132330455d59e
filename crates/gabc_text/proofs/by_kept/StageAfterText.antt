-- Where a fresh stage stands after a text, by the tokens of the text, and what is kept of it.
use Rattle.std.proofs.Common.{arith, ◌≡◌, ◌==◌, ℕ, List, [], ◌∷◌, ◌++◌, Bool, true, false, cond, Option, Some, None, option_to_list, refl, sym, ap, ◌∙◌, subst, append-nil, append_assoc}
use Rattle.gabc_places.specs.declared.place.Place.{Place}
use Rattle.gabc_text.specs.declared.text_facts.TextFacts.{TextFacts}
use Rattle.gabc_text.specs.declared.token.TokenKind.{TokenKind}
use Rattle.gabc_text.specs.declared.token.TagEffect.{TagEffect}
use Rattle.gabc_text.specs.declared.token.TagEffect.TheVariants.{Other}
use Rattle.gabc_text.specs.declared.token_state.TokenState.{TokenState}
use Rattle.gabc_text.specs.declared.token_state.Step.{Step}
use Rattle.gabc_text.specs.declared.token_state.Step.TheVariants.{Stays, Ends}
use Rattle.gabc_text.specs.declared.stage.TextStage.{TextStage}
use Rattle.gabc_text.specs.Token.{Token, spelling, tokens}
use Rattle.gabc_text.specs.View.{effect, kept, kept_at as token_kept, is_open_kind}
use Rattle.gabc_text.specs.Events.{kept_of, option_list_of, is_lone}
use Rattle.gabc_text.specs.KeptText.{belongs}
use Rattle.gabc_text.specs.TextStage.{fresh_stage}
use Rattle.gabc_text.specs.witness.EventsLeft.{kept_by}
use Rattle.gabc_text.specs.machine.RawPart.{stage_past}
use Rattle.gabc_text.specs.machine.Resuming.{kept_at, kept_past}
use Rattle.gabc_text.specs.machine.TextFacts.{facts_after}
use Rattle.gabc_text.specs.machine.TextStage.{settle_stage, settle_stage_by, settled_push_stage, read_stage, stage_past_char, stage_after_step, push_stage}
use Rattle.gabc_text.specs.machine.TokenState.{settled_kind, next_step, step_at_tag_end, keep, kind_at_end, is_plain}
use Rattle.gabc_text.proofs.events.EventsBuildText.{along_onto, kept_so}
use Rattle.gabc_text.proofs.machine.EventsOfOpenToken.{KeptGo, kept_goes, not_lone}
use Rattle.gabc_text.proofs.machine.FactsOfTokens.{facts_of, facts_more}
use Rattle.gabc_text.proofs.machine.KeptOfOpenToken.{kept_held, sort_settled, ends_uncut}
use Rattle.gabc_text.proofs.machine.TokenStateByCharacter.{Holds, WentBy, goes, settles, ends, EndsAs}
use Rattle.gabc_text.proofs.machine.TokensOneAfterAnother.{onto}
use Rattle.gabc_text.proofs.resuming.ReachedStages.{goes_on}

-- no character is part of the last of these tokens
abbrev pub IsQuiet : List Token → Type 0
IsQuiet before = (c : ℕ) → belongs before c ≡ false

-- After a text that has not ended: the tokens that are whole, the nearest first, and what was read of the next one.
pub record Stands (s : TextStage) (p : List ℕ) : Type 0 where
  pub before : List Token
  pub held : List ℕ
  pub going : s.ended ≡ false
  pub holds : Holds s.state held
  pub cuts : (u : List ℕ) → onto (tokens (p ++ u)) [] ≡ onto (tokens (held ++ u)) before
  pub facts : s.facts ≡ facts_of before
  pub quiet : is_plain s.state ≡ true → IsQuiet before

abbrev pub kept_there : (s : TextStage) (p : List ℕ) → Stands s p → List ℕ
kept_there s p h = kept_of h.before ++ kept_held s.state h.held

-- ---- before a character, if a token ends there

pub record Settled (s : TextStage) (p : List ℕ) (c : ℕ) : Type 0 where
  pub before : List Token
  pub held : List ℕ
  pub going : s.ended ≡ false
  pub holds : Holds s.state held
  pub none : settled_kind s.state c ≡ None
  pub cuts : (u : List ℕ) → onto (tokens (p ++ c ∷ u)) [] ≡ onto (tokens (held ++ c ∷ u)) before
  pub facts : s.facts ≡ facts_of before

pub token_facts : (before : List Token) (facts : TextFacts) (k : TokenKind) (so : TagEffect) (token : Token) → facts ≡ facts_of before → token.kind ≡ k → effect token ≡ so → facts_after facts k so ≡ facts_of (token ∷ before)
token_facts before facts k so token e f g = rw (e, ← f, ← g) (facts_more before token)

token_is_kept : (before : List Token) (facts : TextFacts) (k : TokenKind) (token : Token) → facts ≡ facts_of before → token.kind ≡ k → token_kept before token ≡ kept_by facts k (spelling token)
token_is_kept before facts k token e f = rw (e, ← f) refl

settled_kept : (facts : TextFacts) (state : TokenState) (held : List ℕ) (c : ℕ) (k : TokenKind) → settled_kind state c ≡ Some k → kept_held state held ≡ kept_by facts k held
settled_kept facts state held c k e = grind arith

pub record SettledWell (s r : TextStage) (p : List ℕ) (c : ℕ) (h : Stands s p) : Type 0 where
  pub there : Settled r p c
  pub kept : kept_of there.before ++ kept_held r.state there.held ≡ kept_there s p h

pub settle : (s : TextStage) (p : List ℕ) (c : ℕ) (h : Stands s p) → SettledWell s (settle_stage s c) p c h
settle s p c h = by (settled_kind s.state c) refl
  where
    by : (o : Option TokenKind) → settled_kind s.state c ≡ o → SettledWell s (settle_stage_by s o) p c h
    by None e = record {
      there = record { before = h.before; held = h.held; going = h.going; holds = h.holds; none = e; cuts = λ u. h.cuts (c ∷ u); facts = h.facts };
      kept = refl;
    }
    by (Some k) e =
        let t = settles s.state h.held c k h.holds e in
        let sort : effect t.token ≡ Other = sort_settled s.state c t.token (e ∙ ap (λ (x : TokenKind). Some x) (sym t.kind_is)) in
        record {
          there = record {
            before = t.token ∷ h.before;
            held = [];
            going = h.going;
            holds = refl;
            none = refl;
            cuts = λ u. h.cuts (c ∷ u) ∙ ap (λ (ks : List Token). onto ks h.before) (t.cuts u);
            facts = token_facts h.before s.facts k Other t.token h.facts t.kind_is sort;
          };
          kept = append-nil (kept_of h.before ++ token_kept h.before t.token)
              ∙ ap (λ (x : List ℕ). kept_of h.before ++ x) (token_is_kept h.before s.facts k t.token h.facts t.kind_is
              ∙ ap (kept_by s.facts k) t.spelled ∙ sym (settled_kept s.facts s.state h.held c k e));
        }

-- ---- past a character

-- a token that goes on is one
abbrev IsWithin : Step → Type 0
IsWithin (Stays m) = is_plain m ≡ false
IsWithin (Ends k so) = Unit {0}

either_within : (b : Bool) (x y : Step) → IsWithin x → IsWithin y → IsWithin (cond b x y)
either_within b x y f g = grind arith

tag_within : (so : TagEffect) → IsWithin (step_at_tag_end so)
tag_within so = grind arith

step_within : (state : TokenState) (c : ℕ) → IsWithin (next_step state c)
step_within state c = grind (arith, either_within, tag_within)

never_between : (state : TokenState) (c : ℕ) (m : TokenState) → next_step state c ≡ Stays m → is_plain m ≡ false
never_between state c m e = subst IsWithin e (step_within state c)

quiet_after : (before : List Token) (k : Token) → is_open_kind k.kind ≡ false → is_lone k ≡ false → IsQuiet (k ∷ before)
quiet_after before k e f c = rw (e, f) refl

same_list : (o : Option ℕ) → option_list_of o ≡ option_to_list o
same_list o = grind arith

pub record GoesPast (s r : TextStage) (p : List ℕ) (c : ℕ) (was more : List ℕ) : Type 0 where
  pub there : Stands r (p ++ c ∷ [])
  pub kept : kept_there r (p ++ c ∷ []) there ≡ was ++ more

read : (s : TextStage) (p : List ℕ) (c : ℕ) (h : Settled s p c) → (is_plain s.state ≡ true → c == 40 ≡ false)
    → GoesPast s (read_stage s c) p c (kept_of h.before ++ kept_held s.state h.held) (option_to_list (keep s.facts s.state c))
read s p c h apart = by (next_step s.state c) refl (goes s.state h.held c h.holds h.none (λ e. apart (rw e refl))) (kept_goes s.facts s.state h.held c (λ e. subst (λ (m : TokenState). Holds m h.held) e h.holds))
  where
    joined : (u : List ℕ) → onto (tokens ((p ++ c ∷ []) ++ u)) [] ≡ onto (tokens (h.held ++ c ∷ u)) h.before
    joined u = ap (λ (x : List ℕ). onto (tokens x) []) (append_assoc p (c ∷ []) u) ∙ h.cuts u

    whole : (x : List ℕ) → kept_held s.state h.held ++ option_list_of (keep s.facts s.state c) ≡ x
        → kept_of h.before ++ x ≡ (kept_of h.before ++ kept_held s.state h.held) ++ option_to_list (keep s.facts s.state c)
    whole x e =
        ap (λ (y : List ℕ). kept_of h.before ++ y) (sym e ∙ ap (λ (y : List ℕ). kept_held s.state h.held ++ y) (same_list (keep s.facts s.state c)))
        ∙ sym (append_assoc (kept_of h.before) (kept_held s.state h.held) (option_to_list (keep s.facts s.state c)))

    by : (w : Step) → next_step s.state c ≡ w → WentBy w h.held c → KeptGo s.facts (kept_held s.state h.held ++ option_list_of (keep s.facts s.state c)) h.held c w
        → GoesPast s (stage_after_step (stage_past_char s c) w) p c (kept_of h.before ++ kept_held s.state h.held) (option_to_list (keep s.facts s.state c))
    by (Stays m) e went k = record {
      there = record {
        before = h.before;
        held = h.held ++ c ∷ [];
        going = h.going;
        holds = went;
        cuts = λ u. joined u ∙ ap (λ (x : List ℕ). onto (tokens x) h.before) (sym (append_assoc h.held (c ∷ []) u));
        facts = h.facts;
        quiet = λ f. absurd (let g : true ≡ false = sym f ∙ never_between s.state c m e in cc);
      };
      kept = whole (kept_held m (h.held ++ c ∷ [])) k;
    }
    by (Ends d so) e went k = record {
      there = record {
        before = went.token ∷ h.before;
        held = [];
        going = h.going;
        holds = refl;
        cuts = λ u. joined u ∙ ap (λ (ks : List Token). onto ks h.before) (went.cuts u);
        facts = token_facts h.before s.facts d so went.token h.facts went.kind_is went.sort_is;
        quiet = λ _. quiet_after h.before went.token (ap is_open_kind went.kind_is ∙ ends_uncut s.state c d so e)
            (not_lone s.state h.held c went.token so h.holds (e ∙ ap (λ (x : TokenKind). Ends x so) (sym went.kind_is)) went.spelled);
      };
      kept = append-nil (kept_of h.before ++ token_kept h.before went.token)
          ∙ whole (token_kept h.before went.token) (k ∙ ap (kept_by s.facts d) (sym went.spelled) ∙ sym (token_is_kept h.before s.facts d went.token h.facts went.kind_is));
    }

-- the character does not end the text
apart_from_notes : (r : TextStage) (c : ℕ) → (settled_push_stage r c).ended ≡ false → is_plain r.state ≡ true → c == 40 ≡ false
apart_from_notes r c e f = grind arith

pub goes_so : (r : TextStage) (c : ℕ) → (settled_push_stage r c).ended ≡ false → settled_push_stage r c ≡ read_stage r c
goes_so r c e = grind arith

pub pushed : (s : TextStage) (c : ℕ) → s.ended ≡ false → push_stage s c ≡ settled_push_stage (settle_stage s c) c
pushed s c e = rw e refl

-- one character more
pub stands_on : (s : TextStage) (p : List ℕ) (c : ℕ) (h : Stands s p) → (push_stage s c).ended ≡ false → GoesPast s (push_stage s c) p c (kept_there s p h) (option_to_list (kept_at s c))
stands_on s p c h on =
    let r = settle s p c h in
    let now : (settled_push_stage (settle_stage s c) c).ended ≡ false = sym (ap (λ (x : TextStage). x.ended) (pushed s c h.going)) ∙ on in
    subst (λ (x : TextStage). GoesPast s x p c (kept_there s p h) (option_to_list (kept_at s c))) (sym (pushed s c h.going ∙ goes_so (settle_stage s c) c now))
    (subst (λ (x : List ℕ). GoesPast s (read_stage (settle_stage s c) c) p c x (option_to_list (kept_at s c))) r.kept
    (let g = read (settle_stage s c) p c r.there (apart_from_notes (settle_stage s c) c now) in record { there = g.there; kept = g.kept }))

pub stands_fresh : (at : Place) → Stands (fresh_stage at) []
stands_fresh at = record { before = []; held = []; going = refl; holds = refl; cuts = λ u. refl; facts = refl; quiet = λ _ c. refl }

-- ---- what is kept of the text

held_kept : (state : TokenState) (held : List ℕ) (before : List Token) → Holds state held → kept_of (onto (tokens held) before) ≡ kept_of before ++ kept_held state held
held_kept state held before h = by state refl (ends state held h)
  where
    one : (k : Token) (m : TokenState) (d : TokenKind) → kind_at_end m ≡ Some d → k.kind ≡ d → spelling k ≡ held → token_kept before k ≡ kept_held m held
    one k m d e f g = grind arith

    by : (m : TokenState) → state ≡ m → EndsAs (kind_at_end m) held → kept_of (onto (tokens held) before) ≡ kept_of before ++ kept_held m held
    by m e = go (kind_at_end m) refl
      where
        go : (o : Option TokenKind) → kind_at_end m ≡ o → EndsAs o held → kept_of (onto (tokens held) before) ≡ kept_of before ++ kept_held m held
        go None f g = ap (λ (ks : List Token). kept_of (onto ks before)) g ∙ sym (append-nil (kept_of before)) ∙ ap (λ (x : List ℕ). kept_of before ++ x) (nothing m f)
          where
            nothing : (m : TokenState) → kind_at_end m ≡ None → [] ≡ kept_held m held
            nothing m e = grind arith
        go (Some d) f g = ap (λ (ks : List Token). kept_of (onto ks before)) g.3 ∙ ap (λ (x : List ℕ). kept_of before ++ x) (one g.0 m d f g.1 g.2)

pub kept_onto : (t : List ℕ) → kept t ≡ kept_of (onto (tokens t) [])
kept_onto t = sym (kept_so (onto (tokens t) []) ∙ along_onto token_kept (tokens t) [])

pub kept_is_there : (s : TextStage) (p : List ℕ) (h : Stands s p) → kept p ≡ kept_there s p h
kept_is_there s p h =
    kept_onto p
    ∙ ap kept_of (ap (λ (x : List ℕ). onto (tokens x) []) (sym (append-nil p)) ∙ h.cuts [] ∙ ap (λ (x : List ℕ). onto (tokens x) h.before) (append-nil h.held))
    ∙ held_kept s.state h.held h.before h.holds

pub kept_one_more : (s : TextStage) (p : List ℕ) (c : ℕ) → Stands s p → (push_stage s c).ended ≡ false → kept (p ++ c ∷ []) ≡ kept p ++ option_to_list (kept_at s c)
kept_one_more s p c h on =
    let g = stands_on s p c h on in
    kept_is_there (push_stage s c) (p ++ c ∷ []) g.there ∙ g.kept ∙ ap (λ (x : List ℕ). x ++ option_to_list (kept_at s c)) (sym (kept_is_there s p h))

-- a text more
pub stands_past : (s : TextStage) (p t : List ℕ) → Stands s p → (stage_past s t).ended ≡ false → Stands (stage_past s t) (p ++ t)
stands_past s p [] h on = subst (Stands s) (sym (append-nil p)) h
stands_past s p (c ∷ t) h on =
    subst (Stands (stage_past (push_stage s c) t)) (append_assoc p (c ∷ []) t)
    (stands_past (push_stage s c) (p ++ c ∷ []) t (stands_on s p c h (goes_on (push_stage s c) t on)).there on)

pub kept_more_past : (s : TextStage) (p t : List ℕ) → Stands s p → (stage_past s t).ended ≡ false → kept (p ++ t) ≡ kept p ++ kept_past s t
kept_more_past s p [] h on = ap kept (append-nil p) ∙ sym (append-nil (kept p))
kept_more_past s p (c ∷ t) h on =
    let one = goes_on (push_stage s c) t on in
    ap kept (sym (append_assoc p (c ∷ []) t))
    ∙ kept_more_past (push_stage s c) (p ++ c ∷ []) t (stands_on s p c h one).there on
    ∙ ap (λ (x : List ℕ). x ++ kept_past (push_stage s c) t) (kept_one_more s p c h one)
    ∙ append_assoc (kept p) (option_to_list (kept_at s c)) (kept_past (push_stage s c) t)
