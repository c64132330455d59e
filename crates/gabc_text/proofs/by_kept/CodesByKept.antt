-- What is found with a character that is kept follows from the tokens of what is kept.
use Rattle.std.proofs.Common.{arith, ◌≡◌, ◌==◌, ◌&&◌, not, ℕ, List, [], ◌∷◌, ◌++◌, Bool, true, false, cond, Option, Some, None, refl, sym, ap, ◌∙◌, subst}
use Rattle.std.proofs.lemmas.Bool.Decides.{nat_tests}
use Rattle.gabc_places.specs.Fate.{Fate, Keep, LeaveOut}
use Rattle.gabc_places.specs.declared.code.Code.{Code}
use Rattle.gabc_places.specs.declared.code.Code.TheVariants.{W4, W5}
use Rattle.gabc_text.specs.declared.text_facts.TextFacts.{TextFacts}
use Rattle.gabc_text.specs.declared.token.TokenKind.{TokenKind}
use Rattle.gabc_text.specs.declared.token.TagEffect.{TagEffect}
use Rattle.gabc_text.specs.declared.token.TagEffect.TheVariants.{Other}
use Rattle.gabc_text.specs.declared.token_state.TokenState.{TokenState}
use Rattle.gabc_text.specs.declared.token_state.TokenState.TheVariants.{Plain, Dollar, Comment, Tag, Raw, Translation}
use Rattle.gabc_text.specs.declared.token_state.Step.{Step}
use Rattle.gabc_text.specs.declared.token_state.Step.TheVariants.{Stays, Ends}
use Rattle.gabc_text.specs.declared.stage.TextStage.{TextStage}
use Rattle.gabc_text.specs.Token.{Token, spelling, tokens, single, is_blank}
use Rattle.gabc_text.specs.View.{effect, effect_as, has_translation}
use Rattle.gabc_text.specs.Events.{option_list_of}
use Rattle.gabc_text.specs.KeptText.{codes_with}
use Rattle.gabc_text.specs.KeptText as by_kept
use Rattle.gabc_text.specs.witness.EventsLeft.{codes_by}
use Rattle.gabc_text.specs.witness.FactsPast.{leaves_out}
use Rattle.gabc_text.specs.machine.TextFacts.{early_at}
use Rattle.gabc_text.specs.machine.TokenState.{next_step, keep, kind_at_end, is_plain}
use Rattle.gabc_text.proofs.by_kept.EmittedByStages.{step_codes, codes_here}
use Rattle.gabc_text.proofs.by_kept.FatesInText.{open_by, by_facts}
use Rattle.gabc_text.proofs.by_kept.StageAfterText.{Settled}
use Rattle.gabc_text.proofs.machine.FactsOfTokens.{facts_of}
use Rattle.gabc_text.proofs.machine.KeptOfOpenToken.{is_within, is_kept_whole, IsKept, within_kept}
use Rattle.gabc_text.proofs.machine.TokenStateByCharacter.{Holds, WentBy, goes, ends, EndsAs}
use Rattle.gabc_text.proofs.machine.TokensOneAfterAnother.{onto}
use Rattle.gabc_text.proofs.tokens.CasesOfCharacters.{by_case, single_kind}

-- ---- within a token

ends_codes : (before : List Token) (f : TextFacts) (k : Token) (d : TokenKind) (so : TagEffect) → f ≡ facts_of before → k.kind ≡ d → effect k ≡ so → is_kept_whole d ≡ true → codes_with (k ∷ before) ≡ codes_by f d so
ends_codes before f k d so e g h w =
    ap (λ (x : TokenKind). by_kept.codes_by before x k.more (effect k)) g
    ∙ ap (by_kept.codes_by before d k.more) h
    ∙ by d w
    ∙ ap (λ (x : TextFacts). codes_by x d so) (sym e)
  where
    by : (d : TokenKind) → is_kept_whole d ≡ true → by_kept.codes_by before d k.more so ≡ codes_by (facts_of before) d so
    by d w = grind (arith, open_by)

stays_codes : (before : List Token) (k : Token) (n : TokenState) (d : TokenKind) (y : ℕ) (ys : List ℕ) → kind_at_end n ≡ Some d → k.kind ≡ d → is_within n ≡ true → k.more ≡ y ∷ ys → codes_with (k ∷ before) ≡ []
stays_codes before k n d y ys e g w m =
    ap (λ (x : TokenKind). by_kept.codes_by before x k.more (effect k)) g ∙ ap (λ (x : List ℕ). by_kept.codes_by before d x (effect k)) m ∙ by n e w
  where
    by : (n : TokenState) → kind_at_end n ≡ Some d → is_within n ≡ true → by_kept.codes_by before d (y ∷ ys) (effect k) ≡ []
    by n e w = grind arith

early_within : (f : TextFacts) (m : TokenState) (c : ℕ) → is_within m ≡ true → early_at f m c ≡ None
early_within f m c w = grind arith

some_held : (m : TokenState) (held : List ℕ) → is_within m ≡ true → Holds m held → (x : ℕ) × ((xs : List ℕ) × (held ≡ x ∷ xs))
some_held Dollar held w h = (36, ([], h))
some_held (Tag name) held w h = (60, (h.s, h.held_is))
some_held (Raw raw n) held w h = (60, ((h.s ++ 62 ∷ []) ++ h.r, h.held_is))
some_held Translation held w h = (91, (h.s, h.held_is))
some_held _ held w h = absurd (cc)

more_is : (k : Token) (held : List ℕ) (c x : ℕ) (xs : List ℕ) → spelling k ≡ held ++ c ∷ [] → held ≡ x ∷ xs → k.more ≡ xs ++ c ∷ []
more_is k held c x xs e f = let g : k.first ∷ k.more ≡ x ∷ (xs ++ c ∷ []) = e ∙ ap (λ (s : List ℕ). s ++ c ∷ []) f in cc

codes_within : (t : TextStage) (p : List ℕ) (c : ℕ) (h : Settled t p c) → is_within t.state ≡ true → codes_with (onto (tokens (p ++ c ∷ [])) []) ≡ codes_here t.facts t.state c
codes_within t p c h w =
    ap codes_with (h.cuts [])
    ∙ by (next_step t.state c) refl (goes t.state h.held c h.holds h.none (λ e. absurd (let g = ap is_within e in let i = sym w ∙ g in cc))) (within_kept t.state c w)
    ∙ ap (λ (o : Option Code). option_list_of o ++ step_codes t.facts (next_step t.state c)) (sym (early_within t.facts t.state c w))
  where
    some_more : (xs : List ℕ) → (y : ℕ) × ((ys : List ℕ) × (xs ++ c ∷ [] ≡ y ∷ ys))
    some_more [] = (c, ([], refl))
    some_more (x ∷ xs) = (x, (xs ++ c ∷ [], refl))

    by : (v : Step) → next_step t.state c ≡ v → WentBy v h.held c → IsKept v → codes_with (onto (tokens (h.held ++ c ∷ [])) h.before) ≡ step_codes t.facts v
    by (Ends d so) e went i =
        ap (λ (ks : List Token). codes_with (onto ks h.before)) (went.cuts [])
        ∙ ends_codes h.before t.facts went.token d so h.facts went.kind_is went.sort_is i
    by (Stays n) e went i = go (kind_at_end n) refl (ends n (h.held ++ c ∷ []) went)
      where
        go : (o : Option TokenKind) → kind_at_end n ≡ o → EndsAs o (h.held ++ c ∷ []) → codes_with (onto (tokens (h.held ++ c ∷ [])) h.before) ≡ []
        go None f g = absurd (never n f i)
          where
            never : (n : TokenState) → kind_at_end n ≡ None → is_within n ≡ true → ⊥
            never n f i = grind arith
        go (Some d) f g =
            let x = some_held t.state h.held w h.holds in
            let y = some_more x.1.0 in
            ap (λ (ks : List Token). codes_with (onto ks h.before)) g.3
            ∙ stays_codes h.before g.0 n d y.0 y.1.0 f g.1 i (more_is g.0 h.held c x.0 x.1.0 g.2 x.1.1 ∙ y.1.1)

-- ---- between tokens

abbrev BetweenAt : List Token → TextFacts → ℕ → Type 0
BetweenAt before f c = c == 40 ≡ false → c == 37 ≡ false → leaves_out f (single c) ≡ false → codes_with (onto (tokens (c ∷ [])) before) ≡ codes_here f Plain c

second : (b : Bool) → cond b (W5 ∷ []) [] ≡ option_list_of (cond b (Some W5) None) ++ []
second b = grind arith

matched : (b : Bool) → not b ≡ false → [] ≡ cond b [] (W4 ∷ [])
matched b e = grind arith

codes_between : (before : List Token) (f : TextFacts) (c : ℕ) → f ≡ facts_of before → BetweenAt before f c
codes_between before f c e =
    by_case 36 c (BetweenAt before f) (λ a b l. refl) (λ e36.
    by_case 60 c (BetweenAt before f) (λ a b l. refl) (λ e60.
    by_case 91 c (BetweenAt before f) (λ a b l. rw e (second (has_translation before))) (λ e91.
    λ a b l. rw (a, b, e36, e60, e91) (single_kind (λ k. leaves_out f k ≡ false → by_kept.codes_by before k [] (effect_as k (c ∷ [])) ≡ codes_by f k Other)
    (λ g. refl) (λ g. absurd (cc)) (λ g. rw g refl) (λ g. matched (f.begun && not f.ended) g) (λ g. refl) c l))))

-- ---- of any character that is kept

kept_between : (f : TextFacts) (c x : ℕ) → keep f Plain c ≡ Some x → (c == 37 ≡ false) × (leaves_out f (single c) ≡ false)
kept_between f c x e = grind arith

pub codes_kept : (t : TextStage) (p : List ℕ) (c x : ℕ) (h : Settled t p c) → keep t.facts t.state c ≡ Some x → (is_plain t.state ≡ true → c == 40 ≡ false)
    → codes_with (onto (tokens (p ++ c ∷ [])) []) ≡ codes_here t.facts t.state c
codes_kept t p c x h k apart = by t.state refl
  where
    by : (m : TokenState) → t.state ≡ m → codes_with (onto (tokens (p ++ c ∷ [])) []) ≡ codes_here t.facts t.state c
    by Plain e =
        let w = kept_between t.facts c x (sym (ap (λ (m : TokenState). keep t.facts m c) e) ∙ k) in
        let none : h.held ≡ [] = subst (λ (m : TokenState). Holds m h.held) e h.holds in
        ap codes_with (h.cuts [] ∙ ap (λ (s : List ℕ). onto (tokens (s ++ c ∷ [])) h.before) none)
        ∙ codes_between h.before t.facts c h.facts (apart (ap is_plain e)) w.0 w.1
        ∙ ap (λ (m : TokenState). codes_here t.facts m c) (sym e)
    by Comment e = absurd (let g : None ≡ Some x = sym (ap (λ (m : TokenState). keep t.facts m c) e) ∙ k in cc)
    by Dollar e = codes_within t p c h (ap is_within e)
    by (Tag name) e = codes_within t p c h (ap is_within e)
    by (Raw raw n) e = codes_within t p c h (ap is_within e)
    by Translation e = codes_within t p c h (ap is_within e)

-- ---- of one that is left out

-- what is found by the fate
abbrev pub IsFoundBy : Fate → List Code → Type 0
IsFoundBy Keep cs = Unit {0}
IsFoundBy (LeaveOut (Some code)) cs = cs ≡ code ∷ []
IsFoundBy _ cs = cs ≡ []

pub found_between : (f : TextFacts) (c : ℕ) → c == 40 ≡ false → IsFoundBy (by_facts f.begun f.ended f.space c) (codes_here f Plain c)
found_between f c e = grind (arith, nat_tests)

-- a blank is found with nothing, whatever blank it is
pub blank_found : (f : TextFacts) (c : ℕ) → is_blank c ≡ true → codes_here f Plain c ≡ []
blank_found f c e = grind (arith, nat_tests)
