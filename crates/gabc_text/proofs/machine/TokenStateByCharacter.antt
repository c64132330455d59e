-- What was read of a token, by the state, and what a character more does.
use Rattle.std.proofs.Common.{◌≡◌, ℕ, zero, suc, ◌+◌, ◌<◌, ◌==◌, nat_lt, List, [], ◌∷◌, ◌++◌, Bool, true, false, cond, refl, sym, ap, ◌∙◌, subst, ne_eqb, append_assoc, append-nil, length, length-take, take, drop, Option, Some, None, arith, codes}
use Rattle.std.proofs.lemmas.Bool.{eqb-true, eqb-false}
use Rattle.std.proofs.Math.Seq.{drop-append_seam}
use Rattle.gabc_text.specs.declared.token.TokenKind.{TokenKind}
use Rattle.gabc_text.specs.declared.token.TokenKind.TheVariants as kind
use Rattle.gabc_text.specs.declared.token.TagEffect.{TagEffect}
use Rattle.gabc_text.specs.declared.token.TagEffect.TheVariants.{Opens, Closes, Mark, Begins, Other}
use Rattle.gabc_text.specs.declared.token.RawKind.{RawKind}
use Rattle.gabc_text.specs.declared.token.RawKind.TheVariants.{V, Sp, Alt}
use Rattle.gabc_text.specs.declared.token_state.TokenState.{TokenState}
use Rattle.gabc_text.specs.declared.token_state.TokenState.TheVariants.{Plain, Dollar, Comment, Tag, Raw, Translation}
use Rattle.gabc_text.specs.declared.token_state.Step.{Step}
use Rattle.gabc_text.specs.declared.token_state.Step.TheVariants.{Stays, Ends}
use Rattle.gabc_text.specs.Token.{Token, spelling, tokens, token_at, token_of_tag, tag_at, ended_token, through, is_special, single, effect_of, ending_of}
use Rattle.gabc_text.specs.View.{effect, effect_as}
use Rattle.gabc_text.specs.machine.TokenState.{settled_kind, wanted_char, step_in_raw, step_at_tag_end, first_step, next_step, kind_at_end}
use Rattle.gabc_text.specs.machine.TagPrefix.{next_name}
use Rattle.gabc_text.proofs.tokens.TokensByCharacter.{tokens_first, lacks, lacks_more, before_lacks, before_all, through_one, through_none}
use Rattle.gabc_text.proofs.tokens.RawEndingIsMatched.{Matching, match_none, match_more, match_fails, match_ends, match_open, drop_one}
use Rattle.gabc_text.proofs.tokens.CasesOfCharacters.{single_kind}
use Rattle.gabc_text.proofs.machine.TagNameByCharacter.{IsName, name_more, name_ends}

-- in a tag, after `<` and s
pub record InTag (name held : List ℕ) : Type 0 where
  pub s : List ℕ
  pub held_is : held ≡ 60 ∷ s
  pub open_still : lacks 62 s ≡ true
  pub named : IsName name s

-- in a raw part, after its tag and r
pub record InRaw (raw : RawKind) (m : ℕ) (held : List ℕ) : Type 0 where
  pub s : List ℕ
  pub r : List ℕ
  pub held_is : held ≡ 60 ∷ (s ++ 62 ∷ []) ++ r
  pub tag_lacks : lacks 62 s ≡ true
  pub begins : effect_of (60 ∷ s ++ 62 ∷ []) ≡ Begins raw
  pub below : m < length (ending_of raw)
  pub matched : Matching (ending_of raw) r (take m (ending_of raw))

-- after a character and s, in which x is not
pub record Lacking (first x : ℕ) (held : List ℕ) : Type 0 where
  pub s : List ℕ
  pub held_is : held ≡ first ∷ s
  pub open_still : lacks x s ≡ true

-- what was read of the token
abbrev pub Holds : TokenState → List ℕ → Type 0
Holds Plain held = held ≡ []
Holds Dollar held = held ≡ 36 ∷ []
Holds Comment held = Lacking 37 10 held
Holds (Tag name) held = InTag name held
Holds (Raw raw m) held = InRaw raw m held
Holds Translation held = Lacking 91 93 held

-- the character ends the token
pub record Completes (held : List ℕ) (c : ℕ) (k : TokenKind) (s : TagEffect) : Type 0 where
  pub token : Token
  pub kind_is : token.kind ≡ k
  pub sort_is : effect token ≡ s
  pub spelled : spelling token ≡ held ++ c ∷ []
  pub cuts : (t : List ℕ) → tokens (held ++ c ∷ t) ≡ token ∷ tokens t

-- the token ends before the character
pub record Settles (held : List ℕ) (c : ℕ) (k : TokenKind) : Type 0 where
  pub token : Token
  pub kind_is : token.kind ≡ k
  pub spelled : spelling token ≡ held
  pub cuts : (t : List ℕ) → tokens (held ++ c ∷ t) ≡ token ∷ tokens (c ∷ t)

abbrev pub WentBy : Step → List ℕ → ℕ → Type 0
WentBy (Stays state) held c = Holds state (held ++ c ∷ [])
WentBy (Ends k s) held c = Completes held c k s

pub turned : (x c : ℕ) → c == x ≡ false → x == c ≡ false
turned x c e = ne_eqb x c (λ f. eqb-false c x e (sym f))

-- ---- between tokens

by_test : (b : Bool) (x y : Step) (held : List ℕ) (c : ℕ) → (b ≡ true → WentBy x held c) → (b ≡ false → WentBy y held c) → WentBy (cond b x y) held c
by_test b x y held c f g = grind arith

one_character : (c : ℕ) → c == 40 ≡ false → c == 36 ≡ false → c == 37 ≡ false → c == 60 ≡ false → c == 91 ≡ false → Completes [] c (single c) Other
one_character c e40 e36 e37 e60 e91 = record {
  token = record { kind = single c; first = c; more = [] };
  kind_is = refl;
  sort_is = single_kind (λ k. effect_as k (c ∷ []) ≡ Other) refl refl refl refl refl c;
  spelled = refl;
  cuts = λ t. tokens_first c t t (record { kind = single c; first = c; more = [] }) e40 (rw (e36, e37, e60, e91) refl) refl;
}

pub begins_token : (c : ℕ) → c == 40 ≡ false → WentBy (first_step c) [] c
begins_token c e40 =
    by_test (c == 36) _ _ [] c (λ e. ap (λ (x : ℕ). x ∷ []) (eqb-true c 36 e)) (λ e36.
    by_test (c == 37) _ _ [] c (λ e. record { s = []; held_is = ap (λ (x : ℕ). x ∷ []) (eqb-true c 37 e); open_still = refl }) (λ e37.
    by_test (c == 60) _ _ [] c (λ e. record { s = []; held_is = ap (λ (x : ℕ). x ∷ []) (eqb-true c 60 e); open_still = refl; named = λ t. refl }) (λ e60.
    by_test (c == 91) _ _ [] c (λ e. record { s = []; held_is = ap (λ (x : ℕ). x ∷ []) (eqb-true c 91 e); open_still = refl }) (λ e91.
    one_character c e40 e36 e37 e60 e91))))

-- ---- after a `$`

escaped : (c : ℕ) → is_special c ≡ true → Completes (36 ∷ []) c kind.Letter Other
escaped c e = record {
  token = record { kind = kind.Letter; first = 36; more = c ∷ [] };
  kind_is = refl;
  sort_is = refl;
  spelled = refl;
  cuts = λ t. tokens_first 36 (c ∷ t) t (record { kind = kind.Letter; first = 36; more = c ∷ [] }) refl (rw e refl) refl;
}

bare : (c : ℕ) → is_special c ≡ false → Settles (36 ∷ []) c kind.Letter
bare c e = record {
  token = record { kind = kind.Letter; first = 36; more = [] };
  kind_is = refl;
  spelled = refl;
  cuts = λ t. tokens_first 36 (c ∷ t) (c ∷ t) (record { kind = kind.Letter; first = 36; more = [] }) refl (rw e refl) refl;
}

-- ---- one character of a token that ends at the first x

more_lacking : (first x : ℕ) (held : List ℕ) (c : ℕ) → Lacking first x held → x == c ≡ false → Lacking first x (held ++ c ∷ [])
more_lacking first x held c h e = grind (arith, lacks_more)

comment_ends : (held : List ℕ) → Lacking 37 10 held → Settles held 10 kind.Comment
comment_ends held h = record {
  token = record { kind = kind.Comment; first = 37; more = h.s };
  kind_is = refl;
  spelled = sym h.held_is;
  cuts = λ t. ap (λ (u : List ℕ). tokens (u ++ 10 ∷ t)) h.held_is
      ∙ tokens_first 37 (h.s ++ 10 ∷ t) (10 ∷ t) (record { kind = kind.Comment; first = 37; more = h.s }) refl (rw (before_lacks 10 h.s t h.open_still) refl) refl;
}

translation_ends : (held : List ℕ) → Lacking 91 93 held → Completes held 93 kind.Translation Other
translation_ends held h = record {
  token = record { kind = kind.Translation; first = 91; more = h.s ++ 93 ∷ [] };
  kind_is = refl;
  sort_is = refl;
  spelled = ap (λ (u : List ℕ). u ++ 93 ∷ []) (sym h.held_is);
  cuts = λ t. ap (λ (u : List ℕ). tokens (u ++ 93 ∷ t)) h.held_is
      ∙ tokens_first 91 (h.s ++ 93 ∷ t) t (record { kind = kind.Translation; first = 91; more = h.s ++ 93 ∷ [] }) refl
      (rw (through_one 93 h.s t h.open_still) refl) (sym (append_assoc h.s (93 ∷ []) t));
}

-- ---- a tag

-- what a tag is that does not begin a raw part
abbrev is_no_raw : TagEffect → Type 0
is_no_raw (Begins raw) = ⊥
is_no_raw s = Unit {0}

plain_tag : (name t : List ℕ) (s : TagEffect) → is_no_raw s → token_of_tag name t s ≡ record { kind = kind.Tag; first = 60; more = name }
plain_tag name t s n = grind arith

tag_token : (s t : List ℕ) → lacks 62 s ≡ true → token_at 60 (s ++ 62 ∷ t) ≡ token_of_tag (s ++ 62 ∷ []) t (effect_of (60 ∷ s ++ 62 ∷ []))
tag_token s t h =
    let e : drop (length (s ++ 62 ∷ [])) (s ++ 62 ∷ t) ≡ t = ap (drop (length (s ++ 62 ∷ []))) (sym (append_assoc s (62 ∷ []) t)) ∙ drop-append_seam (s ++ 62 ∷ []) t in
    ap (tag_at (s ++ 62 ∷ t)) (through_one 62 s t h) ∙ ap (λ (u : List ℕ). token_of_tag (s ++ 62 ∷ []) u (effect_of (60 ∷ s ++ 62 ∷ []))) e

tag_completes : (name held : List ℕ) (so : TagEffect) → InTag name held → effect_of (60 ∷ name ++ 62 ∷ []) ≡ so → is_no_raw so → Completes held 62 kind.Tag so
tag_completes name held so h e n =
    let same : effect_of (60 ∷ h.s ++ 62 ∷ []) ≡ so = name_ends name h.s h.named ∙ e in
    record {
      token = record { kind = kind.Tag; first = 60; more = h.s ++ 62 ∷ [] };
      kind_is = refl;
      sort_is = same;
      spelled = ap (λ (u : List ℕ). u ++ 62 ∷ []) (sym h.held_is);
      cuts = λ t. ap (λ (u : List ℕ). tokens (u ++ 62 ∷ t)) h.held_is
          ∙ tokens_first 60 (h.s ++ 62 ∷ t) t (record { kind = kind.Tag; first = 60; more = h.s ++ 62 ∷ [] }) refl
          (tag_token h.s t h.open_still ∙ ap (token_of_tag (h.s ++ 62 ∷ []) t) same ∙ plain_tag (h.s ++ 62 ∷ []) t so n) (sym (append_assoc h.s (62 ∷ []) t));
    }

some_ending : (r : RawKind) → 0 < length (ending_of r)
some_ending r = grind arith

tag_goes : (name held : List ℕ) (so : TagEffect) → InTag name held → effect_of (60 ∷ name ++ 62 ∷ []) ≡ so → WentBy (step_at_tag_end so) held 62
tag_goes name held (Begins raw) h e = record {
  s = h.s;
  r = [];
  held_is = ap (λ (u : List ℕ). u ++ 62 ∷ []) h.held_is ∙ sym (append-nil (60 ∷ h.s ++ 62 ∷ []));
  tag_lacks = h.open_still;
  begins = name_ends name h.s h.named ∙ e;
  below = some_ending raw;
  matched = match_none (ending_of raw);
}
tag_goes name held (Opens r) h e = tag_completes name held (Opens r) h e tt
tag_goes name held (Closes r) h e = tag_completes name held (Closes r) h e tt
tag_goes name held Mark h e = tag_completes name held Mark h e tt
tag_goes name held Other h e = tag_completes name held Other h e tt

more_tag : (name held : List ℕ) (c : ℕ) → InTag name held → c == 62 ≡ false → InTag (next_name name c) (held ++ c ∷ [])
more_tag name held c h e = grind (arith, lacks_more, turned, name_more)

-- ---- a raw part

-- a place in the ending
record Place (raw : RawKind) (m : ℕ) : Type 0 where
  after : List ℕ
  split : ending_of raw ≡ take m (ending_of raw) ++ wanted_char raw m ∷ after
  ends : wanted_char raw m == 62 ≡ true → after ≡ []
  goes : wanted_char raw m == 62 ≡ false → (m + 1 < length (ending_of raw)) × (take (m + 1) (ending_of raw) ≡ take m (ending_of raw) ++ wanted_char raw m ∷ [])
  once : lacks 60 (drop_one (take m (ending_of raw))) ≡ true
  small : nat_lt m 5 ≡ false → wanted_char raw m == 62 ≡ true

place : (raw : RawKind) (m : ℕ) → m < length (ending_of raw) → Place raw m
place V zero h = record { after = 47 ∷ 118 ∷ 62 ∷ []; split = refl; ends = λ e. absurd (cc); goes = λ _. (omega arith, refl); once = refl; small = λ e. absurd (cc) }
place V (suc zero) h = record { after = 118 ∷ 62 ∷ []; split = refl; ends = λ e. absurd (cc); goes = λ _. (omega arith, refl); once = refl; small = λ e. absurd (cc) }
place V (suc (suc zero)) h = record { after = 62 ∷ []; split = refl; ends = λ e. absurd (cc); goes = λ _. (omega arith, refl); once = refl; small = λ e. absurd (cc) }
place V (suc (suc (suc zero))) h = record { after = []; split = refl; ends = λ _. refl; goes = λ e. absurd (cc); once = refl; small = λ _. refl }
place V (suc (suc (suc (suc m)))) h = absurd (omega arith)
place Sp zero h = record { after = 47 ∷ 115 ∷ 112 ∷ 62 ∷ []; split = refl; ends = λ e. absurd (cc); goes = λ _. (omega arith, refl); once = refl; small = λ e. absurd (cc) }
place Sp (suc zero) h = record { after = 115 ∷ 112 ∷ 62 ∷ []; split = refl; ends = λ e. absurd (cc); goes = λ _. (omega arith, refl); once = refl; small = λ e. absurd (cc) }
place Sp (suc (suc zero)) h = record { after = 112 ∷ 62 ∷ []; split = refl; ends = λ e. absurd (cc); goes = λ _. (omega arith, refl); once = refl; small = λ e. absurd (cc) }
place Sp (suc (suc (suc zero))) h = record { after = 62 ∷ []; split = refl; ends = λ e. absurd (cc); goes = λ _. (omega arith, refl); once = refl; small = λ e. absurd (cc) }
place Sp (suc (suc (suc (suc zero)))) h = record { after = []; split = refl; ends = λ _. refl; goes = λ e. absurd (cc); once = refl; small = λ _. refl }
place Sp (suc (suc (suc (suc (suc m))))) h = absurd (omega arith)
place Alt zero h = record { after = 47 ∷ 97 ∷ 108 ∷ 116 ∷ 62 ∷ []; split = refl; ends = λ e. absurd (cc); goes = λ _. (omega arith, refl); once = refl; small = λ e. absurd (cc) }
place Alt (suc zero) h = record { after = 97 ∷ 108 ∷ 116 ∷ 62 ∷ []; split = refl; ends = λ e. absurd (cc); goes = λ _. (omega arith, refl); once = refl; small = λ e. absurd (cc) }
place Alt (suc (suc zero)) h = record { after = 108 ∷ 116 ∷ 62 ∷ []; split = refl; ends = λ e. absurd (cc); goes = λ _. (omega arith, refl); once = refl; small = λ e. absurd (cc) }
place Alt (suc (suc (suc zero))) h = record { after = 116 ∷ 62 ∷ []; split = refl; ends = λ e. absurd (cc); goes = λ _. (omega arith, refl); once = refl; small = λ e. absurd (cc) }
place Alt (suc (suc (suc (suc zero)))) h = record { after = 62 ∷ []; split = refl; ends = λ e. absurd (cc); goes = λ _. (omega arith, refl); once = refl; small = λ e. absurd (cc) }
place Alt (suc (suc (suc (suc (suc zero))))) h = record { after = []; split = refl; ends = λ _. refl; goes = λ e. absurd (cc); once = refl; small = λ _. refl }
place Alt (suc (suc (suc (suc (suc (suc m)))))) h = absurd (omega arith)

ending_found : (raw : RawKind) (r p : List ℕ) (c : ℕ) (t : List ℕ) → ending_of raw ≡ p ++ c ∷ [] → Matching (ending_of raw) r p
    → through (ending_of raw) (r ++ c ∷ t) ≡ Some (r ++ c ∷ [])
ending_found raw r p c t e m = grind (arith, match_ends)

ending_fails : (raw : RawKind) (r p : List ℕ) (y c : ℕ) (after : List ℕ) → ending_of raw ≡ p ++ y ∷ after → y == c ≡ false → lacks 60 (drop_one p) ≡ true
    → Matching (ending_of raw) r p → Matching (ending_of raw) (r ++ c ∷ []) (cond (60 == c) (c ∷ []) [])
ending_fails V r p y c after e n l m = match_fails 60 (codes "/v>") r p y c after e n l m
ending_fails Sp r p y c after e n l m = match_fails 60 (codes "/sp>") r p y c after e n l m
ending_fails Alt r p y c after e n l m = match_fails 60 (codes "/alt>") r p y c after e n l m

-- the raw part with its tag, as a text after its `<`
in_parts : (s r t : List ℕ) → ((s ++ 62 ∷ []) ++ r) ++ t ≡ s ++ 62 ∷ (r ++ t)
in_parts s r t = append_assoc (s ++ 62 ∷ []) r t ∙ append_assoc s (62 ∷ []) (r ++ t)

raw_token : (raw : RawKind) (s r t : List ℕ) → lacks 62 s ≡ true → effect_of (60 ∷ s ++ 62 ∷ []) ≡ Begins raw
    → token_at 60 (((s ++ 62 ∷ []) ++ r) ++ t) ≡ ended_token kind.Raw kind.OpenTag 60 (s ++ 62 ∷ []) (r ++ t) (through (ending_of raw) (r ++ t))
raw_token raw s r t h e = grind (arith, in_parts, tag_token)

raw_ends : (raw : RawKind) (m : ℕ) (held : List ℕ) (c : ℕ) → InRaw raw m held → ending_of raw ≡ take m (ending_of raw) ++ c ∷ [] → Completes held c kind.Raw Other
raw_ends raw m held c h e =
    let found : (t : List ℕ) → through (ending_of raw) (h.r ++ c ∷ t) ≡ Some (h.r ++ c ∷ []) = λ t. ending_found raw h.r (take m (ending_of raw)) c t e h.matched in
    record {
      token = record { kind = kind.Raw; first = 60; more = (h.s ++ 62 ∷ []) ++ (h.r ++ c ∷ []) };
      kind_is = refl;
      sort_is = refl;
      spelled = ap (λ (u : List ℕ). 60 ∷ u) (sym (append_assoc (h.s ++ 62 ∷ []) h.r (c ∷ []))) ∙ ap (λ (u : List ℕ). u ++ c ∷ []) (sym h.held_is);
      cuts = λ t. ap (λ (u : List ℕ). tokens (u ++ c ∷ t)) h.held_is
          ∙ tokens_first 60 (((h.s ++ 62 ∷ []) ++ h.r) ++ c ∷ t) t (record { kind = kind.Raw; first = 60; more = (h.s ++ 62 ∷ []) ++ (h.r ++ c ∷ []) }) refl
          (raw_token raw h.s h.r (c ∷ t) h.tag_lacks h.begins ∙ ap (ended_token kind.Raw kind.OpenTag 60 (h.s ++ 62 ∷ []) (h.r ++ c ∷ t)) (found t))
          (append_assoc (h.s ++ 62 ∷ []) h.r (c ∷ t) ∙ ap (λ (u : List ℕ). (h.s ++ 62 ∷ []) ++ u) (sym (append_assoc h.r (c ∷ []) t)) ∙ sym (append_assoc (h.s ++ 62 ∷ []) (h.r ++ c ∷ []) t));
    }

raw_more : (raw : RawKind) (m n : ℕ) (held : List ℕ) (c : ℕ) (h : InRaw raw m held) → n < length (ending_of raw)
    → Matching (ending_of raw) (h.r ++ c ∷ []) (take n (ending_of raw)) → InRaw raw n (held ++ c ∷ [])
raw_more raw m n held c h b g = grind (arith, append_assoc)

some_way : (raw : RawKind) → (1 < length (ending_of raw)) × (take 1 (ending_of raw) ≡ 60 ∷ [])
some_way raw = grind arith

raw_goes : (raw : RawKind) (m : ℕ) (held : List ℕ) (c : ℕ) → InRaw raw m held → WentBy (step_in_raw raw m c) held c
raw_goes raw m held c h =
    let p = place raw m h.below in
    let w = wanted_char raw m in
    by_test (c == wanted_char raw m) _ _ held c (λ e. goes_on p (eqb-true c (wanted_char raw m) e)) (λ e. begins_anew p e)
  where
    goes_on : Place raw m → c ≡ wanted_char raw m
        → WentBy (cond (c == 62) (Ends kind.Raw Other) (cond (nat_lt m 5) (Stays (Raw raw (m + 1))) (Stays (Raw raw 0)))) held c
    goes_on p e =
        let same : c == 62 ≡ (wanted_char raw m == 62) = ap (λ (x : ℕ). x == 62) e in
        by_test (c == 62) _ _ held c
        (λ f. raw_ends raw m held c h (p.split ∙ ap (λ (u : List ℕ). take m (ending_of raw) ++ wanted_char raw m ∷ u) (p.ends (sym same ∙ f))
        ∙ ap (λ (x : ℕ). take m (ending_of raw) ++ x ∷ []) (sym e)))
        (λ f. by_test (nat_lt m 5) _ _ held c
        (λ _. let g = p.goes (sym same ∙ f) in
        raw_more raw m (m + 1) held c h g.0
        (subst (Matching (ending_of raw) (h.r ++ c ∷ [])) (ap (λ (x : ℕ). take m (ending_of raw) ++ x ∷ []) e ∙ sym g.1)
        (match_more (ending_of raw) h.r (take m (ending_of raw)) c h.matched)))
        (λ g. absurd (let x : false ≡ true = sym f ∙ same ∙ p.small g in cc)))

    begins_anew : Place raw m → c == wanted_char raw m ≡ false → WentBy (cond (c == 60) (Stays (Raw raw 1)) (Stays (Raw raw 0))) held c
    begins_anew p e =
        let again : Matching (ending_of raw) (h.r ++ c ∷ []) (cond (60 == c) (c ∷ []) []) =
        ending_fails raw h.r (take m (ending_of raw)) (wanted_char raw m) c p.after p.split (turned (wanted_char raw m) c e) p.once h.matched in
        by_test (c == 60) _ _ held c
        (λ f. raw_more raw m 1 held c h (some_way raw).0
        (subst (Matching (ending_of raw) (h.r ++ c ∷ [])) (begun (eqb-true c 60 f) ∙ sym (some_way raw).1) again))
        (λ f. raw_more raw m 0 held c h (some_ending raw) (subst (Matching (ending_of raw) (h.r ++ c ∷ [])) (rw (turned 60 c f) refl) again))
      where
        begun : c ≡ 60 → cond (60 == c) (c ∷ []) [] ≡ 60 ∷ []
        begun f = rw f refl

-- ---- any state

-- a character that goes on with a token, or begins one
pub goes : (state : TokenState) (held : List ℕ) (c : ℕ) → Holds state held → settled_kind state c ≡ None → (state ≡ Plain → c == 40 ≡ false) → WentBy (next_step state c) held c
goes Plain held c h s p = subst (λ (u : List ℕ). WentBy (first_step c) u c) (sym h) (begins_token c (p refl))
goes Dollar held c h s p = grind (arith, escaped)
goes Comment held c h s p = grind (arith, more_lacking, turned)
goes (Tag name) held c h s p =
    by_test (c == 62) _ _ held c
    (λ e. subst (WentBy (step_at_tag_end (effect_of (60 ∷ name ++ 62 ∷ []))) held) (sym (eqb-true c 62 e)) (tag_goes name held (effect_of (60 ∷ name ++ 62 ∷ [])) h refl))
    (λ e. more_tag name held c h e)
goes (Raw raw m) held c h s p = raw_goes raw m held c h
goes Translation held c h s p = grind (arith, by_test, eqb-true, translation_ends, more_lacking, turned)

-- a character before which the token ends
pub settles : (state : TokenState) (held : List ℕ) (c : ℕ) (k : TokenKind) → Holds state held → settled_kind state c ≡ Some k → Settles held c k
settles state held c k h e = grind (arith, bare, eqb-true, comment_ends)

-- ---- the end of the text

-- what the text's end leaves of it
abbrev pub EndsAs : Option TokenKind → List ℕ → Type 0
EndsAs None held = tokens held ≡ []
EndsAs (Some k) held = (token : Token) × (token.kind ≡ k) × (spelling token ≡ held) × (tokens held ≡ token ∷ [])

one_token : (k : Token) (held : List ℕ) → spelling k ≡ held → k.first == 40 ≡ false → token_at k.first k.more ≡ k → tokens held ≡ k ∷ []
one_token k held e ne f =
    ap tokens (sym e) ∙ tokens_first k.first k.more [] k ne f (sym (append-nil k.more))

ends_lacking : (k : Token) (held : List ℕ) → spelling k ≡ held → k.first == 40 ≡ false → token_at k.first k.more ≡ k → (token : Token) × (token.kind ≡ k.kind) × (spelling token ≡ held) × (tokens held ≡ token ∷ [])
ends_lacking k held e ne f = (k, refl, e, one_token k held e ne f)

pub ends : (state : TokenState) (held : List ℕ) → Holds state held → EndsAs (kind_at_end state) held
ends Plain held h = ap tokens h
ends Dollar held h = ends_lacking (record { kind = kind.Letter; first = 36; more = [] }) held (sym h) refl refl
ends Comment held h = ends_lacking (record { kind = kind.Comment; first = 37; more = h.s }) held (sym h.held_is) refl (rw (before_all 10 h.s h.open_still) refl)
ends (Tag name) held h = ends_lacking (record { kind = kind.OpenTag; first = 60; more = h.s }) held (sym h.held_is) refl (rw (through_none 62 h.s h.open_still) refl)
ends (Raw raw m) held h =
    ends_lacking (record { kind = kind.OpenTag; first = 60; more = (h.s ++ 62 ∷ []) ++ h.r }) held (sym h.held_is) refl
    (ap (token_at 60) (sym (append-nil ((h.s ++ 62 ∷ []) ++ h.r))) ∙ raw_token raw h.s h.r [] h.tag_lacks h.begins
    ∙ ap (λ (u : List ℕ). ended_token kind.Raw kind.OpenTag 60 (h.s ++ 62 ∷ []) u (through (ending_of raw) u)) (append-nil h.r)
    ∙ ap (ended_token kind.Raw kind.OpenTag 60 (h.s ++ 62 ∷ []) h.r) (match_open (ending_of raw) h.r (take m (ending_of raw)) (shorter raw m h.below) h.matched))
  where
    shorter : (raw : RawKind) (m : ℕ) → m < length (ending_of raw) → length (take m (ending_of raw)) < length (ending_of raw)
    shorter raw m b = omega (arith, length-take m (ending_of raw))
ends Translation held h = ends_lacking (record { kind = kind.OpenTranslation; first = 91; more = h.s }) held (sym h.held_is) refl (rw (through_none 93 h.s h.open_still) refl)
