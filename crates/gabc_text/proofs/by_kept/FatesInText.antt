-- The fate of a character of a text, and what is found, by the kept tokens, are so by all tokens.
use Rattle.std.proofs.Common.{◌≡◌, ℕ, List, [], ◌∷◌, Bool, false, cond, not, ◌&&◌, ◌||◌, ◌==◌, refl, sym, ap, ◌∙◌, arith, codes, Some, None}
use Rattle.std.specs.Prelude.{reverse}
use Rattle.std.proofs.lemmas.Bool.Decides.{nat_tests}
use Rattle.gabc_places.specs.declared.code.Code.TheVariants.{E2, W4, W5}
use Rattle.gabc_text.specs.declared.styles.Style.{Style}
use Rattle.gabc_text.specs.declared.text_facts.TextFacts.{TextFacts}
use Rattle.gabc_text.specs.declared.token.TokenKind.TheVariants as kind
use Rattle.gabc_text.specs.declared.token.TagEffect.{TagEffect}
use Rattle.gabc_text.specs.declared.token.TagEffect.TheVariants.{Other}
use Rattle.gabc_text.specs.Token.{Token, spelling, tokens, is_one_of, is_blank, effect_of}
use Rattle.gabc_text.specs.TextFacts.{has_style}
use Rattle.gabc_text.specs.View.{kept, is_open, has_begin, has_end, has_translation, follows_space, late_codes, early_codes, codes_at_end, effect}
use Rattle.gabc_text.proofs.machine.FactsOfTokens.{facts_of}
use Rattle.gabc_places.specs.Fate.{Fate, Keep, Comment, Ends, LeaveOut}
use Rattle.gabc_text.specs.KeptText as by_kept
use Rattle.gabc_text.specs.witness.FatesOfTokens.{fate_of_token}
use Rattle.gabc_text.proofs.by_kept.ViewOfKept.{Alike}
use Rattle.gabc_text.proofs.by_kept.ViewIsKept.{tokens_alike}

pub open_by : (b : List Token) (s : Style) → is_open s b ≡ has_style (facts_of b).styles s
open_by b s = grind arith

open_same : (b c : List Token) (s : Style) → Alike b c → is_open s b ≡ is_open s c
open_same b c s h = open_by b s ∙ (ap (λ (f : TextFacts). has_style f.styles s) h.facts ∙ sym (open_by c s))

begun_same : (b c : List Token) → Alike b c → has_begin b ≡ has_begin c
begun_same b c h = ap (λ (f : TextFacts). f.begun) h.facts

ended_same : (b c : List Token) → Alike b c → has_end b ≡ has_end c
ended_same b c h = ap (λ (f : TextFacts). f.ended) h.facts

translated_same : (b c : List Token) → Alike b c → has_translation b ≡ has_translation c
translated_same b c h = ap (λ (f : TextFacts). f.translated) h.facts

-- what is found at the end of a text
end_same : (b c : List Token) → Alike b c → codes_at_end c ≡ codes_at_end b
end_same b c h = grind (arith, open_same, begun_same, ended_same)

-- what is found with the last character of a tag
tag_same : (b c : List Token) (more : List ℕ) (s : TagEffect) → Alike b c → by_kept.codes_by c kind.Tag more s ≡ late_codes b kind.Tag s
tag_same b c more s h = grind (arith, open_same)

-- and with the `[` of a translation
translation_same : (b c : List Token) (s : TagEffect) → Alike b c → by_kept.codes_by c kind.OpenTranslation [] s ≡ early_codes b kind.OpenTranslation
translation_same b c s h = ap (λ (t : Bool). cond t (W5 ∷ []) []) (sym (translated_same b c h))

-- by what was seen
abbrev pub by_facts : Bool → Bool → Bool → ℕ → Fate
by_facts begun ended blank c =
    cond (c == 40) Ends
    (cond (c == 37) Comment
    (cond (is_one_of (codes ")]>") c) (LeaveOut (Some E2))
    (cond (((c == 123) && begun) || ((c == 125) && not (begun && not ended))) (LeaveOut (Some W4))
    (cond (is_blank c && blank) (LeaveOut None) Keep))))

all_by : (b : List Token) (c : ℕ) → fate_of_token b c ≡ by_facts (has_begin b) (has_end b) (follows_space b) c
all_by b c = go (has_begin b) (has_end b) (follows_space b) refl refl refl
  where
    go : (g e s : Bool) → has_begin b ≡ g → has_end b ≡ e → follows_space b ≡ s → fate_of_token b c ≡ by_facts g e s c
    go g e s i j k = grind (arith, nat_tests)

pub kept_by : (c : List Token) (d : ℕ) → by_kept.belongs c d ≡ false → by_kept.fate_in_text c d ≡ by_facts (has_begin c) (has_end c) (by_kept.ends_blank c) d
kept_by c d e = rw e refl

fate_same : (b c : List Token) (d : ℕ) → Alike b c → by_kept.belongs c d ≡ false → by_kept.fate_in_text c d ≡ fate_of_token b d
fate_same b c d h e =
    kept_by c d e ∙ (ap (λ (g : Bool). by_facts g (has_end c) (by_kept.ends_blank c) d) (sym (begun_same b c h))
    ∙ (ap (λ (g : Bool). by_facts (has_begin b) g (by_kept.ends_blank c) d) (sym (ended_same b c h))
    ∙ (ap (λ (g : Bool). by_facts (has_begin b) (has_end b) g d) (sym h.blank) ∙ sym (all_by b d))))

pub fates_are : (t : List ℕ) (d : ℕ) → by_kept.belongs (reverse (tokens (kept t))) d ≡ false → by_kept.fate_in_text (reverse (tokens (kept t))) d ≡ fate_of_token (reverse (tokens t)) d
fates_are t d e = fate_same (reverse (tokens t)) (reverse (tokens (kept t))) d (tokens_alike t) e

pub ends_are : (t : List ℕ) → codes_at_end (reverse (tokens (kept t))) ≡ codes_at_end (reverse (tokens t))
ends_are t = end_same (reverse (tokens t)) (reverse (tokens (kept t))) (tokens_alike t)

pub tags_are : (t : List ℕ) (k : Token) → k.kind ≡ kind.Tag → by_kept.codes_with (k ∷ reverse (tokens (kept t))) ≡ late_codes (reverse (tokens t)) k.kind (effect k)
tags_are t k e = rw e (tag_same (reverse (tokens t)) (reverse (tokens (kept t))) k.more (effect_of (spelling k)) (tokens_alike t))

pub translations_are : (t : List ℕ) (k : Token) → k.kind ≡ kind.OpenTranslation → k.more ≡ [] → by_kept.codes_with (k ∷ reverse (tokens (kept t))) ≡ early_codes (reverse (tokens t)) k.kind
translations_are t k e f = rw (e, f) (translation_same (reverse (tokens t)) (reverse (tokens (kept t))) Other (tokens_alike t))
