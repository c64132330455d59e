-- The kept text of a text is read again as itself, and says the same.
use Rattle.std.proofs.Common.{◌≡◌, ℕ, ◌||◌, ◌&&◌, not, is_some, List, [], ◌∷◌, ◌++◌, Bool, true, false, cond, refl, sym, ap, ◌∙◌, Option, Some, None, arith}
use Rattle.gabc_text.specs.declared.text_facts.TextFacts.{TextFacts}
use Rattle.gabc_text.specs.declared.view.PieceKind.{PieceKind}
use Rattle.gabc_text.specs.declared.view.PieceKind.TheVariants as piece
use Rattle.gabc_text.specs.declared.token.TokenKind.TheVariants as kind
use Rattle.gabc_text.specs.Token.{Token, spelling}
use Rattle.gabc_text.specs.View.{along, PieceFacts, kind_of, pieces_at, text_of_piece, is_space, has_word, follows_blank, follows_space, starts_word, is_left_out, kept_at, count_pieces, begin_of, end_of, is_word_kind}
use Rattle.gabc_text.specs.witness.FactsPast.{leaves_out}
use Rattle.gabc_text.specs.Canonical.{listed_styles}
use Rattle.gabc_text.specs.ViewFacts.{translation_text}
use Rattle.gabc_text.proofs.machine.FactsOfTokens.{facts_of, facts_more}
use Rattle.gabc_text.proofs.machine.TokensOneAfterAnother.{onto}
use Rattle.gabc_text.proofs.spans.ViewSpansGiveItsContent.{styles_facts}

-- a run of blanks as it is kept
abbrev pub one_blank : Token
one_blank = record { kind = kind.Blank; first = 32; more = [] }

abbrev pub kept_token_by : Bool → Bool → Bool → Token → List Token
kept_token_by out space after k = cond out [] (cond space (cond after [] (one_blank ∷ [])) (k ∷ []))

-- the token as it is kept
abbrev pub kept_token : List Token → Token → List Token
kept_token before k = kept_token_by (is_left_out before k.kind) (is_space k.kind) (follows_space before) k

-- ---- two lists of tokens that say the same so far

pub record Same (b c : List Token) : Type 0 where
  pub facts : facts_of b ≡ facts_of c
  pub count : count_pieces b ≡ count_pieces c
  pub begin : begin_of b ≡ begin_of c
  pub end : end_of b ≡ end_of c
  pub translation : translation_text b ≡ translation_text c

-- pieces by what was seen
abbrev pieces_of_facts : TextFacts → Token → Option PieceKind → List PieceFacts
pieces_of_facts s k (Some q) = record { kind = q; styles = listed_styles s.styles; text = text_of_piece q k } ∷ []
pieces_of_facts s k None = cond (is_space k.kind && s.word && not s.blank) (record { kind = piece.Blank; styles = listed_styles s.styles; text = [] } ∷ []) []

pieces_by_facts : (b : List Token) (k : Token) → pieces_at b k ≡ pieces_of_facts (facts_of b) k (kind_of k)
pieces_by_facts b k = grind (arith, styles_facts)

same_pieces : (b c : List Token) (k : Token) → Same b c → pieces_at b k ≡ pieces_at c k
same_pieces b c k h = pieces_by_facts b k ∙ ap (λ (s : TextFacts). pieces_of_facts s k (kind_of k)) h.facts ∙ sym (pieces_by_facts c k)

-- a token that both have
same_more : (b c : List Token) (k : Token) → Same b c → Same (k ∷ b) (k ∷ c)
same_more b c k h = grind (arith, facts_more, same_pieces)

-- a token that changes nothing
pub record Still (b : List Token) (k : Token) : Type 0 where
  pub same : Same (k ∷ b) b
  pub none : pieces_at b k ≡ []

pub same_then : (a b c : List Token) → Same a b → Same b c → Same a c
same_then a b c h g = grind arith

left_still : (b : List Token) (k : Token) → is_left_out b k.kind ≡ true → Still b k
left_still b k e = grind arith

-- ---- a blank after a blank

-- a blank that is kept was one of words, or begins one
pub spaced : (b : List Token) → follows_space b ≡ true → (follows_blank b ≡ true) × ((has_word b || starts_word b) ≡ true)
spaced [] e = absurd (cc)
spaced (k ∷ b) e = by (is_space k.kind) (is_left_out b k.kind) refl refl e (λ f. spaced b f)
  where
    by : (s o : Bool) → is_space k.kind ≡ s → is_left_out b k.kind ≡ o → (s || (o && follows_space b)) ≡ true → (follows_space b ≡ true → (follows_blank b ≡ true) × ((has_word b || starts_word b) ≡ true))
        → ((is_space k.kind || (not (is_some (kind_of k)) && follows_blank b)) ≡ true) × (((is_word_kind (kind_of k) || has_word b) || ((is_space k.kind && not (has_word b)) || starts_word b)) ≡ true)
    by s o f g h ih = grind arith

blank_still : (b : List Token) (k : Token) → k.kind ≡ kind.Blank → follows_space b ≡ true → Still b k
blank_still b k e f = grind (arith, spaced, facts_more)

-- ---- the whole

-- what is said and kept of the kept tokens
pub record AreTokensAlike (b c ks : List Token) : Type 0 where
  pub pieces : along pieces_at b ks ≡ along pieces_at c (along kept_token b ks)
  pub kept : along kept_at b ks ≡ along kept_at c (along kept_token b ks)
  pub after : Same (onto ks b) (onto (along kept_token b ks) c)

pub blank_is : (k : Token) → is_space k.kind ≡ true → k.kind ≡ kind.Blank
blank_is k e = grind arith

-- a blank, as it is kept, says the same
blank_same : (c : List Token) (k : Token) → k.kind ≡ kind.Blank → Same (k ∷ c) (one_blank ∷ c)
blank_same c k e = grind arith

pub alike : (ks b c : List Token) → Same b c → AreTokensAlike b c ks
alike [] b c h = record { pieces = refl; kept = refl; after = h }
alike (k ∷ ks) b c h = by (is_left_out b k.kind) (is_space k.kind) (follows_space b) refl refl refl (λ d g. alike ks (k ∷ b) d g)
  where
    by : (o s f : Bool) → is_left_out b k.kind ≡ o → is_space k.kind ≡ s → follows_space b ≡ f → ((d : List Token) → Same (k ∷ b) d → AreTokensAlike (k ∷ b) d ks)
        → AreTokensAlike b c (k ∷ ks)
    by true s f eo es ef ih =
        let st = left_still b k eo in
        let r = ih c (same_then (k ∷ b) b c st.same h) in
        record {
          pieces = rw (st.none, eo) r.pieces;
          kept = rw eo r.kept;
          after = rw eo r.after;
        }
    by false true true eo es ef ih =
        let st = blank_still b k (blank_is k es) ef in
        let r = ih c (same_then (k ∷ b) b c st.same h) in
        record {
          pieces = rw (st.none, eo, es, ef) r.pieces;
          kept = rw (eo, es, ef) r.kept;
          after = rw (eo, es, ef) r.after;
        }
    by false true false eo es ef ih =
        let bl = blank_is k es in
        let r = ih (one_blank ∷ c) (same_then (k ∷ b) (k ∷ c) (one_blank ∷ c) (same_more b c k h) (blank_same c k bl)) in
        let ps : pieces_at b k ≡ pieces_at c one_blank = same_pieces b c k h ∙ rw bl refl in
        let sp : follows_space c ≡ false = sym (ap (λ (s : TextFacts). s.space) h.facts) ∙ ef in
        let rest = along kept_token (k ∷ b) ks in
        record {
          pieces = rw (eo, es, ef, ps) (ap (λ (x : List PieceFacts). pieces_at c one_blank ++ x) r.pieces);
          kept = rw (eo, es, ef, sp) (ap (λ (x : List ℕ). 32 ∷ x) r.kept);
          after = rw (eo, es, ef) r.after;
        }
    by false false f eo es ef ih =
        let r = ih (k ∷ c) (same_more b c k h) in
        let ps : pieces_at b k ≡ pieces_at c k = same_pieces b c k h in
        let oc : is_left_out c k.kind ≡ false = sym (ap (λ (s : TextFacts). leaves_out s k.kind) h.facts) ∙ eo in
        record {
          pieces = rw (eo, es, ps) (ap (λ (x : List PieceFacts). pieces_at c k ++ x) r.pieces);
          kept = rw (eo, es, oc, es) (ap (λ (x : List ℕ). spelling k ++ x) r.kept);
          after = rw (eo, es) r.after;
        }
