-- The pieces of a text are such that their printed form is read again.
use Rattle.std.proofs.Common.{arith, ◌≡◌, ℕ, zero, suc, ◌==◌, List, [], ◌∷◌, ◌++◌, Bool, true, false, ◌||◌, ◌&&◌, not, cond, refl, sym, ap, subst, length, Option, Some, None, codes}
use Rattle.gabc_text.specs.declared.view.PieceKind.{PieceKind}
use Rattle.gabc_text.specs.declared.view.PieceKind.TheVariants as piece
use Rattle.gabc_text.specs.declared.token.TokenKind.{TokenKind}
use Rattle.gabc_text.specs.declared.token.TokenKind.TheVariants as kind
use Rattle.gabc_text.specs.declared.token.TagEffect.{TagEffect}
use Rattle.gabc_text.specs.declared.token.TagEffect.TheVariants.{Mark, Other}
use Rattle.gabc_text.specs.Token.{Token, tokens, tokens_after, token_at, dollar_at, tag_at, ended_token, through, single, is_special, is_blank, effect_of}
use Rattle.gabc_text.specs.View.{along, effect, effect_as, kind_of, piece_kind, tag_piece, is_open, open_styles, is_word_kind, has_word, follows_blank, pieces_at, piece_of, PieceFacts, text_of_piece, is_space, is_blank_piece, last_of}
use Rattle.gabc_text.proofs.printing.ViewFromFirstToken.{pieces_of}
use Rattle.gabc_text.specs.ViewFacts.{but_blank}
use Rattle.gabc_text.proofs.tokens.CasesOfCharacters.{by_case, tag_kind}
use Rattle.gabc_text.proofs.printing.TokensAreReadAgain.{IsReadAgain, token_again, letter_stable}
use Rattle.gabc_text.specs.machine.PrintedPieces.{AllGood, Good, Says}

-- ---- letters

-- a letter is one character that is no blank
pub record IsLetter (k : Token) : Type 0 where
  pub c : ℕ
  pub reads_so : last_of k.first k.more ≡ c ∷ []
  pub no_blank : is_blank c ≡ false

abbrev LetterAt : List ℕ → ℕ → Type 0
LetterAt t c = (token_at c t).kind ≡ kind.Letter → IsLetter (token_at c t)

pub special_no_blank : (c : ℕ) → is_special c ≡ true → is_blank c ≡ false
special_no_blank c e = grind arith

dollar_letter : (t : List ℕ) → IsLetter (dollar_at t)
dollar_letter [] = record { c = 36; reads_so = refl; no_blank = refl }
dollar_letter (d ∷ t) = by (is_special d) refl
  where
    by : (b : Bool) → is_special d ≡ b → IsLetter (record { kind = kind.Letter; first = 36; more = cond b (d ∷ []) [] })
    by true e = record { c = d; reads_so = refl; no_blank = special_no_blank d e }
    by false e = record { c = 36; reads_so = refl; no_blank = refl }

tag_letter : (t : List ℕ) (o : Option (List ℕ)) → (tag_at t o).kind ≡ kind.Letter → IsLetter (tag_at t o)
tag_letter t o e = absurd (tag_kind (λ k. k ≡ kind.Letter → ⊥) (λ e. absurd (cc)) (λ e. absurd (cc)) (λ e. absurd (cc)) t o e)

single_letter : (c : ℕ) → single c ≡ kind.Letter → is_blank c ≡ false
single_letter c e = grind arith

pub token_letter : (c : ℕ) (t : List ℕ) → LetterAt t c
token_letter c t =
    by_case 36 c (LetterAt t) (λ e. dollar_letter t) (λ e36.
    by_case 37 c (LetterAt t) (λ e. absurd (cc)) (λ e37.
    by_case 60 c (LetterAt t) (tag_letter t (through (codes ">") t)) (λ e60.
    by_case 91 c (LetterAt t) (λ e. absurd (in_brackets (through (codes "]") t) e)) (λ e91.
    λ e. let f : single c ≡ kind.Letter = rw (e36, e37, e60, e91) at e in
    rw (e36, e37, e60, e91) (record { c = c; reads_so = refl; no_blank = single_letter c f })))))
  where
    in_brackets : (o : Option (List ℕ)) → (ended_token kind.Translation kind.OpenTranslation 91 [] t o).kind ≡ kind.Letter → ⊥
    in_brackets o e = grind arith

-- ---- a piece of a text

pub record Fine (k : Token) : Type 0 where
  pub again : IsReadAgain k
  pub letters : k.kind ≡ kind.Letter → IsLetter k

abbrev pub EachFine : List Token → Type 0
EachFine [] = Unit {0}
EachFine (k ∷ ks) = Fine k × EachFine ks

pub tokens_fine : (n : ℕ) (t : List ℕ) → EachFine (tokens_after n t)
tokens_fine n [] = tt
tokens_fine (suc n) (c ∷ t) = tokens_fine n t
tokens_fine zero (c ∷ t) = by (c == 40) (record { again = token_again c t; letters = token_letter c t }) (tokens_fine (length (token_at c t).more) t)
  where
    by : (b : Bool) → Fine (token_at c t) → EachFine (tokens_after (length (token_at c t).more) t) → EachFine (cond b [] (token_at c t ∷ tokens_after (length (token_at c t).more) t))
    by b f g = grind arith

pub letter_emits : (c : ℕ) (w b : Bool) → Says piece.Char (c ∷ []) w b
letter_emits c w b = grind arith

-- a token's piece, if it is not a blank
abbrev GoodFrom : List Token → Token → Bool → Bool → PieceKind → Type 0
GoodFrom before k w b p = Good (record { kind = p; styles = open_styles before; text = text_of_piece p k }) w b

good_by : (d : TokenKind) (c : ℕ) (s : List ℕ) (before : List Token) (w b : Bool) (p : PieceKind) → Fine (record { kind = d; first = c; more = s })
    → piece_kind d (effect_as d (c ∷ s)) ≡ Some p → GoodFrom before (record { kind = d; first = c; more = s }) w b p
good_by kind.Letter c s before w b p f e =
    let l = f.letters refl in
    subst (GoodFrom before (record { kind = kind.Letter; first = c; more = s }) w b) (let g : piece.Char ≡ p = cc in g)
    (subst (λ (t : List ℕ). Good (record { kind = piece.Char; styles = open_styles before; text = t }) w b) (sym l.reads_so)
    (record { test = λ s. is_open s before; styles_are = refl; stable = letter_stable l.c l.no_blank; reads_so = letter_emits l.c w b }))
good_by kind.Raw c s before w b p f e =
    subst (GoodFrom before (record { kind = kind.Raw; first = c; more = s }) w b) (let g : piece.Raw ≡ p = cc in g)
    (record { test = λ s. is_open s before; styles_are = refl; stable = f.again refl; reads_so = (refl, refl, refl) })
good_by kind.Tag c s before w b p f e = by (effect_of (c ∷ s)) refl e
  where
    by : (so : TagEffect) → effect_of (c ∷ s) ≡ so → tag_piece so ≡ Some p → GoodFrom before (record { kind = kind.Tag; first = c; more = s }) w b p
    by Mark g h =
        subst (GoodFrom before (record { kind = kind.Tag; first = c; more = s }) w b) (let g : piece.Mark ≡ p = cc in g)
        (record { test = λ s. is_open s before; styles_are = refl; stable = f.again refl; reads_so = (ap tag_piece g, refl, refl) })
    by Other g h =
        subst (GoodFrom before (record { kind = kind.Tag; first = c; more = s }) w b) (let g : piece.Tag ≡ p = cc in g)
        (record { test = λ s. is_open s before; styles_are = refl; stable = f.again refl; reads_so = (ap tag_piece g, refl, refl) })
    by _ g h = absurd (cc)
good_by _ c s before w b p f e = absurd (cc)

-- ---- the pieces of a text

-- pieces that are good where no word stands before them are good after one, and after a blank
pub good_after : (x w b d : Bool) (ps : List PieceFacts) → AllGood x b ps → (x ≡ true → (w ≡ true) × (b ≡ false → d ≡ false)) → AllGood w d ps
good_after x w b d [] h f = tt
good_after x w b d (p ∷ ps) h f = (
  record { test = (h.0).test; styles_are = (h.0).styles_are; stable = (h.0).stable; reads_so = by p.kind (h.0).reads_so },
  good_after (is_word_kind (Some p.kind) || x) (is_word_kind (Some p.kind) || w) (is_blank_piece p.kind) (is_blank_piece p.kind) ps h.1 (λ e. (more (is_word_kind (Some p.kind)) e, λ n. n)),
)
  where
    more : (a : Bool) → (a || x) ≡ true → (a || w) ≡ true
    more a e = grind arith

    by : (k : PieceKind) → Says k p.text x b → Says k p.text w d
    by k g = grind arith

no_space : (d : TokenKind) (so : TagEffect) (p : PieceKind) → piece_kind d so ≡ Some p → (is_space d ≡ false) × (is_blank_piece p ≡ false)
no_space d so p e = grind arith

abbrev blank_after : List Token → PieceFacts
blank_after before = record { kind = piece.Blank; styles = open_styles before; text = [] }

-- a token that is no piece but a blank
blank_case : (before : List Token) (sp w b : Bool) (ps : List PieceFacts) → AllGood w (sp || b) ps → AllGood w b (cond (sp && w && not b) (blank_after before ∷ []) [] ++ ps)
blank_case before true true false ps g =
    (record { test = λ s. is_open s before; styles_are = refl; stable = λ u. refl; reads_so = (refl, refl, refl) }, g)
blank_case before true true true ps g = g
blank_case before true false b ps g = good_after false false true b ps g (λ e. absurd (cc))
blank_case before false w b ps g = g

pub good_along : (before ks : List Token) → EachFine ks → AllGood (has_word before) (follows_blank before) (along pieces_at before ks)
good_along before [] f = tt
good_along before (k ∷ ks) f = by (kind_of k) refl (good_along (k ∷ before) ks f.1)
  where
    by : (o : Option PieceKind) → kind_of k ≡ o → AllGood (has_word (k ∷ before)) (follows_blank (k ∷ before)) (along pieces_at (k ∷ before) ks)
        → AllGood (has_word before) (follows_blank before) (piece_of before k o ++ along pieces_at (k ∷ before) ks)
    by None e g =
        blank_case before (is_space k.kind) (has_word before) (follows_blank before) (along pieces_at (k ∷ before) ks) (rw e at g)
    by (Some p) e g =
        let n = no_space k.kind (effect k) p e in
        let word : has_word (k ∷ before) ≡ (is_word_kind (Some p) || has_word before) = ap (λ o. is_word_kind o || has_word before) e in
        let blank : follows_blank (k ∷ before) ≡ is_blank_piece p = rw (n.0, e, n.1) refl in (
          good_by k.kind k.first k.more before (has_word before) (follows_blank before) p f.0 e,
          subst (λ (b : Bool). AllGood (is_word_kind (Some p) || has_word before) b (along pieces_at (k ∷ before) ks)) blank
              (subst (λ (w : Bool). AllGood w (follows_blank (k ∷ before)) (along pieces_at (k ∷ before) ks)) word g),
        )

pub good_prefix : (w b : Bool) (ps : List PieceFacts) → AllGood w b ps → AllGood w b (but_blank ps)
good_prefix w b [] h = tt
good_prefix w b (p ∷ []) h = grind arith
good_prefix w b (p ∷ q ∷ ps) h = (h.0, good_prefix (is_word_kind (Some p.kind) || w) (is_blank_piece p.kind) (q ∷ ps) h.1)

-- the pieces of a text
pub pieces_good : (t : List ℕ) → AllGood false false (pieces_of (tokens t))
pieces_good t = good_prefix false false (along pieces_at [] (tokens t)) (good_along [] (tokens t) (tokens_fine 0 t))
