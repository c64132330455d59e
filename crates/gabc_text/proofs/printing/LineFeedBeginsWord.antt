-- A text that begins with a blank, as an LF, begins a word, and says nothing else by it.
use Rattle.std.proofs.Common.{◌≡◌, ℕ, ◌+◌, List, [], ◌∷◌, ◌++◌, Bool, true, not, ◌||◌, ◌&&◌, is_some, length, Option, refl, ap, ap₂, ◌∙◌, arith}
use Rattle.std.proofs.Math.Bool.{or-true}
use Rattle.gabc_text.specs.declared.styles.Style.{Style}
use Rattle.gabc_text.specs.declared.view.PieceKind.{PieceKind}
use Rattle.gabc_text.specs.declared.token.TokenKind.TheVariants as kind
use Rattle.gabc_text.specs.Token.{Token, tokens, tokens_after}
use Rattle.gabc_text.specs.View.{along, PieceFacts, effect, kind_of, pieces_at, is_space, is_begin, is_open, is_open_after, has_word, has_begin, has_end, has_translation, is_word_kind, follows_blank, starts_word, count_pieces, begin_of, end_of, centre_by}
use Rattle.gabc_text.specs.ViewFacts.{ViewFacts, view_facts, view_facts_by, but_blank, translation_text}
use Rattle.gabc_text.proofs.machine.TokensOneAfterAnother.{onto}
use Rattle.gabc_text.specs.Printed.{word_break}

stays : (ks before : List Token) → starts_word before ≡ true → starts_word (onto ks before) ≡ true
stays [] before h = h
stays (k ∷ ks) before h = stays ks (k ∷ before) (rw h (or-true _))

-- a blank in front of a text
abbrev pub gap : ℕ → Token
gap b = record { kind = kind.Blank; first = b; more = [] }

pub begins_word : (t : List ℕ) → (view_facts (10 ∷ t)).word_start ≡ true
begins_word t = stays (tokens_after 0 t) (gap 10 ∷ []) refl

-- ---- two lists of tokens that say the same, but for the blank before all of them

-- after a piece they follow a blank alike
pub record Alike (b c : List Token) : Type 0 where
  pub styles : (s : Style) → is_open s b ≡ is_open s c
  pub word : has_word b ≡ has_word c
  pub blank : has_word c ≡ true → follows_blank b ≡ follows_blank c
  pub begun : has_begin b ≡ has_begin c
  pub ended : has_end b ≡ has_end c
  pub translated : has_translation b ≡ has_translation c
  pub count : count_pieces b ≡ count_pieces c
  pub begin : begin_of b ≡ begin_of c
  pub end : end_of b ≡ end_of c
  pub translation : translation_text b ≡ translation_text c

alike_pieces : (b c : List Token) (k : Token) → Alike b c → pieces_at b k ≡ pieces_at c k
alike_pieces b c k h = grind arith

-- a token that both have
pub alike_more : (b c : List Token) (k : Token) → Alike b c → Alike (k ∷ b) (k ∷ c)
alike_more b c k h = record {
  styles = λ s. ap (is_open_after s (effect k)) (h.styles s);
  word = ap (λ (x : Bool). is_word_kind (kind_of k) || x) h.word;
  blank = by (kind_of k);
  begun = ap (λ (x : Bool). is_begin k.kind || x) h.begun;
  ended = rw (h.begun, h.ended) refl;
  translated = rw (h.translated) refl;
  count = ap₂ (λ (n : ℕ) (ps : List PieceFacts). n + length ps) h.count (alike_pieces b c k h);
  begin = rw (h.begun, h.count, h.begin) refl;
  end = rw (h.begun, h.ended, h.count, h.end) refl;
  translation = rw (h.translated, h.translation) refl;
}
  where
    by : (o : Option PieceKind) → (is_word_kind o || has_word c) ≡ true → (is_space k.kind || (not (is_some o) && follows_blank b)) ≡ (is_space k.kind || (not (is_some o) && follows_blank c))
    by o e = grind arith

pub alike_onto : (ks b c : List Token) → Alike b c → Alike (onto ks b) (onto ks c)
alike_onto [] b c h = h
alike_onto (k ∷ ks) b c h = alike_onto ks (k ∷ b) (k ∷ c) (alike_more b c k h)

alike_along : (ks b c : List Token) → Alike b c → along pieces_at b ks ≡ along pieces_at c ks
alike_along [] b c h = refl
alike_along (k ∷ ks) b c h = ap₂ (λ (xs ys : List PieceFacts). xs ++ ys) (alike_pieces b c k h) (alike_along ks (k ∷ b) (k ∷ c) (alike_more b c k h))

-- ---- blanks before all

pub gap_alike : (b : ℕ) (before : List Token) → Alike before [] → Alike (gap b ∷ before) []
gap_alike b before h = grind arith

pub none_alike : Alike [] []
none_alike = record { styles = λ s. refl; word = refl; blank = λ e. refl; begun = refl; ended = refl; translated = refl; count = refl; begin = refl; end = refl; translation = refl }

-- the LF before a word, if there is one
pub break_alike : (b : Bool) → Alike (onto (word_break b) []) []
break_alike b = grind arith

-- a token before all that is no piece, and counts for nothing but perhaps for the beginning of a word
pub one_before : (k : Token) (ks : List Token) (w : Bool) → pieces_at [] k ≡ [] → Alike (k ∷ []) [] → starts_word (onto ks (k ∷ [])) ≡ w → view_facts_by (k ∷ ks) ≡ record (view_facts_by ks) { word_start = w }
one_before k ks w none front starts =
    let h : Alike (onto ks (k ∷ [])) (onto ks []) = alike_onto ks (k ∷ []) [] front in
    let pieces : along pieces_at [] (k ∷ ks) ≡ along pieces_at [] ks = ap (λ (ps : List PieceFacts). ps ++ along pieces_at (k ∷ []) ks) none ∙ alike_along ks (k ∷ []) [] front in
    all starts (ap but_blank pieces) (ap (λ (ps : List PieceFacts). length (but_blank ps)) pieces) h.begin h.end h.translation
  where
    all : {w w' : Bool} {ps ps' : List PieceFacts} {n n' : ℕ} {b b' e e' : Option ℕ} {t t' : Option (List ℕ)} → w ≡ w' → ps ≡ ps' → n ≡ n' → b ≡ b' → e ≡ e' → t ≡ t'
        → (let one : ViewFacts = record { word_start = w; pieces = ps; centre = centre_by n b e; translation = t } in
        let other : ViewFacts = record { word_start = w'; pieces = ps'; centre = centre_by n' b' e'; translation = t' } in one ≡ other)
    all c d f g h i = rw (c, d, f, g, h, i) refl

pub gap_begins_word : (b : ℕ) (ks : List Token) → view_facts_by (gap b ∷ ks) ≡ record (view_facts_by ks) { word_start = true }
gap_begins_word b ks = one_before (gap b) ks true refl (gap_alike b [] none_alike) (stays ks (gap b ∷ []) refl)

-- ---- comments before all

-- a comment in front of a text
abbrev pub remark : List ℕ → Token
remark u = record { kind = kind.Comment; first = 37; more = u }

pub remark_alike : (u : List ℕ) (before : List Token) → Alike before [] → Alike (remark u ∷ before) []
remark_alike u before h = grind arith

starts_alike : (ks b c : List Token) → has_word b ≡ has_word c → starts_word b ≡ starts_word c → starts_word (onto ks b) ≡ starts_word (onto ks c)
starts_alike [] b c g h = h
starts_alike (k ∷ ks) b c g h = starts_alike ks (k ∷ b) (k ∷ c) (ap (λ (x : Bool). is_word_kind (kind_of k) || x) g) (rw (g, h) refl)

pub remark_says_nothing : (u : List ℕ) (ks : List Token) → view_facts_by (remark u ∷ ks) ≡ view_facts_by ks
remark_says_nothing u ks = one_before (remark u) ks (starts_word (onto ks [])) refl (remark_alike u [] none_alike) (starts_alike ks (remark u ∷ []) [] refl refl)

pub begins_word_alone : (t : List ℕ) → view_facts (10 ∷ t) ≡ record (view_facts t) { word_start = true }
begins_word_alone t = gap_begins_word 10 (tokens t)
