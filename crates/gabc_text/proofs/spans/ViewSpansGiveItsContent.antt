-- The spans of a text's view stand for what the view says.
use Rattle.std.proofs.Common.{◌≡◌, ℕ, ◌||◌, ◌&&◌, not, is_some, List, [], ◌∷◌, ◌++◌, Bool, true, false, cond, refl, sym, ap, ◌∙◌, append_assoc, Option, Some, arith}
use Rattle.std.proofs.lemmas.Bool.{or_parts}
use Rattle.gabc_text.specs.declared.token.TokenKind.{TokenKind}
use Rattle.gabc_text.specs.declared.token.TagEffect.{TagEffect}
use Rattle.gabc_text.specs.declared.view.PieceKind.{PieceKind}
use Rattle.gabc_text.specs.declared.view.PieceKind.TheVariants as piece
use Rattle.gabc_text.specs.declared.view.Piece.{Piece}
use Rattle.gabc_text.specs.Token.{Token, spelling, tokens}
use Rattle.gabc_text.specs.View.{along, kind_of, piece_kind, is_space, is_left_out, follows_blank, follows_space, kept, kept_at, bytes_of, PieceFacts, pieces_at, piece_of, text_of_piece, last_of, open_styles, is_blank_piece}
use Rattle.gabc_text.specs.Events.{kept_of, but_last, last_at, styles_of, piece_at, all_pieces_at, all_pieces_by}
use Rattle.gabc_text.specs.TextRead.{but_last_blank, pieces_in}
use Rattle.gabc_text.specs.Canonical.{listed_styles}
use Rattle.gabc_text.specs.ViewFacts.{but_blank, piece_facts_in, StandsFor, IsPieceOf, ArePiecesOf}
use Rattle.gabc_text.proofs.events.EventsBuildText.{piece_is}

-- ---- lists of pieces

both_facts : (K : List ℕ) (ps ps2 : List Piece) (qs qs2 : List PieceFacts) → ArePiecesOf K ps qs → ArePiecesOf K ps2 qs2 → ArePiecesOf K (ps ++ ps2) (qs ++ qs2)
both_facts K [] ps2 [] qs2 h g = g
both_facts K [] ps2 (q ∷ qs) qs2 h g = absurd h
both_facts K (p ∷ ps) ps2 [] qs2 h g = absurd h
both_facts K (p ∷ ps) ps2 (q ∷ qs) qs2 h g = (h.0, both_facts K ps ps2 qs qs2 h.1 g)

last_facts : (K : List ℕ) (ps : List Piece) (qs : List PieceFacts) → ArePiecesOf K ps qs → ArePiecesOf K (but_last_blank ps) (but_blank qs)
last_facts K [] [] h = tt
last_facts K [] (q ∷ qs) h = absurd h
last_facts K (p ∷ ps) [] h = absurd h
last_facts K (p ∷ []) (q ∷ []) h = grind arith
last_facts K (p ∷ []) (q ∷ r ∷ qs) h = absurd h.1
last_facts K (p ∷ o ∷ ps) (q ∷ []) h = absurd h.1
last_facts K (p ∷ o ∷ ps) (q ∷ r ∷ qs) h = (h.0, last_facts K (o ∷ ps) (r ∷ qs) h.1)

-- ---- a blank piece is a blank of the kept text

pub no_space : (before : List Token) → follows_blank before ≡ false → follows_space before ≡ false
no_space [] e = refl
no_space (k ∷ before) e = by (is_left_out before k.kind) refl (or_parts (is_space k.kind) _ e) (λ f. no_space before f)
  where
    by : (b : Bool) → is_left_out before k.kind ≡ b → (is_space k.kind ≡ false) × ((not (is_some (kind_of k)) && follows_blank before) ≡ false) → (follows_blank before ≡ false → follows_space before ≡ false)
        → (is_space k.kind || (b && follows_space before)) ≡ false
    by b f h ih = grind arith

-- ---- a token

whole_by_last : (c : ℕ) (s : List ℕ) → but_last c s ++ last_of c s ≡ c ∷ s
whole_by_last c [] = refl
whole_by_last c (d ∷ s) = ap (λ (x : List ℕ). c ∷ x) (whole_by_last d s)

pub styles_facts : (before : List Token) → listed_styles (styles_of before) ≡ open_styles before
unfolding listed_styles
styles_facts before = refl

-- a piece that is no blank is kept as it is spelled
pub kept_spelled : (before : List Token) (k : Token) (d : TokenKind) (s : TagEffect) (q : PieceKind) → piece_kind d s ≡ Some q
    → (is_left_out before d ≡ false) × (is_space d ≡ false)
kept_spelled before k d s q e = grind arith

module _ (K : List ℕ) (before : List Token) (k : Token) (rest : List ℕ) (whole : K ≡ kept_of before ++ (kept_at before k ++ rest)) where
  all_of_it : kept_at before k ≡ spelling k → StandsFor K (record { from = bytes_of (kept_of before); to = bytes_of (kept_of before ++ kept_at before k) }) (spelling k)
  all_of_it e = grind arith

  last_of_it : kept_at before k ≡ spelling k → StandsFor K (record { from = last_at before k; to = bytes_of (kept_of before ++ kept_at before k) }) (last_of k.first k.more)
  last_of_it e =
      let cut : kept_at before k ≡ but_last k.first k.more ++ last_of k.first k.more = e ∙ sym (whole_by_last k.first k.more) in
      record {
        prefix = kept_of before ++ but_last k.first k.more;
        back = rest;
        parts = whole ∙ ap (λ (x : List ℕ). kept_of before ++ (x ++ rest)) cut ∙ simp append_assoc;
        from_is = refl;
        to_is = ap (λ (x : List ℕ). bytes_of (kept_of before ++ x)) cut ∙ ap bytes_of (sym (append_assoc (kept_of before) (but_last k.first k.more) (last_of k.first k.more)));
      }

  piece_stands : (q : PieceKind) → is_blank_piece q ≡ false → kept_at before k ≡ spelling k → IsPieceOf K (piece_at before k q) (record { kind = q; styles = open_styles before; text = text_of_piece q k })
  piece_stands q b e = grind (arith, styles_facts, last_of_it, all_of_it)

  blank_kept : is_space k.kind ≡ true → follows_blank before ≡ false → kept_at before k ≡ 32 ∷ []
  blank_kept e f = grind (arith, no_space)

  blank_stands : is_space k.kind ≡ true → follows_blank before ≡ false → IsPieceOf K (piece_at before k piece.Blank) (record { kind = piece.Blank; styles = open_styles before; text = [] })
  blank_stands e f = grind (arith, blank_kept, styles_facts)

  token_facts : ArePiecesOf K (all_pieces_at before k) (pieces_at before k)
  token_facts = by (kind_of k) refl
    where
      blank : (a b c : Bool) → is_space k.kind ≡ a → follows_blank before ≡ c
          → ArePiecesOf K (cond (a && (b && not c)) (piece_at before k piece.Blank ∷ []) []) (cond (a && b && not c) (record { kind = piece.Blank; styles = open_styles before; text = [] } ∷ []) [])
      blank a b c e f = grind (arith, blank_stands)

      by : (o : Option PieceKind) → kind_of k ≡ o → ArePiecesOf K (all_pieces_by before k o) (piece_of before k o)
      by o e = grind (arith, kept_spelled, piece_stands, piece_is, blank)

along_facts : (ks before : List Token) (K : List ℕ) → K ≡ kept_of before ++ along kept_at before ks → ArePiecesOf K (along all_pieces_at before ks) (along pieces_at before ks)
along_facts [] before K e = tt
along_facts (k ∷ ks) before K e =
    both_facts K (all_pieces_at before k) (along all_pieces_at (k ∷ before) ks) (pieces_at before k) (along pieces_at (k ∷ before) ks)
    (token_facts K before k (along kept_at (k ∷ before) ks) e)
    (along_facts ks (k ∷ before) K (e ∙ sym (append_assoc (kept_of before) (kept_at before k) (along kept_at (k ∷ before) ks))))

pub pieces_facts : (t : List ℕ) → ArePiecesOf (kept t) (pieces_in t) (piece_facts_in t)
pieces_facts t = last_facts (kept t) (along all_pieces_at [] (tokens t)) (along pieces_at [] (tokens t)) (along_facts (tokens t) [] (kept t) refl)
