-- A text says what its kept text says.
use Rattle.std.proofs.Common.{arith, ◌≡◌, ℕ, ◌+◌, ◌-◌, ◌&&◌, not, is_some, List, [], ◌∷◌, ◌++◌, length, length-append, append-nil, Bool, true, false, cond, refl, sym, ap, ◌∙◌, subst, Option, Some, None}
use Rattle.std.specs.Prelude.{reverse}
use Rattle.std.specs.Option.{option_or}
use Rattle.std.proofs.lemmas.List.{reverse-append}
use Rattle.std.proofs.lemmas.List.Sums.{sum_by-cons}
use Rattle.gabc_places.specs.declared.place.Span.{Span}
use Rattle.gabc_text.specs.declared.text_facts.TextFacts.{TextFacts}
use Rattle.gabc_text.specs.declared.view.Piece.{Piece}
use Rattle.gabc_text.specs.declared.view.PieceKind.{PieceKind}
use Rattle.gabc_text.specs.declared.view.PieceKind.TheVariants as piece
use Rattle.gabc_text.specs.declared.token.TokenKind.{TokenKind}
use Rattle.gabc_text.specs.declared.token.TokenKind.TheVariants as kind
use Rattle.gabc_text.specs.Token.{Token, spelling}
use Rattle.gabc_text.specs.View.{along, pieces_at as facts_at, is_space, has_word, has_begin, has_end, has_translation, follows_blank, follows_space, is_left_out, is_begin, is_end, is_open_kind, kept_at, count_pieces, begin_of, end_of, bytes_of, effect, piece_kind}
use Rattle.gabc_text.specs.Events.{styles_of, kept_of, but_last, last_at, from_of, piece_at, all_pieces_at, is_whole_translation, translation_at}
use Rattle.gabc_text.specs.TextRead.{translation_of}
use Rattle.gabc_text.specs.machine.TextFacts.{facts_after}
use Rattle.gabc_text.proofs.machine.FactsOfTokens.{facts_of, facts_more}
use Rattle.gabc_text.proofs.machine.TokensOneAfterAnother.{onto}
use Rattle.gabc_text.proofs.printing.PrintedTagsOpenStyles.{along_append, push_append}
use Rattle.gabc_text.proofs.printing.KeptTextIsReadAgain.{one_blank, kept_token, spaced, blank_is}
use Rattle.gabc_text.proofs.tokens.CountsOfTexts.{bytes_append}
use Rattle.gabc_text.specs.KeptText as by_kept

-- ---- lists of tokens

onto_back : (c : List Token) → onto (reverse c) [] ≡ c
onto_back [] = refl
onto_back (k ∷ c) = ap (λ (l : List Token). onto l []) (reverse-append (k ∷ []) c) ∙ (push_append (reverse c) (k ∷ []) [] ∙ ap (λ (l : List Token). k ∷ l) (onto_back c))

-- the pieces with a token more
pieces_more : (c : List Token) (k : Token) → by_kept.pieces_of (reverse (k ∷ c)) ≡ by_kept.pieces_of (reverse c) ++ by_kept.pieces_at c k
pieces_more c k =
    ap by_kept.pieces_of (reverse-append (k ∷ []) c)
    ∙ (along_append by_kept.pieces_at [] (reverse c) (k ∷ [])
    ∙ (ap (λ (b : List Token). by_kept.pieces_of (reverse c) ++ (by_kept.pieces_at b k ++ [])) (onto_back c) ∙ ap (λ (l : List Piece). by_kept.pieces_of (reverse c) ++ l) (append-nil (by_kept.pieces_at c k))))

-- ---- what is said of the kept tokens c is said of all tokens b

pub record Alike (b c : List Token) : Type 0 where
  pub facts : facts_of b ≡ facts_of c
  pub bytes : bytes_of (kept_of b) ≡ by_kept.bytes_before c
  pub count : count_pieces b ≡ length (by_kept.pieces_of (reverse c))
  pub begin : begin_of b ≡ by_kept.pieces_before is_begin c
  pub end : end_of b ≡ by_kept.pieces_before is_end c
  pub translation : translation_of b ≡ by_kept.translation_of c
  pub blank : follows_space b ≡ by_kept.ends_blank c

-- a letter is one character, or a `$` and one; a translation ends with a `]`
pub record IsCut (k : Token) : Type 0 where
  pub letter : k.kind ≡ kind.Letter → bytes_of (but_last k.first k.more) ≡ length k.more
  pub translation : k.kind ≡ kind.Translation → bytes_of (but_last k.first k.more) + 1 ≡ bytes_of (spelling k)

-- what is open stands last
abbrev pub AreCut : List Token → Type 0
AreCut [] = Unit {0}
AreCut (k ∷ ks) = IsCut k × (is_open_kind k.kind ≡ true → ks ≡ []) × AreCut ks

or_none : {X : Type 0} (o : Option X) → option_or o None ≡ o
or_none None = refl
or_none (Some x) = refl

no_begin : (b : List Token) → has_begin b ≡ false → begin_of b ≡ None
no_begin [] e = refl
no_begin (k ∷ b) e = grind (arith, no_begin b)

no_end : (b : List Token) → has_end b ≡ false → end_of b ≡ None
no_end [] e = refl
no_end (k ∷ b) e = grind (arith, no_end b)

no_translation : (b : List Token) → has_translation b ≡ false → translation_of b ≡ None
no_translation [] e = refl
no_translation (k ∷ b) e = grind (arith, no_translation b)

-- ---- the pieces of a token

span_to : (b c : List Token) (k : Token) → Alike b c → is_left_out b k.kind ≡ false → is_space k.kind ≡ false → bytes_of (kept_of (k ∷ b)) ≡ by_kept.bytes_before (k ∷ c)
span_to b c k h o s =
    ap (λ (x : List ℕ). bytes_of (kept_of b ++ x)) whole ∙ (bytes_append (kept_of b) (spelling k) ∙ (ap (λ (n : ℕ). n + bytes_of (spelling k)) h.bytes ∙ (swap (by_kept.bytes_before c) (bytes_of (spelling k)) ∙ sym (sum_by-cons (λ (j : Token). bytes_of (spelling j)) k c))))
  where
    whole : kept_at b k ≡ spelling k
    whole = rw (o, s) refl

    swap : (m n : ℕ) → m + n ≡ n + m
    swap m n = omega arith

blank_to : (b c : List Token) (k : Token) → Alike b c → is_left_out b k.kind ≡ false → is_space k.kind ≡ true → follows_space b ≡ false → bytes_of (kept_of (k ∷ b)) ≡ by_kept.bytes_before (one_blank ∷ c)
blank_to b c k h o s f =
    ap (λ (x : List ℕ). bytes_of (kept_of b ++ x)) whole ∙ (bytes_append (kept_of b) (32 ∷ []) ∙ (ap (λ (n : ℕ). n + 1) h.bytes ∙ (swap (by_kept.bytes_before c) ∙ sym (sum_by-cons (λ (j : Token). bytes_of (spelling j)) one_blank c))))
  where
    whole : kept_at b k ≡ 32 ∷ []
    whole = rw (o, s, f) refl

    swap : (m : ℕ) → m + 1 ≡ 1 + m
    swap m = omega arith

from_is : (b c : List Token) (k : Token) (q : PieceKind) → Alike b c → IsCut k → piece_kind k.kind (effect k) ≡ Some q → from_of b k q ≡ by_kept.bytes_before c + by_kept.dollar_of k.kind k.more
from_is b c k q h w e = by k.kind refl q e
  where
    plus : (m : ℕ) → m ≡ m + 0
    plus m = omega arith

    by : (i : TokenKind) → k.kind ≡ i → (q : PieceKind) → piece_kind i (effect k) ≡ Some q → from_of b k q ≡ by_kept.bytes_before c + by_kept.dollar_of i k.more
    by kind.Letter i q e =
        let f : piece.Char ≡ q = cc in
        subst (λ (p : PieceKind). from_of b k p ≡ by_kept.bytes_before c + length k.more) f
        (bytes_append (kept_of b) (but_last k.first k.more) ∙ (ap (λ (n : ℕ). n + bytes_of (but_last k.first k.more)) h.bytes ∙ ap (λ (n : ℕ). by_kept.bytes_before c + n) (w.letter i)))
    by kind.Raw i q e = let f : piece.Raw ≡ q = cc in subst (λ (p : PieceKind). from_of b k p ≡ by_kept.bytes_before c + 0) f (h.bytes ∙ plus (by_kept.bytes_before c))
    by kind.Tag i q e = tag (effect k) q e
      where
        tag : (s : _) (q : PieceKind) → piece_kind kind.Tag s ≡ Some q → from_of b k q ≡ by_kept.bytes_before c + 0
        tag s q e = grind (arith, h.bytes, plus)
    by _ i q e = absurd (cc)

pieces_same : (b c : List Token) (k : Token) → Alike b c → IsCut k → is_left_out b k.kind ≡ false → is_space k.kind ≡ false → all_pieces_at b k ≡ by_kept.pieces_at c k
pieces_same b c k h w o s = go (piece_kind k.kind (effect k)) refl
  where
    styles : styles_of b ≡ styles_of c
    styles = ap (λ (f : TextFacts). f.styles) h.facts

    go : (q : Option PieceKind) → piece_kind k.kind (effect k) ≡ q → all_pieces_at b k ≡ by_kept.pieces_at c k
    go None e = rw (e, s) refl
    go (Some q) e = rw (e, styles, from_is b c k q h w e, span_to b c k h o s) refl

-- ---- steps

left_alike : (b c : List Token) (k : Token) → Alike b c → is_left_out b k.kind ≡ true → Alike (k ∷ b) c × (all_pieces_at b k ≡ [])
left_alike b c k h o = grind (arith, append-nil, facts_more)

blank_alike : (b c : List Token) (k : Token) → Alike b c → k.kind ≡ kind.Blank → follows_space b ≡ true → Alike (k ∷ b) c × (all_pieces_at b k ≡ [])
blank_alike b c k h s f = grind (arith, append-nil, facts_more, spaced)

facts_then : (b c : List Token) (k : Token) → Alike b c → facts_of (k ∷ b) ≡ facts_of (k ∷ c)
facts_then b c k h = sym (facts_more b k) ∙ (ap (λ (f : TextFacts). facts_after f k.kind (effect k)) h.facts ∙ facts_more c k)

same_count : (b : List Token) (k : Token) → length (facts_at b k) ≡ length (all_pieces_at b k)
same_count b k = grind arith

count_then : (b c : List Token) (k j : Token) → Alike b c → all_pieces_at b k ≡ by_kept.pieces_at c j → count_pieces (k ∷ b) ≡ length (by_kept.pieces_of (reverse (j ∷ c)))
count_then b c k j h p =
    ap (λ (n : ℕ). n + length (facts_at b k)) h.count
    ∙ (ap (λ (n : ℕ). length (by_kept.pieces_of (reverse c)) + n) (same_count b k ∙ ap (λ (l : List Piece). length l) p)
    ∙ (sym (length-append (by_kept.pieces_of (reverse c)) (by_kept.pieces_at c j)) ∙ ap (λ (l : List Piece). length l) (sym (pieces_more c j))))

begin_step : (g t : Bool) (n : ℕ) (o : Option ℕ) → (g ≡ true → t ≡ true) → (t ≡ true → o ≡ None) → cond (g && t) (Some n) o ≡ option_or o (cond g (Some n) None)
begin_step true true n o F G = ap (λ (p : Option ℕ). option_or p (Some n)) (sym (G refl))
begin_step true false n o F G = absurd (let f = F refl in cc)
begin_step false t n o F G = sym (or_none o)

begin_then : (b c : List Token) (k : Token) → Alike b c → is_left_out b k.kind ≡ false → begin_of (k ∷ b) ≡ by_kept.pieces_before is_begin (k ∷ c)
begin_then b c k h o =
    begin_step (is_begin k.kind) (not (has_begin b)) (count_pieces b) (begin_of b) first (λ e. no_begin b (none (has_begin b) e))
    ∙ (ap (λ (n : ℕ). option_or (begin_of b) (cond (is_begin k.kind) (Some n) None)) h.count ∙ ap (λ (p : Option ℕ). option_or p (cond (is_begin k.kind) (Some (length (by_kept.pieces_of (reverse c)))) None)) h.begin)
  where
    none : (a : Bool) → not a ≡ true → a ≡ false
    none a e = grind arith

    first : is_begin k.kind ≡ true → not (has_begin b) ≡ true
    first e = grind arith

end_then : (b c : List Token) (k : Token) → Alike b c → is_left_out b k.kind ≡ false → end_of (k ∷ b) ≡ by_kept.pieces_before is_end (k ∷ c)
end_then b c k h o =
    begin_step (is_end k.kind) (has_begin b && not (has_end b)) (count_pieces b) (end_of b) first (λ e. no_end b (none (has_begin b) (has_end b) e))
    ∙ (ap (λ (n : ℕ). option_or (end_of b) (cond (is_end k.kind) (Some n) None)) h.count ∙ ap (λ (p : Option ℕ). option_or p (cond (is_end k.kind) (Some (length (by_kept.pieces_of (reverse c)))) None)) h.end)
  where
    none : (a d : Bool) → (a && not d) ≡ true → d ≡ false
    none a d e = grind arith

    first : is_end k.kind ≡ true → (has_begin b && not (has_end b)) ≡ true
    first e = grind arith

-- a translation so far is ended
abbrev pub AllEnded : List Token → Type 0
AllEnded b = has_translation b ≡ true → is_some (translation_of b) ≡ true

all_ended : (b : List Token) (k : Token) → AllEnded b → is_open_kind k.kind ≡ false → AllEnded (k ∷ b)
all_ended b k h e = grind arith

translation_then : (b c : List Token) (k : Token) → Alike b c → IsCut k → AllEnded b → is_left_out b k.kind ≡ false → translation_of (k ∷ b) ≡ by_kept.translation_of (k ∷ c)
translation_then b c k h w a o = by k.kind refl
  where
    numbers : (m n d e : ℕ) → m ≡ n → d + 1 ≡ e → m + d ≡ (e + n) - 1
    numbers m n d e f g = omega arith

    to : k.kind ≡ kind.Translation → last_at b k ≡ by_kept.bytes_before (k ∷ c) - 1
    to e =
        bytes_append (kept_of b) (but_last k.first k.more)
        ∙ (numbers (bytes_of (kept_of b)) (by_kept.bytes_before c) (bytes_of (but_last k.first k.more)) (bytes_of (spelling k)) h.bytes (w.translation e) ∙ ap (λ (n : ℕ). n - 1) (sym (sum_by-cons (λ (j : Token). bytes_of (spelling j)) k c)))

    here : k.kind ≡ kind.Translation → translation_at b k ≡ record { from = by_kept.bytes_before c + 1; to = by_kept.bytes_before (k ∷ c) - 1 }
    here e = grind (arith, h.bytes, to)

    first : (d : Bool) (o p : Option Span) (s r : Span) → (d ≡ false → o ≡ None) → (d ≡ true → is_some o ≡ true) → o ≡ p → s ≡ r → cond (not d) (Some s) o ≡ option_or p (Some r)
    first d o p s r F G e f = grind arith

    by : (i : TokenKind) → k.kind ≡ i → cond (is_whole_translation i && not (has_translation b)) (Some (translation_at b k)) (translation_of b) ≡ option_or (by_kept.translation_of c) (by_kept.translation_by i c k)
    by kind.Translation e =
        first (has_translation b) (translation_of b) (by_kept.translation_of c) (translation_at b k) (record { from = by_kept.bytes_before c + 1; to = by_kept.bytes_before (k ∷ c) - 1 })
        (no_translation b) a h.translation (here e)
    by _ e = h.translation ∙ sym (or_none (by_kept.translation_of c))

kept_alike : (b c : List Token) (k : Token) → Alike b c → IsCut k → AllEnded b → is_left_out b k.kind ≡ false → is_space k.kind ≡ false → Alike (k ∷ b) (k ∷ c)
kept_alike b c k h w a o s = record {
  facts = facts_then b c k h;
  bytes = span_to b c k h o s;
  count = count_then b c k k h (pieces_same b c k h w o s);
  begin = begin_then b c k h o;
  end = end_then b c k h o;
  translation = translation_then b c k h w a o;
  blank = rw (o, s) refl;
}

-- the first of a run of blanks
one_pieces : (b c : List Token) (k : Token) → Alike b c → k.kind ≡ kind.Blank → follows_space b ≡ false → all_pieces_at b k ≡ by_kept.pieces_at c one_blank
one_pieces b c k h e f = all ∙ by (has_word c && not (follows_blank c))
  where
    o : is_left_out b k.kind ≡ false
    o = rw e refl

    s : is_space k.kind ≡ true
    s = rw e refl

    words : has_word b ≡ has_word c
    words = ap (λ (g : TextFacts). g.word) h.facts

    blanks : follows_blank b ≡ follows_blank c
    blanks = ap (λ (g : TextFacts). g.blank) h.facts

    all : all_pieces_at b k ≡ cond (has_word c && not (follows_blank c)) (piece_at b k piece.Blank ∷ []) []
    all = rw (e, words, blanks) refl

    styles : styles_of b ≡ styles_of c
    styles = ap (λ (g : TextFacts). g.styles) h.facts

    plus : (m : ℕ) → m ≡ m + 0
    plus m = omega arith

    one : piece_at b k piece.Blank ≡ by_kept.piece_of c one_blank piece.Blank
    one =
        let from : bytes_of (kept_of b) ≡ by_kept.bytes_before c + 0 = h.bytes ∙ plus (by_kept.bytes_before c) in
        let to = blank_to b c k h o s f in
        cc (from, to, styles)

    by : (g : Bool) → cond g (piece_at b k piece.Blank ∷ []) [] ≡ cond g (by_kept.piece_of c one_blank piece.Blank ∷ []) []
    by true = ap (λ (p : Piece). p ∷ []) one
    by false = refl

one_alike : (b c : List Token) (k : Token) → Alike b c → k.kind ≡ kind.Blank → follows_space b ≡ false → Alike (k ∷ b) (one_blank ∷ c)
one_alike b c k h e f =
    let p = one_pieces b c k h e f in
    record {
      facts = sym (facts_more b k) ∙ (ap (λ (g : TextFacts). facts_after g k.kind (effect k)) h.facts ∙ (same ∙ facts_more c one_blank));
      bytes = blank_to b c k h (rw e refl) (rw e refl) f;
      count = count_then b c k one_blank h p;
      begin = rw e (h.begin ∙ sym (or_none (by_kept.pieces_before is_begin c)));
      end = rw e (h.end ∙ sym (or_none (by_kept.pieces_before is_end c)));
      translation = rw e (h.translation ∙ sym (or_none (by_kept.translation_of c)));
      blank = rw e refl;
    }
  where
    same : facts_after (facts_of c) k.kind (effect k) ≡ facts_after (facts_of c) one_blank.kind (effect one_blank)
    same = rw e refl

-- ---- the whole

pub record AreAlike (b c ks : List Token) : Type 0 where
  pub pieces : along all_pieces_at b ks ≡ along by_kept.pieces_at c (along kept_token b ks)
  pub after : Alike (onto ks b) (onto (along kept_token b ks) c)

abbrev pub GoesOn : List Token → List Token → Type 0
GoesOn b [] = Unit {0}
GoesOn b (k ∷ ks) = AllEnded b

goes_on : (b ks : List Token) (k : Token) → AllEnded b → (is_open_kind k.kind ≡ true → ks ≡ []) → GoesOn (k ∷ b) ks
goes_on b [] k a F = tt
goes_on b (j ∷ ks) k a F = go (is_open_kind k.kind) refl
  where
    go : (o : Bool) → is_open_kind k.kind ≡ o → AllEnded (k ∷ b)
    go true e = absurd (let f : j ∷ ks ≡ [] = F e in cc)
    go false e = all_ended b k a e

pub view_alike : (ks b c : List Token) → Alike b c → AreCut ks → GoesOn b ks → AreAlike b c ks
view_alike [] b c h w a = record { pieces = refl; after = h }
view_alike (k ∷ ks) b c h w a = by (is_left_out b k.kind) (is_space k.kind) (follows_space b) refl refl refl (λ d g. view_alike ks (k ∷ b) d g w.2 (goes_on b ks k a w.1))
  where
    by : (o s f : Bool) → is_left_out b k.kind ≡ o → is_space k.kind ≡ s → follows_space b ≡ f → ((d : List Token) → Alike (k ∷ b) d → AreAlike (k ∷ b) d ks)
        → AreAlike b c (k ∷ ks)
    by true s f eo es ef ih =
        let st = left_alike b c k h eo in
        let r = ih c st.0 in
        record { pieces = rw (st.1, eo) r.pieces; after = rw eo r.after }
    by false true true eo es ef ih =
        let st = blank_alike b c k h (blank_is k es) ef in
        let r = ih c st.0 in
        record { pieces = rw (st.1, eo, es, ef) r.pieces; after = rw (eo, es, ef) r.after }
    by false true false eo es ef ih =
        let r = ih (one_blank ∷ c) (one_alike b c k h (blank_is k es) ef) in
        let ps = one_pieces b c k h (blank_is k es) ef in
        record { pieces = rw (eo, es, ef, ps) (ap (λ (x : List Piece). by_kept.pieces_at c one_blank ++ x) r.pieces); after = rw (eo, es, ef) r.after }
    by false false f eo es ef ih =
        let r = ih (k ∷ c) (kept_alike b c k h w.0 a eo es) in
        let ps = pieces_same b c k h w.0 eo es in
        record { pieces = rw (eo, es, ps) (ap (λ (x : List Piece). by_kept.pieces_at c k ++ x) r.pieces); after = rw (eo, es) r.after }
