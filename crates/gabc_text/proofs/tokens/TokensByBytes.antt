-- The tokens of a text, by their bytes.
use Rattle.std.proofs.Common.{◌≡◌, ℕ, ◌+◌, ◌-◌, ◌≤◌, ◌==◌, List, [], ◌∷◌, ◌++◌, Bool, true, false, cond, Some, None, refl, sym, ap, ◌∙◌, subst, append_assoc, length, length-append, drop, slice_get, arith, IsUtf8}
use Rattle.std.specs.Str.{chars}
use Rattle.std.proofs.lemmas.List.Elements.{All-nil, All-cons}
use Rattle.std.proofs.lemmas.Str.{encodes-append, encodes-chars, scalars-chars, chars-encodes}
use Rattle.std.proofs.Math.Seq.{drop-append_seam}
use lib.Utf8.{encodes, scalars}
use Rattle.gabc_places.proofs.texts.CharactersOfStrings.{scalars_split}
use Rattle.gabc_text.specs.declared.token_reader.TextToken.{TextToken}
use Rattle.gabc_text.specs.Token.{Token, spelling, tokens, tokens_after, token_at}
use Rattle.gabc_text.specs.View.{bytes_of}
use Rattle.gabc_text.specs.Printed.{text_of_tokens}
use Rattle.gabc_text.specs.TextTokens.{placed_token, placed_tokens, tokens_from, tokens_of, AreWithin}
use Rattle.gabc_text.proofs.tokens.CountsOfTexts.{bytes_append, some_bytes}
use Rattle.gabc_text.proofs.tokens.TextIsTokensAndRest.{parted}
use Rattle.gabc_text.proofs.tokens.TokensByCharacter.{tokens_after_drop}
use Rattle.gabc_text.proofs.machine.LoopOverText.{bytes_encodes, bytes_chars}

-- the text begins with this token, and what follows it has the others
pub record Begins (t : List ℕ) (k : Token) (ks : List Token) : Type 0 where
  pub rest : List ℕ
  pub parts : t ≡ spelling k ++ rest
  pub others : ks ≡ tokens rest

others_are : (t rest : List ℕ) (k : Token) (ks : List Token) → tokens t ≡ k ∷ ks → t ≡ spelling k ++ rest → ks ≡ tokens rest
others_are [] rest k ks e f = absurd (cc)
others_are (c ∷ t) rest k ks e f = by (c == 40) e
  where
    by : (b : Bool) → cond b [] (token_at c t ∷ tokens_after (length (token_at c t).more) t) ≡ k ∷ ks → ks ≡ tokens rest
    by true e = absurd (cc)
    by false e =
        let same : token_at c t ≡ k = cc in
        let more : tokens_after (length (token_at c t).more) t ≡ ks = cc in
        let back : t ≡ k.more ++ rest = cc in
        sym more ∙ tokens_after_drop (length (token_at c t).more) t ∙ ap (λ (x : Token). tokens (drop (length x.more) t)) same
        ∙ ap (λ (x : List ℕ). tokens (drop (length k.more) x)) back ∙ ap tokens (drop-append_seam k.more rest)

pub begins : (t : List ℕ) (k : Token) (ks : List Token) → tokens t ≡ k ∷ ks → Begins t k ks
begins t k ks e =
    let p = parted t in
    let f : t ≡ spelling k ++ (text_of_tokens ks ++ p.rest) =
    p.parts ∙ ap (λ (x : List Token). text_of_tokens x ++ p.rest) e ∙ append_assoc (spelling k) (text_of_tokens ks) p.rest in
    record { rest = text_of_tokens ks ++ p.rest; parts = f; others = others_are t (text_of_tokens ks ++ p.rest) k ks e f }

-- ---- the bytes after a token

-- what stands after the characters s of a text, whose bytes are n
pub record After (text s rest : List ℕ) (n : ℕ) : Type 0 where
  pub within : n ≤ length text
  pub utf8 : IsUtf8 (drop n text)
  pub chars_are : chars (drop n text) ≡ rest

pub after : (text s rest : List ℕ) (n : ℕ) → IsUtf8 text → chars text ≡ s ++ rest → n ≡ bytes_of s → After text s rest n
after text s rest n u e f =
    let all : text ≡ encodes s ++ encodes rest = sym (encodes-chars text u) ∙ ap encodes e ∙ encodes-append s rest in
    let m : n ≡ length (encodes s) = f ∙ bytes_encodes s in
    let back : drop n text ≡ encodes rest = ap (λ (x : ℕ). drop x text) m ∙ ap (drop (length (encodes s))) all ∙ drop-append_seam (encodes s) (encodes rest) in
    let v : scalars rest ≡ true = (scalars_split s rest (ap scalars (sym e) ∙ scalars-chars text u)).1 in
    record {
      within = omega (arith, m, ap (length {A = ℕ}) all, length-append (encodes s) (encodes rest));
      utf8 = (rest, (v, sym back));
      chars_are = ap chars back ∙ chars-encodes rest v;
    }

-- the token is the first of those from that byte on, and the others are those after it
pub record NextToken (text : List ℕ) (at : ℕ) (token : TextToken) : Type 0 where
  pub order : at ≤ token.span.to
  pub within : token.span.to - at ≤ length text
  pub utf8 : IsUtf8 (drop (token.span.to - at) text)
  pub ahead : tokens_from at text ≡ token ∷ tokens_from token.span.to (drop (token.span.to - at) text)

pub next_token : (text : List ℕ) (at : ℕ) (token : TextToken) → IsUtf8 text → slice_get (tokens_from at text) 0 ≡ Some token → NextToken text at token
next_token text at token u f = by (tokens (chars text)) refl f
  where
    by : (ks : List Token) → tokens (chars text) ≡ ks → slice_get (placed_tokens at ks) 0 ≡ Some token → NextToken text at token
    by [] e f = absurd (cc)
    by (k ∷ ks) e f =
        let n : ℕ = bytes_of (spelling k) in
        let same : placed_token at k ≡ token = cc in
        let b = begins (chars text) k ks e in
        let a = after text (spelling k) b.rest n u b.parts refl in
        let m : (at + n) - at ≡ n = omega arith in
        subst (NextToken text at) same (record {
          order = omega arith;
          within = omega (arith, a.within);
          utf8 = rw m a.utf8;
          ahead = ap (placed_tokens at) e
              ∙ ap (λ (x : List Token). placed_token at k ∷ placed_tokens (at + n) x) (b.others ∙ ap tokens (sym a.chars_are))
              ∙ ap (λ (x : ℕ). placed_token at k ∷ tokens_from (at + n) (drop x text)) (sym m);
        })

pub none_ahead : (ks : List TextToken) → slice_get ks 0 ≡ None → ks ≡ []
none_ahead [] e = refl
none_ahead (k ∷ ks) e = absurd (cc)

-- ---- they lie in the text, and are few

abbrev IsWithin : List ℕ → TextToken → Type 0
IsWithin bytes k = (k.span.from ≤ k.span.to) × (k.span.to ≤ length bytes)

within_by : (bytes : List ℕ) (at : ℕ) (ks : List Token) → at + bytes_of (text_of_tokens ks) ≤ length bytes → AreWithin bytes (placed_tokens at ks)
within_by bytes at [] h = All-nil (IsWithin bytes)
within_by bytes at (k ∷ ks) h =
    let all = bytes_append (spelling k) (text_of_tokens ks) in
    All-cons (IsWithin bytes) (placed_token at k) (placed_tokens (at + bytes_of (spelling k)) ks) (omega arith, omega (arith, all))
    (within_by bytes (at + bytes_of (spelling k)) ks (omega (arith, all)))

few_by : (at : ℕ) (ks : List Token) → length (placed_tokens at ks) ≤ bytes_of (text_of_tokens ks)
few_by at [] = omega arith
few_by at (k ∷ ks) = omega (arith, few_by (at + bytes_of (spelling k)) ks, bytes_append (spelling k) (text_of_tokens ks), some_bytes k.first)

spelled : (bytes : List ℕ) → IsUtf8 bytes → bytes_of (text_of_tokens (tokens (chars bytes))) ≤ length bytes
spelled bytes u =
    let p = parted (chars bytes) in
    omega (arith, bytes_chars bytes u, ap bytes_of p.parts, bytes_append (text_of_tokens (tokens (chars bytes))) p.rest)

pub tokens_lie_in : (bytes : List ℕ) → IsUtf8 bytes → AreWithin bytes (tokens_of bytes)
tokens_lie_in bytes u = within_by bytes 0 (tokens (chars bytes)) (omega (arith, spelled bytes u))

pub tokens_few : (bytes : List ℕ) → IsUtf8 bytes → length (tokens_of bytes) ≤ length bytes
tokens_few bytes u = omega (arith, few_by 0 (tokens (chars bytes)), spelled bytes u)
