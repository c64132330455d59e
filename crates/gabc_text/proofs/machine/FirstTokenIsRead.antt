-- The token that begins a text is read a character at a time.
use Rattle.std.proofs.Common.{◌≡◌, ℕ, ◌+◌, ◌≤◌, ◌==◌, List, [], ◌∷◌, ◌++◌, Bool, true, false, ◌&&◌, Option, Some, None, refl, sym, ap, ◌∙◌, subst, append_assoc, append-nil, length, slice_get, arith, IsUtf8}
use Rattle.std.specs.Char.{len_utf8}
use Rattle.std.specs.Str.{chars}
use Rattle.std.proofs.lemmas.Bool.{eqb-true, and_parts, true≢false}
use Rattle.std.proofs.lemmas.Str.{chars_past_char, IsUtf8-past_char}
use lib.Utf8.{encode}
use Rattle.gabc_places.proofs.texts.CharactersOfStrings.{chars-none}
use Rattle.gabc_text.specs.declared.token.TokenKind.{TokenKind}
use Rattle.gabc_text.specs.declared.token.TagEffect.{TagEffect}
use Rattle.gabc_text.specs.declared.token.TagEffect.TheVariants.{Other}
use Rattle.gabc_text.specs.declared.token_state.TokenState.{TokenState}
use Rattle.gabc_text.specs.declared.token_state.TokenState.TheVariants.{Plain, Dollar, Comment, Tag, Raw, Translation}
use Rattle.gabc_text.specs.declared.token_state.Step.{Step}
use Rattle.gabc_text.specs.declared.token_state.Step.TheVariants.{Stays, Ends}
use Rattle.gabc_text.specs.declared.token_reader.Reading.TheVariants.{Notes, Settled, Taken}
use Rattle.gabc_text.specs.declared.token_reader.TextToken.{TextToken}
use Rattle.gabc_text.specs.Token.{Token, spelling, tokens}
use Rattle.gabc_text.specs.View.{effect, bytes_of}
use Rattle.gabc_text.specs.TextTokens.{placed_token, placed_tokens, tokens_from}
use Rattle.gabc_text.specs.machine.TokenReader.{reading_by, reading_at}
use Rattle.gabc_text.specs.machine.TokenState.{settled_kind, next_step, kind_at_end, is_plain}
use Rattle.gabc_text.proofs.tokens.CountsOfTexts.{bytes_append}
use Rattle.gabc_text.proofs.machine.KeptOfOpenToken.{sort_settled}
use Rattle.gabc_text.proofs.machine.LoopOverText.{bytes_chars}
use Rattle.gabc_text.proofs.machine.TokenStateByCharacter.{Holds, Settles, WentBy, goes, settles, ends, EndsAs}
use Rattle.gabc_text.proofs.machine.TokensOneAfterAnother.{end_other}

-- Of the text the characters done are read, up to this byte, and rest, as bytes, is not.
pub record ReadSoFar (text : List ℕ) (at : ℕ) (done rest : List ℕ) (state : TokenState) (end : ℕ) : Type 0 where
  pub utf8 : IsUtf8 rest
  pub whole : done ++ chars rest ≡ chars text
  pub count : end ≡ at + bytes_of done
  pub holds : Holds state done

-- ---- what a character does

notes_are : (b : Bool) (o : Option TokenKind) (s : Step) → reading_by b o s ≡ Notes → b ≡ true
notes_are true o s e = refl
notes_are false (Some k) s e = absurd (cc)
notes_are false None s e = absurd (cc)

settled_are : (b : Bool) (o : Option TokenKind) (s : Step) (k : TokenKind) → reading_by b o s ≡ Settled k → o ≡ Some k
settled_are true o s k e = absurd (cc)
settled_are false (Some j) s k e = cc
settled_are false None s k e = absurd (cc)

taken_are : (b : Bool) (o : Option TokenKind) (s step : Step) → reading_by b o s ≡ Taken step → (b ≡ false) × (o ≡ None) × (s ≡ step)
taken_are true o s step e = absurd (cc)
taken_are false (Some j) s step e = absurd (cc)
taken_are false None s step e = (refl, refl, cc)

and_true : (b : Bool) → (b && true) ≡ false → b ≡ false
and_true true e = absurd (cc)
and_true false e = refl

-- ---- the token

-- this token, as it is told
abbrev told : TokenKind → TagEffect → ℕ → ℕ → TextToken
told kind e from to = record { kind = kind; effect = e; span = record { from = from; to = to } }

-- the first token of the text
first_told : (text held : List ℕ) (at end : ℕ) (k : Token) (ks : List Token) (kind : TokenKind) (e : TagEffect) → tokens (chars text) ≡ k ∷ ks
    → k.kind ≡ kind → effect k ≡ e → spelling k ≡ held → end ≡ at + bytes_of held → Some (told kind e at end) ≡ slice_get (tokens_from at text) 0
first_told text held at end k ks kind e f is does s n =
    let to : end ≡ at + bytes_of (spelling k) = n ∙ ap (λ (x : List ℕ). at + bytes_of x) (sym s) in
    let same : told kind e at end ≡ placed_token at k = cc in
    ap (λ (x : TextToken). Some x) same ∙ sym (ap (λ (x : List Token). slice_get (placed_tokens at x) 0) f)

module _ (text : List ℕ) (at : ℕ) (done bs rest : List ℕ) (state : TokenState) (end c : ℕ) (r : ReadSoFar text at done bs state end) (e : bs ≡ encode c ++ rest) where
  next_is : chars text ≡ done ++ c ∷ chars rest
  next_is = sym r.whole ∙ ap (λ (t : List ℕ). done ++ t) (chars_past_char bs rest c r.utf8 e)

  -- the bytes fit
  pub fits_in : IsUtf8 text → end + len_utf8 c ≤ at + length text
  fits_in u = let count = r.count in omega (arith, count, bytes_chars text u, ap bytes_of next_is, bytes_append done (c ∷ chars rest))

  -- the notes begin
  pub notes_at : reading_at state c ≡ Notes → None ≡ slice_get (tokens_from at text) 0
  notes_at f = none_by state (notes_are ((c == 40) && is_plain state) (settled_kind state c) (next_step state c) f) r.holds
    where
      none_by : (s : TokenState) → ((c == 40) && is_plain s) ≡ true → Holds s done → None ≡ slice_get (tokens_from at text) 0
      none_by Plain p h =
          sym (ap (λ (t : List ℕ). slice_get (placed_tokens at (tokens t)) 0)
          (next_is ∙ ap (λ (d : List ℕ). d ++ c ∷ chars rest) h ∙ ap (λ (x : ℕ). x ∷ chars rest) (eqb-true c 40 (and_parts (c == 40) true p).0)))
      none_by Dollar p h = absurd (true≢false (sym (and_parts (c == 40) false p).1))
      none_by Comment p h = absurd (true≢false (sym (and_parts (c == 40) false p).1))
      none_by (Tag _) p h = absurd (true≢false (sym (and_parts (c == 40) false p).1))
      none_by (Raw _ _) p h = absurd (true≢false (sym (and_parts (c == 40) false p).1))
      none_by Translation p h = absurd (true≢false (sym (and_parts (c == 40) false p).1))

  -- the token ends before the character
  pub settles_at : (kind : TokenKind) → reading_at state c ≡ Settled kind → Some (told kind Other at end) ≡ slice_get (tokens_from at text) 0
  settles_at kind f =
      let settled : settled_kind state c ≡ Some kind = settled_are ((c == 40) && is_plain state) (settled_kind state c) (next_step state c) kind f in
      let g : Settles done c kind = settles state done c kind r.holds settled in
      let k = g.token in
      let same = g.kind_is in
      first_told text done at end k (tokens (c ∷ chars rest)) kind Other (ap tokens next_is ∙ g.cuts (chars rest)) same
      (sort_settled state c k (settled ∙ ap (λ (x : TokenKind). Some x) (sym same))) g.spelled r.count

  -- it is part of the token
  went : (step : Step) → reading_at state c ≡ Taken step → WentBy step done c
  went step f =
      let g = taken_are ((c == 40) && is_plain state) (settled_kind state c) (next_step state c) step f in
      subst (λ (w : Step). WentBy w done c) g.2 (goes state done c r.holds g.1 (λ p. between state g.0 p))
    where
      between : (s : TokenState) → ((c == 40) && is_plain s) ≡ false → s ≡ Plain → c == 40 ≡ false
      between Plain p q = and_true (c == 40) p
      between _ p q = absurd (cc)

  -- and it goes on
  pub on_at : (next : TokenState) (now : ℕ) → reading_at state c ≡ Taken (Stays next) → now ≡ end + len_utf8 c → ReadSoFar text at (done ++ c ∷ []) rest next now
  on_at next now f n =
      let count = r.count in
      record {
        utf8 = IsUtf8-past_char bs rest c r.utf8 e;
        whole = append_assoc done (c ∷ []) (chars rest) ∙ sym next_is;
        count = omega (arith, count, n, bytes_append done (c ∷ []));
        holds = went (Stays next) f;
      }

  -- and it ends with it
  pub ends_at : (kind : TokenKind) (does : TagEffect) (now : ℕ) → reading_at state c ≡ Taken (Ends kind does) → now ≡ end + len_utf8 c
      → Some (told kind does at now) ≡ slice_get (tokens_from at text) 0
  ends_at kind does now f n =
      let h : WentBy (Ends kind does) done c = went (Ends kind does) f in
      let count = r.count in
      first_told text (done ++ c ∷ []) at now h.token (tokens (chars rest)) kind does (ap tokens next_is ∙ h.cuts (chars rest)) h.kind_is h.sort_is h.spelled
      (omega (arith, count, n, bytes_append done (c ∷ [])))

-- ---- the end of the text

all_done : (text : List ℕ) (at : ℕ) (done bs : List ℕ) (state : TokenState) (end : ℕ) → ReadSoFar text at done bs state end → length bs ≡ 0 → done ≡ chars text
all_done text at done bs state end r e = sym (append-nil done) ∙ ap (λ (t : List ℕ). done ++ t) (sym (chars-none bs e)) ∙ r.whole

pub none_at_end : (text : List ℕ) (at : ℕ) (done bs : List ℕ) (state : TokenState) (end : ℕ) → ReadSoFar text at done bs state end → length bs ≡ 0 → kind_at_end state ≡ None
    → None ≡ slice_get (tokens_from at text) 0
none_at_end text at done bs state end r e f =
    let g : EndsAs None done = subst (λ (o : Option TokenKind). EndsAs o done) f (ends state done r.holds) in
    sym (ap (λ (ks : List Token). slice_get (placed_tokens at ks) 0) (ap tokens (sym (all_done text at done bs state end r e)) ∙ g))

pub some_at_end : (text : List ℕ) (at : ℕ) (done bs : List ℕ) (state : TokenState) (end : ℕ) (kind : TokenKind) → ReadSoFar text at done bs state end → length bs ≡ 0
    → kind_at_end state ≡ Some kind → Some (told kind Other at end) ≡ slice_get (tokens_from at text) 0
some_at_end text at done bs state end kind r e f =
    let g : EndsAs (Some kind) done = subst (λ (o : Option TokenKind). EndsAs o done) f (ends state done r.holds) in
    first_told text done at end g.0 [] kind Other (ap tokens (sym (all_done text at done bs state end r e)) ∙ g.3) g.1 (end_other state g.0 kind f g.1) g.2 r.count
