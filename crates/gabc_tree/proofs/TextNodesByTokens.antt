-- The nodes of a text are made a token at a time.
use Rattle.std.proofs.Common.{◌≡◌, ℕ, ◌+◌, ◌-◌, ◌<◌, ◌≤◌, ◌==◌, nat_lt, List, [], ◌∷◌, ◌++◌, Bool, true, false, not, ◌&&◌, ◌||◌, is_some, Option, Some, None, refl, sym, ap, ◌∙◌, subst, append_assoc, length, length-append, take, drop, slice_range, option_to_list, codes, arith, IsUtf8, ne_eqb}
use Rattle.std.specs.List.{list_any}
use Rattle.std.specs.Str.{chars}
use Rattle.std.proofs.lemmas.Bool.{and_parts, eqb-true, ltb-true, ltb-false, lt-ltb}
use Rattle.std.proofs.lemmas.List.Sums.{sum_by-cons}
use Rattle.std.proofs.lemmas.Str.{encode_ascii, encodes-append, encodes-chars, length-encode, char_from_byte}
use Rattle.std.proofs.Math.Seq.{drop-append_seam, take-append_seam}
use lib.Utf8.{encode, encodes}
use Rattle.gabc_places.specs.declared.place.Span.{Span}
use Rattle.gabc_text.specs.declared.span_mark.SpanMark.{SpanMark}
use Rattle.gabc_text.specs.declared.token.TagEffect.{TagEffect}
use Rattle.gabc_text.specs.declared.token.TagEffect.TheVariants as does
use Rattle.gabc_text.specs.declared.token.TokenKind.{TokenKind}
use Rattle.gabc_text.specs.declared.token.TokenKind.TheVariants as kind
use Rattle.gabc_text.specs.declared.token_reader.TextToken.{TextToken}
use Rattle.gabc_text.specs.Token.{Token, spelling, tokens, effect_of}
use Rattle.gabc_text.specs.View.{effect, effect_as, kind_of, bytes_of, text_of, piece_kind, is_word_kind, is_space, is_begin, is_end, is_translation, has_word, follows_blank, has_begin, has_end, has_translation}
use Rattle.gabc_text.specs.Events.{styles_of, is_blank_at}
use Rattle.gabc_text.specs.KeptText.{bytes_before}
use Rattle.gabc_text.specs.Printed.{text_of_tokens}
use Rattle.gabc_text.specs.RegularText.{mark_at}
use Rattle.gabc_text.specs.TextTokens.{placed_token, placed_tokens, tokens_of}
use Rattle.gabc_text.proofs.tokens.CountsOfTexts.{bytes_append, some_bytes}
use Rattle.gabc_text.proofs.tokens.TextIsTokensAndRest.{parted}
use Rattle.gabc_text.proofs.machine.LoopOverText.{bytes_encodes}
use Rattle.gabc_nodes.specs.declared.kind.Kind.TheVariants as node
use Rattle.gabc_nodes.specs.declared.node.Node.{Node}
use Rattle.gabc_tree.specs.declared.text_nodes.Before.{Before}
use Rattle.gabc_tree.specs.TextNodes.{text_node, begins_with, numbers_of, is_piece_at, is_escape, raw_number, number_of_mark, tag_node, node_by, node_at, nodes_along, joined, text_nodes}
use Rattle.gabc_tree.specs.machine.TextNodes.{shown_by, styles_past, shown_past, shown_past_tag, has_piece, node_after}

-- ---- a text begins with characters of ASCII if its bytes do

abbrev is_ascii : List ℕ → Bool
is_ascii [] = true
is_ascii (d ∷ s) = nat_lt d 128 && is_ascii s

no_ascii : (bs rest s : List ℕ) (c d : ℕ) → bs ≡ encode c → 128 ≤ c → d < 128 → begins_with (d ∷ s) (bs ++ rest) ≡ false
no_ascii [] rest s c d e h l = absurd (omega (arith, ap (length {A = ℕ}) e, length-encode c, some_bytes c))
no_ascii (b ∷ bs) rest s c d e h l =
    let ne : d == b ≡ false = ne_eqb d b (λ f. let same = char_from_byte (b ∷ (bs ++ rest)) rest c (ap (λ (x : List ℕ). x ++ rest) e) (omega (arith, f)) (omega arith) in omega (arith, same, f)) in
    rw ne refl

other : (c d : ℕ) → 128 ≤ c → d < 128 → d == c ≡ false
other c d h l = ne_eqb d c (λ f. omega (arith, f))

pub begins_same : (s cs : List ℕ) → is_ascii s ≡ true → begins_with s (encodes cs) ≡ begins_with s cs
begins_same [] cs h = refl
begins_same (d ∷ s) [] h = refl
begins_same (d ∷ s) (c ∷ cs) h = by (nat_lt c 128) refl (begins_same s cs (and_parts (nat_lt d 128) (is_ascii s) h).1)
  where
    low : d < 128
    low = ltb-true d 128 (and_parts (nat_lt d 128) (is_ascii s) h).0

    by : (b : Bool) → nat_lt c 128 ≡ b → begins_with s (encodes cs) ≡ begins_with s cs → begins_with (d ∷ s) (encode c ++ encodes cs) ≡ begins_with (d ∷ s) (c ∷ cs)
    by true e ih = ap (λ (x : List ℕ). begins_with (d ∷ s) (x ++ encodes cs)) (encode_ascii c (ltb-true c 128 e)) ∙ ap (λ (r : Bool). (d == c) && r) ih
    by false e ih =
        let high : 128 ≤ c = ltb-false c 128 e in
        no_ascii (encode c) (encodes cs) s c d refl high low ∙ sym (ap (λ (r : Bool). r && begins_with s cs) (other c d high low))

-- ---- how a token is spelled, in bytes and in characters

raw_same : (cs : List ℕ) → raw_number (encodes cs) ≡ raw_number cs
raw_same cs = rw (begins_same (codes "<v>") cs refl, begins_same (codes "<sp>") cs refl) refl

mark_same : (cs : List ℕ) → mark_at (encodes cs) ≡ mark_at cs
mark_same cs =
    rw (begins_same (codes "<eu>") cs refl, begins_same (codes "</eu>") cs refl, begins_same (codes "<nlba>") cs refl, begins_same (codes "</nlba>") cs refl) refl

dollar : (cs : List ℕ) → is_escape (encodes (36 ∷ cs)) ≡ is_escape (36 ∷ cs)
dollar [] = ap (λ (x : List ℕ). is_escape (x ++ [])) (encode_ascii 36 (omega arith))
dollar (c ∷ cs) =
    let long : nat_lt 1 (length (36 ∷ encodes (c ∷ cs))) ≡ true = lt-ltb 1 _ (omega (arith, length-append (encode c) (encodes cs), length-encode c, some_bytes c)) in
    ap (λ (x : List ℕ). is_escape (x ++ encodes (c ∷ cs))) (encode_ascii 36 (omega arith)) ∙ long ∙ sym (lt-ltb 1 (length (36 ∷ c ∷ cs)) (omega arith))

escape_same : (cs : List ℕ) → is_escape (encodes cs) ≡ is_escape cs
escape_same [] = refl
escape_same (c ∷ cs) = by (36 == c) refl
  where
    by : (b : Bool) → 36 == c ≡ b → is_escape (encodes (c ∷ cs)) ≡ is_escape (c ∷ cs)
    by true e = let same : 36 ≡ c = eqb-true 36 c e in subst (λ (x : ℕ). is_escape (encodes (x ∷ cs)) ≡ is_escape (x ∷ cs)) same (dollar cs)
    by false e =
        let none : begins_with (codes "$") (c ∷ cs) ≡ false = rw e refl in
        ap (λ (b : Bool). b && nat_lt 1 (length (encodes (c ∷ cs)))) (begins_same (codes "$") (c ∷ cs) refl ∙ none)
        ∙ sym (ap (λ (b : Bool). b && nat_lt 1 (length (c ∷ cs))) none)

tag_same : (span : Span) (n : ℕ) (cs : List ℕ) (e : TagEffect) → tag_node span n (encodes cs) e ≡ tag_node span n cs e
tag_same span n cs does.Mark = ap (λ (m : Option SpanMark). text_node span node.SpanMark n (number_of_mark m) 0) (mark_same cs)
tag_same span n cs _ = refl

node_same : (span : Span) (n : ℕ) (piece first : Bool) (cs : List ℕ) (k : TokenKind) (e : TagEffect) → node_by span n piece first (encodes cs) k e ≡ node_by span n piece first cs k e
node_same span n piece first cs kind.Letter e = rw (escape_same cs) refl
node_same span n piece first cs kind.Raw e = rw (raw_same cs) refl
node_same span n piece first cs kind.Tag e = ap (λ (m : Node). Some m) (tag_same span n cs e)
node_same span n piece first cs _ e = refl

-- ---- what the tokens have shown

-- what is shown by a token more of this kind, whose tag does this
abbrev shown_more : List Token → TokenKind → TagEffect → Before
shown_more before i e = record {
  styles = styles_past (styles_of before) e;
  word = is_word_kind (piece_kind i e) || has_word before;
  blank = is_space i || (not (is_some (piece_kind i e)) && follows_blank before);
  begun = is_begin i || has_begin before;
  ended = (is_end i && has_begin before) || has_end before;
  translated = is_translation i || has_translation before;
}

pub shown_with : (before : List Token) (k : Token) → shown_by (k ∷ before) ≡ shown_past (shown_by before) k.kind (effect k)
shown_with before k = by k.kind (spelling k)
  where
    tag : (e : TagEffect) → shown_more before kind.Tag e ≡ shown_past_tag (shown_by before) e
    tag does.Mark = refl
    tag does.Other = refl
    tag _ = refl

    by : (i : TokenKind) (s : List ℕ) → shown_more before i (effect_as i s) ≡ shown_past (shown_by before) i (effect_as i s)
    by kind.Tag s = tag (effect_of s)
    by _ s = refl

has_same : (at : ℕ) (ks : List Token) → has_piece (placed_tokens at ks) ≡ list_any (λ k. is_some (kind_of k)) ks
has_same at [] = refl
has_same at (k ∷ ks) = ap (λ (b : Bool). is_some (kind_of k) || b) (has_same (at + bytes_of (spelling k)) ks)

-- ---- the node of a token

-- the bytes before a place
pub bytes_spelt : (before : List Token) → bytes_of (text_of before) ≡ bytes_before before
bytes_spelt [] = refl
bytes_spelt (k ∷ before) = omega (arith, bytes_spelt before, bytes_append (text_of before) (spelling k), sum_by-cons (λ (t : Token). bytes_of (spelling t)) k before)

-- how far the token goes
pub next_byte : (before : List Token) (k : Token) → bytes_before before + bytes_of (spelling k) ≡ bytes_before (k ∷ before)
next_byte before k = omega (arith, sum_by-cons (λ (t : Token). bytes_of (spelling t)) k before)

abbrev here : List Token → Token → TextToken
here before k = placed_token (bytes_before before) k

pub same_node : (before after : List Token) (k : Token) (s : List ℕ) → s ≡ encodes (spelling k)
    → node_after (shown_by before) (here before k) s (placed_tokens (bytes_before (k ∷ before)) after) ≡ node_at before k after
same_node before after k s e =
    ap (λ (x : List ℕ). node_after (shown_by before) (here before k) x (placed_tokens (bytes_before (k ∷ before)) after)) e
    ∙ node_same (here before k).span (numbers_of before) _ (not (has_translation before)) (spelling k) k.kind (effect k)
    ∙ ap (λ (b : Bool). node_by (here before k).span (numbers_of before) (is_blank_at before k.kind && b) (not (has_translation before)) (spelling k) k.kind (effect k))
    (has_same (bytes_before (k ∷ before)) after)
    ∙ ap (λ (n : ℕ). node_by (record { from = bytes_before before; to = n }) (numbers_of before) (is_piece_at before k after) (not (has_translation before)) (spelling k) k.kind (effect k))
    (next_byte before k)

-- ---- the bytes of a part of a text

-- the characters t stand in the text between s and r
pub spelt_bytes : (text s t r : List ℕ) → IsUtf8 text → chars text ≡ s ++ (t ++ r)
    → (slice_range text (bytes_of s) (bytes_of s + bytes_of t) ≡ encodes t) × (bytes_of s + bytes_of t ≤ length text)
spelt_bytes text s t r u e =
    let all : text ≡ encodes s ++ (encodes t ++ encodes r) =
    sym (encodes-chars text u) ∙ ap encodes e ∙ encodes-append s (t ++ r) ∙ ap (λ (x : List ℕ). encodes s ++ x) (encodes-append t r) in
    let m = bytes_encodes s in
    let n = bytes_encodes t in
    let count : (bytes_of s + bytes_of t) - bytes_of s ≡ length (encodes t) = omega (arith, n) in (
      ap (λ (x : List ℕ). slice_range x (bytes_of s) (bytes_of s + bytes_of t)) all
          ∙ ap (λ (x : ℕ). take x (drop (bytes_of s) (encodes s ++ (encodes t ++ encodes r)))) count
          ∙ ap (λ (x : ℕ). take (length (encodes t)) (drop x (encodes s ++ (encodes t ++ encodes r)))) m
          ∙ ap (take (length (encodes t))) (drop-append_seam (encodes s) (encodes t ++ encodes r))
          ∙ take-append_seam (encodes t) (encodes r),
      omega (arith, m, n, ap (length {A = ℕ}) all, length-append (encodes s) (encodes t ++ encodes r), length-append (encodes t) (encodes r)),
    )

-- ---- the walk over the tokens

-- The nodes `out`, the last one and those of the tokens ahead are all, joined.
pub record Walked (text : List ℕ) (all out : List Node) (last : Option Node) (shown : Before) (ahead : List TextToken) : Type 0 where
  pub before : List Token
  pub after : List Token
  pub rest : List ℕ
  pub shown_is : shown ≡ shown_by before
  pub ahead_is : ahead ≡ placed_tokens (bytes_before before) after
  pub parts : chars text ≡ text_of before ++ (text_of_tokens after ++ rest)
  pub nodes : out ++ joined (option_to_list last ++ nodes_along before after) ≡ all

pub begun : (text : List ℕ) (out : List Node) (ahead : List TextToken) → ahead ≡ tokens_of text → Walked text (out ++ text_nodes text) out None (shown_by []) ahead
begun text out ahead e =
    let p = parted (chars text) in
    record { before = []; after = tokens (chars text); rest = p.rest; shown_is = refl; ahead_is = e; parts = p.parts; nodes = refl }

-- the node of the token, which stands before these
abbrev pub node_there : List ℕ → Before → TextToken → List TextToken → Option Node
node_there text shown token ahead = node_after shown token (slice_range text token.span.from token.span.to) ahead

-- past the token, whose node is added
pub record Goes (text : List ℕ) (all out : List Node) (last : Option Node) (shown : Before) (token : TextToken) (ahead : List TextToken) : Type 0 where
  pub order : token.span.from ≤ token.span.to
  pub within : token.span.to ≤ length text
  pub on : (more : List Node) (next : Option Node)
      → ((later : List Node) → more ++ joined (option_to_list next ++ later) ≡ out ++ joined (option_to_list last ++ (option_to_list (node_there text shown token ahead) ++ later)))
      → Walked text all more next (shown_past shown token.kind token.effect) ahead

module _ (text : List ℕ) (all out : List Node) (last : Option Node) (shown : Before) (token : TextToken) (was ahead : List TextToken) (u : IsUtf8 text) (e : was ≡ token ∷ ahead) where
  goes_by : (before after : List Token) (rest : List ℕ) → shown ≡ shown_by before → was ≡ placed_tokens (bytes_before before) after
      → chars text ≡ text_of before ++ (text_of_tokens after ++ rest) → out ++ joined (option_to_list last ++ nodes_along before after) ≡ all → Goes text all out last shown token ahead
  goes_by before [] rest s a p n = absurd (cc)
  goes_by before (k ∷ ks) rest s a p n =
      let same : here before k ≡ token = cc in
      let back : ahead ≡ placed_tokens (bytes_before before + bytes_of (spelling k)) ks = cc in
      let placed : ahead ≡ placed_tokens (bytes_before (k ∷ before)) ks = back ∙ ap (λ (x : ℕ). placed_tokens x ks) (next_byte before k) in
      let cut : chars text ≡ text_of before ++ (spelling k ++ (text_of_tokens ks ++ rest)) = p ∙ ap (λ (x : List ℕ). text_of before ++ x) (append_assoc (spelling k) (text_of_tokens ks) rest) in
      let part = spelt_bytes text (text_of before) (spelling k) (text_of_tokens ks ++ rest) u cut in
      let start = bytes_spelt before in
      let bytes : slice_range text (bytes_before before) (bytes_before before + bytes_of (spelling k)) ≡ encodes (spelling k) =
      ap (λ (x : ℕ). slice_range text x (x + bytes_of (spelling k))) (sym start) ∙ part.0 in
      let told : node_there text shown token ahead ≡ node_at before k ks =
      ap (λ (t : TextToken). node_there text shown t ahead) (sym same)
      ∙ ap (λ (f : Before). node_there text f (here before k) ahead) s
      ∙ ap (λ (x : List TextToken). node_there text (shown_by before) (here before k) x) placed
      ∙ same_node before ks k (slice_range text (bytes_before before) (bytes_before before + bytes_of (spelling k))) bytes in
      let past : shown_past shown token.kind token.effect ≡ shown_by (k ∷ before) =
      ap (λ (t : TextToken). shown_past shown t.kind t.effect) (sym same) ∙ ap (λ (f : Before). shown_past f k.kind (effect k)) s ∙ sym (shown_with before k) in
      let cut_on : chars text ≡ text_of (k ∷ before) ++ (text_of_tokens ks ++ rest) = cut ∙ sym (append_assoc (text_of before) (spelling k) (text_of_tokens ks ++ rest)) in
      record {
        order = subst (λ (t : TextToken). t.span.from ≤ t.span.to) same (omega arith);
        within = subst (λ (t : TextToken). t.span.to ≤ length text) same (omega (arith, part.1, start));
        on = λ more next added. record {
          before = k ∷ before;
          after = ks;
          rest = rest;
          shown_is = past;
          ahead_is = placed;
          parts = cut_on;
          nodes = added (nodes_along (k ∷ before) ks)
              ∙ ap (λ (o : Option Node). out ++ joined (option_to_list last ++ (option_to_list o ++ nodes_along (k ∷ before) ks))) told ∙ n;
        };
      }

  pub walked_on : Walked text all out last shown was → Goes text all out last shown token ahead
  walked_on w = goes_by w.before w.after w.rest w.shown_is w.ahead_is w.parts w.nodes

-- no token is ahead
pub walked_all : (text : List ℕ) (all out : List Node) (last : Option Node) (shown : Before) (ahead : List TextToken) → Walked text all out last shown ahead → ahead ≡ [] → out ++ option_to_list last ≡ all
walked_all text all out last shown ahead w e = by last w.after (sym e ∙ w.ahead_is) w.nodes
  where
    by : (last : Option Node) (after : List Token) → [] ≡ placed_tokens (bytes_before w.before) after → out ++ joined (option_to_list last ++ nodes_along w.before after) ≡ all
        → out ++ option_to_list last ≡ all
    by last (k ∷ ks) a n = absurd (cc)
    by None [] a n = n
    by (Some m) [] a n = n
