-- What is left of an input without what is not kept.
use Rattle.std.proofs.Common.{◌≡◌, ℕ, ◌+◌, ◌-◌, ◌≤◌, if◌then◌else◌, Bool, true, false, true≢false, cond, not, ◌&&◌, ◌||◌, ◌==◌, List, [], ◌∷◌, ◌++◌, map, length, take, Option, Some, None, Ok, is_some, nat_lt, refl, sym, ap, ◌∙◌, arith}
use Rattle.std.specs.Char.{len_utf8}
use Rattle.std.proofs.lemmas.Bool.{eqb-true, lt-ltb}
use Rattle.std.proofs.lemmas.Str.{len_utf8_bounds}
use Rattle.gabc_places.specs.Text.{is_left_out, read_as, text_of_bytes, utf8_prefix_of, decoded_of}
use Rattle.gabc_places.specs.declared.code.Code.{Code}
use Rattle.gabc_places.specs.declared.limits.Limits.{Limits}
use Rattle.gabc_headers.proofs.entries.TextsAsBytes.{bytes_len-cons}
use Rattle.gabc_headers.specs.Heads.{heads_of}
use Rattle.gabc_headers.specs.Lines.{bytes_len}
use Rattle.gabc_headers.specs.declared.heads.Heads.{Heads}
use Rattle.gabc_text.specs.Token.{is_blank}
use Rattle.gabc_body.specs.Score.{heads_text, after_heads, score_of}
use Rattle.gabc_nodes.specs.declared.kind.Kind.{Kind}
use Rattle.gabc_nodes.specs.declared.kind.Kind.TheVariants as kind
use Rattle.gabc_tree.specs.CodeNumber.{number_of_code}
use Rattle.gabc_tree.specs.Fates.{reached_after, spaced, left_of, IsKeptText}
use Rattle.gabc_tree.specs.NotKept.{Reached, begun, code_at, comes_next, out_by_code, out_in_body, out_by, out_of, is_silent, but_first, past, past_head, past_body, past_shown, nodes_by, nodes_from}
use Rattle.gabc_tree.specs.Placed.{bytes_in}
use Rattle.gabc_tree.specs.Tree.{ending_by, characters_before, kept_characters}
use Rattle.gabc_tree.proofs.fates.Input.{shown, shown_is}
use Rattle.gabc_tree.proofs.fates.OfScore.{count_of, text_is, all_found}

-- ---- one character

-- what comes next is kept as it is, but for a blank
next_spaced : (d c : ℕ) (ks : List ℕ) → comes_next (d ∷ ks) c ≡ true → spaced c ≡ spaced d
next_spaced d c ks h = by (c == d) refl (d == 32) refl h
  where
    blank : (d == 32) ≡ true → is_blank c ≡ true → spaced c ≡ spaced d
    blank e b = ap (λ (o : Bool). cond o 32 c) b ∙ ap spaced (sym (eqb-true d 32 e))

    by : (o : Bool) → (c == d) ≡ o → (p : Bool) → (d == 32) ≡ p → (o || (p && is_blank c)) ≡ true → spaced c ≡ spaced d
    by true e p f g = ap spaced (eqb-true c d e)
    by false e true f g = blank f g
    by false e false f g = absurd (true≢false (sym g))

-- while something is to come, what is no node comes next
none_comes : (s : Reached) (d : ℕ) (ks : List ℕ) (c : ℕ) → s.kept ≡ d ∷ ks → out_in_body s c ≡ None → comes_next (d ∷ ks) c ≡ true
none_comes s d ks c k h = by (s.comment && not (c == 10)) (comes_next (d ∷ ks) c) (c == 37) (code_at s.place s.findings) (is_blank c)
    (sym (ap (λ (js : List ℕ). cond (s.comment && not (c == 10)) (Some (kind.Comment, 0)) (cond (comes_next js c) None (cond (c == 37) (Some (kind.Comment, 0)) (out_by_code js c (code_at s.place s.findings))))) k) ∙ h)
  where
    by : (a n p : Bool) (code : Option Code) (b : Bool)
        → cond a (Some (kind.Comment, 0)) (cond n None (cond p (Some (kind.Comment, 0)) (elim code as (λ _. Option (Kind × ℕ)) [ None ↦ cond b (Some (kind.FurtherBlank, 0)) (Some (kind.LeftOut, 106)) | Some code ↦ Some (kind.LeftOut, number_of_code code) ]))) ≡ None
        → n ≡ true
    by true n p code b h = absurd (cc)
    by false true p code b h = refl
    by false false true code b h = absurd (cc)
    by false false false (Some code) b h = absurd (cc)
    by false false false None true h = absurd (cc)
    by false false false None false h = absurd (cc)

kept_past : (s : Reached) (c : ℕ) → s.heads ≡ 0 → (past_shown s c).kept ≡ cond (is_some (out_in_body s c)) s.kept (but_first s.kept)
kept_past s c h = by (nat_lt 0 s.heads) (ap (nat_lt 0) h)
  where
    by : (o : Bool) → o ≡ false → (cond o (past_head s) (past_body s c)).kept ≡ cond (is_some (out_in_body s c)) s.kept (but_first s.kept)
    by true e = absurd (true≢false e)
    by false e = refl

heads_past : (s : Reached) (c : ℕ) → s.heads ≡ 0 → (past_shown s c).heads ≡ 0
heads_past s c h = by (nat_lt 0 s.heads) (ap (nat_lt 0) h)
  where
    by : (o : Bool) → o ≡ false → (cond o (past_head s) (past_body s c)).heads ≡ 0
    by true e = absurd (true≢false e)
    by false e = h

-- ---- the body

-- what is kept comes first, and has room beside what is not
record Leaves (s : Reached) (cs : List ℕ) : Type 0 where
  tail : List ℕ
  is : map spaced (left_of s cs) ≡ map spaced (s.kept ++ tail)
  bytes : bytes_len s.kept + bytes_in (nodes_from s cs) ≤ bytes_len cs

-- a character is no longer for what is read of it
read_short : (c : ℕ) → len_utf8 (read_as c) ≤ len_utf8 c
read_short c = by (c == 13) refl
  where
    by : (o : Bool) → (c == 13) ≡ o → len_utf8 (if o then 10 else c) ≤ len_utf8 c
    by true e = let l = (len_utf8_bounds c).0 in omega (arith, l)
    by false e = omega arith

next_short : (d c : ℕ) (ks : List ℕ) → comes_next (d ∷ ks) c ≡ true → len_utf8 d ≤ len_utf8 c
next_short d c ks h = by (c == d) refl (d == 32) refl h
  where
    blank : (d == 32) ≡ true → len_utf8 d ≤ len_utf8 c
    blank e = let l = (len_utf8_bounds c).0 in let s = ap len_utf8 (eqb-true d 32 e) in omega (arith, l, s)

    by : (o : Bool) → (c == d) ≡ o → (p : Bool) → (d == 32) ≡ p → (o || (p && is_blank c)) ≡ true → len_utf8 d ≤ len_utf8 c
    by true e p f g = let s = ap len_utf8 (eqb-true c d e) in omega (arith, s)
    by false e true f g = blank f
    by false e false f g = absurd (true≢false (sym g))

-- the bytes of the node of a character, and of those after it
one_byte : (s : Reached) (c : ℕ) (cs : List ℕ) (out : Option (Kind × ℕ)) → out_of s c ≡ out
    → bytes_in (nodes_from s (c ∷ cs)) ≡ cond (is_some out) (len_utf8 c) 0 + bytes_in (nodes_from (past s c) cs)
one_byte s c cs out e = ap (λ (o : Option (Kind × ℕ)). bytes_in (nodes_by o s.byte (s.byte + len_utf8 c) ++ nodes_from (past s c) cs)) e ∙ by out
  where
    by : (o : Option (Kind × ℕ)) → bytes_in (nodes_by o s.byte (s.byte + len_utf8 c) ++ nodes_from (past s c) cs) ≡ cond (is_some o) (len_utf8 c) 0 + bytes_in (nodes_from (past s c) cs)
    by None = omega arith
    by (Some k) = omega arith

body_leaves : (cs : List ℕ) (s : Reached) → s.heads ≡ 0 → (reached_after s cs).kept ≡ [] → Leaves s cs
body_leaves [] s h e = record { tail = []; is = sym (ap (λ (ks : List ℕ). map spaced (ks ++ [])) e); bytes = let z = ap bytes_len e in omega (arith, z) }
body_leaves (c ∷ cs) s h e = by (is_silent s c) refl (λ f. body_leaves cs (past s c) f e)
  where
    d : ℕ
    d = read_as c

    heads_then : (o : Bool) → (cond o s (past_shown s (read_as c))).heads ≡ 0
    heads_then true = h
    heads_then false = heads_past s (read_as c) h

    shown_out : is_silent s c ≡ false → out_of s c ≡ out_in_body s (read_as c)
    shown_out l = ap (λ (o : Bool). cond o (Some (kind.Silent, 0)) (out_by s (read_as c))) l ∙ ap (λ (n : ℕ). cond (nat_lt 0 n) None (out_in_body s (read_as c))) h

    taken : (l : Leaves (past s c) cs) → (past s c).kept ≡ but_first s.kept → (ks : List ℕ) → s.kept ≡ ks → out_in_body s (read_as c) ≡ None → out_of s c ≡ None → Leaves s (c ∷ cs)
    taken l k [] n out o = record {
      tail = read_as c ∷ l.tail;
      is =
          ap (λ (p : Option (Kind × ℕ)). map spaced (cond (is_some p) (left_of (past s c) cs) (read_as c ∷ left_of (past s c) cs))) o
          ∙ (ap (λ (u : List ℕ). spaced (read_as c) ∷ u) (l.is ∙ ap (λ (ks : List ℕ). map spaced (ks ++ l.tail)) (k ∙ ap but_first n))
          ∙ sym (ap (λ (ks : List ℕ). map spaced (ks ++ read_as c ∷ l.tail)) n));
      bytes =
          let a = one_byte s c cs None o in
          let b = l.bytes in
          let z = ap bytes_len n in
          let y = ap bytes_len (k ∙ ap but_first n) in
          let x = bytes_len-cons c cs in
          omega (arith, a, b, z, y, x);
    }
    taken l k (d ∷ ks) n out o = record {
      tail = l.tail;
      is =
          ap (λ (p : Option (Kind × ℕ)). map spaced (cond (is_some p) (left_of (past s c) cs) (read_as c ∷ left_of (past s c) cs))) o
          ∙ (ap (λ (u : List ℕ). spaced (read_as c) ∷ u) (l.is ∙ ap (λ (ks : List ℕ). map spaced (ks ++ l.tail)) (k ∙ ap but_first n))
          ∙ (ap (λ (a : ℕ). a ∷ map spaced (ks ++ l.tail)) (next_spaced d (read_as c) ks (none_comes s d ks (read_as c) n out))
          ∙ sym (ap (λ (ks : List ℕ). map spaced (ks ++ l.tail)) n)));
      bytes =
          let a = one_byte s c cs None o in
          let b = l.bytes in
          let z = ap bytes_len n ∙ bytes_len-cons d ks in
          let y = ap bytes_len (k ∙ ap but_first n) in
          let x = bytes_len-cons c cs in
          let w = next_short d (read_as c) ks (none_comes s d ks (read_as c) n out) in
          let v = read_short c in
          omega (arith, a, b, z, y, x, w, v);
    }

    left_out : (l : Leaves (past s c) cs) (out : Kind × ℕ) → (past s c).kept ≡ s.kept → out_of s c ≡ Some out → Leaves s (c ∷ cs)
    left_out l out k o = record {
      tail = l.tail;
      is =
          ap (λ (p : Option (Kind × ℕ)). map spaced (cond (is_some p) (left_of (past s c) cs) (read_as c ∷ left_of (past s c) cs))) o
          ∙ (l.is ∙ ap (λ (ks : List ℕ). map spaced (ks ++ l.tail)) k);
      bytes =
          let a = one_byte s c cs (Some out) o in
          let b = l.bytes in
          let y = ap bytes_len k in
          let x = bytes_len-cons c cs in
          omega (arith, a, b, y, x);
    }

    kept_by : (o : Bool) → is_silent s c ≡ o → (past s c).kept ≡ (cond o s (past_shown s (read_as c))).kept
    kept_by o e = ap (λ (p : Bool). (cond p s (past_shown s (read_as c))).kept) e

    by : (o : Bool) → is_silent s c ≡ o → ((past s c).heads ≡ 0 → Leaves (past s c) cs) → Leaves s (c ∷ cs)
    by true l later = left_out (later (heads_then (is_silent s c))) (kind.Silent, 0) (kept_by true l) (ap (λ (o : Bool). cond o (Some (kind.Silent, 0)) (out_by s (read_as c))) l)
    by false l later = out (out_in_body s (read_as c)) refl
      where
        out : (p : Option (Kind × ℕ)) → out_in_body s (read_as c) ≡ p → Leaves s (c ∷ cs)
        out None e =
            taken (later (heads_then (is_silent s c))) (kept_by false l ∙ (kept_past s (read_as c) h ∙ ap (λ (q : Option (Kind × ℕ)). cond (is_some q) s.kept (but_first s.kept)) e)) s.kept refl e (shown_out l ∙ e)
        out (Some k) e =
            left_out (later (heads_then (is_silent s c))) k (kept_by false l ∙ (kept_past s (read_as c) h ∙ ap (λ (q : Option (Kind × ℕ)). cond (is_some q) s.kept (but_first s.kept)) e)) (shown_out l ∙ e)

-- ---- the headers

record PastHeads (s : Reached) (cs u : List ℕ) : Type 0 where
  there : Reached
  rest : List ℕ
  left_is : left_of s cs ≡ u ++ left_of there rest
  heads_is : there.heads ≡ 0
  kept_is : there.kept ≡ s.kept
  after_is : reached_after there rest ≡ reached_after s cs
  bytes : bytes_len u + bytes_in (nodes_from s cs) + bytes_len rest ≤ bytes_len cs + bytes_in (nodes_from there rest)

past_heads : (cs : List ℕ) (s : Reached) (u t : List ℕ) → shown s.previous cs ≡ u ++ t → s.heads ≡ length u → PastHeads s cs u
past_heads cs s [] t e h = record { there = s; rest = cs; left_is = refl; heads_is = h; kept_is = refl; after_is = refl; bytes = omega arith }
past_heads [] s (d ∷ u) t e h = absurd (cc)
past_heads (c ∷ cs) s (d ∷ u) t e h = by (is_left_out (s.previous, c)) refl e (λ v f g. past_heads cs (past s c) v t f g)
  where
    some_heads : nat_lt 0 s.heads ≡ true
    some_heads = lt-ltb 0 s.heads (omega (arith, h))

    shown_heads : (o : Bool) → o ≡ true → ((cond o (past_head s) (past_body s (read_as c))).heads ≡ s.heads - 1) × ((cond o (past_head s) (past_body s (read_as c))).kept ≡ s.kept)
    shown_heads true f = (refl, refl)
    shown_heads false f = absurd (true≢false (sym f))

    by : (o : Bool) → is_left_out (s.previous, c) ≡ o → cond o (shown c cs) (read_as c ∷ shown c cs) ≡ d ∷ (u ++ t)
        → ((v : List ℕ) → shown c cs ≡ v ++ t → (past s c).heads ≡ length v → PastHeads (past s c) cs v) → PastHeads s (c ∷ cs) (d ∷ u)
    by true l f later =
        let heads : (past s c).heads ≡ s.heads = ap (λ (o : Bool). (cond o s (past_shown s (read_as c))).heads) l in
        let kept : (past s c).kept ≡ s.kept = ap (λ (o : Bool). (cond o s (past_shown s (read_as c))).kept) l in
        let left : left_of s (c ∷ cs) ≡ left_of (past s c) cs = ap (λ (o : Bool). cond (is_some (cond o (Some (kind.Silent, 0)) (out_by s (read_as c)))) (left_of (past s c) cs) (read_as c ∷ left_of (past s c) cs)) l in
        let r = later (d ∷ u) f (heads ∙ h) in
        record {
          there = r.there;
          rest = r.rest;
          left_is = ◌∙◌ {c = (d ∷ u) ++ left_of r.there r.rest} left r.left_is;
          heads_is = r.heads_is;
          kept_is = ◌∙◌ {c = s.kept} r.kept_is kept;
          after_is = r.after_is;
          bytes =
              let a = one_byte s c cs (Some (kind.Silent, 0)) (ap (λ (o : Bool). cond o (Some (kind.Silent, 0)) (out_by s (read_as c))) l) in
              let b = r.bytes in
              let x = bytes_len-cons c cs in
              omega (arith, a, b, x);
        }
    by false l f later =
        let first : read_as c ≡ d = cc f in
        let more : shown c cs ≡ u ++ t = cc f in
        let one = shown_heads (nat_lt 0 s.heads) some_heads in
        let fewer : s.heads - 1 ≡ length u = omega (arith, h) in
        let heads : (past s c).heads ≡ s.heads - 1 = ap (λ (o : Bool). (cond o s (past_shown s (read_as c))).heads) l ∙ one.0 in
        let kept : (past s c).kept ≡ s.kept = ap (λ (o : Bool). (cond o s (past_shown s (read_as c))).kept) l ∙ one.1 in
        let shows : out_of s c ≡ out_by s (read_as c) = ap (λ (o : Bool). cond o (Some (kind.Silent, 0)) (out_by s (read_as c))) l in
        let none : out_of s c ≡ None = shows ∙ ap (λ (o : Bool). cond o None (out_in_body s (read_as c))) some_heads in
        let left : left_of s (c ∷ cs) ≡ read_as c ∷ left_of (past s c) cs = ap (λ (p : Option (Kind × ℕ)). cond (is_some p) (left_of (past s c) cs) (read_as c ∷ left_of (past s c) cs)) none in
        let r = later u more (heads ∙ fewer) in
        record {
          there = r.there;
          rest = r.rest;
          left_is = ◌∙◌ {c = (d ∷ u) ++ left_of r.there r.rest} left (◌∙◌ {c = (d ∷ u) ++ left_of r.there r.rest} (ap (λ (a : ℕ). a ∷ left_of (past s c) cs) first) (ap (λ (v : List ℕ). d ∷ v) r.left_is));
          heads_is = r.heads_is;
          kept_is = ◌∙◌ {c = s.kept} r.kept_is kept;
          after_is = r.after_is;
          bytes =
              let a = one_byte s c cs None none in
              let b = r.bytes in
              let x = bytes_len-cons c cs in
              let y = bytes_len-cons d u in
              let z = ap len_utf8 first in
              let v = read_short c in
              omega (arith, a, b, x, y, z, v);
        }

map_both : (u v : List ℕ) → map spaced (u ++ v) ≡ map spaced u ++ map spaced v
map_both [] v = refl
map_both (c ∷ u) v = ap (λ (w : List ℕ). spaced c ∷ w) (map_both u v)

pub kept_text : (limits : Limits) (bytes : List ℕ) (heads : Heads) → heads_of limits (text_of_bytes limits.input bytes) ≡ Ok heads → IsKeptText limits bytes heads
kept_text limits bytes heads e =
    let cs = utf8_prefix_of (take limits.input bytes) in
    let text = text_of_bytes limits.input bytes in
    let score = score_of limits (ending_by (decoded_of limits true bytes).fault) text in
    let s : Reached = begun (characters_before heads.body text) (kept_characters score.syllables) score.findings in
    let h = heads_text text in
    let p = past_heads cs s h (after_heads text) (sym (shown_is cs) ∙ sym (text_is limits bytes heads e)) (count_of limits bytes heads e) in
    let l = body_leaves p.rest p.there p.heads_is (ap (λ (r : Reached). r.kept) p.after_is ∙ all_found limits bytes heads e) in
    record {
      tail = l.tail;
      is =
          ap (map spaced) p.left_is
          ∙ (map_both h (left_of p.there p.rest)
          ∙ (ap (λ (u : List ℕ). map spaced h ++ u) (l.is ∙ ap (λ (ks : List ℕ). map spaced (ks ++ l.tail)) p.kept_is)
          ∙ sym (map_both h (kept_characters score.syllables ++ l.tail))));
    }

-- what is kept of the headers and of the syllables has room in the input beside what is not kept
pub kept_fits : (limits : Limits) (bytes : List ℕ) (heads : Heads) → heads_of limits (text_of_bytes limits.input bytes) ≡ Ok heads
    → let cs = utf8_prefix_of (take limits.input bytes) in
    let text = text_of_bytes limits.input bytes in
    let score = score_of limits (ending_by (decoded_of limits true bytes).fault) text in
    bytes_len (heads_text text) + bytes_len (kept_characters score.syllables) + bytes_in (nodes_from (begun (characters_before heads.body text) (kept_characters score.syllables) score.findings) cs) ≤ bytes_len cs
kept_fits limits bytes heads e =
    let cs = utf8_prefix_of (take limits.input bytes) in
    let text = text_of_bytes limits.input bytes in
    let score = score_of limits (ending_by (decoded_of limits true bytes).fault) text in
    let s : Reached = begun (characters_before heads.body text) (kept_characters score.syllables) score.findings in
    let p = past_heads cs s (heads_text text) (after_heads text) (sym (shown_is cs) ∙ sym (text_is limits bytes heads e)) (count_of limits bytes heads e) in
    let l = body_leaves p.rest p.there p.heads_is (ap (λ (r : Reached). r.kept) p.after_is ∙ all_found limits bytes heads e) in
    let a = p.bytes in
    let b = l.bytes in
    let c = ap bytes_len p.kept_is in
    omega (arith, a, b, c)
