-- The longest item that begins a text, by its bytes.
use Rattle.std.proofs.Common.{◌≡◌, ℕ, ◌+◌, ◌≤◌, ◌<◌, List, [], ◌∷◌, ◌++◌, length, take, get_or, Option, Some, None, refl, ap, sym, ◌∙◌, subst, arith, IsUtf8, length-append, append_assoc, append-nil}
use Rattle.std.specs.Str.{chars}
use Rattle.std.specs.Char.{len_utf8}
use Rattle.std.proofs.Math.Seq.{take-append_seam, get_or-append_seam}
use Rattle.std.proofs.lemmas.Str.{IsUtf8-past_char, encodes-append, encodes-chars, length-encode}
use lib.Utf8.{encode, encodes}
use Rattle.gabc_patterns.specs.Items.{ItemSpan}
use Rattle.gabc_patterns.specs.LongestItems.{Table}
use Rattle.gabc_patterns.proofs.AutomatonsByTests.{Automaton, ReadsItems}
use Rattle.gabc_patterns.proofs.ItemHere.{ItemHere, BestHere, here_start, here_ends, here_on, here_stops, here_end}
use Rattle.gabc_patterns.proofs.TextIsReadByCharacter.{one_read, one_next, all_read}

-- how many bytes the first n characters have
abbrev pub bytes_to : List ℕ → ℕ → ℕ
bytes_to t n = length (encodes (take n t))

-- a first item's kind, with its number of bytes
abbrev pub in_bytes : {K : Type 0} → List ℕ → Option (ItemSpan K) → Option (K × ℕ)
in_bytes t None = None
in_bytes t (Some b) = Some (b.0, bytes_to t b.2)

-- Of the text the characters done are read, and rest, as bytes, is not.
pub record ReadSoFar {K S C : Type 0} (table : Table K) (a : Automaton K S C) (text done rest : List ℕ) (s : S) (read : ℕ) (best : Option (K × ℕ)) : Type 0 where
  pub utf8 : IsUtf8 rest
  pub whole : done ++ chars rest ≡ chars text
  pub count : read ≡ length (encodes done)
  pub longest : Option (ItemSpan K)
  pub bytes : best ≡ in_bytes (chars text) longest
  pub here : ItemHere table a (chars text) 0 (length done) s longest

-- The longest item of all that begin the text, if there is one, with its number of bytes.
pub record BestByBytes {K : Type 0} (table : Table K) (text : List ℕ) (best : Option (K × ℕ)) : Type 0 where
  pub longest : Option (ItemSpan K)
  pub bytes : best ≡ in_bytes (chars text) longest
  pub here : BestHere table (chars text) 0 longest

-- the character after those that are done
seam : (done later : List ℕ) (c : ℕ) → (length done < length (done ++ c ∷ later)) × (c ≡ get_or (done ++ c ∷ later) (length done) c)
seam done later c = (omega (arith, length-append done (c ∷ later)), sym (get_or-append_seam done c later c))

-- the characters up to it
prefix : (done later : List ℕ) (c : ℕ) → take (length done + 1) (done ++ c ∷ later) ≡ done ++ c ∷ []
prefix done later c =
    let n : length done + 1 ≡ length (done ++ c ∷ []) = omega (arith, length-append done (c ∷ [])) in
    ap (λ (k : ℕ). take k (done ++ c ∷ later)) n ∙ ap (take (length (done ++ c ∷ []))) (sym (append_assoc done (c ∷ []) later)) ∙ take-append_seam (done ++ c ∷ []) later

-- a character more, in bytes
counted : (done : List ℕ) (c read now : ℕ) → read ≡ length (encodes done) → now ≡ read + len_utf8 c → now ≡ length (encodes (done ++ c ∷ []))
counted done c read now e f = grind (arith, encodes-append, append-nil, length-append, length-encode)

module _ {K S C : Type 0} (table : Table K) (a : Automaton K S C) (i : ReadsItems table a) where
  -- before the first character
  pub begun_at : (text rest : List ℕ) → rest ≡ text → IsUtf8 text → ReadSoFar table a text [] rest a.first 0 None
  begun_at text rest e u = rw e (record { utf8 = u; whole = refl; count = refl; longest = None; bytes = refl; here = here_start table a i (chars text) 0 })

  -- the bytes fit
  pub fits_in : (text done bs rest : List ℕ) (s : S) (read c : ℕ) (best : Option (K × ℕ)) → IsUtf8 text → ReadSoFar table a text done bs s read best → bs ≡ encode c ++ rest
      → read + len_utf8 c ≤ length text
  fits_in text done bs rest s read c best u r e =
      let whole = one_next done bs rest (chars text) c r.utf8 e r.whole in
      let f = ap length (sym (encodes-chars text u) ∙ ap encodes whole ∙ encodes-append done (c ∷ chars rest)) in
      let count = r.count in
      omega (arith, f, count, length-append (encodes done) (encodes (c ∷ chars rest)), length-append (encode c) (encodes (chars rest)), length-encode c)

  -- a character more, and the item may end after it
  pub ends_at : (text done bs rest : List ℕ) (s z : S) (read now c : ℕ) (k : K) (best : Option (K × ℕ)) → ReadSoFar table a text done bs s read best
      → bs ≡ encode c ++ rest → a.goes_on s (a.class_of c) ≡ Some z → a.ends z ≡ Some k → now ≡ read + len_utf8 c
      → ReadSoFar table a text (done ++ c ∷ []) rest z now (Some (k, now))
  ends_at text done bs rest s z read now c k best r e g f n =
      let whole = one_next done bs rest (chars text) c r.utf8 e r.whole in
      let all : List ℕ = chars text in
      let m = counted done c read now r.count n in
      let p : length done < length all = rw whole (seam done (chars rest) c).0 in
      let q : c ≡ get_or all (length done) c = rw whole (seam done (chars rest) c).1 in
      let t : take (length done + 1) all ≡ done ++ c ∷ [] = rw whole (prefix done (chars rest) c) in
      let l : length done + 1 ≡ length (done ++ c ∷ []) = omega (arith, length-append done (c ∷ [])) in
      record {
        utf8 = IsUtf8-past_char bs rest c r.utf8 e;
        whole = one_read done bs rest all c r.utf8 e r.whole;
        count = m;
        longest = Some (k, 0, length done + 1);
        bytes = ap (λ (x : ℕ). Some (k, x)) (m ∙ ap (λ (x : List ℕ). length (encodes x)) (sym t));
        here = subst (λ (x : ℕ). ItemHere table a all 0 x z (Some (k, 0, length done + 1))) l (here_ends table a i all 0 (length done) c s z k r.longest p q g f r.here);
      }

  -- a character more, and the item may not end after it
  pub on_at : (text done bs rest : List ℕ) (s z : S) (read now c : ℕ) (best : Option (K × ℕ)) → ReadSoFar table a text done bs s read best
      → bs ≡ encode c ++ rest → a.goes_on s (a.class_of c) ≡ Some z → a.ends z ≡ None → now ≡ read + len_utf8 c
      → ReadSoFar table a text (done ++ c ∷ []) rest z now best
  on_at text done bs rest s z read now c best r e g f n =
      let whole = one_next done bs rest (chars text) c r.utf8 e r.whole in
      let all : List ℕ = chars text in
      let p : length done < length all = rw whole (seam done (chars rest) c).0 in
      let q : c ≡ get_or all (length done) c = rw whole (seam done (chars rest) c).1 in
      let l : length done + 1 ≡ length (done ++ c ∷ []) = omega (arith, length-append done (c ∷ [])) in
      record {
        utf8 = IsUtf8-past_char bs rest c r.utf8 e;
        whole = one_read done bs rest all c r.utf8 e r.whole;
        count = counted done c read now r.count n;
        longest = r.longest;
        bytes = r.bytes;
        here = subst (λ (x : ℕ). ItemHere table a all 0 x z r.longest) l (here_on table a i all 0 (length done) c s z r.longest p q g f r.here);
      }

  -- a character at which the item does not go on
  pub stops_at : (text done bs rest : List ℕ) (s : S) (read c : ℕ) (best : Option (K × ℕ)) → ReadSoFar table a text done bs s read best
      → bs ≡ encode c ++ rest → a.goes_on s (a.class_of c) ≡ None → BestByBytes table text best
  stops_at text done bs rest s read c best r e g =
      let whole = one_next done bs rest (chars text) c r.utf8 e r.whole in
      let all : List ℕ = chars text in
      let p : length done < length all = rw whole (seam done (chars rest) c).0 in
      let q : c ≡ get_or all (length done) c = rw whole (seam done (chars rest) c).1 in
      record { longest = r.longest; bytes = r.bytes; here = here_stops table a i all 0 (length done) c s r.longest p q g r.here }

  -- the end of the text
  pub end_at : (text done bs : List ℕ) (s : S) (read : ℕ) (best : Option (K × ℕ)) → ReadSoFar table a text done bs s read best
      → length bs ≡ 0 → BestByBytes table text best
  end_at text done bs s read best r e =
      let same = ap length (all_read done bs (chars text) e r.whole) in
      record { longest = r.longest; bytes = r.bytes; here = here_end table a (chars text) 0 (length done) s r.longest (omega (arith, same)) r.here }
