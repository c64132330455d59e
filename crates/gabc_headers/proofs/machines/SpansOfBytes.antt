-- Spans in bytes, over spans in characters of a prefix of the text.
use Rattle.std.proofs.Common.{◌≡◌, ℕ, ◌+◌, ◌-◌, ◌<◌, ◌≤◌, suc, zero, zero-le, take_all, List, [], ◌∷◌, ◌++◌, take, drop, Bool, true, false, ◌&&◌, nat_lt, nat_le, refl, sym, ap, ◌∙◌, arith, append_assoc, slice_range}
use Rattle.std.proofs.lemmas.Bool.Decides.{nat_tests}
use Rattle.std.proofs.lemmas.List.{take-append-drop}
use Rattle.std.proofs.lemmas.List.Sums.{sum_by-cons}
use Rattle.std.proofs.lemmas.Str.{len_utf8_bounds}
use Rattle.std.specs.Char.{len_utf8}
use Rattle.gabc_places.specs.declared.place.Span.{Span}
use Rattle.gabc_headers.specs.declared.part_machine.Trim.{Trim}
use Rattle.gabc_headers.specs.Lines.{bytes_len}
use Rattle.gabc_headers.specs.Parts.{is_good_name}
use Rattle.gabc_headers.specs.machine.PartMachine.{span_of, is_good_span}
use Rattle.gabc_headers.specs.machine.Events.{SpanHolds}
use Rattle.gabc_headers.proofs.machines.PartMachineOfBytes.{moved_span}
use Rattle.gabc_headers.proofs.machines.EventsAreParts.{text_at}
use Rattle.gabc_headers.proofs.entries.TextsAsBytes.{bytes_len-append}

-- the bytes before the character n
abbrev pub bytes_at : List ℕ → ℕ → ℕ
bytes_at text n = bytes_len (take n text)

-- the text up to b is the text up to a, and the part between
pub take_split : (text : List ℕ) (a b : ℕ) → a ≤ b → take b text ≡ take a text ++ slice_range text a b
take_split text zero b l = let e : b ≡ b - 0 = omega arith in ap (λ (x : ℕ). take x text) e
take_split text (suc a) zero l = absurd (omega arith)
take_split [] (suc a) (suc b) l = sym (take_all (suc b - suc a) [] zero-le)
take_split (c ∷ text) (suc a) (suc b) l = grind (arith, take_split text a b (omega arith))

-- the bytes up to b are those up to a and those between
pub bytes_between : (text : List ℕ) (a b : ℕ) → a ≤ b → bytes_at text b ≡ bytes_at text a + bytes_len (slice_range text a b)
bytes_between text a b l = ap bytes_len (take_split text a b l) ∙ bytes_len-append (take a text) (slice_range text a b)

-- a later character stands at no earlier byte
pub bytes_mono : (text : List ℕ) (a b : ℕ) → a ≤ b → bytes_at text a ≤ bytes_at text b
bytes_mono text a b l = let e = bytes_between text a b l in omega arith

-- a span that is not the wrong way round, and lies in a prefix of the text
pub holds_at : (t head back : List ℕ) (s : Span) → t ≡ head ++ back → s.from ≤ s.to → SpanHolds t (moved_span (bytes_at head) s) (text_at head s)
holds_at t head back s e l = record {
  prefix = take s.from head;
  back = drop s.to head ++ back;
  text = e ∙ (ap (λ (x : List ℕ). x ++ back) (sym (take-append-drop s.to head) ∙ ap (λ (x : List ℕ). x ++ drop s.to head) (take_split head s.from s.to l))
      ∙ (append_assoc (take s.from head ++ text_at head s) (drop s.to head) back ∙ append_assoc (take s.from head) (text_at head s) (drop s.to head ++ back)));
  from = refl;
  to = bytes_between head s.from s.to l;
}

-- the span of a trim is in order
pub span_order : (t : Trim) → (span_of t).from ≤ (span_of t).to
span_order t = grind arith

-- whether a name is good, by the bytes of its span
pub good_span : (head : List ℕ) (s : Span) → s.from ≤ s.to → is_good_span (moved_span (bytes_at head) s) ≡ is_good_name (text_at head s)
good_span head s l = by (bytes_at head s.from) (bytes_at head s.to) (text_at head s) (bytes_between head s.from s.to l)
  where
    by : (a b : ℕ) (v : List ℕ) → b ≡ a + bytes_len v → (nat_lt a b && nat_le (b - a) 64) ≡ is_good_name v
    by a b [] e = let f : nat_lt a b ≡ false = grind (arith, nat_tests) in ap (λ (x : Bool). x && nat_le (b - a) 64) f
    by a b (c ∷ v) e =
        let z = len_utf8_bounds c in
        let q : bytes_len (c ∷ v) ≡ len_utf8 c + bytes_len v = sum_by-cons len_utf8 c v in
        let p : a < b = omega (arith, z.0) in
        let f : nat_lt a b ≡ true = grind (arith, nat_tests) in
        let n : b - a ≡ bytes_len (c ∷ v) = omega arith in
        ap (λ (x : Bool). x && nat_le (b - a) 64) f ∙ ap (λ (x : ℕ). nat_le x 64) n
