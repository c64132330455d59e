-- What the events of a text's parts add.
use Rattle.std.proofs.Common.{◌≡◌, ℕ, ◌≤◌, ◌+◌, ◌-◌, List, [], ◌∷◌, ◌++◌, Bool, true, false, cond, refl, sym, ap, ◌∙◌, subst, arith, length, take, drop, slice_range, IsUtf8, IsCharBoundary, append_assoc, bytes_eq, length-append}
use Rattle.std.specs.Str.{chars}
use Rattle.std.proofs.lemmas.Str.{chars-encodes, encodes-append, IsCharBoundary-at_seam}
use Rattle.std.proofs.Math.Seq.{drop-append_seam, take-append_seam}
use lib.Utf8.{encodes, scalars}
use Rattle.gabc_places.specs.declared.place.Span.{Span}
use Rattle.gabc_places.proofs.texts.CharactersOfStrings.{scalars_split}
use Rattle.gabc_headers.specs.declared.events.HeaderEvent.{HeaderEvent}
use Rattle.gabc_headers.specs.declared.events.HeaderEvent.TheVariants.{LeftOut, Header}
use Rattle.gabc_headers.specs.Lines.{bytes_len}
use Rattle.gabc_headers.specs.Parts.{HeaderPart, left_out, header, unended}
use Rattle.gabc_headers.specs.EntryMap.{is_annotation, put_entry, with_value}
use Rattle.gabc_headers.specs.Entries.{text_at}
use Rattle.gabc_headers.specs.machine.Spans.{IsWithin}
use Rattle.gabc_headers.specs.machine.Collected.{AreGoodEvents, Collected, collected_with, finding_at}
use Rattle.gabc_headers.specs.Book.{is_kept}
use Rattle.gabc_places.specs.declared.code.Code.TheVariants.{E5, W2}
use Rattle.gabc_headers.specs.machine.EntryMap.{AreWithin, comes_again, spelled_named}
use Rattle.gabc_headers.specs.machine.Events.{SpanHolds, AreEventsOf}
use Rattle.gabc_headers.proofs.entries.TextsAsBytes.{length-encodes}

utf8 : (cs : List ℕ) → scalars cs ≡ true → IsUtf8 (encodes cs)
utf8 cs h = (cs, (h, refl))

-- the bytes of a text in three parts
cut : (t prefix v back : List ℕ) → t ≡ prefix ++ (v ++ back) → encodes t ≡ encodes prefix ++ (encodes v ++ encodes back)
cut t prefix v back e = ap encodes e ∙ (encodes-append prefix (v ++ back) ∙ ap (λ (x : List ℕ). encodes prefix ++ x) (encodes-append v back))

-- the bytes of a span
slice_is : (t v : List ℕ) (s : Span) → SpanHolds t s v → slice_range (encodes t) s.from s.to ≡ encodes v
slice_is t v s h =
    let f : s.from ≡ length (encodes h.prefix) = h.from ∙ sym (length-encodes h.prefix) in
    let n : s.to - s.from ≡ length (encodes v) = (let a = h.from in let b = h.to in let d = length-encodes v in omega arith) in
    ap (λ (x : List ℕ). take (s.to - s.from) (drop s.from x)) (cut t h.prefix v h.back h.text)
    ∙ (ap (λ (m : ℕ). take (s.to - s.from) (drop m (encodes h.prefix ++ (encodes v ++ encodes h.back)))) f
    ∙ (ap (λ (x : List ℕ). take (s.to - s.from) x) (drop-append_seam (encodes h.prefix) (encodes v ++ encodes h.back))
    ∙ (ap (λ (m : ℕ). take m (encodes v ++ encodes h.back)) n ∙ take-append_seam (encodes v) (encodes h.back))))

held : (t v : List ℕ) (s : Span) → scalars t ≡ true → SpanHolds t s v → scalars v ≡ true
held t v s u h = (scalars_split v h.back (scalars_split h.prefix (v ++ h.back) (subst (λ (x : List ℕ). scalars x ≡ true) h.text u)).1).0

-- the span of a part of a text shows it
pub holds_shown : (t v : List ℕ) (s : Span) → scalars t ≡ true → SpanHolds t s v → text_at (encodes t) s ≡ v
holds_shown t v s u h = ap chars (slice_is t v s h) ∙ chars-encodes v (held t v s u h)

pub holds_within : (t v : List ℕ) (s : Span) → scalars t ≡ true → SpanHolds t s v → IsWithin (encodes t) s
holds_within t v s u h =
    let w = subst (λ (x : List ℕ). scalars x ≡ true) h.text u in
    let r = (scalars_split h.prefix (v ++ h.back) w).1 in
    let f : s.from ≡ length (encodes h.prefix) = h.from ∙ sym (length-encodes h.prefix) in
    let n : s.to ≡ length (encodes h.prefix ++ encodes v) = (let a = h.to in let d = length-encodes v in let g = length-encodes h.prefix in let k = length-append (encodes h.prefix) (encodes v) in omega arith) in
    let e = cut t h.prefix v h.back h.text in
    record {
      order = (let a = h.from in let b = h.to in omega arith);
      first = subst (λ (m : ℕ). IsCharBoundary (encodes t) m) (sym f) (IsCharBoundary-at_seam (encodes t) (encodes h.prefix) (encodes v ++ encodes h.back) e
          (subst IsUtf8 (encodes-append v h.back) (utf8 (v ++ h.back) r)));
      last = subst (λ (m : ℕ). IsCharBoundary (encodes t) m) (sym n) (IsCharBoundary-at_seam (encodes t) (encodes h.prefix ++ encodes v) (encodes h.back)
          (e ∙ sym (append_assoc (encodes h.prefix) (encodes v) (encodes h.back))) (utf8 h.back (scalars_split v h.back r).1));
    }

pub holds_len : (t v : List ℕ) (s : Span) → SpanHolds t s v → length (slice_range (encodes t) s.from s.to) ≡ bytes_len v
holds_len t v s h = ap length (slice_is t v s h) ∙ length-encodes v

-- ---- events and parts

-- each header's name has at most 64 bytes
abbrev pub HaveShortNames : List HeaderPart → Type 0
HaveShortNames [] = Unit {0}
HaveShortNames (left_out k p ∷ ps) = HaveShortNames ps
HaveShortNames (unended k ∷ ps) = HaveShortNames ps
HaveShortNames (header k name v p ∷ ps) = (bytes_len name ≤ 64) × HaveShortNames ps

pub good_events : (t : List ℕ) (es : List HeaderEvent) (ps : List HeaderPart) → scalars t ≡ true → AreEventsOf t es ps → HaveShortNames ps → AreGoodEvents (encodes t) es
good_events t [] [] u h g = tt
good_events t [] (q ∷ ps) u h g = absurd h
good_events t (e ∷ es) [] u h g = absurd h
good_events t (LeftOut k p ∷ es) (left_out j q ∷ ps) u h g = (tt, good_events t es ps u h.1 g)
good_events t (Header k a b p ∷ es) (header j n v q ∷ ps) u h g =
    ((holds_within t n a u h.0.1, holds_within t v b u h.0.2, (let l = holds_len t n a h.0.1 in let m : bytes_len n ≤ 64 = g.0 in omega arith)), good_events t es ps u h.1 g.1)
good_events t (e ∷ es) (q ∷ ps) u h g = absurd h.0

-- the headers after some entries, and what is found after these names
pub spelled-put : (text : List ℕ) (es : List (List ℕ × Span)) (name : List ℕ) (s : Span) → spelled_named text (put_entry es name s) ≡ put_entry (spelled_named text es) name (text_at text s)
spelled-put text es name s = by (is_annotation name)
  where
    pushed : (es : List (List ℕ × Span)) → spelled_named text (es ++ (name, s) ∷ []) ≡ spelled_named text es ++ (name, text_at text s) ∷ []
    pushed [] = refl
    pushed (e ∷ es) = ap (λ (x : List (List ℕ × List ℕ)). (e.0, text_at text e.1) ∷ x) (pushed es)

    branch : (b : Bool) (e : List ℕ × Span) (es r : List (List ℕ × Span)) (q : List (List ℕ × List ℕ)) → spelled_named text r ≡ q
        → spelled_named text (cond b ((e.0, s) ∷ es) (e ∷ r)) ≡ cond b ((e.0, text_at text s) ∷ spelled_named text es) ((e.0, text_at text e.1) ∷ q)
    branch true e es r q h = refl
    branch false e es r q h = ap (λ (x : List (List ℕ × List ℕ)). (e.0, text_at text e.1) ∷ x) h

    replaced : (es : List (List ℕ × Span)) → spelled_named text (with_value es name s) ≡ with_value (spelled_named text es) name (text_at text s)
    replaced [] = refl
    replaced (e ∷ es) = branch (bytes_eq name e.0) e es (with_value es name s) (with_value (spelled_named text es) name (text_at text s)) (replaced es)

    by : (b : Bool) → spelled_named text (cond b (es ++ (name, s) ∷ []) (with_value es name s)) ≡ cond b (spelled_named text es ++ (name, text_at text s) ∷ []) (with_value (spelled_named text es) name (text_at text s))
    by true = pushed es
    by false = replaced es

pub within-put : (text : List ℕ) (es : List (List ℕ × Span)) (name : List ℕ) (s : Span) → AreWithin text es → IsWithin text s → AreWithin text (put_entry es name s)
within-put text es name s h w = by (is_annotation name)
  where
    pushed : (es : List (List ℕ × Span)) → AreWithin text es → AreWithin text (es ++ (name, s) ∷ [])
    pushed [] h = (w, tt)
    pushed (e ∷ es) h = (h.0, pushed es h.1)

    branch : (b : Bool) (e : List ℕ × Span) (es r : List (List ℕ × Span)) → IsWithin text e.1 → AreWithin text es → AreWithin text r → AreWithin text (cond b ((e.0, s) ∷ es) (e ∷ r))
    branch true e es r a h k = (w, h)
    branch false e es r a h k = (a, k)

    replaced : (es : List (List ℕ × Span)) → AreWithin text es → AreWithin text (with_value es name s)
    replaced [] h = (w, tt)
    replaced (e ∷ es) h = branch (bytes_eq name e.0) e es (with_value es name s) h.0 h.1 (replaced es h.1)

    by : (b : Bool) → AreWithin text (cond b (es ++ (name, s) ∷ []) (with_value es name s))
    by true = pushed es h
    by false = replaced es h

-- an event adds a header at most
pub length-put : (es : List (List ℕ × Span)) (name : List ℕ) (s : Span) → length (put_entry es name s) ≤ length es + 1
length-put es name s = by (is_annotation name)
  where
    branch : (b : Bool) (e : List ℕ × Span) (es r : List (List ℕ × Span)) → length r ≤ length es + 1 → length (cond b ((e.0, s) ∷ es) (e ∷ r)) ≤ length (e ∷ es) + 1
    branch true e es r h = omega arith
    branch false e es r h = omega arith

    replaced : (es : List (List ℕ × Span)) → length (with_value es name s) ≤ length es + 1
    replaced [] = omega arith
    replaced (e ∷ es) = branch (bytes_eq name e.0) e es (with_value es name s) (replaced es)

    by : (b : Bool) → length (cond b (es ++ (name, s) ∷ []) (with_value es name s)) ≤ length es + 1
    by true = let l = length-append es ((name, s) ∷ []) in omega arith
    by false = replaced es

pub length-collected : (text : List ℕ) (e : HeaderEvent) (c : Collected) → length (collected_with text e c).headers ≤ length c.headers + 1
length-collected text (LeftOut k p) c = omega arith
length-collected text (Header k n v p) c = by (is_kept (text_at text n) (text_at text v)) (length-put c.headers (text_at text n) v)
  where
    by : (b : Bool) → length (put_entry c.headers (text_at text n) v) ≤ length c.headers + 1
        → length (cond {A = Collected} b (record { headers = put_entry c.headers (text_at text n) v; findings = cond (comes_again c.headers (text_at text n)) (c.findings ++ finding_at k W2 ∷ []) c.findings }) (record { headers = c.headers; findings = c.findings ++ finding_at k E5 ∷ [] })).headers ≤ length c.headers + 1
    by true l = l
    by false l = omega arith
