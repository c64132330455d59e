-- The bytes of canonical header lines.
use Rattle.std.proofs.Common.{◌≡◌, ℕ, List, [], ◌∷◌, ◌++◌, length, Bool, true, false, cond, codes, refl, sym, ap, append_assoc, IsUtf8, arith}
use Rattle.std.proofs.lemmas.Str.{encodes-append, encodes-chars, chars-nil}
use Rattle.std.specs.Str.{chars}
use lib.Utf8.{encode, encodes}
use Rattle.gabc_headers.specs.Lines.{lines}
use Rattle.gabc_headers.specs.Canonical.{header_line, canonical_heads, printed_value, wants_lines}
use Rattle.gabc_headers.specs.machine.HeaderText.{before_value, after_value}

pieces : (name a b w d : List ℕ) → encodes ((name ++ a) ++ ((b ++ w) ++ d)) ≡ encodes name ++ ((encodes a ++ encodes b) ++ (encodes w ++ encodes d))
pieces name a b w d = simp (encodes-append, append_assoc)

framed : (lined : Bool) (name value : List ℕ) → encodes (name ++ codes ":" ++ printed_value lined value) ≡ encodes name ++ (before_value lined value ++ (encodes value ++ after_value lined value))
unfolding encode
framed lined name [] = pieces name (codes ":") [] [] (codes ";\n")
framed true name (c ∷ v) = pieces name (codes ":") (codes "\n ") (c ∷ v) (codes ";;\n")
framed false name (c ∷ v) = pieces name (codes ":") (codes " ") (c ∷ v) (codes ";\n")

-- the bytes of a header's canonical lines: its name, its value, and what stands round that
pub header_bytes : (name value : List ℕ) → encodes (header_line (name, value)) ≡ encodes name ++ (before_value (wants_lines (lines value)) value ++ (encodes value ++ after_value (wants_lines (lines value)) value))
header_bytes name value = framed (wants_lines (lines value)) name value

-- a value is empty if its bytes are none
pub empty_before : (lined : Bool) (bytes : List ℕ) → length bytes ≡ 0 → before_value lined (chars bytes) ≡ codes ":"
empty_before lined [] e = ap (before_value lined) chars-nil
empty_before lined (b ∷ bs) e = absurd (omega arith)

pub empty_after : (lined : Bool) (bytes : List ℕ) → length bytes ≡ 0 → after_value lined (chars bytes) ≡ codes ";\n"
empty_after lined [] e = ap (after_value lined) chars-nil
empty_after lined (b ∷ bs) e = absurd (omega arith)

some_by : (bytes cs : List ℕ) → encodes cs ≡ bytes → (length bytes ≡ 0 → ⊥) → (c : ℕ) × ((v : List ℕ) × (cs ≡ c ∷ v))
some_by bytes [] e n = absurd (n (ap length (sym e)))
some_by bytes (c ∷ v) e n = (c, (v, refl))

-- a value that is not empty
pub some_before : (lined : Bool) (bytes : List ℕ) → IsUtf8 bytes → (length bytes ≡ 0 → ⊥) → before_value lined (chars bytes) ≡ cond lined (codes ":\n ") (codes ": ")
some_before lined bytes u n = let s = some_by bytes (chars bytes) (encodes-chars bytes u) n in ap (before_value lined) s.1.1

pub some_after : (lined : Bool) (bytes : List ℕ) → IsUtf8 bytes → (length bytes ≡ 0 → ⊥) → after_value lined (chars bytes) ≡ cond lined (codes ";;\n") (codes ";\n")
some_after lined bytes u n = let s = some_by bytes (chars bytes) (encodes-chars bytes u) n in ap (after_value lined) s.1.1

by_chars : (lined : Bool) (name value n v : List ℕ) → encodes n ≡ name → encodes v ≡ value → wants_lines (lines v) ≡ lined
    → name ++ (before_value lined v ++ (value ++ after_value lined v)) ≡ encodes (header_line (n, v))
by_chars lined name value n v en ev l = rw (← l, ← en, ← ev) (sym (header_bytes n v))

-- the bytes of a header's lines are those of its canonical lines
pub header_text_is : (name value : List ℕ) → IsUtf8 name → IsUtf8 value
    → name ++ (before_value (wants_lines (lines (chars value))) (chars value) ++ (value ++ after_value (wants_lines (lines (chars value))) (chars value)))
    ≡ encodes (header_line (chars name, chars value))
header_text_is name value un uv = by_chars (wants_lines (lines (chars value))) name value (chars name) (chars value) (encodes-chars name un) (encodes-chars value uv) refl

-- the bytes of headers begin with those of the lines of the first
pub heads_left : (e : List ℕ × List ℕ) (es : List (List ℕ × List ℕ)) → encodes (header_line e) ++ encodes (canonical_heads es) ≡ encodes (canonical_heads (e ∷ es))
heads_left e es = grind (arith, append_assoc, encodes-append)
