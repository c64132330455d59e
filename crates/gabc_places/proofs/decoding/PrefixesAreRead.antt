-- A prefix of the text of some bytes is the text of a prefix of these bytes.
use Rattle.std.proofs.Common.{◌≡◌, ℕ, zero, suc, ◌&&◌, Bool, true, false, cond, List, [], ◌∷◌, ◌++◌, length, take, drop, map, filter, None, refl, ap, sym, ◌∙◌, arith, append_assoc, length-append, length-take}
use Rattle.std.proofs.lemmas.Bool.{and_parts}
use Rattle.std.proofs.lemmas.List.{take-append-drop}
use Rattle.std.proofs.lemmas.Str.{encodes-append, encodes-chars}
use Rattle.std.proofs.Math.Seq.{take-append_seam}
use Rattle.std.specs.List.{zip}
use Rattle.std.specs.Str.Lossy.{utf8_valid_len}
use lib.Utf8.{encodes, scalars}
use Rattle.gabc_places.specs.declared.limits.Limits.{Limits}
use Rattle.gabc_places.specs.Text.{decoded_of, utf8_prefix_of}
use Rattle.gabc_places.proofs.decoding.PlainTextsAreReadAgain.{characters_are_read, is_read, read_one}
use Rattle.gabc_places.proofs.texts.TextIsReadLineByLine.{text_after}
use Rattle.gabc_places.proofs.texts.TextsAreScalars.{prefix_scalars, prefix_short}
use Rattle.gabc_places.proofs.utf8.CharacterByCharacter.{valid_len-front}

-- ---- characters

-- n characters have so much of the text that follows this one
abbrev IsReadOf : ℕ → List ℕ → ℕ → ℕ → Type 0
IsReadOf p cs n k = text_after p (take k cs) ≡ take n (text_after p cs)

prefix_of_text : (p : ℕ) (cs : List ℕ) (n : ℕ) → (k : ℕ) × IsReadOf p cs n k
prefix_of_text p cs zero = (0, refl)
prefix_of_text p [] (suc n) = (0, refl)
prefix_of_text p (c ∷ cs) (suc n) = let shorter = by (is_read (p, c)) (prefix_of_text c cs n) (prefix_of_text c cs (suc n)) in (suc shorter.0, shorter.1)
  where
    by : (b : Bool) → (k : ℕ) × IsReadOf c cs n k → (k : ℕ) × IsReadOf c cs (suc n) k
        → (k : ℕ) × (map read_one (cond b ((p, c) ∷ filter is_read (zip (c ∷ take k cs) (take k cs))) (filter is_read (zip (c ∷ take k cs) (take k cs))))
        ≡ take (suc n) (map read_one (cond b ((p, c) ∷ filter is_read (zip (c ∷ cs) cs)) (filter is_read (zip (c ∷ cs) cs)))))
    by true here further = (here.0, ap (λ (l : List ℕ). read_one (p, c) ∷ l) here.1)
    by false here further = (further.0, further.1)

scalars_prefix : (k : ℕ) (cs : List ℕ) → scalars cs ≡ true → scalars (take k cs) ≡ true
scalars_prefix zero cs h = refl
scalars_prefix (suc k) [] h = refl
scalars_prefix (suc k) (c ∷ cs) h = let parts = and_parts _ _ h in both parts.0 (scalars_prefix k cs parts.1)
  where
    both : {a b : Bool} → a ≡ true → b ≡ true → (a && b) ≡ true
    both e f = rw (e, f) refl

-- ---- bytes

-- the bytes of the characters that are read come first
prefix_bytes : (bytes : List ℕ) → (rest : List ℕ) × (bytes ≡ encodes (utf8_prefix_of bytes) ++ rest)
unfolding utf8_prefix_of
prefix_bytes bytes =
    let n = utf8_valid_len bytes in
    (drop n bytes, sym (take-append-drop n bytes) ∙ ap (λ (l : List ℕ). l ++ drop n bytes) (sym (encodes-chars (take n bytes) (valid_len-front bytes))))

pub prefix_of_bytes : (limits : Limits) (ended whole : Bool) (bytes : List ℕ) (n : ℕ)
    → (count : ℕ) × (decoded_of limits whole (take count bytes) ≡ record { text = take n (decoded_of limits ended bytes).text; fault = None })
prefix_of_bytes limits ended whole bytes n =
    let within = take limits.input bytes in
    let cs = utf8_prefix_of within in
    let shorter = prefix_of_text 0 cs n in
    let k = shorter.0 in
    let first = encodes (take k cs) in
    let later = encodes (drop k cs) in
    let prefix = prefix_bytes within in
    let split : encodes cs ≡ first ++ later = ap encodes (sym (take-append-drop k cs)) ∙ encodes-append (take k cs) (drop k cs) in
    let rest = later ++ (prefix.0 ++ drop limits.input bytes) in
    let all : bytes ≡ first ++ rest =
    sym (take-append-drop limits.input bytes)
    ∙ (ap (λ (l : List ℕ). l ++ drop limits.input bytes) (prefix.1 ∙ ap (λ (l : List ℕ). l ++ prefix.0) split)
    ∙ (append_assoc (first ++ later) prefix.0 (drop limits.input bytes) ∙ append_assoc first later (prefix.0 ++ drop limits.input bytes))) in
    let same : take (length first) bytes ≡ first = ap (λ (l : List ℕ). take (length first) l) all ∙ take-append_seam first rest in
    let size = ap length split in
    let sum = length-append first later in
    let short = prefix_short within in
    let most = length-take limits.input bytes in (
      length first,
      ap (λ (bs : List ℕ). decoded_of limits whole bs) same
          ∙ (characters_are_read limits whole (take k cs) (scalars_prefix k cs (prefix_scalars within)) (omega (arith, size, sum, short, most))
          ∙ ap (λ (t : List ℕ). record { text = t; fault = None }) shorter.1),
    )
