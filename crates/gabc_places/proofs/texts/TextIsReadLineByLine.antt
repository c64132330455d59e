-- The text of characters, line by line.
use Rattle.std.proofs.Common.{◌≢◌, ◌<◌, length, get_or, ◌≡◌, ℕ, Bool, true, false, cond, List, [], ◌∷◌, ◌++◌, map, filter, drop, not, slice_index, refl, ◌∙◌, arith, append-nil, ◌==◌}
use Rattle.std.specs.List.{zip, All}
use Rattle.std.proofs.lemmas.List.{length-map, get_or-map}
use Rattle.std.proofs.lemmas.List.Elements.{filter_passes}
use Rattle.std.specs.Str.{NonePass}
use Rattle.std.proofs.lemmas.Bool.Decides.{nat_tests}
use Rattle.gabc_places.specs.Text.{is_left_out, is_shown, read_as}

-- the text of the characters that follow this one
abbrev pub text_after : ℕ → List ℕ → List ℕ
text_after p cs = map (λ (p : ℕ × ℕ). read_as p.1) (filter (λ (p : ℕ × ℕ). not (is_left_out p)) (zip (p ∷ cs) cs))

first_by : (s : Bool) (p c : ℕ) (rest : List (ℕ × ℕ)) (line after : List ℕ) → (c == 13) ≡ false
    → map (λ (p : ℕ × ℕ). read_as p.1) rest ≡ line ++ after
    → map {A = ℕ × ℕ} (λ (p : ℕ × ℕ). read_as p.1) (cond (not (not s)) ((p, c) ∷ rest) rest) ≡ cond s (c ∷ line) line ++ after
first_by s p c rest line after plain e = grind arith

-- a line without CR, and what follows it, after a character that is no CR
pub line-shown : (p : ℕ) (line after : List ℕ) → (p == 13) ≡ false → NonePass (λ c. c == 13) line
    → text_after p (line ++ 13 ∷ after) ≡ filter is_shown line ++ 10 ∷ text_after 13 after
line-shown p [] after plain none = rw plain refl
line-shown p (c ∷ cs) after plain none = rw plain (first_by (is_shown c) p c _ (filter is_shown cs) (10 ∷ text_after 13 after) none.0 (line-shown c cs after none.0 none.1))

last_with : (p : ℕ) (line : List ℕ) → (p == 13) ≡ false → NonePass (λ c. c == 13) line → text_after p line ≡ filter is_shown line ++ []
last_with p [] plain none = refl
last_with p (c ∷ cs) plain none = rw plain (first_by (is_shown c) p c _ (filter is_shown cs) [] none.0 (last_with c cs none.0 none.1))

-- a last line without CR
pub line-last : (p : ℕ) (line : List ℕ) → (p == 13) ≡ false → NonePass (λ c. c == 13) line → text_after p line ≡ filter is_shown line
line-last p line plain none = last_with p line plain none ∙ append-nil (filter is_shown line)

same_by : (b : Bool) (p q c : ℕ) (rest : List (ℕ × ℕ))
    → map {A = ℕ × ℕ} (λ (p : ℕ × ℕ). read_as p.1) (cond b ((p, c) ∷ rest) rest) ≡ map {A = ℕ × ℕ} (λ (p : ℕ × ℕ). read_as p.1) (cond b ((q, c) ∷ rest) rest)
same_by b p q c rest = grind arith

-- after characters that are no CR the text is the same
pub same-after : (p q : ℕ) (cs : List ℕ) → (p == 13) ≡ false → (q == 13) ≡ false → text_after p cs ≡ text_after q cs
same-after p q cs e f = grind (arith, same_by)

no_return : (c : ℕ) → (c == 10) ≡ true → (c == 13) ≡ false
no_return c e = grind (arith, nat_tests)

return_by : (b : Bool) (c : ℕ) (cs : List ℕ) → (c == 10) ≡ b → text_after 13 (c ∷ cs) ≡ text_after 0 (cond b cs (c ∷ cs))
return_by b c cs e = grind (arith, same-after, no_return, same_by)

-- directly after a CR an LF is left out
pub after-return : (cs rest : List ℕ) → rest ≡ cond (slice_index cs 0 == 10) (drop 1 cs) cs → text_after 13 cs ≡ text_after 0 rest
after-return cs rest e = grind (arith, return_by)

plain_by : (s t : Bool) (p c : ℕ) → (c == 0xFEFF) ≡ s → (c == 13) ≡ t → not (is_left_out (p, c)) ≡ true → (cond t 10 c ≢ 13) × (cond t 10 c ≢ 0xFEFF)
plain_by s t p c e f kept = grind arith

-- what is kept is read as no CR and no U+FEFF
pub plain-kept : (ps : List (ℕ × ℕ)) → All (λ c. (c ≢ 13) × (c ≢ 0xFEFF)) (map (λ (p : ℕ × ℕ). read_as p.1) (filter (λ (p : ℕ × ℕ). not (is_left_out p)) ps))
plain-kept ps k d less =
    let keeps : ℕ × ℕ → Bool = λ p. not (is_left_out p) in
    let kept : List (ℕ × ℕ) = filter keeps ps in
    let short : k < length kept = omega (arith, length-map kept (λ (p : ℕ × ℕ). read_as p.1)) in
    let one : ℕ × ℕ = get_or kept k (0, 0) in
    rw (get_or-map (λ (p : ℕ × ℕ). read_as p.1) kept k (0, 0) d short) (plain_by _ _ one.0 one.1 refl refl (filter_passes keeps ps k (0, 0) short))
