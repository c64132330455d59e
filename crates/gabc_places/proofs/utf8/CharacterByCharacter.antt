-- The longest prefix that is UTF-8, a character at a time: a whole character in front is its first; bytes that begin none stay wrong.
use Rattle.std.proofs.Common.{◌≡◌, ℕ, zero, suc, ◌+◌, ◌-◌, ◌≤◌, ◌<◌, Bool, true, false, cond, ◌/◌, ◌%◌, List, [], ◌∷◌, ◌++◌, length, take, drop, Option, Some, None, refl, ap, sym, ◌∙◌, subst, arith, append_assoc, length-append, IsUtf8, inl, inr}
use Rattle.std.proofs.lemmas.Str.{IsUtf8-append, IsUtf8-nil, IsUtf8-encode, IsUtf8-from_is_utf8, is_utf8-from_IsUtf8, IsUtf8-past_char, utf8_valid_len_le, chars_past_char, length-encode, len_utf8_bounds, chars-nil}
use Rattle.std.specs.Str.{is_utf8}
use Rattle.std.specs.Char.{IsScalar}
use Rattle.std.specs.Str.Lossy.{utf8_valid_len, valid_len_up_to, utf8_error_len}
use Rattle.std.specs.Int.{is_in_range}
use Rattle.std.specs.Str.Lossy.{second_byte_min, second_byte_max, error_len_after_one, error_len_after_two}
use Rattle.std.proofs.lemmas.Bool.{le-ltb, lt-ltb, cond-true, cond-false}
use Rattle.std.specs.Bool.{nat_lt, ◌==◌}
use lib.Utf8.{encode, encodes, scalars}
use Rattle.std.proofs.lemmas.Bool.{cases_lt, and_parts}
use Rattle.std.proofs.lemmas.Bool.Decides.{nat_tests}
use Rattle.std.proofs.lemmas.List.{take-append-le, take-append-drop, length-take-le}
use Rattle.std.proofs.Math.Seq.{take-append-add, drop-append-add, take-append_seam}
use Rattle.gabc_places.specs.Text.{tail_by, tail_at, utf8_prefix_of, tail_of}
use Rattle.gabc_places.specs.DecoderMachine.{IsPartial, IsWrong}
use Rattle.gabc_places.specs.declared.decoded.Tail.TheVariants.{Part, Wrong}

front_by : (bs : List ℕ) (n : ℕ) (b : Bool) → is_utf8 (take (suc n) bs) ≡ b → IsUtf8 (take (valid_len_up_to bs n) bs) → IsUtf8 (take (cond b (suc n) (valid_len_up_to bs n)) bs)
front_by bs n b e h = grind (arith, IsUtf8-from_is_utf8)

valid_len_up_to-front : (bs : List ℕ) (n : ℕ) → IsUtf8 (take (valid_len_up_to bs n) bs)
valid_len_up_to-front bs zero = IsUtf8-nil
valid_len_up_to-front bs (suc n) = front_by bs n (is_utf8 (take (suc n) bs)) refl (valid_len_up_to-front bs n)

max_by : (n m v : ℕ) (b : Bool) → m ≤ suc n → (m ≡ suc n → b ≡ true) → (m ≤ n → m ≤ v) → m ≤ cond b (suc n) v
max_by n m v b le e h = grind arith

valid_len_up_to-max : (bs : List ℕ) (n m : ℕ) → m ≤ n → IsUtf8 (take m bs) → m ≤ valid_len_up_to bs n
valid_len_up_to-max bs zero m le u = le
valid_len_up_to-max bs (suc n) m le u =
    max_by n m (valid_len_up_to bs n) (is_utf8 (take (suc n) bs)) le (λ e. is_utf8-from_IsUtf8 _ (subst (λ k. IsUtf8 (take k bs)) e u)) (λ h. valid_len_up_to-max bs n m h u)

pub valid_len-front : (bs : List ℕ) → IsUtf8 (take (utf8_valid_len bs) bs)
unfolding utf8_valid_len
valid_len-front bs = valid_len_up_to-front bs (length bs)

pub valid_len-max : (bs : List ℕ) (m : ℕ) → m ≤ length bs → IsUtf8 (take m bs) → m ≤ utf8_valid_len bs
unfolding utf8_valid_len
valid_len-max bs m le u = valid_len_up_to-max bs (length bs) m le u

pub valid_len-is : (bs : List ℕ) (n : ℕ) → n ≤ length bs → IsUtf8 (take n bs) → ((m : ℕ) → n < m → m ≤ length bs → IsUtf8 (take m bs) → ⊥) → utf8_valid_len bs ≡ n
valid_len-is bs n le u longest =
    let low : n ≤ utf8_valid_len bs = valid_len-max bs n le u in
    elim (cases_lt n (utf8_valid_len bs)) [
      | inl more ↦ absurd (longest (utf8_valid_len bs) more (utf8_valid_len_le bs) (valid_len-front bs))
      | inr least ↦ omega arith
    ]

pub valid_len-past : (c : ℕ) (r : List ℕ) → IsScalar c → utf8_valid_len (encode c ++ r) ≡ length (encode c) + utf8_valid_len r
valid_len-past c r s =
    valid_len-is (encode c ++ r) (length (encode c) + utf8_valid_len r)
    (omega (arith, length-append (encode c) r, utf8_valid_len_le r))
    (rw take-append-add (IsUtf8-append (encode c) (take (utf8_valid_len r) r) (IsUtf8-encode c s) (valid_len-front r)))
    (λ m more le u.
    let k : ℕ = m - length (encode c) in
    let at : m ≡ length (encode c) + k = omega arith in
    let v : IsUtf8 (encode c ++ take k r) = subst IsUtf8 (ap (λ n. take n (encode c ++ r)) at ∙ take-append-add (encode c) r k) u in
    let w : IsUtf8 (take k r) = IsUtf8-past_char (encode c ++ take k r) (take k r) c v refl in
    omega (arith, valid_len-max r k (omega (arith, length-append (encode c) r)) w))

pub utf8_prefix_of-past : (c : ℕ) (r : List ℕ) → IsScalar c → utf8_prefix_of (encode c ++ r) ≡ c ∷ utf8_prefix_of r
unfolding utf8_prefix_of
utf8_prefix_of-past c r s =
    rw (valid_len-past c r s, take-append-add)
    (chars_past_char (encode c ++ take (utf8_valid_len r) r) (take (utf8_valid_len r) r) c (IsUtf8-append (encode c) (take (utf8_valid_len r) r) (IsUtf8-encode c s) (valid_len-front r)) refl)

pub tail_of-past : (c : ℕ) (r : List ℕ) → IsScalar c → tail_of (encode c ++ r) ≡ tail_of r
unfolding tail_of
tail_of-past c r s = rw (valid_len-past c r s, drop-append-add) refl

pub utf8_prefix_of-none : (bs : List ℕ) → utf8_valid_len bs ≡ 0 → utf8_prefix_of bs ≡ []
unfolding utf8_prefix_of
utf8_prefix_of-none bs e = rw e chars-nil

pub tail_of-none : (bs : List ℕ) → utf8_valid_len bs ≡ 0 → tail_of bs ≡ tail_at bs
unfolding tail_of
tail_of-none bs e = rw e refl

error_len-nil : (n : ℕ) → utf8_error_len [] ≡ Some n → ⊥
unfolding utf8_error_len
error_len-nil n e = let f : None ≡ Some n = e in cc

pub tail_of-wrong : (bs : List ℕ) → IsWrong bs → tail_of bs ≡ Wrong
tail_of-wrong bs b = grind (arith, error_len-nil, tail_of-none)

pub tail_of-partial : (x : ℕ) (xs : List ℕ) → IsPartial (x ∷ xs) → tail_of (x ∷ xs) ≡ Part
tail_of-partial x xs p = tail_of-none (x ∷ xs) p.none ∙ ap tail_by p.more

stays_1 : (t : Bool) (x : Option ℕ) (n : ℕ) → cond t None (Some 1) ≡ Some n → cond t x (Some 1) ≡ Some n
stays_1 t x n e = grind arith

stays_2 : (t u : Bool) (x : Option ℕ) (n : ℕ) → cond t (cond u None (Some 1)) (Some 1) ≡ Some n → cond t (cond u x (Some 1)) (Some 1) ≡ Some n
stays_2 t u x n e = grind arith

stays_3 : (t u v : Bool) (x : Option ℕ) (n : ℕ) → cond t (cond u (cond v None (Some 2)) (Some 1)) (Some 1) ≡ Some n → cond t (cond u (cond v x (Some 2)) (Some 1)) (Some 1) ≡ Some n
stays_3 t u v x n e = grind arith

after_1 : (a : ℕ) (xs : List ℕ) → utf8_error_len (a ∷ xs) ≡ cond (is_in_range 0xC2 0xF4 a) (error_len_after_one (a ∷ xs)) (Some 1)
unfolding utf8_error_len
after_1 a xs = cond-false _ _ _ (let e : (length (a ∷ xs) == 0) ≡ false = grind (arith, nat_tests) in e)

after_2 : (a b : ℕ) (xs : List ℕ) → error_len_after_one (a ∷ b ∷ xs) ≡ cond (is_in_range (second_byte_min a) (second_byte_max a) b) (error_len_after_two (a ∷ b ∷ xs)) (Some 1)
after_2 a b xs = cond-false _ _ _ (le-ltb (length (a ∷ b ∷ xs)) 2 (omega arith))

after_3 : (a b c : ℕ) (xs : List ℕ) → error_len_after_two (a ∷ b ∷ c ∷ xs) ≡ cond (is_in_range 0x80 0xBF c) (cond (nat_lt (length (a ∷ b ∷ c ∷ xs)) 4) None (Some 3)) (Some 2)
after_3 a b c xs = cond-false _ _ _ (le-ltb (length (a ∷ b ∷ c ∷ xs)) 3 (omega arith))

after_4 : (a b c d : ℕ) (xs : List ℕ) → cond {A = Option ℕ} (nat_lt (length (a ∷ b ∷ c ∷ d ∷ xs)) 4) None (Some 3) ≡ Some 3
after_4 a b c d xs = cond-false _ _ _ (le-ltb (length (a ∷ b ∷ c ∷ d ∷ xs)) 4 (omega arith))

-- a fault stays, whatever comes
fault_stays : (bs xs : List ℕ) (n : ℕ) → utf8_error_len bs ≡ Some n → utf8_error_len (bs ++ xs) ≡ Some n
fault_stays [] xs n e = absurd (error_len-nil n e)
fault_stays (a ∷ []) xs n e = rw (after_1 a xs) (stays_1 (is_in_range 0xC2 0xF4 a) (error_len_after_one (a ∷ xs)) n (rw (after_1 a []) at e))
fault_stays (a ∷ b ∷ []) xs n e = grind (arith, after_1, after_2, stays_2)
fault_stays (a ∷ b ∷ c ∷ []) xs n e = grind (arith, after_1, after_2, after_3, stays_3)
fault_stays (a ∷ b ∷ c ∷ d ∷ bs) xs n e = rw (after_1 a (b ∷ c ∷ d ∷ (bs ++ xs)), after_2 a b (c ∷ d ∷ (bs ++ xs)), after_3 a b c (d ∷ (bs ++ xs)), after_4 a b c d (bs ++ xs))
    (rw (after_1 a (b ∷ c ∷ d ∷ bs), after_2 a b (c ∷ d ∷ bs), after_3 a b c (d ∷ bs), after_4 a b c d bs) at e)

not_none : (t u v : Bool) → cond {A = Option ℕ} t (cond u (cond v (Some 3) (Some 2)) (Some 1)) (Some 1) ≡ None → ⊥
not_none t u v e = grind arith

-- the beginning of a character has at most three bytes
pub partial_short : (bs : List ℕ) → IsPartial bs → length bs < 4
partial_short [] p = omega arith
partial_short (a ∷ []) p = omega arith
partial_short (a ∷ b ∷ []) p = omega arith
partial_short (a ∷ b ∷ c ∷ []) p = omega arith
partial_short (a ∷ b ∷ c ∷ d ∷ bs) p = grind (arith, not_none, after_1, after_2, after_3, after_4)

wrong_some : (bs : List ℕ) → IsWrong bs → 0 < length bs
wrong_some [] b = absurd (error_len-nil b.size b.fault)
wrong_some (x ∷ xs) b = omega arith

one : (c : ℕ) → c < 128 → encode c ≡ c ∷ []
unfolding encode
one c h = cond-true _ _ _ (lt-ltb c 128 h)

two : (c : ℕ) → 128 ≤ c → c < 2048 → encode c ≡ (192 + c / 64) ∷ (128 + c % 64) ∷ []
unfolding encode
two c l h = cond-false _ _ _ (le-ltb c 128 l) ∙ cond-true _ _ _ (lt-ltb c 2048 h)

three : (c : ℕ) → 2048 ≤ c → c < 65536 → encode c ≡ (224 + c / 4096) ∷ (128 + c / 64 % 64) ∷ (128 + c % 64) ∷ []
unfolding encode
three c l h = cond-false _ _ _ (le-ltb c 128 (omega arith)) ∙ cond-false _ _ _ (le-ltb c 2048 l) ∙ cond-true _ _ _ (lt-ltb c 65536 h)

four : (c : ℕ) → 65536 ≤ c → encode c ≡ (240 + c / 262144) ∷ (128 + c / 4096 % 64) ∷ (128 + c / 64 % 64) ∷ (128 + c % 64) ∷ []
unfolding encode
four c l = cond-false _ _ _ (le-ltb c 128 (omega arith)) ∙ cond-false _ _ _ (le-ltb c 2048 (omega arith)) ∙ cond-false _ _ _ (le-ltb c 65536 l)

-- a first byte, a second that may follow it, and a third
lead_fits : (a : ℕ) → 194 ≤ a → a ≤ 244 → is_in_range 0xC2 0xF4 a ≡ true
lead_fits a l h = grind (arith, nat_tests)

second_fits : (a b : ℕ) → 128 ≤ b → b ≤ 191 → (a ≡ 224 → 160 ≤ b) → (a ≡ 237 → b ≤ 159) → (a ≡ 240 → 144 ≤ b) → (a ≡ 244 → b ≤ 143) → is_in_range (second_byte_min a) (second_byte_max a) b ≡ true
second_fits a b l h p q r s = grind (arith, nat_tests)

third_fits : (b : ℕ) → 128 ≤ b → b ≤ 191 → is_in_range 0x80 0xBF b ≡ true
third_fits b l h = grind (arith, nat_tests)

part_1 : (a : ℕ) → is_in_range 0xC2 0xF4 a ≡ true → utf8_error_len (a ∷ []) ≡ None
unfolding utf8_error_len
part_1 a t = cond-true _ _ _ t

part_2 : (a b : ℕ) → is_in_range 0xC2 0xF4 a ≡ true → is_in_range (second_byte_min a) (second_byte_max a) b ≡ true → utf8_error_len (a ∷ b ∷ []) ≡ None
unfolding utf8_error_len
part_2 a b t u = cond-true _ _ _ t ∙ cond-true _ _ _ u

part_3 : (a b d : ℕ) → is_in_range 0xC2 0xF4 a ≡ true → is_in_range (second_byte_min a) (second_byte_max a) b ≡ true → is_in_range 0x80 0xBF d ≡ true → utf8_error_len (a ∷ b ∷ d ∷ []) ≡ None
unfolding utf8_error_len
part_3 a b d t u v = cond-true _ _ _ t ∙ cond-true _ _ _ u ∙ cond-true _ _ _ v

part_of_2 : (a b k : ℕ) → is_in_range 0xC2 0xF4 a ≡ true → 0 < k → k < 2 → utf8_error_len (take k (a ∷ b ∷ [])) ≡ None
part_of_2 a b k t more less = grind (arith, part_1)

part_of_3 : (a b d k : ℕ) → is_in_range 0xC2 0xF4 a ≡ true → is_in_range (second_byte_min a) (second_byte_max a) b ≡ true → 0 < k → k < 3 → utf8_error_len (take k (a ∷ b ∷ d ∷ [])) ≡ None
part_of_3 a b d zero t u more less = absurd (omega arith)
part_of_3 a b d (suc zero) t u more less = part_1 a t
part_of_3 a b d (suc (suc zero)) t u more less = part_2 a b t u
part_of_3 a b d (suc (suc (suc k))) t u more less = absurd (omega arith)

part_of_4 : (a b d e k : ℕ) → is_in_range 0xC2 0xF4 a ≡ true → is_in_range (second_byte_min a) (second_byte_max a) b ≡ true → is_in_range 0x80 0xBF d ≡ true → 0 < k → k < 4 → utf8_error_len (take k (a ∷ b ∷ d ∷ e ∷ [])) ≡ None
part_of_4 a b d e zero t u v more less = absurd (omega arith)
part_of_4 a b d e (suc zero) t u v more less = part_1 a t
part_of_4 a b d e (suc (suc zero)) t u v more less = part_2 a b t u
part_of_4 a b d e (suc (suc (suc zero))) t u v more less = part_3 a b d t u v
part_of_4 a b d e (suc (suc (suc (suc k)))) t u v more less = absurd (omega arith)

part_three : (c k : ℕ) → IsScalar c → 2048 ≤ c → c < 65536 → 0 < k → k < length (encode c) → utf8_error_len (take k (encode c)) ≡ None
part_three c k s b d more less = grind (arith, lead_fits, second_fits, three, part_of_3)

part_four : (c k : ℕ) → IsScalar c → 65536 ≤ c → 0 < k → k < length (encode c) → utf8_error_len (take k (encode c)) ≡ None
part_four c k s d more less = grind (arith, lead_fits, second_fits, third_fits, four, part_of_4)

-- the beginning of a character is no fault
pub part_of_char : (c k : ℕ) → IsScalar c → 0 < k → k < length (encode c) → utf8_error_len (take k (encode c)) ≡ None
part_of_char c k s more less =
    elim (cases_lt c 128) [
      | inl a ↦ absurd (omega (arith, ap length (one c a)))
      | inr a ↦ elim (cases_lt c 2048) [
        | inl b ↦
            let t : is_in_range 0xC2 0xF4 (192 + c / 64) ≡ true = lead_fits (192 + c / 64) (omega arith) (omega arith) in
            let k2 : k < 2 = omega (arith, ap length (two c a b)) in
            rw (two c a b) (part_of_2 _ _ k t more k2)
        | inr b ↦ elim (cases_lt c 65536) [
          | inl d ↦ part_three c k s b d more less
          | inr d ↦ part_four c k s d more less
        ]
      ]
    ]

wrong_valid : (bs xs : List ℕ) → IsWrong bs → (m : ℕ) → 0 < m → m ≤ length (bs ++ xs) → (cs : List ℕ) → scalars cs ≡ true → encodes cs ≡ take m (bs ++ xs) → ⊥
wrong_valid bs xs b m more le [] ok e = omega (arith, ap length e, length-take-le m (bs ++ xs) le)
wrong_valid bs xs b m more le (c ∷ cs) ok e =
    let s : IsScalar c = (and_parts _ _ ok).0 in
    let whole : bs ++ xs ≡ encode c ++ (encodes cs ++ drop m (bs ++ xs)) = sym (take-append-drop m (bs ++ xs)) ∙ ap (λ l. l ++ drop m (bs ++ xs)) (sym e) ∙ append_assoc (encode c) (encodes cs) (drop m (bs ++ xs)) in
    let len : 0 < length (encode c) = omega (arith, length-encode c, (len_utf8_bounds c).0) in
    elim (cases_lt (length bs) (length (encode c))) [
      | inl short ↦
          let same : bs ≡ take (length bs) (encode c) = sym (take-append_seam bs xs) ∙ ap (take (length bs)) whole ∙ take-append-le (length bs) (encode c) (encodes cs ++ drop m (bs ++ xs)) (omega arith) in
          elim (cases_lt 0 (length bs)) [
            | inl some ↦
                let none : utf8_error_len bs ≡ None = ap utf8_error_len same ∙ part_of_char c (length bs) s some short in
                let fault : utf8_error_len bs ≡ Some b.size = b.fault in
                cc
            | inr none ↦ omega (arith, wrong_some bs b)
          ]
      | inr long ↦
          let same : take (length (encode c)) bs ≡ encode c = sym (take-append-le (length (encode c)) bs xs long) ∙ ap (take (length (encode c))) whole ∙ take-append_seam (encode c) (encodes cs ++ drop m (bs ++ xs)) in
          omega (arith, b.none, valid_len-max bs (length (encode c)) long (subst IsUtf8 (sym same) (IsUtf8-encode c s)))
    ]

pub wrong-more : (bs xs : List ℕ) → IsWrong bs → IsWrong (bs ++ xs)
wrong-more bs xs b = record {
  none = valid_len-is (bs ++ xs) 0 (omega arith) IsUtf8-nil (λ m more le u. wrong_valid bs xs b m more le u.0 u.1.0 u.1.1);
  size = b.size;
  fault = fault_stays bs xs b.size b.fault;
}
