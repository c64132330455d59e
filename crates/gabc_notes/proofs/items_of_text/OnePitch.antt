-- A pitch that is an item by itself, or with a sign.
use Rattle.std.proofs.Common.{◌≡◌, ℕ, ◌≤◌, ◌<◌, List, [], ◌∷◌, ◌++◌, Some, ap, None, true, refl, sym, arith, IsUtf8, ne_eqb, length, slice_index, codes}
use Rattle.std.proofs.lemmas.Str.{encode_ascii, len_utf8_ascii}
use lib.Utf8.{encode}
use Rattle.gabc_patterns.specs.Pattern.{is_in}
use Rattle.gabc_notes.specs.machine.CharClass.{class_of_character}
use Rattle.gabc_notes.specs.machine.ItemMachine.{begun_item, going_on, kind_at_end}
use Rattle.gabc_notes.specs.machine.Items.{IsFirstItem}
use Rattle.gabc_notes.specs.declared.class.CharClass.{CharClass}
use Rattle.gabc_notes.specs.declared.class.CharClass.TheVariants as class
use Rattle.gabc_notes.specs.declared.item.ItemKind.TheVariants as kind
use Rattle.gabc_notes.specs.declared.state.ItemState.{ItemState}
use Rattle.gabc_notes.specs.declared.state.ItemState.TheVariants as state
use Rattle.gabc_notes.specs.Table.{gabc}
use Rattle.gabc_notes.proofs.machine.MachineReadsTable.{machine, items_read}
use Rattle.gabc_notes.proofs.items_of_text.FirstItemIsFound.{best_found}
use Rattle.gabc_patterns.proofs.FirstItemByBytes.{ReadSoFar, begun_at, ends_at, stops_at, end_at}

-- what holds of the three classes of small pitches holds of their letters
small : (P : CharClass → Type 0) (c : ℕ) → 97 ≤ c → c ≤ 110 → (c ≡ 98 → P class.FlatB) → P class.ClefLetter → P class.Pitch → P (class_of_character c)
small P c low high f k p = grind (arith, ne_eqb)

-- what holds of each sign holds of any
pub by_sign : (P : ℕ → Type 0) → P 46 → P 95 → P 39 → (s : ℕ) → is_in s (codes "._'") ≡ true → P s
by_sign P dot line tick s h = grind arith

below : (s : ℕ) → is_in s (codes "._'") ≡ true → s < 128
below = by_sign (λ s. s < 128) (omega arith) (omega arith) (omega arith)

-- a sign brings a note there that stands here
abbrev TakesSigns : ItemState → Type 0
TakesSigns z = (s : ℕ) → is_in s (codes "._'") ≡ true → going_on z (class_of_character s) ≡ Some state.Body

-- a note begins that may end, that goes on with a sign, and that no pitch from `c` on goes on
pub record Begins (k : CharClass) : Type 0 where
  pub state : ItemState
  pub begun : begun_item k ≡ Some state
  pub ends : kind_at_end state ≡ Some kind.Note
  pub stops : (d : ℕ) → 99 ≤ d → d ≤ 110 → going_on state (class_of_character d) ≡ None
  pub signed : TakesSigns state

stops_pitch : (d : ℕ) → 99 ≤ d → d ≤ 110 → going_on state.Pitch (class_of_character d) ≡ None
stops_pitch d low high = small (λ k. going_on state.Pitch k ≡ None) d (omega arith) high (λ e. refl) refl refl

stops_clef : (d : ℕ) → 99 ≤ d → d ≤ 110 → going_on state.ClefPitch (class_of_character d) ≡ None
stops_clef d low high = small (λ k. going_on state.ClefPitch k ≡ None) d (omega arith) high (λ e. let bad : ⊥ = omega (arith, e, low) in absurd bad) refl refl

stops_body : (d : ℕ) → 99 ≤ d → d ≤ 110 → going_on state.Body (class_of_character d) ≡ None
stops_body d low high = small (λ k. going_on state.Body k ≡ None) d (omega arith) high (λ e. refl) refl refl

signed_pitch : TakesSigns state.Pitch
signed_pitch = by_sign (λ s. going_on state.Pitch (class_of_character s) ≡ Some state.Body) refl refl refl

signed_clef : TakesSigns state.ClefPitch
signed_clef = by_sign (λ s. going_on state.ClefPitch (class_of_character s) ≡ Some state.Body) refl refl refl

begins : (c : ℕ) → 97 ≤ c → c ≤ 110 → Begins (class_of_character c)
begins c low high = small Begins c low high
    (λ e. record { state = state.Pitch; begun = refl; ends = refl; stops = stops_pitch; signed = signed_pitch })
    (record { state = state.ClefPitch; begun = refl; ends = refl; stops = stops_clef; signed = signed_clef })
    (record { state = state.Pitch; begun = refl; ends = refl; stops = stops_pitch; signed = signed_pitch })

pub alone : (c : ℕ) → 97 ≤ c → c ≤ 110 → IsUtf8 (c ∷ []) → IsFirstItem (c ∷ []) kind.Note 1
alone c low high u =
    let b = begins c low high in
    let text : List ℕ = c ∷ [] in
    let one = ends_at gabc machine items_read text [] text [] state.Start b.state 0 1 c kind.Note None (begun_at gabc machine items_read text text refl u) (ap (λ (x : List ℕ). x ++ []) (sym (encode_ascii c (omega arith)))) b.begun b.ends (let n = len_utf8_ascii c (omega arith) in omega (arith, n)) in
    (best_found text (Some (kind.Note, 1)) u (end_at gabc machine items_read text (c ∷ []) [] b.state 1 (Some (kind.Note, 1)) one refl)).found

pub before_pitch : (c d : ℕ) (rest : List ℕ) → 97 ≤ c → c ≤ 110 → 99 ≤ d → d ≤ 110 → IsUtf8 (c ∷ d ∷ rest) → IsFirstItem (c ∷ d ∷ rest) kind.Note 1
before_pitch c d rest low high from to u =
    let b = begins c low high in
    let text : List ℕ = c ∷ d ∷ rest in
    let here : text ≡ encode c ++ (d ∷ rest) = ap (λ (x : List ℕ). x ++ (d ∷ rest)) (sym (encode_ascii c (omega arith))) in
    let next : d ∷ rest ≡ encode d ++ rest = ap (λ (x : List ℕ). x ++ rest) (sym (encode_ascii d (omega arith))) in
    let one = ends_at gabc machine items_read text [] text (d ∷ rest) state.Start b.state 0 1 c kind.Note None (begun_at gabc machine items_read text text refl u) here b.begun b.ends (let n = len_utf8_ascii c (omega arith) in omega (arith, n)) in
    (best_found text (Some (kind.Note, 1)) u (stops_at gabc machine items_read text (c ∷ []) (d ∷ rest) rest b.state 1 d (Some (kind.Note, 1)) one next (b.stops d from to))).found

pub alone_in : (t : List ℕ) → 1 ≤ length t → length t < 2 → (97 ≤ slice_index t 0) × (slice_index t 0 ≤ 110) → IsUtf8 t → IsFirstItem t kind.Note 1
alone_in [] some few h u = let bad : ⊥ = omega (arith, some) in absurd bad
alone_in (c ∷ []) some few h u = alone c h.0 h.1 u
alone_in (c ∷ d ∷ t) some few h u = let bad : ⊥ = omega (arith, few) in absurd bad

pub before_pitch_in : (t : List ℕ) → 2 ≤ length t → (97 ≤ slice_index t 0) × (slice_index t 0 ≤ 110) → (99 ≤ slice_index t 1) × (slice_index t 1 ≤ 110) → IsUtf8 t
    → IsFirstItem t kind.Note 1
before_pitch_in [] some h k u = let bad : ⊥ = omega (arith, some) in absurd bad
before_pitch_in (c ∷ []) some h k u = let bad : ⊥ = omega (arith, some) in absurd bad
before_pitch_in (c ∷ d ∷ t) some h k u = before_pitch c d t h.0 h.1 k.0 k.1 u

-- ---- with a sign

module _ (c s : ℕ) (low : 97 ≤ c) (high : c ≤ 110) (h : is_in s (codes "._'") ≡ true) where
  -- the pitch and the sign are read
  read_two : (rest : List ℕ) → IsUtf8 (c ∷ s ∷ rest) → ReadSoFar gabc machine (c ∷ s ∷ rest) (c ∷ s ∷ []) rest state.Body 2 (Some (kind.Note, 2))
  read_two rest u =
      let b = begins c low high in
      let text : List ℕ = c ∷ s ∷ rest in
      let here : text ≡ encode c ++ (s ∷ rest) = ap (λ (x : List ℕ). x ++ (s ∷ rest)) (sym (encode_ascii c (omega arith))) in
      let next : s ∷ rest ≡ encode s ++ rest = ap (λ (x : List ℕ). x ++ rest) (sym (encode_ascii s (below s h))) in
      let one = ends_at gabc machine items_read text [] text (s ∷ rest) state.Start b.state 0 1 c kind.Note None (begun_at gabc machine items_read text text refl u) here b.begun b.ends (let n = len_utf8_ascii c (omega arith) in omega (arith, n)) in
      ends_at gabc machine items_read text (c ∷ []) (s ∷ rest) rest b.state state.Body 1 2 s kind.Note (Some (kind.Note, 1)) one next (b.signed s h) refl (let n = len_utf8_ascii s (below s h) in omega (arith, n))

  pub signed_alone : IsUtf8 (c ∷ s ∷ []) → IsFirstItem (c ∷ s ∷ []) kind.Note 2
  signed_alone u =
      let text : List ℕ = c ∷ s ∷ [] in
      (best_found text (Some (kind.Note, 2)) u (end_at gabc machine items_read text text [] state.Body 2 (Some (kind.Note, 2)) (read_two [] u) refl)).found

  pub signed_before_pitch : (d : ℕ) (rest : List ℕ) → 99 ≤ d → d ≤ 110 → IsUtf8 (c ∷ s ∷ d ∷ rest) → IsFirstItem (c ∷ s ∷ d ∷ rest) kind.Note 2
  signed_before_pitch d rest from to u =
      let text : List ℕ = c ∷ s ∷ d ∷ rest in
      let next : d ∷ rest ≡ encode d ++ rest = ap (λ (x : List ℕ). x ++ rest) (sym (encode_ascii d (omega arith))) in
      (best_found text (Some (kind.Note, 2)) u (stops_at gabc machine items_read text (c ∷ s ∷ []) (d ∷ rest) rest state.Body 2 d (Some (kind.Note, 2)) (read_two (d ∷ rest) u) next (stops_body d from to))).found

pub signed_alone_in : (t : List ℕ) → 2 ≤ length t → length t < 3 → (97 ≤ slice_index t 0) × (slice_index t 0 ≤ 110) → is_in (slice_index t 1) (codes "._'") ≡ true → IsUtf8 t → IsFirstItem t kind.Note 2
signed_alone_in [] some few h s u = let bad : ⊥ = omega (arith, some) in absurd bad
signed_alone_in (c ∷ []) some few h s u = let bad : ⊥ = omega (arith, some) in absurd bad
signed_alone_in (c ∷ d ∷ []) some few h s u = signed_alone c d h.0 h.1 s u
signed_alone_in (c ∷ d ∷ e ∷ t) some few h s u = let bad : ⊥ = omega (arith, few) in absurd bad

pub signed_before_pitch_in : (t : List ℕ) → 3 ≤ length t → (97 ≤ slice_index t 0) × (slice_index t 0 ≤ 110) → is_in (slice_index t 1) (codes "._'") ≡ true → (99 ≤ slice_index t 2) × (slice_index t 2 ≤ 110)
    → IsUtf8 t → IsFirstItem t kind.Note 2
signed_before_pitch_in [] some h s k u = let bad : ⊥ = omega (arith, some) in absurd bad
signed_before_pitch_in (c ∷ []) some h s k u = let bad : ⊥ = omega (arith, some) in absurd bad
signed_before_pitch_in (c ∷ d ∷ []) some h s k u = let bad : ⊥ = omega (arith, some) in absurd bad
signed_before_pitch_in (c ∷ d ∷ e ∷ t) some h s k u = signed_before_pitch c d h.0 h.1 s e t k.0 k.1 u
